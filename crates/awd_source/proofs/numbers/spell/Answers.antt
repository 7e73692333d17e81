use Rattle.std.proofs.Common.{◌≡◌, suc, ◌+◌, ◌-◌, ◌*◌, ◌^◌, ◌<◌, length, get_or, arith}
use Rattle.std.proofs.lemmas.Bool.Decides.{nat_tests}
use Rattle.awd_source.proofs.Digits.{turn, below_more, room}
use Rattle.awd_source.proofs.numbers.spell.Goals as goal

pub overflow_mul-value : goal.overflow_mul-value
overflow_mul-value g c =
    let r = room _ c.loop-further.value (omega arith) c.loop-further.invariant.2 in
    omega arith

pub overflow_add-value : goal.overflow_add-value
overflow_add-value g c =
    let b : c.from.result < 256 = omega arith in
    let r = room _ c.loop-further.value (omega arith) c.loop-further.invariant.2 in
    omega arith

pub loop-further-preserved : goal.loop-further-preserved
loop-further-preserved g c =
    let B = g.S.Source.bytes c.args.source.now in
    let at = c.args.at in
    let size = c.args.size in
    let k = c.loop-further.further in
    let p = at + (k - 1) in
    let v = c.loop-further.value in
    let h : p < length B = omega arith in
    let b : c.from.result < 256 = omega arith in
    let e : c.from.result ≡ get_or B p 0 = grind (arith, nat_tests) in
    let s : size - (k - 1) ≡ suc (size - k) = omega arith in
    let t = turn B p (at + k) (size - k) v h (omega arith) c.loop-further.invariant.1 in
    let u : v * 256 + c.from.result < 256 ^ suc (size - k) = below_more (size - k) v c.from.result c.loop-further.invariant.2 b in
    (omega arith, rw s (omega (arith, t, e)), rw s u)
