use Rattle.std.proofs.Common.{◌≡◌, ℕ, ◌-◌, ◌*◌, ◌/◌, ◌<◌, ◌++◌, List, length, take, drop, length-drop, refl, rules, arith}
use Rattle.std.proofs.lemmas.List.{length-take}
use Rattle.std.specs.Prelude.{replicate}
use Rattle.awdreplay.proofs.Shown.{page_stored}
use Rattle.awdreplay.proofs.copies.shuffle.Goals as goal

pub loop-rest-preserved : goal.loop-rest-preserved
loop-rest-preserved c =
    let rest = c.loop-rest.rest.now in
    let before = c.split_at.result.0.now in
    let p = c.split_at.result.1.now in
    let page : List ℕ = replicate 512 165 in
    let filler = take (512 - length p) (drop (length p) page) in
    let cut : rest ≡ before ++ p = c.split_at.ensures.by_index.0 in
    let at : length before ≡ (length rest - 1) / 512 * 512 = c.split_at.ensures.front_len in
    let more : 0 < length rest = grind (arith, c.is_empty.ensures, c.loop-rest-test.true) in
    let some : 0 < length p = omega (arith, more, at, c.split_at.ensures.back_len) in
    let is-long : length page ≡ 512 = refl in
    let fill : length filler ≡ 512 - length p =
    omega (arith, length-take (512 - length p) (drop (length p) page), length-drop (length p) page, is-long) in
    let added : c.extend_from_slice.new.self.items ≡ c.loop-rest.stored.items ++ p = search rules in
    let filled : c.extend_from_slice-in-loop-rest.new.self.items ≡ c.extend_from_slice.new.self.items ++ filler = search rules in
    page_stored c.args.document.now rest c.loop-rest.stored.items before p filler c.extend_from_slice-in-loop-rest.new.self.items c.loop-rest.invariant cut some at fill (rw added at filled)
