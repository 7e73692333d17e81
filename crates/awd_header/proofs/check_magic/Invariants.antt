use Rattle.std.proofs.Common.{◌≡◌, drop, codes}
use Rattle.awd_header.specs.Header.{judged, spelled, magic_rules}
use Rattle.awd_header.proofs.check_magic.Given as goal

abbrev pub invariant-loop-i : goal.invariant-loop-i
invariant-loop-i g l =
    let b = g.S.Source.bytes l.source in
    judged (magic_rules b) ≡ judged (spelled b l.i (drop l.i (codes "AWD")))
