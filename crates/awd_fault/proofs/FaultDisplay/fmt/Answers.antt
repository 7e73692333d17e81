use Rattle.std.proofs.Common.{append_assoc, refl, Ok}
use Rattle.std.proofs.Output.{writes_on_IsOk-append}
use Rattle.awd_fault.proofs.FaultDisplay.fmt.Goals as goal

pub returns-in-Some-clause-writes : goal.returns-in-Some-clause-writes
returns-in-Some-clause-writes g c =
    let both = writes_on_IsOk-append _ _ _ _ (Ok tt) _ _ _ (λ _. refl) c.in_ok-write.ensures.writes c.write-in-Some.ensures.writes in
    rw c.in-Some.is (simp append_assoc (simp (append_assoc, c.number.ensures.value, c.number-2.ensures.value) at both))

pub returns-in-None-clause-writes : goal.returns-in-None-clause-writes
returns-in-None-clause-writes g c =
    let both = writes_on_IsOk-append _ _ _ _ (Ok tt) _ _ _ (λ _. refl) c.in_ok-write.ensures.writes c.write-in-None.ensures.writes in
    rw c.in-None.is (simp append_assoc (simp (append_assoc, c.number.ensures.value, c.number-2.ensures.value) at both))
