-- One entry further in a run, as the loops read it.
use Rattle.std.proofs.Common.{◌≡◌, ℕ, suc, ◌+◌, ◌-◌, ◌<◌, false, eqb, List, Ok, Result, sym, arith}
use Rattle.std.proofs.lemmas.Bool.{ne_eqb}
use Rattle.awd_block_fault.specs.Faults.{in_entry, on, turned}
use Rattle.awd_block_fault.proofs.Passed.{on-at, unturned}
use Rattle.awd_format.specs.Runs.{Reading, counted_at, filling_at}

-- on to the next entry from one that was read
further : {F G : Type 0} (turn : F → G) (r : Result ℕ F) (f : ℕ → Result ℕ G) (e : ℕ) → Ok e ≡ turned turn r → f e ≡ on turn r f
further turn r f e is = sym (on-at turn f r e (unturned turn r e (sym is)))

module _ (read : Reading) (B : List ℕ) (end : ℕ) where
  pub counted-ok : (n i at e : ℕ) → i < n → Ok e ≡ turned (in_entry i) (read i B at end) → counted_at read B end (n - (i + 1)) (i + 1) e ≡ counted_at read B end (n - i) i at
  counted-ok n i at e h is =
      let s : n - i ≡ suc (n - (i + 1)) = omega arith in
      rw s (further (in_entry i) (read i B at end) (counted_at read B end (n - (i + 1)) (i + 1)) e is)

  pub filling-ok : (turns i at e : ℕ) → at < end → i < turns → Ok e ≡ turned (in_entry i) (read i B at end) → filling_at read B end (turns - (i + 1)) (i + 1) e ≡ filling_at read B end (turns - i) i at
  filling-ok turns i at e lt h is =
      let s : turns - i ≡ suc (turns - (i + 1)) = omega arith in
      let ne : eqb at end ≡ false = ne_eqb at end (λ is. omega arith) in
      rw (s, ne) (further (in_entry i) (read i B at end) (filling_at read B end (turns - (i + 1)) (i + 1)) e is)
