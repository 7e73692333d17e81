-- Steps that may fail, each passed with a value: what `?` and a test left.
use Rattle.std.proofs.Common.{◌≡◌, Bool, true, false, cond, Ok, Err, Result, refl, ap}
use Rattle.awd_block_fault.specs.Faults.{on, turned}

-- what goes on to a value had one to go on from
pub on-ok : {A C F G : Type 0} (turn : F → G) (r : Result A F) (next : A → Result C G) (w : C) → on turn r next ≡ Ok w → (a : A) × (r ≡ Ok a) × (next a ≡ Ok w)
on-ok turn (Ok a) next w is = (a, refl, is)
on-ok turn (Err x) next w is = absurd (cc is)

-- going on from what was read
pub on-at : {A C F G : Type 0} (turn : F → G) (next : A → Result C G) (r : Result A F) (a : A) → r ≡ Ok a → on turn r next ≡ next a
on-at turn next r a is = ap (λ s. on turn s next) is

-- turning a fault makes no value
pub unturned : {A F G : Type 0} (turn : F → G) (r : Result A F) (a : A) → turned turn r ≡ Ok a → r ≡ Ok a
unturned turn (Ok b) a is = ap Ok (cc is)
unturned turn (Err x) a is = absurd (cc is)

-- what was not refused was allowed
pub allowed-ok : {A F : Type 0} (b : Bool) (r : Result A F) (x : F) (a : A) → cond b r (Err x) ≡ Ok a → (b ≡ true) × (r ≡ Ok a)
allowed-ok true r x a is = (refl, is)
allowed-ok false r x a is = absurd (cc is)
