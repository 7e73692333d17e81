-- What a holder holds. Assumes nothing.
use Rattle.std.specs.Prelude.{◌≡◌, ℕ, ◌<◌, ◌≤◌, List, Result, IfOk}
use Rattle.awd_source.specs.declared.source.Source.{Ghosts}
use Rattle.awd_source.specs.declared.holder.Holder.{Holder}

-- the bytes of its source; those behind its end are there too, and no field that fits it reaches them
abbrev pub held : {S : Type 0} {source : Ghosts S} → Holder S source → List ℕ
held {S} {source} h = source.bytes h.source.now

-- a reading that gives a place gives this one, and it lies in the holder
abbrev pub Ends : {F : Type 0} → ℕ → ℕ → Result ℕ F → Type 0
Ends place end r = IfOk r (λ e. (e ≡ place) × (e ≤ end))

-- a reading that gives a place gives one further on, and it lies in the holder
abbrev pub Further : {F : Type 0} → ℕ → ℕ → Result ℕ F → Type 0
Further at end r = IfOk r (λ e. (at < e) × (e ≤ end))
