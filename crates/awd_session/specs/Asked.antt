-- A session that is asked for one block after another. Assumes nothing.
use Rattle.std.specs.Prelude.{ℕ, zero, suc}
use Rattle.awd_session.specs.State.{State, after_next}

-- a session that was asked for so many blocks
unfoldable pub asked : ℕ → State → State
asked zero s = s
asked (suc n) s = asked n (after_next s)
