-- A session over a session over a window over pages. Assumes nothing.
use Rattle.std.specs.Prelude.{ℕ, List, Result, Ok, Err}
use Rattle.awd_fault.specs.Faults.{Report}
use Rattle.awd_source.specs.Bytes.{part}
use Rattle.awd_source.specs.Pages.{paged}
use Rattle.awd_session.specs.State.{State, fresh, bytes_of}
use Rattle.awd_codes.specs.declared.calls.AwdCall.{AwdCall}
use Rattle.awd_codes.specs.Runs.{led}

-- the session below, over what a window shows of the pages, after its calls
abbrev pub below : List ℕ → List ℕ → ℕ → ℕ → ℕ → List AwdCall → State
below run pages size start shown lower = led (fresh (part (paged run pages size) start shown)) lower

-- the session on top, over the bytes of the one below, as it was made
abbrev pub on_top : List ℕ → List ℕ → ℕ → ℕ → ℕ → List AwdCall → State
on_top run pages size start shown lower = fresh (bytes_of (below run pages size start shown lower))

-- something new where the pages are accepted; else what was there
abbrev pub if_filled : {A : Type 0} → Result (Unit {0}) Report → A → A → A
if_filled (Ok x) new before = new
if_filled (Err f) new before = before
