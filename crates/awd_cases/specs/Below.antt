-- What a session may be made over. Assumes nothing.
use Rattle.std.specs.Prelude.{ℕ, List}
use Rattle.awd_source.specs.Bytes.{part}
use Rattle.awd_source.specs.Pages.{paged}
use Rattle.awd_cases.specs.declared.below.Below as below
use Rattle.awd_cases.specs.declared.below.Below.TheVariants.{Run, Window, Pages, Cut}

-- the bytes that it stands for
abbrev pub bytes_of : below.Below → List ℕ
bytes_of (Run r) = r.held.now
bytes_of (Window w) = part w.below.held.now w.start w.size
bytes_of (Pages p) = paged p.run.held.now p.list.now p.size
bytes_of (Cut w) = part (paged w.below.run.held.now w.below.list.now w.below.size) w.start w.size
