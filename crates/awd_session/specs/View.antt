-- The value that a session stands for. Assumes nothing.
use Rattle.std.specs.Prelude.{is_some, length}
use Rattle.awd_source.specs.declared.source.Source.{Ghosts}
use Rattle.awd_session.specs.declared.session.Session.{Session}
use Rattle.awd_session.specs.State.{State}

abbrev pub view : {S : Type 0} {source : Ghosts S} → Session S source → State
view {S} {source} x = record { source = source.bytes x.source; opened = is_some x.header; taken = length x.roster; edits = x.edits }
