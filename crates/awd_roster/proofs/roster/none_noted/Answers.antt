use Rattle.std.proofs.lemmas.List.{get_or-replicate}
use Rattle.awd_roster.proofs.roster.none_noted.Goals as goal

pub returns : goal.returns
returns c k h = get_or-replicate _ k 0 0 h
