use Rattle.std.proofs.Common.{rules}
use Rattle.awd_roster.proofs.FirstBlocks.{noted_push, persistent_more}
use Rattle.awd_roster.proofs.roster.Roster.add.Goals as goal

pub invariant_of-self-then-record-ne0 : goal.invariant_of-self-then-record-ne0
invariant_of-self-then-record-ne0 c =
    (persistent_more c.self.inside.records.items c.try_push.new.self.items c.args.record c.self.inside.next_id c.self.invariant.0 (search rules) c.if-record-ne0.true, search (noted_push, rules))
