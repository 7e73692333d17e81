use Rattle.std.proofs.Common.{string_bytes, rules}
use Rattle.awdreplay.proofs.Agree.{agreed}
use Rattle.awdreplay.proofs.replicas.Replicas.make.Goals as goal
use Rattle.awdreplay.proofs.replicas.Replicas.make.Goals.{then-eq, else-eq}

pub returns-clause-told : goal.returns-clause-told
returns-clause-told c =
    record {
      second = string_bytes c.in_ok-paged.paged;
      third = string_bytes c.in_ok-nested.nested;
      first_told = (c.make.result, search rules, search rules);
      second_told = (c.make-2.result, search rules, search rules);
      third_told = (c.make-3.result, search rules, search rules);
      same = elim c.if-eq.branch [
        | then-eq w ↦ search rules
        | else-eq w ↦ search rules
      ];
    }

-- where the sessions are alike
pub returns-clause-agree : goal.returns-clause-agree
returns-clause-agree c = λ alike. agreed _ _ _ _ _ (returns-clause-told c) alike.0 alike.1
