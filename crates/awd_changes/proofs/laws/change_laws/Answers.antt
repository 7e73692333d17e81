use Rattle.awd_changes.proofs.Exact.{change_exact}
use Rattle.awd_changes.proofs.Laid.{lies, change_kept}
use Rattle.awd_changes.proofs.Stay.{lie_laid}
use Rattle.awd_changes.proofs.Without.{one_of}
use Rattle.awd_changes.proofs.Apart.{edits_apart}
use Rattle.awd_changes.proofs.laws.change_laws.Goals as goal

pub returns : goal.returns
returns c =
    record {
      exact = λ B n w k r f p read found place vs wide. change_exact B n w k r f p read found place vs wide;
      kept = change_kept;
      moves_none = λ B n w e d read may. lie_laid B n w e read (lies B n w e read may) d;
      without_one = λ B later e es n is. (one_of B later e es n is).1;
      apart = λ B n w d e read may-d may-e. edits_apart B n w read d e (lies B n w d read may-d) (lies B n w e read may-e);
    }
