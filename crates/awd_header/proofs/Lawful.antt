-- A header is accepted exactly where the document is lawful, and else its first broken rule is told.
use Rattle.std.proofs.Common.{rules as std_rules, ◌≡◌, ℕ, Bool, true, false, cond, List, [], ◌∷◌, Ok, Err, Result, refl, ap, arith}
use Rattle.std.proofs.lemmas.Bool.Decides.{nat_tests}
use Rattle.awd_fault.specs.declared.Fault.{Fault}
use Rattle.awd_fault.specs.Faults.{Report, answer, report}
use Rattle.awd_header.specs.Header.{Rule, rule_fault, judged, rules, FirstBroken, Right}

-- a rule in front that is kept
behind : {rs : List Rule} {e : Report} (r : Rule) → r.kept ≡ true → FirstBroken rs e → FirstBroken (r ∷ rs) e
behind r k b =
    record {
      before = r ∷ b.before;
      broken = b.broken;
      after = b.after;
      all = ap (λ l. r ∷ l) b.all;
      kept = (k, b.kept);
      not_kept = b.not_kept;
      told = b.told;
    }

broken-first : (k : Bool) (r : Rule) (rs : List Rule) (e : Report) → r.kept ≡ k → (Err e ≡ judged rs → FirstBroken rs e) → Err e ≡ cond k (judged rs) (Err (rule_fault r)) → FirstBroken (r ∷ rs) e
broken-first true r rs e k next p = behind r k (next p)
broken-first false r rs e k next p =
    record { before = []; broken = r; after = rs; all = refl; kept = tt; not_kept = k; told = cc }

first-broken : (rs : List Rule) (e : Report) → Err e ≡ judged rs → FirstBroken rs e
first-broken [] e p = absurd cc
first-broken (r ∷ rs) e p = broken-first r.kept r rs e refl (first-broken rs e) p

-- a judgement is right
pub judged-right : (r : Result (Unit {0}) Fault) (b : List ℕ) → answer r ≡ judged (rules b) → Right b r
judged-right (Ok u) b e = record { lawful = grind (arith, nat_tests); first = tt }
judged-right (Err f) b e =
    record { lawful = λ l. search std_rules; first = first-broken (rules b) (report f) e }
