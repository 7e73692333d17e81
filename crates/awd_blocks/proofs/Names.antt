-- A body that was read has its name inside.
use Rattle.std.proofs.Common.{◌≡◌, ℕ, zero, suc, ◌+◌, ◌*◌, ◌≤◌, eqb, List, length, true, Ok, IfSome, sym, ap, subst, arith, length-append}
use Rattle.std.proofs.lemmas.Bool.{cond_both, eqb-true}
use Rattle.std.proofs.lemmas.Option.{IfSome_then}
use Rattle.awd_format.specs.Sets.{Then, Reads}
use Rattle.awd_format.specs.Shapes.{Shape, SetOf, read_of, text}
use Rattle.awd_format.proofs.ShapeLaws.{shape-reads}
use Rattle.awd_header.specs.Widths.{Sizes}
use Rattle.awd_roster.specs.declared.record.Record.{Record}
use Rattle.awd_bodies.specs.Fields.{numbers}
use Rattle.awd_bodies.specs.Scene.{scene_head, container, mesh, light, picker}
use Rattle.awd_bodies.specs.Groups.{geometry}
use Rattle.awd_bodies.specs.Skeletons.{skeleton}
use Rattle.awd_blocks.specs.Blocks.{kind_body, body_of}
use Rattle.awd_blocks.specs.Records.{name_in}
use Rattle.awd_blocks.proofs.Bodies.{body-filled}

-- members of a set have so many bytes at least
abbrev Least : (List ℕ → Type 0) → ℕ → Type 0
Least P n = (bs : List ℕ) → P bs → n ≤ length bs

then-least : (P : List ℕ → Type 0) (Q : List ℕ → List ℕ → Type 0) (n k : ℕ) → Least P n → ((m t : List ℕ) → Q m t → k ≤ length t) → Least (Then P Q) (n + k)
then-least P Q n k p q bs (m, t, is, x, y) = omega (arith, ap length is, length-append m t, p m x, q m t y)

wide-least : (n : ℕ) → Least (λ m. length m ≡ n) n
wide-least n bs is = omega (arith, is)

numbers-least : (n width : ℕ) → Least (SetOf (numbers n width)) (n * width)
unfolding numbers
numbers-least zero width bs p = omega arith
numbers-least (suc n) width bs p =
    let k = then-least (λ m. length m ≡ width) _ width (n * width) (wide-least width) (λ _ t y. numbers-least n width t y.1) bs p in
    omega (arith, k)

text-least : Least (SetOf text) 2
text-least bs p = then-least (λ m. length m ≡ 2) _ 2 0 (wide-least 2) (λ _ t y. omega arith) bs p

head-least : (before : List Record) (width : ℕ) → Least (SetOf (scene_head before width)) (4 + (12 * width + 2))
head-least before width =
    then-least _ _ 4 (12 * width + 2) (λ bs p. omega (arith, then-least (λ m. length m ≡ 4) _ 4 0 (wide-least 4) (λ _ t y. omega arith) bs p))
    (λ _. then-least _ _ (12 * width) 2 (numbers-least 12 width) (λ _. text-least))

-- a name and its length are in the bytes of a body, if there is one
abbrev Named : ℕ → ℕ → ℕ → Shape → Type 0
Named namespace kind width L =
    (body : ℕ) (bs : List ℕ) → SetOf L bs → IfSome (name_in namespace kind width body) (λ q. q + 2 ≤ body + length bs)

-- what holds at a number holds at one that equals it
pub at-number : (P : ℕ → Type 0) (kind n : ℕ) → eqb kind n ≡ true → P n → P kind
at-number P kind n is p = subst P (sym (eqb-true kind n is)) p

headed : (before : List Record) (width : ℕ) (Q : List ℕ → List ℕ → Type 0) (body : ℕ) (bs : List ℕ) → Then (SetOf (scene_head before width)) Q bs → body + 4 + 12 * width + 2 ≤ body + length bs
headed before width Q body bs p =
    omega (arith, then-least (SetOf (scene_head before width)) Q (4 + (12 * width + 2)) 0 (head-least before width) (λ _ t y. omega arith) bs p)

named-first : (Q : List ℕ → List ℕ → Type 0) (body : ℕ) (bs : List ℕ) → Then (SetOf text) Q bs → body + 2 ≤ body + length bs
named-first Q body bs p = omega (arith, then-least (SetOf text) Q 2 0 text-least (λ _ t y. omega arith) bs p)

kind-named : (before : List Record) (w : Sizes) (kind size : ℕ) → Named 0 kind w.matrix (kind_body before w kind size)
unfolding kind_body
kind-named before w kind size =
    cond_both (eqb kind 22) _ _ (Named 0 kind w.matrix) (λ yes. at-number (λ k. Named 0 k w.matrix (container before w.matrix)) kind 22 yes (headed before w.matrix _)) (λ n1.
    cond_both (eqb kind 23) _ _ (Named 0 kind w.matrix) (λ yes. at-number (λ k. Named 0 k w.matrix (mesh before w.matrix)) kind 23 yes (headed before w.matrix _)) (λ n2.
    cond_both (eqb kind 41) _ _ (Named 0 kind w.matrix) (λ yes. at-number (λ k. Named 0 k w.matrix (light before w.matrix)) kind 41 yes (headed before w.matrix _)) (λ n3.
    cond_both (eqb kind 51) _ _ (Named 0 kind w.matrix) (λ yes. at-number (λ k. Named 0 k w.matrix (picker before)) kind 51 yes (named-first _)) (λ n4.
    cond_both (eqb kind 1) _ _ (Named 0 kind w.matrix) (λ yes. at-number (λ k. Named 0 k w.matrix (geometry w.geometry)) kind 1 yes (named-first _)) (λ n5.
    cond_both (eqb kind 101) _ _ (Named 0 kind w.matrix) (λ yes. at-number (λ k. Named 0 k w.matrix (skeleton w.matrix)) kind 101 yes (named-first _)) (λ n6 body bs p.
    rw (n1, n2, n3, n4, n5, n6) tt))))))

body-named : (before : List Record) (w : Sizes) (namespace kind size : ℕ) → Named namespace kind w.matrix (body_of before w namespace kind size)
unfolding body_of
body-named before w namespace kind size =
    cond_both (eqb namespace 0) _ _ (Named namespace kind w.matrix)
    (λ yes. at-number (λ k. Named k kind w.matrix (kind_body before w kind size)) namespace 0 yes (kind-named before w kind size))
    (λ no' body bs p. rw (no') tt)

-- a body that was read reaches behind the length of its name
pub name_inside : (before : List Record) (w : Sizes) (namespace kind size : ℕ) (B : List ℕ) (body end e : ℕ) → body ≤ end → end ≤ length B
    → Ok e ≡ read_of (body_of before w namespace kind size) B body end → IfSome (name_in namespace kind w.matrix body) (λ q. q + 2 ≤ end)
name_inside before w namespace kind size B body end e h l is =
    let L = body_of before w namespace kind size in
    let (m, to, p, s) = subst (Reads (SetOf L) B body end) (sym is) (shape-reads L (body-filled before w namespace kind size) B body end h l) in
    IfSome_then (name_in namespace kind w.matrix body) (body-named before w namespace kind size body m p) (λ q k. omega (arith, k, s.fits))
