-- No run of a body has an empty entry, whatever the header says of it.
use Rattle.std.proofs.Common.{ℕ, eqb, List}
use Rattle.std.proofs.lemmas.Bool.{cond_both}
use Rattle.awd_format.specs.Shapes.{Filled}
use Rattle.awd_header.specs.Widths.{Sizes}
use Rattle.awd_roster.specs.declared.record.Record.{Record}
use Rattle.awd_bodies.specs.Filled.{container-filled, mesh-filled, light-filled, picker-filled, geometry-filled, skeleton-filled}
use Rattle.awd_blocks.specs.Heads.{block_header}
use Rattle.awd_blocks.specs.Blocks.{kind_body, body_of}

pub header-filled : (before : List Record) → Filled (block_header before)
header-filled before = λ id namespace kind flags size. tt

kind-filled : (before : List Record) (w : Sizes) (kind size : ℕ) → Filled (kind_body before w kind size)
unfolding kind_body
kind-filled before w kind size =
    cond_both (eqb kind 22) _ _ Filled (λ _. container-filled before w.matrix) (λ _.
    cond_both (eqb kind 23) _ _ Filled (λ _. mesh-filled before w.matrix) (λ _.
    cond_both (eqb kind 41) _ _ Filled (λ _. light-filled before w.matrix) (λ _.
    cond_both (eqb kind 51) _ _ Filled (λ _. picker-filled before) (λ _.
    cond_both (eqb kind 1) _ _ Filled (λ _. geometry-filled w.geometry) (λ _.
    cond_both (eqb kind 101) _ _ Filled (λ _. skeleton-filled w.matrix) (λ _. tt))))))

pub body-filled : (before : List Record) (w : Sizes) (namespace kind size : ℕ) → Filled (body_of before w namespace kind size)
unfolding body_of
body-filled before w namespace kind size = cond_both (eqb namespace 0) _ _ Filled (λ _. kind-filled before w kind size) (λ _. tt)
