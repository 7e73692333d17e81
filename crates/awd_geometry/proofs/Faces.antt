-- What is wrong with faces, by their indices in a window on the run.
use Rattle.std.proofs.Common.{◌≡◌, ℕ, ◌+◌, ◌<◌, min, List, length, Some, None, Option, refl, ap, ◌∙◌, subst, arith}
use Rattle.std.specs.Option.{option_map}
use Rattle.awd_fault.specs.declared.Cause.TheVariants.{IndexTooLarge}
use Rattle.awd_source.specs.Bytes.{part}
use Rattle.awd_source.specs.Numbers.{first_not_below}
use Rattle.awd_block_fault.specs.Faults.{fault}
use Rattle.awd_geometry.specs.Flaws.{Inside, size_at, first, index_not_below, vertex_count, faces_flaw}
use Rattle.awd_geometry.proofs.Places.{part_cut, inside-part}

-- indices W that are the content of the stream at f, which begins at a place
pub found_is : (m W : List ℕ) (limit f at : ℕ) → at ≡ min (f + 6) (length m) → W ≡ part m at (size_at m f)
    → (o : Option ℕ) → Inside W o → o ≡ first_not_below limit W → option_map (λ p. at + p) o ≡ index_not_below limit m f
found_is m W limit f at is window o inside e = same o inside ∙ ap (option_map (λ p. f + 6 + p)) (e ∙ ap (first_not_below limit) (window ∙ part_cut m (f + 6) at (size_at m f) is))
  where
    same : (o : Option ℕ) → Inside W o → option_map (λ p. at + p) o ≡ option_map (λ p. f + 6 + p) o
    same None inside = refl
    same (Some p) inside =
        let lt = inside-part m at (size_at m f) p (subst (λ x. p < length x) window inside) in
        let s : at + p ≡ f + 6 + p = omega (arith, is, lt) in
        ap Some s

-- faces and vertices were found, and then the first index that is too large, or none
pub judged : (m : List ℕ) (width f v count : ℕ) → Some f ≡ first m 2 → Some v ≡ first m 1 → count ≡ vertex_count width m v
    → (o : Option ℕ) → o ≡ index_not_below count m f → option_map (fault IndexTooLarge) o ≡ faces_flaw width m (first m 2) (first m 1)
judged m width f v count faces vertices is o e =
    ap (option_map (fault IndexTooLarge)) (e ∙ ap (λ n. index_not_below n m f) is)
    ∙ ap (λ x. faces_flaw width m x (Some v)) faces ∙ ap (faces_flaw width m (first m 2)) vertices
