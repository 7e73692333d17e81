-- That what is written of an input is its listing.
use Rattle.std.proofs.Common.{◌≡◌, ℕ, ◌++◌, List, [], take, Some, None, Option, IfSome, ap, subst, ◌∙◌}
use Rattle.std.specs.Option.{option_map}
use Rattle.std.specs.Io.KnownBytes.{Appends}
use Rattle.awd_listing.specs.Listing.{listing_of}
use Rattle.awd_listing.proofs.Cut.{cut_listed}

-- what was read of known bytes, and its listing, which was written
pub listed : (known left old new : Option (List ℕ)) (none read text : List ℕ) → left ≡ option_map (take 65537) known
    → IfSome left (λ xs. read ≡ none ++ xs) → none ≡ [] → text ≡ listing_of read → Appends old new text → IfSome known (λ bs. Appends old new (listing_of bs))
listed None left old new none read text cut is empty told written = tt
listed (Some bs) left old new none read text cut is empty told written =
    let whole : read ≡ none ++ take 65537 bs = subst (λ l. IfSome l (λ xs. read ≡ none ++ xs)) cut is in
    subst (Appends old new) (told ∙ ap listing_of (whole ∙ ap (λ l. l ++ take 65537 bs) empty) ∙ cut_listed bs) written
