-- Worked examples of opening a document. Assumes nothing.
use Rattle.std.specs.Prelude.{◌≡◌, ℕ, List, [], ◌++◌, take, replicate, Ok, Err, codes}
use Rattle.awd_fault.specs.Faults.{in_header}
use Rattle.awd_header.specs.Header.{opening}
use Rattle.awd_header.specs.Widths.{Sizes, widths_of}
use Rattle.awd_examples.specs.Layout.{header, sound_header}
use Rattle.awd_examples.specs.Parts.{Parts}
use Rattle.awd_examples.specs.Documents.{Documents}
use Rattle.awd_examples.specs.Edits.{Edits}

-- 176 bytes, by their flags and body length
abbrev pub long : ℕ → ℕ → List ℕ
long flags body = sound_header flags body ++ replicate 164 0

abbrev pub opens : List ℕ → ℕ → ℕ → ℕ → Type 0
opens b version revision flags = opening b ≡ Ok (record { version = version; revision = revision; flags = flags })

abbrev pub refused : List ℕ → ℕ → ℕ → Type 0
refused b cause place = opening b ≡ Err (in_header cause place)

abbrev pub widths : ℕ → ℕ → ℕ → Sizes
widths matrix geometry property = record { matrix = matrix; geometry = geometry; property = property }

pub record Examples : Type 0 where
  pub sound : opens (sound_header 0 0) 2 1 0
  pub revision_0 : opens (header (codes "AWD") 2 0 0 0 0) 2 0 0
  pub empty : refused [] 2 0
  pub eleven_bytes : refused (take 11 (sound_header 0 0)) 2 11
  pub awe : refused (header (codes "AWE") 2 1 0 0 0) 4 2
  pub bwe : refused (header (codes "BWE") 2 1 0 0 0) 4 0
  pub version_3 : refused (header (codes "AWD") 3 1 0 0 0) 5 3
  pub revision_2 : refused (header (codes "AWD") 2 2 0 0 0) 5 4
  pub compression_1 : refused (header (codes "AWD") 2 1 0 1 0) 6 7
  pub body_164 : opens (long 0 164) 2 1 0
  pub body_163 : refused (long 0 163) 7 8
  pub body_163_streaming : opens (long 1 163) 2 1 1
  pub widths_of_document : widths_of 2 255 ≡ widths 8 4 4
  pub widths_of_block : widths_of 30 5 ≡ widths 8 4 8
  -- and of parts of a document, of whole ones, and of edits
  pub parts : Parts
  pub documents : Documents
  pub edits : Edits
