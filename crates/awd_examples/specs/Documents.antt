-- Worked examples of whole documents: their listings, their faults, and what a session tells of their blocks. Assumes nothing.
use Rattle.std.specs.Prelude.{◌≡◌, ℕ, true, List, [], ◌∷◌, ◌++◌, length, replicate, Some, None, Option, Ok, Err, codes, flat_map, from_bits}
use Rattle.std.specs.Float.{binary32, binary64}
use Rattle.awd_fault.specs.Faults.{of_call}
use Rattle.awd_roster.specs.declared.record.Record.{Record}
use Rattle.awd_blocks.specs.Lists.{walk, read_blocks}
use Rattle.awd_session.specs.State.{State, fresh, after_open, next_answer, after_next, end_of, record_answer, number_answer, path_answer, material_answer, cell_answer}
use Rattle.awd_listing.specs.Listing.{listing_of, newline}
use Rattle.awd_examples.specs.Layout.{header, sound_header, kitchen_of, kitchen, carried, modelled, lit, foreign, own_widths}

-- an open session that has taken so many blocks of a document, with no edit over it
abbrev pub after : List ℕ → ℕ → State
after b taken = record { source = b; opened = true; taken = taken; edits = [] }

-- it takes one block more
abbrev pub takes : List ℕ → ℕ → Type 0
takes b taken = next_answer (after b taken) ≡ Ok (Some taken)

-- or refuses it, with a cause, a place, a layer and an index
abbrev pub refuses : List ℕ → ℕ → ℕ → ℕ → ℕ → Option ℕ → Type 0
refuses b taken cause place layer index =
    next_answer (after b taken) ≡ Err (record { cause = cause; place = place; block = taken; layer = layer; index = index })

-- a listing by its lines
abbrev pub lists : List ℕ → List (List ℕ) → Type 0
lists b lines = listing_of b ≡ flat_map (λ line. line ++ newline) lines

-- the lines of the kitchen behind its first
abbrev pub kitchen_lines : List (List ℕ)
kitchen_lines = codes "0 1 0 11 12 0 -" ∷ codes "1 2 0 22 23 63 0" ∷ codes "2 3 0 23 97 68 2" ∷ codes "end 3" ∷ []

-- what the kitchen's container tells
abbrev pub container_record : Record
container_record =
    record { id = 2; namespace = 0; kind = 22; place = 23; size = 63; parent = Some 0; name = Some (record { place = 88; length = 1 }) }

-- what its mesh tells, whose name is there without a byte
abbrev pub mesh_record : Record
mesh_record =
    record { id = 3; namespace = 0; kind = 23; place = 97; size = 68; parent = Some 2; name = Some (record { place = 162; length = 0 }) }

-- a block of another namespace tells no parent and no name
abbrev pub foreign_record : Record
foreign_record = record { id = 1; namespace = 1; kind = 22; place = 12; size = 0; parent = None; name = None }

-- what the mesh tells that has a name and materials
abbrev pub lamp_record : Record
lamp_record =
    record { id = 3; namespace = 0; kind = 23; place = 34; size = 128; parent = Some 0; name = Some (record { place = 147; length = 4 }) }

pub record Documents : Type 0 where
  pub bytes_176 : length kitchen ≡ 176
  pub listed : lists kitchen (codes "AWD 2.1 flags 0 length 176" ∷ kitchen_lines)
  -- 65,536 bytes are judged, one more is not
  pub bytes_65536 : lists (replicate 65536 0) (codes "fault 4 0 0" ∷ [])
  pub bytes_65537 : lists (replicate 65537 0) (codes "input over 65536" ∷ [])
  pub empty : lists [] (codes "fault 2 0 0" ∷ [])
  pub awe : lists (header (codes "AWE") 2 1 0 0 0) (codes "fault 4 2 0" ∷ [])
  pub no_blocks : lists (sound_header 0 0) (codes "AWD 2.1 flags 0 length 12" ∷ codes "end 0" ∷ [])
  pub no_block : next_answer (after_open (fresh (sound_header 0 0))) ≡ Ok None
  -- a body length one short, and the same where it is left open
  pub body_163 : lists (kitchen_of 0 163 63 2) (codes "fault 7 8 0" ∷ [])
  pub streaming : lists (kitchen_of 1 163 63 2) (codes "AWD 2.1 flags 1 length 176" ∷ kitchen_lines)
  -- the container states a byte more than its fields fill, and one less
  pub size_64 : lists (kitchen_of 0 164 64 2) (codes "AWD 2.1 flags 0 length 176" ∷ codes "0 1 0 11 12 0 -" ∷ codes "fault 15 97 1" ∷ [])
  pub bytes_left_over : refuses (kitchen_of 0 164 64 2) 1 15 97 1 None
  pub size_62 : refuses (kitchen_of 0 164 62 2) 1 10 93 2 None
  -- a mesh that is its own parent
  pub own_parent : refuses (kitchen_of 0 164 63 3) 2 14 108 2 None
  pub vertex_2 : takes (modelled 2) 0
  pub vertex_3 : refuses (modelled 3) 0 16 91 3 (Some 0)
  -- a temporary block is listed, and does not count for the IDs
  pub temporary : lists
      (carried 2 0)
      (codes "AWD 2.1 flags 0 length 45" ∷ codes "0 1 0 11 12 0 -" ∷ codes "1 0 0 11 23 0 -" ∷ codes "2 2 0 11 34 0 -" ∷ codes "end 3" ∷ [])
  pub id_3 : refuses (carried 3 0) 2 11 34 1 None
  pub compressed : refuses (carried 2 8) 2 12 40 1 None
  pub not_open : next_answer (fresh kitchen) ≡ Err (of_call 8 0 0)
  -- 513 temporary blocks without bodies
  pub too_many : refuses (sound_header 1 0 ++ replicate 5643 0) 512 9 5644 4 None
  -- a session of the kitchen, block by block
  pub opened : after_open (fresh kitchen) ≡ after kitchen 0
  pub one : after_next (after kitchen 0) ≡ after kitchen 1
  pub two : after_next (after kitchen 1) ≡ after kitchen 2
  pub three : after_next (after kitchen 2) ≡ after kitchen 3
  pub no_more : next_answer (after kitchen 3) ≡ Ok None
  pub and_stays : after_next (after kitchen 3) ≡ after kitchen 3
  pub end_at_176 : end_of (after kitchen 3) ≡ 176
  pub all_read : read_blocks kitchen 3 ≡ Ok (walk kitchen 3)
  -- and what it tells then
  pub told : record_answer (after kitchen 3) 1 ≡ Some container_record
  pub unnamed : record_answer (after kitchen 3) 2 ≡ Some mesh_record
  pub record_3 : record_answer (after kitchen 3) 3 ≡ None
  pub id_2 : number_answer (after kitchen 3) 2 ≡ Some 1
  pub id_0 : number_answer (after kitchen 3) 0 ≡ None
  pub id_9 : number_answer (after kitchen 3) 9 ≡ None
  pub path_of_mesh : path_answer (after kitchen 3) 2 ≡ Some 1
  pub path_of_container : path_answer (after kitchen 3) 1 ≡ Some 0
  pub path_of_carried : path_answer (after kitchen 3) 0 ≡ None
  pub path_of_none : path_answer (after kitchen 3) 3 ≡ None
  pub material_0 : material_answer (after kitchen 3) 2 0 ≡ None
  pub cell_0 : cell_answer (after kitchen 3) 1 0 ≡ Some (1, from_bits binary32 0)
  pub cell_12 : cell_answer (after kitchen 3) 1 12 ≡ None
  pub cell_of_carried : cell_answer (after kitchen 3) 0 0 ≡ None
  -- cells of 8 bytes, and materials
  pub lamp : record_answer (after (lit 0) 3) 2 ≡ Some lamp_record
  pub cell_1 : cell_answer (after (lit 0) 3) 2 1 ≡ Some (2, from_bits binary64 4607182418800017408)
  pub material_2 : material_answer (after (lit 0) 3) 2 0 ≡ Some 2
  pub no_material : material_answer (after (lit 0) 3) 2 1 ≡ Some 0
  pub material_behind : material_answer (after (lit 0) 3) 2 2 ≡ None
  pub lamp_taken : takes (lit 0) 2
  -- the second of the materials is no material
  pub primitive_as_material : refuses (lit 1) 2 14 161 3 (Some 1)
  -- a block of another namespace, and one with widths of its own
  pub foreign_taken : takes foreign 0
  pub foreign_told : record_answer (after foreign 1) 0 ≡ Some foreign_record
  pub own_widths_taken : takes own_widths 0
  pub own_cell : cell_answer (after own_widths 1) 0 0 ≡ Some (2, from_bits binary64 0)
