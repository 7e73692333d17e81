-- The laws of blocks and of lists of them, as one record. Assumes nothing.
use Rattle.std.specs.Prelude.{◌≡◌, ℕ, ◌+◌, ◌≤◌, List, [], length, true, Ok, IfErr}
use Rattle.awd_format.specs.Sets.{NoneBegins, Reads, in_row}
use Rattle.awd_roster.specs.declared.record.Record.{Record}
use Rattle.awd_blocks.specs.Heads.{namespace_at, kind_at, size_at, body_at}
use Rattle.awd_blocks.specs.Blocks.{LawfulBlock, BlockFaultOf, block_at}
use Rattle.awd_blocks.specs.Records.{has_head, begins_named, matrix_width, record_at}
use Rattle.awd_blocks.specs.Told.{HeadTold, NameTold}
use Rattle.awd_blocks.specs.Lists.{and_at, Holds, told_from, HoldsOne, Walk, walk, read_blocks}

pub record BlockLaws : Type 0 where
  -- reading succeeds exactly where a lawful block stands, and tells the place behind it
  pub exact : (flags : ℕ) (before : List Record) (B : List ℕ) (at : ℕ) → at ≤ length B → Reads (LawfulBlock flags before) B at (length B) (block_at flags before B at)
  -- else it tells the first fault
  pub first : (flags : ℕ) (before : List Record) (B : List ℕ) (at : ℕ) → at ≤ length B → IfErr (block_at flags before B at) (λ x. BlockFaultOf flags before B at x)
  -- what a block that was read tells of its parent and its name is where its body's shape has them
  pub head_told : (flags : ℕ) (before : List Record) (B : List ℕ) (at e : ℕ) → block_at flags before B at ≡ Ok e → has_head (namespace_at B at) (kind_at B at) ≡ true
      → HeadTold before (matrix_width flags B at) B (body_at at) e (record_at flags B at)
  pub name_told : (flags : ℕ) (before : List Record) (B : List ℕ) (at e : ℕ) → block_at flags before B at ≡ Ok e → begins_named (namespace_at B at) (kind_at B at) ≡ true
      → NameTold B (body_at at) e (record_at flags B at)
  -- no lawful block begins another, and none is empty
  pub prefix_free : (flags : ℕ) (before : List Record) → NoneBegins (LawfulBlock flags before)
  pub filled : (flags : ℕ) (before : List Record) → LawfulBlock flags before [] → ⊥
  -- bytes hold at most one list of so many lawful blocks
  pub only_one : (B : List ℕ) (ms ns : List (List ℕ)) → length ms ≡ length ns → Holds B ms → Holds B ns → ms ≡ ns
  -- the blocks that are walked over are those that are held
  pub walked : (B : List ℕ) (ms : List (List ℕ)) → Holds B ms → (walk B (length ms)).end ≡ 12 + length (in_row ms)
  -- and each record is what the block tells that begins at its place
  pub told : (B : List ℕ) (ms : List (List ℕ)) → Holds B ms → (walk B (length ms)).records ≡ told_from B 12 ms
  -- blocks that are read one after another are those that are held
  pub read : (B : List ℕ) (n : ℕ) (w : Walk) → read_blocks B n ≡ Ok w → HoldsOne B n × (w ≡ walk B n)
  -- and blocks that are held are read
  pub held : (B : List ℕ) (ms : List (List ℕ)) → Holds B ms → read_blocks B (length ms) ≡ Ok (walk B (length ms))
  -- one block more leaves what the blocks before it tell, and begins where they end
  pub further : (B : List ℕ) (n : ℕ) → walk B (n + 1)
      ≡ record { records = and_at (walk B n).records B (walk B n).end; end = body_at (walk B n).end + size_at B (walk B n).end }
