use Rattle.std.proofs.Common.{[]}
use Rattle.awd_blocks.proofs.Whole.{block-reads, block-first, block_free, block-filled}
use Rattle.awd_blocks.proofs.Rows.{follow-one, walk-end, walk-told, read_walked, read_holds, held_read, walk_further}
use Rattle.awd_blocks.proofs.Told.{head_told, name_told}
use Rattle.awd_blocks.proofs.laws.block_laws.Goals as goal

pub returns : goal.returns
returns c = record {
  exact = block-reads;
  first = block-first;
  head_told = head_told;
  name_told = name_told;
  prefix_free = block_free;
  filled = block-filled;
  only_one = λ B. follow-one B 12 [];
  walked = λ B. walk-end B 12 [];
  told = λ B. walk-told B 12 [];
  read = λ B n w is. (read_holds B n w is, read_walked B n w is);
  held = held_read;
  further = walk_further;
}
