-- `writer::draft::rows` meets its contract. Assumes nothing.
use Rattle.writer.proofs.theorems.DraftRows.{numbered}
use Rattle.writer.proofs.draft.rows.Goals as goal

pub returns : goal.returns
returns c = numbered c.args.draft.now c.as_chunks.result.0.now c.as_chunks.ensures.front c.as_chunks.ensures.front_len
