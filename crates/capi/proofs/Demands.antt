-- The three demands of document 00, sentence by sentence, each with the theorems that state it. The names in these theorems are defined in
-- the folders specs/meaning; docs/SPECIFICATION.md says the same in words. Assumes nothing.

-- Demand 1. "Any bytes, table, draft or number may come in, and each call ends with its answer or a numbered refusal and a place. The refusal
-- is the one that document 01 fixes for that input. A refused call leaves every lent table and output unchanged." One theorem for each call:
-- those of the crates, and the same calls from C.
pub use Rattle.capi.proofs.Demand1.{accepting, reading, writing, joining, cutting, comparing, finding_part, handing_part, judging, signed_part, searching, showing_moment}
pub use Rattle.capi.proofs.Demand1.{c_accepting, c_reading, c_writing, c_joining, c_cutting, c_comparing, c_finding_part, c_judging, c_judging_number, c_searching, c_showing_moment}
-- The one number of `c_judging_number` is never both: a verdict is at most 7, and a refusal is 256 and more. That of `c_showing_moment` is a
-- moment, or -1.
pub use Rattle.capi.proofs.NumberTells.{number_tells, moment_tells}
-- For each input there is exactly one answer, and one table or output afterwards, that the relation of a call allows: the computed ones.
pub use Rattle.editions.proofs.Laws.{answers_exactly, answers_once, reads_exactly, reads_once}
pub use Rattle.writer.proofs.Laws.{writes_exactly, writes_once, joins_once, cuts_once}
pub use Rattle.compare.proofs.Laws.{compares_once, finds_once}
pub use Rattle.verdict.proofs.Laws.{judges_exactly, searches_exactly}
-- "A refused call leaves every lent table and output unchanged."
pub use Rattle.editions.proofs.Laws.{table_stays}
pub use Rattle.writer.proofs.Laws.{output_stays, join_stays, cut_stays}
pub use Rattle.compare.proofs.Laws.{compare_stays}
-- Demand 2. "Given room, a batch is accepted exactly when it is the DER encoding of CertReqMessages in the chosen edition (RFC 2511 or RFC
-- 4211), as document 01 bounds and defines it": by reading, and without a table.
pub use Rattle.editions.proofs.Laws.{read_exactly, accepted_exactly}
-- "and the rows shown are that message's fields": the table holds the rows of the message, the fifth number of each is right, and the bytes
-- encode no other message.
pub use Rattle.editions.proofs.Laws.{rows_shown, contents_right, one_nest}
-- "Writing the rows of an accepted batch into enough room gives its bytes again."
pub use Rattle.writer.proofs.Laws.{writes_again}
-- "A draft is refused as describing nothing exactly when no acceptable batch has its rows and leaf bytes"; documents 01 and 02: also if its
-- numbers aren't "a multiple of five", are "none, or a leaf leaves the slice", or if the fifth number of a leaf isn't right.
pub use Rattle.writer.proofs.Laws.{describes_nothing, misshapen_refused, not_right_refused, wrong_content_refused}
-- "otherwise, given room, that batch is written": there is only one such batch, the answer has its length, and the output begins with it; and
-- if 0 is answered, what was written has the draft's rows.
pub use Rattle.writer.proofs.Laws.{one_batch, written_answer, written_output, written_has_rows}
-- "and reading it shows the draft's fields."
pub use Rattle.writer.proofs.Laws.{reads_back}
-- Demand 3. "Take either edition's reader; the other edition's is the opposite one. For all bytes that the one accepts, and whatever the two
-- tables held before: if none of the listed differences occurs in the bytes, the opposite reader, lent a table of the same length, accepts
-- them with the same count and the same rows, number for number"
pub use Rattle.editions.proofs.Laws.{same_rows}
-- "the listed differences": whatever occurs is one of D1 to D4.
pub use Rattle.editions.proofs.Laws.{difference_listed}
-- "if one occurs, it answers refusal 9."
pub use Rattle.editions.proofs.Laws.{differing}
-- "For all bytes, accepted or not, and whatever table it is lent, a reader answers refusal 9 exactly when they are in the opposite edition's
-- grammar and a listed difference occurs in them"
pub use Rattle.editions.proofs.Laws.{nine_exactly}
-- "and always at the first in byte order."
pub use Rattle.editions.proofs.Laws.{nine_least}
