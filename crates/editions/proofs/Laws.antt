-- The laws of the crate that the layers above cite, gathered. Assumes nothing.
--     answers_exactly     the computed answer without a table is exactly the one that `Answers` relates (`answer_related`, `related_answer`, and of an
--                         answer that equals it `equal_related`); there is only one (`answers_once`)
--     reads_exactly       the same with a table, by `Reads`: `reading_related`, `related_reading`, `equal_reading`, `reads_once`
--     acceptance_shows    an answer with the number 0 comes from bytes in the grammar with no long certReqId (`Shows`)
--     taken               so it is an acceptance (`Accepted`), of a known edition (`accepted_edition`), with the count of the batch's rows
--                         (`accepted_rows`) and no long certReqId (`accepted_short`); conversely `grammar_accepted`; it isn't refused (`not_refused`), and
--                         a refusal's count is 0 (`refused_count`)
--     content_messages    the octets of such a batch from its content on are its messages', and it is the batch of them (`grammar_octets`), as its
--                         tree says (`grammar_tree`, `grammar_content`)
--     accepted_related    an acceptance comes from bytes in the grammar, with the count of their rows
--     reason_related      the reason that the walks compute (`reason_of`) is one that `Reason` relates
--     table_stays         demand 1: a refusal leaves the table as it was, and its count is 0
--     accepted_exactly    demand 2: without a table, exactly the bytes in the edition's grammar with every certReqId of at most 8 octets are accepted
--     read_exactly        reading accepts exactly the same bytes, given room for the rows
--     rows_shown          after an accepted reading the table holds the rows of the batch, and its other numbers are as they were
--     contents_right      and each row's fifth number is right by the bytes (`RightContent`)
--     one_nest            bytes in a grammar are the encoding of only one tree
--     same_rows           demand 3: what one edition accepts, the opposite one accepts with the same rows, if no difference occurs in it
--     differing           if a difference occurs in it, the opposite edition answers 9
--     nine_exactly        9 is answered exactly for bytes in the opposite edition's grammar in which a difference occurs
--     nine_least          its place is that of the first difference
--     difference_listed   every difference that occurs is on the list, and its number is one of 1 to 4
--     fourth_at_fields    A4: a fourth occurs exactly where a row shows a field that edition 2 has left out (`LeftOut`); bytes of edition 2's grammar
--                         show none (`none_left_out`), and what edition 1 accepts with one, edition 2 answers with 9 (`left_out_nine`)
--     times_shown         A12: in bytes of a grammar notBefore and notAfter show moments, in the kind of time that stands for them (`times_stand`)
--     validities_forwards no validity in them runs backwards
--     accepted_in_lem         of the computed answer: what is accepted is in the grammar, and every certReqId fits
--     in_accepted         conversely, what is in the grammar is accepted with the count of its rows, if every certReqId fits
--     computed_read       the computed answer with a table: accepted exactly so, given room; then the table holds the rows (`computed_rows`)
--     nest_read           the tree that is read from bytes in a grammar is the one that they encode
--     nest_rows           the rows that reading finds in such bytes are that tree's
--     answer_counts       the count of an acceptance is the number of rows
--     answer_number       the number of an answer without a table is at most 13; of a related one `related_number`
--     shown               an accepted reading has the answer without a table, and room for its rows (`Shown`)
--     with_room           given room, reading answers what is answered without a table
--     shown_table         after an accepted reading the table is the old one with the rows written over its first numbers
--     paper               document 01's batches marked [P] are read as it says (`ReadsEntry`)
--     refusals_explained  worked refusals are answered by number, place and detail; `refusals_told` others by number and place, and `templates_answered`
--                         and `validities_answered` batches that edition 1 accepts, in both editions
pub use Rattle.editions.proofs.theorems.AnswersExactly.{answer_related, related_answer, equal_related, answers_exactly, answers_once, Shows, acceptance_shows, related_number, accepted_related, reason_of, reason_related}
pub use Rattle.editions.proofs.theorems.AcceptedBatches.{taken, not_refused, refused_count, grammar_tree, grammar_content, content_messages, grammar_octets, accepted_edition, accepted_rows, accepted_short, grammar_accepted}
pub use Rattle.editions.proofs.theorems.ReadsExactly.{reading_related, related_reading, equal_reading, reads_exactly, reads_once}
pub use Rattle.editions.proofs.theorems.Demands.{table_stays, accepted_exactly, read_exactly, rows_shown, contents_right, same_rows, differing, nine_exactly, nine_least}
pub use Rattle.editions.proofs.theorems.FourthDifference.{difference_listed, fourth_at_fields, none_left_out, left_out_nine}
pub use Rattle.editions.proofs.theorems.ShownTimes.{times_shown, times_stand, validities_forwards}
pub use Rattle.editions.proofs.theorems.Accepting.{accepted_in_lem, in_accepted, computed_read, computed_rows, one_nest, nest_read, nest_rows}
pub use Rattle.editions.proofs.theorems.Tables.{answer_counts, Shown, shown, with_room, shown_table}
pub use Rattle.editions.proofs.theorems.RefusalNumbers.{answer_number}
pub use Rattle.editions.proofs.theorems.PaperVectors.{ReadsEntry, paper}
pub use Rattle.editions.proofs.theorems.RefusalVectors.{refusals_explained, refusals_told, templates_answered, validities_answered}
