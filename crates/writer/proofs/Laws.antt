-- The laws of the crate that the layer above cites, gathered. Assumes nothing.
--     writes_exactly      the relation `Writes`, which the contract of writing states, holds exactly of the answer and output that are computed
--     writes_once         so there is one answer, and one output afterwards
--     output_stays        a refusal leaves the output as it was, and its count is 0
--     describes_nothing   a draft is refused with 12 exactly if no batch that the edition accepts has its rows and leaf bytes
--     misshapen_refused   so a draft is refused whose numbers aren't a multiple of five, or none, or of which a leaf leaves the slice (`Misshapen`)
--     not_right_refused   and so is a draft of which a leaf's fifth number isn't right over the slice; if an element stands there, one that isn't its
--                         first byte and the length of its header (`wrong_content_refused`)
--     left_out_refused    and in edition 2 so is a draft with a field that edition 2 leaves out (`LeftOut`)
--     unshown_refused     and so is a draft with a notBefore or notAfter that shows no moment; what is written runs forwards (`written_forwards`)
--     containers_ignored  drafts that differ only in the fifth numbers of containers (`SameBut`) are answered the same
--     one_batch           no two batches have a draft's rows and leaf bytes
--     written_answer      given room for the batch that has them, writing answers 0 and its length
--     written_output      the output then begins with that batch, and its other bytes are as they were
--     written_has_rows    if writing answers 0, the bytes that were written have the draft's rows and leaf bytes
--     reads_back          reading that batch shows the draft's fields, and where each content begins by the batch's own places
--     writes_again        writing the rows of an accepted batch over its own bytes gives the batch again
--     joins_once          joining has one answer, and one output afterwards; so has cutting (`cuts_once`)
--     join_stays          a refused join leaves the output as it was, and its count is 0; so does a refused cut (`cut_stays`)
--     join_accepted       what is joined is accepted in the edition, if it isn't too long; what is cut is (`cut_accepted`), and it is no longer than
--                         the batch (`cut_fits`)
--     join_octets         a join shows the first's messages and then the second's, octet for octet, and moved (`join_messages`); a cut shows that
--                         message alone (`cut_octets`, `cut_shows`)
--     join_only           bytes in the grammar with these messages are the join; with that message alone they are the cut (`cut_only`)
--     join_rows           the rows of a join below the batch's are those of the two, moved, and the second's renumbered; it has both's rows but one
--                         (`join_count`)
--     join_shorter        a join is shorter than the two batches together
--     any_grouping        joining in any grouping gives the whole, if that isn't too long, and every join within it is answered with 0; conversely,
--                         only the whole is given (`gives_whole`), and if it is too long, a join is refused with 1 (`too_long_within`)
--     same_bytes          so groupings of the same batches give the same bytes
--     cut_again           cut at every position (`cut_up`) and joined again, in any grouping, a batch gives its own bytes
pub use Rattle.writer.proofs.theorems.WritesExactly.{writes_exactly, writes_once}
pub use Rattle.writer.proofs.theorems.Described.{one_batch}
pub use Rattle.writer.proofs.theorems.Misshapen.{Misshapen, misshapen_refused}
pub use Rattle.writer.proofs.theorems.LeftOut.{left_out_refused}
pub use Rattle.writer.proofs.theorems.WrittenTimes.{written_forwards, unshown_refused}
pub use Rattle.writer.proofs.theorems.Contents.{not_right_refused, wrong_content_refused, SameBut, containers_ignored}
pub use Rattle.writer.proofs.theorems.Demand2.{output_stays, describes_nothing, written_answer, written_output, written_has_rows, reads_back, writes_again}
pub use Rattle.writer.proofs.theorems.OneAnswer.{Same, joins_once, join_stays, cuts_once, cut_stays}
pub use Rattle.writer.proofs.theorems.Joining.{join_only, join_accepted, join_octets, join_messages, join_rows, join_count}
pub use Rattle.writer.proofs.theorems.JoinLengths.{join_shorter}
pub use Rattle.writer.proofs.theorems.CutsExactly.{cut_fits}
pub use Rattle.writer.proofs.theorems.Cutting.{cut_only, cut_accepted, cut_octets, cut_shows}
pub use Rattle.writer.proofs.theorems.Grouping.{any_grouping, gives_whole, same_whole, same_bytes, too_long_within}
pub use Rattle.writer.proofs.theorems.CutAndJoined.{cut_up, cut_apart, cut_again}
