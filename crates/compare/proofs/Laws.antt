-- The laws of the crate, gathered. Assumes nothing.
--     list_there          two accepted batches have a list of changes, and only one (`list_once`), of no more entries than both have rows (`list_few`)
--     only_in_first       an entry with 1 speaks of a row without a counterpart, and so does one with 2 (`only_in_second`)
--     leaves_apart        an entry with 3 speaks of two leaves that are counterparts and whose octets differ (`LeavesDiffer`)
--     first_complete      every row of the first batch has a counterpart, in a leaf of the same octets, or is an entry, or stands below one; and every
--                         row of the second (`second_complete`)
--     empty_equal         an empty list is that of equal bytes, and conversely (`equal_empty`)
--     first_once          no row of the first batch is in two entries (`InFirst`), and none of the second (`second_once`, `InSecond`)
--     one_counterpart     a row of the first batch has at most one counterpart, and so has a row of the second (`one_counterpart_of`)
--     not_both_before     of two entries at most one comes before the other
--     compares_once       comparing has one answer and one list afterwards (`Same`); finding a part has one answer (`finds_once`, `SamePart`)
--     compare_stays       a refusal leaves the list as it was, and its count is 0; of a part it is empty (`refused_empty`)
--     seconds_later_lem       A12: in the list, an entry with 3 of two times has the second's moment less the first's as its fourth number, and any other
--                         entry has 0 (`seconds_none`); both times of such an entry show moments (`times_apart`)
--     part_within         a part lies within the file that it is of (`Within`)
pub use Rattle.compare.proofs.theorems.TheList.{list_there, list_once, list_few, only_in_first, only_in_second, LeavesDiffer, leaves_apart, first_complete, second_complete, empty_equal, equal_empty}
pub use Rattle.compare.proofs.theorems.Bounded.{InFirst, InSecond, first_once, second_once}
pub use Rattle.compare.proofs.theorems.OneCounterpart.{one_counterpart, one_counterpart_of}
pub use Rattle.compare.proofs.theorems.OneList.{not_both_before}
pub use Rattle.compare.proofs.theorems.OneAnswer.{Same, compares_once, SamePart, finds_once, compare_stays, refused_empty}
pub use Rattle.compare.proofs.theorems.TimesApart.{times_apart}
pub use Rattle.compare.proofs.theorems.SecondsLater.{numbers_at, TimeKind, seconds_later_lem, seconds_none}
pub use Rattle.compare.proofs.theorems.Comparing.{Within, part_within}
