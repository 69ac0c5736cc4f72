-- The laws of the crate that the layer above cites, gathered. Assumes nothing.
--     verdict_number      the number of a verdict's answer is at most 14
--     verdict_small       the verdict on a message is at most 7, and so is that of every answer (`judges_small`)
--     judges_exactly      the computed verdict's answer is exactly the one that `Judges` relates (`related_verdict`)
--     searches_exactly    the computed answer of the search is exactly the one that `Searches` relates (`related_search`)
pub use Rattle.verdict.proofs.theorems.verdict.RefusalNumbers.{verdict_number}
pub use Rattle.verdict.proofs.theorems.verdict.SmallVerdicts.{verdict_small, judges_small}
pub use Rattle.verdict.proofs.theorems.verdict.JudgesExactly.{judges_exactly, related_verdict}
pub use Rattle.verdict.proofs.theorems.duplicates.SearchesExactly.{searches_exactly, related_search}
