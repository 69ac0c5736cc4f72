-- Forms of one edition alone, and how one walk decides both editions.
pub mod AscendingPlaces
pub mod Differences
pub mod FairMarks
pub mod FirstForms
pub mod FirstSeen
pub mod LeftOutFields
pub mod ListedDifferences
pub mod Marks
pub mod OneEdition
pub mod ReadableSets
