-- The laws of the crate that the layers above cite, gathered. Assumes nothing.
--     time_utc, time_generalized    what an element shows that has the identifier of a Time
--     some_told, none_told    what a time's check answers for a moment, and for none
--     told_some, told_none    what the answer of a time's check says of the moment
--     utc_through_2049    A12: what a UTCTime shows is from 1950-01-01 on and before 2050-01-01
--     generalized_from_2050    what a GeneralizedTime shows is from 2050-01-01 on
--     shown_kind          the kind of the Time in notBefore or notAfter by the moment that it shows
--     shown_range         what notBefore or notAfter shows is from 1950-01-01 on, up to the last second of 9999
--     time_few            a Time has at most 15 content octets
--     shown_parts         the element of notBefore or notAfter around a Time shows the Time's moment
--     forwards_none, forwards_alone, forwards_two    the order of no times, of one, and of two
--     within_year         a moment lies within its year
--     moments_counted, februaries_counted    moments that are known from elsewhere
pub use Rattle.time.proofs.theorems.Telling.{some_told, none_told, told_some, told_none}
pub use Rattle.time.proofs.theorems.Times.{time_utc, time_generalized}
pub use Rattle.time.proofs.theorems.Ranges.{within_year, utc_through_2049, generalized_from_2050, shown_kind, shown_range}
pub use Rattle.time.proofs.theorems.FieldOctets.{time_few, shown_parts, forwards_none, forwards_alone, forwards_two}
pub use Rattle.time.proofs.theorems.MomentVectors.{moments_counted, februaries_counted}
