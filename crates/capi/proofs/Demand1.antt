-- Demand 1: every public call ends with document 01's answer, for any bytes, tables and numbers, and a refusal changes nothing that is lent.
-- A call's statement is its contract in src: one relation from the memory that is lent to the answer and the memory afterwards. Each theorem
-- here says that a call meets its contract. Assumes nothing.
use Rattle.editions.proofs.reader.accept.Statement as accept
use Rattle.editions.proofs.reader.accept.Met as accept-met
use Rattle.editions.proofs.reader.read.Statement as read
use Rattle.editions.proofs.reader.read.Met as read-met
use Rattle.writer.proofs.writer.write.Statement as write
use Rattle.writer.proofs.writer.write.Met as write-met
use Rattle.writer.proofs.join.join.Statement as join
use Rattle.writer.proofs.join.join.Met as join-met
use Rattle.writer.proofs.cut.cut.Statement as cut
use Rattle.writer.proofs.cut.cut.Met as cut-met
use Rattle.compare.proofs.compare.compare.Statement as compare
use Rattle.compare.proofs.compare.compare.Met as compare-met
use Rattle.compare.proofs.part.find_part.Statement as find-part
use Rattle.compare.proofs.part.find_part.Met as find-part-met
use Rattle.compare.proofs.part.entry_part.Statement as entry-part
use Rattle.compare.proofs.part.entry_part.Met as entry-part-met
use Rattle.verdict.proofs.verdict.judge.Statement as judge
use Rattle.verdict.proofs.verdict.judge.Met as judge-met
use Rattle.verdict.proofs.verdict.signed_part.Statement as part
use Rattle.verdict.proofs.verdict.signed_part.Met as part-met
use Rattle.verdict.proofs.duplicates.search.Statement as search
use Rattle.verdict.proofs.duplicates.search.Met as search-met
use Rattle.time.proofs.validity.shown_moment.Statement as shown-moment
use Rattle.time.proofs.validity.shown_moment.Met as shown-moment-met
use Rattle.capi.proofs.phagundro_accept.Statement as c-accept
use Rattle.capi.proofs.phagundro_accept.Met as c-accept-met
use Rattle.capi.proofs.phagundro_read.Statement as c_read
use Rattle.capi.proofs.phagundro_read.Met as c-read-met
use Rattle.capi.proofs.phagundro_write.Statement as c-write
use Rattle.capi.proofs.phagundro_write.Met as c-write-met
use Rattle.capi.proofs.phagundro_join.Statement as c-join
use Rattle.capi.proofs.phagundro_join.Met as c-join-met
use Rattle.capi.proofs.phagundro_cut.Statement as c-cut
use Rattle.capi.proofs.phagundro_cut.Met as c-cut-met
use Rattle.capi.proofs.phagundro_compare.Statement as c-compare
use Rattle.capi.proofs.phagundro_compare.Met as c-compare-met
use Rattle.capi.proofs.phagundro_compare_part.Statement as c-compare-part
use Rattle.capi.proofs.phagundro_compare_part.Met as c-compare-part-met
use Rattle.capi.proofs.phagundro_verdict.Statement as c-verdict
use Rattle.capi.proofs.phagundro_verdict.Met as c-verdict-met
use Rattle.capi.proofs.phagundro_verdict_number.Statement as c-number
use Rattle.capi.proofs.phagundro_verdict_number.Met as c-number-met
use Rattle.capi.proofs.phagundro_duplicates.Statement as c-duplicates
use Rattle.capi.proofs.phagundro_duplicates.Met as c-duplicates-met
use Rattle.capi.proofs.phagundro_moment.Statement as c-moment
use Rattle.capi.proofs.phagundro_moment.Met as c-moment-met

-- Judging a batch: `editions/src/reader.rt`, by `Answers`.
pub accepting : {M : Type 1} → accept.statement M
accepting = accept-met.met

-- Reading a batch into a table: `editions/src/reader.rt`, by `Reads`.
pub reading : {M : Type 1} → read.statement M
reading = read-met.met

-- Writing a draft: `writer/src/writer.rt`, by `Writes`.
pub writing : {M : Type 1} → write.statement M
writing = write-met.met

-- Joining two batches: `writer/src/join.rt`, by `Joins`.
pub joining : {M : Type 1} → join.statement M
joining = join-met.met

-- Cutting a message out of a batch: `writer/src/cut.rt`, by `Cuts`.
pub cutting : {M : Type 1} → cut.statement M
cutting = cut-met.met

-- Comparing two batches: `compare/src/compare.rt`, by `Compares`.
pub comparing : {M : Type 1} → compare.statement M
comparing = compare-met.met

-- Finding an entry's part: `compare/src/part.rt`, by `Finds`.
pub finding_part : {M : Type 1} → find-part.statement M
finding_part = find-part-met.met

-- Handing back an entry's part: `compare/src/part.rt`, by `HandsBack`.
pub handing_part : {M : Type 1} → entry-part.statement M
handing_part = entry-part-met.met

-- Judging a message's proof: `verdict/src/verdict.rt`, by `Judges`.
pub judging : {M : Type 1} → judge.statement M
judging = judge-met.met

-- Handing back the signed part: `verdict/src/verdict.rt`, by `verdict_answer` and `HandedBack`.
pub signed_part : {M : Type 1} → part.statement M
signed_part = part-met.met

-- Searching for duplicates: `verdict/src/duplicates.rt`, by `Searches`.
pub searching : {M : Type 1} → search.statement M
searching = search-met.met

-- Showing a moment: `time/src/validity.rt`, by `shown_moment`.
pub showing_moment : {M : Type 1} → shown-moment.statement M
showing_moment = shown-moment-met.met

-- The same from C: `capi/src/lib.rt`.
pub c_accepting : {M : Type 1} → c-accept.statement M
c_accepting = c-accept-met.met

pub c_reading : {M : Type 1} → c_read.statement M
c_reading = c-read-met.met

pub c_writing : {M : Type 1} → c-write.statement M
c_writing = c-write-met.met

pub c_joining : {M : Type 1} → c-join.statement M
c_joining = c-join-met.met

pub c_cutting : {M : Type 1} → c-cut.statement M
c_cutting = c-cut-met.met

pub c_comparing : {M : Type 1} → c-compare.statement M
c_comparing = c-compare-met.met

pub c_finding_part : {M : Type 1} → c-compare-part.statement M
c_finding_part = c-compare-part-met.met

pub c_judging : {M : Type 1} → c-verdict.statement M
c_judging = c-verdict-met.met

pub c_judging_number : {M : Type 1} → c-number.statement M
c_judging_number = c-number-met.met

pub c_searching : {M : Type 1} → c-duplicates.statement M
c_searching = c-duplicates-met.met

pub c_showing_moment : {M : Type 1} → c-moment.statement M
c_showing_moment = c-moment-met.met
