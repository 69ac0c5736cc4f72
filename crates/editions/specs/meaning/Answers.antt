-- What a call that judges a batch answers, for every edition number and bytes: SPECIFICATION 4. One relation, a case for each line of
-- document 01's "Numbers that come back", in the "Order for reading: 13, 1, then 2 to 6 over the whole nest, 7, 8 or 9, 10". It names no walk.
-- Assumes nothing.
use Rattle.std.specs.Prelude.{ℕ, ◌≤◌, ◌<◌, ◌≡◌, List, [], ◌++◌, eqb, length}
use Rattle.der.specs.meaning.Bounds.{depth, longest}
use Rattle.der.specs.meaning.Refusal.{accepted, too_long_number, trailing_bytes, not_in_grammar, other_edition, long_cert_req_id, unknown_edition_number}
use Rattle.der.specs.meaning.Tree.{Tree, WellFormed, Single, encode}
use Rattle.der.specs.meaning.Fault.{First}
use Rattle.crmf.specs.meaning.Edition.{Edition}
use Rattle.crmf.specs.meaning.Notation.{Top}
use Rattle.crmf.specs.meaning.Grammar.{content}
use Rattle.crmf.specs.meaning.Stops.{Stops}
use Rattle.crmf.specs.meaning.Rows.{batch_rows, LongIdAt, FirstLongId}
use Rattle.editions.specs.meaning.Edition.{opposite}
use Rattle.editions.specs.meaning.Membership.{InGrammar, FirstDifference}

-- "Place of 8, by this edition's walk": bytes that "none of 1 to 7 refuses", and the place at which the edition's reading of their nest stops,
-- with request A9's detail (SPECIFICATION 3.8).
pub record ReadingStops (e : ℕ) (s : List ℕ) (place detail : ℕ) : Type 0 where
  pub short : length s ≤ longest
  pub nest : Tree
  pub formed : WellFormed depth 0 nest
  pub single : Single nest
  pub encoded : encode nest ≡ s
  pub stops : Stops (λ x. eqb x e) (content Top) 0 nest place detail

-- No certReqId of the bytes, read in the edition, is "of more than 8 content octets".
abbrev pub ShortIds : {e : ℕ} {s : List ℕ} → InGrammar e s → Type 0
ShortIds g = (place : ℕ) → LongIdAt (batch_rows g.batch) place → ⊥

-- The number, the place and the count of rows. "Refusals return their number and place, a count of 0".
pub data Answers (e : ℕ) (s : List ℕ) : (number place count : ℕ) → Type 0 where
  -- 13 "edition not 1 or 2"
  unknown : (Edition e → ⊥) → Answers e s unknown_edition_number 0 0
  -- 1 "input longer than 65,535 bytes"
  long : Edition e → longest < length s → Answers e s too_long_number 0 0
  -- "2 to 6 over the whole nest": the fault is true, and everything judged before it holds
  fault : {number place detail : ℕ} → Edition e → length s ≤ longest → First depth 0 s number place detail → Answers e s number place 0
  -- 7 "bytes after the batch", at the "first such byte"
  trailing : Edition e → length s ≤ longest → (nest : Tree) (after : List ℕ) → WellFormed depth 0 nest → Single nest → s ≡ encode nest ++ after
      → (after ≡ [] → ⊥) → Answers e s trailing_bytes (length (encode nest)) 0
  -- 8 "not in the grammar of either edition", where this edition's reading stops
  neither : {place detail : ℕ} → Edition e → (InGrammar e s → ⊥) → (InGrammar (opposite e) s → ⊥) → ReadingStops e s place detail → Answers e s not_in_grammar place 0
  -- 9 "not in this edition's grammar, but in the other's", at the "first difference"
  other : {place : ℕ} → Edition e → (InGrammar e s → ⊥) → FirstDifference (opposite e) s place → Answers e s other_edition place 0
  -- 10 "a certReqId of more than 8 content octets", at the "first such"
  long_id : {place : ℕ} → Edition e → (g : InGrammar e s) → FirstLongId (batch_rows g.batch) place → Answers e s long_cert_req_id place 0
  -- 0 "accepted, with the row count"
  accept : Edition e → (g : InGrammar e s) → ShortIds g → Answers e s accepted 0 (length (batch_rows g.batch))

-- Why the nest or the grammar refuses a batch, the number and the place with request A9's detail: "for 2, 1 identifier missing, 2 length missing,
-- 3 past the end; for 5 the tag number; for 8, 1 fits no part, 2 part missing, 3 value breaks its rule, 4 control 3's list or D3's location; ..
-- else 0".
pub data Reason (e : ℕ) (s : List ℕ) : (number place detail : ℕ) → Type 0 where
  nest : {number place detail : ℕ} → First depth 0 s number place detail → Reason e s number place detail
  grammar : {place detail : ℕ} → ReadingStops e s place detail → Reason e s not_in_grammar place detail
