-- Demands 1, 2 and 3 of reading, on the relations `Answers` and `Reads`: what a call answers and leaves, for any bytes and table. Each follows
-- from the same fact about the computed answer. Assumes nothing.
use Prim.Native.Nat.{ℕ, ◌*◌, ◌≤◌}
use native.Mathlib.Omega.{arith}
use mathlib.Core.Logic.{◌↔◌}
use mathlib.Core.Path.{◌≡◌, refl, sym, ap, subst, ◌∙◌}
use mathlib.Core.List.{List, Memᴰ}
use lib.ListN.{length, take}
use Rattle.der.specs.meaning.Bounds.{depth}
use Rattle.der.specs.meaning.Octets.{Octets}
use Rattle.der.specs.meaning.Refusal.{accepted, other_edition}
use Rattle.crmf.specs.meaning.Edition.{Edition}
use Rattle.crmf.specs.meaning.Rows.{Row, width, batch_rows, RightContent, Holds}
use Rattle.crmf.proofs.Laws.{row_content_lem, short_none}
use Rattle.editions.specs.meaning.Answer.{Answer}
use Rattle.editions.specs.meaning.Edition.{opposite}
use Rattle.editions.specs.meaning.Membership.{InGrammar, Difference, FirstDifference}
use Rattle.editions.specs.meaning.Answers.{ShortIds, Answers, accept}
use Rattle.editions.specs.meaning.Reads.{Reads, refused, too_short, shown}
use Rattle.editions.specs.steps.Reading.{read_answer, table_after}
use Rattle.editions.proofs.theorems.Accepting as accepting
use Rattle.editions.proofs.theorems.Differing as opposed
use Rattle.editions.proofs.theorems.AnswersExactly.{related_answer}
use Rattle.editions.proofs.theorems.ReadsExactly.{reading_related, related_reading, equal_reading}

-- the answer of a call
abbrev answered : ℕ → ℕ → ℕ → Answer
answered number place count = record { number = number; place = place; count = count }

-- a refused call's count and table
refused_stays : {e number place : ℕ} {s : List ℕ} {count : ℕ} {old new : List ℕ} → Octets s → Reads e s old number place count new
    → (number ≡ accepted → ⊥) → (count ≡ 0) × (new ≡ old)
refused_stays {e} {s = s} octets (refused {number = n} {place = p} {count = c} related some) again = (no_count related some, refl)
  where
    no_count : {n p c : ℕ} → Answers e s n p c → (n ≡ accepted → ⊥) → c ≡ 0
    no_count (Answers.unknown none) some = refl
    no_count (Answers.long ed over) some = refl
    no_count (Answers.fault ed short first) some = refl
    no_count (Answers.trailing ed short t after formed single split more) some = refl
    no_count (Answers.neither ed outside outside-too stop) some = refl
    no_count (Answers.other ed outside first) some = refl
    no_count (Answers.long_id ed g first) some = refl
    no_count (Answers.accept ed g none) some = absurd (some refl)
refused_stays octets (too_short related few) some = (refl, refl)
refused_stays octets (shown g related room) some = absurd (some refl)

-- Demand 1: "A refused call leaves every lent table and output unchanged", and its count is 0.
pub table_stays : {e number place count : ℕ} {s old new : List ℕ} → Octets s → Reads e s old number place count new → (number ≡ accepted → ⊥)
    → (count ≡ 0) × (new ≡ old)
table_stays = refused_stays

-- Demand 2, without a table: "accepted exactly when it is the DER encoding of CertReqMessages in the chosen edition".
pub accepted_exactly : {e : ℕ} → Edition e → (s : List ℕ) → Octets s → ((count : ℕ) × Answers e s accepted 0 count) ↔ ((g : InGrammar e s) × ShortIds g)
accepted_exactly {e} ed s octets = (there, λ (g, short). (length (batch_rows g.batch), accept ed g short))
  where
    there : (count : ℕ) × Answers e s accepted 0 count → (g : InGrammar e s) × ShortIds g
    there (count, related) =
        let (g, fit) = accepting.accepted_in_lem e s octets (ap (λ (a : Answer). a.number) (related_answer e s octets accepted 0 count related)) in
        (g, short_none (batch_rows g.batch) fit)

module _ {e : ℕ} (ed : Edition e) (s old : List ℕ) (octets : Octets s) where
  -- the number of the computed answer
  number_of : (number place count : ℕ) (new : List ℕ) → Reads e s old number place count new → (read_answer e s old).number ≡ number
  number_of number place count new r = ap (λ (a : Answer). a.number) (related_reading e s old octets number place count new r).0

  -- Demand 2: "Given room, a batch is accepted exactly when it is the DER encoding of CertReqMessages in the chosen edition"
  pub read_exactly : ((count : ℕ) × (new : List ℕ) × Reads e s old accepted 0 count new)
      ↔ ((g : InGrammar e s) × ShortIds g × (width * length (batch_rows g.batch) ≤ length old))
  read_exactly = (there, λ (g, short, room). (_, _, shown g (accept ed g short) room))
    where
      there : (count : ℕ) × (new : List ℕ) × Reads e s old accepted 0 count new
          → (g : InGrammar e s) × ShortIds g × (width * length (batch_rows g.batch) ≤ length old)
      there (count, new, r) =
          let (g, fit, room) = (accepting.computed_read s old octets ed).0 (number_of accepted 0 count new r) in
          (g, short_none (batch_rows g.batch) fit, room)

  -- "and the rows shown are that message's fields"
  pub rows_shown : (place count : ℕ) (new : List ℕ) → Reads e s old accepted place count new → (g : InGrammar e s) → Holds (batch_rows g.batch) count old new
  rows_shown place count new r g =
      let (same, table) = related_reading e s old octets accepted place count new r in
      subst (λ (a : Answer). Holds (batch_rows g.batch) a.count old new) same
      (subst (Holds (batch_rows g.batch) (read_answer e s old).count old) table (accepting.computed_rows s old octets (number_of accepted place count new r) g))

  -- A11: the rows' fifth numbers are "right for every row".
  pub contents_right : (place count : ℕ) (new : List ℕ) → Reads e s old accepted place count new
      → (rs : List Row) × (Holds rs count old new × ((r : Row) → Memᴰ r rs → RightContent s r))
  contents_right place count new r =
      let (g, fit, room) = (accepting.computed_read s old octets ed).0 (number_of accepted place count new r) in
      (batch_rows g.batch, (rows_shown place count new r g, row_content_lem g.batch depth g.formed s g.encoded))

-- Demand 3: an edition and its opposite, any bytes, and any two tables.
module _ {e : ℕ} (ed : Edition e) (s old others : List ℕ) (octets : Octets s) where
  -- "if none of the listed differences occurs in the bytes, the opposite reader, lent a table of the same length, accepts them with the same
  -- count and the same rows, number for number"
  pub same_rows : length others ≡ length old → (count : ℕ) (new : List ℕ) → Reads e s old accepted 0 count new → ((p : ℕ) → Difference e s p → ⊥)
      → (others-new : List ℕ) × Reads (opposite e) s others accepted 0 count others-new × (take (width * count) others-new ≡ take (width * count) new)
  same_rows sized count new r none =
      let (is, table) = related_reading e s old octets accepted 0 count new r in
      let (same, rows) = opposed.computed_same_rows ed s old others octets sized (ap (λ (a : Answer). a.number) is) none in
      let counted : (read_answer e s old).count ≡ count = ap (λ (a : Answer). a.count) is in (
        table_after (opposite e) s others,
        equal_reading (opposite e) s others octets (answered accepted 0 count) _ (sym is ∙ sym same, refl),
        rw counted at rows ∙ ap (take (width * count)) table,
      )

  -- "if one occurs, it answers refusal 9"
  pub differing : (count : ℕ) (new : List ℕ) → Reads e s old accepted 0 count new → (p : ℕ) → Difference e s p
      → (q : ℕ) × Reads (opposite e) s others other_edition q 0 others
  differing count new r p d =
      let nine = opposed.computed_differing ed s old others octets (number_of ed s old octets accepted 0 count new r) p d in
      let a = read_answer (opposite e) s others in
      let read : Reads (opposite e) s others other_edition a.place a.count (table_after (opposite e) s others) =
      subst (λ (n : ℕ). Reads (opposite e) s others n a.place a.count (table_after (opposite e) s others)) nine (reading_related (opposite e) s others octets) in
      let (zero, stays) = table_stays octets read (λ (z : other_edition ≡ accepted). omega arith) in (
        a.place,
        subst (λ (c : ℕ). Reads (opposite e) s others other_edition a.place c others) zero
            (subst (Reads (opposite e) s others other_edition a.place a.count) stays read),
      )

  -- "a reader answers refusal 9 .. always at the first in byte order"
  pub nine_least : (place count : ℕ) (new : List ℕ) → Reads e s old other_edition place count new → FirstDifference (opposite e) s place
  nine_least place count new r =
      let (is, table) = related_reading e s old octets other_edition place count new r in
      subst (FirstDifference (opposite e) s) (ap (λ (a : Answer). a.place) is)
      (opposed.computed_nine_least ed s old others octets (ap (λ (a : Answer). a.number) is))

  -- "exactly when they are in the opposite edition's grammar and a listed difference occurs in them"
  pub nine_exactly : ((place count : ℕ) × (new : List ℕ) × Reads e s old other_edition place count new) ↔ ((p : ℕ) × Difference (opposite e) s p)
  nine_exactly = (λ (p, c, new, r). (p, (nine_least p c new r).here), back_to)
    where
      back_to : (p : ℕ) × Difference (opposite e) s p → (place count : ℕ) × (new : List ℕ) × Reads e s old other_edition place count new
      back_to (p, d) =
          let nine = (opposed.computed_nine ed s old others octets).1 (p, d) in
          let a = read_answer e s old in (
            a.place,
            a.count,
            table_after e s old,
            subst (λ (n : ℕ). Reads e s old n a.place a.count (table_after e s old)) nine (reading_related e s old octets),
          )
