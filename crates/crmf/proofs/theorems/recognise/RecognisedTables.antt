-- What the recogniser answers and what it leaves in a table, by the meaning alone, for every edition number, input and table. Assumes nothing.
use Prim.Native.Nat.{ℕ, ◌*◌, ◌≤◌, ◌<◌}
use mathlib.Core.Logic.{◌↔◌}
use mathlib.Core.Path.{◌≡◌, refl, sym, ◌∙◌, subst}
use mathlib.Core.Bool.{Bool, true, false}
use mathlib.Core.List.{List}
use lib.Dec.{leb}
use lib.ListN.{length}
use borrow.Author.Tests.{le-leb, lt-leb, leb-true, leb-false}
use Rattle.der.specs.meaning.Octets.{Octets}
use Rattle.std.specs.Prelude.{Option, Some, None}
use Rattle.crmf.specs.meaning.Lists.{over}
use Rattle.crmf.specs.meaning.Rows.{width, numbers, batch_rows}
use Rattle.crmf.specs.steps.recognise.Count.{recognised, recognised_table}
use Rattle.crmf.proofs.theorems.recognise.CountWays.{unrecognised_stays, recognised_fills}
use Rattle.crmf.proofs.theorems.recognise.RecognisedBatches.{ShortBatch, batch_rows_lem, recognised_exact, unrecognised_exact}
use Rattle.crmf.proofs.theorems.rows.FilledRows.{fits_room, filled_short, filled_whole}

-- From the table at first to the answer and the table afterwards.
pub data Recognises (e : ℕ) (s old : List ℕ) : Option ℕ → List ℕ → Type 0 where
  -- a batch, with room: its rows are written over the table's first numbers
  shown : (b : ShortBatch e s) → width * length (batch_rows b.batch) ≤ length old
      → Recognises e s old (Some (length (batch_rows b.batch))) (over old 0 (numbers (batch_rows b.batch)))
  -- a batch without room for its rows
  roomless : (b : ShortBatch e s) → length old < width * length (batch_rows b.batch) → Recognises e s old (Some (length (batch_rows b.batch))) old
  -- anything else
  other_input : (ShortBatch e s → ⊥) → Recognises e s old None old

module _ (e : ℕ) (s old : List ℕ) (octets : Octets s) where
  module _ (b : ShortBatch e s) where
    abbrev count : ℕ
    count = length (batch_rows b.batch)

    counted : recognised e s ≡ Some count
    counted = (recognised_exact e s octets count).1 (b, refl)

    shown_table : width * count ≤ length old → recognised_table e s old ≡ over old 0 (numbers (batch_rows b.batch))
    shown_table room =
        let enough = fits_room count old ∙ le-leb (width * count) (length old) room in
        sym (recognised_fills e s old count counted) ∙ rw (batch_rows_lem e s octets b) at (filled_whole s old (rw (batch_rows_lem e s octets b) enough))

    same_table : length old < width * count → recognised_table e s old ≡ old
    same_table few =
        sym (recognised_fills e s old count counted) ∙ filled_short s count old (fits_room count old ∙ lt-leb (width * count) (length old) few)

  -- a batch's answer and table, by whether there is room
  by_room : (b : ShortBatch e s) (t : Bool) → leb (width * length (batch_rows b.batch)) (length old) ≡ t
      → Recognises e s old (recognised e s) (recognised_table e s old)
  by_room b true room = let fits = leb-true _ _ room in rw (counted b, shown_table b fits) (shown b fits)
  by_room b false few = let short = leb-false _ _ few in rw (counted b, same_table b short) (roomless b short)

  by_answer : (r : Option ℕ) → recognised e s ≡ r → Recognises e s old (recognised e s) (recognised_table e s old)
  by_answer (Some n) is = let (b, same) = (recognised_exact e s octets n).0 is in by_room b (leb (width * length (batch_rows b.batch)) (length old)) refl
  by_answer None is = rw (is, ← unrecognised_stays e s old is) (other_input ((unrecognised_exact e s octets).0 is))

  related_read : {r : Option ℕ} {new : List ℕ} → Recognises e s old r new → (r ≡ recognised e s) × (new ≡ recognised_table e s old)
  related_read (shown b room) = (sym (counted b), sym (shown_table b room))
  related_read (roomless b few) = (sym (counted b), sym (same_table b few))
  related_read (other_input never) =
      let is = (unrecognised_exact e s octets).1 never in
      (sym is, unrecognised_stays e s old is)

  -- The recogniser answers r and leaves the table `new` exactly when the relation says so.
  pub recognises_exactly : (r : Option ℕ) (new : List ℕ) → ((r ≡ recognised e s) × (new ≡ recognised_table e s old)) ↔ Recognises e s old r new
  recognises_exactly r new = (
    λ (is, left). subst (λ (x : Option ℕ). Recognises e s old x new) (sym is)
        (subst (Recognises e s old (recognised e s)) (sym left) (by_answer (recognised e s) refl)),
    related_read,
  )
