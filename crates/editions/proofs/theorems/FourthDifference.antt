-- Document 02, A4, in a reading: the fourth difference occurs exactly at the rows that show a field which edition 2 has left out; bytes of edition 2's
-- grammar show none; and what edition 1 accepts with one, edition 2 answers with 9. Assumes nothing.
use Prim.Native.Nat.{ℕ, ◌≤◌}
use native.Mathlib.Omega.{arith}
use mathlib.Core.Logic.{◌↔◌}
use mathlib.Core.Path.{◌≡◌, refl}
use mathlib.Core.List.{List, Memᴰ}
use Rattle.der.specs.meaning.Bounds.{depth}
use Rattle.der.specs.meaning.Octets.{Octets}
use Rattle.der.specs.meaning.Refusal.{accepted, other_edition}
use Rattle.crmf.specs.meaning.Edition.{first_edition, second_edition}
use Rattle.crmf.specs.meaning.Notation.{alone, Top}
use Rattle.crmf.specs.meaning.Differences.{differences}
use Rattle.crmf.specs.meaning.Language.{occurrences}
use Rattle.crmf.specs.meaning.Rows.{Row, batch_rows}
use Rattle.crmf.specs.meaning.LeftOut.{LeftOut}
use Rattle.crmf.specs.steps.explain.Walk.{empty_tally}
use Rattle.crmf.proofs.Laws as crmf
use Rattle.crmf.proofs.Laws.{own_difference, fourth, fourth_exactly}
use Rattle.editions.specs.meaning.Membership.{InGrammar, Difference}
use Rattle.editions.specs.meaning.Reads.{Reads}
use Rattle.editions.proofs.theorems.Demands.{differing, nine_least}

-- Every difference that occurs is on the list, and its number is one of 1 to 4.
pub difference_listed : {e : ℕ} {s : List ℕ} {p : ℕ} (d : Difference e s p)
    → Memᴰ (alone d.form.edition d.form.difference d.form.detail) differences
    × (1 ≤ d.form.difference)
    × (d.form.difference ≤ 4)
difference_listed d =
    let (some, few) = crmf.numbered Top d.within.batch d.form d.occurs in
    (crmf.listed Top d.within.batch d.form d.occurs, some, few)

-- "They join the list as D4, edition 1 only, with the template field as its place, also in a carried certReq": in bytes of either grammar.
pub fourth_at_fields : {e : ℕ} {s : List ℕ} (g : InGrammar e s) (p detail : ℕ)
    → Memᴰ (fourth p detail) (occurrences g.batch)
    ↔ ((r : Row) × Memᴰ r (batch_rows g.batch) × (r.first ≡ p) × LeftOut s r detail)
fourth_at_fields {s = s} g p detail = fourth_exactly g.batch depth g.formed s g.encoded p detail

-- so a row that shows such a field is the place of a difference
left_out_differs : {e : ℕ} {s : List ℕ} (g : InGrammar e s) (r : Row) (detail : ℕ) → Memᴰ r (batch_rows g.batch) → LeftOut s r detail
    → Difference e s r.first
left_out_differs g r detail at left_out =
    record { within = g; form = fourth r.first detail; occurs = (fourth_at_fields g r.first detail).1 (r, at, refl, left_out); stands = refl }

-- "In edition 2 those four now fit no part, and any version but 2 breaks its rule": no row of bytes in edition 2's grammar shows one.
pub none_left_out : {s : List ℕ} (g : InGrammar 2 s) (r : Row) (detail : ℕ) → Memᴰ r (batch_rows g.batch) → LeftOut s r detail → ⊥
none_left_out g r detail at left_out =
    omega (arith, own_difference Top g.batch empty_tally 0 (fourth r.first detail) ((fourth_at_fields g r.first detail).1 (r, at, refl, left_out)))

-- "Refusals: 9 or 8 by 01's rule": what edition 1 accepts with such a field, edition 2 answers with 9, there or earlier.
pub left_out_nine : (s old others : List ℕ) → Octets s → (count : ℕ) (new : List ℕ) → Reads 1 s old accepted 0 count new
    → (g : InGrammar 1 s) (r : Row) (detail : ℕ) → Memᴰ r (batch_rows g.batch) → LeftOut s r detail
    → (q : ℕ) × Reads 2 s others other_edition q 0 others × (q ≤ r.first)
left_out_nine s old others octets count new read g r detail at left_out =
    let there = left_out_differs g r detail at left_out in
    let (q, nine) = differing first_edition s old others octets count new read r.first there in
    (q, nine, (nine_least second_edition s others old octets q 0 others nine).least r.first there)
