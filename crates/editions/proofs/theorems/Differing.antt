-- How the computed answers of the two editions differ: what one accepts, the other accepts with the same rows if no difference occurs in it,
-- and refuses with 9 if one does. For any bytes, 9 is answered exactly if a difference occurs in them, at the first. Assumes nothing.
use Prim.Native.Nat.{ℕ, ◌+◌, ◌*◌, ◌≤◌}
use native.Mathlib.Omega.{arith}
use mathlib.Core.Logic.{◌↔◌, ◌⊎◌, inl, inr}
use mathlib.Core.Path.{◌≡◌, refl, sym, ap, ap₂, subst, ◌∙◌}
use mathlib.Core.Bool.{Bool, true, false}
use mathlib.Core.List.Memᴰ
use mathlib.Core.List.{List, [], ◌∷◌, Memᴰ}
use lib.Dec.{eqb, leb}
use lib.ListN.{length, take}
use Rattle.der.specs.meaning.Refusal.{accepted as acceptance, long_cert_req_id, other_edition}
use Rattle.der.specs.meaning.Octets.{Octets}
use Rattle.der.specs.meaning.Tree.{encode}
use Rattle.der.specs.meaning.Bounds.{depth}
use Rattle.der.specs.steps.Reading.{tree}
use Rattle.crmf.specs.steps.explain.Tally.{Tally}
use Rattle.crmf.specs.steps.explain.Walk.{Walked, Passed, Broken}
use Rattle.crmf.specs.meaning.Notation.{Top}
use Rattle.crmf.specs.meaning.Language.{Occurrence, occurrences}
use Rattle.crmf.specs.steps.grammar.Lines.{start}
use Rattle.crmf.specs.steps.explain.Walk.{empty_tally, trail}
use Rattle.crmf.specs.meaning.Rows.{width, numbers}
use Rattle.crmf.specs.steps.explain.LongIds.{first_long}
use Rattle.crmf.specs.steps.rows.Fill.{fits, rows_of_input}
use Rattle.crmf.proofs.Laws.{Edition, accepts, trail_occurrences, Ascends, ascends_least, occurrences_ascend, StopsAt, other_walk, fits_room}
use Rattle.editions.specs.meaning.Answer.{Answer}
use Rattle.editions.specs.meaning.Membership.{InGrammar, Difference, FirstDifference}
use Rattle.editions.specs.meaning.Edition.{opposite}
use Rattle.editions.specs.steps.Reading.{refusal, accepted, own_walk, walk_passes, eight_or_nine, long_id_or_accepted, batch_answer, answer, read_answer, table_after}
use Rattle.editions.proofs.theorems.OneElement.{OneElement, late_nine, one_whole}
use Rattle.editions.proofs.theorems.OneWalk.{back, other_edition_lem, stops_at}
use Rattle.editions.proofs.theorems.Tables.{shown, with_room, read_alike, not_short}
use Rattle.editions.proofs.theorems.Accepting.{accepted_in_lem, in_element, in_counted, nest_read, nest_rows, one_nest, computed_rows, walk_in}

-- 10 or acceptance is not 9
never_nine : (long : ℕ × ℕ) (n : ℕ) → (long_id_or_accepted long n).number ≡ other_edition → ⊥
never_nine long n = go (eqb long.0 0)
  where
    go : (b : Bool) → (elim b as (λ x. Answer) [ true ↦ accepted n | false ↦ refusal long_cert_req_id long.1 ]).number ≡ other_edition → ⊥
    go true is = omega arith
    go false is = omega arith

-- bytes in a grammar have one list of differences
same_differences : {e : ℕ} (s : List ℕ) (g h : InGrammar e s) → occurrences g.batch ≡ occurrences h.batch
same_differences s g h =
    sym (trail_occurrences Top g.batch) ∙ ap (trail (start Top)) (one_nest s g h) ∙ trail_occurrences Top h.batch

module _ {e : ℕ} (s : List ℕ) (g : InGrammar e s) where
  -- the first of the list is the first in byte order
  pub first_difference : (o : Occurrence) (os : List Occurrence) → occurrences g.batch ≡ o ∷ os → FirstDifference e s o.place
  first_difference o os is = record {
    here = record { within = g; form = o; occurs = rw is (Memᴰ.head refl); stands = refl };
    least = λ q d. least q d (Memᴰ.cases_cons (rw (same_differences s d.within g ∙ is) at d.occurs));
  }
    where
      order : Ascends 0 (0 + length (encode g.nest)) (o ∷ os)
      order = rw is at (occurrences_ascend g.batch depth 0 g.formed)

      least : (q : ℕ) (d : Difference e s q) → (d.form ≡ o) ⊎ Memᴰ d.form os → o.place ≤ q
      least q d (inl same) = omega (arith, d.stands, ap (λ (x : Occurrence). x.place) same)
      least q d (inr later) = omega (arith, d.stands, ascends_least 0 (0 + length (encode g.nest)) o d.form os order later)

  -- the opposite edition's walk over it, by the differences
  opposite_walk : Edition e → (r : Tally) × ((own_walk e (tree 0 s) ≡ Passed r) × StopsAt (own_walk (opposite e) (tree 0 s)) (Passed r) (occurrences g.batch))
  opposite_walk ed = rw (nest_read s g) (other_walk Top g.batch empty_tally 0 ed)

  -- If none occurs, the bytes are in the opposite edition's grammar too.
  undiffering_in : Edition e → occurrences g.batch ≡ [] → InGrammar (opposite e) s
  undiffering_in ed none =
      let (r, (passed, alike)) = other_walk Top g.batch empty_tally 0 ed in
      record {
        short = g.short;
        nest = g.nest;
        formed = g.formed;
        single = g.single;
        encoded = g.encoded;
        batch = (accepts (λ x. eqb x (opposite e)) empty_tally Top 0 g.nest).0 (r, rw none at alike);
      }

  -- so it answers alike
  undiffering_answer : Edition e → Octets s → occurrences g.batch ≡ [] → answer (opposite e) s ≡ answer e s
  undiffering_answer ed octets none =
      in_counted s (undiffering_in ed none) (other_edition_lem ed) octets ∙ sym (in_counted s g ed octets)

  -- If one occurs, the opposite edition refuses with 9 at the first.
  differing_answer : Edition e → Octets s → (o : Occurrence) (os : List Occurrence) → occurrences g.batch ≡ o ∷ os
      → answer (opposite e) s ≡ refusal other_edition o.place
  differing_answer ed octets o os is =
      let (r, (passed, stops)) = opposite_walk ed in
      let (d, (q, broken)) = rw is at stops in
      let own : own_walk (opposite (opposite e)) (tree 0 s) ≡ Passed r = rw (back ed) passed in
      in_element s g (other_edition_lem ed) octets ∙ sym (stops_at (opposite e) o.place d q s 9 broken (rw own))

-- what an answer 9 without a table comes from: the opposite edition's grammar
nine_in : (e : ℕ) (s : List ℕ) → Octets s → (answer e s).number ≡ other_edition → InGrammar (opposite e) s
unfolding batch_answer
nine_in e s octets nine =
    let one = one_whole e s octets (late_nine nine) in
    by_walk one (own_walk e (tree 0 s)) refl (ap (λ (a : Answer). a.number) (sym one.same) ∙ nine)
  where
    by_other : OneElement e s → (p : ℕ) (w : Walked) → own_walk (opposite e) (tree 0 s) ≡ w → (refusal (eight_or_nine (walk_passes w)) p).number ≡ other_edition
        → InGrammar (opposite e) s
    by_other one p (Passed r) passed is = walk_in s octets one r passed
    by_other one p (Broken q d r) broken is = absurd (omega arith)

    by_walk : OneElement e s → (w : Walked) → own_walk e (tree 0 s) ≡ w → (batch_answer e s).number ≡ other_edition → InGrammar (opposite e) s
    by_walk one (Passed r) own is =
        absurd (never_nine (first_long (0, 0) (rows_of_input s)) (length (rows_of_input s)) (rw (batch_answer, own) at is))
    by_walk one (Broken p d r) own is = by_other one p (own_walk (opposite e) (tree 0 s)) refl (rw (batch_answer, own) at is)

-- so it is the refusal at the first difference
pub nine_first : {e : ℕ} → Edition e → (s : List ℕ) → Octets s → (answer e s).number ≡ other_edition
    → (p : ℕ) × ((answer e s ≡ refusal other_edition p) × FirstDifference (opposite e) s p)
nine_first {e} ed s octets nine = go (occurrences g.batch) refl
  where
    g : InGrammar (opposite e) s
    g = nine_in e s octets nine

    go : (os : List Occurrence) → occurrences g.batch ≡ os → (p : ℕ) × ((answer e s ≡ refusal other_edition p) × FirstDifference (opposite e) s p)
    go [] none =
        let own : InGrammar e s = rw (back ed) at (undiffering_in s g (other_edition_lem ed) none) in
        let is = ap (λ (a : Answer). a.number) (in_counted s own ed octets) in
        absurd (never_nine (first_long (0, 0) (rows_of_input s)) (length (rows_of_input s)) (sym is ∙ nine))
    go (o ∷ os) is = (o.place, (rw (back ed) at (differing_answer s g (other_edition_lem ed) octets o os is), first_difference s g o os is))

-- if a difference of the opposite edition occurs, the answer is 9, whatever the table
pub nine_where : {e : ℕ} → Edition e → (s old : List ℕ) → Octets s → (p : ℕ) → Difference (opposite e) s p → (read_answer e s old).number ≡ other_edition
nine_where {e} ed s old octets p d = go (occurrences d.within.batch) refl
  where
    go : (os : List Occurrence) → occurrences d.within.batch ≡ os → (read_answer e s old).number ≡ other_edition
    go [] none = absurd (Memᴰ.not-nil (rw none at d.occurs))
    go (o ∷ os) is =
        let nine : answer e s ≡ refusal other_edition o.place = rw (back ed) at (differing_answer s d.within (other_edition_lem ed) octets o os is) in
        let number = ap (λ (a : Answer). a.number) nine in
        ap (λ (a : Answer). a.number) (read_alike e s old (λ zero. omega arith)) ∙ number

-- Demand 3, for an edition and its opposite, any bytes, and any two tables.
module _ {e : ℕ} (ed : Edition e) (s old others : List ℕ) (octets : Octets s) where
  -- "if none of the listed differences occurs in the bytes, the opposite reader, lent a table of the same length, accepts them with the same
  -- count and the same rows, number for number"
  pub computed_same_rows : length others ≡ length old → (read_answer e s old).number ≡ acceptance → ((p : ℕ) → Difference e s p → ⊥)
      → (read_answer (opposite e) s others ≡ read_answer e s old)
      × (take (width * (read_answer e s old).count) (table_after (opposite e) s others) ≡ take (width * (read_answer e s old).count) (table_after e s old))
  computed_same_rows sized zero none =
      let found = shown e s old zero in
      let g = (accepted_in_lem e s octets found.zero).0 in
      let clear : occurrences g.batch ≡ [] = empty g (occurrences g.batch) refl in
      let h = undiffering_in s g ed clear in
      let alike = undiffering_answer s g ed octets clear in
      let room : fits (answer (opposite e) s).count others ≡ true =
      fits_room (answer (opposite e) s).count others ∙ ap₂ (λ (a : Answer) (n : ℕ). leb (width * a.count) n) alike sized
      ∙ sym (fits_room (answer e s).count old) ∙ found.room in
      let accepts-too = with_room (opposite e) s others (ap (λ (a : Answer). a.number) alike ∙ found.zero) room in
      let same = accepts-too ∙ alike ∙ sym found.same in
      let own = computed_rows s old octets zero g in
      let opposed = computed_rows s others octets (ap (λ (a : Answer). a.number) same ∙ zero) h in
      (same, rw same at opposed.first ∙ ap numbers (sym (nest_rows s h) ∙ nest_rows s g) ∙ sym own.first)
    where
      empty : (g : InGrammar e s) (os : List Occurrence) → occurrences g.batch ≡ os → os ≡ []
      empty g [] is = refl
      empty g (o ∷ os) is = absurd (none o.place (first_difference s g o os is).here)

  -- "if one occurs, it answers refusal 9"
  pub computed_differing : (read_answer e s old).number ≡ acceptance → (p : ℕ) → Difference e s p → (read_answer (opposite e) s others).number ≡ other_edition
  computed_differing zero p d = nine_where (other_edition_lem ed) s others octets p (rw (back ed) d)

  -- "a reader answers refusal 9 .. always at the first in byte order"
  pub computed_nine_least : (read_answer e s old).number ≡ other_edition → FirstDifference (opposite e) s (read_answer e s old).place
  computed_nine_least nine =
      let same = not_short e s old (λ zero. omega arith) (λ eleven. omega arith) in
      let (p, (is, first)) = nine_first ed s octets (ap (λ (a : Answer). a.number) (sym same) ∙ nine) in
      subst (FirstDifference (opposite e) s) (sym (ap (λ (a : Answer). a.place) (same ∙ is))) first

  -- "exactly when they are in the opposite edition's grammar and a listed difference occurs in them"
  pub computed_nine : ((read_answer e s old).number ≡ other_edition) ↔ ((p : ℕ) × Difference (opposite e) s p)
  computed_nine = (λ nine. ((read_answer e s old).place, (computed_nine_least nine).here), λ (p, d). nine_where ed s old octets p d)
