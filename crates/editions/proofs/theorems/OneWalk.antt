-- One walk that reads every form decides the answer of each edition: if it has met a form of the opposite edition alone, this edition's own
-- walk stops there; otherwise both answer alike. Assumes nothing.
use Prim.Native.Nat.{ℕ, ◌≤◌}
use mathlib.Core.Path.{◌≡◌, refl, sym, ap, ap₂, subst, ◌∙◌}
use mathlib.Core.Bool.{Bool, true, false, ◌&&◌}
use mathlib.Core.List.{List}
use lib.Dec.{eqb}
use lib.ListN.{length}
use borrow.Author.Tests.{eqb-true, eqb-false}
use native.Mathlib.Omega.{arith}
use Rattle.der.specs.meaning.Tree.{Tree}
use Rattle.der.specs.meaning.Bounds.{longest}
use Rattle.der.specs.steps.Reading.{tree}
use Rattle.crmf.specs.steps.explain.Tally.{Tally}
use Rattle.crmf.specs.steps.explain.Walk.{Walked, Passed, Broken}
use Rattle.crmf.specs.meaning.Notation.{Top}
use Rattle.crmf.specs.steps.grammar.Lines.{start}
use Rattle.crmf.specs.steps.explain.Walk.{walk, every, empty_tally, count_of}
use Rattle.crmf.specs.steps.explain.LongIds.{first_long}
use Rattle.crmf.specs.steps.rows.Fill.{rows_of_input}
use Rattle.crmf.proofs.Laws.{Edition, first_edition, second_edition, is_passed, foreign, own_alike, own_stops, own_passes, walk_passes_lem, seen_of, count_whole, whole_count, whole_long, none_met}
use Rattle.editions.specs.meaning.Edition.{opposite}
use Rattle.editions.specs.steps.Reading.{refusal, own_walk, walk_passes, eight_or_nine, long_id_or_accepted, batch_answer}
use Rattle.editions.specs.steps.OneWalk.{form_of, stop_number, passed_answer, broken_answer}

-- a number from 1 to 2 is an edition
pub edition : (e : ℕ) → 1 ≤ e → e ≤ 2 → Edition e
edition e low high = go (eqb e 1) refl
  where
    go : (b : Bool) → eqb e 1 ≡ b → Edition e
    go true one = subst Edition (sym (eqb-true e 1 one)) first_edition
    go false more = subst Edition (the_second (eqb-false e 1 more)) second_edition
      where
        the_second : (e ≡ 1 → ⊥) → 2 ≡ e
        the_second other_one = omega arith

-- the opposite of the opposite is this edition
pub back : {e : ℕ} → Edition e → opposite (opposite e) ≡ e
back first_edition = refl
back second_edition = refl

-- the opposite is an edition
pub other_edition_lem : {e : ℕ} → Edition e → Edition (opposite e)
other_edition_lem first_edition = second_edition
other_edition_lem second_edition = first_edition

-- a walk passes by both tests
passes_alike : (w : Walked) → walk_passes w ≡ is_passed w
passes_alike (Passed r) = refl
passes_alike (Broken p d r) = refl

-- this edition's own walk stops: 9 or 8, by whether the opposite edition's passes
pub stops_at : (e q d : ℕ) (r : Tally) (s : List ℕ) (n : ℕ) → own_walk e (tree 0 s) ≡ Broken q d r
    → eight_or_nine (walk_passes (own_walk (opposite e) (tree 0 s))) ≡ n → refusal n q ≡ batch_answer e s
unfolding batch_answer
stops_at e q d r s n own number = rw (batch_answer, own, number)

-- it passes: 10 or acceptance
pub goes_through : (e : ℕ) (r : Tally) (s : List ℕ) → own_walk e (tree 0 s) ≡ Passed r
    → batch_answer e s ≡ long_id_or_accepted (first_long (0, 0) (rows_of_input s)) (length (rows_of_input s))
unfolding batch_answer
goes_through e r s own = rw (batch_answer, own)

module _ {e : ℕ} (ed : Edition e) (s : List ℕ) (short : length s ≤ longest) (w : Walked) (is : count_of s ≡ w) where
  abbrev t : Tree
  t = tree 0 s

  walked : walk every empty_tally (start Top) 0 t ≡ w
  walked = sym (count_whole s short) ∙ is

  -- without a form of the opposite edition this edition's own walk answers alike
  own_clear : eqb (form_of (opposite e) (seen_of w)).0 0 ≡ true → own_walk e t ≡ w
  own_clear clear =
      own_alike ed empty_tally (start Top) 0 t (none_met ed) (ap (λ (v : Walked). (foreign e v).0) walked ∙ eqb-true _ _ clear) ∙ walked

  -- with one it stops at the first
  own_stop : eqb (form_of (opposite e) (seen_of w)).0 0 ≡ false
      → (d : ℕ) × ((r : Tally) × (own_walk e t ≡ Broken (form_of (opposite e) (seen_of w)).1 d r))
  own_stop some =
      let (o, first, met, (r, stops)) =
      own_stops ed empty_tally (start Top) 0 t (none_met ed) (λ z. eqb-false _ _ some (sym (ap (λ (v : Walked). (foreign e v).0) walked) ∙ z)) in
      subst (λ (v : Walked). (d : ℕ) × ((r : Tally) × (own_walk e t ≡ Broken (foreign e v).1 d r))) walked (o.detail, (r, stops))

  -- the opposite edition's walk passes if the walk that reads every form does and has met no form of this edition alone
  opposite_passes : walk_passes (own_walk (opposite e) t) ≡ (is_passed w && eqb (form_of e (seen_of w)).0 0)
  opposite_passes =
      passes_alike (own_walk (opposite e) t) ∙ own_passes (other_edition_lem ed) empty_tally (start Top) 0 t (none_met (other_edition_lem ed))
      ∙ ap₂ (λ (a b : Bool). a && b) (sym (walk_passes_lem empty_tally (start Top) 0 t) ∙ ap is_passed walked)
      (ap₂ (λ (x : ℕ) (v : Walked). eqb (form_of x (seen_of v)).0 0) (back ed) walked)

  -- this decides the number if this edition's walk stops
  stop_number_lem : eight_or_nine (walk_passes (own_walk (opposite e) t)) ≡ eight_or_nine (is_passed w && eqb (form_of e (seen_of w)).0 0)
  stop_number_lem = ap eight_or_nine opposite_passes

module _ {e : ℕ} (ed : Edition e) (s : List ℕ) (short : length s ≤ longest) where
  pub batch_passed : (r : Tally) → count_of s ≡ Passed r → passed_answer e r ≡ batch_answer e s
  unfolding passed_answer batch_answer
  batch_passed r is = go (eqb (form_of (opposite e) r).0 0) refl
    where
      go : (b : Bool) → eqb (form_of (opposite e) r).0 0 ≡ b → passed_answer e r ≡ batch_answer e s
      go true clear =
          rw (passed_answer, clear)
          (ap₂ long_id_or_accepted (sym (whole_long s short r is)) (sym (whole_count s short r is)) ∙ sym (goes_through e r s (own_clear ed s short (Passed r) is clear)))
      go false some =
          let (d, (q, stops)) = own_stop ed s short (Passed r) is some in
          rw (passed_answer, some)
          (stops_at e (form_of (opposite e) r).1 d q s (stop_number (form_of e r).0) stops (stop_number_lem ed s short (Passed r) is))

  pub batch_broken : (p d : ℕ) (r : Tally) → count_of s ≡ Broken p d r → broken_answer e p r ≡ batch_answer e s
  unfolding broken_answer
  batch_broken p d r is = go (eqb (form_of (opposite e) r).0 0) refl
    where
      number : eight_or_nine (walk_passes (own_walk (opposite e) (tree 0 s))) ≡ 8
      number = stop_number_lem ed s short (Broken p d r) is

      go : (b : Bool) → eqb (form_of (opposite e) r).0 0 ≡ b → broken_answer e p r ≡ batch_answer e s
      go true clear = rw (broken_answer, clear) (stops_at e p d r s 8 (own_clear ed s short (Broken p d r) is clear) number)
      go false some =
          let (f, (q, stops)) = own_stop ed s short (Broken p d r) is some in
          rw (broken_answer, some) (stops_at e (form_of (opposite e) r).1 f q s 8 stops number)
