-- The answer by the cases of the code: each test that the code makes is the definition's. Assumes nothing.
use Prim.Native.Nat.{ℕ, ◌≤◌, ◌<◌}
use mathlib.Core.Path.{◌≡◌, refl, sym, ap, ◌∙◌}
use mathlib.Core.Bool.{Bool, true, false, not, ◌&&◌, ◌||◌}
use mathlib.Core.List.{List}
use Rattle.std.specs.Prelude.{Option, Some, None, is_none, unwrap_or}
use Rattle.std.proofs.lemmas.Option.{none-some, same_Some}
use lib.Dec.{eqb}
use lib.ListN.{length}
use borrow.Author.Tests.{eqb-true, eqb-false, eq-eqb, ne_eqb, lt-ltb, le-ltb, le-leb, lt-leb}
use native.Mathlib.Omega.{arith}
use Rattle.der.specs.meaning.Refusal.{long_cert_req_id, not_in_grammar, too_long_number, trailing_bytes, unknown_edition_number}
use Rattle.der.specs.steps.Nest.{End, Fault}
use Rattle.der.specs.meaning.Bounds.{longest}
use Rattle.der.specs.steps.Explain.{walk_at}
use Rattle.crmf.specs.steps.explain.Tally.{Tally}
use Rattle.editions.specs.meaning.Answer.{Answer}
use Rattle.editions.specs.meaning.Edition.{opposite}
use Rattle.editions.specs.steps.Reading.{refusal, accepted, batch_answer, answer}
use Rattle.editions.specs.steps.OneWalk.{form_of, first_form, stop_number, passed_answer, broken_answer}

-- what the place of the first form of an edition alone says of the form
module _ (e : ℕ) (s : Tally) where
  pub met : (q : ℕ) → first_form e s ≡ Some q → ((form_of e s).0 ≡ 0 → ⊥) × (q ≡ (form_of e s).1)
  met q = go (eqb (form_of e s).0 0) refl
    where
      go : (b : Bool) → eqb (form_of e s).0 0 ≡ b → elim b as (λ x. Option ℕ) [ true ↦ None | false ↦ Some (form_of e s).1 ] ≡ Some q
          → ((form_of e s).0 ≡ 0 → ⊥) × (q ≡ (form_of e s).1)
      go true test is = absurd (none-some q is)
      go false test is = (eqb-false _ _ test, sym (same_Some _ _ is))

  pub unmet : first_form e s ≡ None → (form_of e s).0 ≡ 0
  unmet = go (eqb (form_of e s).0 0) refl
    where
      go : (b : Bool) → eqb (form_of e s).0 0 ≡ b → elim b as (λ x. Option ℕ) [ true ↦ None | false ↦ Some (form_of e s).1 ] ≡ None
          → (form_of e s).0 ≡ 0
      go true test is = eqb-true _ _ test
      go false test is = absurd (none-some _ (sym is))

  pub none_met : is_none (first_form e s) ≡ eqb (form_of e s).0 0
  none_met = go (eqb (form_of e s).0 0)
    where
      go : (b : Bool) → is_none (elim b as (λ x. Option ℕ) [ true ↦ None | false ↦ Some (form_of e s).1 ]) ≡ b
      go true = refl
      go false = refl

-- the walk breaks: at the opposite edition's first form before the break, or at the break
pub broken_at : (e p : ℕ) (s : Tally) → refusal not_in_grammar (unwrap_or (first_form (opposite e) s) p) ≡ broken_answer e p s
unfolding broken_answer
broken_at e p s = go (eqb (form_of (opposite e) s).0 0)
  where
    go : (b : Bool) → refusal not_in_grammar (unwrap_or (elim b as (λ x. Option ℕ) [ true ↦ None | false ↦ Some (form_of (opposite e) s).1 ]) p)
        ≡ refusal not_in_grammar (elim b as (λ x. ℕ) [ true ↦ p | false ↦ (form_of (opposite e) s).1 ])
    go true = refl
    go false = refl

-- by the difference d and the place q of the opposite edition's first form that was met
module _ (e d q : ℕ) (s : Tally) (difference : d ≡ (form_of (opposite e) s).0) (place : q ≡ (form_of (opposite e) s).1) where
  pub passed_foreign : (own : ℕ) → own ≡ (form_of e s).0 → (d ≡ 0 → ⊥) → refusal (stop_number own) q ≡ passed_answer e s
  unfolding passed_answer
  passed_foreign own is some =
      let test : eqb (form_of (opposite e) s).0 0 ≡ false = ne_eqb _ _ (λ z. some (difference ∙ z)) in
      rw (passed_answer, test, place, is)

  pub passed_long : d ≡ 0 → (s.long.whole ≡ 0 → ⊥) → refusal long_cert_req_id s.long.place ≡ passed_answer e s
  unfolding passed_answer
  passed_long none some =
      let test : eqb (form_of (opposite e) s).0 0 ≡ true = eq-eqb _ _ (sym difference ∙ none) in
      rw (passed_answer, test) (ap (λ (b : Bool). elim b as (λ x. Answer) [ true ↦ accepted s.count | false ↦ refusal long_cert_req_id s.long.place ]) (sym (ne_eqb s.long.whole 0 some)))

  pub passed_accepted : d ≡ 0 → s.long.whole ≡ 0 → accepted s.count ≡ passed_answer e s
  unfolding passed_answer
  passed_accepted none short =
      let test : eqb (form_of (opposite e) s).0 0 ≡ true = eq-eqb _ _ (sym difference ∙ none) in
      rw (passed_answer, test) (ap (λ (b : Bool). elim b as (λ x. Answer) [ true ↦ accepted s.count | false ↦ refusal long_cert_req_id s.long.place ]) (sym (eq-eqb s.long.whole 0 short)))

-- a number that is neither 1 nor 2 is no edition, and any other is one
neither : (a b : Bool) → (not a && not b) ≡ true → (a || b) ≡ false
neither false false t = refl
neither false true t = absurd (eqb-false 0 0 (cc t) refl)
neither true b t = absurd (eqb-false 0 0 (cc t) refl)

either : (a b : Bool) → (not a && not b) ≡ false → (a || b) ≡ true
either false false t = sym t
either false true t = refl
either true b t = refl

-- the answer by the order of the refusals
module _ (e : ℕ) (s : List ℕ) where
  pub no_edition : (not (eqb e 1) && not (eqb e 2)) ≡ true → refusal unknown_edition_number 0 ≡ answer e s
  unfolding answer
  no_edition test = rw (answer, neither (eqb e 1) (eqb e 2) test)

  module _ (test : (not (eqb e 1) && not (eqb e 2)) ≡ false) where
    edition : (eqb e 1 || eqb e 2) ≡ true
    edition = either (eqb e 1) (eqb e 2) test

    -- it is one of the two
    pub in_range : (1 ≤ e) × (e ≤ 2)
    in_range = go (eqb e 1) refl
      where
        go : (b : Bool) → eqb e 1 ≡ b → (1 ≤ e) × (e ≤ 2)
        go true one = omega (arith, eqb-true e 1 one)
        go false more = omega (arith, eqb-true e 2 (rw more at edition))

    pub too_long : longest < length s → refusal too_long_number 0 ≡ answer e s
    unfolding answer
    too_long over = rw (answer, edition, lt-leb _ _ over)

    module _ (short : length s ≤ longest) where
      pub nest_fault : (n p d : ℕ) → walk_at s 0 (length s) ≡ Fault n p d → refusal n p ≡ answer e s
      unfolding answer
      nest_fault n p d is = rw (answer, edition, le-leb _ _ short, is)

      pub bytes_after : (q : ℕ) → walk_at s 0 (length s) ≡ End q → q < length s → refusal trailing_bytes q ≡ answer e s
      unfolding answer
      bytes_after q is more = rw (answer, edition, le-leb _ _ short, is, lt-ltb q (length s) more)

      pub one_element : (q : ℕ) → walk_at s 0 (length s) ≡ End q → length s ≤ q → batch_answer e s ≡ answer e s
      unfolding answer
      one_element q is whole = rw (answer, edition, le-leb _ _ short, is, le-ltb q (length s) whole)
