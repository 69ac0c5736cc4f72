-- The duplicate search's computed answer is exactly the one that `Searches` relates. Assumes nothing.
use Prim.Native.Nat.{ℕ}
use mathlib.Core.Logic.{◌↔◌}
use mathlib.Core.Path.{◌≡◌, refl, sym, ap, subst, ◌∙◌}
use mathlib.Core.Bool.{Bool, true, false}
use mathlib.Core.List.{List}
use Rattle.std.specs.Prelude.{Option, Some, None}
use lib.Dec.{eqb}
use borrow.Author.Tests.{eqb-true, eqb-false}
use Rattle.der.specs.meaning.Refusal.{accepted}
use Rattle.der.specs.meaning.Octets.{Octets}
use Rattle.editions.specs.meaning.Answer.{Answer}
use Rattle.editions.specs.steps.Reading.{answer}
use Rattle.editions.proofs.Laws.{answer_related, related_answer, accepted_related}
use Rattle.verdict.specs.steps.Answer.{Duplicates}
use Rattle.verdict.specs.meaning.Searches.{Searches, refused, pair, none}
use Rattle.verdict.specs.steps.SearchAnswer.{ids, pair_of, position, without_pair, searched, duplicates_answer}
use Rattle.verdict.proofs.theorems.duplicates.FirstPairs.{pair_found, pair_absent}
use Rattle.verdict.proofs.theorems.duplicates.SearchAnswers.{answer_refused, answer_searched, nest_ids}

-- an answer is related
abbrev Related : ℕ → List ℕ → Duplicates → Type 0
Related e s d = Searches e s d.number d.place d.found d.earlier.0 d.later.0

module _ (e : ℕ) (s : List ℕ) (octets : Octets s) where
  to_answer : (d : Duplicates) → d ≡ duplicates_answer e s → Related e s d → Related e s (duplicates_answer e s)
  to_answer d same = subst (Related e s) same

  by_pair : (answer e s).number ≡ accepted → (o : Option (ℕ × ℕ)) → pair_of (ids s) ≡ o → Related e s (duplicates_answer e s)
  by_pair zero None is =
      let (g, related) = accepted_related e s octets zero in
      to_answer (searched None) (sym (answer_searched e s zero ∙ ap searched is))
      (none related g (rw (nest_ids s g) at ((pair_absent (ids s)).0 is)))
  by_pair zero (Some (i, j)) is =
      let (g, related) = accepted_related e s octets zero in
      to_answer (searched (Some (i, j))) (sym (answer_searched e s zero ∙ ap searched is))
      (pair related g (rw (nest_ids s g) at ((pair_found (ids s) i j).0 is)))

  by_number : (b : Bool) → eqb (answer e s).number accepted ≡ b → Related e s (duplicates_answer e s)
  by_number true test = by_pair (eqb-true _ _ test) (pair_of (ids s)) refl
  by_number false test =
      let some-refusal = eqb-false _ _ test in
      to_answer (without_pair (answer e s).number (answer e s).place) (answer_refused e s (answer e s) refl some-refusal)
      (refused (answer_related e s octets) some-refusal)

  -- What is computed is related.
  pub search_related : Related e s (duplicates_answer e s)
  search_related = by_number (eqb (answer e s).number accepted) refl

  -- What is related is computed.
  pub related_search : (n p f i j : ℕ) → Searches e s n p f i j
      → duplicates_answer e s ≡ record { number = n; place = p; found = f; earlier = position i; later = position j }
  related_search n p f i j (refused {count = c} related some-refusal) =
      let is = related_answer e s octets n p c related in
      sym (answer_refused e s (record { number = n; place = p; count = c }) (sym is) some-refusal)
  related_search n p f i j (pair {count = c} related g first) =
      let zero = ap (λ (a : Answer). a.number) (related_answer e s octets accepted 0 c related) in
      answer_searched e s zero ∙ ap searched ((pair_found (ids s) i j).1 (rw (nest_ids s g) first))
  related_search n p f i j (none {count = c} related g no-pair) =
      let zero = ap (λ (a : Answer). a.number) (related_answer e s octets accepted 0 c related) in
      answer_searched e s zero ∙ ap searched ((pair_absent (ids s)).1 (rw (nest_ids s g) no-pair))

  -- The answer is exactly the one that `Searches` relates.
  pub searches_exactly : (n p f i j : ℕ) → Searches e s n p f i j
      ↔ (duplicates_answer e s ≡ record { number = n; place = p; found = f; earlier = position i; later = position j })
  searches_exactly n p f i j = (related_search n p f i j, λ same. subst (Related e s) same search_related)

  -- So an answer that equals the computed one is related.
  pub equal_search : (d : Duplicates) → d ≡ duplicates_answer e s → Related e s d
  equal_search d same = subst (Related e s) (sym same) search_related
