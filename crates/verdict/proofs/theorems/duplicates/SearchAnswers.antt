-- What the search answers of a batch that an edition accepts: the first pair of its messages with equal certReqIds, or that there is none; and
-- which messages these are. Assumes nothing.
use Prim.Native.Nat.{ℕ}
use native.Mathlib.Omega.{arith}
use mathlib.Core.Logic.{◌↔◌}
use mathlib.Core.Path.{◌≡◌, refl, sym, ap, ap₂, ◌∙◌}
use mathlib.Core.List.{List}
use Rattle.std.specs.Prelude.{Option, Some, None, option_map}
use borrow.Author.Tests.{eq-eqb, ne_eqb}
use Rattle.der.specs.meaning.Refusal.{accepted}
use Rattle.crmf.specs.meaning.Messages.{messages}
use Rattle.editions.specs.meaning.Answer.{Answer}
use Rattle.editions.specs.meaning.Membership.{InGrammar}
use Rattle.editions.specs.steps.Reading.{answer}
use Rattle.editions.proofs.Laws.{nest_read}
use Rattle.verdict.specs.steps.Answer.{Duplicates}
use Rattle.verdict.specs.declared.duplicates.Pair.{Pair}
use Rattle.verdict.specs.meaning.Duplicates.{own_ids, Equal, FirstEqual}
use Rattle.verdict.specs.steps.SearchAnswer.{ids, pair_of, pair_at, without_pair, searched, duplicates_answer}
use Rattle.verdict.specs.steps.Results.{pair_told}
use Rattle.verdict.proofs.theorems.duplicates.FirstPairs.{pair_found, pair_absent}

-- a refusal is passed on
pub answer_refused : (e : ℕ) (s : List ℕ) (a : Answer) → a ≡ answer e s → (a.number ≡ accepted → ⊥)
    → without_pair a.number a.place ≡ duplicates_answer e s
unfolding duplicates_answer
answer_refused e s a is not = rw (is, duplicates_answer, ne_eqb (answer e s).number 0 (rw is at not))

-- different answers are of different pairs
same_pair : (o p : Option (ℕ × ℕ)) → searched o ≡ searched p → o ≡ p
same_pair None None e = refl
same_pair None (Some p) e = absurd (omega (arith, ap (λ (d : Duplicates). d.found) e))
same_pair (Some o) None e = absurd (omega (arith, ap (λ (d : Duplicates). d.found) e))
same_pair (Some o) (Some p) e =
    ap₂ (λ (i j : ℕ). Some (i, j)) (ap (λ (d : Duplicates). d.earlier.0) e) (ap (λ (d : Duplicates). d.later.0) e)

-- what the code's search has found is answered as the definition's
searched_told : (o : Option (ℕ × ℕ)) → pair_told (option_map pair_at o) ≡ searched o
searched_told None = refl
searched_told (Some p) = refl

module _ (e : ℕ) (s : List ℕ) (zero : (answer e s).number ≡ accepted) where
  -- an accepted batch is searched
  pub answer_searched : duplicates_answer e s ≡ searched (pair_of (ids s))
  unfolding duplicates_answer
  answer_searched = rw (duplicates_answer, eq-eqb (answer e s).number 0 zero)

  pub answer_told : (found : Option Pair) → found ≡ option_map pair_at (pair_of (ids s)) → pair_told found ≡ duplicates_answer e s
  answer_told found is = ap pair_told is ∙ searched_told (pair_of (ids s)) ∙ sym answer_searched

  -- For an accepted batch, a pair is answered exactly if it is the first.
  pub pair_exactly : (i j : ℕ) → (duplicates_answer e s ≡ searched (Some (i, j))) ↔ FirstEqual (ids s) i j
  pair_exactly i j = (
    λ is. (pair_found (ids s) i j).0 (same_pair (pair_of (ids s)) (Some (i, j)) (sym answer_searched ∙ is)),
    λ first. answer_searched ∙ ap searched ((pair_found (ids s) i j).1 first),
  )

  -- That there is none is answered exactly if no two certReqIds are equal.
  pub none_exactly : (duplicates_answer e s ≡ searched None) ↔ ((i j : ℕ) → Equal (ids s) i j → ⊥)
  none_exactly = (
    λ is. (pair_absent (ids s)).0 (same_pair (pair_of (ids s)) None (sym answer_searched ∙ is)),
    λ none. answer_searched ∙ ap searched ((pair_absent (ids s)).1 none),
  )

-- The messages that are searched are those of the bytes' one tree: "messages' own certReqIds", and so no carried one.
pub nest_ids : {e : ℕ} (s : List ℕ) (g : InGrammar e s) → ids s ≡ own_ids (messages g.nest)
unfolding ids
nest_ids s g = ap own_ids (ap messages (nest_read s g))
