-- The text of an answer, by the tests that code makes. Assumes nothing.
use Prim.Native.Nat.{ℕ}
use mathlib.Core.Path.{◌≡◌}
use mathlib.Core.List.{[], ◌∷◌, ◌++◌}
use borrow.Author.Tests.{eq-eqb, ne_eqb}
use Rattle.format.specs.Decimal.{decimal}
use Rattle.format.specs.Answer.{refusal_text, and_not_zero_but, remark, answer_text}

module _ (n : ℕ) where
  pub remark_none : n ≡ 0 → remark n ≡ []
  unfolding remark
  remark_none is = rw (remark, eq-eqb n 0 is)

  pub remark_some : (n ≡ 0 → ⊥) → remark n ≡ and_not_zero_but ++ decimal n
  unfolding remark
  remark_some is = rw (remark, ne_eqb n 0 is)

module _ (number place count : ℕ) where
  pub answer_accepted : number ≡ 0 → answer_text number place count ≡ (0x30 ∷ 0x20 ∷ decimal count) ++ remark place
  unfolding answer_text
  answer_accepted is = rw (answer_text, eq-eqb number 0 is)

  pub answer_refused : (number ≡ 0 → ⊥) → answer_text number place count ≡ refusal_text number place ++ remark count
  unfolding answer_text
  answer_refused is = rw (answer_text, ne_eqb number 0 is)
