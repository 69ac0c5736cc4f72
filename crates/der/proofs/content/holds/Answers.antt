-- `der::content::holds` meets its contract: each arm's identifier picks its case of the definition. Assumes nothing.
use borrow.Author.Tests.{ne_eqb}
use mathlib.Core.Path.{◌≡◌, refl, ◌∙◌}
use mathlib.Core.List.{List, [], ◌∷◌}
use mathlib.Core.Logic.{inl, inr, ⊎_elim}
use Prim.Native.Nat.{ℕ}
use lib.Dec.{eqb, eqb-suc-zero}
use lib.ListN.{length}
use Rattle.der.specs.meaning.Content.{null}
use Rattle.der.specs.steps.ContentTest.{holds}
use Rattle.der.proofs.content.holds.Goals as goal

is_null : (content : List ℕ) → eqb (length content) 0 ≡ null content
unfolding null
is_null [] = refl
is_null (b ∷ bs) = eqb-suc-zero (length bs)

pub returns-in-1 : goal.returns-in-1
unfolding holds
returns-in-1 c = rw c.in-1.is c.boolean.ensures

pub returns-in-2 : goal.returns-in-2
unfolding holds
returns-in-2 c =
    ⊎_elim (λ e. rw e c.integer.ensures) (λ e. rw e c.integer.ensures) c.in-2.is

pub returns-in-3 : goal.returns-in-3
unfolding holds
returns-in-3 c = rw c.in-3.is c.bit_string.ensures

pub returns-in-5 : goal.returns-in-5
unfolding holds
returns-in-5 c = rw c.in-5.is (c.is_empty.ensures ∙ is_null c.args.content.now)

pub returns-in-6 : goal.returns-in-6
unfolding holds
returns-in-6 c = rw c.in-6.is c.object_identifier.ensures

pub returns-in-12 : goal.returns-in-12
unfolding holds
returns-in-12 c = rw c.in-12.is c.is_text.ensures

pub returns-in_default : goal.returns-in_default
unfolding holds
returns-in_default c =
    let r = c.in_default.in_default-own.rest in
    simp (
      holds,
      ne_eqb _ _ r.0.0.0.0.0.1,
      ne_eqb _ _ (λ e. r.0.0.0.0.1 (inl e)),
      ne_eqb _ _ r.0.0.0.1,
      ne_eqb _ _ r.0.0.1,
      ne_eqb _ _ r.0.1,
      ne_eqb _ _ (λ e. r.0.0.0.0.1 (inr e)),
      ne_eqb _ _ r.1,
    )
