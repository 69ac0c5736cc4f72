-- Two slices of octets are compared from the front: what is left of them tells whether they are the same, as long as no octet differs.
-- Assumes nothing.
use Rattle.std.proofs.Common.{ℕ, ◌≡◌, ◌∙◌, Bool, true, false, List, [], ◌∷◌, length, drop, get_or, nat_eq, refl, sym, ap, ap₂, arith}
use Rattle.std.proofs.lemmas.Bool.{eqb-true, eq-eqb, true≢false}
use mathlib.Core.Bool.{not, ◌||◌}
use mathlib.Core.Logic.{◌⊎◌, inl, inr}
use Rattle.compare.specs.steps.Lists.{Tells}

-- what is known after some octets: they differ, or the slices are the same exactly if what is left of them is, of one length
abbrev pub SoFar : Bool → List ℕ → List ℕ → List ℕ → List ℕ → Type 0
SoFar true one two p q = one ≡ two → ⊥
SoFar false one two p q = (length p ≡ length q) × (one ≡ two → p ≡ q) × (p ≡ q → one ≡ two)

pub other_lengths : (one two : List ℕ) → (length one ≡ length two → ⊥) → one ≡ two → ⊥
other_lengths one two other same = other (ap length same)

pub whole : (one two : List ℕ) → length one ≡ length two → SoFar false one two one two
whole one two same = (same, λ e. e, λ e. e)

-- octets of one value, and what follows them
module _ (one two p q : List ℕ) (a b : ℕ) (ps qs : List ℕ) (first : p ≡ a ∷ ps) (second : q ≡ b ∷ qs) (so : SoFar false one two p q) where
  both : one ≡ two → a ∷ ps ≡ b ∷ qs
  both same = sym first ∙ so.1 same ∙ second

  by_octet : (equal : Bool) → nat_eq a b ≡ equal → SoFar (not equal) one two ps qs
  by_octet true e = (
    omega (arith, ap length first, ap length second, so.0),
    λ same. ap (λ (l : List ℕ). drop 1 l) (both same),
    λ same. so.2 (first ∙ ap₂ (λ (x : ℕ) (l : List ℕ). x ∷ l) (eqb-true a b e) same ∙ sym second),
  )
  by_octet false e = λ same. true≢false (sym (eq-eqb a b (ap (λ (l : List ℕ). get_or l 0 0) (both same))) ∙ e)

pub next_octets : (differs : Bool) (one two p q : List ℕ) (a b : ℕ) (ps qs : List ℕ) → p ≡ a ∷ ps → q ≡ b ∷ qs → SoFar differs one two p q → SoFar (differs || not (nat_eq a b)) one two ps qs
next_octets true one two p q a b ps qs first second so = so
next_octets false one two p q a b ps qs first second so = by_octet one two p q a b ps qs first second so (nat_eq a b) refl

empty : (l : List ℕ) → length l ≡ 0 → l ≡ []
empty [] e = refl
empty (x ∷ l) e = let none : ⊥ = omega (arith, e) in elim none [ ]

pub no_octets : (differs : Bool) (one two p q : List ℕ) → (p ≡ []) ⊎ (q ≡ []) → SoFar differs one two p q → Tells (not differs) one two
no_octets true one two p q none so = so
no_octets false one two p q (inl e) so = so.2 (e ∙ sym (empty q (omega (arith, so.0, ap length e))))
no_octets false one two p q (inr e) so = so.2 (empty p (omega (arith, so.0, ap length e)) ∙ sym e)
