-- The tests of a SET's members as the code makes them: a law for each way on from `i` in two strings, and over the rest of a content. Assumes
-- nothing.
use Prim.Native.Nat.{ℕ, ◌+◌, ◌-◌, ◌≤◌, ◌<◌}
use mathlib.Core.Path.{◌≡◌, refl, ap, ◌∙◌}
use mathlib.Core.Bool.{Bool, false, not, ◌&&◌}
use mathlib.Core.List.{List, [], ◌∷◌}
use native.Mathlib.Omega.{arith}
use lib.Dec.{ltb}
use lib.ListN.{length, take, drop, length-drop}
use borrow.Author.Tests.{eq-eqb, ne_eqb}
use Rattle.der.specs.declared.element.length.Span.{Span}
use Rattle.der.specs.steps.Span.{span_of}
use Rattle.der.specs.steps.Order.{descends, ascends_from}
use Rattle.der.proofs.theorems.closing.Ascends.{ascends_next, ascends_enough}
use Rattle.der.proofs.theorems.element.Spans.{span_fits}

-- Both strings begin with an octet.
module _ {a b : ℕ} (x y : List ℕ) where
  -- it is the same in both
  pub same_octet : a ≡ b → descends (a ∷ x) (b ∷ y) ≡ descends x y
  unfolding descends
  same_octet same = rw (descends, eq-eqb a b same)

  -- it decides
  pub other_octet : (a ≡ b → ⊥) → descends (a ∷ x) (b ∷ y) ≡ ltb b a
  unfolding descends
  other_octet other = rw (descends, ne_eqb a b other)

-- one of them has none
pub descends_over : (a b : List ℕ) → (0 < length a → 0 < length b → ⊥) → descends a b ≡ false
unfolding descends
descends_over [] b over = refl
descends_over (x ∷ a) [] over = refl
descends_over (x ∷ a) (y ∷ b) over = absurd (over (omega arith) (omega arith))

-- There are octets, with a count that is enough, and the span at their start is known.
module _ (n : ℕ) (before bs : List ℕ) (x : Span) (some : 0 < length bs) (enough : length bs ≤ n) (found : x ≡ span_of bs) (one : (span_of bs).octets ≡ 0 → ⊥) where
  -- the element there is compared with the one before it, and then come those after it
  pub member_next : let end = x.octets + x.length in
      ascends_from n before bs ≡ (not (descends before (take end bs)) && ascends_from n (take end bs) (drop end bs))
  member_next =
      let end = (span_of bs).octets + (span_of bs).length in
      let rest = length-drop end bs in
      let fits = span_fits bs one in
      rw found
      (ascends_next n before bs some enough one
      ∙ ap (λ (r : Bool). not (descends before (take end bs)) && r) (ascends_enough (n - 1) n (take end bs) (drop end bs) (omega arith) (omega arith)))
