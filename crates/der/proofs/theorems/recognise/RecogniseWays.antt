-- The recogniser as the code takes it: the loop over the rest of a list of elements, with a law for each way on. The octets that are lent on are
-- written as in the code. Assumes nothing.
use Prim.Native.Nat.{ℕ, suc, ◌+◌, ◌-◌, ◌≤◌}
use mathlib.Core.Path.{◌≡◌, refl, sym, ap, ap₂, ◌∙◌}
use mathlib.Core.Bool.{Bool, true, false, not, ◌&&◌, ◌||◌, and-false, false≢true}
use mathlib.Core.List.{List, []}
use native.Mathlib.Omega.{arith}
use lib.ListN.{length, take, drop, get_or}
use lib.Seq.{slice}
use Rattle.std.proofs.lemmas.List.{get_or-take}
use Rattle.der.specs.declared.element.length.Span.{Span}
use Rattle.der.specs.steps.Span.{span_of}
use Rattle.der.specs.steps.Order.{ascends_from}
use Rattle.der.specs.steps.Recognise.{is_list, is_element}
use Rattle.der.specs.meaning.Bounds.{longest}
use Rattle.der.proofs.theorems.lists.Parts.{take_from}
use Rattle.der.proofs.theorems.recognise.Recognising.{is_list_none, is_list_step}
use Rattle.der.proofs.theorems.element.Spans.{span_fits}
use Rattle.der.proofs.theorems.closing.Ascends.{ascends_none}

-- There are octets, and the span at their start is known.
module _ (left : ℕ) (bs : List ℕ) (x : Span) (found : x ≡ span_of bs) (one : (span_of bs).octets ≡ 0 → ⊥) where
  -- with a level of depth left, the element there and the octets after it decide
  pub list_next : length bs ≤ longest → (left ≡ 0 → ⊥) → let end = x.octets + x.length in let member = take end bs in
      is_list left bs ≡ (is_element (get_or member 0 0) (left - 1) (take (length member - x.octets) (drop x.octets member)) && is_list left (drop end bs))
  list_next short level =
      let h = (span_of bs).octets in
      let n = (span_of bs).length in
      let more : left ≡ suc (left - 1) = omega arith in
      let fits = span_fits bs one in
      let first : get_or bs 0 0 ≡ get_or (take (h + n) bs) 0 0 = sym (get_or-take (h + n) bs 0 0 (omega arith)) in
      let content : slice h (h + n) bs ≡ take (length (take (h + n) bs) - h) (drop h (take (h + n) bs)) = sym (take_from h (take (h + n) bs)) in
      let step = is_list_step (left - 1) bs short one in
      rw found (cc (step, more, first, content))

-- The answer for the rest of a list, after the element before it, with a count that is enough: that there is no fault, and in a SET that the
-- elements ascend.
abbrev pub Rest : ℕ → ℕ → Bool → List ℕ → List ℕ → Bool
Rest n left set before bs = is_list left bs && (not set || ascends_from n before bs)

-- a fault there decides
pub rest_fault : (n left : ℕ) (set : Bool) (before bs : List ℕ) → is_list left bs ≡ false → Rest n left set before bs ≡ false
rest_fault n left set before bs fault = rw fault

-- after the last element
pub rest_done : (n left : ℕ) (set : Bool) (before bs : List ℕ) → bs ≡ [] → Rest n left set before bs ≡ true
rest_done n left set before bs all =
    ap₂ ◌&&◌ (ap (is_list left) all ∙ is_list_none left) (ap (λ (b : Bool). not set || b) (ap (ascends_from n before) all ∙ ascends_none n before) ∙ either_true (not set))
  where
    either_true : (b : Bool) → (b || true) ≡ true
    either_true true = refl
    either_true false = refl

-- What an element without a fault leaves to be answered: it doesn't descend, and then come those after it.
pub rest_on : (set descends list after : Bool) → (set && descends) ≡ false → (list && (not set || (not descends && after))) ≡ (list && (not set || after))
rest_on true false list after none = refl
rest_on true true list after none = absurd (false≢true (sym none))
rest_on false descends list after none = refl

-- one that descends in a SET
pub rest_descends : (set descends list after : Bool) → set ≡ true → descends ≡ true → (list && (not set || (not descends && after))) ≡ false
rest_descends set descends list after is does = rw (is, does) (and-false list)
