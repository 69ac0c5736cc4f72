-- The test over a SET's content is exact: octets that consist of elements ascend, as the code goes along them, exactly if the elements do.
-- Assumes nothing.
use Prim.Native.Nat.{ℕ, zero, suc, ◌+◌, ◌-◌, ◌≤◌, ◌<◌}
use mathlib.Core.Path.{◌≡◌, refl, sym, ap, ◌∙◌}
use mathlib.Core.Logic.{◌↔◌}
use mathlib.Core.Bool.{Bool, true, false, not, ◌&&◌, false≢true, and-eq-true_iff}
use mathlib.Core.List.{List, [], ◌∷◌}
use native.Mathlib.Numerals.{sub-one}
use native.Mathlib.Omega.{arith}
use lib.Dec.{eqb}
use lib.ListN.{length, take, drop, get_or, length-drop}
use borrow.Author.Tests.{eqb-true, eqb-false, eq-eqb, ne_eqb, not-true}
use Rattle.der.specs.steps.Head.{Stands}
use Rattle.der.specs.meaning.Bounds.{longest}
use Rattle.der.specs.meaning.Identifier.{allowed}
use Rattle.der.specs.meaning.Fault.{Headed, Members}
use Rattle.der.specs.meaning.Order.{Precedes, Ascending}
use Rattle.der.specs.steps.Span.{span_of}
use Rattle.der.specs.steps.Order.{descends, ascends_from, ascends}
use Rattle.der.proofs.theorems.closing.WholeElements.{Whole, member_whole, descends_exact, descends_none}
use Rattle.der.proofs.theorems.element.Headers.{headed_stands, head_fits}
use Rattle.der.proofs.theorems.element.Spans.{span_fits, span_stands, span_broken}
use Rattle.der.proofs.theorems.explain.Steps.{stands_broken}

-- no octets ascend
pub ascends_none : (n : ℕ) (before : List ℕ) → ascends_from n before [] ≡ true
unfolding ascends_from
ascends_none zero before = refl
ascends_none (suc n) before = refl

-- Octets, with a count that is enough.
module _ (n : ℕ) (before bs : List ℕ) (some : 0 < length bs) (enough : length bs ≤ n) where
  abbrev end : ℕ
  end = (span_of bs).octets + (span_of bs).length

  -- they begin with no element
  pub ascends_lost : (span_of bs).octets ≡ 0 → ascends_from n before bs ≡ false
  unfolding ascends_from
  ascends_lost lost = go n bs some enough lost
    where
      go : (n : ℕ) (bs : List ℕ) → 0 < length bs → length bs ≤ n → (span_of bs).octets ≡ 0 → ascends_from n before bs ≡ false
      go n [] some enough lost = absurd (omega arith)
      go zero (b ∷ bs) some enough lost = absurd (omega arith)
      go (suc n) (b ∷ bs) some enough lost = rw (ascends_from, eq-eqb _ 0 lost)

  -- they begin with one: it and the one before it decide, and then those after it
  pub ascends_next : ((span_of bs).octets ≡ 0 → ⊥) → ascends_from n before bs ≡ (not (descends before (take end bs)) && ascends_from (n - 1) (take end bs) (drop end bs))
  unfolding ascends_from
  ascends_next found = go n bs some enough found
    where
      go : (n : ℕ) (bs : List ℕ) → 0 < length bs → length bs ≤ n → ((span_of bs).octets ≡ 0 → ⊥) → let end = (span_of bs).octets + (span_of bs).length in
          ascends_from n before bs ≡ (not (descends before (take end bs)) && ascends_from (n - 1) (take end bs) (drop end bs))
      go n [] some enough found = absurd (omega arith)
      go zero (b ∷ bs) some enough found = absurd (omega arith)
      go (suc n) (b ∷ bs) some enough found = rw (ascends_from, ne_eqb _ 0 found, sub-one)

-- They have one answer with all counts that are enough.
pub ascends_enough : (n m : ℕ) (before bs : List ℕ) → length bs ≤ n → length bs ≤ m → ascends_from n before bs ≡ ascends_from m before bs
ascends_enough zero m before [] enough also = ascends_none zero before ∙ sym (ascends_none m before)
ascends_enough zero m before (b ∷ bs) enough also = absurd (omega arith)
ascends_enough (suc n) m before [] enough also = ascends_none (suc n) before ∙ sym (ascends_none m before)
ascends_enough (suc n) m before (b ∷ bs) enough also = go (ascends_enough n (m - 1)) (eqb (span_of (b ∷ bs)).octets 0) refl
  where
    go : ((before bs : List ℕ) → length bs ≤ n → length bs ≤ m - 1 → ascends_from n before bs ≡ ascends_from (m - 1) before bs)
        → (t : Bool) → eqb (span_of (b ∷ bs)).octets 0 ≡ t → ascends_from (suc n) before (b ∷ bs) ≡ ascends_from m before (b ∷ bs)
    go later true lost =
        ascends_lost (suc n) before (b ∷ bs) (omega arith) enough (eqb-true _ 0 lost)
        ∙ sym (ascends_lost m before (b ∷ bs) (omega arith) also (eqb-true _ 0 lost))
    go later false found =
        let some = eqb-false _ 0 found in
        let fits = span_fits (b ∷ bs) some in
        let end = (span_of (b ∷ bs)).octets + (span_of (b ∷ bs)).length in
        let left = length-drop end (b ∷ bs) in
        let fewer : suc n - 1 ≡ n = omega arith in
        ascends_next (suc n) before (b ∷ bs) (omega arith) enough some
        ∙ ap (λ (t : Bool). not (descends before (take end (b ∷ bs))) && t)
        (ap (λ (k : ℕ). ascends_from k (take end (b ∷ bs)) (drop end (b ∷ bs))) fewer
        ∙ later (take end (b ∷ bs)) (drop end (b ∷ bs)) (omega arith) (omega arith))
        ∙ sym (ascends_next m before (b ∷ bs) (omega arith) also some)

-- a header that stands is the span
headed_span : (bs : List ℕ) (id h n : ℕ) → length bs ≤ longest → Headed bs id h n → ((span_of bs).octets ≡ h) × ((span_of bs).length ≡ n)
headed_span bs id h n short e = go (eqb (span_of bs).octets 0) refl
  where
    first : get_or bs 0 0 ≡ id
    first = ap (λ (l : List ℕ). get_or l 0 0) e.split

    go : (t : Bool) → eqb (span_of bs).octets 0 ≡ t → ((span_of bs).octets ≡ h) × ((span_of bs).length ≡ n)
    go true lost = stands_broken (headed_stands e) (span_broken bs short (eqb-true _ 0 lost))
    go false found =
        let same : Stands (get_or bs 0 0) (span_of bs).octets (span_of bs).length ≡ Stands id h n =
        sym (span_stands bs (eqb-false _ 0 found) (ap allowed first ∙ e.known)) ∙ headed_stands e in
        (cc, cc)

-- If the code's comparison with the element before is exact, so is its test of the elements after it.
pub ascends_exact : (n : ℕ) (before bs : List ℕ) {ms : List (List ℕ)} → Members bs ms → length bs ≤ longest → length bs ≤ n
    → ((m : List ℕ) → Whole m → descends before m ≡ true ↔ Precedes m before) → ascends_from n before bs ≡ true ↔ Ascending (before ∷ ms)
unfolding Ascending
ascends_exact n before bs Members.none short enough decides = (λ is. tt, λ up. ascends_none n before)
ascends_exact n before bs (Members.member {ms} id h k e rest) short enough decides =
    let m = take (h + k) bs in
    let fits = head_fits bs id h k (headed_stands e) in
    let (front, size) = headed_span bs id h k short e in
    let whole = member_whole bs id h k e in
    let left = length-drop (h + k) bs in
    let stepped : ascends_from n before bs ≡ (not (descends before m) && ascends_from (n - 1) m (drop (h + k) bs)) =
    rw (front, size) at (ascends_next n before bs (omega arith) enough (λ none. omega arith)) in
    let others = ascends_exact (n - 1) m (drop (h + k) bs) rest (omega arith) (omega arith) (λ x one. descends_exact m x whole one) in (
      λ is.
          let (kept, up) = (and-eq-true_iff _ _).0 (sym stepped ∙ is) in
          (λ p. false≢true (sym (not-true _ kept) ∙ (decides m whole).1 p), others.0 up),
      λ (kept, up). stepped ∙ (and-eq-true_iff _ _).1 (unlike (descends before m) refl (λ is. kept ((decides m whole).0 is)), others.1 up),
    )
  where
    unlike : (t : Bool) → {u : Bool} → u ≡ t → (u ≡ true → ⊥) → not u ≡ true
    unlike true is never = absurd (never is)
    unlike false is never = rw is

-- The test from the first element on is exact.
pub members_ascend : (bs : List ℕ) {ms : List (List ℕ)} → Members bs ms → length bs ≤ longest → ascends bs ≡ true ↔ Ascending ms
unfolding ascends Ascending descends
members_ascend bs {ms} listed short =
    let (to, from) = ascends_exact (length bs) [] bs listed short (omega arith) (λ m whole. descends_none m) in
    (λ is. tail ms (to is), λ up. from (front ms up))
  where
    tail : (ms : List (List ℕ)) → Ascending ([] ∷ ms) → Ascending ms
    tail [] up = tt
    tail (m ∷ ms) up = up.1

    front : (ms : List (List ℕ)) → Ascending ms → Ascending ([] ∷ ms)
    front [] up = tt
    front (m ∷ ms) up = (λ p. false≢true ((descends_none m).1 p), up)
