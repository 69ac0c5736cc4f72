-- The walk goes forward: an element ends past its first byte and within its octets, so a list of elements ends where its octets do, and
-- any count that is at least their number gives the same answer. Assumes nothing.
use Prim.Native.Nat.{ℕ, zero, suc, ◌+◌, ◌-◌, ◌≤◌, ◌<◌}
use native.Mathlib.Numerals.{sub-one}
use native.Mathlib.Omega.{arith}
use mathlib.Core.Path.{◌≡◌, refl, sym, ◌∙◌}
use mathlib.Core.Bool.{Bool, true, false}
use mathlib.Core.List.{List, [], ◌∷◌}
use lib.ListN.{length, take, drop, length-drop}
use Rattle.der.specs.steps.Head.{Head, Stands, Broken}
use Rattle.der.specs.steps.Nest.{Nest, End, Fault}
use Rattle.der.specs.meaning.Identifier.{constructed}
use Rattle.der.specs.steps.Header.{head_of}
use Rattle.der.specs.steps.ContentTest.{holds}
use Rattle.der.specs.steps.Order.{closes}
use Rattle.der.specs.steps.Explain.{list_of, by_rule, after_inside, element_of}
use Rattle.der.proofs.theorems.element.Headers.{head_fits}
use Rattle.der.proofs.theorems.lists.Parts.{length_part}
use Rattle.der.proofs.theorems.explain.Steps.{element_broken, element_inside, element_value, rule_kept, rule_broken, after_end, after_fault, list_empty, list_next, list_stop, end_fault}

-- each element that ends does so two octets or more past its first byte, and within its octets
abbrev pub Forward : (ℕ → List ℕ → Nest) → Type 0
Forward judge = (p q : ℕ) (bs : List ℕ) → judge p bs ≡ End q → (p + 2 ≤ q) × (q ≤ p + length bs)

-- Induction along a list, over the place, the octets from there on and the answer: what holds of no octets and of a first element with a
-- fault, and holds before an element that ends if it does after it, holds of the list.
module _ (judge : ℕ → List ℕ → Nest) (on : Forward judge) (Holds : ℕ → List ℕ → Nest → Type 0) (empty : (p : ℕ) → Holds p [] (End p))
    (stop : (p : ℕ) (bs : List ℕ) (m q k : ℕ) → 0 < length bs → judge p bs ≡ Fault m q k → Holds p bs (Fault m q k))
    (next : (p : ℕ) (bs : List ℕ) (q : ℕ) (r : Nest) → 0 < length bs → judge p bs ≡ End q → Holds q (drop (q - p) bs) r → Holds p bs r) where
  pub list_along : (n p : ℕ) (bs : List ℕ) → length bs ≤ n → Holds p bs (list_of judge n p bs)
  list_along zero p [] enough = rw list_empty (empty p)
  list_along zero p (b ∷ bs) enough = absurd (omega arith)
  list_along (suc n) p [] enough = rw list_empty (empty p)
  list_along (suc n) p (b ∷ bs) enough = go (judge p (b ∷ bs)) refl (list_along n)
    where
      go : (r : Nest) → judge p (b ∷ bs) ≡ r → ((q : ℕ) (cs : List ℕ) → length cs ≤ n → Holds q cs (list_of judge n q cs))
          → Holds p (b ∷ bs) (list_of judge (suc n) p (b ∷ bs))
      go (End q) e further =
          let past = on p q (b ∷ bs) e in
          let left : length (drop (q - p) (b ∷ bs)) ≤ n = simp length-drop (omega arith) in
          rw (list_next judge (suc n) p (b ∷ bs) (omega arith) enough e, sub-one)
          (next p (b ∷ bs) q (list_of judge n q (drop (q - p) (b ∷ bs))) (omega arith) e (further q (drop (q - p) (b ∷ bs)) left))
      go (Fault m q k) e further = rw (list_stop judge (suc n) p (b ∷ bs) (omega arith) enough e) (stop p (b ∷ bs) m q k (omega arith) e)

module _ (judge : ℕ → List ℕ → Nest) (on : Forward judge) where
  -- A list that ends does so where its octets do.
  list_end : (n p : ℕ) (bs : List ℕ) → length bs ≤ n → (q : ℕ) → list_of judge n p bs ≡ End q → q ≡ p + length bs
  list_end =
      list_along judge on (λ p bs r. (q : ℕ) → r ≡ End q → q ≡ p + length bs)
      (λ p q e. (let z : p ≡ q = cc in omega arith))
      (λ p bs m x k some faulty q e. end_fault e refl)
      (λ p bs x r some ends further q e.
      omega (arith, further q e, on p x bs ends, length-drop (x - p) bs))

  -- A list has one answer with all counts of at least its octets' number.
  pub list_enough : (n p : ℕ) (bs : List ℕ) → length bs ≤ n → (m : ℕ) → length bs ≤ m → list_of judge n p bs ≡ list_of judge m p bs
  list_enough =
      list_along judge on (λ p bs r. (m : ℕ) → length bs ≤ m → r ≡ list_of judge m p bs)
      (λ p m enough. sym (list_empty judge m p))
      (λ p bs x q k some faulty m enough. sym (list_stop judge m p bs some enough faulty))
      (λ p bs q r some ends further m enough.
      further (m - 1) (simp length-drop (omega (arith, on p q bs ends))) ∙ sym (list_next judge m p bs some enough ends))

-- What an end of the walk over an element, with levels of depth left, says of its header and its content.
pub record Ended (left p q : ℕ) (bs : List ℕ) : Type 0 where
  pub identifier : ℕ
  pub before : ℕ
  pub size : ℕ
  pub stands : head_of bs ≡ Stands identifier before size
  pub listed : constructed identifier ≡ true → list_of (element_of left) size (p + before) (take size (drop before bs)) ≡ End q
  pub closed : constructed identifier ≡ true → closes identifier (take size (drop before bs)) ≡ true
  pub valued : constructed identifier ≡ false → holds identifier (take size (drop before bs)) ≡ true
  pub ends : q ≡ p + (before + size)

-- only an element that keeps its rule ends
rule_end : (p q id e : ℕ) (kept : Bool) → by_rule kept p q id ≡ End e → (kept ≡ true) × (e ≡ q)
rule_end p q id e true ends = (refl, cc (rule_kept p q id {kept = true} refl))
rule_end p q id e false ends = end_fault ends (rule_broken p q id {kept = false} refl)

-- only one whose inside ends there too
inside_end : (p id e : ℕ) (c : List ℕ) (r : Nest) → after_inside p id c r ≡ End e → (r ≡ End e) × (closes id c ≡ true)
inside_end p id e c (End q) ends = let (kept, same) = rule_end p q id e (closes id c) (sym (after_end p id c q) ∙ ends) in (rw same, kept)
inside_end p id e c (Fault m q k) ends = end_fault ends (after_fault p id c m q k)

-- An element that ends, if those inside it go forward.
module _ (left : ℕ) (on : Forward (element_of left)) (p q : ℕ) (bs : List ℕ) (e : element_of (suc left) p bs ≡ End q) where
  module _ (id h n : ℕ) (stands : head_of bs ≡ Stands id h n) where
    -- what is inside a constructed one ends there too, and the rule at its end is kept
    listed : constructed id ≡ true
        → (list_of (element_of left) n (p + h) (take n (drop h bs)) ≡ End q) × (closes id (take n (drop h bs)) ≡ true)
    listed made = inside_end p id q (take n (drop h bs)) _ (sym (element_inside left p bs stands made) ∙ e)

    -- the content of a primitive one holds
    valued : constructed id ≡ false → (holds id (take n (drop h bs)) ≡ true) × (q ≡ p + h + n)
    valued plain = rule_end p (p + h + n) id q (holds id (take n (drop h bs))) (sym (element_value left p bs stands plain) ∙ e)

    -- both end where the header says
    ends : (b : Bool) → constructed id ≡ b → q ≡ p + (h + n)
    ends false plain = omega (arith, (valued plain).1)
    ends true made =
        let size = length_part bs h n (head_fits bs id h n stands).1 in
        omega (arith, list_end (element_of left) on n (p + h) (take n (drop h bs)) (omega arith) q (listed made).0)

  -- its header stands
  ended : (r : Head) → head_of bs ≡ r → Ended left p q bs
  ended (Broken c) broken = end_fault e (element_broken left p bs broken)
  ended (Stands id h n) stands =
      record {
        identifier = id;
        before = h;
        size = n;
        stands = stands;
        listed = λ made. (listed id h n stands made).0;
        closed = λ made. (listed id h n stands made).1;
        valued = λ plain. (valued id h n stands plain).0;
        ends = ends id h n stands (constructed id) refl;
      }

-- without a level of depth left no element ends
pub element_deep : {A : Type 0} (p q : ℕ) (bs : List ℕ) → element_of zero p bs ≡ End q → A
unfolding element_of
element_deep p q bs ends = end_fault ends refl

-- An element ends two octets or more past its first byte, and within its octets.
pub element_progress : (left p q : ℕ) (bs : List ℕ) → element_of left p bs ≡ End q → (p + 2 ≤ q) × (q ≤ p + length bs)
element_progress zero p q bs e = element_deep p q bs e
element_progress (suc left) p q bs e =
    let d = ended left (element_progress left) p q bs e (head_of bs) refl in
    omega (arith, d.ends, head_fits bs d.identifier d.before d.size d.stands)

-- An element that ends has a header that stands, and a content that ends or holds.
pub element_end : (left p q : ℕ) (bs : List ℕ) → element_of (suc left) p bs ≡ End q → Ended left p q bs
element_end left p q bs e = ended left (element_progress left) p q bs e (head_of bs) refl

-- An element that ends, with any number of levels, has a header that stands, and ends where that says.
pub element_head : (left p q : ℕ) (bs : List ℕ) → element_of left p bs ≡ End q
    → (id : ℕ) × (h : ℕ) × (n : ℕ) × (head_of bs ≡ Stands id h n) × (q ≡ p + (h + n))
element_head zero p q bs e = element_deep p q bs e
element_head (suc left) p q bs e = let d = element_end left p q bs e in (d.identifier, d.before, d.size, d.stands, d.ends)

-- A list whose first element ends goes on after it, with the same count.
pub elements_next : (left n p : ℕ) (bs : List ℕ) → length bs ≤ n → (q : ℕ) → 0 < length bs → element_of left p bs ≡ End q
    → list_of (element_of left) n p bs ≡ list_of (element_of left) n q (drop (q - p) bs)
elements_next left n p bs enough q some ends =
    let past = element_progress left p q bs ends in
    let size = length-drop (q - p) bs in
    list_next (element_of left) n p bs some enough ends
    ∙ list_enough (element_of left) (element_progress left) (n - 1) q (drop (q - p) bs) (omega arith) n (omega arith)
