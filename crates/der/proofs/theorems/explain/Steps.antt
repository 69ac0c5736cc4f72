-- How the header's answer and the walk go on, one step at a time, with what was found before as equations. Assumes nothing.
use Prim.Native.Nat.{ℕ, zero, suc, ◌+◌, ◌-◌, ◌≤◌, ◌<◌}
use mathlib.Core.Path.{◌≡◌, refl, ap, ◌∙◌}
use mathlib.Core.Bool.{Bool, true, false}
use mathlib.Core.List.{List, [], ◌∷◌}
use native.Mathlib.Numerals.{sub-one}
use native.Mathlib.Omega.{arith}
use lib.ListN.{length, take, drop}
use lib.Seq.{slice, take-length}
use borrow.Author.Tests.{le-leb, lt-leb}
use Rattle.der.specs.declared.cause.Cause.{Cause}
use Rattle.der.specs.declared.cause.Cause.TheVariants.{WrongIdentifier, PastEnd}
use Rattle.der.specs.steps.Head.{Head, Stands, Broken}
use Rattle.der.specs.steps.Nest.{Nest, End, Fault}
use Rattle.der.specs.meaning.Identifier.{allowed, constructed, tag_number}
use Rattle.der.specs.meaning.Length.{Length, octets, length_of}
use Rattle.der.specs.steps.Header.{fitting, sized_by, head_of}
use Rattle.der.specs.steps.ContentTest.{holds}
use Rattle.der.specs.steps.Order.{closes}
use Rattle.der.specs.meaning.Bounds.{depth, longest}
use Rattle.der.specs.steps.Explain.{fault_at, list_of, by_rule, after_inside, element_of, walk_at}

-- The header, by the identifier and the octets after it.
module _ (id : ℕ) (bs : List ℕ) where
  -- the identifier is not allowed
  pub head_wrong : allowed id ≡ false → head_of (id ∷ bs) ≡ Broken WrongIdentifier
  unfolding head_of
  head_wrong e = rw (e, head_of)

  -- the identifier is allowed: what the length octets say decides
  pub head_sized : {l : Length} → allowed id ≡ true → length_of bs ≡ l → head_of (id ∷ bs) ≡ sized_by id bs l
  unfolding head_of
  head_sized e f = rw (e, f, head_of)

  -- the content fits
  pub head_stands : {k n : ℕ} → allowed id ≡ true → length_of bs ≡ octets k n → k + n ≤ length bs → head_of (id ∷ bs) ≡ Stands id (suc k) n
  unfolding sized_by
  head_stands e f fits = rw (head_sized e f, fitting, le-leb _ _ fits)

  -- the content runs past the end
  pub head_past : {k n : ℕ} → allowed id ≡ true → length_of bs ≡ octets k n → length bs < k + n → head_of (id ∷ bs) ≡ Broken PastEnd
  unfolding sized_by
  head_past e f far = rw (head_sized e f, fitting, lt-leb _ _ far)

-- An element by the rule of its identifier.
module _ (p q id : ℕ) {kept : Bool} where
  -- it keeps it
  pub rule_kept : kept ≡ true → by_rule kept p q id ≡ End q
  unfolding by_rule
  rule_kept e = rw (e, by_rule)

  -- it breaks it
  pub rule_broken : kept ≡ false → by_rule kept p q id ≡ Fault 5 p (tag_number id)
  unfolding by_rule
  rule_broken e = rw (e, by_rule)

-- A constructed element, by the answer for its inside.
module _ (p id : ℕ) (c : List ℕ) where
  -- without a fault there, the rule at the end decides
  pub after_end : (q : ℕ) → after_inside p id c (End q) ≡ by_rule (closes id c) p q id
  unfolding after_inside
  after_end q = refl

  -- a fault there is the element's
  pub after_fault : (m q k : ℕ) → after_inside p id c (Fault m q k) ≡ Fault m q k
  unfolding after_inside
  after_fault m q k = refl

-- The walk over an element with a level of depth left, by its header.
module _ (left p : ℕ) (bs : List ℕ) where
  -- the header has a fault
  pub element_broken : {c : Cause} → head_of bs ≡ Broken c → element_of (suc left) p bs ≡ fault_at c p
  unfolding element_of
  element_broken e = rw (e, element_of)

  module _ {id h n : ℕ} (e : head_of bs ≡ Stands id h n) where
    -- constructed: the list inside answers, and then the rule at the end
    pub element_inside : constructed id ≡ true → let c = take n (drop h bs) in
        element_of (suc left) p bs ≡ after_inside p id c (list_of (element_of left) n (p + h) c)
    unfolding element_of
    element_inside f = rw (e, element_of) (rw f)

    -- a fault there is the element's
    pub inside_fault : constructed id ≡ true → {m q k : ℕ} → list_of (element_of left) n (p + h) (take n (drop h bs)) ≡ Fault m q k
        → element_of (suc left) p bs ≡ Fault m q k
    inside_fault f faulty = element_inside f ∙ ap (after_inside p id (take n (drop h bs))) faulty ∙ after_fault p id _ _ _ _

    -- without one the rule at the end decides
    pub inside_ends : constructed id ≡ true → {q : ℕ} → list_of (element_of left) n (p + h) (take n (drop h bs)) ≡ End q
        → element_of (suc left) p bs ≡ by_rule (closes id (take n (drop h bs))) p q id
    inside_ends f ends = element_inside f ∙ ap (after_inside p id (take n (drop h bs))) ends ∙ after_end p id _ _

    -- primitive: the content answers
    pub element_value : constructed id ≡ false → element_of (suc left) p bs ≡ by_rule (holds id (take n (drop h bs))) p (p + h + n) id
    unfolding element_of
    element_value f = rw (e, element_of) (rw f)

-- a list without octets ends where it starts
pub list_empty : (judge : ℕ → List ℕ → Nest) (n p : ℕ) → list_of judge n p [] ≡ End p
unfolding list_of
list_empty judge zero p = refl
list_empty judge (suc n) p = refl

-- a list's first element ends: the list goes on after it
pub list_next : (judge : ℕ → List ℕ → Nest) (n p : ℕ) (bs : List ℕ) {q : ℕ} → 0 < length bs → length bs ≤ n → judge p bs ≡ End q
    → list_of judge n p bs ≡ list_of judge (n - 1) q (drop (q - p) bs)
unfolding list_of
list_next judge n p [] some enough e = absurd (omega arith)
list_next judge zero p (b ∷ bs) some enough e = absurd (omega arith)
list_next judge (suc n) p (b ∷ bs) some enough e = rw (e, list_of, sub-one)

-- a list's first element has a fault: so has the list
pub list_stop : (judge : ℕ → List ℕ → Nest) (n p : ℕ) (bs : List ℕ) {m q k : ℕ} → 0 < length bs → length bs ≤ n → judge p bs ≡ Fault m q k
    → list_of judge n p bs ≡ Fault m q k
unfolding list_of
list_stop judge n p [] some enough e = absurd (omega arith)
list_stop judge zero p (b ∷ bs) some enough e = absurd (omega arith)
list_stop judge (suc n) p (b ∷ bs) some enough e = rw (e, list_of)

-- no answer is an end and a fault
pub end_fault : {A : Type 0} {r : Nest} {e n q k : ℕ} → r ≡ End e → r ≡ Fault n q k → A
end_fault ends faulty = let z : ◌≡◌ {A = ℕ} 0 1 = cc in absurd (omega arith)

-- no header stands and is broken
pub stands_broken : {A : Type 0} {r : Head} {id h n : ℕ} {c : Cause} → r ≡ Stands id h n → r ≡ Broken c → A
stands_broken stands broken = let z : ◌≡◌ {A = ℕ} 0 1 = cc in absurd (omega arith)

-- The walk over an input.
module _ (s : List ℕ) where
  -- one that is not too long
  pub walk_short : (at end : ℕ) → length s ≤ longest → walk_at s at end ≡ element_of depth at (slice at end s)
  unfolding walk_at
  walk_short at end short = rw (walk_at, le-leb _ _ short)

  -- the whole of one that is not too long
  pub walk_whole : length s ≤ longest → walk_at s 0 (length s) ≡ element_of depth 0 s
  walk_whole short = walk_short 0 (length s) short ∙ rw take-length

  -- one that is too long
  pub walk_long : (at end : ℕ) → longest < length s → walk_at s at end ≡ Fault 1 0 0
  unfolding walk_at
  walk_long at end long = rw (walk_at, lt-leb _ _ long)
