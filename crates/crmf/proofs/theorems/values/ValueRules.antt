-- What the value rules say of octets at places: bounds of the numbers that they read, the ways that they select, and a comparison of lists
-- octet by octet.
-- Assumes nothing.
use Prim.Native.Nat.{ℕ, zero, suc, ◌≤◌, ◌<◌}
use mathlib.Core.Bool.{Bool, true, false, ◌&&◌, and-eq-true_iff, and-false, and-true, and_assoc}
use mathlib.Core.List.{List, [], ◌∷◌}
use mathlib.Core.Logic.{◌↔◌}
use mathlib.Core.Option
use mathlib.Core.Option.{Option, some, none, some-injective, none-ne-some, bind-eq-some_iff}
use mathlib.Core.Path.{◌≡◌, refl, sym, ap, ap₂, ◌∙◌}
use borrow.Author.Tests.{leb-true, le-leb, lt-leb, eqb-true, eq-eqb, ne_eqb}
use native.Mathlib.Omega.{arith}
use lib.Dec.{leb, eqb, lit<}
use lib.ListN.{length, get_or, get_elem?, take, drop, drop_of_length-le}
use lib.Seq.{drop-cons}
use Rattle.std.specs.Prelude.{Option as Maybe, Some, None, IfSome, unwrap_or}
use Rattle.time.specs.steps.Moments.{as_option}
use Rattle.time.proofs.Laws.{some_told, none_told}
use Rattle.crmf.specs.meaning.Value.{is_up_to, number, type_number, Selector, action, method, control_type, info_type, selected}
use Rattle.crmf.specs.meaning.Lists.{same}
use Rattle.crmf.specs.meaning.Notation.{Name}
use Rattle.crmf.specs.meaning.Language.{way_of}
use Rattle.crmf.specs.steps.explain.Walk.{ways}

-- both of two tests pass
pub both : (a b : Bool) → a && b ≡ true → (a ≡ true) × (b ≡ true)
both a b e = (and-eq-true_iff a b).0 e

-- a single octet is at most n, or above it; any other content is no number
pub up_to : (n : ℕ) (c : List ℕ) → length c ≡ 1 → get_or c 0 0 ≤ n → is_up_to n c ≡ true
unfolding is_up_to
up_to n c one low = rw (is_up_to, eq-eqb _ _ one, le-leb _ _ low)

pub above : (n : ℕ) (c : List ℕ) → n < get_or c 0 0 → is_up_to n c ≡ false
unfolding is_up_to
above n c high = rw (is_up_to, lt-leb _ _ high) (and-false _)

pub not_one : (n : ℕ) (c : List ℕ) → (length c ≡ 1 → ⊥) → is_up_to n c ≡ false
unfolding is_up_to
not_one n c other = rw (is_up_to, ne_eqb _ _ other)

number_most : (n : ℕ) (c : List ℕ) (w : ℕ) → number n c ≡ some w → w ≤ n
unfolding number is_up_to
number_most n c w = go _ refl
  where
    go : (t : Bool) → is_up_to n c ≡ t → (elim t as (λ x. Option ℕ) [ true ↦ some (get_or c 0 0) | false ↦ none ]) ≡ some w → w ≤ n
    go true e is =
        omega (arith, leb-true (get_or c 0 0) n (both (eqb (length c) 1) (leb (get_or c 0 0) n) e).1, some-injective _ _ is)
    go false e is = absurd (none-ne-some w is)

pub type_most : (a most : ℕ) (c : List ℕ) → Option.get_or (type_number a most c) 0 ≤ most
unfolding type_number
type_most a most c = go _ refl
  where
    n : ℕ
    n = get_or c 8 0

    known : Bool
    known = same c (0x2B ∷ 0x06 ∷ 0x01 ∷ 0x05 ∷ 0x05 ∷ 0x07 ∷ 0x05 ∷ a ∷ n ∷ []) && leb 1 n

    go : (t : Bool) → known && leb n most ≡ t → Option.get_or (elim t as (λ x. Option ℕ) [ true ↦ some n | false ↦ none ]) 0 ≤ most
    go true e = leb-true n most (both known (leb n most) e).1
    go false e = omega arith

-- a value selects one of its ways
pub selected_below : (s : Selector) (c : List ℕ) (w : ℕ) → selected s c ≡ some w → w < ways s
unfolding selected
selected_below action c w is = omega (arith, number_most 1 c w is)
selected_below method c w is = omega (arith, number_most 3 c w is)
selected_below control_type c w is = omega (arith, type_most 1 6 c, some-injective _ _ is)
selected_below info_type c w is = omega (arith, type_most 2 2 c, some-injective _ _ is)

-- the way that it selects, as code tells it, is at most 6
pub way_few : (s : Selector) (c : List ℕ) → IfSome (as_option (selected s c)) (λ w. w ≤ 6)
way_few s c = go (selected s c) refl
  where
    ways_few : (s : Selector) → ways s ≤ 7
    ways_few action = omega arith
    ways_few method = omega arith
    ways_few control_type = omega arith
    ways_few info_type = omega arith

    go : (o : Option ℕ) → selected s c ≡ o → IfSome (as_option o) (λ w. w ≤ 6)
    go none is = rw none_told tt
    go (some w) is = rw (some_told w) (omega (arith, selected_below s c w is, ways_few s))

-- what code tells of a number, with another for none
pub told_or : (o : Option ℕ) (d : ℕ) → unwrap_or (as_option o) d ≡ Option.get_or o d
told_or none d = rw none_told refl
told_or (some n) d = rw (some_told n) refl

-- a value selects a name exactly by the number of its way
pub way_selected : (s : Selector) (c : List ℕ) (ns : List Name) (n : Name)
    → (way_of s c ns ≡ some n) ↔ ((w : ℕ) × (selected s c ≡ some w) × (get_elem? ns w ≡ some n))
unfolding way_of
way_selected s c ns n = bind-eq-some_iff (selected s c) (get_elem? ns)

-- lists of other lengths are not the same
pub other_length : (a b : List ℕ) → (length a ≡ length b → ⊥) → same a b ≡ false
unfolding same
other_length [] [] h = absurd (h refl)
other_length [] (b ∷ bs) h = refl
other_length (a ∷ more) [] h = refl
other_length (a ∷ more) (b ∷ bs) h = rw (other_length more bs (λ e. h (ap suc e))) (and-false (eqb a b))

-- the first octets and one more are compared
pub same_more : (a b : List ℕ) (i : ℕ) → i < length a → i < length b
    → same (take (suc i) a) (take (suc i) b) ≡ same (take i a) (take i b) && eqb (get_or a i 0) (get_or b i 0)
unfolding same
same_more [] b i l m = absurd (omega arith)
same_more (x ∷ a) [] i l m = absurd (omega arith)
same_more (x ∷ a) (y ∷ b) zero l m = and-true (eqb x y)
same_more (x ∷ a) (y ∷ b) (suc i) l m =
    rw (same_more a b i (omega arith) (omega arith)) (sym (and_assoc (eqb x y) (same (take i a) (take i b)) (eqb (get_or a i 0) (get_or b i 0))))

-- nothing to compare is the same
pub same_none : same [] [] ≡ true
unfolding same
same_none = refl

-- the octet at i is compared, and then those after it
same_next : (c : List ℕ) (i b : ℕ) (bs : List ℕ) → i < length c → same (drop i c) (b ∷ bs) ≡ eqb (get_or c i 0) b && same (drop (suc i) c) bs
unfolding same
same_next c i b bs h = rw (drop-cons c i 0)

-- if no octet is left, there is nothing to compare
same_over : (c : List ℕ) (i : ℕ) → length c ≤ i → same (drop i c) [] ≡ true
unfolding same
same_over c i h = rw (drop_of_length-le c h)

pub same_one : (c : List ℕ) (b : ℕ) → length c ≡ 1 → same c (b ∷ []) ≡ eqb (get_or c 0 0) b
same_one c b h =
    same_next c 0 b [] (omega arith) ∙ rw (same_over c 1 (omega arith)) (and-true _)

module _ (c : List ℕ) (h : length c ≡ 9) where
  -- the same among nine octets
  at : (i b : ℕ) (bs : List ℕ) → i < 9 → same (drop i c) (b ∷ bs) ≡ eqb (get_or c i 0) b && same (drop (suc i) c) bs
  at i b bs l = same_next c i b bs (omega arith)

  -- the octets of a type with the arc a, whatever its last octet
  abbrev typed : ℕ → Bool
  typed a =
      (eqb (get_or c 0 0) 0x2B && eqb (get_or c 1 0) 0x06 && eqb (get_or c 2 0) 0x01 && eqb (get_or c 3 0) 0x05)
      && (eqb (get_or c 4 0) 0x05 && eqb (get_or c 5 0) 0x07 && eqb (get_or c 6 0) 0x05 && eqb (get_or c 7 0) a)

  same_type : (a : ℕ) → same c (0x2B ∷ 0x06 ∷ 0x01 ∷ 0x05 ∷ 0x05 ∷ 0x07 ∷ 0x05 ∷ a ∷ get_or c 8 0 ∷ []) ≡ typed a
  same_type a =
      rw (
        at 0 _ _ (lit< tt),
        at 1 _ _ (lit< tt),
        at 2 _ _ (lit< tt),
        at 3 _ _ (lit< tt),
        at 4 _ _ (lit< tt),
        at 5 _ _ (lit< tt),
        at 6 _ _ (lit< tt),
        at 7 _ _ (lit< tt),
        at 8 _ _ (lit< tt),
        same_over c 9 (omega arith),
        eq-eqb (get_or c 8 0) (get_or c 8 0) refl,
      )
      (simp (and_assoc, and-true))

  -- a type's number, by the test of the nine octets
  pub type_told : (a most : ℕ) (t : Bool) → typed a && leb 1 (get_or c 8 0) && leb (get_or c 8 0) most ≡ t
      → (elim t as (λ x. Maybe ℕ) [ true ↦ Some (get_or c 8 0) | false ↦ None ]) ≡ as_option (type_number a most c)
  unfolding type_number
  type_told a most t is = rw (type_number, same_type a, is) (go t)
    where
      go : (b : Bool) → (elim b as (λ x. Maybe ℕ) [ true ↦ Some (get_or c 8 0) | false ↦ None ]) ≡ as_option (elim b as (λ x. Option ℕ) [ true ↦ some (get_or c 8 0) | false ↦ none ])
      go true = sym (some_told _)
      go false = sym none_told

-- Lists compare as the same exactly when they are.
pub same_octets : (a b : List ℕ) → same a b ≡ true → a ≡ b
unfolding same
same_octets [] [] is = refl
same_octets [] (y ∷ b) is = let z : ◌≡◌ {A = ℕ} 0 1 = cc in absurd (omega arith)
same_octets (x ∷ a) [] is = let z : ◌≡◌ {A = ℕ} 0 1 = cc in absurd (omega arith)
same_octets (x ∷ a) (y ∷ b) is =
    let both = (and-eq-true_iff (eqb x y) (same a b)).0 is in
    ap₂ (λ (n : ℕ) (l : List ℕ). n ∷ l) (eqb-true x y both.0) (same_octets a b both.1)

pub same_itself : (a : List ℕ) → same a a ≡ true
unfolding same
same_itself [] = refl
same_itself (x ∷ a) = (and-eq-true_iff (eqb x x) (same a a)).1 (eq-eqb x x refl, same_itself a)
