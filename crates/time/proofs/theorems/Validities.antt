-- The moments of a validity's times by tests of their octets. Assumes nothing.
use Prim.Native.Nat.{ℕ, ◌+◌, ◌≤◌}
use mathlib.Core.Bool.{Bool, true, false, not, ◌&&◌, ◌||◌}
use mathlib.Core.List.{List, []}
use mathlib.Core.Option.{Option, some, none}
use mathlib.Core.Path.{◌≡◌, refl, sym}
use lib.Dec.{leb, eqb}
use lib.ListN.{length, get_or, take, drop, drop_of_length-le}
use Rattle.time.specs.meaning.Time.{time_moment}
use Rattle.time.specs.meaning.Validity.{is_short, element_moment, shown_moment, first_element, further_elements, in_order, forwards}

module _ (e : List ℕ) where
  -- the moment of the element of a Time, or none
  pub element_short : is_short e ≡ true → element_moment e ≡ time_moment (get_or e 0 0) (drop 2 e)
  unfolding element_moment
  element_short is = rw (element_moment, is)

  pub element_other : is_short e ≡ false → element_moment e ≡ none
  unfolding element_moment
  element_other is = rw (element_moment, is)

  -- the moment of the element of notBefore or notAfter, or none
  pub shown_inside : is_short e ≡ true → (eqb (get_or e 0 0) 0xA0 || eqb (get_or e 0 0) 0xA1) ≡ true → shown_moment e ≡ element_moment (drop 2 e)
  unfolding shown_moment
  shown_inside is one = rw (shown_moment, is, one)

  pub shown_long : is_short e ≡ false → shown_moment e ≡ none
  unfolding shown_moment
  shown_long is = rw (shown_moment, is)

  pub shown_other : is_short e ≡ true → (eqb (get_or e 0 0) 0xA0 || eqb (get_or e 0 0) 0xA1) ≡ false → shown_moment e ≡ none
  unfolding shown_moment
  shown_other is other = rw (shown_moment, is, other)

-- no octets show no moment
pub shown_none : shown_moment [] ≡ none
unfolding shown_moment is_short
shown_none = refl

-- neither of two tests passes
pub neither : (a b : Bool) → not a && not b ≡ true → (a || b) ≡ false
neither true b is = sym is
neither false true is = sym is
neither false false is = refl

pub either : (a b : Bool) → not a && not b ≡ false → (a || b) ≡ true
either true b is = refl
either false true is = refl
either false false is = sym is

module _ (c : List ℕ) where
  -- a validity of one time, or of none, runs forwards
  pub forwards_one : length c ≤ 2 + get_or c 1 0 → forwards c ≡ true
  unfolding forwards further_elements in_order
  forwards_one few = rw (forwards, further_elements, drop_of_length-le c few, shown_none) (go (shown_moment (first_element c)))
    where
      go : (o : Option ℕ) → in_order o none ≡ true
      go none = refl
      go (some n) = refl

  -- the same if one of its two elements shows no moment
  pub forwards_first : shown_moment (take (2 + get_or c 1 0) c) ≡ none → forwards c ≡ true
  unfolding forwards first_element in_order
  forwards_first lacks = rw (forwards, first_element, lacks)

  pub forwards_second : (n : ℕ) → shown_moment (take (2 + get_or c 1 0) c) ≡ some n → shown_moment (drop (2 + get_or c 1 0) c) ≡ none → forwards c ≡ true
  unfolding forwards first_element further_elements in_order
  forwards_second n shows lacks = rw (forwards, first_element, further_elements, shows, lacks)

  -- and if both do, by their order
  pub forwards_both : (m n : ℕ) → shown_moment (take (2 + get_or c 1 0) c) ≡ some m → shown_moment (drop (2 + get_or c 1 0) c) ≡ some n → forwards c ≡ leb m n
  unfolding forwards first_element further_elements in_order
  forwards_both m n shows also = rw (forwards, first_element, further_elements, shows, also)
