-- Parts of lists: a part of octets is octets, and a part of a part is a part. Assumes nothing.
use Prim.Native.Nat.{ℕ, zero, suc, ◌+◌, ◌-◌, ◌≤◌, ◌<◌, min}
use mathlib.Core.Path.{◌≡◌, refl, sym, ap, ◌∙◌}
use mathlib.Core.List.{List, [], ◌∷◌, ◌++◌}
use native.Mathlib.Nat.{zero-add, suc-add, le_of_eq, add-sub_cancel_left}
use native.Mathlib.Omega.{arith}
use lib.Dec.{lit<}
use lib.ListN.{length, get_or, take, drop, length-append, length-take, length-drop, drop_of_length-le}
use lib.Seq.{slice, take_all, take-nil, take-take, drop-drop, get_or-drop, take_at, drop_at, take-append_seam, drop-append_seam}
use Rattle.der.specs.meaning.Octets.{Octets}

-- numbers below 256 are octets
pub octets_each : (bs : List ℕ) → ((i : ℕ) → get_or bs i 0 < 256) → Octets bs
unfolding Octets
octets_each bs each = each

-- an octet is below 256
pub octets_at : (bs : List ℕ) → Octets bs → (i : ℕ) → get_or bs i 0 < 256
unfolding Octets
octets_at bs octets = octets

-- no octets are octets, and so are an octet and octets after it
pub octets_none : Octets []
unfolding Octets
octets_none i = lit< tt

pub octets_more : (b : ℕ) (bs : List ℕ) → b < 256 → Octets bs → Octets (b ∷ bs)
unfolding Octets
octets_more b bs small rest zero = small
octets_more b bs small rest (suc i) = rest i

-- those after the first are octets
pub octets_rest : (b : ℕ) (bs : List ℕ) → Octets (b ∷ bs) → Octets bs
unfolding Octets
octets_rest b bs octets i = octets (suc i)

-- octets after octets are octets
pub octets_append : (us vs : List ℕ) → Octets us → Octets vs → Octets (us ++ vs)
octets_append [] vs first rest = rest
octets_append (u ∷ us) vs first rest = octets_more u (us ++ vs) (octets_at (u ∷ us) first 0) (octets_append us vs (octets_rest u us first) rest)

-- the first octets are octets
pub octets_take : (n : ℕ) (bs : List ℕ) → Octets bs → Octets (take n bs)
unfolding Octets
octets_take zero bs o i = lit< tt
octets_take (suc n) [] o i = lit< tt
octets_take (suc n) (b ∷ bs) o zero = o 0
octets_take (suc n) (b ∷ bs) o (suc i) = octets_take n bs (λ j. o (suc j)) i

-- the octets after the first ones are octets
pub octets_drop : (n : ℕ) (bs : List ℕ) → Octets bs → Octets (drop n bs)
unfolding Octets
octets_drop n bs o i = rw (get_or-drop n bs i 0) (o (n + i))

-- n octets from h on are octets
pub octets_part_lem : (h n : ℕ) (bs : List ℕ) → Octets bs → Octets (take n (drop h bs))
octets_part_lem h n bs o = octets_take n (drop h bs) (octets_drop h bs o)

module _ {A : Type 0} where
  -- a list that is not empty has an element
  pub filled : (l : List A) → (l ≡ [] → ⊥) → 0 < length l
  filled [] some = absurd (some refl)
  filled (x ∷ l) some = omega arith

  -- the first k after the first p
  pub take_drop : (k p : ℕ) (l : List A) → take k (drop p l) ≡ slice p (p + k) l
  take_drop k zero l = rw zero-add
  take_drop k (suc p) [] = rw (suc-add, take-nil)
  take_drop k (suc p) (x ∷ l) = rw suc-add (take_drop k p l)

  -- a part of a part, both by the places in the whole
  pub slice_slice : (p e a b : ℕ) (l : List A) → p ≤ a → a ≤ b → b ≤ e → slice (a - p) (b - p) (slice p e l) ≡ slice a b l
  slice_slice p e a b l from order to =
      let low : p + (a - p) ≡ a = omega arith in
      let high : p + (b - p) ≡ b = omega arith in
      rw (take_drop (b - p) p (take e l), drop-drop (a - p) p, low, high, take-take b e l to)

  -- a part without its first elements
  pub drop_slice : (p e b : ℕ) (l : List A) → p ≤ b → drop (b - p) (slice p e l) ≡ slice b e l
  drop_slice p e b l from =
      let high : p + (b - p) ≡ b = omega arith in
      rw (drop-drop (b - p) p, high)

  -- the middle of three lists
  pub slice_middle : (a b c : List A) → slice (length a) (length a + length b) ((a ++ b) ++ c) ≡ b
  slice_middle a b c = rw (take_at (a ++ b) c (length a + length b) (length-append a b)) (drop-append_seam a b)

  -- the middle of three lists, as the definitions take it
  pub take_middle : (a b c : List A) → take (length b) (drop (length a) ((a ++ b) ++ c)) ≡ b
  take_middle a b c = take_drop (length b) (length a) ((a ++ b) ++ c) ∙ slice_middle a b c

  -- lists of which the first parts have one length are equal only part by part
  pub append_parts : (a b x y : List A) → length a ≡ length b → a ++ x ≡ b ++ y → (a ≡ b) × (x ≡ y)
  append_parts a b x y size same = (
    sym (take-append_seam a x) ∙ ap (take (length a)) same ∙ take_at b y (length a) (sym size),
    sym (drop-append_seam a x) ∙ ap (drop (length a)) same ∙ drop_at b y (length a) (sym size),
  )

  -- the part from n to the end, as a lent slice gives it
  pub take_from : (n : ℕ) (l : List A) → take (length l - n) (drop n l) ≡ drop n l
  take_from n l = take_all (length l - n) (drop n l) (le_of_eq (length-drop n l))

  -- the part from a place to another, as a lent slice gives it
  pub take_slice : (from to : ℕ) (l : List A) → from ≤ to → take (to - from) (drop from l) ≡ slice from to l
  take_slice from to l order =
      let high : from + (to - from) ≡ to = omega arith in
      rw (take_drop, high)

  -- the part of n elements from h, as a lent slice gives it
  pub middle : (l : List A) (h n : ℕ) → take (h + n - h) (drop h l) ≡ take n (drop h l)
  middle l h n = rw add-sub_cancel_left

  -- a part's length
  pub length_part : (l : List A) (h n : ℕ) → h + n ≤ length l → length (take n (drop h l)) ≡ n
  length_part l h n fits = simp (length-take, length-drop) (omega arith)

  -- a part is no longer than it is asked to be, nor than the whole
  pub part_short : (l : List A) (h n : ℕ) → (length (take n (drop h l)) ≤ n) × (length (take n (drop h l)) ≤ length l)
  part_short l h n = simp (length-take, length-drop) (omega arith)

  -- the elements up to an end, which is the list's own if that comes first
  pub take_least : (e : ℕ) (l : List A) → take (min e (length l)) l ≡ take e l
  take_least zero l = let none : min 0 (length l) ≡ 0 = omega arith in rw none
  take_least (suc e) [] = take-nil (min (suc e) 0)
  take_least (suc e) (x ∷ l) =
      let one : min (suc e) (suc (length l)) ≡ suc (min e (length l)) = omega arith in
      rw one (ap (λ (k : List A). x ∷ k) (take_least e l))

  -- the part from p to an end, which is the list's own if that comes first, as a lent slice gives it
  pub lent_slice : (p e : ℕ) (l : List A) → p ≤ min e (length l) → take (min e (length l) - p) (drop p l) ≡ slice p e l
  lent_slice p e l order =
      let high : p + (min e (length l) - p) ≡ min e (length l) = omega arith in
      rw (take_drop, high) (ap (drop p) (take_least e l))

  -- a part that starts at its end or after it is empty
  pub slice_none : (p e : ℕ) (l : List A) → min e (length l) ≤ p → slice p e l ≡ []
  slice_none p e l order =
      let short : length (take e l) ≤ p = rw length-take order in
      drop_of_length-le (take e l) short

  -- how many elements a part has
  pub slice_size : (p e : ℕ) (l : List A) → length (slice p e l) ≡ min e (length l) - p
  slice_size p e l = rw (length-drop, length-take)
