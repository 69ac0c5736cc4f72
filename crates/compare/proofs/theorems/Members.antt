-- Members of a list that is put together from others. Assumes nothing.
use mathlib.Core.Logic.{◌⊎◌, inl, inr}
use mathlib.Core.List.{List, [], ◌∷◌, ◌++◌, Memᴰ}

module _ {A : Type 0} {x : A} where
  -- a member of two lists is one of either, and conversely
  pub either : (xs ys : List A) → Memᴰ x (xs ++ ys) → Memᴰ x xs ⊎ Memᴰ x ys
  either [] ys m = inr m
  either (z ∷ xs) ys (Memᴰ.head e) = inl (Memᴰ.head e)
  either (z ∷ xs) ys (Memᴰ.tail m) = later (either xs ys m)
    where
      later : Memᴰ x xs ⊎ Memᴰ x ys → Memᴰ x (z ∷ xs) ⊎ Memᴰ x ys
      later (inl l) = inl (Memᴰ.tail l)
      later (inr r) = inr r

  pub of_left : {xs : List A} (ys : List A) → Memᴰ x xs → Memᴰ x (xs ++ ys)
  of_left ys (Memᴰ.head e) = Memᴰ.head e
  of_left ys (Memᴰ.tail m) = Memᴰ.tail (of_left ys m)

  pub of_right : (xs : List A) {ys : List A} → Memᴰ x ys → Memᴰ x (xs ++ ys)
  of_right [] m = m
  of_right (z ∷ xs) m = Memᴰ.tail (of_right xs m)
