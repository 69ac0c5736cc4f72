-- A text on a page, character by character and part by part. Assumes nothing.
use Prim.Native.Nat.{ℕ, zero, suc, ◌+◌, ◌-◌, ◌≤◌, ◌<◌}
use native.Mathlib.Numerals.{add-one}
use native.Mathlib.Omega.{arith}
use mathlib.Core.Path.{◌≡◌, refl, sym, ap, ◌∙◌}
use mathlib.Core.Bool.{Bool, true, false}
use lib.Dec.{ltb}
use borrow.Author.Tests.{ltb-true, ltb-false}
use mathlib.Core.List.{List, [], ◌∷◌, ◌++◌, append_assoc}
use lib.ListN.{length, take, drop, get_or, set, length-append, length-take, length-drop, length-set, take-append-drop, drop_of_length-le}
use lib.Seq.{take-nil, drop-cons, take-suc-set, drop-set-lt}
use Rattle.format.specs.Page.{Page, page, fitting, put}

same : {o o' : List ℕ} {a a' : ℕ} → o ≡ o' → a ≡ a' → page o a ≡ page o' a'
same is at = rw (is, at)

-- what a page holds after the part that fits is known
put_fitting : (p : Page) (text part : List ℕ) → fitting p text ≡ part
    → put p text ≡ page (take p.at p.octets ++ (part ++ drop (p.at + length part) p.octets)) (p.at + length part)
unfolding put
put_fitting p text part is = rw (put, is)

-- nothing is written
put_nothing : (p : Page) (text : List ℕ) → fitting p text ≡ [] → put p text ≡ p
put_nothing p text is =
    let none : p.at + 0 ≡ p.at = omega arith in
    put_fitting p text [] is ∙ same (ap (λ (n : ℕ). take p.at p.octets ++ drop n p.octets) none ∙ take-append-drop p.at p.octets) none

pub put_none : (p : Page) → put p [] ≡ p
unfolding fitting
put_none p = put_nothing p [] (take-nil (length p.octets - p.at))

pub put_full : (p : Page) (text : List ℕ) → length p.octets ≤ p.at → put p text ≡ p
unfolding fitting
put_full p text full =
    let left : length p.octets - p.at ≡ zero = omega arith in
    put_nothing p text (rw (fitting, left))

module _ (o : List ℕ) (at c : ℕ) (here : at < length o) where
  -- the character, and what fits after it
  moved : (part : List ℕ) → take at o ++ (c ∷ part ++ drop (at + suc (length part)) o)
      ≡ take (at + 1) (set o at c) ++ (part ++ drop (at + 1 + length part) (set o at c))
  moved part =
      let place : at + suc (length part) ≡ at + 1 + length part = omega arith in
      let past : at < at + 1 + length part = omega arith in
      rw (place, drop-set-lt (at + 1 + length part) o at c past, add-one at, take-suc-set o at c here, append_assoc)

  put_first : (text : List ℕ) → put (page o at) (c ∷ text) ≡ put (page (set o at c) (at + 1)) text
  unfolding fitting
  put_first text =
      let left : length o - at ≡ suc (length o - (at + 1)) = omega arith in
      let part = take (length o - (at + 1)) text in
      let place : at + suc (length part) ≡ at + 1 + length part = omega arith in
      put_fitting (page o at) (c ∷ text) (c ∷ part) (rw left) ∙ same (moved part) place
      ∙ sym (put_fitting (page (set o at c) (at + 1)) text part (rw length-set))

  pub put_one : put (page o at) (c ∷ []) ≡ page (set o at c) (at + 1)
  put_one = put_first [] ∙ put_none (page (set o at c) (at + 1))

-- a text is written as its first character and the others after it
module _ (p : Page) (c : ℕ) (text : List ℕ) where
  by_room : (b : Bool) → ltb p.at (length p.octets) ≡ b → put p (c ∷ text) ≡ put (put p (c ∷ [])) text
  by_room true is =
      let here = ltb-true p.at (length p.octets) is in
      put_first p.octets p.at c here text ∙ ap (λ (q : Page). put q text) (sym (put_one p.octets p.at c here))
  by_room false is =
      let full = ltb-false p.at (length p.octets) is in
      put_full p (c ∷ text) full ∙ sym (put_full p text full) ∙ ap (λ (q : Page). put q text) (sym (put_full p (c ∷ []) full))

  pub put_next : put p (c ∷ text) ≡ put (put p (c ∷ [])) text
  put_next = by_room _ refl

-- and as its first part and the rest after it
pub put_parts : (p : Page) (s t : List ℕ) → put (put p s) t ≡ put p (s ++ t)
put_parts p [] t = ap (λ (q : Page). put q t) (put_none p)
put_parts p (c ∷ s) t =
    ap (λ (q : Page). put q t) (put_next p c s) ∙ put_parts (put p (c ∷ [])) s t ∙ sym (put_next p c (s ++ t))

pub put_both : (p : Page) (s t : List ℕ) {q r : Page} → q ≡ put p s → r ≡ put q t → r ≡ put p (s ++ t)
put_both p s t first next = next ∙ ap (λ (k : Page). put k t) first ∙ put_parts p s t

-- the characters from a place on, and none from the end on
module _ (p : Page) (text : List ℕ) (i : ℕ) where
  pub put_left : i < length text → put p (drop i text) ≡ put (put p (get_or text i 0 ∷ [])) (drop (i + 1) text)
  put_left here = rw (add-one, drop-cons text i 0 here) (put_next p (get_or text i 0) (drop (suc i) text))

  pub put_done : length text ≤ i → put p (drop i text) ≡ p
  put_done past = rw (drop_of_length-le text past) (put_none p)

-- the page keeps its length
pub put_length : (p : Page) (text : List ℕ) → length (put p text).octets ≡ length p.octets
unfolding put fitting
put_length p text = simp (length-append, length-take, length-drop) (omega arith)
