-- Tests of lists that compute, and what they say of the entries: a test of all entries holds at each, and a test of some entry holds
-- at one that can be named. Assumes nothing.
use Prim.Native.Nat.{ℕ, zero, suc}
use mathlib.Core.Bool.{Bool, true, false, ◌&&◌, ◌||◌, and-eq-true_iff, false≢true, or_assoc, or-false}
use mathlib.Core.List.Memᴰ
use mathlib.Core.List.{List, [], ◌∷◌, ◌++◌, Memᴰ}
use mathlib.Core.Logic.{◌⊎◌, inl, inr, ⊎_elim}
use mathlib.Core.Option.{some}
use mathlib.Core.Path.{◌≡◌, refl, sym, ◌∙◌}
use native.Mathlib.Omega.{arith}
use borrow.Author.Tests.{eqb-true}
use lib.Dec.{eqb}
use lib.ListN.{get_or, get_elem?}
use Rattle.crmf.specs.meaning.Notation.{among}

-- one of two tests passes
pub either : (a b : Bool) → (a || b) ≡ true → (a ≡ true) ⊎ (b ≡ true)
either true b e = inl refl
either false b e = inr e

module _ {A : Type 0} (f : A → Bool) where
  -- the test passes at all entries; at some entry
  abbrev pub all : List A → Bool
  all [] = true
  all (x ∷ xs) = f x && all xs

  abbrev pub any : List A → Bool
  any [] = false
  any (x ∷ xs) = f x || any xs

  -- and so it does at all entries of two lists
  pub all_append : (xs ys : List A) → all xs ≡ true → all ys ≡ true → all (xs ++ ys) ≡ true
  all_append [] ys e h = h
  all_append (x ∷ xs) ys e h =
      let p = (and-eq-true_iff (f x) (all xs)).0 e in
      (and-eq-true_iff (f x) (all (xs ++ ys))).1 (p.0, all_append xs ys p.1 h)

  pub all_get_d : (d : A) → f d ≡ true → (xs : List A) → all xs ≡ true → (k : ℕ) → f (get_or xs k d) ≡ true
  all_get_d d z [] e k = z
  all_get_d d z (x ∷ xs) e zero = ((and-eq-true_iff (f x) (all xs)).0 e).0
  all_get_d d z (x ∷ xs) e (suc k) = all_get_d d z xs ((and-eq-true_iff (f x) (all xs)).0 e).1 k

  -- if the entry past the end is also the first
  pub all_first : (x : A) (xs : List A) → all (x ∷ xs) ≡ true → (k : ℕ) → f (get_or (x ∷ xs) k x) ≡ true
  all_first x xs e = all_get_d x ((and-eq-true_iff (f x) (all xs)).0 e).0 (x ∷ xs) e

  pub all_get_elem : (a : A) (xs : List A) → all xs ≡ true → (k : ℕ) → get_elem? xs k ≡ some a → f a ≡ true
  all_get_elem a [] e k h = let z : ◌≡◌ {A = ℕ} 0 1 = cc in absurd (omega arith)
  all_get_elem a (x ∷ xs) e zero h = let q : x ≡ a = cc in rw q at ((and-eq-true_iff (f x) (all xs)).0 e).0
  all_get_elem a (x ∷ xs) e (suc k) h = all_get_elem a xs ((and-eq-true_iff (f x) (all xs)).0 e).1 k h

  pub all_member : (a : A) (xs : List A) → all xs ≡ true → Memᴰ a xs → f a ≡ true
  all_member a [] e at = absurd (Memᴰ.not-nil at)
  all_member a (x ∷ xs) e (Memᴰ.head same) = rw same ((and-eq-true_iff (f x) (all xs)).0 e).0
  all_member a (x ∷ xs) e (Memᴰ.tail at) = all_member a xs ((and-eq-true_iff (f x) (all xs)).0 e).1 at

  pub any_get_d : (d : A) (xs : List A) → any xs ≡ true → (k : ℕ) × (f (get_or xs k d) ≡ true)
  any_get_d d [] e = absurd (false≢true e)
  any_get_d d (x ∷ xs) e =
      ⊎_elim (λ p. (zero, p)) (λ p. let r = any_get_d d xs p in (suc r.0, r.1)) (either (f x) (any xs) e)

-- a test of all octets of a list passes at each of them
pub all_among : (f : ℕ → Bool) (xs : List ℕ) → all f xs ≡ true → (n : ℕ) → among xs n ≡ true → f n ≡ true
unfolding among
all_among f [] e n h = absurd (false≢true h)
all_among f (x ∷ xs) e n h =
    let p = (and-eq-true_iff (f x) (all f xs)).0 e in
    ⊎_elim (λ q. rw (eqb-true n x q) p.0) (all_among f xs p.1 n) (either (eqb n x) (among xs n) h)

-- a test has passed, or a number is an entry: it is compared with one entry after another, each time beside all that was tested before
unfoldable pub passed_or : Bool → ℕ → List ℕ → Bool
passed_or b n [] = b
passed_or b n (x ∷ xs) = passed_or (b || eqb n x) n xs

pub passed_or_among : (b : Bool) (n : ℕ) (xs : List ℕ) → passed_or b n xs ≡ (b || among xs n)
unfolding passed_or among
passed_or_among b n [] = sym (or-false b)
passed_or_among b n (x ∷ xs) = passed_or_among (b || eqb n x) n xs ∙ or_assoc b (eqb n x) (among xs n)

-- so a number that is compared with the entries of a list one by one is tested as the definition has it
pub compared_one_by_one : (x : ℕ) (xs : List ℕ) (n : ℕ) → passed_or (eqb n x) n xs ≡ among (x ∷ xs) n
unfolding among
compared_one_by_one x xs n = passed_or_among (eqb n x) n xs
