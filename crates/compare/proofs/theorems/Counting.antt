-- How many children of a row stand before another: the count grows by one at each child that is matched by the kind and stays elsewhere, so no
-- two rows have one spot among the children of a row. Assumes nothing.
use Prim.Native.Nat.{ℕ, zero, suc, ◌≤◌, ◌<◌}
use native.Mathlib.Decide.{dec_le}
use native.Mathlib.Omega.{arith}
use mathlib.Core.Path.{◌≡◌, refl, ◌∙◌}
use mathlib.Core.Bool.{Bool, true, false, ◌&&◌}
use mathlib.Core.List.{List}
use lib.Dec.{eqb}
use borrow.Author.Tests.{eq-eqb, ne_eqb}
use Rattle.crmf.specs.meaning.Rows.{Row}
use Rattle.compare.specs.meaning.Counterparts.{row_at, Child, match_kind, counts, count_before}

module _ (rs : List Row) (p kind : ℕ) where
  -- a child is counted by the kind that it is matched by
  pub child_counts : (i : ℕ) → Child rs p i → match_kind rs i ≡ kind → counts rs p kind i ≡ true
  unfolding counts
  child_counts zero c same = absurd (omega (arith, c.some))
  child_counts (suc i) c same = rw (eq-eqb _ _ c.below, eq-eqb _ _ same)

  -- a row of another parent isn't counted
  pub elsewhere : (i : ℕ) → ((row_at rs i).parent ≡ p → ⊥) → counts rs p kind i ≡ false
  unfolding counts
  elsewhere zero away = refl
  elsewhere (suc i) away = rw (ne_eqb _ _ away)

  -- nor is one that is matched by another kind
  pub of_another : (i : ℕ) → (match_kind rs i ≡ kind → ⊥) → counts rs p kind i ≡ false
  unfolding counts
  of_another zero away = refl
  of_another (suc i) away = go (eqb (row_at rs (suc i)).parent p)
    where
      go : (b : Bool) → (b && eqb (match_kind rs (suc i)) kind) ≡ false
      go true = ne_eqb _ _ away
      go false = refl

  -- one more, or as many
  pub one_more : (i : ℕ) → counts rs p kind i ≡ true → count_before rs p kind (suc i) ≡ suc (count_before rs p kind i)
  unfolding count_before
  one_more i counted = rw counted (omega arith)

  pub no_more : (i : ℕ) → counts rs p kind i ≡ false → count_before rs p kind (suc i) ≡ count_before rs p kind i
  unfolding count_before
  no_more i uncounted = rw uncounted (omega arith)

  -- never fewer
  at_least : (i : ℕ) → count_before rs p kind i ≤ count_before rs p kind (suc i)
  at_least i = go (counts rs p kind i) refl
    where
      go : (b : Bool) → counts rs p kind i ≡ b → count_before rs p kind i ≤ count_before rs p kind (suc i)
      go true e = omega (arith, one_more i e)
      go false e = omega (arith, no_more i e)

  pub count_grows : (i k : ℕ) → i ≤ k → count_before rs p kind i ≤ count_before rs p kind k
  count_grows i zero l = let same : i ≡ 0 = omega arith in rw same (omega arith)
  count_grows i (suc k) l = go (dec_le i k) (count_grows i k)
    where
      go : Dec (i ≤ k) → (i ≤ k → count_before rs p kind i ≤ count_before rs p kind k) → count_before rs p kind i ≤ count_before rs p kind (suc k)
      go (yes before) so_far = omega (arith, so_far before, at_least k)
      go (no past) so_far = let same : i ≡ suc k = omega arith in rw same (omega arith)

  -- as many past rows that aren't counted
  pub count_past : (i k : ℕ) → i ≤ k → ((m : ℕ) → i ≤ m → m < k → counts rs p kind m ≡ false) → count_before rs p kind k ≡ count_before rs p kind i
  count_past i zero l none = let same : i ≡ 0 = omega arith in rw same
  count_past i (suc k) l none = go (dec_le i k) (λ before. count_past i k before (λ m from to. none m from (omega arith)))
    where
      go : Dec (i ≤ k) → (i ≤ k → count_before rs p kind k ≡ count_before rs p kind i) → count_before rs p kind (suc k) ≡ count_before rs p kind i
      go (yes before) so_far = no_more k (none k before (omega arith)) ∙ so_far before
      go (no past) so_far = let same : i ≡ suc k = omega arith in rw same

  -- a later row has a greater count than a child that is matched by the kind
  pub later_more : (l m : ℕ) → Child rs p l → match_kind rs l ≡ kind → l < m → count_before rs p kind l < count_before rs p kind m
  later_more l m c same before = omega (arith, one_more l (child_counts l c same), count_grows (suc l) m before)

  -- so children with one spot are one row
  pub one_row : (l m : ℕ) → Child rs p l → Child rs p m → match_kind rs l ≡ kind → match_kind rs m ≡ kind
      → count_before rs p kind l ≡ count_before rs p kind m → l ≡ m
  one_row l m c d this that equal = go (dec_le (suc l) m) (dec_le (suc m) l)
    where
      go : Dec (l < m) → Dec (m < l) → l ≡ m
      go (yes before) x = absurd (omega (arith, later_more l m c this before))
      go (no x) (yes after) = absurd (omega (arith, later_more m l d that after))
      go (no x) (no y) = omega arith
