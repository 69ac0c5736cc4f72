-- Any two batches' rows can be merged, so they have a list of changes. Assumes nothing.
use Prim.Native.Nat.{ℕ, zero, suc, ◌+◌, ◌-◌, ◌≤◌, ◌<◌}
use native.Mathlib.Decide.{dec_le}
use native.Mathlib.Nat.{le_refl, le_of_lt, le-suc}
use native.Mathlib.Omega.{arith}
use mathlib.Core.Path.{◌≡◌, refl, ap, ap₂}
use mathlib.Core.Bool.{Bool, true, false}
use mathlib.Core.List.{List, [], ◌∷◌}
use lib.ListN.{length, get_or}
use Rattle.crmf.specs.meaning.Rows.{Row, container}
use Rattle.compare.specs.meaning.Counterparts.{row_at, Child, match_kind}
use Rattle.compare.specs.meaning.Changes.{Change, batch, row_octets, Changes}
use Rattle.compare.specs.steps.Arranged.{Arranged}
use Rattle.compare.specs.steps.Merging.{Next, Alike, Merge, over, first, second, unlike, same, differing, within}
use Rattle.compare.proofs.theorems.RowOrder.{same_or_not, child_or_not}
use Rattle.compare.proofs.theorems.Aligning.{At, at_first, at_both}
use Rattle.compare.proofs.theorems.MergeSteps.{at_second, at_inside, at_leaves, at_after, merge_end}
use Rattle.compare.proofs.theorems.Complete.{at_batches, whole_only, whole_all}
use Rattle.compare.proofs.theorems.Ordered.{merged_order}

-- two lists of numbers are the same, or not
same_list : (xs ys : List ℕ) → Dec (xs ≡ ys)
same_list [] [] = yes refl
same_list [] (y ∷ ys) = no (λ e. absurd (omega (arith, ap length e)))
same_list (x ∷ xs) [] = no (λ e. absurd (omega (arith, ap length e)))
same_list (x ∷ xs) (y ∷ ys) = go (same_or_not x y) (same_list xs ys)
  where
    tail : List ℕ → List ℕ
    tail [] = []
    tail (z ∷ zs) = zs

    go : Dec (x ≡ y) → Dec (xs ≡ ys) → Dec (x ∷ xs ≡ y ∷ ys)
    go (yes e) (yes f) = yes (ap₂ (λ (z : ℕ) (zs : List ℕ). z ∷ zs) e f)
    go (no e) f = no (λ h. e (ap (λ (zs : List ℕ). get_or zs 0 0) h))
    go (yes e) (no f) = no (λ h. f (ap tail h))

-- the next row after a row and all below it
next_from : (rs : List Row) (i : ℕ) (fuel k : ℕ) → i < k → k ≤ length rs → length rs - k ≤ fuel
    → ((m : ℕ) → i < m → m < k → i ≤ (row_at rs m).parent) → (n : ℕ) × Next rs i n
next_from rs i zero k past there enough below = (k, record { past = past; there = there; below = below; out = λ more. absurd (omega arith) })
next_from rs i (suc fuel) k past there enough below =
    go (dec_le (suc k) (length rs)) (dec_le i (row_at rs k).parent)
    (λ more deep. next_from rs i fuel (suc k) (omega arith) more (omega arith) (λ m from to. upto deep m from to (dec_le (suc m) k)))
  where
    upto : i ≤ (row_at rs k).parent → (m : ℕ) → i < m → m < suc k → Dec (m < k) → i ≤ (row_at rs m).parent
    upto deep m from to (yes before) = below m from before
    upto deep m from to (no x) = let at : m ≡ k = omega arith in rw at deep

    go : Dec (k < length rs) → Dec (i ≤ (row_at rs k).parent) → (k < length rs → i ≤ (row_at rs k).parent → (n : ℕ) × Next rs i n) → (n : ℕ) × Next rs i n
    go (no end) d f = (k, record { past = past; there = there; below = below; out = λ more. absurd (end more) })
    go (yes more) (yes deep) f = f more deep
    go (yes more) (no up) f = (k, record { past = past; there = there; below = below; out = λ z. omega arith })

next_there : (rs : List Row) (i : ℕ) → i < length rs → (n : ℕ) × Next rs i n
next_there rs i there = next_from rs i (length rs) (suc i) (omega arith) there (omega arith) (λ m from to. absurd (omega arith))

-- A merge: its entries, and where it ends.
pub record Merges (s t : List ℕ) (A B : List Row) (p q i j : ℕ) : Type 0 where
  pub listed : List Change
  pub one : ℕ
  pub two : ℕ
  pub merge : Merge s t A B p q i j listed one two

-- how many rows are left
abbrev left : (A B : List Row) (i j : ℕ) → ℕ
left A B i j = (length A - i) + (length B - j)

-- past a row of the first list, and no row back in the second, fewer are left
fewer : (m n i j k l : ℕ) → i < k → j ≤ l → i < m → (m - k) + (n - l) < (m - i) + (n - j)
fewer m n i j k l past on there = omega arith

-- fewer than a number below suc n is below n
still : (k m n : ℕ) → k < m → m < suc n → k < n
still k m n less most = omega arith

-- two numbers of which neither is less are the same
neither : (m n : ℕ) → (m < n → ⊥) → (n < m → ⊥) → m ≡ n
neither m n x y = omega arith

module _ {s t : List ℕ} {A B : List Row} (a : Arranged s A) (b : Arranged t B) where
  -- a merge with fewer rows left than some goes on to its end
  abbrev Further : ℕ → Type 0
  Further fuel = (p q i j : ℕ) → At A B p q i j → left A B i j < fuel → Merges s t A B p q i j

  module _ {p q i j : ℕ} (x : At A B p q i j) (further : Further (left A B i j)) where
    take_first : Child A p i → (Child B q j → match_kind A i < match_kind B j) → Merges s t A B p q i j
    take_first c before =
        let (m, n) = next_there A i c.there in
        let y = further p q m j (at_first a b x c before n) (omega (arith, n.past, c.there)) in
        record { listed = _; one = y.one; two = y.two; merge = first c before n y.merge }

    take_second : Child B q j → (Child A p i → match_kind B j < match_kind A i) → Merges s t A B p q i j
    take_second c before =
        let (m, n) = next_there B j c.there in
        let y = further p q i m (at_second a b x c before n) (omega (arith, n.past, c.there)) in
        record { listed = _; one = y.one; two = y.two; merge = second c before n y.merge }

    take_unlike : Child A p i → Child B q j → match_kind A i ≡ match_kind B j → ((row_at A i).kind ≡ (row_at B j).kind → ⊥) → Merges s t A B p q i j
    take_unlike c d alike kinds =
        let (m, u) = next_there A i c.there in
        let (n, v) = next_there B j d.there in
        let y = further p q m n (at_both a b x c d alike u v) (omega (arith, u.past, c.there, v.past)) in
        record { listed = _; one = y.one; two = y.two; merge = unlike c d alike kinds u v y.merge }

    take_leaves : Alike A B p q i j → container (row_at A i).kind ≡ false → Dec (row_octets s (row_at A i) ≡ row_octets t (row_at B j)) → Merges s t A B p q i j
    take_leaves e leaf octets = go octets (further p q (suc i) (suc j) (at_leaves a b x e leaf) (omega (arith, e.one.there)))
      where
        go : Dec (row_octets s (row_at A i) ≡ row_octets t (row_at B j)) → Merges s t A B p q (suc i) (suc j) → Merges s t A B p q i j
        go (yes equal) y = record { listed = _; one = y.one; two = y.two; merge = same e leaf equal y.merge }
        go (no unequal) y = record { listed = _; one = y.one; two = y.two; merge = differing e leaf unequal y.merge }

    -- containers: their insides are merged, and then what is after both
    take_after : (e : Alike A B p q i j) → container (row_at A i).kind ≡ true → (z : Merges s t A B i j (suc i) (suc j)) → Next A i z.one → Next B j z.two → Merges s t A B p q i j
    take_after e box z u v =
        let y = further p q z.one z.two (at_after a b x e z.merge) (fewer (length A) (length B) i j z.one z.two u.past (le_of_lt v.past) e.one.there) in
        record { listed = _; one = y.one; two = y.two; merge = within e box z.merge y.merge }

    take_inside_lem : (e : Alike A B p q i j) → container (row_at A i).kind ≡ true → Merges s t A B i j (suc i) (suc j) → Merges s t A B p q i j
    take_inside_lem e box z = let ends = merge_end a b (at_inside a b x e) z.merge in take_after e box z ends.0 ends.1

    take_containers : Alike A B p q i j → container (row_at A i).kind ≡ true → Merges s t A B p q i j
    take_containers e box =
        take_inside_lem e box
        (further i j (suc i) (suc j) (at_inside a b x e) (fewer (length A) (length B) i j (suc i) (suc j) (le_refl (suc i)) (le-suc j) e.one.there))

    -- one step, and then further
    one_step : Dec (Child A p i) → Dec (Child B q j) → Merges s t A B p q i j
    one_step (no c) (no d) = record { listed = []; one = i; two = j; merge = over c d }
    one_step (yes c) (no d) = take_first c (λ e. absurd (d e))
    one_step (no c) (yes d) = take_second d (λ e. absurd (c e))
    one_step (yes c) (yes d) = go (dec_le (suc (match_kind A i)) (match_kind B j)) (dec_le (suc (match_kind B j)) (match_kind A i))
      where
        alike_step : match_kind A i ≡ match_kind B j → Dec ((row_at A i).kind ≡ (row_at B j).kind) → Merges s t A B p q i j
        alike_step matched (no kinds) = take_unlike c d matched kinds
        alike_step matched (yes kinds) = by_kind (container (row_at A i).kind) refl
          where
            e : Alike A B p q i j
            e = record { one = c; two = d; kinds = kinds; matched = matched }

            by_kind : (k : Bool) → container (row_at A i).kind ≡ k → Merges s t A B p q i j
            by_kind false leaf = take_leaves e leaf (same_list (row_octets s (row_at A i)) (row_octets t (row_at B j)))
            by_kind true box = take_containers e box

        go : Dec (match_kind A i < match_kind B j) → Dec (match_kind B j < match_kind A i) → Merges s t A B p q i j
        go (yes before) y = take_first c (λ e. before)
        go (no y) (yes before) = take_second d (λ e. before)
        go (no y) (no z) = alike_step (neither (match_kind A i) (match_kind B j) y z) (same_or_not (row_at A i).kind (row_at B j).kind)

  -- Wherever a merge stands it can go on to its end.
  merges : (fuel : ℕ) → Further fuel
  merges zero p q i j x less = absurd (omega arith)
  merges (suc fuel) p q i j x less =
      one_step x (λ p q m n y fewer. merges fuel p q m n y (still _ _ fuel fewer less)) (child_or_not A p i) (child_or_not B q j)

  -- Two batches' rows can be merged.
  pub whole_merge : Merges s t A B 0 0 1 1
  whole_merge = merges (suc (left A B 1 1)) 0 0 1 1 (at_batches a b) (omega arith)

  -- What is merged is the list of changes,
  pub merged_changes : {k l : ℕ} {cs : List Change} → Merge s t A B 0 0 1 1 cs k l → Changes s t A B cs
  merged_changes whole =
      record { all = whole_all a b whole; only = whole_only a b whole; in_order = merged_order a b [] (at_batches a b) batch batch whole }

  -- so there is one.
  pub changes_there : (cs : List Change) × Changes s t A B cs
  changes_there = (whole_merge.listed, merged_changes whole_merge.merge)
