-- How a batch's rows stand below each other: the rows below a row come right after it, and among its children the kinds that they are matched by
-- ascend. Assumes nothing.
use Prim.Native.Nat.{ℕ, zero, suc, ◌≤◌, ◌<◌}
use native.Mathlib.Decide.{dec_le}
use native.Mathlib.Omega.{arith}
use mathlib.Core.Path.{◌≡◌, refl, sym, ap, subst, ◌∙◌}
use mathlib.Core.Bool.{Bool, true, false, false≢true}
use mathlib.Core.List.{List}
use lib.ListN.{length}
use Rattle.crmf.specs.meaning.Kinds as kinds
use Rattle.crmf.specs.meaning.Rows.{Row, container}
use Rattle.compare.specs.meaning.Counterparts.{row_at, Child, by_position, match_kind, Below, child, deeper}
use Rattle.compare.specs.steps.Arranged.{Arranged}
use Rattle.compare.specs.steps.Merging.{Next}

-- All rows from row p up to row i are below row p, and row i itself is no deeper than its children.
pub record Reached (rs : List Row) (p i : ℕ) : Type 0 where
  pub past : p < i
  pub there : i ≤ length rs
  pub below : (m : ℕ) → p < m → m < i → p ≤ (row_at rs m).parent
  pub closed : i < length rs → (row_at rs i).parent ≤ p

-- two numbers are the same, or not
pub same_or_not : (x y : ℕ) → Dec (x ≡ y)
same_or_not x y = go (dec_le x y) (dec_le y x)
  where
    go : Dec (x ≤ y) → Dec (y ≤ x) → Dec (x ≡ y)
    go (yes l) (yes m) = yes (omega arith)
    go (yes l) (no m) = no (λ e. absurd (omega arith))
    go (no l) m = no (λ e. absurd (omega arith))

-- a row is a child of another, or not
pub child_or_not : (rs : List Row) (p i : ℕ) → Dec (Child rs p i)
child_or_not rs p i = go (dec_le 1 i) (dec_le (suc i) (length rs)) (same_or_not (row_at rs i).parent p)
  where
    go : Dec (0 < i) → Dec (i < length rs) → Dec ((row_at rs i).parent ≡ p) → Dec (Child rs p i)
    go (yes some) (yes there) (yes below) = yes (record { some = some; there = there; below = below })
    go (no none) x y = no (λ c. none c.some)
    go (yes some) (no past) y = no (λ c. past c.there)
    go (yes some) (yes there) (no away) = no (λ c. away c.below)

module _ {s : List ℕ} {rs : List Row} (a : Arranged s rs) where
  -- a child comes after its parent
  pub child_after : {p i : ℕ} → Child rs p i → p < i
  child_after {p} {i} c = omega (arith, a.earlier i c.some c.there, c.below)

  -- the row after a row is reached
  pub reached_child : (p : ℕ) → p < length rs → Reached rs p (suc p)
  reached_child p there =
      record { past = omega arith; there = there; below = λ m from to. absurd (omega arith); closed = λ more. le_pred (a.earlier (suc p) (omega arith) more) }
    where
      le_pred : {x y : ℕ} → x < suc y → x ≤ y
      le_pred l = omega arith

  -- and so is the row after a child and all below it
  pub reached_next : {p i k : ℕ} → Reached rs p i → Child rs p i → Next rs i k → Reached rs p k
  reached_next {p} {i} {k} r c n =
      record {
        past = omega (arith, r.past, n.past);
        there = n.there;
        below = λ m from to. between m from to (dec_le (suc m) i) (dec_le (suc i) m);
        closed = λ more. omega (arith, a.nested i k n.past more (n.out more), c.below);
      }
    where
      between : (m : ℕ) → p < m → m < k → Dec (m < i) → Dec (i < m) → p ≤ (row_at rs m).parent
      between m from to (yes before) x = r.below m from before
      between m from to (no x) (yes after) = omega (arith, n.below m after to, r.past)
      between m from to (no x) (no y) = let same : m ≡ i = omega arith in rw same (omega (arith, c.below))

  -- a leaf has nothing below it
  pub leaf_next : (i : ℕ) → i < length rs → container (row_at rs i).kind ≡ false → Next rs i (suc i)
  leaf_next i there leaf =
      record { past = omega arith; there = there; below = λ m from to. absurd (omega arith); out = out }
    where
      own : suc i < length rs → (row_at rs (suc i)).parent ≡ i → ⊥
      own more same = false≢true (sym (subst (λ (p : ℕ). container (row_at rs p).kind ≡ false) (sym same) leaf) ∙ a.held (suc i) more)

      out : suc i < length rs → (row_at rs (suc i)).parent < i
      out more = go (dec_le i (row_at rs (suc i)).parent)
        where
          go : Dec (i ≤ (row_at rs (suc i)).parent) → (row_at rs (suc i)).parent < i
          go (yes high) = absurd (own more (omega (arith, a.earlier (suc i) (omega arith) more)))
          go (no low) = omega arith

  -- Past the last child there is no other.
  pub no_later : {p i : ℕ} → Reached rs p i → (Child rs p i → ⊥) → (m : ℕ) → i ≤ m → Child rs p m → ⊥
  no_later {p} {i} r none m from c = go (dec_le (suc i) m)
    where
      out : i < m → (row_at rs i).parent ≡ p → ⊥
      out before same = none (record { some = omega (arith, r.past); there = omega (arith, c.there); below = same })

      go : Dec (i < m) → ⊥
      go (yes before) =
          out before
          (omega (arith, r.closed (omega (arith, c.there)), a.nested i m before c.there (omega (arith, c.below, r.past)), c.below))
      go (no x) = let same : m ≡ i = omega arith in none (subst (Child rs p) same c)

  -- then the row after them is the next after the parent
  pub ended_next : {p i : ℕ} → Reached rs p i → (Child rs p i → ⊥) → Next rs p i
  ended_next {p} {i} r none =
      record { past = r.past; there = r.there; below = r.below; out = λ more. go more (dec_le p (row_at rs i).parent) }
    where
      go : i < length rs → Dec (p ≤ (row_at rs i).parent) → (row_at rs i).parent < p
      go more (yes high) =
          absurd (none (record { some = omega (arith, r.past); there = more; below = omega (arith, r.closed more) }))
      go more (no low) = omega arith

  -- The rows up to the next are below a row.
  below_upto : {i k : ℕ} → Next rs i k → (bound m : ℕ) → m ≤ bound → i < m → m < k → Below rs i m
  below_upto {i} {k} n zero m small from to = absurd (omega arith)
  below_upto {i} {k} n (suc bound) m small from to =
      go (dec_le (row_at rs m).parent i) (λ low. below_upto n bound (row_at rs m).parent (omega (arith, lower)) low (omega (arith, lower)))
    where
      inside : m < length rs
      inside = omega (arith, n.there)

      lower : (row_at rs m).parent < m
      lower = a.earlier m (omega arith) inside

      mine : (p : ℕ) → (row_at rs m).parent ≡ p → Child rs p m
      mine p same = record { some = omega arith; there = inside; below = same }

      go : Dec ((row_at rs m).parent ≤ i) → (i < (row_at rs m).parent → Below rs i (row_at rs m).parent) → Below rs i m
      go (yes low) up = child (mine i (omega (arith, n.below m from to)))
      go (no high) up = deeper (up (omega arith)) (mine (row_at rs m).parent refl)

  pub next_below : {i k : ℕ} → Next rs i k → (m : ℕ) → i < m → m < k → Below rs i m
  next_below n m from to = below_upto n m m (omega arith) from to

  -- what a child is matched by: no kind or its own, as its parent's kind says
  pub matched_none : {p i : ℕ} → Child rs p i → by_position (row_at rs p).kind ≡ true → match_kind rs i ≡ kinds.none
  unfolding match_kind
  matched_none {p} {i} c by =
      ap (λ (b : Bool). elim b [ true ↦ kinds.none | false ↦ (row_at rs i).kind ]) (ap (λ (q : ℕ). by_position (row_at rs q).kind) c.below ∙ by)

  pub matched_own : {p i : ℕ} → Child rs p i → by_position (row_at rs p).kind ≡ false → match_kind rs i ≡ (row_at rs i).kind
  unfolding match_kind
  matched_own {p} {i} c by =
      ap (λ (b : Bool). elim b [ true ↦ kinds.none | false ↦ (row_at rs i).kind ]) (ap (λ (q : ℕ). by_position (row_at rs q).kind) c.below ∙ by)

  -- The kinds that a row's children are matched by ascend.
  pub matched_ascend : {p i k : ℕ} → Child rs p i → Child rs p k → i ≤ k → match_kind rs i ≤ match_kind rs k
  matched_ascend {p} {i} {k} c d l = go (by_position (row_at rs p).kind) refl (dec_le (suc i) k)
    where
      go : (b : Bool) → by_position (row_at rs p).kind ≡ b → Dec (i < k) → match_kind rs i ≤ match_kind rs k
      go true by x = omega (arith, matched_none c by, matched_none d by)
      go false by (yes before) =
          let kinds_ascend = a.ascends i k c.some before d.there (c.below ∙ sym d.below) (ap (λ (q : ℕ). by_position (row_at rs q).kind) d.below ∙ by) in
          omega (arith, kinds_ascend, matched_own c by, matched_own d by)
      go false by (no y) = let same : i ≡ k = omega arith in rw same (omega arith)
