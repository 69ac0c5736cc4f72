-- A row has at most one counterpart, of its own kind; and what a merge passes alone has none. Assumes nothing.
use Prim.Native.Nat.{ℕ, ◌≤◌, ◌<◌}
use native.Mathlib.Decide.{dec_le}
use native.Mathlib.Omega.{arith}
use mathlib.Core.Path.{◌≡◌, refl, sym, ap, ap₂, subst, ◌∙◌}
use mathlib.Core.List.{List}
use lib.ListN.{length}
use Rattle.crmf.specs.meaning.Rows.{Row}
use Rattle.compare.specs.meaning.Counterparts.{row_at, Child, match_kind, count_before, Spot, spot, Counterpart, batches, children, Below, child, deeper}
use Rattle.compare.specs.steps.Arranged.{Arranged}
use Rattle.compare.proofs.theorems.Counting.{count_grows, later_more, one_row}
use Rattle.compare.proofs.theorems.Aligning.{other_way, Aligned, level, first_more, second_more, At, still_later}

module _ (A B : List Row) (i j : ℕ) (same : spot A i ≡ spot B j) where
  -- one spot: one kind that rows are matched by, and as many before them
  pub spot_kind : match_kind A i ≡ match_kind B j
  unfolding spot
  spot_kind = ap (λ (x : Spot). x.kind) same

  pub spot_count : {p q : ℕ} → Child A p i → Child B q j → count_before A p (match_kind A i) i ≡ count_before B q (match_kind A i) j
  unfolding spot
  spot_count {p} {q} c d =
      ap (λ (x : ℕ). count_before A x (match_kind A i) i) (sym c.below) ∙ ap (λ (x : Spot). x.number) same
      ∙ ap₂ (λ (x k : ℕ). count_before B x k j) d.below (sym spot_kind)

-- What counterparts below the batch are: children of counterparts, of one kind, at one spot.
pub record Placed (A B : List Row) (p i j : ℕ) : Type 0 where
  pub parent : ℕ
  pub pair : Counterpart A B p parent
  pub two : Child B parent j
  pub kinds : (row_at A i).kind ≡ (row_at B j).kind
  pub spots : spot A i ≡ spot B j

pub placed : {A B : List Row} {p i j : ℕ} → Child A p i → Counterpart A B i j → Placed A B p i j
placed c batches = absurd (omega (arith, c.some))
placed {A} {B} c (children {q = q} up d e kinds spots) =
    record { parent = q; pair = subst (λ (x : ℕ). Counterpart A B x q) (sym d.below ∙ c.below) up; two = e; kinds = kinds; spots = spots }

-- A row of the first has at most one counterpart,
pub one_counterpart : {A B : List Row} {i j k : ℕ} → Counterpart A B i j → Counterpart A B i k → j ≡ k
one_counterpart batches batches = refl
one_counterpart batches (children up c d kinds spots) = absurd (omega (arith, c.some))
one_counterpart {A} {B} {i} {j} {k} (children up c d kinds spots) x =
    let y = placed c x in
    let parents = one_counterpart up y.pair in
    let e = subst (λ (q : ℕ). Child B q k) (sym parents) y.two in
    one_row B _ (match_kind A i) j k d e (sym (spot_kind A B i j spots)) (sym (spot_kind A B i k y.spots))
    (sym (spot_count A B i j spots c d) ∙ spot_count A B i k y.spots c e)

-- and so has a row of the second.
pub one_counterpart_of : {A B : List Row} {i j k : ℕ} → Counterpart A B i k → Counterpart A B j k → i ≡ j
one_counterpart_of x y = one_counterpart (other_way x) (other_way y)

-- what a row is below has a counterpart if the row has one
pub above_too : {A B : List Row} {k i j : ℕ} → Below A k i → Counterpart A B i j → (l : ℕ) × Counterpart A B k l
above_too (child c) x = let y = placed c x in (y.parent, y.pair)
above_too (deeper b c) x = above_too b (placed c x).pair

module _ {s t : List ℕ} {A B : List Row} (a : Arranged s A) (b : Arranged t B) where
  -- counterparts are rows of the batches, of one kind
  pub counterpart_there : {i j : ℕ} → Counterpart A B i j → (i < length A) × (j < length B)
  counterpart_there batches = (a.some, b.some)
  counterpart_there (children up c d kinds spots) = (c.there, d.there)

  pub counterpart_kind : {i j : ℕ} → Counterpart A B i j → (row_at A i).kind ≡ (row_at B j).kind
  counterpart_kind batches = a.batch ∙ sym b.batch
  counterpart_kind (children up c d kinds spots) = kinds

  module _ {p q i j : ℕ} (x : At A B p q i j) (c : Child A p i) where
    -- A counterpart of the next row of the first is a child that still comes, at the count of those that are past.
    facing : {k : ℕ} (y : Placed A B p i k) → (j ≤ k) × Child B q k × (count_before B q (match_kind B k) k ≡ count_before B q (match_kind B k) j)
    facing {k} y = (from, d, count)
      where
        d : Child B q k
        d = subst (λ (z : ℕ). Child B z k) (one_counterpart y.pair x.pair) y.two

        kind : ℕ
        kind = match_kind B k

        as_many : count_before A p kind i ≡ count_before B q kind k
        as_many = subst (λ (z : ℕ). count_before A p z i ≡ count_before B q z k) (spot_kind A B i k y.spots) (spot_count A B i k y.spots c d)

        count_of : Aligned A B p q i j kind → count_before B q kind k ≡ count_before B q kind j
        count_of (level equal) = sym as_many ∙ equal
        count_of (first_more more none) = absurd (beyond (dec_le k j))
          where
            beyond : Dec (k ≤ j) → ⊥
            beyond (yes before) = absurd (omega (arith, as_many, count_grows B q kind k j before))
            beyond (no after) = absurd (omega (arith, none k (omega arith) d))
        count_of (second_more more none) = absurd (omega (arith, none i (omega arith) c, spot_kind A B i k y.spots))

        count : count_before B q kind k ≡ count_before B q kind j
        count = count_of (x.aligned kind)

        from : j ≤ k
        from = go (dec_le j k)
          where
            go : Dec (j ≤ k) → j ≤ k
            go (yes fine) = fine
            go (no before) = absurd (omega (arith, count, later_more B q kind k j d refl (omega arith)))

    -- So a row that comes before the next of the second has no counterpart,
    pub alone : (Child B q j → match_kind A i < match_kind B j) → (k : ℕ) → Counterpart A B i k → ⊥
    alone before k y =
        let z = placed c y in
        let (from, d, count) = facing z in
        absurd (omega (arith, still_later b x.two (match_kind A i) before k from d, spot_kind A B i k z.spots))

    -- nor has one at the same spot as the next of the second, if they are of two kinds.
    pub unlike_alone : Child B q j → match_kind A i ≡ match_kind B j → ((row_at A i).kind ≡ (row_at B j).kind → ⊥) → (k : ℕ) → Counterpart A B i k → ⊥
    unlike_alone e alike unlike k y =
        let z = placed c y in
        let (from, d, count) = facing z in
        let same = one_row B q (match_kind B k) k j d e refl (sym alike ∙ spot_kind A B i k z.spots) count in
        unlike (z.kinds ∙ ap (λ (m : ℕ). (row_at B m).kind) same)
