-- A merge of two batches' rows lists all that changed: every row of either is accounted for, and what changed can only be accounted for as an
-- entry. Assumes nothing.
use Prim.Native.Nat.{ℕ, zero, suc, ◌<◌}
use native.Mathlib.Decide.{dec_le}
use native.Mathlib.Omega.{arith}
use mathlib.Core.Path.{◌≡◌, sym, ap, subst, ◌∙◌}
use mathlib.Core.Bool.{false, false≢true}
use mathlib.Core.List.{List, Memᴰ}
use lib.ListN.{length}
use Rattle.crmf.specs.meaning.Kinds as kinds
use Rattle.crmf.specs.meaning.Rows.{Row, container}
use Rattle.crmf.proofs.Laws.{container_kinds}
use Rattle.compare.specs.meaning.Counterparts.{row_at, Child, Counterpart, batches, Below, child, deeper}
use Rattle.compare.specs.meaning.Changes.{Change, only_first, only_second, leaves_differ, row_octets, Changed, in_first, in_second, in_both, matched, is_alone, differs, below, FirstAccounted, SecondAccounted}
use Rattle.compare.specs.steps.Arranged.{Arranged}
use Rattle.compare.specs.steps.Merging.{Next, Merge}
use Rattle.compare.proofs.theorems.Aligning.{other_way, At, at_start}
use Rattle.compare.proofs.theorems.OneCounterpart.{one_counterpart, above_too, counterpart_there}
use Rattle.compare.proofs.theorems.MergeSteps.{merge_end}
use Rattle.compare.proofs.theorems.Merged.{merged_only, first_accounted, second_accounted}

module _ {s t : List ℕ} {A B : List Row} where
  -- what an entry says
  pub alone_first : {i : ℕ} → Changed s t A B (only_first i) → (j : ℕ) → Counterpart A B i j → ⊥
  alone_first (in_first pair c none) = none

  pub alone_second : {j : ℕ} → Changed s t A B (only_second j) → (i : ℕ) → Counterpart A B i j → ⊥
  alone_second (in_second pair c none) = none

  pub differ_pair : {i j : ℕ} → Changed s t A B (leaves_differ i j) → Counterpart A B i j
  differ_pair (in_both pair leaf octets) = pair

-- whatever a child is below is its parent or above it, so it has a counterpart if the parent has one
parent_above : {A B : List Row} {p q k i : ℕ} → Child A p i → Below A k i → Counterpart A B p q → (l : ℕ) × Counterpart A B k l
parent_above {A} {B} {q = q} c (child d) pair = (q, subst (λ (x : ℕ). Counterpart A B x q) (sym c.below ∙ d.below) pair)
parent_above {A} {B} {q = q} c (deeper under d) pair = above_too under (subst (λ (x : ℕ). Counterpart A B x q) (sym c.below ∙ d.below) pair)

-- the next row after the batch is past all
pub next_batch : {rs : List Row} {k : ℕ} → Next rs 0 k → k ≡ length rs
next_batch {rs} {k} n = go (dec_le (suc k) (length rs))
  where
    go : Dec (k < length rs) → k ≡ length rs
    go (yes more) = absurd (omega (arith, n.out more))
    go (no x) = omega (arith, n.there)

-- a batch is a container
pub batch_box : {u : List ℕ} {rs : List Row} → Arranged u rs → container (row_at rs 0).kind ≡ false → ⊥
batch_box x leaf = false≢true (sym leaf ∙ ap container x.batch ∙ container_kinds kinds.batch)

module _ {s t : List ℕ} {A B : List Row} (a : Arranged s A) (b : Arranged t B) where
  -- the merge of two batches starts so
  pub at_batches : At A B 0 0 1 1
  at_batches = at_start a b batches a.some b.some

  module _ {k l : ℕ} {cs : List Change} (whole : Merge s t A B 0 0 1 1 cs k l) where
    -- Every row of the first batch is accounted for,
    pub all_first_accounted : (i : ℕ) → i < length A → FirstAccounted s t A B cs i
    all_first_accounted zero there = matched batches (λ leaf. absurd (batch_box a leaf))
    all_first_accounted (suc i) there =
        first_accounted a b at_batches whole (suc i) (omega arith) (omega (arith, next_batch (merge_end a b at_batches whole).0))

    -- and every row of the second.
    pub all_second_accounted : (j : ℕ) → j < length B → SecondAccounted s t A B cs j
    all_second_accounted zero there = matched batches (λ leaf. absurd (batch_box b leaf))
    all_second_accounted (suc j) there =
        second_accounted a b at_batches whole (suc j) (omega arith) (omega (arith, next_batch (merge_end a b at_batches whole).1))

    -- Every entry says what is so.
    pub whole_only : (c : Change) → Memᴰ c cs → Changed s t A B c
    whole_only c m = merged_only a b at_batches whole c m

    -- All that changed is listed.
    pub whole_all : (c : Change) → Changed s t A B c → Memᴰ c cs
    whole_all (only_first i) (in_first pair c none) = go (all_first_accounted i c.there)
      where
        go : FirstAccounted s t A B cs i → Memᴰ (only_first i) cs
        go (matched found octets) = absurd (none _ found)
        go (is_alone m) = m
        go (differs m) = absurd (none _ (differ_pair (whole_only _ m)))
        go (below m under) = let (l, found) = parent_above c under pair in absurd (alone_first (whole_only _ m) l found)
    whole_all (only_second j) (in_second pair c none) = go (all_second_accounted j c.there)
      where
        go : SecondAccounted s t A B cs j → Memᴰ (only_second j) cs
        go (matched found octets) = absurd (none _ (other_way found))
        go (is_alone m) = m
        go (differs m) = absurd (none _ (differ_pair (whole_only _ m)))
        go (below m under) = let (l, found) = parent_above c under (other_way pair) in absurd (alone_second (whole_only _ m) l (other_way found))
    whole_all (leaves_differ i j) (in_both pair leaf octets) = go (all_first_accounted i (counterpart_there a b pair).0)
      where
        go : FirstAccounted s t A B cs i → Memᴰ (leaves_differ i j) cs
        go (matched {j = k} found same) =
            absurd (octets (same leaf ∙ ap (λ (x : ℕ). row_octets t (row_at B x)) (one_counterpart found pair)))
        go (is_alone m) = absurd (alone_first (whole_only _ m) j pair)
        go (differs {j = k} m) =
            subst (λ (x : ℕ). Memᴰ (leaves_differ i x) cs) (one_counterpart (differ_pair (whole_only _ m)) pair) m
        go (below m under) = let (l, found) = above_too under pair in absurd (alone_first (whole_only _ m) l found)
