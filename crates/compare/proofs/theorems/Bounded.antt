-- A merge lists no more entries than there are rows in both batches, and no row is in two entries. Assumes nothing.
use Prim.Native.Nat.{ℕ, ◌+◌, ◌≤◌}
use native.Mathlib.Omega.{arith}
use mathlib.Core.Path.{◌≡◌, refl, ap}
use mathlib.Core.List.{List, Memᴰ}
use lib.ListN.{length, length-append}
use Rattle.crmf.specs.meaning.Rows.{Row}
use Rattle.compare.specs.meaning.Changes.{Change, only_first, only_second, leaves_differ, Changes}
use Rattle.compare.specs.steps.Arranged.{Arranged}
use Rattle.compare.specs.steps.Merging.{Merge, over, first, second, unlike, same, within}
use Rattle.compare.specs.steps.Merging as merging
use Rattle.compare.proofs.theorems.Complete.{at_batches, next_batch, alone_first, alone_second, differ_pair}
use Rattle.compare.proofs.theorems.Existing.{whole_merge, merged_changes}
use Rattle.compare.proofs.theorems.MergeSteps.{merge_end}
use Rattle.compare.proofs.theorems.OneCounterpart.{one_counterpart, one_counterpart_of}
use Rattle.compare.proofs.theorems.OneList.{changes_once}

-- each entry passes a row
merged_few : {s t : List ℕ} {A B : List Row} {p q i j k l : ℕ} {cs : List Change} → Merge s t A B p q i j cs k l → length cs + (i + j) ≤ k + l
merged_few (over c d) = omega arith
merged_few (first c before n more) = omega (arith, merged_few more, n.past)
merged_few (second c before n more) = omega (arith, merged_few more, n.past)
merged_few (unlike c d alike kinds u v more) = omega (arith, merged_few more, u.past, v.past)
merged_few (same e leaf octets more) = omega (arith, merged_few more)
merged_few (merging.differing e leaf octets more) = omega (arith, merged_few more)
merged_few (within {cs = cs} {ds = ds} e box inside more) = omega (arith, merged_few inside, merged_few more, length-append cs ds)

module _ {s t : List ℕ} {A B : List Row} where
  -- There are no more entries than rows in both.
  pub changes_few : Arranged s A → Arranged t B → {cs : List Change} → Changes s t A B cs → length cs ≤ length A + length B
  changes_few a b {cs} x =
      let whole = whole_merge a b in
      let (one, two) = merge_end a b (at_batches a b) whole.merge in
      let same_list = ap length (changes_once x (merged_changes a b whole.merge)) in
      omega (arith, merged_few whole.merge, next_batch one, next_batch two, same_list)

-- An entry speaks of a row of the first batch; of the second.
pub data InFirst (i : ℕ) : Change → Type 0 where
  alone : InFirst i (only_first i)
  differing : {j : ℕ} → InFirst i (leaves_differ i j)

pub data InSecond (j : ℕ) : Change → Type 0 where
  alone : InSecond j (only_second j)
  differing : {i : ℕ} → InSecond j (leaves_differ i j)

module _ {s t : List ℕ} {A B : List Row} {cs : List Change} (x : Changes s t A B cs) where
  -- No row of the first batch is in two entries,
  pub first_once : {i : ℕ} {c d : Change} → InFirst i c → InFirst i d → Memᴰ c cs → Memᴰ d cs → c ≡ d
  first_once alone alone m n = refl
  first_once alone differing m n = absurd (alone_first (x.only _ m) _ (differ_pair (x.only _ n)))
  first_once differing alone m n = absurd (alone_first (x.only _ n) _ (differ_pair (x.only _ m)))
  first_once {i} differing differing m n = ap (leaves_differ i) (one_counterpart (differ_pair (x.only _ m)) (differ_pair (x.only _ n)))

  -- nor is one of the second.
  pub second_once : {j : ℕ} {c d : Change} → InSecond j c → InSecond j d → Memᴰ c cs → Memᴰ d cs → c ≡ d
  second_once alone alone m n = refl
  second_once alone differing m n = absurd (alone_second (x.only _ m) _ (differ_pair (x.only _ n)))
  second_once differing alone m n = absurd (alone_second (x.only _ n) _ (differ_pair (x.only _ m)))
  second_once {j} differing differing m n = ap (λ (i : ℕ). leaves_differ i j) (one_counterpart_of (differ_pair (x.only _ m)) (differ_pair (x.only _ n)))
