-- The steps of a merge, each from where it stands to where it stands next; and it ends at the next row after each of the two parents. Assumes
-- nothing.
use Prim.Native.Nat.{ℕ, suc, ◌<◌}
use mathlib.Core.Path.{◌≡◌, sym, ap, ◌∙◌}
use mathlib.Core.Bool.{false}
use mathlib.Core.List.{List}
use Rattle.crmf.specs.meaning.Rows.{Row, container}
use Rattle.compare.specs.meaning.Counterparts.{row_at, Child, match_kind, Counterpart, children}
use Rattle.compare.specs.meaning.Changes.{Change}
use Rattle.compare.specs.steps.Arranged.{Arranged}
use Rattle.compare.specs.steps.Merging.{Next, Alike, Merge, over, first, second, unlike, same, differing, within}
use Rattle.compare.proofs.theorems.RowOrder.{leaf_next, ended_next}
use Rattle.compare.proofs.theorems.Aligning.{At, at_other, at_start, at_first, at_both, one_spot}

module _ {s t : List ℕ} {A B : List Row} (a : Arranged s A) (b : Arranged t B) where
  pub at_second : {p q i j n : ℕ} → At A B p q i j → Child B q j → (Child A p i → match_kind B j < match_kind A i) → Next B j n → At A B p q i n
  at_second x d before n = at_other (at_first b a (at_other x) d before n)

  module _ {p q i j : ℕ} (x : At A B p q i j) (e : Alike A B p q i j) where
    -- two alike are counterparts
    pub alike_pair : Counterpart A B i j
    alike_pair = children x.pair e.one e.two e.kinds (one_spot a b x e.one e.two e.matched)

    pub at_inside : At A B i j (suc i) (suc j)
    at_inside = at_start a b alike_pair e.one.there e.two.there

    pub at_past : {m n : ℕ} → Next A i m → Next B j n → At A B p q m n
    at_past u v = at_both a b x e.one e.two e.matched u v

    module _ (leaf : container (row_at A i).kind ≡ false) where
      pub leaf_one : Next A i (suc i)
      leaf_one = leaf_next a i e.one.there leaf

      pub leaf_two : Next B j (suc j)
      leaf_two = leaf_next b j e.two.there (ap container (sym e.kinds) ∙ leaf)

      pub at_leaves : At A B p q (suc i) (suc j)
      at_leaves = at_past leaf_one leaf_two

  -- It ends at the next rows after the parents.
  pub merge_end : {p q i j k l : ℕ} {cs : List Change} → At A B p q i j → Merge s t A B p q i j cs k l → Next A p k × Next B q l
  merge_end x (over c d) = (ended_next a x.one c, ended_next b x.two d)
  merge_end x (first c before n more) = merge_end (at_first a b x c before n) more
  merge_end x (second d before n more) = merge_end (at_second x d before n) more
  merge_end x (unlike c d matched kinds u v more) = merge_end (at_both a b x c d matched u v) more
  merge_end x (same e leaf octets more) = merge_end (at_leaves x e leaf) more
  merge_end x (differing e leaf octets more) = merge_end (at_leaves x e leaf) more
  merge_end x (within e box inside more) =
      let (u, v) = merge_end (at_inside x e) inside in
      merge_end (at_past x e u v) more

  -- It goes on from there after the children of two alike.
  pub at_after : {p q i j m n : ℕ} {cs : List Change} → At A B p q i j → (e : Alike A B p q i j) → Merge s t A B i j (suc i) (suc j) cs m n → At A B p q m n
  at_after x e inside = let (u, v) = merge_end (at_inside x e) inside in at_past x e u v
