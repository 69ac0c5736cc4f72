-- Where a merge stands: the children of counterparts that it has passed are as many on both sides, by each kind that still comes. So what it pairs
-- stands at one spot, and what it passes alone has no counterpart. Assumes nothing.
use Prim.Native.Nat.{ℕ, zero, suc, ◌≤◌, ◌<◌}
use native.Mathlib.Omega.{arith}
use mathlib.Core.Path.{◌≡◌, refl, sym, ap, ap₂, subst, ◌∙◌}
use mathlib.Core.Bool.{false}
use mathlib.Core.List.{List}
use lib.ListN.{length}
use Rattle.crmf.specs.meaning.Rows.{Row}
use Rattle.compare.specs.meaning.Counterparts.{Child, match_kind, counts, count_before, spot, Counterpart, batches, children}
use Rattle.compare.specs.steps.Arranged.{Arranged}
use Rattle.compare.specs.steps.Merging.{Next}
use Rattle.compare.proofs.theorems.Counting.{child_counts, elsewhere, of_another, one_more, no_more, count_past}
use Rattle.compare.proofs.theorems.RowOrder.{Reached, same_or_not, child_or_not, child_after, reached_child, reached_next, no_later, matched_ascend}

-- counterparts the other way round
pub other_way : {A B : List Row} {i j : ℕ} → Counterpart A B i j → Counterpart B A j i
other_way batches = batches
other_way (children up c d kinds spots) = children (other_way up) d c (sym kinds) (sym spots)

-- The passed children that are matched by a kind are as many on both sides, or there are more of the first's and the second's are all past, or the
-- other way round.
pub data Aligned (A B : List Row) (p q i j kind : ℕ) : Type 0 where
  level : count_before A p kind i ≡ count_before B q kind j → Aligned A B p q i j kind
  first_more : count_before B q kind j < count_before A p kind i → ((l : ℕ) → j ≤ l → Child B q l → kind < match_kind B l)
      → Aligned A B p q i j kind
  second_more : count_before A p kind i < count_before B q kind j → ((l : ℕ) → i ≤ l → Child A p l → kind < match_kind A l)
      → Aligned A B p q i j kind

-- The merge of the children of rows p and q stands at rows i and j.
pub record At (A B : List Row) (p q i j : ℕ) : Type 0 where
  pub pair : Counterpart A B p q
  pub one : Reached A p i
  pub two : Reached B q j
  pub aligned : (kind : ℕ) → Aligned A B p q i j kind

-- the same, the other way round
aligned_other : {A B : List Row} {p q i j kind : ℕ} → Aligned A B p q i j kind → Aligned B A q p j i kind
aligned_other (level same) = level (sym same)
aligned_other (first_more more none) = second_more more none
aligned_other (second_more more none) = first_more more none

pub at_other : {A B : List Row} {p q i j : ℕ} → At A B p q i j → At B A q p j i
at_other x = record { pair = other_way x.pair; one = x.two; two = x.one; aligned = λ kind. aligned_other (x.aligned kind) }

module _ {s : List ℕ} {rs : List Row} (a : Arranged s rs) where
  -- the count past a child and all below it
  count_on : {p i m : ℕ} (kind : ℕ) → Child rs p i → Next rs i m → count_before rs p kind m ≡ count_before rs p kind (suc i)
  count_on {p} {i} {m} kind c n =
      count_past rs p kind (suc i) m n.past (λ k from to. elsewhere rs p kind k (λ same. absurd (omega (arith, n.below k from to, child_after a c))))

  count_own : {p i m : ℕ} (kind : ℕ) → Child rs p i → Next rs i m → match_kind rs i ≡ kind → count_before rs p kind m ≡ suc (count_before rs p kind i)
  count_own {p} {i} {m} kind c n same = count_on kind c n ∙ one_more rs p kind i (child_counts rs p kind i c same)

  count_rest : {p i m : ℕ} (kind : ℕ) → Child rs p i → Next rs i m → (match_kind rs i ≡ kind → ⊥) → count_before rs p kind m ≡ count_before rs p kind i
  count_rest {p} {i} {m} kind c n other_kind = count_on kind c n ∙ no_more rs p kind i (of_another rs p kind i other_kind)

  -- none of a row's children comes before it
  pub count_none : (p kind : ℕ) → p < length rs → count_before rs p kind (suc p) ≡ 0
  unfolding count_before counts
  count_none p kind there =
      count_past rs p kind 0 (suc p) (omega arith) (λ k from to. none k to)
    where
      none : (k : ℕ) → k < suc p → counts rs p kind k ≡ false
      none zero to = refl
      none (suc k) to = elsewhere rs p kind (suc k) (λ same. absurd (omega (arith, a.earlier (suc k) (omega arith) (omega arith))))

module _ {s : List ℕ} {B : List Row} (b : Arranged s B) where
  -- The children of a row that still come are matched by later kinds than one that comes before the next of them.
  pub still_later : {q j : ℕ} → Reached B q j → (kind : ℕ) → (Child B q j → kind < match_kind B j) → (l : ℕ) → j ≤ l → Child B q l → kind < match_kind B l
  still_later {q} {j} r kind before l from c = go (child_or_not B q j)
    where
      go : Dec (Child B q j) → kind < match_kind B l
      go (yes d) = omega (arith, before d, matched_ascend b d c from)
      go (no none) = absurd (no_later b r none l from c)

module _ {s t : List ℕ} {A B : List Row} (a : Arranged s A) (b : Arranged t B) where
  -- The merge starts with the children of counterparts.
  pub at_start : {i j : ℕ} → Counterpart A B i j → i < length A → j < length B → At A B i j (suc i) (suc j)
  at_start {i} {j} pair here there =
      record {
        pair = pair;
        one = reached_child a i here;
        two = reached_child b j there;
        aligned = λ kind. level (count_none a i kind here ∙ sym (count_none b j kind there));
      }

  -- It passes a child of the first that comes before the next of the second,
  pub at_first : {p q i j m : ℕ} → At A B p q i j → Child A p i → (Child B q j → match_kind A i < match_kind B j) → Next A i m → At A B p q m j
  at_first {p} {q} {i} {j} {m} x c before n =
      record { pair = x.pair; one = reached_next a x.one c n; two = x.two; aligned = λ kind. go kind (same_or_not (match_kind A i) kind) (x.aligned kind) }
    where
      go : (kind : ℕ) → Dec (match_kind A i ≡ kind) → Aligned A B p q i j kind → Aligned A B p q m j kind
      go kind (yes same) (level equal) =
          first_more (omega (arith, count_own a kind c n same)) (subst (λ (k : ℕ). (l : ℕ) → j ≤ l → Child B q l → k < match_kind B l) same (still_later b x.two (match_kind A i) before))
      go kind (yes same) (first_more more none) = first_more (omega (arith, count_own a kind c n same)) none
      go kind (yes same) (second_more more none) = absurd (omega (arith, none i (omega arith) c))
      go kind (no else) (level equal) = level (count_rest a kind c n else ∙ equal)
      go kind (no else) (first_more more none) = first_more (omega (arith, count_rest a kind c n else)) none
      go kind (no else) (second_more more none) =
          second_more (omega (arith, count_rest a kind c n else)) (λ l from d. none l (omega (arith, n.past)) d)

  -- and two that are matched by one kind.
  pub at_both : {p q i j m n : ℕ} → At A B p q i j → Child A p i → Child B q j → match_kind A i ≡ match_kind B j → Next A i m → Next B j n
      → At A B p q m n
  at_both {p} {q} {i} {j} {m} {n} x c d alike u v =
      record {
        pair = x.pair;
        one = reached_next a x.one c u;
        two = reached_next b x.two d v;
        aligned = λ kind. go kind (same_or_not (match_kind A i) kind) (x.aligned kind);
      }
    where
      go : (kind : ℕ) → Dec (match_kind A i ≡ kind) → Aligned A B p q i j kind → Aligned A B p q m n kind
      go kind (yes same) (level equal) = level (count_own a kind c u same ∙ ap suc equal ∙ sym (count_own b kind d v (sym alike ∙ same)))
      go kind (yes same) (first_more more none) = absurd (omega (arith, none j (omega arith) d))
      go kind (yes same) (second_more more none) = absurd (omega (arith, none i (omega arith) c))
      go kind (no else) (level equal) = level (count_rest a kind c u else ∙ equal ∙ sym (count_rest b kind d v (λ e. else (alike ∙ e))))
      go kind (no else) (first_more more none) =
          first_more (omega (arith, count_rest a kind c u else, count_rest b kind d v (λ e. else (alike ∙ e)))) (λ l from e. none l (omega (arith, v.past)) e)
      go kind (no else) (second_more more none) =
          second_more (omega (arith, count_rest a kind c u else, count_rest b kind d v (λ e. else (alike ∙ e)))) (λ l from e. none l (omega (arith, u.past)) e)

  -- These stand at one spot.
  pub one_spot : {p q i j : ℕ} → At A B p q i j → Child A p i → Child B q j → match_kind A i ≡ match_kind B j → spot A i ≡ spot B j
  unfolding spot
  one_spot {p} {q} {i} {j} x c d alike =
      rw (c.below, d.below) (ap₂ (λ (k n : ℕ). record { kind = k; number = n }) alike (go (x.aligned (match_kind B j))))
    where
      go : Aligned A B p q i j (match_kind B j) → count_before A p (match_kind A i) i ≡ count_before B q (match_kind B j) j
      go (level equal) = ap (λ (k : ℕ). count_before A p k i) alike ∙ equal
      go (first_more more none) = absurd (omega (arith, none j (omega arith) d))
      go (second_more more none) = absurd (omega (arith, none i (omega arith) c))
