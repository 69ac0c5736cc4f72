-- What the recogniser says of elements in forms that both editions read: the walk that reads every form passes with as many rows, and its tally
-- stays as it was otherwise. Assumes nothing.
use Prim.Native.Nat.{ℕ, ◌+◌, ◌-◌, ◌≤◌}
use native.Mathlib.Omega.{arith}
use mathlib.Core.Path.{◌≡◌, refl, sym, ◌∙◌, ap}
use mathlib.Core.Bool.{Bool, true, false, not, and-eq-true_iff}
use mathlib.Core.List.{List}
use lib.Dec.{eqb}
use lib.ListN.{length}
use borrow.Author.Tests.{eqb-true, not-true}
use Rattle.der.specs.meaning.Tree.{Tree}
use Rattle.der.specs.steps.Reading.{tree}
use Rattle.der.specs.steps.Recognise.{is_list}
use Rattle.std.specs.Prelude.{Option, Some, None}
use Rattle.crmf.specs.steps.explain.Tally.{Tally}
use Rattle.crmf.specs.meaning.Notation.{Mark, both, alone, mark_of}
use Rattle.crmf.specs.meaning.Language.{readable}
use Rattle.crmf.specs.meaning.Rows.{long_id}
use Rattle.crmf.specs.steps.grammar.Lines.{Line}
use Rattle.crmf.specs.steps.explain.Walk.{rows_by, with_form, with_long_id, with_rows, with_element, walk, Passed}
use Rattle.crmf.specs.steps.recognise.Count.{neither, may_stand, counts, counts_at}
use Rattle.crmf.specs.steps.recognise.Inner.{ListCounted}
use Rattle.crmf.specs.steps.explain.Inner.{Tried}
use Rattle.crmf.proofs.theorems.recognise.CountSteps.{not_recognised}
use Rattle.crmf.proofs.theorems.recognise.CountedWalks.{counts_walk}
use Rattle.crmf.proofs.theorems.explain.EveryForm.{all}

-- a form that both editions read isn't noted
common_form : (m : Mark) (p : ℕ) (s : Tally) → readable (λ y. eqb y neither) m ≡ true → with_form m p s ≡ s
unfolding with_form
common_form both p s read = refl
common_form (alone e d detail) p s read = rw (eqb-true e neither read) refl

-- nor is a certReqId that isn't too long
short_id : (kind p whole : ℕ) (s : Tally) → long_id kind whole ≡ false → with_long_id kind p whole s ≡ s
unfolding with_long_id
short_id kind p whole s short = rw (with_long_id, short)

-- The tally has as many more rows as were counted, and nothing else is new.
abbrev MoreRows : (n m : ℕ) (s r : Tally) → Type 0
MoreRows n m s r = (n ≤ m) × (r ≡ with_rows (m - n) s)

more_met : (x : Line) (c : List ℕ) (p w n : ℕ) (s : Tally) → may_stand neither x c w ≡ true → MoreRows n (n + rows_by x) s (with_element x c p w s)
unfolding with_element
more_met x c p w n s standing =
    let good = (and-eq-true_iff (readable (λ y. eqb y neither) (mark_of x.marking c)) (not (long_id x.kind w))).0 standing in
    let same : with_long_id x.kind p w (with_form (mark_of x.marking c) p s) ≡ s =
    ap (with_long_id x.kind p w) (common_form (mark_of x.marking c) p s good.0) ∙ short_id x.kind p w s (not-true (long_id x.kind w) good.1) in
    let added : rows_by x ≡ n + rows_by x - n = omega arith in
    (omega arith, ap (with_rows (rows_by x)) same ∙ ap (λ (k : ℕ). with_rows k s) added)

more_none : (n : ℕ) (s : Tally) → MoreRows n n s s
more_none n s = (omega arith, ap (λ (k : ℕ). record { count = k; one = s.one; two = s.two; long = s.long }) (let z : s.count ≡ s.count + (n - n) = omega arith in z))

more_on : (n m k : ℕ) (s r v : Tally) → MoreRows n m s r → MoreRows m k r v → MoreRows n k s v
more_on n m k s r v (up, one) (further, two) =
    let sum : s.count + (m - n) + (k - m) ≡ s.count + (k - n) = omega arith in
    (omega arith, two ∙ ap (with_rows (k - m)) one ∙ ap (λ (c : ℕ). record { count = c; one = s.one; two = s.two; long = s.long }) sum)

-- The walk that reads every form passes over such elements, and only the rows are new.
pub common_walk : (t : Tree) (s : Tally) (k around r : ℕ) → counts neither k 0 t ≡ Some r → walk all s k around t ≡ Passed (with_rows r s)
common_walk t s k around r some =
    let (v, passed, more) = counts_walk neither MoreRows more_none more_on more_met t s k around 0 r some in
    passed ∙ ap Passed more.1 ∙ ap (λ (n : ℕ). Passed (with_rows n s)) (let all : r - 0 ≡ r = omega arith in all)

-- octets that are recognised are elements that are
counted_octets : (e left k n p r : ℕ) (bs : List ℕ) → counts_at e left k n p bs ≡ Some r → counts e k n (tree p bs) ≡ Some r
unfolding counts_at
counted_octets e left k n p r bs some = go (is_list left bs) some
  where
    go : (b : Bool) → (elim b as (λ x. Option ℕ) [ true ↦ counts e k n (tree p bs) | false ↦ None ]) ≡ Some r → counts e k n (tree p bs) ≡ Some r
    go true is = is
    go false nothing = not_recognised nothing

-- What the recogniser answers of octets is what trying them has come to, wherever they are.
pub tried_octets : (left state place : ℕ) (r : Option ℕ) (bs : List ℕ) → ListCounted neither left state 0 bs r → Tried state place bs r
tried_octets left state place r bs counted =
    record {
      counted = λ n is.
          counted_octets neither left state 0 place n bs (sym (counted.same place) ∙ is);
      few = λ n is. omega (arith, counted.few n is);
    }

-- and nothing is known of octets that aren't tried
pub not_tried : (state place : ℕ) (bs : List ℕ) → Tried state place bs None
not_tried state place bs = record { counted = λ n is. not_recognised is; few = λ n is. not_recognised is }

-- The walk over octets that were tried, and are recognised, has as many rows more.
module _ (state place n : ℕ) {r : Option ℕ} (bs : List ℕ) (tried : Tried state place bs r) (some : r ≡ Some n) where
  pub tried_walk : (s : Tally) (around : ℕ) → Passed (with_rows n s) ≡ walk all s state around (tree place bs)
  tried_walk s around = sym (common_walk (tree place bs) s state around n (tried.counted n some))

  pub tried_few : n ≤ length bs
  tried_few = tried.few n some
