-- "the first equal pair (least later position, then least earlier)": for every list of numbers the search finds exactly that pair, and none
-- exactly if no two positions have equal numbers. Assumes nothing.
use Prim.Native.Nat.{ℕ, zero, suc, ◌+◌, ◌≤◌, ◌<◌}
use native.Mathlib.Omega.{arith}
use native.Mathlib.Nat.{lt_of_not-le}
use mathlib.Core.Logic.{◌↔◌}
use mathlib.Core.Path.{◌≡◌, refl, sym, ap, ap₂, ◌∙◌}
use mathlib.Core.Bool.{Bool, true, false}
use mathlib.Core.List.{List, [], ◌∷◌}
use Rattle.std.specs.Ordering.{int_eq}
use Rattle.std.specs.Prelude.{Option, Some, None}
use Rattle.std.proofs.lemmas.Bool.{false≢true}
use Rattle.std.proofs.lemmas.Bool.Decides.{Decides-int_eq}
use lib.IntN.{ℤ, pos}
use lib.ListN.{length, get_or, take}
use lib.Seq.{length-take-le, get_or-take}
use Rattle.verdict.specs.meaning.Duplicates.{Equal, FirstEqual}
use Rattle.verdict.specs.steps.SearchAnswer.{find, pair_from, pair_of}

-- the number at a position
abbrev pub at : List ℤ → ℕ → ℤ
at ns i = get_or ns i (pos 0)

-- no position before this one has the number
abbrev pub Without : ℤ → ℕ → List ℤ → Type 0
Without k n ns = (i : ℕ) → i < n → at ns i ≡ k → ⊥

-- The first position that has a number, as an answer `place` that counts from `from`.
record FirstAt (k : ℤ) (from : ℕ) (ns : List ℤ) (place : ℕ) : Type 0 where
  position : ℕ
  stands : place ≡ from + position
  there : position < length ns
  same : at ns position ≡ k
  before : Without k position ns

-- What an answer says of the numbers.
abbrev Found : ℤ → ℕ → List ℤ → Option ℕ → Type 0
Found k from ns None = Without k (length ns) ns
Found k from ns (Some place) = FirstAt k from ns place

-- no position before one more
without_more : (k n : ℤ) (j : ℕ) (ns : List ℤ) → int_eq n k ≡ false → Without k j ns → Without k (suc j) (n ∷ ns)
without_more k n j ns test none zero h e = false≢true (sym test ∙ (Decides-int_eq n k).1 e)
without_more k n j ns test none (suc i) h e = none i (omega arith) e

-- a number that the first position doesn't have is found after it
found_after : (k n : ℤ) (from : ℕ) (ns : List ℤ) (o : Option ℕ) → int_eq n k ≡ false → Found k (suc from) ns o → Found k from (n ∷ ns) o
found_after k n from ns None test none = without_more k n (length ns) ns test none
found_after k n from ns (Some place) test f =
    record {
      position = suc f.position;
      stands = omega (arith, f.stands);
      there = omega (arith, f.there);
      same = f.same;
      before = without_more k n f.position ns test f.before;
    }

-- the search for a number finds the first position that has it, if any has
found : (k : ℤ) (from : ℕ) (ns : List ℤ) → Found k from ns (find k from ns)
unfolding find
found k from [] = λ i h e. omega arith
found k from (n ∷ ns) = by_test (int_eq n k) refl (found k (suc from) ns)
  where
    by_test : (b : Bool) → int_eq n k ≡ b → Found k (suc from) ns (find k (suc from) ns)
        → Found k from (n ∷ ns) (elim b as (λ x. Option ℕ) [ true ↦ Some from | false ↦ find k (suc from) ns ])
    by_test true test rest =
        record { position = 0; stands = omega arith; there = omega arith; same = (Decides-int_eq n k).0 test; before = λ i h e. omega arith }
    by_test false test rest = found_after k n from ns (find k (suc from) ns) test rest

-- no pair has its later position before this one
abbrev pub NoneBefore : List ℤ → ℕ → Type 0
NoneBefore ns later = (i j : ℕ) → Equal ns i j → later ≤ j

module _ (ns : List ℤ) (j : ℕ) (there : j < length ns) (none : NoneBefore ns j) where
  -- the first pair, if its later position is known
  pub first_equal : (i : ℕ) → i < j → at ns i ≡ at ns j → Without (at ns j) i ns → FirstEqual ns i j
  first_equal i order same before =
      record {
        pair = record { order = order; there = there; same = same };
        first = λ x y e. (none x y e, λ here. least x y e here);
      }
    where
      least : (x y : ℕ) → Equal ns x y → y ≡ j → i ≤ x
      least x y e here =
          omega (arith, lt_of_not-le {n = suc x} {m = i} (λ sooner. before x sooner (e.same ∙ ap (at ns) here)))

  -- if no earlier position has the number here, no pair has its later position before the next
  pub none_here : Without (at ns j) j ns → NoneBefore ns (suc j)
  none_here before x y e =
      lt_of_not-le {n = y} {m = j} (λ far.
      let here : y ≡ j = omega (arith, none x y e) in
      before x (omega (arith, e.order)) (e.same ∙ ap (at ns) here))

-- What an answer says of pairs: it is the first, or there is none.
abbrev pub Told : List ℤ → Option (ℕ × ℕ) → Type 0
Told ns None = (i j : ℕ) → Equal ns i j → ⊥
Told ns (Some p) = FirstEqual ns p.0 p.1

-- from a position on
told_from : (ns : List ℤ) (more j : ℕ) → j + more ≡ length ns → NoneBefore ns j → Told ns (pair_from ns more j)
unfolding pair_from
told_from ns zero j size none = λ x y e. omega (arith, none x y e, e.there)
told_from ns (suc more) j size none =
    by_found (find (at ns j) 0 (take j ns)) (found (at ns j) 0 (take j ns)) (told_from ns more (suc j) (omega arith))
  where
    there : j < length ns
    there = omega arith

    before_here : length (take j ns) ≡ j
    before_here = length-take-le j ns (omega arith)

    by_found : (o : Option ℕ) → Found (at ns j) 0 (take j ns) o → (NoneBefore ns (suc j) → Told ns (pair_from ns more (suc j)))
        → Told ns (elim o as (λ x. Option (ℕ × ℕ)) [ Some i ↦ Some (i, j) | None ↦ pair_from ns more (suc j) ])
    by_found (Some i) f further =
        let here : f.position ≡ i = omega (arith, f.stands) in
        let early : i < j = omega (arith, f.there, before_here) in
        let same : at ns i ≡ at ns j = sym (get_or-take j ns i (pos 0) early) ∙ ap (at (take j ns)) (sym here) ∙ f.same in
        first_equal ns j there none i early same
        (λ x h e. f.before x (omega arith) (get_or-take j ns x (pos 0) (omega arith) ∙ e))
    by_found None f further =
        further (none_here ns j there none (λ i h e. f i (omega (arith, before_here)) (get_or-take j ns i (pos 0) h ∙ e)))

-- What is found is the first pair, and if nothing is found there is none.
pub told : (ns : List ℤ) → Told ns (pair_of ns)
told ns = told_from ns (length ns) 0 (omega arith) (λ i j e. omega arith)

-- There is at most one first pair.
pub first_alone : (ns : List ℤ) (i j x y : ℕ) → FirstEqual ns i j → FirstEqual ns x y → (i ≡ x) × (j ≡ y)
first_alone ns i j x y a b =
    let later : j ≡ y = omega (arith, (a.first x y b.pair).0, (b.first i j a.pair).0) in
    let earlier : i ≡ x = omega (arith, (a.first x y b.pair).1 (sym later), (b.first i j a.pair).1 later) in
    (earlier, later)

-- A pair is found exactly if it is the first.
pub pair_found : (ns : List ℤ) (i j : ℕ) → (pair_of ns ≡ Some (i, j)) ↔ FirstEqual ns i j
pair_found ns i j = (λ e. rw e at (told ns), λ f. back f (pair_of ns) refl (told ns))
  where
    back : FirstEqual ns i j → (o : Option (ℕ × ℕ)) → pair_of ns ≡ o → Told ns o → pair_of ns ≡ Some (i, j)
    back f None is none = absurd (none i j f.pair)
    back f (Some p) is g =
        let same = first_alone ns p.0 p.1 i j g f in
        is ∙ ap₂ (λ (x y : ℕ). Some (x, y)) same.0 same.1

-- None is found exactly if no two positions have equal numbers.
pub pair_absent : (ns : List ℤ) → (pair_of ns ≡ None) ↔ ((i j : ℕ) → Equal ns i j → ⊥)
pair_absent ns = (λ e. rw e at (told ns), λ none. back none (pair_of ns) refl (told ns))
  where
    back : ((i j : ℕ) → Equal ns i j → ⊥) → (o : Option (ℕ × ℕ)) → pair_of ns ≡ o → Told ns o → pair_of ns ≡ None
    back none None is g = is
    back none (Some p) is g = absurd (none p.0 p.1 g.pair)
