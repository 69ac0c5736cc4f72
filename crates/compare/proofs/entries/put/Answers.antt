-- `compare::entries::put` meets its contract: four stores are an entry at its place. Assumes nothing.
use Prim.Native.Nat.{ℕ, ◌+◌, ◌-◌, ◌*◌, ◌≤◌}
use native.Mathlib.Omega.{arith}
use mathlib.Core.Path.{◌≡◌, sym, ap, ap₂, ◌∙◌}
use mathlib.Core.List.{List, [], ◌∷◌, ◌++◌}
use lib.IntN.{ℤ, pos}
use lib.ListN.{length, get_or, set}
use Rattle.compare.specs.meaning.Changes.{entry_numbers}
use Rattle.compare.specs.steps.Lists.{window}
use Rattle.compare.proofs.theorems.Windows.{late, in_place, window_length}
use mir.Facts.{to_z-of_z}
use mir.Syntax.{w64}
use mir.Val.{SFits}
use Rattle.compare.specs.declared.entries.Change.{Change}
use Rattle.compare.specs.declared.entries.Change.TheVariants.{OnlyFirst, OnlySecond, LeavesDiffer}
use Rattle.compare.specs.steps.Told.{Small, numbers_of}
use Rattle.compare.proofs.entries.put.Goals as goal

pub returns-then-list-at : goal.returns-then-list-at
returns-then-list-at c = λ later d is before base counted old.
    let a = c.args in
    old ∙ late later a.from d before base (omega (arith, c.if-number-from.false)) (omega (arith, c.if-list-at.true, ap length old, window_length later a.from before base, ap (λ (n : ℕ). n - a.from) counted))

-- a small number has 64 bits
small : (n : ℕ) → n ≤ 65535 → SFits w64 (pos n)
small n few = record { sfits = omega (arith, few) }

-- and so has each number of an entry
numbers_fit : (change : Change) → Small change → (x y z w : ℤ) → x ∷ y ∷ z ∷ w ∷ [] ≡ numbers_of change → SFits w64 x × SFits w64 y × SFits w64 z × SFits w64 w
numbers_fit (OnlyFirst i) few x y z w is =
    (rw (at 0 is) (small 1 (omega arith)), rw (at 1 is) (small i few), rw (at 2 is) (small 0 (omega arith)), rw (at 3 is) (small 0 (omega arith)))
  where
    at : (k : ℕ) → {l m : List ℤ} → l ≡ m → get_or l k (pos 0) ≡ get_or m k (pos 0)
    at k same = ap (λ (l : List ℤ). get_or l k (pos 0)) same
numbers_fit (OnlySecond j) few x y z w is =
    (rw (at 0 is) (small 2 (omega arith)), rw (at 1 is) (small 0 (omega arith)), rw (at 2 is) (small j few), rw (at 3 is) (small 0 (omega arith)))
  where
    at : (k : ℕ) → {l m : List ℤ} → l ≡ m → get_or l k (pos 0) ≡ get_or m k (pos 0)
    at k same = ap (λ (l : List ℤ). get_or l k (pos 0)) same
numbers_fit (LeavesDiffer i j seconds) few x y z w is =
    (rw (at 0 is) (small 3 (omega arith)), rw (at 1 is) (small i few.0), rw (at 2 is) (small j few.1), rw (at 3 is) few.2)
  where
    at : (k : ℕ) → {l m : List ℤ} → l ≡ m → get_or l k (pos 0) ≡ get_or m k (pos 0)
    at k same = ap (λ (l : List ℤ). get_or l k (pos 0)) same

pub returns : goal.returns
returns c = λ later d is before base counted old.
    let a = c.args in
    let at = entry_numbers * (a.number - a.from) in
    let v = c.numbers-what.result in
    let fits = numbers_fit a.change c.requires.0 v.0 v.1 v.2 v.3 c.numbers-what.ensures in
    let here : at ≡ entry_numbers * (length before - a.from) = ap (λ (n : ℕ). entry_numbers * (n - a.from)) (sym counted) in
    let stores : List ℤ → ℕ → List ℤ = λ l k. set (set (set (set l k v.0) (k + 1) v.1) (k + 2) v.2) (k + 3) v.3 in
    let put_there : stores (window later a.from before base) (entry_numbers * (length before - a.from)) ≡ window later a.from (before ++ (d ∷ [])) base =
    in_place later a.from d before base (omega (arith, c.if-number-from.false)) (omega (arith, c.if-list-at.false, ap length old, window_length later a.from before base, here)) v.0 v.1 v.2 v.3 (is ∙ sym c.numbers-what.ensures) in
    rw (to_z-of_z fits.0, to_z-of_z fits.1, to_z-of_z fits.2, to_z-of_z fits.3) (ap₂ stores old here ∙ put_there)
