-- The test of whether the walk that reads every form passes takes the same steps as that walk and leaves out what was met. Assumes nothing.
use Prim.Native.Nat.{ℕ}
use native.Mathlib.Omega.{arith}
use mathlib.Core.Path.{◌≡◌, refl, sym, ◌∙◌, ap}
use mathlib.Core.Logic.{◌↔◌}
use mathlib.Core.Bool.{Bool, true, false}
use lib.Dec.{eqb}
use Rattle.der.specs.meaning.Tree.{Tree, none, element}
use Rattle.crmf.specs.steps.explain.Tally.{Tally}
use Rattle.crmf.specs.meaning.Notation.{Mark, both, alone, mark_of}
use Rattle.crmf.specs.meaning.Language.{readable}
use Rattle.crmf.specs.steps.explain.Walk.{line, closed, with_element, walk, passes, Walked, Passed, Broken}
pub use Rattle.crmf.specs.steps.explain.Walk.{every as all}
use Rattle.crmf.proofs.theorems.explain.Passing.{inner_walk, walk_closed, walk_open, walk_nowhere, walk_inner_broken, walk_breaks, walk_next}
use Rattle.crmf.proofs.theorems.explain.WalkSteps.{passes_in, Way, lost, within, broken, onward, way, passes_end, passes_lost, passes_inside, passes_breaks, passes_on}

-- whether a walk passes
abbrev pub is_passed : Walked → Bool
is_passed (Passed r) = true
is_passed (Broken q d r) = false

-- a walk that passes has met something
pub is_passed_lem : (w : Walked) → is_passed w ≡ true → (r : Tally) × (w ≡ Passed r)
is_passed_lem (Passed r) same = (r, refl)
is_passed_lem (Broken q d r) same = let z : ◌≡◌ {A = ℕ} 0 1 = cc in absurd (omega arith)

-- a walk that doesn't pass breaks somewhere
pub is_broken : (w : Walked) → is_passed w ≡ false → (q d : ℕ) × (r : Tally) × (w ≡ Broken q d r)
is_broken (Passed r) same = let z : ◌≡◌ {A = ℕ} 0 1 = cc in absurd (omega arith)
is_broken (Broken q d r) same = (q, d, r, refl)

-- the test inside an element, from the test over the elements inside it
pub passes_within : (s : Tally) (j place : ℕ) (t : Tree) → is_passed (walk all s j place t) ≡ passes j t
    → is_passed (inner_walk all s j place t) ≡ passes_in j t
unfolding inner_walk
passes_within s j place t inner = go (eqb j 0)
  where
    go : (b : Bool) → is_passed (elim b [ true ↦ Passed s | false ↦ walk all s j place t ]) ≡ (elim b [ true ↦ true | false ↦ passes j t ])
    go true = refl
    go false = inner

-- every form is readable to the walk that reads every form
pub all_read : (m : Mark) → readable all m ≡ true
all_read both = refl
all_read (alone e d detail) = refl

-- The walk that reads every form passes exactly when `passes` says so, whatever was met before.
pub walk_passes_lem : (s : Tally) (k around : ℕ) (t : Tree) → is_passed (walk all s k around t) ≡ passes k t
walk_passes_lem s k around none = go (closed k) refl
  where
    go : (b : Bool) → closed k ≡ b → is_passed (walk all s k around none) ≡ passes k none
    go true shut = rw (walk_closed all s k around shut, passes_end k) (sym shut)
    go false gap = rw (walk_open all s k around gap, passes_end k) (sym gap)
walk_passes_lem s k around (element id first whole c inside rest) =
    go (way k id c inside) (λ r j. walk_passes_lem r j first inside) (λ r j. walk_passes_lem r j around rest)
  where
    t : Tree
    t = element id first whole c inside rest

    go : Way k id c inside → ((r : Tally) (j : ℕ) → is_passed (walk all r j first inside) ≡ passes j inside)
        → ((r : Tally) (j : ℕ) → is_passed (walk all r j around rest) ≡ passes j rest)
        → is_passed (walk all s k around t) ≡ passes k t
    go (lost missing) inner later = ap is_passed (walk_nowhere all s k around id first whole c inside rest missing)
        ∙ sym (passes_lost k id first whole c inside rest missing)
    go (within n found stops) inner later =
        let m = with_element (line n) c first whole s in
        let j = (line n).inside in
        let (q, d, r, e) = is_broken (inner_walk all m j first inside) (passes_within m j first inside (inner m j) ∙ stops) in
        ap is_passed (walk_inner_broken all s k around id first whole c inside rest n q d r found (all_read (mark_of (line n).marking c)) e)
        ∙ sym (passes_inside k n id first whole c inside rest found stops)
    go (broken n d found fine breaks) inner later =
        let m = with_element (line n) c first whole s in
        let j = (line n).inside in
        let (r, e) = is_passed_lem (inner_walk all m j first inside) (passes_within m j first inside (inner m j) ∙ fine) in
        ap is_passed (walk_breaks all s k around id first whole c inside rest n d r found (all_read (mark_of (line n).marking c)) e breaks)
        ∙ sym (passes_breaks k n id first whole c inside rest found d fine breaks)
    go (onward n next found fine on) inner later =
        let m = with_element (line n) c first whole s in
        let j = (line n).inside in
        let (r, e) = is_passed_lem (inner_walk all m j first inside) (passes_within m j first inside (inner m j) ∙ fine) in
        ap is_passed (walk_next all s k around id first whole c inside rest n next r found (all_read (mark_of (line n).marking c)) e on)
        ∙ later r next ∙ sym (passes_on k n id first whole c inside rest found next fine on)

-- so the walk passes an inside that passes the test
pub inner_passed_lem : (m : Tally) (j place : ℕ) (t : Tree) → passes_in j t ≡ true → (r : Tally) × (inner_walk all m j place t ≡ Passed r)
inner_passed_lem m j place t fine = is_passed_lem (inner_walk all m j place t) (passes_within m j place t (walk_passes_lem m j place t) ∙ fine)

-- and breaks in one that doesn't
pub inner_broken : (m : Tally) (j place : ℕ) (t : Tree) → passes_in j t ≡ false → (q d : ℕ) × (r : Tally) × (inner_walk all m j place t ≡ Broken q d r)
inner_broken m j place t stops = is_broken (inner_walk all m j place t) (passes_within m j place t (walk_passes_lem m j place t) ∙ stops)

-- The test passes exactly when the walk that reads every form does.
pub passes_accepts : (k : ℕ) (t : Tree) (s : Tally) (around : ℕ)
    → (passes k t ≡ true) ↔ ((r : Tally) × (walk (λ e. true) s k around t ≡ Passed r))
passes_accepts k t s around =
    (λ fine. is_passed_lem (walk all s k around t) (walk_passes_lem s k around t ∙ fine), λ a. sym (walk_passes_lem s k around t) ∙ ap is_passed a.1)
