-- The recogniser's count over elements, a law for each way it may go at the first: a container's end, an element that fits no line, may not
-- stand there or has an inside that isn't recognised, a value that breaks its rule, and a count that goes on. Assumes nothing.
use Prim.Native.Nat.{ℕ, ◌+◌}
use Rattle.std.proofs.lemmas.Option.{none-some}
use mathlib.Core.Path.{◌≡◌, refl}
use mathlib.Core.Bool.{Bool, true, false}
use mathlib.Core.List.{List}
use lib.Dec.{eqb}
use Rattle.der.specs.meaning.Tree.{Tree, none, element}
use Rattle.std.specs.Prelude.{Option, Some, None, Err, Ok}
use Rattle.crmf.specs.steps.explain.Walk.{line, find_line, closed, judged, rows_by, Onward}
use Rattle.crmf.specs.steps.recognise.Count.{may_stand, counts}

-- an answer with rows is not the answer for what isn't recognised
pub not_recognised : {A B : Type 0} {x : B} → None ≡ Some x → A
not_recognised {x = x} same = absurd (none-some x same)

-- the count inside an element whose inside starts at a line; 0 stands for a free inside, which has no rows
abbrev pub counts_in : ℕ → ℕ → ℕ → Tree → Option ℕ
counts_in e i n inside = elim (eqb i 0) [ true ↦ Some n | false ↦ counts e i n inside ]

-- the count at a container's end, if it may end
pub counts_closed : (e k n : ℕ) → closed k ≡ true → counts e k n none ≡ Some n
unfolding counts
counts_closed e k n shut = rw (shut, counts)

-- and if a part is missing
pub counts_open : (e k n : ℕ) → closed k ≡ false → counts e k n none ≡ None
unfolding counts
counts_open e k n gap = rw (gap, counts)

module _ (e k n id first whole : ℕ) (c : List ℕ) (inside rest : Tree) where
  -- an element that fits no part
  pub counts_nowhere : find_line k id ≡ None → counts e k n (element id first whole c inside rest) ≡ None
  unfolding counts
  counts_nowhere missing = rw (missing, counts)

  module _ (j : ℕ) (found : find_line k id ≡ Some j) where
    -- the count up to the end of the element's inside
    abbrev pub within : Option ℕ
    within = counts_in e (line j).inside (n + rows_by (line j)) inside

    -- an element that may not stand there
    pub counts_wrong : may_stand e (line j) c whole ≡ false → counts e k n (element id first whole c inside rest) ≡ None
    unfolding counts
    counts_wrong wrong = rw (found, counts) (rw wrong)

    -- an element whose value breaks its rule
    pub counts_breaks : (d : ℕ) → judged (line j).judge (line j).next c ≡ Err d
        → counts e k n (element id first whole c inside rest) ≡ None
    unfolding counts
    counts_breaks d breaks = go (may_stand e (line j) c whole) refl
      where
        go : (b : Bool) → may_stand e (line j) c whole ≡ b → counts e k n (element id first whole c inside rest) ≡ None
        go false wrong = counts_wrong wrong
        go true good = rw (found, counts) (rw good (rw breaks))

    -- an element whose inside isn't recognised
    pub counts_none : within ≡ None → counts e k n (element id first whole c inside rest) ≡ None
    unfolding counts
    counts_none nothing = go (may_stand e (line j) c whole) refl (judged (line j).judge (line j).next c) refl
      where
        go : (b : Bool) → may_stand e (line j) c whole ≡ b → (o : Onward) → judged (line j).judge (line j).next c ≡ o
            → counts e k n (element id first whole c inside rest) ≡ None
        go false wrong o is = counts_wrong wrong
        go true good (Err d) breaks = counts_breaks d breaks
        go true good (Ok next) onward = rw (found, counts) (rw good (rw onward (rw nothing)))

    -- an element that is recognised: the count goes on after it
    pub counts_next : (next m : ℕ) → may_stand e (line j) c whole ≡ true → judged (line j).judge (line j).next c ≡ Ok next → within ≡ Some m
        → counts e k n (element id first whole c inside rest) ≡ counts e next m rest
    unfolding counts
    counts_next next m good onward some = rw (found, counts) (rw good (rw onward (rw some)))
