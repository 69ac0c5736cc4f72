-- What the inner functions of the walk require and answer. Assumes nothing.
use Rattle.std.specs.Prelude.{ℕ, ◌*◌, ◌≤◌, ◌<◌, ◌≡◌, true, false, List, eqb, length, get_or, Option, Some, Result, Ok, Err}
use Rattle.std.proofs.Math.Seq.{slice}
use Rattle.der.specs.meaning.Tree.{Tree}
use Rattle.der.specs.meaning.Bounds.{longest}
use Rattle.der.specs.steps.Reading.{tree}
use Rattle.crmf.specs.declared.explain.tally.Tally.{Tally as Kept}
use Rattle.crmf.specs.steps.explain.Tally.{Tally, tally_of}
use Rattle.crmf.specs.meaning.Notation.{mark_of}
use Rattle.crmf.specs.steps.grammar.Packed.{packed, mark_code}
use Rattle.crmf.specs.declared.explain.Cursor.{Cursor}
use Rattle.crmf.specs.declared.explain.Break.{Break}
use Rattle.crmf.specs.steps.explain.Walk.{line, walk, every, Onward, Walked, Passed, Broken}
use Rattle.crmf.specs.steps.recognise.Count.{neither, counts}

-- What they are lent: a part of an input from a place to an end, at most two rows for each byte before it.
pub record Lent (bytes : List ℕ) (at end count : ℕ) : Type 0 where
  pub short : length bytes ≤ longest
  pub order : at ≤ end
  pub inside : end ≤ length bytes
  pub few : count ≤ 2 * at

-- whether a word is one of the grammar's lines, packed
abbrev pub Packs : ℕ → Type 0
Packs word = (k : ℕ) × (word ≡ get_or packed k 0)

-- whether a number is the code of a mark in the grammar
abbrev pub Marks : ℕ → Type 0
Marks mark = (k : ℕ) × ((c : List ℕ) × (mark_code (mark_of (line k).marking c) ≡ mark))

-- the walk over the inside of an element in a line's form
abbrev pub inside_walk : ℕ → Tally → ℕ → Tree → Walked
inside_walk k s around t = elim (eqb (line k).inside 0) [ true ↦ Passed s | false ↦ walk every s (line k).inside around t ]

-- What trying octets at a place from a line on has come to: their rows, if they are what the lines say in forms that both editions read, and none
-- if that isn't known.
pub record Tried (state place : ℕ) (octets : List ℕ) (r : Option ℕ) : Type 0 where
  pub counted : (n : ℕ) → r ≡ Some n → counts neither state 0 (tree place octets) ≡ Some n
  pub few : (n : ℕ) → r ≡ Some n → n ≤ length octets

-- A walk that passes counts at most two rows for each byte up to an end.
abbrev pub Passing : ℕ → Result Kept Break → Type 0
Passing end (Ok s) = s.count ≤ 2 * end
Passing end (Err b) = Unit {0}

-- the walk over the elements from a cursor to an end, in a container at a place
abbrev pub walk_from : List ℕ → Cursor → ℕ → ℕ → Walked
walk_from bytes c end around = walk every (tally_of c.tally) c.state around (tree c.at (slice c.at end bytes))

-- where a walk stops
abbrev pub stop : ℕ → ℕ → Kept → Result Cursor Break
stop at d s = Err (record { place = at; detail = d; tally = s })

-- the step that a value's answer makes, at an element from a place to its end
abbrev pub stepped : ℕ → ℕ → Kept → Onward → Result Cursor Break
stepped at to s (Ok state) = Ok (record { state = state; at = to; tally = s })
stepped at to s (Err d) = stop at d s

-- the walk after a step
abbrev pub continued : List ℕ → ℕ → ℕ → Result Cursor Break → Walked
continued bytes end around (Ok c) = walk_from bytes c end around
continued bytes end around (Err b) = Broken b.place b.detail (tally_of b.tally)

-- A step goes forward and stays within the end, with at most two rows for each byte.
abbrev pub Forward : ℕ → ℕ → Result Cursor Break → Type 0
Forward at end (Ok c) = (at < c.at) × (c.at ≤ end) × (c.tally.count ≤ 2 * c.at)
Forward at end (Err b) = Unit {0}

-- The step over the element at a cursor: the walk after it is the walk from the cursor.
pub record Stepped (bytes : List ℕ) (c : Cursor) (end : ℕ) (r : Result Cursor Break) : Type 0 where
  pub same : (around : ℕ) → continued bytes end around r ≡ walk_from bytes c end around
  pub forward : Forward c.at end r
