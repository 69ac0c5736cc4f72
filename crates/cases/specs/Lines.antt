-- A line of an input, and what it is read into. Assumes nothing.
use Rattle.std.specs.Prelude.{ℕ, ◌≡◌, List, Result, Ok}
use Rattle.std.specs.Borrow.{Bor, MutBor}
use Rattle.std.specs.Fn.{Mut, CalledAt, CalledAtMut}
use Rattle.std.specs.List.{All, FoldsTo, fold}

-- what characters that end no line leave of a beginning, read one after the other
abbrev pub ReadsOn : {S : Type 0} → (S → ℕ → S) → S → S → Type 0
ReadsOn after start end = (characters : List ℕ) × All (λ c. c ≡ 0x0A → ⊥) characters × (end ≡ fold after start characters)

-- what a line leaves of it: such characters, and at last the line's end
abbrev pub ReadsLine : {S : Type 0} → (S → ℕ → S) → S → S → Type 0
ReadsLine {S} after start end = (before : S) × ReadsOn after start before × (end ≡ after before 0x0A)

-- a line is judged: it is read from the first character on, and the judge accepts it
abbrev pub JudgesLine : {S F E : Type 0} → Mut F (Bor S × Unit {0}) (Result (Unit {0}) E) → (S → S) → (S → ℕ → S) → F → S → F → Type 0
JudgesLine {S} judging anew after judge line next = ((old : S) × ReadsLine after (anew old) line) × CalledAt judging judge line (Ok tt) next

-- and so are lines, one after the other
abbrev pub JudgesLines : {S F E : Type 0} → Mut F (Bor S × Unit {0}) (Result (Unit {0}) E) → (S → S) → (S → ℕ → S) → F → F → Type 0
JudgesLines {S} judging anew after judge last = (lines : List S) × FoldsTo (JudgesLine judging anew after) judge lines last

-- the same of a judge that may change what a line is read into; nothing is said of what it leaves
abbrev pub ChangesLine : {S F E : Type 0} → Mut F (MutBor S × Unit {0}) (Result (Unit {0}) E × (MutBor S × Unit {0})) → (S → S) → (S → ℕ → S) → F → S → F
    → Type 0
ChangesLine {S} judging anew after judge line next = ((old : S) × ReadsLine after (anew old) line) × ((left : S) × CalledAtMut judging judge line (Ok tt) next left)

abbrev pub ChangesLines : {S F E : Type 0} → Mut F (MutBor S × Unit {0}) (Result (Unit {0}) E × (MutBor S × Unit {0})) → (S → S) → (S → ℕ → S) → F → F
    → Type 0
ChangesLines {S} judging anew after judge last = (lines : List S) × FoldsTo (ChangesLine judging anew after) judge lines last
