-- What the inner functions of writing promise: rows as the code has them, whole lengths, and octets written one run after another.
-- Assumes nothing.
use Rattle.std.specs.Prelude.{ℕ, suc, ◌+◌, ◌≤◌, ◌<◌, ◌≡◌, ◌⊎◌, Bool, true, false, ◌&&◌, ◌||◌, Option, Some, None, Result, List, [], ◌∷◌, ◌++◌, eqb, leb, length, get_or, take, drop}
use Rattle.der.specs.meaning.Bounds.{longest}
use Rattle.der.specs.declared.refusal.Refused.{Refused}
use Rattle.crmf.specs.meaning.Rows.{Row, container}
use Rattle.crmf.specs.meaning.Pieces.{piece_of, pieces_of}
use Rattle.crmf.specs.steps.rows.Agree.{draft_rows}
use Rattle.crmf.specs.steps.rows.Assembly.{whole_of, children_of, none_longer}
use Rattle.editions.specs.meaning.Answer.{Answer}
use Rattle.editions.specs.steps.Results.{answer_of}
use Rattle.writer.specs.declared.draft.Row.{Row as Given}
use Rattle.writer.specs.meaning.Draft.{inside}
use Rattle.writer.specs.steps.Writing.{most_rows, drafted, write_answer, output_after}

-- a row as the code has it
abbrev pub row_of : Given → Row
row_of r = record { kind = r.kind; first = r.first; whole = r.whole; parent = r.parent; content = r.content }

-- the row that has these numbers
abbrev pub row_with : List ℕ → Row
row_with ns = record { kind = get_or ns 0 0; first = get_or ns 1 0; whole = get_or ns 2 0; parent = get_or ns 3 0; content = get_or ns 4 0 }

-- The rows of a draft: how many there are, and which numbers each has.
pub record Numbered (draft : List ℕ) (rows : List (List ℕ)) : Type 0 where
  pub count : length rows ≡ length (draft_rows draft)
  pub each : (i : ℕ) → i < length rows → drop i (draft_rows draft) ≡ row_with (get_or rows i []) ∷ drop (suc i) (draft_rows draft)

-- A length is told if it is at most the longest of a batch.
abbrev pub Told : ℕ → Option ℕ → Type 0
Told n (Some m) = (m ≡ n) × (n ≤ longest)
Told n None = longest < n

-- whether a leaf lies in the slice
abbrev pub lies : List ℕ → Row → Bool
lies bytes r = container r.kind || leb (r.first + r.whole) (length bytes)

-- The whole length of a row is told if the row lies in the slice and isn't too long.
abbrev pub Whole : (bytes : List ℕ) (r : Row) (inner : ℕ) → Option ℕ → Type 0
Whole bytes r inner (Some n) = (lies bytes r ≡ true) × (n ≡ whole_of (piece_of bytes r) inner) × (n ≤ longest)
Whole bytes r inner None = (lies bytes r && leb (whole_of (piece_of bytes r) inner) longest) ≡ false

-- of the rows from number n on, no leaf leaves the slice and no piece is too long
abbrev pub sound : List ℕ → ℕ → List Row → Bool
sound bytes n rs = inside bytes rs && none_longer longest n (pieces_of bytes rs)

-- how many octets the children of row k have together
abbrev pub children : List ℕ → List Row → ℕ → ℕ
children bytes rs k = children_of k (suc k) (pieces_of bytes (drop (suc k) rs))

-- a table has this number for each row
abbrev pub Summed : List ℕ → List Row → List ℕ → Type 0
Summed bytes rs table = (k : ℕ) → k < length rs → get_or table k 0 ≡ children bytes rs k

-- Octets are written after the first `at` of a scratch, and `next` is the place after them. What comes after stays.
pub record Placed (old : List ℕ) (at : ℕ) (octets : List ℕ) (next : ℕ) (new : List ℕ) : Type 0 where
  pub place : next ≡ at + length octets
  pub room : next ≤ length old
  pub kept : take next new ≡ take at old ++ octets
  pub after : drop next new ≡ drop next old

-- They are written if there is room for them.
abbrev pub Appended : (old : List ℕ) (at : ℕ) (octets : List ℕ) → Option ℕ → (new : List ℕ) → Type 0
Appended old at octets (Some next) new = Placed old at octets next new
Appended old at octets None new = length old < at + length octets

-- a table that is lent for the sums has a zero for each row, and there are no more rows than a batch can have
pub record Blank (rs : List Row) (table : List ℕ) : Type 0 where
  pub few : length rs ≤ most_rows
  pub room : length rs ≤ length table
  pub zero : (k : ℕ) → k < length rs → get_or table k 0 ≡ 0

-- A number is added to the parent's sum, if the parent is below a limit.
pub record Added (old : List ℕ) (parent limit n : ℕ) (new : List ℕ) : Type 0 where
  pub below : (k : ℕ) → k < limit → get_or new k 0 ≡ elim (eqb parent k) [ true ↦ n | false ↦ 0 ] + get_or old k 0
  pub others : (k : ℕ) → limit ≤ k → get_or new k 0 ≡ get_or old k 0

-- what assembling is lent: a draft of which no leaf leaves the slice and no row is too long, its sums, and a scratch no longer than the longest
-- batch
pub record Lent (draft bytes sums scratch : List ℕ) : Type 0 where
  pub within : inside bytes (draft_rows draft) ≡ true
  pub fit : none_longer longest 0 (drafted draft bytes) ≡ true
  pub sized : length (draft_rows draft) ≤ length sums
  pub summed : Summed bytes (draft_rows draft) sums
  pub short : length scratch ≤ longest

-- A scratch begins with some octets, and a number is their length; or they are longer than the scratch.
abbrev pub Begins : List ℕ → Option ℕ → List ℕ → Type 0
Begins octets (Some n) scratch = (n ≤ length scratch) × (take n scratch ≡ octets)
Begins octets None scratch = length scratch < length octets

-- what building is lent: a zero for each row, and a scratch no longer than the longest batch
pub record Room (draft sums scratch : List ℕ) : Type 0 where
  pub blank : Blank (draft_rows draft) sums
  pub short : length scratch ≤ longest

-- the answer and the output are the computed ones
abbrev pub Computed : (e : ℕ) (draft bytes old : List ℕ) → Answer → List ℕ → Type 0
Computed e draft bytes old a new = (a ≡ write_answer e draft bytes old) × (new ≡ output_after e draft bytes old)

-- A draft is answered; or the scratch is too small, and then nothing is written, and it is shorter than the longest batch.
abbrev pub Built : (e : ℕ) (draft bytes scratch old : List ℕ) → Option (Result ℕ Refused) → List ℕ → Type 0
Built e draft bytes scratch old (Some r) new = Computed e draft bytes old (answer_of r) new
Built e draft bytes scratch old None new = (new ≡ old) × (length scratch < longest)

-- A draft is answered; or a size is too small, and then nothing is written, and the draft has more rows, or a batch may be longer.
abbrev pub Tried : (rows octets e : ℕ) (draft bytes old : List ℕ) → Option (Result ℕ Refused) → List ℕ → Type 0
Tried rows octets e draft bytes old (Some r) new = Computed e draft bytes old (answer_of r) new
Tried rows octets e draft bytes old None new = (new ≡ old) × (rows < length (draft_rows draft) ⊎ octets < longest)
