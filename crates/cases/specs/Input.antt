-- The characters of a program's standard input, one after the other. Assumes nothing.
use Rattle.std.specs.Prelude.{ℕ, zero, suc, ◌+◌, ◌≤◌, ◌<◌, ◌≡◌, Option, Some, None, List, length, get_or, replicate}
use Rattle.std.specs.List.{fold, between}
use Rattle.cases.specs.declared.input.Input.{Input}

-- how many characters of the input are read at a time
abbrev pub most : ℕ
most = 65536

-- an input of which nothing is read yet
abbrev pub opened : Input
opened = record { text = replicate most 0; read = 0; at = 0 }

-- the character at a place of a text, of which some characters were read, and what is left then
abbrev pub taken : ℕ → List ℕ → ℕ → Input × Option ℕ
taken read text at = (record { text = text; read = read; at = at + 1 }, Some (get_or text at 0))

-- the first character of a text; the input has ended if none was read
unfoldable pub begun : ℕ → List ℕ → Input × Option ℕ
begun zero text = (record { text = text; read = 0; at = 0 }, None)
begun (suc n) text = taken (suc n) text 0

-- an input and its next character are as a pair says
abbrev pub Found : Input → Option ℕ → Input × Option ℕ → Type 0
Found input c w = (input ≡ w.0) × (c ≡ w.1)

-- a character of the text is left
abbrev pub Left : Input → Type 0
Left input = (input.at < input.read) × (input.at < most)

-- The next character is the next of the text if one is left; the text then stays as it is. Otherwise the text is read anew, and the next
-- character is its first. Nothing is said of what is read: it is not the program's to say.
pub record Next (before after : Input) (c : Option ℕ) : Type 0 where
  pub kept : Left before → Found after c (taken before.read before.text before.at)
  pub anew : (Left before → ⊥) → (n : ℕ) × (n ≤ length after.text) × Found after c (begun n after.text)

-- no character of the text is left, and it stays so
abbrev pub AtEnd : Input → Input → Type 0
AtEnd before after = (Left before → ⊥) × (after.read ≡ before.read) × (after.at ≡ before.at)

-- The characters from the next one up to a place are left, and none of them ends a line; if there are none, the place is that of the next one.
pub record IsRun (input : Input) (end : ℕ) : Type 0 where
  pub ascends : input.at ≤ end
  pub inside : input.at < end → (end ≤ input.read) × (end ≤ most)
  pub no_end : (i : ℕ) → input.at ≤ i → i < end → get_or input.text i 0 ≡ 0x0A → ⊥

-- the longest such run: a line ends at the place, or no character is left there
abbrev pub LongestRun : Input → ℕ → Type 0
LongestRun input end = IsRun input end × (end < input.read → end < most → get_or input.text end 0 ≡ 0x0A)

-- the characters of it are read one after the other, and what follows them is next
pub record ReadsRun {S : Type 0} (after : S → ℕ → S) (before : Input) (start : S) (next : Input) (line : S) : Type 0 where
  pub run : LongestRun before next.at
  pub read : line ≡ fold after start (between before.at next.at before.text)
  pub kept : (next.text ≡ before.text) × (next.read ≡ before.read)
