-- Plain ASCII text first (document 02, A2): where the check of UTF-8 steps over eight octets at once. Assumes nothing.
use Rattle.std.specs.Prelude.{ℕ, ◌+◌, ◌≤◌, ◌<◌, List, ◌≡◌, length, get_or, take}
use Rattle.der.specs.meaning.Utf8.{Utf8}

-- "such bytes": below 80 hex
abbrev pub Ascii : ℕ → Type 0
Ascii octet = octet < 0x80

-- "the next eight are such bytes": eight octets stand from the place on, and each is below 80
pub record NextEightAscii (text : List ℕ) (place : ℕ) : Type 0 where
  pub stand : place + 8 ≤ length text
  pub ascii : (k : ℕ) → k < 8 → Ascii (get_or text (place + k) 0)

-- a character may begin at a place: the octets before it are characters
abbrev pub MayBegin : List ℕ → ℕ → Type 0
MayBegin text place = Utf8 (take place text)

-- "shall step over eight at once wherever the next eight are such bytes", and elsewhere over one
pub data StepsOver (text : List ℕ) (place octets : ℕ) : Type 0 where
  eight : MayBegin text place → NextEightAscii text place → octets ≡ 8 → StepsOver text place octets
  one : (MayBegin text place → NextEightAscii text place → ⊥) → octets ≡ 1 → StepsOver text place octets

-- "plain ASCII text first": so many octets are below 80 before the first that isn't
pub record AsciiFirst (text : List ℕ) (count : ℕ) : Type 0 where
  pub within : count ≤ length text
  pub ascii : (k : ℕ) → k < count → Ascii (get_or text k 0)
  pub ended : count < length text → Ascii (get_or text count 0) → ⊥
