-- A heading as far as it has been read, and the list with its numbers, after the next character. Assumes nothing.
use Rattle.std.specs.Prelude.{ℕ, ◌+◌, ◌-◌, ◌*◌, ◌%◌, ◌≡◌, Bool, true, false, ◌||◌, Option, Some, None, List, eqb, ltb, leb, length, get_or, set}
use Rattle.std.specs.Option.{unwrap_or}
use Rattle.cases.specs.Reading.{digit_of, largest}
use Rattle.lines.specs.declared.heading.Part.{Part}
use Rattle.lines.specs.declared.heading.Part.TheVariants.{Edition, Number, List as ListPart, Octets}
use Rattle.lines.specs.declared.heading.Heading.{Heading}

-- a heading of which nothing is read yet
abbrev pub blank : Heading
blank = record { part = Edition; edition = None; number = None; listed = false; count = 0 }

-- a heading and the list with its numbers are as a pair says
abbrev pub Written : Heading → List ℕ → Heading × List ℕ → Type 0
Written heading list w = (heading ≡ w.0) × (list ≡ w.1)

-- a decimal number with a digit more, or the largest `usize` if that is larger
unfoldable pub with_digit : ℕ → ℕ → ℕ
with_digit n d = elim (leb (n * 10 + d) largest) [ true ↦ n * 10 + d | false ↦ largest ]

-- the same with a character's digit
abbrev pub with_character : ℕ → ℕ → ℕ
with_character n c = with_digit n (digit_of c % 10)

-- the part that a mark announces: `:` the octets, `/` the number, which is 0 if none was given before, and `=` the list
abbrev pub with_part : Heading → Part → Option ℕ → Bool → Heading
with_part h part number listed = record { part = part; edition = h.edition; number = number; listed = listed; count = h.count }

unfoldable pub with_mark : Heading → ℕ → Heading
with_mark h c =
    elim (eqb c 0x3A) [
      | true ↦ with_part h Octets h.number h.listed
      | false ↦ elim (eqb c 0x2F) [
        | true ↦ with_part h Number (Some (unwrap_or h.number 0)) h.listed
        | false ↦ with_part h ListPart h.number true
      ]
    ]

-- a number more in the list, which begins as 0; a full list stays as it is
abbrev pub with_count : Heading → ℕ → Heading
with_count h n = record { part = h.part; edition = h.edition; number = h.number; listed = h.listed; count = n }

unfoldable pub with_number : Heading → List ℕ → Heading × List ℕ
with_number h list = elim (ltb h.count (length list)) [ true ↦ (with_count h (h.count + 1), set list h.count 0) | false ↦ (h, list) ]

-- a digit more in the last number of a list; a number past the list's end has none
unfoldable pub with_last : List ℕ → ℕ → ℕ → List ℕ
with_last list count c = elim (eqb count 0) [ true ↦ list | false ↦ set list (count - 1) (with_character (get_or list (count - 1) 0) c) ]

-- a digit of the edition, of the number or of the list's last number; the first digit of the edition names it
abbrev pub with_edition : Heading → ℕ → Heading
with_edition h n = record { part = h.part; edition = Some n; number = h.number; listed = h.listed; count = h.count }

abbrev pub with_its_number : Heading → ℕ → Heading
with_its_number h n = record { part = h.part; edition = h.edition; number = Some n; listed = h.listed; count = h.count }

unfoldable pub with_digit_at : Heading → ℕ → List ℕ → Heading × List ℕ
with_digit_at h c list =
    elim h.part [
      | Edition ↦ (with_edition h (with_character (unwrap_or h.edition 0) c), list)
      | Number ↦ (with_its_number h (with_character (unwrap_or h.number 0) c), list)
      | ListPart ↦ (h, with_last list h.count c)
      | Octets ↦ (h, with_last list h.count c)
    ]

-- the next character
abbrev pub is_mark : ℕ → Bool
is_mark c = (eqb c 0x3A || eqb c 0x2F) || eqb c 0x3D

unfoldable pub heading_next : Heading → ℕ → List ℕ → Heading × List ℕ
heading_next h c list =
    elim (is_mark c) [ true ↦ (with_mark h c, list) | false ↦ elim (eqb c 0x3B) [ true ↦ with_number h list | false ↦ with_digit_at h c list ] ]
