-- Where the message at a position stands, as the bytes are read. Assumes nothing.
use Rattle.std.specs.Prelude.{ℕ, ◌≡◌, ◌<◌, ◌≤◌, true, false, List, [], ◌∷◌, Option, Some, None, leb, length, drop}
use Rattle.der.specs.meaning.Bounds.{longest}
use Rattle.der.specs.steps.Reading.{reading_at}
use Rattle.crmf.specs.meaning.Fields.{Field}
use Rattle.crmf.specs.steps.Fields.{fields_between}

-- the place of the first of some fields; an end if there are none
abbrev pub first_place : ℕ → List Field → ℕ
first_place end [] = end
first_place end (f ∷ fs) = f.place

-- the elements inside the input's first one, as they are read to the input's end
abbrev pub elements_read : List ℕ → List Field
elements_read s = fields_between s (reading_at s 0 (length s)).content (length s)

-- the place of the message at a position, from 0; the input's end if there is none there, or if the input is too long
unfoldable pub message_place : List ℕ → ℕ → ℕ
message_place s n = elim (leb (length s) longest) [ true ↦ first_place (length s) (drop n (elements_read s)) | false ↦ length s ]

-- the place of the message at a position, or that there is none there
abbrev pub MessageFound : List ℕ → ℕ → Option ℕ → Type 0
MessageFound s n (Some place) = (place ≡ message_place s n) × (place < length s)
MessageFound s n None = length s ≤ message_place s n
