-- An element's header: its identifier and length octets, judged in document 01's order. Assumes nothing.
use Rattle.std.specs.Prelude.{ℕ, suc, ◌+◌, true, false, List, [], ◌∷◌, leb, length}
use Rattle.der.specs.declared.cause.Cause.{Cause}
use Rattle.der.specs.declared.cause.Cause.TheVariants.{NoIdentifier, WrongIdentifier, NoLength, WrongLength, PastEnd}
use Rattle.der.specs.steps.Head.{Head, Stands, Broken}
use Rattle.der.specs.meaning.Identifier.{allowed}
use Rattle.der.specs.meaning.Length.{Length, missing, wrong, octets, length_of}

-- "content past the end (2)": k length octets and n octets of content, with `room` octets after the identifier
abbrev pub fitting : ℕ → ℕ → ℕ → ℕ → Head
fitting id room k n = elim (leb (k + n) room) [ true ↦ Stands id (suc k) n | false ↦ Broken PastEnd ]

-- "length octets missing (2), 4, content past the end (2)", over the octets after the identifier
unfoldable pub sized_by : ℕ → List ℕ → Length → Head
sized_by id bs missing = Broken NoLength
sized_by id bs wrong = Broken WrongLength
sized_by id bs (octets k n) = fitting id (length bs) k n

-- "identifier missing (2), 3", then the length, over the octets from the element's first byte to its parent's end
unfoldable pub head_of : List ℕ → Head
head_of [] = Broken NoIdentifier
head_of (id ∷ bs) = elim (allowed id) [ true ↦ sized_by id bs (length_of bs) | false ↦ Broken WrongIdentifier ]

-- the cause that the length octets give if there is no element
unfoldable pub cause_by : Length → Cause
cause_by missing = NoLength
cause_by wrong = WrongLength
cause_by (octets k n) = PastEnd

-- the cause for octets that begin with no element
unfoldable pub cause_of : List ℕ → Cause
cause_of [] = NoIdentifier
cause_of (id ∷ bs) = elim (allowed id) [ true ↦ cause_by (length_of bs) | false ↦ WrongIdentifier ]
