-- An element's length octets (X.690 8.1.3, 10.1) by themselves, whatever its identifier is: how many octets come before its content, and how
-- many are its content. Assumes nothing.
use Rattle.std.specs.Prelude.{ℕ, suc, ◌+◌, true, false, ◌&&◌, List, [], ◌∷◌, Option, None, Some, leb, eqb, length}
use Rattle.der.specs.declared.element.length.Span.{Span}
use Rattle.der.specs.meaning.Length.{Length, missing, wrong, octets, length_of}

-- no length
abbrev pub no_span : Span
no_span = record { octets = 0; length = 0 }

-- h octets before the content and n of content, if the room has them
abbrev pub fitted : ℕ → ℕ → ℕ → Span
fitted room h n = elim (leb (h + n) room) [ true ↦ record { octets = h; length = n } | false ↦ no_span ]

-- the identifier octet and the length octets, up to three, and the content's octets, if the room after the identifier has all of them
unfoldable pub span_by : ℕ → Length → Span
span_by room missing = no_span
span_by room wrong = no_span
span_by room (octets k n) = elim (leb k 3 && leb (k + n) room) [ true ↦ record { octets = suc k; length = n } | false ↦ no_span ]

-- the same of the octets from an element's first byte to its parent's end
unfoldable pub span_of : List ℕ → Span
span_of [] = no_span
span_of (id ∷ bs) = span_by (length bs) (length_of bs)

-- the code's answer: a span, if there is one
abbrev pub found_span : Span → Option Span
found_span x = elim (eqb x.octets 0) [ true ↦ None | false ↦ Some x ]
