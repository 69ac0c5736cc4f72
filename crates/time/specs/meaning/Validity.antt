-- The times of a validity, by its octets: document 01's "notBefore A0 (Time)?, notAfter A1 (Time)?", document 02's request A12, SPECIFICATION 3.6.
-- Assumes nothing.
use Rattle.std.specs.Prelude.{ℕ, ◌+◌, Bool, true, false, ◌&&◌, ◌||◌, List, leb, eqb, length, get_or, take, drop}
use Rattle.std.proofs.Math.Option.{Option, some, none}
use Rattle.time.specs.meaning.Time.{time_moment}

-- whether the octets are an element with one length octet: its identifier, the length of its content, and its content
unfoldable pub is_short : List ℕ → Bool
is_short e = leb 2 (length e) && eqb (get_or e 1 0) (length (drop 2 e))

-- the moment that the element of a Time shows, if the octets are one
unfoldable pub element_moment : List ℕ → Option ℕ
element_moment e = elim (is_short e) [ true ↦ time_moment (get_or e 0 0) (drop 2 e) | false ↦ none ]

-- "notBefore A0 (Time)?, notAfter A1 (Time)?": the moment that the element of notBefore or notAfter shows, if the octets are one
unfoldable pub shown_moment : List ℕ → Option ℕ
shown_moment e =
    elim (is_short e && (eqb (get_or e 0 0) 0xA0 || eqb (get_or e 0 0) 0xA1)) [ true ↦ element_moment (drop 2 e) | false ↦ none ]

-- the octets of the first of the elements that some octets are, and those after it
unfoldable pub first_element : List ℕ → List ℕ
first_element c = take (2 + get_or c 1 0) c

unfoldable pub further_elements : List ℕ → List ℕ
further_elements c = drop (2 + get_or c 1 0) c

-- whether the second of two moments isn't earlier than the first, if both are shown
unfoldable pub in_order : Option ℕ → Option ℕ → Bool
in_order none after = true
in_order (some before) none = true
in_order (some before) (some after) = leb before after

-- "notAfter isn't earlier than notBefore", of a validity's content octets
unfoldable pub forwards : List ℕ → Bool
forwards c = in_order (shown_moment (first_element c)) (shown_moment (further_elements c))
