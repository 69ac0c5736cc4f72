-- Document 01's short nest cases, and short contents that each rule takes or refuses, computed on the definitions. Assumes nothing.
use Prim.Native.Nat.{ℕ}
use mathlib.Core.Bool.{Bool, true, false}
use mathlib.Core.Path.{◌≡◌, refl}
use mathlib.Core.List.{List, [], ◌∷◌, map}
use lib.ListN.{length}
use Rattle.der.specs.steps.Nest.{Nest, End, Fault}
use Rattle.der.specs.meaning.Identifier.{tag_number, constructed, allowed}
use Rattle.der.specs.meaning.Length.{value_from, shortest, long_form, length_of}
use Rattle.der.specs.steps.Header.{sized_by, head_of}
use Rattle.der.specs.meaning.Content.{boolean, integer, null, last_of, unpadded, object_identifier, bit_string}
use Rattle.der.specs.steps.ContentTest.{holds}
use Rattle.der.specs.steps.Span.{span_by, span_of}
use Rattle.der.specs.steps.Order.{descends, ascends_from, ascends, closes}
use Rattle.der.specs.steps.Explain.{list_of, by_rule, after_inside, element_of, walk_at}

-- octets, and what the walk over the whole of them answers
abbrev nests : List (List ℕ × Nest)
nests =
    ([], Fault 2 0 1)
    ∷ (0x30 ∷ 0x00 ∷ [], End 2)
    ∷ (0x30 ∷ 0x80 ∷ [], Fault 4 0 0)
    ∷ (0x30 ∷ 0x81 ∷ 0x00 ∷ [], Fault 4 0 0)
    ∷ (0x1F ∷ 0x00 ∷ [], Fault 3 0 0)
    ∷ (0x30 ∷ 0x82 ∷ 0x00 ∷ [], Fault 2 0 2)
    ∷ (0x30 ∷ 0x82 ∷ 0x00 ∷ 0x00 ∷ [], Fault 4 0 0)
    ∷ (0x30 ∷ 0xFF ∷ [], Fault 4 0 0)
    ∷ (0x30 ∷ 0x02 ∷ 0x30 ∷ 0x82 ∷ 0x00 ∷ 0x80 ∷ [], Fault 2 2 2)
    ∷ (0x30 ∷ 0x09 ∷ 0x30 ∷ 0x07 ∷ 0x30 ∷ 0x05 ∷ 0x02 ∷ 0x01 ∷ 0x00 ∷ 0x30 ∷ 0x00 ∷ [], End 11)
    -- document 02, A3: members of a SET that descend; under B1 they may; equal ones; the inner of two SETs; by whole encodings; a fault after the SET
    ∷ (0x31 ∷ 0x05 ∷ 0x05 ∷ 0x00 ∷ 0x02 ∷ 0x01 ∷ 0x00 ∷ [], Fault 5 0 17)
    ∷ (0xB1 ∷ 0x05 ∷ 0x05 ∷ 0x00 ∷ 0x02 ∷ 0x01 ∷ 0x00 ∷ [], End 7)
    ∷ (0x31 ∷ 0x04 ∷ 0x05 ∷ 0x00 ∷ 0x05 ∷ 0x00 ∷ [], End 6)
    ∷ (0x31 ∷ 0x09 ∷ 0x05 ∷ 0x00 ∷ 0x31 ∷ 0x05 ∷ 0x05 ∷ 0x00 ∷ 0x02 ∷ 0x01 ∷ 0x00 ∷ [], Fault 5 4 17)
    ∷ (0x31 ∷ 0x05 ∷ 0x04 ∷ 0x01 ∷ 0x00 ∷ 0x04 ∷ 0x00 ∷ [], Fault 5 0 17)
    ∷ (0x31 ∷ 0x05 ∷ 0x04 ∷ 0x00 ∷ 0x04 ∷ 0x01 ∷ 0x00 ∷ [], End 7)
    ∷ (0x30 ∷ 0x0B ∷ 0x31 ∷ 0x05 ∷ 0x05 ∷ 0x00 ∷ 0x02 ∷ 0x01 ∷ 0x00 ∷ 0x30 ∷ 0x02 ∷ 0x00 ∷ 0x00 ∷ [], Fault 5 2 17)
    ∷ []

-- the walk answers so
answered : map (λ c. walk_at c.0 0 (length c.0)) nests ≡ map (λ c. c.1) nests
unfolding walk_at element_of allowed constructed tag_number head_of sized_by length_of long_form shortest value_from list_of by_rule after_inside span_by span_of descends ascends_from ascends closes holds integer null
answered = refl

-- the rule takes each content of the first list and refuses each of the second
abbrev judges : (List ℕ → Bool) → List (List ℕ) → List (List ℕ) → Type 0
judges rule taken refused = (map rule taken ≡ map (λ _. true) taken) × (map rule refused ≡ map (λ _. false) refused)

-- BOOLEAN
booleans : judges boolean
    ((0x00 ∷ []) ∷ (0xFF ∷ []) ∷ [])
    ([] ∷ (0x01 ∷ []) ∷ (0xFE ∷ []) ∷ (0x00 ∷ 0x00 ∷ []) ∷ [])
unfolding boolean
booleans = (refl, refl)

-- INTEGER and ENUMERATED
integers : judges integer
    ((0x00 ∷ []) ∷ (0x80 ∷ []) ∷ (0x00 ∷ 0x80 ∷ []) ∷ (0xFF ∷ 0x7F ∷ []) ∷ (0x01 ∷ 0x00 ∷ 0x00 ∷ []) ∷ [])
    ([] ∷ (0x00 ∷ 0x7F ∷ []) ∷ (0xFF ∷ 0x80 ∷ []) ∷ (0x00 ∷ 0x00 ∷ []) ∷ (0xFF ∷ 0xFF ∷ 0x00 ∷ []) ∷ [])
unfolding integer
integers = (refl, refl)

-- BIT STRING
bit_strings : judges bit_string
    ((0x00 ∷ []) ∷ (0x00 ∷ 0x01 ∷ []) ∷ (0x07 ∷ 0x80 ∷ []) ∷ (0x04 ∷ 0x01 ∷ 0xF0 ∷ []) ∷ (0x07 ∷ 0x00 ∷ []) ∷ [])
    ([] ∷ (0x01 ∷ []) ∷ (0x07 ∷ 0x40 ∷ []) ∷ (0x08 ∷ 0x00 ∷ []) ∷ (0x01 ∷ 0x00 ∷ 0x01 ∷ []) ∷ [])
unfolding bit_string last_of
bit_strings = (refl, refl)

-- NULL
nulls : judges null ([] ∷ []) ((0x00 ∷ []) ∷ [])
unfolding null
nulls = (refl, refl)

-- OBJECT IDENTIFIER
object_identifiers : judges object_identifier
    ((0x2B ∷ 0x06 ∷ []) ∷ (0x2A ∷ 0x86 ∷ 0x48 ∷ []) ∷ (0x2A ∷ 0x81 ∷ 0x80 ∷ 0x00 ∷ []) ∷ (0x00 ∷ []) ∷ [])
    ([] ∷ (0x2A ∷ 0x80 ∷ 0x01 ∷ []) ∷ (0x80 ∷ 0x01 ∷ []) ∷ (0x2B ∷ 0x86 ∷ []) ∷ (0x80 ∷ []) ∷ [])
unfolding object_identifier unpadded last_of
object_identifiers = (refl, refl)
