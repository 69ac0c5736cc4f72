-- Contents that the value rules take or refuse, and ways that values select, computed on the definitions. Assumes nothing.
use Prim.Native.Nat.{ℕ}
use mathlib.Core.Bool.{true, false}
use mathlib.Core.List.{List, [], ◌∷◌, ◌++◌, map}
use mathlib.Core.Option.{some as present, none as absent}
use mathlib.Core.Path.{◌≡◌, refl}
use Rattle.crmf.specs.meaning.Value.{is_empty, is_up_to, number, is_true_octet, type_number}
use Rattle.time.specs.meaning.Validity.{is_short, shown_moment, first_element, further_elements, in_order, forwards}
use Rattle.crmf.specs.meaning.Lists.{same}
use Rattle.crmf.specs.meaning.Value.{empty, zero_or_one, true_only, some_forwards, never, keeps, action, method, control_type, info_type, selected}

-- the octets of a type with an arc, before its last octet
abbrev arc : ℕ → List ℕ
arc a = 0x2B ∷ 0x06 ∷ 0x01 ∷ 0x05 ∷ 0x05 ∷ 0x07 ∷ 0x05 ∷ a ∷ []

-- known and unknown types: the last octets 0, 1, 6 and 7
type_numbers : map (type_number 1 6) ((arc 1 ++ 0 ∷ []) ∷ (arc 1 ++ 1 ∷ []) ∷ (arc 1 ++ 6 ∷ []) ∷ (arc 1 ++ 7 ∷ []) ∷ [])
    ≡ absent ∷ present 1 ∷ present 6 ∷ absent ∷ []
unfolding type_number same
type_numbers = refl

-- the last octets 0, 1, 6 and 7; eight and ten octets; the other arc
control_types : map (selected control_type)
    ((arc 1 ++ 0 ∷ [])
    ∷ (arc 1 ++ 1 ∷ [])
    ∷ (arc 1 ++ 6 ∷ [])
    ∷ (arc 1 ++ 7 ∷ [])
    ∷ arc 1
    ∷ (arc 1 ++ 1 ∷ 0 ∷ [])
    ∷ (arc 2 ++ 1 ∷ [])
    ∷ [])
    ≡ map present (0 ∷ 1 ∷ 6 ∷ 0 ∷ 0 ∷ 0 ∷ 0 ∷ [])
unfolding selected type_number same
control_types = refl

-- the last octets 0, 1, 2 and 3; eight and ten octets; the other arc
info_types : map (selected info_type)
    ((arc 2 ++ 0 ∷ [])
    ∷ (arc 2 ++ 1 ∷ [])
    ∷ (arc 2 ++ 2 ∷ [])
    ∷ (arc 2 ++ 3 ∷ [])
    ∷ arc 2
    ∷ (arc 2 ++ 1 ∷ 0 ∷ [])
    ∷ (arc 1 ++ 1 ∷ [])
    ∷ [])
    ≡ map present (0 ∷ 1 ∷ 2 ∷ 0 ∷ 0 ∷ 0 ∷ 0 ∷ [])
unfolding selected type_number same
info_types = refl

-- 0, 1 and 2, a negative number, two octets, and none
actions : map (selected action)
    ((0 ∷ []) ∷ (1 ∷ []) ∷ (2 ∷ []) ∷ (0xFF ∷ []) ∷ (0x00 ∷ 0x80 ∷ []) ∷ [] ∷ [])
    ≡ present 0 ∷ present 1 ∷ absent ∷ absent ∷ absent ∷ absent ∷ []
unfolding selected number is_up_to
actions = refl

-- 0, 3 and 4, a negative number, two octets, and none
methods : map (selected method)
    ((0 ∷ []) ∷ (3 ∷ []) ∷ (4 ∷ []) ∷ (0x80 ∷ []) ∷ (0x01 ∷ 0x00 ∷ []) ∷ [] ∷ [])
    ≡ present 0 ∷ present 3 ∷ absent ∷ absent ∷ absent ∷ absent ∷ []
unfolding selected number is_up_to
methods = refl

-- the rules of a single octet, on no octets, 00, 01, FF and two octets
short : List (List ℕ)
short = [] ∷ (0x00 ∷ []) ∷ (0x01 ∷ []) ∷ (0xFF ∷ []) ∷ (0xFF ∷ 0xFF ∷ []) ∷ []

shorts : (map (keeps empty) short ≡ true ∷ false ∷ false ∷ false ∷ false ∷ [])
    × (map (keeps some_forwards) short ≡ false ∷ true ∷ true ∷ true ∷ true ∷ [])
    × (map (keeps zero_or_one) short ≡ false ∷ true ∷ true ∷ false ∷ false ∷ [])
    × (map (keeps true_only) short ≡ false ∷ false ∷ false ∷ true ∷ false ∷ [])
    × (map (keeps never) short ≡ false ∷ false ∷ false ∷ false ∷ false ∷ [])
unfolding short keeps is_empty is_up_to is_true_octet forwards in_order first_element further_elements shown_moment is_short same
shorts = (refl, refl, refl, refl, refl)
