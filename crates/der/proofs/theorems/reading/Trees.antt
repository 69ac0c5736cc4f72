-- A header's octets; and the definitions of encoding, moving and being well-formed, one step at a time: of no elements, and of an element with
-- others after it. Assumes nothing.
use Prim.Native.Nat.{ℕ, suc, ◌+◌, ◌≤◌}
use native.Mathlib.Omega.{arith}
use mathlib.Core.Path.{◌≡◌, refl, sym, ap, ◌∙◌}
use mathlib.Core.Logic.{◌↔◌}
use mathlib.Core.Bool.{Bool, true, false}
use mathlib.Core.List.{List, [], ◌∷◌, ◌++◌}
use lib.Dec.{ltb}
use lib.ListN.{length, drop, length-append}
use Rattle.der.specs.meaning.Bounds.{longest}
use Rattle.der.specs.meaning.Length.{base256, length_octets, octets, length_of}
use Rattle.der.proofs.theorems.element.Length.{lengths_grow, length_encoded}
use Rattle.der.specs.meaning.Tree.{Tree, none, element, header, encode, Formed, WellFormed, Single, moved}

-- a header has at least one octet
pub header_some : (id : ℕ) (c : List ℕ) → 1 ≤ length (header id c)
unfolding header
header_some id c = omega arith

-- its octets: the identifier and the shortest length
pub header_octets : (id : ℕ) (c : List ℕ) → header id c ≡ id ∷ length_octets (length c)
unfolding header
header_octets id c = refl

-- there is at least one length octet
pub length_some : (n : ℕ) → 1 ≤ length (length_octets n)
unfolding length_octets
length_some n = go (ltb n 0x80)
  where
    go : (b : Bool) → 1 ≤ length {A = ℕ} (elim b as (λ x. List ℕ) [ true ↦ n ∷ [] | false ↦ (0x80 + length (base256 n n)) ∷ base256 n n ])
    go true = omega arith
    go false = omega arith

-- so a header has at least two octets
pub header_two : (id : ℕ) (c : List ℕ) → 2 ≤ length (header id c)
header_two id c = omega (arith, ap length (header_octets id c), length_some (length c))

-- A longer content has no shorter header.
pub header_grows : (id : ℕ) (c d : List ℕ) → length c ≤ length d → length (header id c) ≤ length (header id d)
unfolding header
header_grows id c d longer = omega (arith, lengths_grow (length c) (length d) longer)

-- An element's octets determine how long its header is.
pub header_same : (id j : ℕ) (c d : List ℕ) → header id c ++ c ≡ header j d ++ d → length c ≤ longest → length d ≤ longest
    → length (header id c) ≡ length (header j d)
unfolding header
header_same id j c d is short brief =
    let counted : octets (length (length_octets (length c))) (length c) ≡ octets (length (length_octets (length d))) (length d) =
    sym (length_encoded (length c) c short) ∙ ap (λ (l : List ℕ). length_of (drop 1 l)) is ∙ length_encoded (length d) d brief in
    ap suc (cc counted)

-- the encoding of no elements
pub encode_none : encode none ≡ []
unfolding encode
encode_none = refl

-- the encoding of an element: its header, its content and the encoding of those after it
pub encode_element : (id first whole : ℕ) (c : List ℕ) (inside rest : Tree)
    → encode (element id first whole c inside rest) ≡ (header id c ++ c) ++ encode rest
unfolding encode
encode_element id first whole c inside rest = refl

-- and its length
pub encode_length : (id first whole : ℕ) (c : List ℕ) (inside rest : Tree)
    → length (encode (element id first whole c inside rest)) ≡ length (header id c ++ c) + length (encode rest)
unfolding encode
encode_length id first whole c inside rest = length-append (header id c ++ c) (encode rest)

-- no elements, further on
pub moved_none : (d : ℕ) → moved d none ≡ none
unfolding moved
moved_none d = refl

-- an element further on, with those inside it and after it
pub moved_element : (d id first whole : ℕ) (c : List ℕ) (inside rest : Tree)
    → moved d (element id first whole c inside rest) ≡ element id (d + first) whole c (moved d inside) (moved d rest)
unfolding moved
moved_element d id first whole c inside rest = refl

-- no elements are well-formed anywhere
pub well_formed_none : (left p : ℕ) → WellFormed left p none
unfolding WellFormed
well_formed_none left p = tt

-- without a level of depth left an element is not well-formed
pub well_formed_deep : (p id first whole : ℕ) (c : List ℕ) (inside rest : Tree) → WellFormed 0 p (element id first whole c inside rest) → ⊥
unfolding WellFormed
well_formed_deep p id first whole c inside rest formed = formed

-- with one left, elements are well-formed if the first is, and those after it are from its end on
pub well_formed_element : (left p id first whole : ℕ) (c : List ℕ) (inside rest : Tree)
    → WellFormed (suc left) p (element id first whole c inside rest)
    ↔ (Formed p id first whole c inside (WellFormed left (p + length (header id c)) inside) × WellFormed (suc left) (p + whole) rest)
unfolding WellFormed
well_formed_element left p id first whole c inside rest = (λ formed. formed, λ both. both)

-- no elements are not a single one
pub single_none : Single none → ⊥
unfolding Single
single_none one = one

-- an element is a single one if there is none after it
pub single_element : (id first whole : ℕ) (c : List ℕ) (inside rest : Tree) → Single (element id first whole c inside rest) ↔ (rest ≡ none)
unfolding Single
single_element id first whole c inside rest = (λ one. one, λ last. last)
