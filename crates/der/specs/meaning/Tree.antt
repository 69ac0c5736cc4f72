-- The tree of elements as a value, what makes it well-formed, and its DER encoding: SPECIFICATION 2. No octets are read here. Assumes nothing.
use Rattle.std.specs.Prelude.{ℕ, zero, suc, ◌+◌, ◌≡◌, true, false, List, [], ◌∷◌, ◌++◌, T, length}
use Rattle.der.specs.meaning.Identifier.{allowed, constructed}
use Rattle.der.specs.meaning.Length.{length_octets}
use Rattle.der.specs.meaning.Content.{Content}
use Rattle.der.specs.meaning.Order.{Closing}

-- A list of elements, each with its identifier, first byte, whole length, content octets and the elements inside it.
pub data Tree : Type 0 where
  none : Tree
  element : (identifier first whole : ℕ) (content : List ℕ) (inside rest : Tree) → Tree

-- the identifier and length octets before a content
unfoldable pub header : ℕ → List ℕ → List ℕ
header id content = id ∷ length_octets (length content)

-- the encodings of the elements, one after the other
unfoldable pub encode : Tree → List ℕ
encode none = []
encode (element id first whole content inside rest) = (header id content ++ content) ++ encode rest

-- the encoding of each element
unfoldable pub members : Tree → List (List ℕ)
members none = []
members (element id first whole content inside rest) = (header id content ++ content) ∷ members rest

-- What makes an element well-formed at a place (SPECIFICATION 2.1 to 2.3); Inside says that the elements inside it are.
pub record Formed (place id first whole : ℕ) (content : List ℕ) (inside : Tree) (Inside : Type 0) : Type 0 where
  pub placed : first ≡ place
  pub sized : whole ≡ length (header id content ++ content)
  pub identified : T (allowed id)
  -- constructed: the content is the encoding of the elements inside, which are well-formed
  pub filled : constructed id ≡ true → (content ≡ encode inside) × Inside
  -- the elements inside are in the order that the identifier asks for
  pub closing : Closing id (members inside)
  -- primitive: there is nothing inside, and the content keeps its rule
  pub valued : constructed id ≡ false → (inside ≡ none) × Content id content

-- A list of elements from a place on is well-formed with the levels of depth that are left.
unfoldable pub WellFormed : ℕ → ℕ → Tree → Type 0
WellFormed left place none = Unit {0}
WellFormed zero place (element id first whole content inside rest) = ⊥
WellFormed (suc left) place (element id first whole content inside rest) =
    Formed place id first whole content inside (WellFormed left (place + length (header id content)) inside)
    × WellFormed (suc left) (place + whole) rest

-- a single element
unfoldable pub Single : Tree → Type 0
Single none = ⊥
Single (element id first whole content inside rest) = rest ≡ none

-- the same elements d bytes further on
unfoldable pub moved : ℕ → Tree → Tree
moved d none = none
moved d (element id first whole content inside rest) = element id (d + first) whole content (moved d inside) (moved d rest)
