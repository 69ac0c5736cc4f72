-- A list of elements as a list of fields, each with its octets, found by position or identifier. SPECIFICATION 7 and 8 speak of a message's
-- fields. Assumes nothing.
use Rattle.std.specs.Prelude.{ℕ, ◌+◌, ◌≡◌, true, false, length, get_or, take, drop}
use mathlib.Core.List.{List, [], ◌∷◌, ◌++◌, flat_map}
use Rattle.std.proofs.Math.Option.{Option, some, none as absent}
use Rattle.der.specs.meaning.Tree.{Tree, none, element, header, moved}
use Rattle.crmf.specs.meaning.Notation.{among}

-- A field: one element of a list, by its identifier, first byte, whole length, content octets and the elements inside it.
pub record Field : Type 0 where
  pub identifier : ℕ
  pub place : ℕ
  pub whole : ℕ
  pub content : List ℕ
  pub inside : Tree

-- the elements of a list, one by one
unfoldable pub fields : Tree → List Field
fields none = []
fields (element id first whole content inside rest) =
    record { identifier = id; place = first; whole = whole; content = content; inside = inside } ∷ fields rest

-- the list of elements that some fields make: `fields` the other way
unfoldable pub chain : List Field → Tree
chain [] = none
chain (f ∷ fs) = element f.identifier f.place f.whole f.content f.inside (chain fs)

-- a field's octets: its header and its content
unfoldable pub octets : Field → List ℕ
octets f = header f.identifier f.content ++ f.content

-- the place of a field's content
abbrev pub content_start : Field → ℕ
content_start f = f.place + length (header f.identifier f.content)

-- the place after a field
abbrev pub field_end : Field → ℕ
field_end f = f.place + f.whole

-- Some fields come one after the other, from a place to another, each as long as its octets.
abbrev pub Runs : ℕ → ℕ → List Field → Type 0
Runs from to [] = from ≡ to
Runs from to (f ∷ fs) = (f.place ≡ from) × (f.whole ≡ length (octets f)) × Runs (from + f.whole) to fs

-- A field consists of some fields: they are inside it, and its content is their octets, one after the other.
pub record Consists (f : Field) (fs : List Field) : Type 0 where
  pub held : fields f.inside ≡ fs
  pub written : f.content ≡ flat_map octets fs
  pub placed : Runs (content_start f) (field_end f) fs

-- A list has some octets from a place on.
abbrev pub StandsAt : List ℕ → ℕ → List ℕ → Type 0
StandsAt s p part = take (length part) (drop p s) ≡ part

-- the answer for a field that is missing: of length 0, at the place of the field that lacks it
unfoldable pub missing : Field → Field
missing f = record { identifier = 0; place = f.place; whole = 0; content = []; inside = none }

-- the field with the number n, from 0, inside a field
unfoldable pub nth : ℕ → Field → Field
nth n f = get_or (fields f.inside) n (missing f)

-- the first of some fields with one of the identifiers, if there is one
unfoldable pub first_with : List ℕ → List Field → Option Field
first_with ids [] = absent
first_with ids (f ∷ fs) = elim (among ids f.identifier) [ true ↦ some f | false ↦ first_with ids fs ]

-- the first field inside a field with the identifier, if there is one
unfoldable pub child : ℕ → Field → Option Field
child id f = first_with (id ∷ []) (fields f.inside)

-- the field, if there is one, as a list
unfoldable pub listed : Option Field → List Field
listed absent = []
listed (some f) = f ∷ []

-- the same field, d bytes further on
unfoldable pub moved_field : ℕ → Field → Field
moved_field d f =
    record { identifier = f.identifier; place = d + f.place; whole = f.whole; content = f.content; inside = moved d f.inside }
