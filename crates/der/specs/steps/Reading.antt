-- The tree that any octets are read as, well-formed or not, for the layers above. If there is no element, an empty one is read. Assumes nothing.
use Rattle.std.specs.Prelude.{ℕ, zero, suc, ◌+◌, ◌-◌, true, false, List, [], ◌∷◌, leb, length, drop}
use Rattle.std.proofs.Math.Seq.{slice}
use Rattle.der.specs.steps.Head.{Head, Stands, Broken}
use Rattle.der.specs.declared.element.reading.Element.{Element}
use Rattle.der.specs.meaning.Identifier.{constructed}
use Rattle.der.specs.steps.Header.{head_of}
use Rattle.der.specs.meaning.Tree.{Tree, none, element}
use Rattle.der.specs.meaning.Bounds.{longest}

-- no element: identifier 0 and an empty content
unfoldable pub nothing_at : ℕ → Element
nothing_at p = record { identifier = 0; content = p; end = p }

-- the element that a header gives at a place; if the header is broken, none, at the end
unfoldable pub given : ℕ → List ℕ → Head → Element
given p bs (Stands id h n) = record { identifier = id; content = p + h; end = p + h + n }
given p bs (Broken c) = nothing_at (p + length bs)

-- the element at a place, over the octets from there to its parent's end
unfoldable pub read : ℕ → List ℕ → Element
read p bs = given p bs (head_of bs)

-- the element from the place at, before the place end, of a whole input; one that is too long has none
unfoldable pub reading_at : List ℕ → ℕ → ℕ → Element
reading_at s at end = elim (leb (length s) longest) [ true ↦ read at (slice at end s) | false ↦ nothing_at at ]

-- the elements from a place on, each read so, and those inside it if it is constructed; the first argument bounds levels and siblings
unfoldable pub tree_of : ℕ → ℕ → List ℕ → Tree
tree_of zero p bs = none
tree_of (suc n) p [] = none
tree_of (suc n) p (b ∷ bs) =
    let x = read p (b ∷ bs) in
    let content = slice (x.content - p) (x.end - p) (b ∷ bs) in
    element x.identifier p (x.end - p) content
    (elim (constructed x.identifier) [ true ↦ tree_of n x.content content | false ↦ none ])
    (tree_of n x.end (drop (x.end - p) (b ∷ bs)))

-- the tree of the octets from a place on
unfoldable pub tree : ℕ → List ℕ → Tree
tree p bs = tree_of (length bs) p bs
