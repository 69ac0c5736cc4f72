-- The pieces of an accepted element tree's fields, on the meaning of the grammar alone: like its rows, but without places. Assumes nothing.
use Prim.Native.Nat.{ℕ, ◌+◌}
use mathlib.Core.Bool.{Bool, true, false}
use mathlib.Core.List.{List, [], ◌∷◌, ◌++◌}
use lib.Dec.{eqb}
use lib.ListN.{length}
use Rattle.der.specs.meaning.Tree.{Tree, header}
use Rattle.crmf.specs.meaning.Notation.{Inside, Parts}
use Rattle.crmf.specs.meaning.Language.{Matches, end, pass, take, choose, Within, unseen, parts}
use Rattle.crmf.specs.meaning.Rows.{container, parent_if}
use Rattle.crmf.specs.meaning.Pieces.{Piece}

-- the piece of an element that has a kind; a kind of 0 is none
abbrev pub piece_if : ℕ → ℕ → List ℕ → List Piece
piece_if kind parent octets =
    elim (eqb kind 0) [
      | true ↦ []
      | false ↦ record { kind = kind; parent = parent; octets = elim (container kind) [ true ↦ [] | false ↦ octets ] } ∷ []
    ]

-- The pieces of the elements of a container: n is the number of the next piece, up the number of the piece around them, and around holds
-- the container's own octets, header and content.
unfoldable mutual
  pub pieces : {R : ℕ → Bool} {ps : Parts} {t : Tree} → Matches R ps t → (n up : ℕ) (around : List ℕ) → List Piece
  pieces end n up around = []
  pieces (pass ok m) n up around = pieces m n up around
  pieces (take {id = id} {c = c} f among fits read kept within m) n up around =
      let item = piece_if f.item up around in
      let above = parent_if f.item n up in
      let own = piece_if f.kind above (header id c ++ c) in
      let next = n + length item in
      let inner = pieces_in within (next + length own) (parent_if f.kind next above) (header id c ++ c) in
      item ++ (own ++ (inner ++ pieces m (next + length own + length inner) up around))
  pieces (choose name way m) n up around = pieces m n up around

  pub pieces_in : {R : ℕ → Bool} {i : Inside} {t : Tree} → Within R i t → (n up : ℕ) (around : List ℕ) → List Piece
  pieces_in unseen n up around = []
  pieces_in (parts m) n up around = pieces m n up around
