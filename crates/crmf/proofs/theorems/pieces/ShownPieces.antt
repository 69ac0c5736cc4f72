-- The rows of a derivation show the derivation's pieces: the octets at a row's place are the element's own header and content.
-- Assumes nothing.
use Prim.Native.Nat.{ℕ, suc, ◌+◌}
use mathlib.Core.Path.{◌≡◌, refl, sym, ◌∙◌, ap, subst}
use mathlib.Core.Bool.{Bool, true, false}
use mathlib.Core.List.{List, [], ◌∷◌, ◌++◌}
use lib.Dec.{eqb}
use lib.ListN.{length}
use lib.Seq.{slice, take-length}
use Rattle.der.specs.meaning.Tree.{Tree, element, header, encode, WellFormed}
use Rattle.der.proofs.Laws.{encode_element, take_drop}
use Rattle.crmf.specs.meaning.Notation.{Top, Inside, Parts}
use Rattle.crmf.specs.meaning.Grammar.{content}
use Rattle.crmf.specs.meaning.Language.{Matches, end, pass, take, choose, Within, unseen, parts}
use Rattle.crmf.specs.meaning.Rows.{Row, Extent, extent_of, no_extent, row_if, parent_if, rows, rows_in, batch_rows}
use Rattle.crmf.specs.meaning.Fields.{StandsAt}
use Rattle.crmf.specs.meaning.Pieces.{Piece, piece_of, pieces_of}
use Rattle.crmf.proofs.theorems.messages.FieldLaws.{stands_left, stands_right}
use Rattle.crmf.proofs.theorems.rows.RowsOfLines.{rows_one, row_none, row_own}
use Rattle.crmf.proofs.theorems.rows.RowLaws.{Standing, standing}
use Rattle.crmf.proofs.theorems.pieces.PiecesOf.{piece_if, pieces, pieces_in}

-- The pieces of an element with the kinds of its own piece and of the piece that it gives the element around it, and of the elements after
-- it: inner makes the pieces inside it from their first number and their parent, and later those after it from their first number.
unfoldable pieces_one : (kind item : ℕ) (octets : List ℕ) → (ℕ → ℕ → List Piece) → (ℕ → List Piece) → (n up : ℕ) (around : List ℕ) → List Piece
pieces_one kind item octets inner later n up around =
    let first = piece_if item up around in
    let above = parent_if item n up in
    let own = piece_if kind above octets in
    let next = n + length first in
    let within = inner (next + length own) (parent_if kind next above) in
    first ++ (own ++ (within ++ later (next + length own + length within)))

-- Where an element's octets stand: its own, those of the elements inside it and those of the elements after it.
pub record Shown (s : List ℕ) (id p w : ℕ) (c : List ℕ) (inside rest : Tree) : Type 0 where
  pub own : slice p (p + w) s ≡ header id c ++ c
  pub within : StandsAt s (p + length (header id c)) (encode inside)
  pub further : StandsAt s (p + w) (encode rest)

module _ (s : List ℕ) where
  -- rows show a piece each
  pub pieces_length : (rs : List Row) → length (pieces_of s rs) ≡ length rs
  unfolding pieces_of
  pieces_length [] = refl
  pieces_length (r ∷ rs) = ap suc (pieces_length rs)

  -- rows and rows after them
  pub pieces_append : (a b : List Row) → pieces_of s (a ++ b) ≡ pieces_of s a ++ pieces_of s b
  unfolding pieces_of
  pieces_append [] b = refl
  pieces_append (r ∷ a) b = ap (λ (l : List Piece). piece_of s r ∷ l) (pieces_append a b)

  -- the row of an element whose octets are known shows its piece
  piece_shown : (kind : ℕ) (here : Extent) (octets : List ℕ) → slice here.first (here.first + here.whole) s ≡ octets → (up : ℕ)
      → pieces_of s (row_if kind here up) ≡ piece_if kind up octets
  unfolding pieces_of
  piece_shown kind here octets e up = go (eqb kind 0) refl ∙ ap (piece_if kind up) e
    where
      go : (b : Bool) → eqb kind 0 ≡ b → pieces_of s (row_if kind here up) ≡ piece_if kind up (slice here.first (here.first + here.whole) s)
      go true z = ap (pieces_of s) (row_none kind here up z) ∙ rw (z, piece_if)
      go false z = ap (pieces_of s) (row_own kind here up z) ∙ rw (z, piece_if)

  -- an element's rows show its piece and the pieces inside it and after it
  one_shown : (kind item : ℕ) (here : Extent) (octets around : List ℕ) (f : ℕ → ℕ → List Row) (g : ℕ → ℕ → List Piece) (h : ℕ → List Row)
      (i : ℕ → List Piece) (n up : ℕ) (extent : Extent) → slice here.first (here.first + here.whole) s ≡ octets
      → slice extent.first (extent.first + extent.whole) s ≡ around
      → ((j u : ℕ) → pieces_of s (f j u) ≡ g j u) → ((j : ℕ) → pieces_of s (h j) ≡ i j)
      → pieces_of s (rows_one kind item here f h n up extent) ≡ pieces_one kind item octets g i n up around
  unfolding rows_one pieces_one
  one_shown kind item here octets around f g h i n up extent own outer inner later =
      let item-shown = piece_shown item extent around outer in
      let own-shown = piece_shown kind here octets own in
      let item_one : (u : ℕ) → length (row_if item extent u) ≡ length (piece_if item u around) =
      λ u. sym (pieces_length (row_if item extent u)) ∙ ap length (item-shown u) in
      let own_one : (u : ℕ) → length (row_if kind here u) ≡ length (piece_if kind u octets) =
      λ u. sym (pieces_length (row_if kind here u)) ∙ ap length (own-shown u) in
      let inner_count : (j u : ℕ) → length (f j u) ≡ length (g j u) = λ j u. sym (pieces_length (f j u)) ∙ ap length (inner j u) in
      simp (pieces_append, item-shown, own-shown, item_one, own_one, inner_count, inner, later)

  -- a well-formed element that stands at its place shows them
  pub shown : (left q id p w : ℕ) (c : List ℕ) (inside rest : Tree) → Standing left q id p w c inside rest
      → StandsAt s q (encode (element id p w c inside rest)) → Shown s id p w c inside rest
  shown left q id p w c inside rest a there =
      let octets = header id c ++ c in
      let start = p + length (header id c) in
      let whole : StandsAt s p (octets ++ encode rest) =
      rw a.at (subst (StandsAt s q) (encode_element id p w c inside rest) there) in
      let own = stands_left s p octets (encode rest) whole in
      let inner = subst (StandsAt s start) a.filled (stands_right s p (header id c) c own) in
      record {
        own = rw a.sized (sym (take_drop (length octets) p s) ∙ own);
        within = stands_left s start (encode inside) a.beyond inner;
        further = rw a.sized (stands_right s p octets (encode rest) whole);
      }

  mutual
    unfolding rows rows_in rows_one pieces pieces_in pieces_one pieces_of

    -- The rows of elements that stand in some octets, in an element that stands there, show the derivation's pieces.
    pub rows_pieces : {R : ℕ → Bool} {ps : Parts} {t : Tree} (m : Matches R ps t) (left q : ℕ) → WellFormed left q t
        → StandsAt s q (encode t) → (n up : ℕ) (extent : Extent) (around : List ℕ) → slice extent.first (extent.first + extent.whole) s ≡ around
        → pieces_of s (rows m n up extent) ≡ pieces m n up around
    rows_pieces end left q wf there n up extent around outer = refl
    rows_pieces (pass ok m) left q wf there n up extent around outer = rows_pieces m left q wf there n up extent around outer
    rows_pieces (take {id = id} {first = p} {whole = w} {c = c} {inside = inside} {rest = rest} f among fits read kept within m)
        left q wf there n up extent around outer =
        let octets = header id c ++ c in
        let here = extent_of p w c in
        let stand = standing q id p w c inside rest left wf in
        let show = shown left q id p w c inside rest stand there in
        one_shown f.kind f.item here octets around (λ j u. rows_in within j u here) (λ j u. pieces_in within j u octets)
        (λ j. rows m j up extent) (λ j. pieces m j up around) n up extent show.own outer
        (λ j u. inside_pieces within stand.deeper (p + length (header id c)) stand.within show.within j u here octets show.own)
        (λ j. rows_pieces m left (p + w) stand.further show.further j up extent around outer)
    rows_pieces (choose {id = id} {first = p} {whole = w} {c = c} {inside = inside} {rest = rest} name way m)
        left q wf there n up extent around outer =
        let stand = standing q id p w c inside rest left wf in
        let show = shown left q id p w c inside rest stand there in
        rows_pieces m left (p + w) stand.further show.further n up extent around outer

    -- so do the rows inside an element
    pub inside_pieces : {R : ℕ → Bool} {i : Inside} {t : Tree} (within : Within R i t) (left q : ℕ) → WellFormed left q t
        → StandsAt s q (encode t) → (n up : ℕ) (extent : Extent) (around : List ℕ) → slice extent.first (extent.first + extent.whole) s ≡ around
        → pieces_of s (rows_in within n up extent) ≡ pieces_in within n up around
    inside_pieces unseen left q wf there n up extent around outer = refl
    inside_pieces (parts m) left q wf there n up extent around outer = rows_pieces m left q wf there n up extent around outer

-- The rows of a batch show the derivation's pieces of its octets.
pub batch_pieces : {R : ℕ → Bool} {t : Tree} (m : Matches R (content Top) t) (left : ℕ) → WellFormed left 0 t → (s : List ℕ) → encode t ≡ s
    → pieces_of s (batch_rows m) ≡ pieces m 0 0 []
unfolding batch_rows
batch_pieces {t = t} m left wf s same =
    let there : StandsAt s 0 (encode t) = rw same (take-length s) in
    rows_pieces s m left 0 wf there 0 0 no_extent [] refl
