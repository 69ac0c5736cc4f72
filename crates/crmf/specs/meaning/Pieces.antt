-- What a row shows of a batch apart from its place: what a draft and its batch share (SPECIFICATION 6). Assumes nothing.
use Rattle.std.specs.Prelude.{ℕ, ◌+◌, true, false, List, [], ◌∷◌}
use Rattle.std.proofs.Math.Seq.{slice}
use Rattle.crmf.specs.meaning.Rows.{Row, container}

-- A piece of a batch: "kinds and parents" and, "in each leaf, the same length and the bytes". A container's piece has no octets.
pub record Piece : Type 0 where
  pub kind : ℕ
  pub parent : ℕ
  pub octets : List ℕ

-- the piece that a row shows of some bytes: "containers' place and length are ignored"
abbrev pub piece_of : List ℕ → Row → Piece
piece_of s r = record {
  kind = r.kind;
  parent = r.parent;
  octets = elim (container r.kind) [ true ↦ [] | false ↦ slice r.first (r.first + r.whole) s ];
}

-- the pieces that some rows show
unfoldable pub pieces_of : List ℕ → List Row → List Piece
pieces_of s [] = []
pieces_of s (r ∷ rs) = piece_of s r ∷ pieces_of s rs
