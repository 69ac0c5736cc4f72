-- Rows that show the same pieces show the same fields that edition 2 has left out: a piece has the row's kind and octets, and where the rows are
-- right, equal octets have equal contents. Assumes nothing.
use Prim.Native.Nat.{ℕ, ◌+◌, ◌-◌, ◌≤◌}
use native.Mathlib.Omega.{arith}
use mathlib.Core.Path.{◌≡◌, refl, sym, ap, subst, ◌∙◌}
use mathlib.Core.Bool.{false}
use mathlib.Core.List.Memᴰ
use mathlib.Core.List.{List, [], ◌∷◌, Memᴰ}
use lib.Dec.{T}
use lib.ListN.{length, drop}
use lib.Seq.{slice}
use Rattle.der.specs.meaning.Bounds.{longest}
use Rattle.der.proofs.Laws.{drop_slice}
use Rattle.crmf.specs.meaning.Kinds as kinds
use Rattle.crmf.specs.meaning.Notation.{among}
use Rattle.crmf.specs.meaning.Rows.{Row, container, RightContent}
use Rattle.crmf.specs.meaning.Pieces.{Piece, piece_of, pieces_of}
use Rattle.crmf.specs.meaning.LeftOut.{omitted, row_content, LeftOut, one_of_four, other_version}
use Rattle.crmf.proofs.theorems.rows.RowContents.{content_same}
use Rattle.crmf.proofs.theorems.pieces.Agreeing.{leaf_octets}

-- the row at the same place of two lists that show the same pieces shows the same piece
pub piece_among : (s u : List ℕ) (rs qs : List Row) → pieces_of s rs ≡ pieces_of u qs → (r : Row) → Memᴰ r rs
    → (q : Row) × Memᴰ q qs × (piece_of s r ≡ piece_of u q)
unfolding pieces_of
piece_among s u [] qs same r at = absurd (Memᴰ.not-nil at)
piece_among s u (a ∷ rs) [] same r at = let z : ◌≡◌ {A = ℕ} 0 1 = cc in absurd (omega arith)
piece_among s u (a ∷ rs) (b ∷ qs) same r (Memᴰ.head is) =
    let own : piece_of s a ≡ piece_of u b = cc in
    (b, Memᴰ.head refl, ap (piece_of s) is ∙ own)
piece_among s u (a ∷ rs) (b ∷ qs) same r (Memᴰ.tail at) =
    let more : pieces_of s rs ≡ pieces_of u qs = cc in
    let (q, there, alike) = piece_among s u rs qs more r at in
    (q, Memᴰ.tail there, alike)

-- a version is a leaf
version_leaf : (r : Row) → r.kind ≡ kinds.version → container r.kind ≡ false
unfolding container among
version_leaf r is = rw is refl

-- the content of a row that is right is its octets after their header
content_after : (s : List ℕ) (r : Row) → RightContent s r → row_content s r ≡ drop (r.content - r.first) (slice r.first (r.first + r.whole) s)
content_after s r right = sym (drop_slice r.first (r.first + r.whole) r.content s (omega (arith, right.starts)))

-- Rows over some octets and rows over others that show the same pieces: where the leaves of both are right and none of the others is too long, a
-- field that the first show as left out is shown by the others too.
module _ (s u : List ℕ) (rs qs : List Row) (same : pieces_of s rs ≡ pieces_of u qs)
    (right : (r : Row) → Memᴰ r rs → container r.kind ≡ false → RightContent s r)
    (right-too : (q : Row) → Memᴰ q qs → RightContent u q)
    (short : (q : Row) → Memᴰ q qs → length (slice q.first (q.first + q.whole) u) ≤ longest) where
  pub left_out_too : (r : Row) (detail : ℕ) → Memᴰ r rs → LeftOut s r detail → (q : Row) × Memᴰ q qs × LeftOut u q detail
  left_out_too r detail at (one_of_four kind) =
      let (q, there, alike) = piece_among s u rs qs same r at in
      (q, there, one_of_four (subst (λ (k : ℕ). T (among omitted k)) (ap (λ (p : Piece). p.kind) alike) kind))
  left_out_too r detail at (other_version kind octets) =
      let (q, there, alike) = piece_among s u rs qs same r at in
      let q_kind : q.kind ≡ kinds.version = sym (ap (λ (p : Piece). p.kind) alike) ∙ kind in
      let octets_too : slice r.first (r.first + r.whole) s ≡ slice q.first (q.first + q.whole) u =
      sym (leaf_octets s r (version_leaf r kind)) ∙ ap (λ (p : Piece). p.octets) alike ∙ leaf_octets u q (version_leaf q q_kind) in
      let one = right r at (version_leaf r kind) in
      let two = right-too q there in
      let far = content_same s u r q octets_too (short q there) one two in
      (q, there, other_version q_kind (λ is. octets (content_after s r one ∙ ap (λ (n : ℕ). drop n (slice r.first (r.first + r.whole) s)) far ∙ ap (drop (q.content - q.first)) octets_too ∙ sym (content_after u q two) ∙ is)))
