-- A11, writing: a draft's fifth numbers "must be right in its leaves, by the slice's own places, else 12", and are "ignored in containers".
-- Assumes nothing.
use Prim.Native.Nat.{ℕ, suc, ◌+◌, ◌≤◌}
use native.Mathlib.Omega.{arith}
use mathlib.Core.Logic.{⊎_elim}
use mathlib.Core.Path.{◌≡◌, refl, sym, ap, subst, ◌∙◌}
use mathlib.Core.Bool.{Bool, true, false, ◌&&◌, ◌||◌, and-eq-true_iff, false≢true}
use mathlib.Core.List.Memᴰ
use mathlib.Core.List.{List, [], ◌∷◌, ◌++◌, Memᴰ}
use lib.Dec.{leb}
use lib.ListN.{length, length-append}
use lib.Seq.{slice}
use borrow.Author.Tests.{leb-true}
use Rattle.der.specs.meaning.Refusal.{no_such_batch}
use Rattle.der.specs.meaning.Bounds.{longest}
use Rattle.der.specs.meaning.Tree.{header}
use Rattle.der.proofs.Laws.{header_same}
use Rattle.crmf.specs.meaning.Edition.{Edition}
use Rattle.crmf.specs.meaning.Rows.{Row, container, numbers, RightContent}
use Rattle.crmf.specs.meaning.Pieces.{Piece, piece_of, pieces_of}
use Rattle.crmf.specs.steps.rows.Assembly.{whole_of, children_of, none_longer}
use Rattle.crmf.proofs.Laws.{leaf_octets, pieces_row, whole_leaf, within_piece}
use Rattle.writer.specs.meaning.Draft.{inside, HasRows}
use Rattle.writer.specs.meaning.Writes.{Writes, unknown_edition, no_batch, no_room, written}
use Rattle.crmf.proofs.Laws.{numbers_once}
use Rattle.writer.proofs.theorems.Described.{rows_are, pieces_fit}
use Rattle.writer.proofs.theorems.Demand2.{describes_nothing}

-- a leaf of rows that aren't too long isn't
leaf_short : (bytes : List ℕ) (n : ℕ) (rs : List Row) → none_longer longest n (pieces_of bytes rs) ≡ true → (r : Row) → Memᴰ r rs
    → container r.kind ≡ false → length (slice r.first (r.first + r.whole) bytes) ≤ longest
leaf_short bytes n [] fit r at leaf = absurd (Memᴰ.not-nil at)
leaf_short bytes n (a ∷ rs) fit r at leaf =
    let inner = children_of n (suc n) (pieces_of bytes rs) in
    let split = ap (none_longer longest n) (sym (pieces_row bytes a rs)) ∙ fit in
    let (own, more) = (and-eq-true_iff (leb (whole_of (piece_of bytes a) inner) longest) (none_longer longest (suc n) (pieces_of bytes rs))).0
    (sym (within_piece longest n (piece_of bytes a) (pieces_of bytes rs)) ∙ split) in
    ⊎_elim (λ same. rw same (first (leb-true _ _ own) (rw same at leaf))) (λ m. leaf_short bytes (suc n) rs more r m leaf) (Memᴰ.cases_cons at)
  where
    first : whole_of (piece_of bytes a) (children_of n (suc n) (pieces_of bytes rs)) ≤ longest → container a.kind ≡ false
        → length (slice a.first (a.first + a.whole) bytes) ≤ longest
    first fits bare =
        omega (arith, fits, whole_leaf (piece_of bytes a) (children_of n (suc n) (pieces_of bytes rs)) bare, ap length (leaf_octets bytes a bare))

-- "must be right in its leaves, by the slice's own places, else 12": one leaf that isn't is enough, whatever the rest of the draft is.
pub not_right_refused : {e : ℕ} {draft bytes old : List ℕ} {number place count : ℕ} {new : List ℕ} → Edition e
    → Writes e draft bytes old number place count new → (rs : List Row) → numbers rs ≡ draft → (r : Row) → Memᴰ r rs → container r.kind ≡ false
    → (RightContent bytes r → ⊥) → number ≡ no_such_batch
not_right_refused ed w rs is r at leaf wrong =
    (describes_nothing ed w).1 (λ s h. wrong (h.right r (subst (Memᴰ r) (sym (numbers_once h.rows rs (h.numbered ∙ sym is))) at) leaf))

-- So is one at whose place an element stands in the slice, with another fifth number than its first byte and the length of that element's header.
pub wrong_content_refused : {e : ℕ} {draft bytes old : List ℕ} {number place count : ℕ} {new : List ℕ} → Edition e
    → Writes e draft bytes old number place count new → (rs : List Row) → numbers rs ≡ draft → (r : Row) → Memᴰ r rs → container r.kind ≡ false
    → (id : ℕ) (c : List ℕ) → slice r.first (r.first + r.whole) bytes ≡ header id c ++ c → (r.content ≡ r.first + length (header id c) → ⊥)
    → number ≡ no_such_batch
wrong_content_refused {e} {draft} {bytes} ed w rs is r at leaf id c stands wrong = (describes_nothing ed w).1 none
  where
    none : (s : List ℕ) → HasRows e draft bytes s → ⊥
    none s h =
        let same = numbers_once h.rows rs (h.numbered ∙ sym is) in
        let x = h.right r (subst (Memᴰ r) (sym same) at) leaf in
        let fit = subst (λ (l : List Row). none_longer longest 0 (pieces_of bytes l) ≡ true) (rows_are ed draft bytes s h ∙ same) (pieces_fit ed draft bytes s h) in
        let short = leaf_short bytes 0 rs fit r at leaf in
        let octets = sym stands ∙ x.stands in
        let one = length-append (header id c) c in
        let two = length-append (header x.identifier x.octets) x.octets in
        let heads = header_same id x.identifier c x.octets octets (omega (arith, one, ap length stands)) (omega (arith, two, ap length x.stands)) in
        wrong (x.starts ∙ ap (λ (n : ℕ). r.first + n) (sym heads))

-- a row with another fifth number
abbrev pub with_content : ℕ → Row → Row
with_content c r = record { kind = r.kind; first = r.first; whole = r.whole; parent = r.parent; content = c }

-- The same rows but for the fifth numbers of containers.
pub data SameBut : List Row → List Row → Type 0 where
  none : SameBut [] []
  row : {rs qs : List Row} (r : Row) → SameBut rs qs → SameBut (r ∷ rs) (r ∷ qs)
  bearing : {rs qs : List Row} (r : Row) (c : ℕ) → container r.kind ≡ true → SameBut rs qs → SameBut (r ∷ rs) (with_content c r ∷ qs)

-- the other way round too
but_same : {rs qs : List Row} → SameBut rs qs → SameBut qs rs
but_same none = none
but_same (row r more) = row r (but_same more)
but_same (bearing r c is more) = bearing (with_content c r) r.content is (but_same more)

-- their leaves lie in the slice alike
but_inside : (bytes : List ℕ) {rs qs : List Row} → SameBut rs qs → inside bytes rs ≡ inside bytes qs
unfolding inside
but_inside bytes none = refl
but_inside bytes (row r more) = ap (λ (b : Bool). (container r.kind || leb (r.first + r.whole) (length bytes)) && b) (but_inside bytes more)
but_inside bytes (bearing r c is more) =
    ap (λ (b : Bool). (container r.kind || leb (r.first + r.whole) (length bytes)) && b) (but_inside bytes more)

-- and they show the same pieces
but_pieces : (bytes : List ℕ) {rs qs : List Row} → SameBut rs qs → pieces_of bytes rs ≡ pieces_of bytes qs
but_pieces bytes none = refl
but_pieces bytes (row {rs = rs} {qs = qs} r more) =
    pieces_row bytes r rs ∙ ap (λ (l : List Piece). piece_of bytes r ∷ l) (but_pieces bytes more) ∙ sym (pieces_row bytes r qs)
but_pieces bytes (bearing {rs = rs} {qs = qs} r c is more) =
    pieces_row bytes r rs ∙ ap (λ (l : List Piece). piece_of bytes r ∷ l) (but_pieces bytes more)
    ∙ sym (pieces_row bytes (with_content c r) qs)

-- a leaf of the one is a leaf of the other
but_leaf : {rs qs : List Row} → SameBut rs qs → (q : Row) → Memᴰ q qs → container q.kind ≡ false → Memᴰ q rs
but_leaf none q at leaf = absurd (Memᴰ.not-nil at)
but_leaf (row r more) q at leaf =
    ⊎_elim (λ same. Memᴰ.head same) (λ m. Memᴰ.tail (but_leaf more q m leaf)) (Memᴰ.cases_cons at)
but_leaf (bearing r c is more) q at leaf =
    ⊎_elim (λ same. absurd (false≢true (sym leaf ∙ ap (λ (x : Row). container x.kind) same ∙ is)))
    (λ m. Memᴰ.tail (but_leaf more q m leaf)) (Memᴰ.cases_cons at)

-- A batch that has the one's rows has the other's.
but_rows : {e : ℕ} {bytes s : List ℕ} {rs qs : List Row} → SameBut rs qs → HasRows e (numbers rs) bytes s → HasRows e (numbers qs) bytes s
but_rows {bytes = bytes} {rs = rs} {qs = qs} same h =
    let own = numbers_once h.rows rs h.numbered in
    record {
      octets = h.octets;
      batch = h.batch;
      fit = h.fit;
      rows = qs;
      numbered = refl;
      leaves = sym (but_inside bytes same) ∙ ap (inside bytes) (sym own) ∙ h.leaves;
      alike = sym (but_pieces bytes same) ∙ ap (pieces_of bytes) (sym own) ∙ h.alike;
      right = λ q at leaf. h.right q (subst (Memᴰ q) (sym own) (but_leaf same q at leaf)) leaf;
    }

-- "is ignored in containers of a draft": drafts that differ in nothing else are answered the same.
pub containers_ignored : {e : ℕ} {bytes old : List ℕ} {number place count : ℕ} {new : List ℕ} {rs qs : List Row} → SameBut rs qs
    → Writes e (numbers rs) bytes old number place count new → Writes e (numbers qs) bytes old number place count new
containers_ignored same (unknown_edition unknown) = unknown_edition unknown
containers_ignored same (no_batch ed nothing) = no_batch ed (λ s h. nothing s (but_rows (but_same same) h))
containers_ignored same (no_room ed s h short) = no_room ed s (but_rows same h) short
containers_ignored same (written ed s h room) = written ed s (but_rows same h) room
