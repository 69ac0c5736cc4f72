-- The definitions of rows' numbers and of pieces, one step at a time, for the layers above. Assumes nothing.
use Prim.Native.Nat.{ℕ, suc, ◌+◌, ◌*◌, ◌≤◌}
use native.Mathlib.Omega.{arith}
use mathlib.Core.Path.{◌≡◌, refl}
use mathlib.Core.Bool.{Bool, true, false, ◌&&◌, ◌||◌, and-eq-true_iff}
use mathlib.Core.List.{List, [], ◌∷◌, ◌++◌}
use lib.Dec.{eqb, leb}
use lib.ListN.{length, length-append}
use borrow.Author.Tests.{leb-true, ne_eqb}
use Rattle.der.specs.meaning.Length.{length_octets}
use Rattle.crmf.specs.meaning.Kinds as kinds
use Rattle.crmf.specs.meaning.Notation.{among}
use Rattle.crmf.specs.meaning.Rows.{Row, container, numbers}
use Rattle.crmf.specs.meaning.Pieces.{Piece, piece_of, pieces_of}
use Rattle.crmf.specs.steps.rows.Assembly.{identifier_of, implied, own, whole_of, children_of, assembled, none_longer}

-- a container's kind is one of these
pub container_kinds : (k : ℕ)
    → container k
    ≡ (eqb k kinds.batch || (eqb k kinds.message || (eqb k kinds.cert_req || (eqb k kinds.cert_template || (eqb k kinds.validity || (eqb k kinds.extensions || (eqb k kinds.controls || (eqb k kinds.signature || (eqb k kinds.key_encipherment || (eqb k kinds.key_agreement || (eqb k kinds.reg_info || (eqb k kinds.reg_info_cert_req || false))))))))))))
unfolding container among
container_kinds k = refl

-- no rows have no numbers, and a row has its own before the others'
pub numbers_none : numbers [] ≡ []
unfolding numbers
numbers_none = refl

pub numbers_row : (r : Row) (rs : List Row) → numbers (r ∷ rs) ≡ r.kind ∷ r.first ∷ r.whole ∷ r.parent ∷ r.content ∷ numbers rs
unfolding numbers
numbers_row r rs = refl

-- no rows have no pieces, and a row has a piece before the others'
pub pieces_none : (s : List ℕ) → pieces_of s [] ≡ []
unfolding pieces_of
pieces_none s = refl

pub pieces_row : (s : List ℕ) (r : Row) (rs : List Row) → pieces_of s (r ∷ rs) ≡ piece_of s r ∷ pieces_of s rs
unfolding pieces_of
pieces_row s r rs = refl

-- five containers have identifiers of their own
pub identifier_of_lem : (k : ℕ) → identifier_of k
    ≡ elim (eqb k kinds.validity) [
      | true ↦ 0xA4
      | false ↦ elim (eqb k kinds.extensions) [
        | true ↦ 0xA9
        | false ↦ elim (eqb k kinds.signature) [
          | true ↦ 0xA1
          | false ↦ elim (eqb k kinds.key_encipherment) [ true ↦ 0xA2 | false ↦ elim (eqb k kinds.key_agreement) [ true ↦ 0xA3 | false ↦ 0x30 ] ]
        ]
      ]
    ]
unfolding identifier_of
identifier_of_lem k = refl

-- a type is implied in a carried certReq item and in no other
pub implied_type : implied kinds.reg_info_cert_req ≡ 0x06 ∷ 0x09 ∷ 0x2B ∷ 0x06 ∷ 0x01 ∷ 0x05 ∷ 0x05 ∷ 0x07 ∷ 0x05 ∷ 0x02 ∷ 0x02 ∷ []
unfolding implied
implied_type = refl

pub implied_none : (k : ℕ) → (k ≡ kinds.reg_info_cert_req → ⊥) → implied k ≡ []
unfolding implied
implied_none k other = rw (implied, ne_eqb k kinds.reg_info_cert_req other)

module _ (x : Piece) (inner : ℕ) where
  -- a container's own octets, and a leaf's
  pub own_container : container x.kind ≡ true
      → own x inner ≡ identifier_of x.kind ∷ (length_octets (length (implied x.kind) + inner) ++ implied x.kind)
  unfolding own
  own_container is = rw (own, is)

  pub own_leaf : container x.kind ≡ false → own x inner ≡ x.octets
  unfolding own
  own_leaf is = rw (own, is)

  -- a container's whole length, with its identifier, length octets and content; and a leaf's
  pub whole_container : container x.kind ≡ true
      → whole_of x inner ≡ suc (length (length_octets (length (implied x.kind) + inner)) + (length (implied x.kind) + inner))
  unfolding whole_of
  whole_container is =
      rw (whole_of, own_container is, is)
      (omega (arith, length-append (length_octets (length (implied x.kind) + inner)) (implied x.kind)))

  pub whole_leaf : container x.kind ≡ false → whole_of x inner ≡ length x.octets
  unfolding whole_of
  whole_leaf is = rw (whole_of, own_leaf is, is) (omega arith)

-- the children among no pieces, and among a piece and those after it
pub children_none : (k n : ℕ) → children_of k n [] ≡ 0
unfolding children_of
children_none k n = refl

pub children_piece : (k n : ℕ) (x : Piece) (xs : List Piece)
    → children_of k n (x ∷ xs) ≡ elim (eqb x.parent k) [ true ↦ whole_of x (children_of n (suc n) xs) | false ↦ 0 ] + children_of k (suc n) xs
unfolding children_of
children_piece k n x xs = refl

-- the octets of no pieces, and of a piece and those after it
pub assembled_none : (n : ℕ) → assembled n [] ≡ []
unfolding assembled
assembled_none n = refl

pub assembled_piece : (n : ℕ) (x : Piece) (xs : List Piece) → assembled n (x ∷ xs) ≡ own x (children_of n (suc n) xs) ++ assembled (suc n) xs
unfolding assembled
assembled_piece n x xs = refl

-- the limit on no pieces, and on a piece and those after it
pub within_none : (limit n : ℕ) → none_longer limit n [] ≡ true
unfolding none_longer
within_none limit n = refl

pub within_piece : (limit n : ℕ) (x : Piece) (xs : List Piece)
    → none_longer limit n (x ∷ xs) ≡ (leb (whole_of x (children_of n (suc n) xs)) limit && none_longer limit (suc n) xs)
unfolding none_longer
within_piece limit n x xs = refl

-- if no piece is longer than a limit, the children of one have together at most the limit for each piece
pub children_bound : (limit k n : ℕ) (xs : List Piece) → none_longer limit n xs ≡ true → children_of k n xs ≤ limit * length xs
unfolding children_of none_longer
children_bound limit k n [] fit = omega arith
children_bound limit k n (x ∷ xs) fit =
    let both = (and-eq-true_iff (leb (whole_of x (children_of n (suc n) xs)) limit) (none_longer limit (suc n) xs)).0 fit in
    go (eqb x.parent k) (leb-true _ limit both.0) (children_bound limit k (suc n) xs both.1)
  where
    whole : ℕ
    whole = whole_of x (children_of n (suc n) xs)

    more : ℕ
    more = children_of k (suc n) xs

    go : (b : Bool) → whole ≤ limit → more ≤ limit * length xs → elim b [ true ↦ whole | false ↦ 0 ] + more ≤ limit * suc (length xs)
    go true one others = omega arith
    go false one others = omega arith
