-- The octets that pieces are together: how a batch is assembled from what its rows show (SPECIFICATION 6). Assumes nothing.
use Rattle.std.specs.Prelude.{ℕ, suc, ◌+◌, Bool, true, false, ◌&&◌, List, [], ◌∷◌, ◌++◌, eqb, leb, length}
use Rattle.der.specs.meaning.Length.{length_octets}
use Rattle.crmf.specs.meaning.Kinds as kinds
use Rattle.crmf.specs.meaning.Rows.{container}
use Rattle.crmf.specs.meaning.Pieces.{Piece}

-- the identifier of a container: "validity A4", "extensions A9", "signature A1", "keyEncipherment A2 or keyAgreement A3", and 30 for all others
unfoldable pub identifier_of : ℕ → ℕ
identifier_of kind =
    elim (eqb kind kinds.validity) [
      | true ↦ 0xA4
      | false ↦ elim (eqb kind kinds.extensions) [
        | true ↦ 0xA9
        | false ↦ elim (eqb kind kinds.signature) [
          | true ↦ 0xA1
          | false ↦ elim (eqb kind kinds.key_encipherment) [ true ↦ 0xA2 | false ↦ elim (eqb kind kinds.key_agreement) [ true ↦ 0xA3 | false ↦ 0x30 ] ]
        ]
      ]
    ]

-- "its type is implied": the octets before the child of a carried certReq item
unfoldable pub implied : ℕ → List ℕ
implied kind =
    elim (eqb kind kinds.reg_info_cert_req) [
      | true ↦ 0x06 ∷ 0x09 ∷ 0x2B ∷ 0x06 ∷ 0x01 ∷ 0x05 ∷ 0x05 ∷ 0x07 ∷ 0x05 ∷ 0x02 ∷ 0x02 ∷ []
      | false ↦ []
    ]

-- The octets that a piece adds if its children have `inner` octets together. A leaf adds its own octets. A container adds its identifier, the
-- shortest length and the implied type; its children's octets come after them.
unfoldable pub own : Piece → ℕ → List ℕ
own x inner =
    elim (container x.kind) [
      | true ↦ identifier_of x.kind ∷ (length_octets (length (implied x.kind) + inner) ++ implied x.kind)
      | false ↦ x.octets
    ]

-- the whole length of a piece, its children's octets included
unfoldable pub whole_of : Piece → ℕ → ℕ
whole_of x inner = length (own x inner) + elim (container x.kind) [ true ↦ inner | false ↦ 0 ]

-- how many octets the children of piece k have together, of the pieces from number n on
unfoldable pub children_of : ℕ → ℕ → List Piece → ℕ
children_of k n [] = 0
children_of k n (x ∷ xs) =
    elim (eqb x.parent k) [ true ↦ whole_of x (children_of n (suc n) xs) | false ↦ 0 ] + children_of k (suc n) xs

-- The octets of pieces, the first of them number n, one after the other.
unfoldable pub assembled : ℕ → List Piece → List ℕ
assembled n [] = []
assembled n (x ∷ xs) = own x (children_of n (suc n) xs) ++ assembled (suc n) xs

-- whether no piece is longer than a limit
unfoldable pub none_longer : ℕ → ℕ → List Piece → Bool
none_longer limit n [] = true
none_longer limit n (x ∷ xs) = leb (whole_of x (children_of n (suc n) xs)) limit && none_longer limit (suc n) xs
