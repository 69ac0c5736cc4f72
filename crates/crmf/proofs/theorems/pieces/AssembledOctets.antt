-- The assembly of pieces of octets, none of them too long, is octets; and the rows of a batch lie within it. Assumes nothing.
use Prim.Native.Nat.{ℕ, zero, suc, ◌+◌, ◌/◌, ◌%◌, ◌≤◌, ◌<◌}
use native.Mathlib.Omega.{arith}
use mathlib.Core.Path.{◌≡◌, refl, sym, ap, subst}
use mathlib.Core.Bool.{Bool, true, false, and-eq-true_iff}
use mathlib.Core.Logic.{⊎_elim}
use mathlib.Core.List.Memᴰ
use mathlib.Core.List.{List, [], ◌∷◌, ◌++◌, Memᴰ}
use lib.Dec.{eqb, ltb, leb}
use lib.ListN.{length, get_or, take}
use lib.Seq.{slice}
use borrow.Author.Tests.{eqb-true, eqb-false, leb-true, ltb-true, ltb-false}
use Rattle.der.specs.meaning.Octets.{Octets}
use Rattle.der.specs.meaning.Length.{length_octets}
use Rattle.der.specs.meaning.Tree.{Tree, encode, WellFormed}
use Rattle.der.specs.meaning.Bounds.{longest}
use Rattle.der.proofs.Laws.{octets_take, octets_drop, shortest_small, shortest_one, shortest_two, octets_none, octets_more, octets_append}
use Rattle.crmf.specs.meaning.Kinds as kinds
use Rattle.crmf.specs.meaning.Notation.{Top}
use Rattle.crmf.specs.meaning.Grammar.{content}
use Rattle.crmf.specs.meaning.Language.{Matches}
use Rattle.crmf.specs.meaning.Rows.{Row, container, batch_rows}
use Rattle.crmf.specs.meaning.Pieces.{Piece, pieces_of}
use Rattle.crmf.specs.steps.rows.Assembly.{identifier_of, implied, own, whole_of, children_of, assembled, none_longer}
use Rattle.crmf.proofs.theorems.pieces.PieceLaws.{identifier_of_lem, implied_type, implied_none, own_container, own_leaf, whole_container, pieces_none, pieces_row, assembled_none, assembled_piece, within_piece}
use Rattle.crmf.proofs.theorems.lists.Tests.{all}
use Rattle.crmf.proofs.theorems.rows.RowsInPlace.{absent_row}
use Rattle.crmf.proofs.theorems.rows.RowLaws.{row_zero, row_parent, row_within}

-- a test that computes
all_octets : (bs : List ℕ) → all (λ b. ltb b 256) bs ≡ true → Octets bs
all_octets [] test = octets_none
all_octets (b ∷ bs) test =
    let both = (and-eq-true_iff (ltb b 256) (all (λ x. ltb x 256) bs)).0 test in
    octets_more b bs (ltb-true b 256 both.0) (all_octets bs both.1)

-- the shortest length of what isn't too long
length_octets_lem : (n : ℕ) → n ≤ longest → Octets (length_octets n)
length_octets_lem n fits = go (ltb n 128) refl (ltb n 256) refl
  where
    go : (a : Bool) → ltb n 128 ≡ a → (b : Bool) → ltb n 256 ≡ b → Octets (length_octets n)
    go true small b is = rw (shortest_small n (ltb-true _ _ small)) (octets_more n [] (omega (arith, ltb-true n 128 small)) octets_none)
    go false large true is =
        rw (shortest_one n (ltb-false _ _ large) (ltb-true _ _ is)) (octets_more 0x81 (n ∷ []) (omega arith) (octets_more n [] (ltb-true _ _ is) octets_none))
    go false large false is =
        rw (shortest_two n (ltb-false _ _ is) fits) (octets_more 0x82 (n / 256 ∷ n % 256 ∷ []) (omega arith)
        (octets_more (n / 256) (n % 256 ∷ []) (omega arith) (octets_more (n % 256) [] (omega arith) octets_none)))

-- identifiers and implied types are octets
identifier_octet : (kind : ℕ) → identifier_of kind < 256
identifier_octet kind = rw (identifier_of_lem kind) (go (eqb kind kinds.validity) (eqb kind kinds.extensions) (eqb kind kinds.signature) (eqb kind kinds.key_encipherment) (eqb kind kinds.key_agreement))
  where
    go : (a b c d e : Bool) → elim a as (λ x. ℕ) [
      | true ↦ 0xA4
      | false ↦ elim b [
        | true ↦ 0xA9
        | false ↦ elim c [ true ↦ 0xA1 | false ↦ elim d [ true ↦ 0xA2 | false ↦ elim e [ true ↦ 0xA3 | false ↦ 0x30 ] ] ]
      ]
    ] < 256
    go true b c d e = omega arith
    go false true c d e = omega arith
    go false false true d e = omega arith
    go false false false true e = omega arith
    go false false false false true = omega arith
    go false false false false false = omega arith

implied_octets : (kind : ℕ) → Octets (implied kind)
implied_octets kind = go (eqb kind kinds.reg_info_cert_req) refl
  where
    go : (b : Bool) → eqb kind kinds.reg_info_cert_req ≡ b → Octets (implied kind)
    go true is = rw (eqb-true kind kinds.reg_info_cert_req is, implied_type) (all_octets (0x06 ∷ 0x09 ∷ 0x2B ∷ 0x06 ∷ 0x01 ∷ 0x05 ∷ 0x05 ∷ 0x07 ∷ 0x05 ∷ 0x02 ∷ 0x02 ∷ []) refl)
    go false is = rw (implied_none kind (eqb-false kind kinds.reg_info_cert_req is)) octets_none

-- the octets of pieces are octets
abbrev Plain : List Piece → Type 0
Plain [] = Unit {0}
Plain (x ∷ xs) = Octets x.octets × Plain xs

own_octets : (x : Piece) (inner : ℕ) → Octets x.octets → whole_of x inner ≤ longest → Octets (own x inner)
own_octets x inner plain fits = go (container x.kind) refl
  where
    go : (b : Bool) → container x.kind ≡ b → Octets (own x inner)
    go false is = rw (own_leaf x inner is) plain
    go true is =
        let whole = whole_container x inner is in
        let content = length (implied x.kind) + inner in
        rw (own_container x inner is) (octets_more (identifier_of x.kind) (length_octets content ++ implied x.kind) (identifier_octet x.kind)
        (octets_append (length_octets content) (implied x.kind) (length_octets_lem content (omega arith)) (implied_octets x.kind)))

assembled_octets : (n : ℕ) (xs : List Piece) → Plain xs → none_longer longest n xs ≡ true → Octets (assembled n xs)
assembled_octets n [] plain fits = rw (assembled_none n) octets_none
assembled_octets n (x ∷ xs) plain fits =
    let both = (and-eq-true_iff (leb (whole_of x (children_of n (suc n) xs)) longest) (none_longer longest (suc n) xs)).0 (rw (within_piece longest n x xs) at fits) in
    rw (assembled_piece n x xs) (octets_append (own x (children_of n (suc n) xs)) (assembled (suc n) xs)
    (own_octets x (children_of n (suc n) xs) plain.0 (leb-true _ _ both.0)) (assembled_octets (suc n) xs plain.1 both.1))

-- the pieces that rows show of octets are octets
shown_plain : (s : List ℕ) → Octets s → (rs : List Row) → Plain (pieces_of s rs)
shown_plain s octets [] = rw (pieces_none s) tt
shown_plain s octets (r ∷ rs) = rw (pieces_row s r rs) (go (container r.kind), shown_plain s octets rs)
  where
    go : (b : Bool) → Octets (elim b as (λ x. List ℕ) [ true ↦ [] | false ↦ slice r.first (r.first + r.whole) s ])
    go true = octets_none
    go false = octets_drop r.first (take (r.first + r.whole) s) (octets_take (r.first + r.whole) s octets)

-- The assembly of what rows show of octets is octets, if nothing is too long.
pub pieces_octets : (s : List ℕ) → Octets s → (rs : List Row) → none_longer longest 0 (pieces_of s rs) ≡ true → Octets (assembled 0 (pieces_of s rs))
pieces_octets s octets rs fits = assembled_octets 0 (pieces_of s rs) (shown_plain s octets rs) fits

-- a row of a list has a number
numbered : (rs : List Row) (r : Row) → Memᴰ r rs → (i : ℕ) × (i < length rs) × (get_or rs i absent_row ≡ r)
numbered [] r at = absurd (Memᴰ.not-nil at)
numbered (q ∷ rs) r at = ⊎_elim (λ same. (0, omega arith, sym same)) (λ more. let (i, there, here) = numbered rs r more in (suc i, omega arith, here)) (Memᴰ.cases_cons at)

-- The rows of a batch lie within it.
module _ {R : ℕ → Bool} {t : Tree} (m : Matches R (content Top) t) (left : ℕ) (wf : WellFormed left 0 t) where
  abbrev rs : List Row
  rs = batch_rows m

  ends_by : (most i : ℕ) → i ≤ most → i < length rs → (get_or rs i absent_row).first + (get_or rs i absent_row).whole ≤ length (encode t)
  ends_by zero i fits there =
      let same : i ≡ 0 = omega arith in
      rw same (omega (arith, ap (λ (r : Row). r.first + r.whole) (row_zero m left wf)))
  ends_by (suc most) i fits there = go (eqb i 0) refl (ends_by most (get_or rs i absent_row).parent)
    where
      go : (b : Bool) → eqb i 0 ≡ b → ((get_or rs i absent_row).parent ≤ most → (get_or rs i absent_row).parent < length rs
          → (get_or rs (get_or rs i absent_row).parent absent_row).first + (get_or rs (get_or rs i absent_row).parent absent_row).whole ≤ length (encode t)) → (get_or rs i absent_row).first + (get_or rs i absent_row).whole ≤ length (encode t)
      go true is above = rw (eqb-true i 0 is) (omega (arith, ap (λ (r : Row). r.first + r.whole) (row_zero m left wf)))
      go false is above =
          let some : i ≡ 0 → ⊥ = eqb-false i 0 is in
          let parent = row_parent m left wf i (omega arith) there in
          omega (arith, (row_within m left wf i there).high, above (omega arith) (omega arith))

  pub row_ends : (i : ℕ) → i < length rs → (get_or rs i absent_row).first + (get_or rs i absent_row).whole ≤ length (encode t)
  row_ends i there = ends_by i i (omega arith) there

  pub rows_within_lem : (s : List ℕ) → encode t ≡ s → (r : Row) → Memᴰ r rs → container r.kind ≡ false → r.first + r.whole ≤ length s
  rows_within_lem s is r at leaf =
      let (i, there, here) = numbered rs r at in
      subst (λ (l : List ℕ). r.first + r.whole ≤ length l) is (subst (λ (q : Row). q.first + q.whole ≤ length (encode t)) here (row_ends i there))
