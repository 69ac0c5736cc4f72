-- Pieces that are together some octets: a leaf is its own, a container puts its header before those of its children, and pieces with the same
-- parent stand one after the other. Assumes nothing.
use Prim.Native.Nat.{ℕ, suc, ◌+◌, ◌*◌, ◌≤◌, ◌<◌}
use native.Mathlib.Omega.{arith}
use mathlib.Core.Path.{◌≡◌, refl, sym, ap, ap₂, ◌∙◌}
use mathlib.Core.Bool.{Bool, true, false, ◌&&◌, and_assoc}
use mathlib.Core.List.{List, [], ◌∷◌, ◌++◌, append-nil, append_assoc}
use lib.Dec.{eqb, leb}
use lib.ListN.{length, length-append}
use borrow.Author.Tests.{eq-eqb, ne_eqb, le-leb}
use Rattle.der.specs.meaning.Length.{length_octets}
use Rattle.der.proofs.Laws.{length_some}
use Rattle.crmf.specs.meaning.Rows.{container}
use Rattle.crmf.specs.meaning.Pieces.{Piece}
use Rattle.crmf.specs.steps.rows.Assembly.{identifier_of, implied, own, whole_of, children_of, assembled, none_longer}
use Rattle.crmf.proofs.theorems.pieces.PieceLaws.{children_none, children_piece, assembled_none, assembled_piece, within_none, within_piece}

-- The pieces from number n on, below piece up, are together the octets.
pub record Tiled (n up : ℕ) (xs : List Piece) (os : List ℕ) : Type 0 where
  pub octets : assembled n xs ≡ os
  pub sized : children_of up n xs ≡ length os
  -- no earlier piece has a child among them
  pub apart : (k : ℕ) → k < n → (k ≡ up → ⊥) → children_of k n xs ≡ 0
  -- each has two octets of its own
  pub few : 2 * length xs ≤ length os
  pub short : (limit : ℕ) → length os ≤ limit → none_longer limit n xs ≡ true

-- what a piece adds to the children of piece k, by how many octets its own children have
abbrev share : Piece → ℕ → ℕ → ℕ
share x k inner = elim (eqb x.parent k) [ true ↦ whole_of x inner | false ↦ 0 ]

share_child : (x : Piece) (k inner : ℕ) → x.parent ≡ k → share x k inner ≡ whole_of x inner
share_child x k inner child = rw (share, eq-eqb x.parent k child)

share_other : (x : Piece) (k inner : ℕ) → (x.parent ≡ k → ⊥) → share x k inner ≡ 0
share_other x k inner other = rw (share, ne_eqb x.parent k other)

-- none of the pieces from n to e has a child among those from e on
abbrev Clear : ℕ → ℕ → List Piece → Type 0
Clear n e ys = (j : ℕ) → n ≤ j → j < e → children_of j e ys ≡ 0

-- Pieces with others after them, if none of the first has a child among the others.
module _ (ys : List Piece) (e : ℕ) where
  -- the children of a piece are those among the first and those among the others
  children_append : (xs : List Piece) (k n : ℕ) → e ≡ n + length xs → Clear n e ys → children_of k n (xs ++ ys) ≡ children_of k n xs + children_of k e ys
  children_append [] k n ends clear = let same : n ≡ e = omega arith in rw (same, children_none k e) (omega arith)
  children_append (x ∷ xs) k n ends clear =
      let deeper : Clear (suc n) e ys = λ j low high. clear j (omega arith) high in
      let inner : children_of n (suc n) (xs ++ ys) ≡ children_of n (suc n) xs =
      omega (arith, children_append xs n (suc n) (omega arith) deeper, clear n (omega arith) (omega arith)) in
      let later = children_append xs k (suc n) (omega arith) deeper in
      let here = ap (share x k) inner in
      omega (arith, children_piece k n x (xs ++ ys), children_piece k n x xs)

  -- so a piece of the first has its children among them
  own_children : (x : Piece) (xs : List Piece) (n : ℕ) → e ≡ n + length (x ∷ xs) → Clear n e ys
      → children_of n (suc n) (xs ++ ys) ≡ children_of n (suc n) xs
  own_children x xs n ends clear =
      omega (arith, children_append xs n (suc n) (omega arith) (λ j low high. clear j (omega arith) high), clear n (omega arith) (omega arith))

  assembled_append : (xs : List Piece) (n : ℕ) → e ≡ n + length xs → Clear n e ys → assembled n (xs ++ ys) ≡ assembled n xs ++ assembled e ys
  assembled_append [] n ends clear = let same : n ≡ e = omega arith in rw (same, assembled_none e) refl
  assembled_append (x ∷ xs) n ends clear =
      assembled_piece n x (xs ++ ys)
      ∙ ap₂ (λ (c : ℕ) (l : List ℕ). own x c ++ l) (own_children x xs n ends clear) (assembled_append xs (suc n) (omega arith) (λ j low high. clear j (omega arith) high))
      ∙ sym (append_assoc (own x (children_of n (suc n) xs)) (assembled (suc n) xs) (assembled e ys))
      ∙ ap (λ (l : List ℕ). l ++ assembled e ys) (sym (assembled_piece n x xs))

  within_append : (limit : ℕ) (xs : List Piece) (n : ℕ) → e ≡ n + length xs → Clear n e ys
      → none_longer limit n (xs ++ ys) ≡ (none_longer limit n xs && none_longer limit e ys)
  within_append limit [] n ends clear = let same : n ≡ e = omega arith in rw (same, within_none limit e) refl
  within_append limit (x ∷ xs) n ends clear =
      within_piece limit n x (xs ++ ys)
      ∙ ap₂ (λ (c : ℕ) (b : Bool). leb (whole_of x c) limit && b) (own_children x xs n ends clear)
      (within_append limit xs (suc n) (omega arith) (λ j low high. clear j (omega arith) high))
      ∙ sym (and_assoc (leb (whole_of x (children_of n (suc n) xs)) limit) (none_longer limit (suc n) xs) (none_longer limit e ys))
      ∙ ap (λ (b : Bool). b && none_longer limit e ys) (sym (within_piece limit n x xs))

-- no pieces are no octets
pub tiled_none : (n up : ℕ) → Tiled n up [] []
tiled_none n up = record {
  octets = assembled_none n;
  sized = children_none up n;
  apart = λ k low other. children_none k n;
  few = omega arith;
  short = λ limit fits. within_none limit n;
}

-- Pieces with the same parent stand one after the other.
pub tiled_both : (n up e : ℕ) (xs ys : List Piece) (os ps : List ℕ) → up < n → e ≡ n + length xs → Tiled n up xs os → Tiled e up ys ps
    → Tiled n up (xs ++ ys) (os ++ ps)
tiled_both n up e xs ys os ps below ends a b =
    let clear : Clear n e ys = λ j low high. b.apart j high (λ same. omega arith) in
    let octets = length-append os ps in
    record {
      octets = assembled_append ys e xs n ends clear ∙ ap₂ (λ (l m : List ℕ). l ++ m) a.octets b.octets;
      sized = children_append ys e xs up n ends clear ∙ omega (arith, a.sized, b.sized);
      apart = λ k low other. children_append ys e xs k n ends clear ∙ omega (arith, a.apart k low other, b.apart k (omega arith) other);
      few = omega (arith, length-append xs ys, a.few, b.few);
      short = λ limit fits. within_append ys e limit xs n ends clear
          ∙ ap₂ (λ (c d : Bool). c && d) (a.short limit (omega arith)) (b.short limit (omega arith));
    }

-- A leaf is its own octets.
pub tiled_leaf : (n up kind : ℕ) (os : List ℕ) → up < n → container kind ≡ false → 2 ≤ length os
    → Tiled n up (record { kind = kind; parent = up; octets = os } ∷ []) os
unfolding own whole_of
tiled_leaf n up kind os below leaf two =
    let x : Piece = record { kind = kind; parent = up; octets = os } in
    let octets : (inner : ℕ) → own x inner ≡ os = λ inner. rw (own, leaf) in
    let whole : (inner : ℕ) → whole_of x inner ≡ length os = λ inner. rw (whole_of, own, leaf) (omega arith) in
    let none = children_none n (suc n) in
    record {
      octets = assembled_piece n x [] ∙ ap₂ (λ (a b : List ℕ). a ++ b) (octets (children_of n (suc n) [])) (assembled_none (suc n)) ∙ append-nil os;
      sized = omega (arith, children_piece up n x [], share_child x up (children_of n (suc n) []) refl, whole (children_of n (suc n) []), children_none up (suc n));
      apart = λ k low other.
          omega (arith, children_piece k n x [], share_other x k (children_of n (suc n) []) (λ same. other (sym same)), children_none k (suc n));
      few = omega arith;
      short = λ limit fits. within_piece limit n x []
          ∙ ap₂ (λ (a b : Bool). a && b) (le-leb (whole_of x (children_of n (suc n) [])) limit (omega (arith, whole (children_of n (suc n) [])))) (within_none limit (suc n));
    }

-- the octets of a container before its children's
abbrev pub front : ℕ → ℕ → List ℕ
front kind inner = identifier_of kind ∷ (length_octets (length (implied kind) + inner) ++ implied kind)

front_two : (kind inner : ℕ) → 2 ≤ length (front kind inner)
front_two kind inner =
    omega (arith, length-append (length_octets (length (implied kind) + inner)) (implied kind), length_some (length (implied kind) + inner))

-- A container's stand before its children's.
module _ (n up kind : ℕ) (xs : List Piece) (os : List ℕ) (bears : container kind ≡ true) (below : Tiled (suc n) n xs os) where
  abbrev x : Piece
  x = record { kind = kind; parent = up; octets = [] }

  own_front : own x (children_of n (suc n) xs) ≡ front kind (length os)
  unfolding own
  own_front = rw (own, bears) (ap (front kind) below.sized)

  pub front_octets : assembled n (x ∷ xs) ≡ front kind (length os) ++ os
  front_octets = assembled_piece n x xs ∙ ap₂ (λ (a b : List ℕ). a ++ b) own_front below.octets

  whole : whole_of x (children_of n (suc n) xs) ≡ length (front kind (length os) ++ os)
  unfolding whole_of
  whole =
      rw (whole_of, bears) (omega (arith, ap length own_front, below.sized, length-append (front kind (length os)) os))

  pub front_short : (limit : ℕ) → length (front kind (length os) ++ os) ≤ limit → none_longer limit n (x ∷ xs) ≡ true
  front_short limit fits =
      within_piece limit n x xs
      ∙ ap₂ (λ (a b : Bool). a && b) (le-leb (whole_of x (children_of n (suc n) xs)) limit (omega (arith, whole)))
      (below.short limit (omega (arith, length-append (front kind (length os)) os)))

  pub front_few : 2 * length (x ∷ xs) ≤ length (front kind (length os) ++ os)
  front_few = omega (arith, below.few, front_two kind (length os), length-append (front kind (length os)) os)

  pub tiled_container : up < n → Tiled n up (x ∷ xs) (front kind (length os) ++ os)
  tiled_container low =
      let c = children_of n (suc n) xs in
      record {
        octets = front_octets;
        sized = omega (arith, children_piece up n x xs, share_child x up c refl, whole, below.apart up (omega arith) (λ same. omega arith));
        apart = λ k less other.
            omega (arith, children_piece k n x xs, share_other x k c (λ same. other (sym same)), below.apart k (omega arith) (λ same. omega arith));
        few = front_few;
        short = front_short;
      }
