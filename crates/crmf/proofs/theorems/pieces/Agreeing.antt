-- What it means that rows agree. In place, they are the same rows. Wherever the leaves stand, they show the same pieces, if both have the same
-- assembly: since the pieces have the same lengths, they divide it in the same way. Assumes nothing.
use Prim.Native.Nat.{ℕ, suc, ◌+◌, ◌-◌, ◌≤◌}
use native.Mathlib.Omega.{arith}
use mathlib.Core.Path.{◌≡◌, refl, sym, ap, ap₂, subst, ◌∙◌}
use mathlib.Core.Bool.{Bool, true, false, ◌&&◌, ◌||◌, and-eq-true_iff}
use mathlib.Core.Logic.{⊎_elim}
use mathlib.Core.List.Memᴰ
use mathlib.Core.List.{List, [], ◌∷◌, ◌++◌, Memᴰ}
use lib.Dec.{eqb}
use lib.ListN.{length}
use lib.Seq.{slice}
use borrow.Author.Tests.{eqb-true, eq-eqb}
use Rattle.der.specs.meaning.Bounds.{longest}
use Rattle.der.specs.meaning.Length.{length_octets}
use Rattle.der.proofs.Laws.{slice_size}
use Rattle.crmf.specs.meaning.Rows.{Row, container, RightContent}
use Rattle.crmf.specs.meaning.Pieces.{Piece, piece_of, pieces_of}
use Rattle.crmf.specs.steps.rows.Agree.{is_same_place, same_lengths, agrees, agree}
use Rattle.crmf.specs.steps.rows.Assembly.{identifier_of, implied, own, whole_of, children_of, assembled}
use Rattle.crmf.proofs.theorems.pieces.PieceLaws.{own_container, own_leaf, whole_container, whole_leaf}
use Rattle.crmf.proofs.theorems.rows.RowContents.{content_same, content_right}

-- what two rows that agree have in common
kinds_agree : (b : Bool) (r q : Row) → agrees b r q ≡ true → r.kind ≡ q.kind
kinds_agree b r q is = eqb-true _ _ ((and-eq-true_iff (eqb r.kind q.kind) _).0 is).0

parents_agree : (b : Bool) (r q : Row) → agrees b r q ≡ true → r.parent ≡ q.parent
parents_agree b r q is =
    eqb-true _ _ ((and-eq-true_iff (eqb r.parent q.parent) _).0 ((and-eq-true_iff (eqb r.kind q.kind) _).0 is).1).0

lengths_agree : (r q : Row) → agrees false r q ≡ true → same_lengths r q ≡ true
lengths_agree r q is =
    ((and-eq-true_iff (eqb r.parent q.parent) (same_lengths r q)).0
    ((and-eq-true_iff (eqb r.kind q.kind) (eqb r.parent q.parent && same_lengths r q)).0 is).1).1

places_agree : (r q : Row) → agrees true r q ≡ true → is_same_place r q ≡ true
places_agree r q is =
    ((and-eq-true_iff (eqb r.parent q.parent) (is_same_place r q)).0
    ((and-eq-true_iff (eqb r.kind q.kind) (eqb r.parent q.parent && is_same_place r q)).0 is).1).1

-- In place, rows that agree are the same.
same_row : (r q : Row) → agrees true r q ≡ true → r ≡ q
same_row r q is =
    let place = (and-eq-true_iff (eqb r.first q.first && eqb r.whole q.whole) (eqb r.content q.content)).0 (places_agree r q is) in
    let extent = (and-eq-true_iff (eqb r.first q.first) (eqb r.whole q.whole)).0 place.0 in
    ap₂ (λ (k u : ℕ). record { kind = k; first = r.first; whole = r.whole; parent = u; content = r.content }) (kinds_agree true r q is) (parents_agree true r q is)
    ∙ ap₂ (λ (p w : ℕ). record { kind = q.kind; first = p; whole = w; parent = q.parent; content = r.content }) (eqb-true _ _ extent.0) (eqb-true _ _ extent.1)
    ∙ ap (λ (c : ℕ). record { kind = q.kind; first = q.first; whole = q.whole; parent = q.parent; content = c }) (eqb-true _ _ place.1)

pub agree_in_place : (rs qs : List Row) → agree true rs qs ≡ true → rs ≡ qs
unfolding agree
agree_in_place [] [] is = refl
agree_in_place [] (q ∷ qs) is = let z : ◌≡◌ {A = ℕ} 0 1 = cc in absurd (omega arith)
agree_in_place (r ∷ rs) [] is = let z : ◌≡◌ {A = ℕ} 0 1 = cc in absurd (omega arith)
agree_in_place (r ∷ rs) (q ∷ qs) is =
    let both = (and-eq-true_iff (agrees true r q) (agree true rs qs)).0 is in
    ap₂ (λ (x : Row) (l : List Row). x ∷ l) (same_row r q both.0) (agree_in_place rs qs both.1)

-- Conversely, rows agree with themselves in place.
row_itself : (r : Row) → agrees true r r ≡ true
row_itself r =
    let same : (n : ℕ) → eqb n n ≡ true = λ n. eq-eqb n n refl in
    (and-eq-true_iff (eqb r.kind r.kind) _).1 (
      same r.kind,
      (and-eq-true_iff (eqb r.parent r.parent) (is_same_place r r)).1 (
        same r.parent,
        (and-eq-true_iff (eqb r.first r.first && eqb r.whole r.whole) (eqb r.content r.content)).1
            ((and-eq-true_iff (eqb r.first r.first) (eqb r.whole r.whole)).1 (same r.first, same r.whole), same r.content),
      ),
    )

pub agree_itself : (rs : List Row) → agree true rs rs ≡ true
unfolding agree
agree_itself [] = refl
agree_itself (r ∷ rs) = (and-eq-true_iff (agrees true r r) (agree true rs rs)).1 (row_itself r, agree_itself rs)

-- the octets that a leaf shows, and those of a container, which shows none
pub leaf_octets : (t : List ℕ) (p : Row) → container p.kind ≡ false → (piece_of t p).octets ≡ slice p.first (p.first + p.whole) t
leaf_octets t p leaf = ap (λ (b : Bool). elim b [ true ↦ [] | false ↦ slice p.first (p.first + p.whole) t ]) leaf

no_octets : (t : List ℕ) (p : Row) → container p.kind ≡ true → (piece_of t p).octets ≡ []
no_octets t p bears = ap (λ (b : Bool). elim b [ true ↦ [] | false ↦ slice p.first (p.first + p.whole) t ]) bears

-- leaves lie within some octets
abbrev pub Within : List ℕ → List Row → Type 0
Within s rs = (r : Row) → Memᴰ r rs → container r.kind ≡ false → r.first + r.whole ≤ length s

-- two lists that begin with equally many entries
parts_same : (a b c d : List ℕ) → length a ≡ length b → a ++ c ≡ b ++ d → (a ≡ b) × (c ≡ d)
parts_same [] [] c d sized is = (refl, is)
parts_same [] (y ∷ b) c d sized is = absurd (omega arith)
parts_same (x ∷ a) [] c d sized is = absurd (omega arith)
parts_same (x ∷ a) (y ∷ b) c d sized is =
    let first : x ≡ y = cc is in
    let rest : a ++ c ≡ b ++ d = cc is in
    let more = parts_same a b c d (omega arith) rest in
    (ap₂ (λ (z : ℕ) (l : List ℕ). z ∷ l) first more.0, more.1)

-- Two rows that agree, each over octets of its own, and what is inside each.
module _ (bytes s : List ℕ) (r q : Row) (is : agrees false r q ≡ true) where
  abbrev x : Piece
  x = piece_of bytes r

  abbrev y : Piece
  y = piece_of s q

  kinds : r.kind ≡ q.kind
  kinds = kinds_agree false r q is

  leaf_other : container r.kind ≡ false → container q.kind ≡ false
  leaf_other leaf = ap container (sym kinds) ∙ leaf

  bears_other : container r.kind ≡ true → container q.kind ≡ true
  bears_other bears = ap container (sym kinds) ∙ bears

  leaf_lengths : container r.kind ≡ false → (r.whole ≡ q.whole) × (r.content - r.first ≡ q.content - q.first)
  leaf_lengths leaf =
      let lengths = subst (λ (b : Bool). (b || (eqb r.whole q.whole && eqb (r.content - r.first) (q.content - q.first))) ≡ true) (leaf_other leaf) (lengths_agree r q is) in
      let both = (and-eq-true_iff (eqb r.whole q.whole) (eqb (r.content - r.first) (q.content - q.first))).0 lengths in
      (eqb-true _ _ both.0, eqb-true _ _ both.1)

  module _ (mine : container r.kind ≡ false → r.first + r.whole ≤ length bytes) (theirs : container q.kind ≡ false → q.first + q.whole ≤ length s) where
    octets_agree : container r.kind ≡ false → length x.octets ≡ length y.octets
    octets_agree leaf =
        let other = leaf_other leaf in
        ap length (leaf_octets bytes r leaf)
        ∙ omega (arith, slice_size r.first (r.first + r.whole) bytes, slice_size q.first (q.first + q.whole) s, mine leaf, theirs other, (leaf_lengths leaf).0)
        ∙ sym (ap length (leaf_octets s q other))

    whole_agree : (i : ℕ) → whole_of x i ≡ whole_of y i
    whole_agree i = by_kind (container r.kind) refl
      where
        by_kind : (b : Bool) → container r.kind ≡ b → whole_of x i ≡ whole_of y i
        by_kind true bears =
            whole_container x i bears
            ∙ ap (λ (k : ℕ). suc (length (length_octets (length (implied k) + i)) + (length (implied k) + i))) kinds
            ∙ sym (whole_container y i (bears_other bears))
        by_kind false leaf = whole_leaf x i leaf ∙ octets_agree leaf ∙ sym (whole_leaf y i (leaf_other leaf))

    -- they add equally many octets, and a container the same
    own_container_agree : (i : ℕ) → container r.kind ≡ true → own x i ≡ own y i
    own_container_agree i bears =
        own_container x i bears
        ∙ ap (λ (k : ℕ). identifier_of k ∷ (length_octets (length (implied k) + i) ++ implied k)) kinds
        ∙ sym (own_container y i (bears_other bears))

    own_size : (i : ℕ) → length (own x i) ≡ length (own y i)
    own_size i = by_kind (container r.kind) refl
      where
        by_kind : (b : Bool) → container r.kind ≡ b → length (own x i) ≡ length (own y i)
        by_kind true bears = ap length (own_container_agree i bears)
        by_kind false leaf = ap length (own_leaf x i leaf) ∙ octets_agree leaf ∙ sym (ap length (own_leaf y i (leaf_other leaf)))

    -- and if these are the same, so are the pieces
    piece_agree : (i : ℕ) → own x i ≡ own y i → x ≡ y
    piece_agree i same = ap₂ (λ (k u : ℕ). record { kind = k; parent = u; octets = x.octets }) kinds (parents_agree false r q is) ∙ ap (λ (o : List ℕ). record { kind = q.kind; parent = q.parent; octets = o }) octets
      where
        by_kind : (b : Bool) → container r.kind ≡ b → x.octets ≡ y.octets
        by_kind true bears =
            no_octets bytes r bears ∙ sym (no_octets s q (bears_other bears))
        by_kind false leaf = sym (own_leaf x i leaf) ∙ same ∙ own_leaf y i (leaf_other leaf)

        octets : x.octets ≡ y.octets
        octets = by_kind (container r.kind) refl

-- Rows that agree, each over octets of its own.
module _ (bytes s : List ℕ) where
  -- their pieces have children of the same lengths
  children_agree : (rs qs : List Row) → agree false rs qs ≡ true → Within bytes rs → Within s qs → (k n : ℕ)
      → children_of k n (pieces_of bytes rs) ≡ children_of k n (pieces_of s qs)
  unfolding agree pieces_of children_of
  children_agree [] [] is mine theirs k n = refl
  children_agree [] (q ∷ qs) is mine theirs k n = let z : ◌≡◌ {A = ℕ} 0 1 = cc in absurd (omega arith)
  children_agree (r ∷ rs) [] is mine theirs k n = let z : ◌≡◌ {A = ℕ} 0 1 = cc in absurd (omega arith)
  children_agree (r ∷ rs) (q ∷ qs) is mine theirs k n =
      let both = (and-eq-true_iff (agrees false r q) (agree false rs qs)).0 is in
      let more = children_agree rs qs both.1 (λ p m. mine p (Memᴰ.tail m)) (λ p m. theirs p (Memᴰ.tail m)) in
      let whole = whole_agree bytes s r q both.0 (mine r (Memᴰ.head refl)) (theirs q (Memᴰ.head refl)) in
      ap₂ (λ (u w : ℕ). elim (eqb u k) [ true ↦ w | false ↦ 0 ] + children_of k (suc n) (pieces_of bytes rs)) (parents_agree false r q both.0)
      (ap (whole_of (piece_of bytes r)) (more n (suc n)) ∙ whole (children_of n (suc n) (pieces_of s qs)))
      ∙ ap (λ (m : ℕ). elim (eqb q.parent k) [ true ↦ whole_of (piece_of s q) (children_of n (suc n) (pieces_of s qs)) | false ↦ 0 ] + m) (more k (suc n))

  -- So if their assemblies are the same, their pieces are.
  pub agreed_pieces : (rs qs : List Row) → agree false rs qs ≡ true → Within bytes rs → Within s qs → (n : ℕ)
      → assembled n (pieces_of bytes rs) ≡ assembled n (pieces_of s qs) → pieces_of bytes rs ≡ pieces_of s qs
  unfolding agree pieces_of assembled
  agreed_pieces [] [] is mine theirs n same = refl
  agreed_pieces [] (q ∷ qs) is mine theirs n same = let z : ◌≡◌ {A = ℕ} 0 1 = cc in absurd (omega arith)
  agreed_pieces (r ∷ rs) [] is mine theirs n same = let z : ◌≡◌ {A = ℕ} 0 1 = cc in absurd (omega arith)
  agreed_pieces (r ∷ rs) (q ∷ qs) is mine theirs n same =
      let both = (and-eq-true_iff (agrees false r q) (agree false rs qs)).0 is in
      let lie : Within bytes rs = λ p m. mine p (Memᴰ.tail m) in
      let lie_other : Within s qs = λ p m. theirs p (Memᴰ.tail m) in
      let first = mine r (Memᴰ.head refl) in
      let first-other = theirs q (Memᴰ.head refl) in
      let i = children_of n (suc n) (pieces_of s qs) in
      let inner : children_of n (suc n) (pieces_of bytes rs) ≡ i = children_agree rs qs both.1 lie lie_other n (suc n) in
      let joined : own (piece_of bytes r) i ++ assembled (suc n) (pieces_of bytes rs) ≡ own (piece_of s q) i ++ assembled (suc n) (pieces_of s qs) =
      ap (λ (j : ℕ). own (piece_of bytes r) j ++ assembled (suc n) (pieces_of bytes rs)) (sym inner) ∙ same in
      let parts = parts_same _ _ _ _ (own_size bytes s r q both.0 first first-other i) joined in
      ap₂ (λ (p : Piece) (l : List Piece). p ∷ l) (piece_agree bytes s r q both.0 first first-other i parts.0)
      (agreed_pieces rs qs both.1 lie lie_other (suc n) parts.1)

  -- of two rows with the same piece, one is a leaf if the other is, and both point at the same octets
  leaves_alike : (r q : Row) → piece_of bytes r ≡ piece_of s q → container r.kind ≡ false
      → (container q.kind ≡ false) × (slice r.first (r.first + r.whole) bytes ≡ slice q.first (q.first + q.whole) s)
  leaves_alike r q is leaf =
      let other : container q.kind ≡ false = ap (λ (p : Piece). container p.kind) (sym is) ∙ leaf in
      (other, sym (leaf_octets bytes r leaf) ∙ ap (λ (p : Piece). p.octets) is ∙ leaf_octets s q other)

  piece_more : {x y : Piece} {xs ys : List Piece} → x ∷ xs ≡ y ∷ ys → (x ≡ y) × (xs ≡ ys)
  piece_more e = (cc e, cc e)

  -- Of rows that agree and show the same pieces, the leaves of one are right if the rows of the other are.
  pub agreed_right : (rs qs : List Row) → agree false rs qs ≡ true → pieces_of bytes rs ≡ pieces_of s qs → ((q : Row) → Memᴰ q qs → RightContent s q)
      → (r : Row) → Memᴰ r rs → container r.kind ≡ false → RightContent bytes r
  unfolding agree pieces_of
  agreed_right [] qs is same right r at leaf = absurd (Memᴰ.not-nil at)
  agreed_right (a ∷ rs) [] is same right r at leaf = let z : ◌≡◌ {A = ℕ} 0 1 = cc in absurd (omega arith)
  agreed_right (a ∷ rs) (q ∷ qs) is same right r at leaf =
      let both = (and-eq-true_iff (agrees false a q) (agree false rs qs)).0 is in
      let (piece, more) = piece_more same in
      ⊎_elim (λ here. rw here (first both.0 piece (right q (Memᴰ.head refl)) (rw here at leaf)))
      (λ n. agreed_right rs qs both.1 more (λ x m. right x (Memᴰ.tail m)) r n leaf) (Memᴰ.cases_cons at)
    where
      first : agrees false a q ≡ true → piece_of bytes a ≡ piece_of s q → RightContent s q → container a.kind ≡ false → RightContent bytes a
      first agreed piece own bare = content_right bytes s a q (leaves_alike a q piece bare).1 own (leaf_lengths bytes s a q agreed bare).1

  -- Conversely, rows that show the same pieces agree, if all are right that must be.
  module _ (short : length s ≤ longest) where
    row_agrees : (r q : Row) → piece_of bytes r ≡ piece_of s q → (container r.kind ≡ false → RightContent bytes r) → RightContent s q
        → (container r.kind ≡ false → r.first + r.whole ≤ length bytes) → (container q.kind ≡ false → q.first + q.whole ≤ length s)
        → agrees false r q ≡ true
    row_agrees r q is mine own lies lies-other =
        (and-eq-true_iff (eqb r.kind q.kind) (eqb r.parent q.parent && same_lengths r q)).1 (
          eq-eqb _ _ (ap (λ (p : Piece). p.kind) is),
          (and-eq-true_iff (eqb r.parent q.parent) (same_lengths r q)).1
              (eq-eqb _ _ (ap (λ (p : Piece). p.parent) is), by_kind (container r.kind) refl),
        )
      where
        by_kind : (b : Bool) → container r.kind ≡ b → same_lengths r q ≡ true
        by_kind true bears =
            let other : container q.kind ≡ true = ap (λ (p : Piece). container p.kind) (sym is) ∙ bears in
            ap (λ (b : Bool). b || (eqb r.whole q.whole && eqb (r.content - r.first) (q.content - q.first))) other
        by_kind false leaf =
            let (other, alike) = leaves_alike r q is leaf in
            let size = slice_size q.first (q.first + q.whole) s in
            let whole : r.whole ≡ q.whole = omega (arith, ap length alike, slice_size r.first (r.first + r.whole) bytes, size, lies leaf, lies-other other) in
            let far = content_same bytes s r q alike (omega (arith, size)) (mine leaf) own in
            ap (λ (b : Bool). b || (eqb r.whole q.whole && eqb (r.content - r.first) (q.content - q.first))) other
            ∙ (and-eq-true_iff (eqb r.whole q.whole) (eqb (r.content - r.first) (q.content - q.first))).1 (eq-eqb _ _ whole, eq-eqb _ _ far)

    pub pieces_agree : (rs qs : List Row) → pieces_of bytes rs ≡ pieces_of s qs → Within bytes rs → Within s qs
        → ((r : Row) → Memᴰ r rs → container r.kind ≡ false → RightContent bytes r) → ((q : Row) → Memᴰ q qs → RightContent s q)
        → agree false rs qs ≡ true
    unfolding agree pieces_of
    pieces_agree [] [] is lie lie_other mine right = refl
    pieces_agree [] (q ∷ qs) is lie lie_other mine right = absurd (omega (arith, ap length is))
    pieces_agree (r ∷ rs) [] is lie lie_other mine right = absurd (omega (arith, ap length is))
    pieces_agree (r ∷ rs) (q ∷ qs) is lie lie_other mine right =
        let (piece, more) = piece_more is in
        (and-eq-true_iff (agrees false r q) (agree false rs qs)).1 (
          row_agrees r q piece (mine r (Memᴰ.head refl)) (right q (Memᴰ.head refl)) (lie r (Memᴰ.head refl)) (lie_other q (Memᴰ.head refl)),
          pieces_agree rs qs more (λ x m. lie x (Memᴰ.tail m)) (λ x m. lie_other x (Memᴰ.tail m))
              (λ x m. mine x (Memᴰ.tail m)) (λ x m. right x (Memᴰ.tail m)),
        )
