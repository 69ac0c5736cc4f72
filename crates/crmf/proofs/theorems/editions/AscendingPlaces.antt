-- The forms of one edition alone that the walk meets in well-formed elements stand in the order of their places, and so do the occurrences
-- that the grammar's meaning gives: the first of them has the least place. Assumes nothing.
use Prim.Native.Nat.{ℕ, zero, suc, ◌+◌, ◌≤◌, ◌<◌}
use native.Mathlib.Omega.{arith}
use mathlib.Core.Path.{◌≡◌, refl, sym, ◌∙◌, ap}
use mathlib.Core.Bool.{Bool, true, false}
use mathlib.Core.Logic.{◌⊎◌, inl, inr}
use mathlib.Core.List.Memᴰ
use mathlib.Core.List.{List, [], ◌∷◌, ◌++◌, append-nil, Memᴰ}
use mathlib.Core.Option.{some}
use lib.Dec.{eqb}
use lib.ListN.{length, length-append}
use Rattle.der.specs.meaning.Identifier.{constructed}
use Rattle.der.specs.meaning.Tree.{Tree, none, element, header, encode, Formed, WellFormed}
use Rattle.der.proofs.Laws.{header_some, encode_none, encode_length, well_formed_none, well_formed_deep, well_formed_element}
use Rattle.crmf.specs.meaning.Notation.{Mark, both, alone, mark_of, Inside, Parts}
use Rattle.crmf.specs.meaning.Language.{Matches, end, pass, take, choose, Within, unseen, parts, Occurrence, occurs, occurrences, occurrences_in}
use Rattle.crmf.specs.steps.explain.Walk.{line, trail}
use Rattle.crmf.proofs.theorems.grammar.Choices.{never_both}
use Rattle.crmf.proofs.theorems.explain.WalkSteps.{trail_in, Way, lost, within, broken, onward, way, trail_end, trail_lost, trail_inside, trail_breaks, trail_on}
use Rattle.crmf.proofs.theorems.editions.ReadableSets.{first_of, first_here, first_later}

-- The places ascend strictly, from a first one on and before another.
abbrev pub Ascends : ℕ → ℕ → List Occurrence → Type 0
Ascends low high [] = Unit {0}
Ascends low high (o ∷ os) = (low ≤ o.place) × (o.place < high) × Ascends (suc o.place) high os

-- they ascend in a wider range too
ascends_wider : (low high a b : ℕ) (os : List Occurrence) → a ≤ low → high ≤ b → Ascends low high os → Ascends a b os
ascends_wider low high a b [] down up order = tt
ascends_wider low high a b (o ∷ os) down up order =
    (omega arith, omega arith, ascends_wider (suc o.place) high (suc o.place) b os (omega arith) up order.2)

-- and in two ranges, one after the other
ascends_append : (low mid high : ℕ) (a b : List Occurrence) → low ≤ mid → mid ≤ high → Ascends low mid a → Ascends mid high b
    → Ascends low high (a ++ b)
ascends_append low mid high [] b down up left right = ascends_wider mid high low high b down (omega arith) right
ascends_append low mid high (o ∷ a) b down up left right =
    (left.0, omega arith, ascends_append (suc o.place) mid high a b (omega arith) up left.2 right)

-- The first has the least place.
pub ascends_least : (low high : ℕ) (o p : Occurrence) (os : List Occurrence) → Ascends low high (o ∷ os) → Memᴰ p os → o.place < p.place
ascends_least low high o p [] order member = absurd (Memᴰ.not-nil member)
ascends_least low high o p (x ∷ os) order member = go (Memᴰ.cases_cons member) (ascends_least low high o p os)
  where
    go : (p ≡ x) ⊎ Memᴰ p os → (Ascends low high (o ∷ os) → Memᴰ p os → o.place < p.place) → o.place < p.place
    go (inl same) later = rw same order.2.0
    go (inr after) later =
        later (order.0, order.1, ascends_wider (suc x.place) high (suc o.place) high os (omega arith) (omega arith) order.2.2) after

-- So the first of the editions that a test takes has the least place of them.
pub first_least : (f : ℕ → Bool) (low high : ℕ) (os : List Occurrence) (o p : Occurrence) → Ascends low high os → first_of f os ≡ some o
    → Memᴰ p os → f p.edition ≡ true → o.place ≤ p.place
first_least f low high [] o p order here member taken = absurd (Memᴰ.not-nil member)
first_least f low high (x ∷ os) o p order here member taken =
    go (f x.edition) refl (Memᴰ.cases_cons member) (first_least f (suc x.place) high os o p order.2)
  where
    go : (b : Bool) → f x.edition ≡ b → (p ≡ x) ⊎ Memᴰ p os
        → (first_of f os ≡ some o → Memᴰ p os → f p.edition ≡ true → o.place ≤ p.place) → o.place ≤ p.place
    go true own (inl same) later =
        let first : x ≡ o = cc (first_here f x os own) in
        rw (← first, same) (omega arith)
    go true own (inr after) later =
        let first : x ≡ o = cc (first_here f x os own) in
        rw (← first) (omega (arith, ascends_least low high x p os order after))
    go false passed (inl same) later = never_both (f x.edition) (rw same at taken) passed
    go false passed (inr after) later = later (sym (first_later f x os passed) ∙ here) after taken

-- the occurrence that a mark gives has the place of its element
occurs_ascend : (m : Mark) (p : ℕ) → Ascends p (suc p) (occurs m p)
occurs_ascend both p = tt
occurs_ascend (alone e d detail) p = (omega arith, omega arith, tt)

module _ (left place id first whole : ℕ) (c : List ℕ) (inside rest : Tree) (formed : WellFormed (suc left) place (element id first whole c inside rest)) where
  -- the element by itself is well-formed
  own : Formed place id first whole c inside (WellFormed left (place + length (header id c)) inside)
  own = ((well_formed_element left place id first whole c inside rest).0 formed).0

  -- the elements inside a well-formed element are well-formed after its header, and fit into its content
  formed_inside : WellFormed left (place + length (header id c)) inside × (length (encode inside) ≤ length c)
  formed_inside = go (constructed id) refl
    where
      go : (b : Bool) → constructed id ≡ b → WellFormed left (place + length (header id c)) inside × (length (encode inside) ≤ length c)
      go true made = let (filled, inner) = own.filled made in (inner, rw (ap length filled) (omega arith))
      go false plain = let bare = (own.valued plain).0 in (rw bare (well_formed_none left (place + length (header id c))), rw bare (omega (arith, ap length encode_none)))

  -- places at the element, inside it and after it ascend
  element_ascends : (here inner later : List Occurrence) → Ascends first (suc first) here
      → Ascends (place + length (header id c)) (place + length (header id c) + length (encode inside)) inner
      → Ascends (place + whole) (place + whole + length (encode rest)) later
      → Ascends place (place + length (encode (element id first whole c inside rest))) (here ++ (inner ++ later))
  element_ascends here inner later at-it in_it after =
      let h = length (header id c) in
      let sized = own.sized in
      let size = length-append (header id c) c in
      let octet = header_some id c in
      let long = encode_length id first whole c inside rest in
      let fits = formed_inside.1 in
      let at = own.placed in
      let ends = place + length (encode (element id first whole c inside rest)) in
      ascends_append place (place + h) ends here (inner ++ later) (omega arith) (omega arith)
      (ascends_wider first (suc first) place (place + h) here (omega arith) (omega arith) at-it)
      (ascends_append (place + h) (place + whole) ends inner later (omega arith) (omega arith)
      (ascends_wider (place + h) (place + h + length (encode inside)) (place + h) (place + whole) inner (omega arith) (omega arith) in_it)
      (ascends_wider (place + whole) (place + whole + length (encode rest)) (place + whole) ends later (omega arith) (omega arith) after))

-- inside an element, from the elements inside it
ascends_within : (low high j : ℕ) (t : Tree) → Ascends low high (trail j t) → Ascends low high (trail_in j t)
ascends_within low high j t inner = go (eqb j 0)
  where
    go : (b : Bool) → Ascends low high (elim b [ true ↦ [] | false ↦ trail j t ])
    go true = tt
    go false = inner

-- The places of a trail ascend strictly, from the first place of the elements on and before their end.
pub trail_ascends : (left place k : ℕ) (t : Tree) → WellFormed left place t → Ascends place (place + length (encode t)) (trail k t)
trail_ascends left place k none formed = rw trail_end tt
trail_ascends zero place k (element id first whole c inside rest) formed = absurd (well_formed_deep place id first whole c inside rest formed)
trail_ascends (suc left) place k (element id first whole c inside rest) formed =
    go (way k id c inside)
    (λ j. trail_ascends left (place + length (header id c)) j inside (formed_inside left place id first whole c inside rest formed).0)
    (λ j. trail_ascends (suc left) (place + whole) j rest ((well_formed_element left place id first whole c inside rest).0 formed).1)
  where
    h : ℕ
    h = length (header id c)

    t : Tree
    t = element id first whole c inside rest

    split : (n : ℕ) (later : List Occurrence) → Ascends (place + h) (place + h + length (encode inside)) (trail (line n).inside inside)
        → Ascends (place + whole) (place + whole + length (encode rest)) later
        → Ascends place (place + length (encode t)) (occurs (mark_of (line n).marking c) first ++ (trail_in (line n).inside inside ++ later))
    split n later inner after =
        let j = (line n).inside in
        element_ascends left place id first whole c inside rest formed (occurs (mark_of (line n).marking c) first) (trail_in j inside) later
        (occurs_ascend (mark_of (line n).marking c) first) (ascends_within (place + h) (place + h + length (encode inside)) j inside inner) after

    go : Way k id c inside → ((j : ℕ) → Ascends (place + h) (place + h + length (encode inside)) (trail j inside))
        → ((j : ℕ) → Ascends (place + whole) (place + whole + length (encode rest)) (trail j rest))
        → Ascends place (place + length (encode t)) (trail k t)
    go (lost missing) inner later = rw (trail_lost k id first whole c inside rest missing) tt
    go (within n found stops) inner later =
        rw (trail_inside k n id first whole c inside rest found stops) (rw append-nil at (split n [] (inner (line n).inside) tt))
    go (broken n d found fine breaks) inner later =
        rw (trail_breaks k n id first whole c inside rest found d fine breaks) (rw append-nil at (split n [] (inner (line n).inside) tt))
    go (onward n next found fine on) inner later =
        rw (trail_on k n id first whole c inside rest found next fine on) (split n (trail next rest) (inner (line n).inside) (later next))

-- places after an element ascend from the element on
after_ascends : (left place id first whole : ℕ) (c : List ℕ) (inside rest : Tree) (later : List Occurrence)
    → WellFormed (suc left) place (element id first whole c inside rest) → Ascends (place + whole) (place + whole + length (encode rest)) later
    → Ascends place (place + length (encode (element id first whole c inside rest))) later
after_ascends left place id first whole c inside rest later formed after =
    element_ascends left place id first whole c inside rest formed [] [] later tt tt after

mutual
  unfolding occurrences

  -- The places of the occurrences that the grammar's meaning gives ascend likewise.
  pub occurrences_ascend : {R : ℕ → Bool} {ps : Parts} {t : Tree} (m : Matches R ps t) (left place : ℕ) → WellFormed left place t
      → Ascends place (place + length (encode t)) (occurrences m)
  occurrences_ascend end left place formed = tt
  occurrences_ascend (pass ok m) left place formed = occurrences_ascend m left place formed
  occurrences_ascend (take f among fits read kept w m) zero place formed = absurd (well_formed_deep _ _ _ _ _ _ _ formed)
  occurrences_ascend (take {id = id} {first = first} {whole = whole} {c = c} {inside = inside} {rest = rest} f among fits read kept w m) (suc left) place formed =
      element_ascends left place id first whole c inside rest formed (occurs (mark_of f.marking c) first) (occurrences_in w) (occurrences m)
      (occurs_ascend (mark_of f.marking c) first)
      (occurrences_in_ascend w left (place + length (header id c)) (formed_inside left place id first whole c inside rest formed).0)
      (occurrences_ascend m (suc left) (place + whole) ((well_formed_element left place id first whole c inside rest).0 formed).1)
  occurrences_ascend (choose n chosen m) zero place formed = absurd (well_formed_deep _ _ _ _ _ _ _ formed)
  occurrences_ascend (choose {id = id} {first = first} {whole = whole} {c = c} {inside = inside} {rest = rest} n chosen m) (suc left) place formed =
      after_ascends left place id first whole c inside rest (occurrences m) formed (occurrences_ascend m (suc left) (place + whole) ((well_formed_element left place id first whole c inside rest).0 formed).1)

  -- so do those inside an element
  pub occurrences_in_ascend : {R : ℕ → Bool} {i : Inside} {t : Tree} (w : Within R i t) (left place : ℕ) → WellFormed left place t
      → Ascends place (place + length (encode t)) (occurrences_in w)
  occurrences_in_ascend unseen left place formed = tt
  occurrences_in_ascend (parts m) left place formed = occurrences_ascend m left place formed
