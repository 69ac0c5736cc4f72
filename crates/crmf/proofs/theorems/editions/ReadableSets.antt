-- Theorem 4. The walk that reads every form decides every other walk: a walk that reads fewer forms answers the same, unless the trail has
-- an occurrence that may not be read. Then it breaks at the first of them. Assumes nothing.
use Prim.Native.Nat.{ℕ}
use native.Mathlib.Omega.{arith}
use mathlib.Core.Path.{◌≡◌, refl, sym, ◌∙◌, ap}
use mathlib.Core.Bool.{Bool, true, false, not}
use mathlib.Core.Logic.{◌⊎◌, inl, inr}
use mathlib.Core.List.Memᴰ
use mathlib.Core.List.{List, [], ◌∷◌, ◌++◌, append-nil, Memᴰ}
use mathlib.Core.Option.{Option, none, some}
use lib.Dec.{eqb}
use Rattle.der.specs.meaning.Tree.{Tree, element}
use Rattle.der.specs.meaning.Tree as tree
use Rattle.crmf.specs.steps.explain.Tally.{Tally}
use Rattle.std.specs.Prelude.{Some}
use Rattle.crmf.specs.meaning.Notation.{Mark, both, alone, mark_of, detail_of}
use Rattle.crmf.specs.meaning.Language.{readable, Occurrence, occurs}
use Rattle.crmf.specs.steps.explain.Walk.{line, find_line, closed, with_element, walk, trail, Walked, Passed, Broken}
use Rattle.crmf.proofs.theorems.explain.Passing.{inner_walk, walk_closed, walk_open, walk_nowhere, walk_unread, walk_inner_broken, walk_breaks, walk_next}
use Rattle.crmf.proofs.theorems.explain.WalkSteps.{trail_in, Way, lost, within, broken, onward, way, trail_end, trail_lost, trail_inside, trail_breaks, trail_on}
use Rattle.crmf.proofs.theorems.explain.EveryForm.{all, all_read, inner_passed_lem, inner_broken}

-- the first occurrence in a form of an edition that the test takes
unfoldable pub first_of : (ℕ → Bool) → List Occurrence → Option Occurrence
first_of f [] = none
first_of f (o ∷ os) = elim (f o.edition) [ true ↦ some o | false ↦ first_of f os ]

-- the editions whose own forms may not be read
abbrev pub unread : (ℕ → Bool) → ℕ → Bool
unread R = λ e. not (R e)

-- an occurrence that the test takes is the first
pub first_here : (f : ℕ → Bool) (o : Occurrence) (os : List Occurrence) → f o.edition ≡ true → first_of f (o ∷ os) ≡ some o
unfolding first_of
first_here f o os taken = rw (taken, first_of)

-- one that it doesn't take is passed over
pub first_later : (f : ℕ → Bool) (o : Occurrence) (os : List Occurrence) → f o.edition ≡ false → first_of f (o ∷ os) ≡ first_of f os
unfolding first_of
first_later f o os passed = rw (passed, first_of)

-- the first of two lists is the first list's, if it has one
pub first_left : (f : ℕ → Bool) (a b : List Occurrence) (o : Occurrence) → first_of f a ≡ some o → first_of f (a ++ b) ≡ some o
first_left f [] b o here = let z : ◌≡◌ {A = ℕ} 0 1 = unfold first_of in cc in absurd (omega arith)
first_left f (x ∷ a) b o here = go (f x.edition) refl (first_left f a b o)
  where
    go : (t : Bool) → f x.edition ≡ t → (first_of f a ≡ some o → first_of f (a ++ b) ≡ some o) → first_of f (x ∷ (a ++ b)) ≡ some o
    go true taken later = first_here f x (a ++ b) taken ∙ sym (first_here f x a taken) ∙ here
    go false passed later = first_later f x (a ++ b) passed ∙ later (sym (first_later f x a passed) ∙ here)

-- and otherwise the second's
pub first_right : (f : ℕ → Bool) (a b : List Occurrence) → first_of f a ≡ none → first_of f (a ++ b) ≡ first_of f b
first_right f [] b nowhere = refl
first_right f (x ∷ a) b nowhere = go (f x.edition) refl (first_right f a b)
  where
    go : (t : Bool) → f x.edition ≡ t → (first_of f a ≡ none → first_of f (a ++ b) ≡ first_of f b) → first_of f (x ∷ (a ++ b)) ≡ first_of f b
    go true taken later = let z : ◌≡◌ {A = ℕ} 0 1 = cc (first_here f x a taken) in absurd (omega arith)
    go false passed later = first_later f x (a ++ b) passed ∙ later (sym (first_later f x a passed) ∙ nowhere)

-- if there is no first, no member is taken
pub first_none : (f : ℕ → Bool) (os : List Occurrence) (o : Occurrence) → first_of f os ≡ none → Memᴰ o os → f o.edition ≡ false
first_none f [] o clear member = absurd (Memᴰ.not-nil member)
first_none f (x ∷ os) o clear member = go (f x.edition) refl (Memᴰ.cases_cons member) (first_none f os o)
  where
    go : (b : Bool) → f x.edition ≡ b → (o ≡ x) ⊎ Memᴰ o os
        → (first_of f os ≡ none → Memᴰ o os → f o.edition ≡ false) → f o.edition ≡ false
    go true taken (inl same) later = let z : ◌≡◌ {A = ℕ} 0 1 = cc (first_here f x os taken) in absurd (omega arith)
    go true taken (inr after) later = let z : ◌≡◌ {A = ℕ} 0 1 = cc (first_here f x os taken) in absurd (omega arith)
    go false passed (inl same) later = rw same passed
    go false passed (inr after) later = later (sym (first_later f x os passed) ∙ clear) after

-- the first is taken, and no member before it
pub first_split : (f : ℕ → Bool) (os : List Occurrence) (o : Occurrence) → first_of f os ≡ some o
    → (before after : List Occurrence) × (os ≡ before ++ (o ∷ after)) × (first_of f before ≡ none) × (f o.edition ≡ true)
unfolding first_of
first_split f [] o here = let z : ◌≡◌ {A = ℕ} 0 1 = cc in absurd (omega arith)
first_split f (x ∷ os) o here = go (f x.edition) refl (first_split f os o)
  where
    go : (b : Bool) → f x.edition ≡ b
        → (first_of f os ≡ some o → (before after : List Occurrence) × (os ≡ before ++ (o ∷ after)) × (first_of f before ≡ none) × (f o.edition ≡ true))
        → (before after : List Occurrence) × (x ∷ os ≡ before ++ (o ∷ after)) × (first_of f before ≡ none) × (f o.edition ≡ true)
    go true taken later =
        let same : x ≡ o = cc (first_here f x os taken) in
        ([], os, ap (λ (y : Occurrence). y ∷ os) same, refl, rw same at taken)
    go false passed later =
        let (before, after, split, clear, taken) = later (sym (first_later f x os passed) ∙ here) in
        (x ∷ before, after, ap (λ (l : List Occurrence). x ∷ l) split, first_later f x before passed ∙ clear, taken)

-- How a walk w follows the walk u that reads every form, by the first occurrence of the trail that w may not read: they answer the same if
-- there is none, and otherwise w breaks at its place, with the detail of its form.
abbrev pub Follows : Walked → Walked → Option Occurrence → Type 0
Follows w u none = w ≡ u
Follows w u (some o) = (r : Tally) × (w ≡ Broken o.place o.detail r)

-- a form that may be read gives no occurrence that may not
occurs_read : (R : ℕ → Bool) (m : Mark) (p : ℕ) → readable R m ≡ true → first_of (unread R) (occurs m p) ≡ none
unfolding first_of
occurs_read R both p read = refl
occurs_read R (alone e d detail) p read = rw (read, first_of)

-- and one that may not gives itself
occurs_unread : (R : ℕ → Bool) (m : Mark) (p : ℕ) → readable R m ≡ false
    → (o : Occurrence) × (first_of (unread R) (occurs m p) ≡ some o) × (o.place ≡ p)
    × (o.detail ≡ detail_of m)
unfolding first_of
occurs_unread R both p no_read = let z : ◌≡◌ {A = ℕ} 0 1 = cc in absurd (omega arith)
occurs_unread R (alone e d detail) p no_read = (record { place = p; edition = e; difference = d; detail = detail }, rw (no_read, first_of), refl, refl)

-- inside an element, from the elements inside it
follows_within : (R : ℕ → Bool) (s : Tally) (j place : ℕ) (t : Tree)
    → Follows (walk R s j place t) (walk all s j place t) (first_of (unread R) (trail j t))
    → Follows (inner_walk R s j place t) (inner_walk all s j place t) (first_of (unread R) (trail_in j t))
unfolding first_of inner_walk
follows_within R s j place t inner = go (eqb j 0)
  where
    go : (b : Bool)
        → Follows (elim b [ true ↦ Passed s | false ↦ walk R s j place t ]) (elim b [ true ↦ Passed s | false ↦ walk all s j place t ])
        (first_of (unread R) (elim b [ true ↦ [] | false ↦ trail j t ]))
    go true = refl
    go false = inner

-- at an element that fits a line: the form itself, then the inside, then the rest of the trail
follows_element : (R : ℕ → Bool) (s : Tally) (k n around id first whole : ℕ) (c : List ℕ) (inside rest : Tree) (tail : List Occurrence)
    → find_line k id ≡ Some n
    → trail k (element id first whole c inside rest) ≡ occurs (mark_of (line n).marking c) first ++ (trail_in (line n).inside inside ++ tail)
    → Follows (inner_walk R (with_element (line n) c first whole s) (line n).inside first inside) (inner_walk all (with_element (line n) c first whole s) (line n).inside first inside)
    (first_of (unread R) (trail_in (line n).inside inside))
    → (readable R (mark_of (line n).marking c) ≡ true
    → inner_walk R (with_element (line n) c first whole s) (line n).inside first inside ≡ inner_walk all (with_element (line n) c first whole s) (line n).inside first inside
    → Follows (walk R s k around (element id first whole c inside rest)) (walk all s k around (element id first whole c inside rest))
    (first_of (unread R) tail))
    → Follows (walk R s k around (element id first whole c inside rest)) (walk all s k around (element id first whole c inside rest))
    (first_of (unread R) (trail k (element id first whole c inside rest)))
follows_element R s k n around id first whole c inside rest tail found split inner after = rw split (by_mark (readable R (mark_of (line n).marking c)) refl)
  where
    t : Tree
    t = element id first whole c inside rest

    m : Tally
    m = with_element (line n) c first whole s

    here : List Occurrence
    here = occurs (mark_of (line n).marking c) first

    within' : List Occurrence
    within' = trail_in (line n).inside inside

    by_inner : readable R (mark_of (line n).marking c) ≡ true → (x : Option Occurrence) → first_of (unread R) within' ≡ x
        → Follows (inner_walk R m (line n).inside first inside) (inner_walk all m (line n).inside first inside) x
        → Follows (walk R s k around t) (walk all s k around t) (first_of (unread R) (within' ++ tail))
    by_inner read none clear alike = rw (first_right (unread R) within' tail clear) (after read alike)
    by_inner read (some o) stop breaks =
        rw (first_left (unread R) within' tail o stop)
        (breaks.0, walk_inner_broken R s k around id first whole c inside rest n o.place _ breaks.0 found read breaks.1)

    by_mark : (b : Bool) → readable R (mark_of (line n).marking c) ≡ b
        → Follows (walk R s k around t) (walk all s k around t) (first_of (unread R) (here ++ (within' ++ tail)))
    by_mark true read =
        rw (first_right (unread R) here (within' ++ tail) (occurs_read R (mark_of (line n).marking c) first read))
        (by_inner read (first_of (unread R) within') refl inner)
    by_mark false no_read =
        let (o, stop, place, detail) = occurs_unread R (mark_of (line n).marking c) first no_read in
        rw (first_left (unread R) here (within' ++ tail) o stop, place, detail)
        (s, walk_unread R s k around id first whole c inside rest n found no_read)

-- The strong form. A walk with any set of readable forms answers as the walk that reads every form does, whether that passes or breaks, if
-- every occurrence of the trail may be read; otherwise it breaks at the first that may not.
pub own_walk_lem : (R : ℕ → Bool) (s : Tally) (k around : ℕ) (t : Tree)
    → Follows (walk R s k around t) (walk all s k around t) (first_of (unread R) (trail k t))
unfolding first_of
own_walk_lem R s k around tree.none = rw trail_end (go (closed k) refl)
  where
    go : (b : Bool) → closed k ≡ b → Follows (walk R s k around tree.none) (walk all s k around tree.none) (first_of (unread R) [])
    go true shut = walk_closed R s k around shut ∙ sym (walk_closed all s k around shut)
    go false gap = walk_open R s k around gap ∙ sym (walk_open all s k around gap)
own_walk_lem R s k around (element id first whole c inside rest) =
    go (way k id c inside) (λ m j. own_walk_lem R m j first inside) (λ r j. own_walk_lem R r j around rest)
  where
    t : Tree
    t = element id first whole c inside rest

    go : Way k id c inside
        → ((m : Tally) (j : ℕ) → Follows (walk R m j first inside) (walk all m j first inside) (first_of (unread R) (trail j inside)))
        → ((r : Tally) (j : ℕ) → Follows (walk R r j around rest) (walk all r j around rest) (first_of (unread R) (trail j rest)))
        → Follows (walk R s k around t) (walk all s k around t) (first_of (unread R) (trail k t))
    go (lost missing) inner later =
        rw (trail_lost k id first whole c inside rest missing)
        (walk_nowhere R s k around id first whole c inside rest missing ∙ sym (walk_nowhere all s k around id first whole c inside rest missing))
    go (within n found stops) inner later =
        let m = with_element (line n) c first whole s in
        let j = (line n).inside in
        let (q, d, r, e) = inner_broken m j first inside stops in
        follows_element R s k n around id first whole c inside rest [] found
        (rw append-nil (trail_inside k n id first whole c inside rest found stops))
        (follows_within R m j first inside (inner m j))
        (λ read alike. walk_inner_broken R s k around id first whole c inside rest n q d r found read (alike ∙ e)
        ∙ sym (walk_inner_broken all s k around id first whole c inside rest n q d r found (all_read (mark_of (line n).marking c)) e))
    go (broken n d found fine breaks) inner later =
        let m = with_element (line n) c first whole s in
        let j = (line n).inside in
        let (r, e) = inner_passed_lem m j first inside fine in
        follows_element R s k n around id first whole c inside rest [] found
        (rw append-nil (trail_breaks k n id first whole c inside rest found d fine breaks))
        (follows_within R m j first inside (inner m j))
        (λ read alike. walk_breaks R s k around id first whole c inside rest n d r found read (alike ∙ e) breaks
        ∙ sym (walk_breaks all s k around id first whole c inside rest n d r found (all_read (mark_of (line n).marking c)) e breaks))
    go (onward n next found fine on) inner later =
        let m = with_element (line n) c first whole s in
        let j = (line n).inside in
        let (r, e) = inner_passed_lem m j first inside fine in
        follows_element R s k n around id first whole c inside rest (trail next rest) found
        (trail_on k n id first whole c inside rest found next fine on)
        (follows_within R m j first inside (inner m j))
        (λ read alike. rw (
          walk_next R s k around id first whole c inside rest n next r found read (alike ∙ e) on,
          walk_next all s k around id first whole c inside rest n next r found (all_read (mark_of (line n).marking c)) e on,
        ) (later r next))

-- if a walk passes, the walk that reads every form answers the same
pub passed_follows : (w u : Walked) (x : Option Occurrence) (r : Tally) → Follows w u x → w ≡ Passed r → (x ≡ none) × (u ≡ Passed r)
passed_follows w u none r alike passed = (refl, sym alike ∙ passed)
passed_follows w u (some o) r breaks passed = let z : ◌≡◌ {A = ℕ} 0 1 = cc breaks.1 in absurd (omega arith)

-- A walk that passes met no occurrence that it may not read.
pub passed_reads : (R : ℕ → Bool) (s r : Tally) (k around : ℕ) (t : Tree) → walk R s k around t ≡ Passed r → first_of (unread R) (trail k t) ≡ none
passed_reads R s r k around t passed =
    (passed_follows (walk R s k around t) (walk all s k around t) (first_of (unread R) (trail k t)) r (own_walk_lem R s k around t) passed).0

-- Theorem 4: if a walk with one set of readable forms passes, a walk with another set answers the same if it may read every occurrence of
-- the trail; otherwise it stops exactly at the first that it may not read.
pub two_sets : (R Q : ℕ → Bool) (s r : Tally) (k around : ℕ) (t : Tree) → walk R s k around t ≡ Passed r
    → Follows (walk Q s k around t) (Passed r) (first_of (unread Q) (trail k t))
two_sets R Q s r k around t passed =
    let whole = passed_follows (walk R s k around t) (walk all s k around t) (first_of (unread R) (trail k t)) r (own_walk_lem R s k around t) passed in
    rw whole.1 at (own_walk_lem Q s k around t)
