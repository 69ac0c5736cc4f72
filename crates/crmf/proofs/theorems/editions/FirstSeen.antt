-- What the walk that reads every form has met of each edition's own forms: what was met before it, or else the first of its trail. Assumes nothing.
use Prim.Native.Nat.{ℕ}
use native.Mathlib.Omega.{arith}
use mathlib.Core.Path.{◌≡◌, refl, sym, ◌∙◌, ap}
use mathlib.Core.Bool.{Bool, true, false, ◌&&◌}
use mathlib.Core.List.{List, [], ◌∷◌, ◌++◌, append_assoc}
use mathlib.Core.Option.{Option, none, some}
use lib.Dec.{eqb}
use borrow.Author.Tests.{eqb-true}
use Rattle.der.specs.meaning.Tree.{Tree, element}
use Rattle.der.specs.meaning.Tree as tree
pub use Rattle.crmf.specs.meaning.Edition.{Edition, first_edition, second_edition}
use Rattle.crmf.specs.steps.explain.Tally.{Tally}
pub use Rattle.crmf.specs.meaning.Edition.{Edition, first_edition, second_edition}
use Rattle.crmf.specs.meaning.Notation.{Mark, both, alone, mark_of}
use Rattle.crmf.specs.meaning.Language.{Occurrence, occurs}
use Rattle.crmf.specs.steps.grammar.Lines.{Line}
use Rattle.crmf.specs.meaning.Rows.{long_id}
use Rattle.crmf.specs.steps.explain.Walk.{line, closed, with_long_id, with_form, with_element, walk, trail, Walked, Passed, Broken}
use Rattle.crmf.proofs.theorems.explain.Passing.{inner_walk, walk_closed, walk_open, walk_nowhere, walk_inner_broken, walk_breaks, walk_next}
use Rattle.crmf.proofs.theorems.explain.WalkSteps.{trail_in, Way, lost, within, broken, onward, way, trail_end, trail_lost, trail_inside, trail_breaks, trail_on}
use Rattle.crmf.proofs.theorems.explain.EveryForm.{all, all_read, inner_passed_lem, inner_broken}
use Rattle.crmf.proofs.theorems.editions.ReadableSets.{first_of, first_here, first_later, first_left, first_right}
use Rattle.crmf.proofs.theorems.editions.FairMarks.{line_fair, fair_all, fair_first, fair_append, fair_occurs, fair_within, trail_fair}

-- the first form of an edition alone that was met: its difference (0: none) and its place
abbrev pub first_seen : ℕ → Tally → ℕ × ℕ
first_seen e s = elim (eqb e 1) [ true ↦ (s.one.number, s.one.place) | false ↦ (s.two.number, s.two.place) ]

-- the difference and place of an occurrence, or what was known
abbrev pub first_or : ℕ × ℕ → Option Occurrence → ℕ × ℕ
first_or h none = h
first_or h (some o) = (o.difference, o.place)

-- what is known of an edition after some occurrences: what was known before them, or else the first of them that is of the edition
unfoldable pub after : ℕ → ℕ × ℕ → List Occurrence → ℕ × ℕ
after e h os = elim (eqb h.0 0) [ false ↦ h | true ↦ first_or h (first_of (λ x. eqb x e) os) ]

-- it stays if something was known
pub after_known : (e : ℕ) (h : ℕ × ℕ) (os : List Occurrence) → eqb h.0 0 ≡ false → after e h os ≡ h
unfolding after
after_known e h os known = rw (known, after)

-- if nothing was known, it is the first of the edition
pub after_unknown : (e : ℕ) (h : ℕ × ℕ) (os : List Occurrence) → eqb h.0 0 ≡ true → after e h os ≡ first_or h (first_of (λ x. eqb x e) os)
unfolding after
after_unknown e h os free = rw (free, after)

-- it stays if nothing occurs
pub after_none : (e : ℕ) (h : ℕ × ℕ) → after e h [] ≡ h
unfolding after first_of
after_none e h = go (eqb h.0 0)
  where
    go : (b : Bool) → (elim b as (λ x. ℕ × ℕ) [ false ↦ h | true ↦ h ]) ≡ h
    go true = refl
    go false = refl

-- the first of a trail's occurrences has a difference that is not 0
pub first_fair : (f : ℕ → Bool) (os : List Occurrence) (o : Occurrence) → fair_all os ≡ true → first_of f os ≡ some o → eqb o.difference 0 ≡ false
unfolding first_of
first_fair f [] o good here = let z : ◌≡◌ {A = ℕ} 0 1 = cc in absurd (omega arith)
first_fair f (x ∷ os) o good here = go (f x.edition) refl (first_fair f os o)
  where
    go : (b : Bool) → f x.edition ≡ b → (fair_all os ≡ true → first_of f os ≡ some o → eqb o.difference 0 ≡ false)
        → eqb o.difference 0 ≡ false
    go true taken later =
        let same : x ≡ o = cc (first_here f x os taken) in
        rw (← same) (fair_first x os good).1
    go false passed later = later (fair_first x os good).2 (sym (first_later f x os passed) ∙ here)

-- after occurrences and then others
pub after_append : (e : ℕ) (h : ℕ × ℕ) (a b : List Occurrence) → fair_all a ≡ true → after e h (a ++ b) ≡ after e (after e h a) b
after_append e h a b good = by_known (eqb h.0 0) refl
  where
    f : ℕ → Bool
    f = λ x. eqb x e

    by_first : (x : Option Occurrence) → first_of f a ≡ x → eqb h.0 0 ≡ true → after e h (a ++ b) ≡ after e (after e h a) b
    by_first none clear free = rw (after_unknown e h a free, clear, after_unknown e h b free, after_unknown e h (a ++ b) free, first_right f a b clear)
    by_first (some o) here free =
        rw (after_unknown e h a free, here, after_unknown e h (a ++ b) free, first_left f a b o here)
        (sym (after_known e (o.difference, o.place) b (first_fair f a o good here)))

    by_known : (k : Bool) → eqb h.0 0 ≡ k → after e h (a ++ b) ≡ after e (after e h a) b
    by_known false known = rw (after_known e h a known, after_known e h b known, after_known e h (a ++ b) known)
    by_known true free = by_first (first_of f a) refl free

-- what is noted of the first edition, by the tests
noted_first : (a b c : Bool) (see : Tally → ℕ × ℕ) (s n m : Tally) (o : Occurrence) → see n ≡ (o.difference, o.place) → see m ≡ see s
    → see (elim (a && b) [ true ↦ n | false ↦ elim c [ true ↦ m | false ↦ s ] ])
    ≡ (elim b [ false ↦ see s | true ↦ first_or (see s) (elim a [ true ↦ some o | false ↦ none ]) ])
noted_first true true c see s n m o new old = new
noted_first true false true see s n m o new old = old
noted_first true false false see s n m o new old = refl
noted_first false true true see s n m o new old = old
noted_first false true false see s n m o new old = refl
noted_first false false true see s n m o new old = old
noted_first false false false see s n m o new old = refl

-- and of the second
noted_second : (a b c d : Bool) (see : Tally → ℕ × ℕ) (s n m : Tally) (o : Occurrence) → (a ≡ true → c ≡ false) → see n ≡ see s
    → see m ≡ (o.difference, o.place)
    → see (elim (a && b) [ true ↦ n | false ↦ elim (c && d) [ true ↦ m | false ↦ s ] ])
    ≡ (elim d [ false ↦ see s | true ↦ first_or (see s) (elim c [ true ↦ some o | false ↦ none ]) ])
noted_second true b true d see s n m o apart old new = let z : ◌≡◌ {A = ℕ} 0 1 = cc (apart refl) in absurd (omega arith)
noted_second true true false true see s n m o apart old new = old
noted_second true true false false see s n m o apart old new = old
noted_second true false false true see s n m o apart old new = refl
noted_second true false false false see s n m o apart old new = refl
noted_second false b true true see s n m o apart old new = new
noted_second false b true false see s n m o apart old new = refl
noted_second false b false true see s n m o apart old new = refl
noted_second false b false false see s n m o apart old new = refl

-- A long certReqId leaves the forms that were met.
lengthy_seen : {e : ℕ} → Edition e → (kind p w : ℕ) (s : Tally) → first_seen e (with_long_id kind p w s) ≡ first_seen e s
unfolding with_long_id
lengthy_seen ed kind p w s = go ed (long_id kind w && eqb s.long.whole 0) refl
  where
    go : {e : ℕ} → Edition e → (b : Bool) → (long_id kind w && eqb s.long.whole 0) ≡ b → first_seen e (with_long_id kind p w s) ≡ first_seen e s
    go first_edition true t = rw (with_long_id, t)
    go first_edition false t = rw (with_long_id, t)
    go second_edition true t = rw (with_long_id, t)
    go second_edition false t = rw (with_long_id, t)

-- An element's form is noted as the first of its edition, if none was known.
pub met_seen : {e : ℕ} → Edition e → (x : Line) (c : List ℕ) (p w : ℕ) (s : Tally) → first_seen e (with_element x c p w s) ≡ after e (first_seen e s) (occurs (mark_of x.marking c) p)
unfolding with_element with_form after first_of
met_seen {e} ed x c p w s = lengthy_seen ed x.kind p w (with_form (mark_of x.marking c) p s) ∙ go (mark_of x.marking c) ed
  where
    apart : (f : ℕ) → eqb f 1 ≡ true → eqb f 2 ≡ false
    apart f one = rw (eqb-true f 1 one)

    go : {e : ℕ} (m : Mark) → Edition e → first_seen e (with_form m p s) ≡ after e (first_seen e s) (occurs m p)
    go both first_edition = sym (after_none 1 (first_seen 1 s))
    go both second_edition = sym (after_none 2 (first_seen 2 s))
    go (alone f d detail) first_edition =
        noted_first (eqb f 1) (eqb s.one.number 0) (eqb f 2 && eqb s.two.number 0) (first_seen 1) s _ _ (record { place = p; edition = f; difference = d; detail = detail }) refl refl
    go (alone f d detail) second_edition =
        noted_second (eqb f 1) (eqb s.one.number 0) (eqb f 2) (eqb s.two.number 0) (first_seen 2) s _ _ (record { place = p; edition = f; difference = d; detail = detail })
        (apart f) refl refl

-- what a walk has met
abbrev pub seen_of : Walked → Tally
seen_of (Passed r) = r
seen_of (Broken q d r) = r

-- inside an element, from the elements inside it
seen_within : (e : ℕ) (s : Tally) (j place : ℕ) (t : Tree)
    → first_seen e (seen_of (walk all s j place t)) ≡ after e (first_seen e s) (trail j t)
    → first_seen e (seen_of (inner_walk all s j place t)) ≡ after e (first_seen e s) (trail_in j t)
unfolding inner_walk
seen_within e s j place t inner = go (eqb j 0)
  where
    go : (b : Bool) → first_seen e (seen_of (elim b [ true ↦ Passed s | false ↦ walk all s j place t ]))
        ≡ after e (first_seen e s) (elim b [ true ↦ [] | false ↦ trail j t ])
    go true = sym (after_none e (first_seen e s))
    go false = inner

-- What the walk that reads every form has met of an edition: what was met before it, or else the first of its trail.
pub walk_seen : {e : ℕ} → Edition e → (s : Tally) (k around : ℕ) (t : Tree)
    → first_seen e (seen_of (walk all s k around t)) ≡ after e (first_seen e s) (trail k t)
walk_seen {e} ed s k around tree.none = rw (trail_end, after_none e (first_seen e s)) (go (closed k) refl)
  where
    go : (b : Bool) → closed k ≡ b → first_seen e (seen_of (walk all s k around tree.none)) ≡ first_seen e s
    go true shut = rw (walk_closed all s k around shut)
    go false gap = rw (walk_open all s k around gap)
walk_seen {e} ed s k around (element id first whole c inside rest) =
    go (way k id c inside) (λ m j. walk_seen ed m j first inside) (λ r j. walk_seen ed r j around rest)
  where
    t : Tree
    t = element id first whole c inside rest

    h : ℕ × ℕ
    h = first_seen e s

    here : ℕ → List Occurrence
    here n = occurs (mark_of (line n).marking c) first

    in_it : ℕ → List Occurrence
    in_it n = trail_in (line n).inside inside

    -- after the element's inside
    settled : (n : ℕ) (w : Walked) → inner_walk all (with_element (line n) c first whole s) (line n).inside first inside ≡ w
        → ((m : Tally) (j : ℕ) → first_seen e (seen_of (walk all m j first inside)) ≡ after e (first_seen e m) (trail j inside))
        → first_seen e (seen_of w) ≡ after e h (here n ++ in_it n)
    settled n w is inner =
        let m = with_element (line n) c first whole s in
        let j = (line n).inside in
        rw (← is)
        (seen_within e m j first inside (inner m j) ∙ ap (λ (x : ℕ × ℕ). after e x (in_it n)) (met_seen ed (line n) c first whole s)
        ∙ sym (after_append e h (here n) (in_it n) (fair_occurs (mark_of (line n).marking c) first (line_fair n c))))

    go : Way k id c inside
        → ((m : Tally) (j : ℕ) → first_seen e (seen_of (walk all m j first inside)) ≡ after e (first_seen e m) (trail j inside))
        → ((r : Tally) (j : ℕ) → first_seen e (seen_of (walk all r j around rest)) ≡ after e (first_seen e r) (trail j rest))
        → first_seen e (seen_of (walk all s k around t)) ≡ after e h (trail k t)
    go (lost missing) inner later =
        rw (walk_nowhere all s k around id first whole c inside rest missing, trail_lost k id first whole c inside rest missing)
        (sym (after_none e h))
    go (within n found stops) inner later =
        let m = with_element (line n) c first whole s in
        let j = (line n).inside in
        let (q, d, r, is) = inner_broken m j first inside stops in
        rw (
          walk_inner_broken all s k around id first whole c inside rest n q d r found (all_read (mark_of (line n).marking c)) is,
          trail_inside k n id first whole c inside rest found stops,
        )
        (settled n (Broken q d r) is inner)
    go (broken n d found fine breaks) inner later =
        let m = with_element (line n) c first whole s in
        let j = (line n).inside in
        let (r, is) = inner_passed_lem m j first inside fine in
        rw (
          walk_breaks all s k around id first whole c inside rest n d r found (all_read (mark_of (line n).marking c)) is breaks,
          trail_breaks k n id first whole c inside rest found d fine breaks,
        )
        (settled n (Passed r) is inner)
    go (onward n next found fine on) inner later =
        let m = with_element (line n) c first whole s in
        let j = (line n).inside in
        let (r, is) = inner_passed_lem m j first inside fine in
        let good = fair_append (here n) (in_it n) (fair_occurs (mark_of (line n).marking c) first (line_fair n c)) (fair_within j inside (trail_fair j inside)) in
        rw (
          walk_next all s k around id first whole c inside rest n next r found (all_read (mark_of (line n).marking c)) is on,
          trail_on k n id first whole c inside rest found next fine on,
          ← append_assoc (here n) (in_it n) (trail next rest),
        )
        (later r next ∙ ap (λ (x : ℕ × ℕ). after e x (trail next rest)) (settled n (Passed r) is inner)
        ∙ sym (after_append e h (here n ++ in_it n) (trail next rest) good))
