-- The laws of an element's length octets by themselves: they and the content fit, and with an identifier that is allowed they are the
-- element's header. Assumes nothing.
use Prim.Native.Nat.{ℕ, zero, suc, ◌+◌, ◌-◌, ◌≤◌, ◌<◌}
use mathlib.Core.Path.{◌≡◌, refl, sym, ap, ◌∙◌}
use mathlib.Core.Bool.{Bool, true, false, false≢true}
use mathlib.Core.List.{List, [], ◌∷◌}
use native.Mathlib.Omega.{arith}
use lib.Dec.{leb, ltb, eqb}
use Rattle.std.specs.Prelude.{Option, None, Some}
use lib.ListN.{length, take, drop, get_or}
use lib.Seq.{slice, length-take-le}
use borrow.Author.Tests.{leb-true, leb-false, ltb-true, eqb-true, eqb-false}
use Rattle.der.specs.declared.cause.Cause.TheVariants.{WrongIdentifier}
use Rattle.der.specs.steps.Head.{Stands, Broken}
use Rattle.der.specs.declared.element.reading.Element.{Element}
use Rattle.der.specs.meaning.Identifier.{allowed, constructed}
use Rattle.der.specs.meaning.Length.{Length, missing, wrong, octets, value_from, shortest, length_of}
use Rattle.der.specs.steps.Header.{sized_by, head_of, cause_by, cause_of}
use Rattle.der.specs.declared.element.length.Span.{Span}
use Rattle.der.specs.steps.Span.{no_span, span_by, span_of, found_span}
use Rattle.der.specs.meaning.Tree.{none, element}
use Rattle.der.specs.meaning.Bounds.{longest}
use Rattle.der.specs.steps.Reading.{tree}
use Rattle.der.proofs.theorems.element.Length.{Long, long_read, never_missing, length_counted, value_large}
use Rattle.der.proofs.theorems.reading.Readings.{tree_parts, read_stands}
use Rattle.der.proofs.theorems.element.SpanWays.{span_there, span_unfit}
use Rattle.der.proofs.theorems.explain.Steps.{head_wrong, head_sized, head_stands, head_past}

-- What a span says of the octets after the identifier.
pub record Spanned (id : ℕ) (bs : List ℕ) : Type 0 where
  pub count : ℕ
  pub size : ℕ
  pub measured : length_of bs ≡ octets count size
  pub few : count ≤ 3
  pub fits : count + size ≤ length bs
  pub before : (span_of (id ∷ bs)).octets ≡ suc count
  pub content : (span_of (id ∷ bs)).length ≡ size

-- the span of octets whose length is known
pub span_by_lem : (id : ℕ) (bs : List ℕ) {l : Length} → length_of bs ≡ l → span_of (id ∷ bs) ≡ span_by (length bs) l
unfolding span_of
span_by_lem id bs e = ap (span_by (length bs)) e

-- every span says this
pub spanned : (id : ℕ) (bs : List ℕ) → ((span_of (id ∷ bs)).octets ≡ 0 → ⊥) → Spanned id bs
unfolding span_by
spanned id bs some = go (length_of bs) refl
  where
    none_here : span_of (id ∷ bs) ≡ no_span → Spanned id bs
    none_here e = absurd (some (ap (λ x. x.octets) e))

    tests : (k n : ℕ) → length_of bs ≡ octets k n → (s t : Bool) → leb k 3 ≡ s → leb (k + n) (length bs) ≡ t → Spanned id bs
    tests k n e true true s t =
        let few = leb-true k 3 s in
        let fits = leb-true (k + n) (length bs) t in
        let is = span_by_lem id bs e ∙ span_there (length bs) k n few fits in
        record { count = k; size = n; measured = e; few = few; fits = fits; before = ap (λ x. x.octets) is; content = ap (λ x. x.length) is }
    tests k n e false t u v = none_here (span_by_lem id bs e ∙ sym (span_unfit (length bs) k n (λ few fits. omega (arith, leb-false k 3 u))))
    tests k n e true false u v = none_here (span_by_lem id bs e ∙ sym (span_unfit (length bs) k n (λ few fits. omega (arith, leb-false (k + n) (length bs) v))))

    go : (l : Length) → length_of bs ≡ l → Spanned id bs
    go missing e = none_here (span_by_lem id bs e)
    go wrong e = none_here (span_by_lem id bs e)
    go (octets k n) e = tests k n e (leb k 3) (leb (k + n) (length bs)) refl refl

-- no octets have no span
span_empty : (span_of []).octets ≡ 0
unfolding span_of
span_empty = refl

-- a span has at least two octets, and it and its content fit
pub span_fits : (bs : List ℕ) → ((span_of bs).octets ≡ 0 → ⊥) → (2 ≤ (span_of bs).octets) × ((span_of bs).octets + (span_of bs).length ≤ length bs)
span_fits [] some = absurd (some span_empty)
span_fits (id ∷ bs) some =
    let x = spanned id bs some in
    rw (x.before, x.content) (omega (arith, length_counted bs x.count x.size x.measured, x.fits))

-- a long form in three octets or fewer gives 128 or more
few_long : {A : Type 0} (j : ℕ) (bs : List ℕ) (m n : ℕ) → Long j bs m n → m ≤ 3 → n ≤ 127 → A
unfolding shortest value_from
few_long zero bs m n l few small = absurd (false≢true l.brief)
few_long (suc j) [] m n l few small = absurd (omega (arith, l.fits))
few_long (suc zero) (d ∷ bs) m n l few small = absurd (omega (arith, leb-true 0x80 d l.brief, l.valued))
few_long (suc (suc j)) (d ∷ []) m n l few small = absurd (omega (arith, l.fits))
few_long (suc (suc zero)) (d ∷ e ∷ bs) m n l few small = absurd (omega (arith, ltb-true 0 d l.brief, l.valued))
few_long (suc (suc (suc j))) (d ∷ e ∷ bs) m n l few small = absurd (omega (arith, l.counted))

-- length octets of a number below 128, in three octets or fewer, are one
length_small : (bs : List ℕ) (k n : ℕ) → length_of bs ≡ octets k n → k ≤ 3 → n ≤ 127 → k ≡ 1
unfolding length_of
length_small [] k n e few small = never_missing e
length_small (c ∷ bs) k n e few small = go (ltb c 0x80) refl
  where
    go : (t : Bool) → ltb c 0x80 ≡ t → k ≡ 1
    go true p = let h : octets 1 c ≡ octets k n = rw (length_of, p) at e in cc
    go false p = few_long (c - 0x80) bs k n (long_read (c - 0x80) bs k n (rw (length_of, p) at e)) few small

-- a content of fewer than 128 octets has two octets before it
pub span_small : (bs : List ℕ) → ((span_of bs).octets ≡ 0 → ⊥) → (span_of bs).length ≤ 127 → (span_of bs).octets ≡ 2
span_small [] some small = absurd (some span_empty)
span_small (id ∷ bs) some small =
    let x = spanned id bs some in
    x.before ∙ ap suc (length_small bs x.count x.size x.measured x.few (omega (arith, x.content)))

-- length octets that are more than three give 65,536 or more
pub length_large : (bs : List ℕ) (k n : ℕ) → length_of bs ≡ octets k n → 3 < k → 65536 ≤ n
unfolding length_of
length_large [] k n e many = never_missing e
length_large (c ∷ bs) k n e many = go (ltb c 0x80) refl
  where
    go : (t : Bool) → ltb c 0x80 ≡ t → 65536 ≤ n
    go true p = let h : octets 1 c ≡ octets k n = rw (length_of, p) at e in (let one : k ≡ 1 = cc in omega arith)
    go false p =
        let l = long_read (c - 0x80) bs k n (rw (length_of, p) at e) in
        let size = length-take-le (c - 0x80) bs l.fits in
        omega (arith, l.valued, value_large (take (c - 0x80) bs) (omega (arith, l.counted)) l.brief)

-- With an identifier that is allowed, a span is the header.
pub span_stands : (bs : List ℕ) → ((span_of bs).octets ≡ 0 → ⊥) → allowed (get_or bs 0 0) ≡ true
    → head_of bs ≡ Stands (get_or bs 0 0) (span_of bs).octets (span_of bs).length
span_stands [] some known = absurd (some span_empty)
span_stands (id ∷ bs) some known =
    let x = spanned id bs some in
    rw (x.before, x.content) (head_stands id bs known x.measured x.fits)

-- With an identifier that is not allowed the header is broken.
pub head_refused : (bs : List ℕ) → 1 ≤ length bs → allowed (get_or bs 0 0) ≡ false → head_of bs ≡ Broken WrongIdentifier
head_refused [] some e = absurd (omega arith)
head_refused (id ∷ bs) some e = head_wrong id bs e

-- That is its cause.
pub refused_cause : (bs : List ℕ) → 1 ≤ length bs → allowed (get_or bs 0 0) ≡ false → WrongIdentifier ≡ cause_of bs
unfolding cause_of
refused_cause [] some e = absurd (omega arith)
refused_cause (id ∷ bs) some e = rw (cause_of, e)

-- the cause if the identifier is allowed, by the length octets
pub sized_cause : (id : ℕ) (bs : List ℕ) {l : Length} → allowed id ≡ true → length_of bs ≡ l → cause_by l ≡ cause_of (id ∷ bs)
unfolding cause_of
sized_cause id bs e f = rw (cause_of, e, f)

-- Without a span the header is broken, in octets that are not too many.
pub span_broken : (bs : List ℕ) → length bs ≤ longest → (span_of bs).octets ≡ 0 → head_of bs ≡ Broken (cause_of bs)
unfolding sized_by head_of cause_by cause_of
span_broken [] short lost = refl
span_broken (id ∷ bs) short lost = go (allowed id) refl (length_of bs) refl
  where
    far : (k n : ℕ) → length_of bs ≡ octets k n → (s t : Bool) → leb k 3 ≡ s → leb (k + n) (length bs) ≡ t → length bs < k + n
    far k n v s false p q = leb-false (k + n) (length bs) q
    far k n v false true p q = omega (arith, length_large bs k n v (leb-false k 3 p))
    far k n v true true p q =
        let fits = leb-true (k + n) (length bs) q in
        let is : suc k ≡ 0 = sym (ap (λ x. x.octets) (span_by_lem id bs v ∙ span_there (length bs) k n (leb-true k 3 p) fits)) ∙ lost in
        absurd (omega arith)

    go : (a : Bool) → allowed id ≡ a → (l : Length) → length_of bs ≡ l → head_of (id ∷ bs) ≡ Broken (cause_of (id ∷ bs))
    go false u l v = head_wrong id bs u ∙ ap Broken (refused_cause (id ∷ bs) (omega arith) u)
    go true u missing v = head_sized id bs u v ∙ ap Broken (sized_cause id bs u v)
    go true u wrong v = head_sized id bs u v ∙ ap Broken (sized_cause id bs u v)
    go true u (octets k n) v =
        head_past id bs u v (far k n v (leb k 3) (leb (k + n) (length bs)) refl refl) ∙ ap Broken (sized_cause id bs u v)

-- the tree of octets that begin with a span, after an identifier that is allowed
pub span_tree : (p : ℕ) (bs : List ℕ) → length bs ≤ longest → ((span_of bs).octets ≡ 0 → ⊥) → allowed (get_or bs 0 0) ≡ true
    → let h = (span_of bs).octets in let n = (span_of bs).length in let id = get_or bs 0 0 in let c = slice h (h + n) bs in
    tree p bs ≡ element id p (h + n) c (elim (constructed id) [ true ↦ tree (p + h) c | false ↦ none ]) (tree (p + (h + n)) (drop (h + n) bs))
span_tree p bs short some known =
    let h = (span_of bs).octets in
    let n = (span_of bs).length in
    let id = get_or bs 0 0 in
    let x : Element = record { identifier = id; content = p + h; end = p + h + n } in
    let start : p + h - p ≡ h = omega arith in
    let stop : p + h + n - p ≡ h + n = omega arith in
    let same : p + h + n ≡ p + (h + n) = omega arith in
    let content : slice (x.content - p) (x.end - p) bs ≡ slice h (h + n) bs = rw (start, stop) in
    let after : drop (x.end - p) bs ≡ drop (h + n) bs = rw stop in
    rw (stop, same) at
    (tree_parts p bs (slice h (h + n) bs) (drop (h + n) bs) x (omega (arith, span_fits bs some)) (read_stands p bs id h n (span_stands bs some known)) content after)

-- What the code answers for a span: without octets there is none.
answer_none : (x : Span) → found_span x ≡ None → eqb x.octets 0 ≡ true
answer_none x e = go (eqb x.octets 0) e
  where
    go : (b : Bool) → elim b as (λ _. Option Span) [ true ↦ None | false ↦ Some x ] ≡ None → b ≡ true
    go true e = refl
    go false e = cc

-- with some it is the span
answer_some : (x y : Span) → found_span x ≡ Some y → (eqb x.octets 0 ≡ false) × (y ≡ x)
answer_some x y e = go (eqb x.octets 0) e
  where
    go : (b : Bool) → elim b as (λ _. Option Span) [ true ↦ None | false ↦ Some x ] ≡ Some y → (b ≡ false) × (y ≡ x)
    go true e = let z : ◌≡◌ {A = ℕ} 0 1 = cc in absurd (omega arith)
    go false e = (refl, cc)

-- The code's answer for octets.
module _ (bs : List ℕ) {r : Option Span} (found : r ≡ found_span (span_of bs)) where
  -- it is none if they have no span
  pub found_none : r ≡ None → (span_of bs).octets ≡ 0
  found_none e = eqb-true _ 0 (answer_none (span_of bs) (sym found ∙ e))

  module _ {x : Span} (is : r ≡ Some x) where
    -- it is their span
    pub found_some : x ≡ span_of bs
    found_some = (answer_some (span_of bs) x (sym found ∙ is)).1

    -- which has octets before the content
    pub found_one : (span_of bs).octets ≡ 0 → ⊥
    found_one = eqb-false _ 0 (answer_some (span_of bs) x (sym found ∙ is)).0

    -- at least two, and it and its content fit
    pub found_fits : (2 ≤ x.octets) × (x.octets + x.length ≤ length bs)
    found_fits = rw found_some (span_fits bs found_one)
