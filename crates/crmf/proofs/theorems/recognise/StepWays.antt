-- How the recogniser may visit an element, a law for each shape of a line: one with a mark, a value, a certReqId, and one with lines inside.
-- Assumes nothing.
use Prim.Native.Nat.{ℕ, ◌+◌, ◌/◌, ◌≤◌, ◌<◌}
use mathlib.Core.Path.{◌≡◌, refl, sym, ap, ap₂, subst, ◌∙◌}
use mathlib.Core.Bool.{Bool, true, false, not, ◌&&◌, and-eq-true_iff, and-true, and-false, not-not}
use mathlib.Core.List.{List}
use mathlib.Core.Logic.{inl, inr}
use native.Mathlib.Omega.{arith}
use lib.Dec.{eqb, ltb, leb}
use lib.ListN.{length}
use borrow.Author.Tests.{ltb-true, leb-true, leb-false, le-ltb, lt-ltb, ne_eqb}
use Rattle.der.specs.meaning.Content.{integer}
use Rattle.der.specs.steps.ContentTest.{holds}
use Rattle.der.specs.steps.Order.{closes}
use Rattle.der.specs.steps.Recognise.{is_element}
use Rattle.der.proofs.Laws.{is_element_value, holds_integer, holds_free, ruled}
use Rattle.std.specs.Prelude.{Some, None, Err, Ok}
use Rattle.crmf.specs.declared.recognise.step.Visit.TheVariants.{Skip, Descend}
use Rattle.crmf.specs.steps.grammar.Codes as codes
use Rattle.crmf.specs.meaning.Kinds as kinds
use Rattle.crmf.specs.meaning.Value.{Rule, always, keeps}
use Rattle.crmf.specs.meaning.Notation.{Mark, both, alone, Marking, whatever, mark_of, named, Name}
use Rattle.crmf.specs.meaning.Language.{readable}
use Rattle.crmf.specs.meaning.Rows.{long_id}
use Rattle.crmf.specs.steps.grammar.Lines.{keep, start}
use Rattle.crmf.specs.steps.grammar.Packed.{mark_code, action_of}
use Rattle.crmf.specs.steps.explain.Walk.{line, judged, rule_detail, Onward}
use Rattle.crmf.specs.steps.recognise.Count.{may_stand, counts_at}
use Rattle.crmf.specs.steps.recognise.Inner.{content_count, ruled_count, Sized, VisitJustified, RowlessFrom}
use Rattle.crmf.proofs.theorems.lines.WordFields.{computed, at_mark}
use Rattle.crmf.proofs.theorems.recognise.Actions.{Plain, plain_names, Asked, id_kind, Opens}

-- a mark names an edition that is not 0 and a difference that has room below its weight
abbrev sure : Mark → Bool
sure both = true
sure (alone e d detail) = leb 1 e && ltb d codes.edition

-- at every element in a line's form
sure_at : (k : ℕ) (c : List ℕ) → sure (mark_of (line k).marking c) ≡ true
unfolding computed
sure_at = at_mark sure refl refl

-- whether a form of such a mark is read in an edition, by the mark's code
by_code : (m : Mark) (code e : ℕ) → sure m ≡ true → mark_code m ≡ code → readable (λ y. eqb y e) m ≡ not (not (eqb code 0) && not (eqb (code / codes.edition) e))
unfolding mark_code
by_code both code e good coded = rw (sym coded)
by_code (alone x d detail) code e good coded =
    let both-tests = (and-eq-true_iff (leb 1 x) (ltb d codes.edition)).0 good in
    let some : 1 ≤ x = leb-true 1 x both-tests.0 in
    let few : d < codes.edition = ltb-true d 8 both-tests.1 in
    let other : eqb code 0 ≡ false = ne_eqb code 0 (λ z. absurd (omega (arith, z))) in
    let high : code / codes.edition ≡ x = omega arith in
    rw (other, high) (sym (not-not (eqb x e)))

-- and so for every such element
pub reads : (k code e : ℕ) (c : List ℕ) → mark_code (mark_of (line k).marking c) ≡ code → readable (λ y. eqb y e) (mark_of (line k).marking c) ≡ not (not (eqb code 0) && not (eqb (code / codes.edition) e))
reads k code e c coded = by_code (mark_of (line k).marking c) code e (sure_at k c) coded

-- an element of a line that isn't a certReqId's may stand there if its mark is read
pub stands_by : (e k whole : ℕ) (c : List ℕ) → eqb (line k).kind kinds.cert_req_id ≡ false → may_stand e (line k) c whole ≡ readable (λ y. eqb y e) (mark_of (line k).marking c)
stands_by e k whole c short = rw short (and-true _)

-- and an element of a line of both editions by its kind and its length
stands_common : (e k whole : ℕ) (c : List ℕ) → (line k).marking ≡ whatever both → (b : Bool) → long_id (line k).kind whole ≡ b
    → may_stand e (line k) c whole ≡ not b
stands_common e k whole c common b long = ap₂ ◌&&◌ (ap (λ (m : Marking). readable (λ y. eqb y e) (mark_of m c)) common) (ap not long)

-- so it may stand there if the line is of both editions and its action isn't a certReqId's
pub stands_at : (e k whole a : ℕ) (c : List ℕ) → (line k).marking ≡ whatever both → action_of (line k) ≡ a → eqb a codes.take_cert_req_id ≡ false
    → may_stand e (line k) c whole ≡ true
stands_at e k whole a c common is other =
    stands_by e k whole c (id_kind k ∙ ap (λ (x : ℕ). eqb x codes.take_cert_req_id) is ∙ other)
    ∙ ap (λ (m : Marking). readable (λ y. eqb y e) (mark_of m c)) common

-- a value's line with one of two rules is of both editions
pub asked_marking : {k i : ℕ} {r : Rule} → Asked k i r → (line k).marking ≡ whatever both
asked_marking (inl x) = x.marking
asked_marking (inr (j, x, free)) = x.marking

-- How an element may be visited.
module _ (e k whole left id : ℕ) (c : List ℕ) where
  -- what its value says
  abbrev says : Onward
  says = judged (line k).judge (line k).next c

  -- its value breaks its rule
  pub refuse_breaks : (d : ℕ) → says ≡ Err d → VisitJustified e k whole left id c None
  unfolding ruled_count
  refuse_breaks d breaks n p = rw (ruled_count, breaks)

  -- its content isn't recognised
  refuse_content : ((n p : ℕ) → content_count e k whole left n p id c ≡ None) → VisitJustified e k whole left id c None
  unfolding ruled_count
  refuse_content nothing n p = go says refl
    where
      go : (o : Onward) → says ≡ o → ruled_count e k whole left n p id c ≡ None
      go (Ok next) on = rw (ruled_count, on) (nothing n p)
      go (Err d) breaks = rw (ruled_count, breaks)

  -- it may not stand there
  pub refuse_wrong : may_stand e (line k) c whole ≡ false → VisitJustified e k whole left id c None
  unfolding content_count
  refuse_wrong wrong = refuse_content (λ n p. rw (content_count, wrong))

  module _ (good : may_stand e (line k) c whole ≡ true) (next : ℕ) where
    -- a content with lines of its own, in an element that keeps the rule at its end
    module _ (on : says ≡ Ok next) (lined : eqb (line k).inside 0 ≡ false) (kept : closes id c ≡ true) where
      pub descend : VisitJustified e k whole left id c (Some (Descend next))
      unfolding content_count
      descend = (on, λ n p. rw (content_count, good, lined, kept))

      -- the same, if it was checked
      skip_inside : ((n p : ℕ) → counts_at e left (line k).inside n p c ≡ Some n) → VisitJustified e k whole left id c (Some (Skip next))
      unfolding content_count
      skip_inside checked = (on, λ n p. rw (content_count, good, lined, kept) (checked n p))

    -- in an element that breaks it
    refuse_end : eqb (line k).inside 0 ≡ false → closes id c ≡ false → VisitJustified e k whole left id c None
    unfolding content_count
    refuse_end lined lost = refuse_content (λ n p. rw (content_count, good, lined, lost))

    -- an element with a free inside
    pub skip_whole : says ≡ Ok next → eqb (line k).inside 0 ≡ true → (t : Bool) → is_element id left c ≡ t
        → VisitJustified e k whole left id c (elim t [ true ↦ Some (Skip next) | false ↦ None ])
    unfolding content_count
    skip_whole on free true is = (on, λ n p. rw (content_count, good, free, is))
    skip_whole on free false is = refuse_content (λ n p. rw (content_count, good, free, is))

    module _ (to : next ≡ (line k).next) where
      -- what the line's rule says
      said : (r : Rule) → (line k).judge ≡ keep r → (b : Bool) → keeps r c ≡ b → says ≡ elim b [ true ↦ Ok next | false ↦ Err (rule_detail r c) ]
      unfolding judged
      said r is true kept = rw (is, judged, kept, to)
      said r is false kept = rw (is, judged, kept)

      -- without a rule it says to go on
      said_always : (line k).judge ≡ keep always → says ≡ Ok next
      unfolding keeps
      said_always is = said always is true refl

      -- an element with a free inside, and a rule
      skip_kept : (r : Rule) → (line k).judge ≡ keep r → eqb (line k).inside 0 ≡ true → (w b : Bool) → is_element id left c ≡ w → keeps r c ≡ b
          → VisitJustified e k whole left id c (elim (w && b) [ true ↦ Some (Skip next) | false ↦ None ])
      skip_kept r is free true true sound kept = skip_whole (said r is true kept) free true sound
      skip_kept r is free false true fault kept = skip_whole (said r is true kept) free false fault
      skip_kept r is free true false sound broken = refuse_breaks (rule_detail r c) (said r is false broken)
      skip_kept r is free false false fault broken = refuse_breaks (rule_detail r c) (said r is false broken)

      -- any element
      pub skip_any : (line k).judge ≡ keep always → eqb (line k).inside 0 ≡ true → (t : Bool) → is_element id left c ≡ t
          → VisitJustified e k whole left id c (elim t [ true ↦ Some (Skip next) | false ↦ None ])
      skip_any is free t sound = skip_whole (said_always is) free t sound

      module _ (fits : named (line k).identifiers id ≡ true) where
        -- a value, by its type's rule and its line's
        skip_plain : {i : ℕ} {r : Rule} → Plain k i r false → (t : Bool) → (holds i c && keeps r c) ≡ t
            → VisitJustified e k whole left id c (elim t [ true ↦ Some (Skip next) | false ↦ None ])
        skip_plain {i} {r} x t both_hold =
            let same : id ≡ i = plain_names x id fits in
            let whole_is : is_element id left c ≡ holds i c = rw same (is_element_value i left c x.may x.lists) in
            subst (λ (b : Bool). VisitJustified e k whole left id c (elim b [ true ↦ Some (Skip next) | false ↦ None ])) both_hold
            (skip_kept r x.judge x.free (holds i c) (keeps r c) whole_is refl)

        -- by its type's alone
        pub skip_typed : {i : ℕ} → Plain k i always false → (t : Bool) → holds i c ≡ t
            → VisitJustified e k whole left id c (elim t [ true ↦ Some (Skip next) | false ↦ None ])
        unfolding keeps
        skip_typed {i} x t held = skip_plain x t (and-true (holds i c) ∙ held)

        -- by its line's alone
        skip_free : {i : ℕ} {r : Rule} → Plain k i r false → ruled i ≡ false → (t : Bool) → keeps r c ≡ t
            → VisitJustified e k whole left id c (elim t [ true ↦ Some (Skip next) | false ↦ None ])
        skip_free {i} x free t kept = skip_plain x t (rw (holds_free i c free) kept)

        -- by one of them, which are the same
        pub skip_asked : {i : ℕ} {r : Rule} → Asked k i r → (t : Bool) → holds i c ≡ t → keeps r c ≡ t
            → VisitJustified e k whole left id c (elim t [ true ↦ Some (Skip next) | false ↦ None ])
        skip_asked (inl x) t held kept = skip_typed x t held
        skip_asked (inr (j, x, free)) t held kept = skip_free x free t kept

        -- a value that is free
        pub skip_untyped : {i : ℕ} → Plain k i always false → ruled i ≡ false → VisitJustified e k whole left id c (Some (Skip next))
        unfolding keeps
        skip_untyped x free = skip_free x free true refl

      -- an element with lines inside
      pub descend_lines : {i : ℕ} → Plain k i always true → closes id c ≡ true → VisitJustified e k whole left id c (Some (Descend next))
      descend_lines x = descend (said_always x.judge) x.free

      -- the same, if the inside was checked and there are enough levels
      skip_checked : (n : Name) (levels least : ℕ) → Opens k n → levels ≤ least + 1 → (r : Bool) → (ltb least left && r) ≡ true
          → (r ≡ true → RowlessFrom (start n) levels c) → closes id c ≡ true → VisitJustified e k whole left id c (Some (Skip next))
      skip_checked n levels least (i, x, is) enough r test checked kept =
          let (deep, seen) = (and-eq-true_iff (ltb least left) r).0 test in
          let room : levels ≤ left = omega (arith, ltb-true least left deep, enough) in
          skip_inside (said_always x.judge) x.free kept
          (λ m p. ap (λ (j : ℕ). counts_at e left j m p c) is ∙ checked seen e left m p room)

      -- if it may have been
      pub skip_small : (n : Name) (levels least : ℕ) → Opens k n → levels ≤ least + 1 → (r : Bool) → (r ≡ true → RowlessFrom (start n) levels c)
          → closes id c ≡ true → VisitJustified e k whole left id c (elim (ltb least left && r) [ true ↦ Some (Skip next) | false ↦ Some (Descend next) ])
      skip_small n levels least (i, x, is) enough r checked kept = go (ltb least left && r) refl
        where
          go : (t : Bool) → (ltb least left && r) ≡ t → VisitJustified e k whole left id c (elim t [ true ↦ Some (Skip next) | false ↦ Some (Descend next) ])
          go false test = descend_lines x kept
          go true test = skip_checked n levels least (i, x, is) enough r test checked kept

      -- if it may have been, and the rule at the element's end otherwise decides
      pub skip_set : (n : Name) (levels least : ℕ) → Opens k n → levels ≤ least + 1 → (r : Bool)
          → (r ≡ true → RowlessFrom (start n) levels c × (closes id c ≡ true))
          → VisitJustified e k whole left id c
          (elim (ltb least left && r) [ true ↦ Some (Skip next) | false ↦ elim (closes id c) [ true ↦ Some (Descend next) | false ↦ None ] ])
      skip_set n levels least (i, x, is) enough r checked = go (ltb least left && r) refl (closes id c) refl
        where
          go : (t : Bool) → (ltb least left && r) ≡ t → (b : Bool) → closes id c ≡ b
              → VisitJustified e k whole left id c (elim t [ true ↦ Some (Skip next) | false ↦ elim b [ true ↦ Some (Descend next) | false ↦ None ] ])
          go true test b ends =
              let seen = ((and-eq-true_iff (ltb least left) r).0 test).1 in
              skip_checked n levels least (i, x, is) enough r test (λ t. (checked t).0) (checked seen).1
          go false test true kept = descend_lines x kept
          go false test false lost = refuse_end x.free lost

-- A certReqId: its content has at most 8 octets, and is an INTEGER's.
pub skip_id : (e k whole left id : ℕ) (c : List ℕ) (next : ℕ) → next ≡ (line k).next → action_of (line k) ≡ codes.take_cert_req_id → Plain k 0x02 always false
    → named (line k).identifiers id ≡ true → Sized whole c → (s t : Bool) → leb (length c) 8 ≡ s → integer c ≡ t
    → VisitJustified e k whole left id c (elim (s && t) [ true ↦ Some (Skip next) | false ↦ None ])
skip_id e k whole left id c next to is x fits sized true t small value =
    let few : ltb 10 whole ≡ false = le-ltb _ _ (sized.small (leb-true _ _ small)) in
    let short : long_id (line k).kind whole ≡ false = rw few (and-false (eqb (line k).kind kinds.cert_req_id)) in
    skip_typed e k whole left id c (stands_common e k whole c x.marking false short) next to fits x t (holds_integer c ∙ value)
skip_id e k whole left id c next to is x fits sized false t large value =
    let many : ltb 10 whole ≡ true = lt-ltb _ _ (sized.large (leb-false _ _ large)) in
    let long : long_id (line k).kind whole ≡ true = rw (id_kind k, is, many) in
    refuse_wrong e k whole left id c (stands_common e k whole c x.marking true long)
