-- The recogniser's count at the first element of octets, a law for each way it may go: no line fits, its content isn't recognised, its value
-- breaks its rule, or the count goes on after it. An element has a sound nest if its content has one, since the octets are read as a tree.
-- Assumes nothing.
use Prim.Native.Nat.{ℕ, suc, ◌+◌, ◌≤◌, ◌<◌}
use mathlib.Core.Path.{◌≡◌, refl, sym, ◌∙◌}
use mathlib.Core.Bool.{Bool, true, false, ◌&&◌, and-eq-true_iff, false≢true}
use mathlib.Core.List.{List, []}
use native.Mathlib.Omega.{arith}
use lib.Dec.{eqb}
use lib.ListN.{length, drop, get_or}
use lib.Seq.{slice}
use borrow.Author.Tests.{eqb-false}
use Rattle.der.specs.meaning.Tree.{Tree, none, element}
use Rattle.der.specs.steps.Reading.{tree}
use Rattle.der.specs.meaning.Bounds.{depth, longest}
use Rattle.der.specs.meaning.Identifier.{allowed, constructed}
use Rattle.der.specs.steps.Span.{span_of}
use Rattle.der.specs.steps.Order.{closes}
use Rattle.der.specs.steps.Recognise.{is_list, is_element}
use Rattle.der.proofs.Laws.{tree_end, is_list_none, is_list_short, is_list_deep, is_list_lost, is_list_step, span_tree, is_element_refused, is_element_inside}
use Rattle.std.specs.Prelude.{Option, Some, None, Err, Ok}
use Rattle.crmf.specs.meaning.Notation.{named}
use Rattle.crmf.specs.steps.explain.Walk.{line, find_line, closed, judged, rows_by}
use Rattle.crmf.specs.steps.rows.Fill.{filled}
use Rattle.crmf.specs.steps.recognise.Count.{may_stand, counts, counts_at, recognised, recognised_table}
use Rattle.crmf.specs.steps.recognise.Inner.{content_count}
use Rattle.crmf.proofs.theorems.lines.Search.{found_names}
use Rattle.crmf.proofs.theorems.recognise.CountSteps.{not_recognised, counts_in}
use Rattle.crmf.proofs.theorems.recognise.CountSteps.{counts_closed, counts_open, counts_nowhere, counts_wrong, counts_breaks, counts_none, counts_next}
use Rattle.crmf.proofs.theorems.recognise.Actions.{inside_constructed}

-- an element's own nest, in the form of line j
module _ (e j whole left n p id : ℕ) (c : List ℕ) (fits : named (line j).identifiers id ≡ true) where
  content_wrong : may_stand e (line j) c whole ≡ false → content_count e j whole left n p id c ≡ None
  unfolding content_count
  content_wrong bad = rw (content_count, bad)

  -- one with a fault isn't recognised
  content_fault : is_element id left c ≡ false → content_count e j whole left n p id c ≡ None
  unfolding content_count counts_at
  content_fault fault = go (may_stand e (line j) c whole) refl (eqb (line j).inside 0) refl
    where
      go : (b : Bool) → may_stand e (line j) c whole ≡ b → (f : Bool) → eqb (line j).inside 0 ≡ f → content_count e j whole left n p id c ≡ None
      go false bad f test = content_wrong bad
      go true good true free = rw (content_count, good, free, fault)
      go true good false lined =
          let (may, made) = inside_constructed j id fits (eqb-false _ _ lined) in
          by_end good lined (closes id c) refl (is_list left c) refl (sym (is_element_inside id left c may made) ∙ fault)
        where
          by_end : may_stand e (line j) c whole ≡ true → eqb (line j).inside 0 ≡ false → (t : Bool) → closes id c ≡ t → (l : Bool) → is_list left c ≡ l
              → (is_list left c && closes id c) ≡ false → content_count e j whole left n p id c ≡ None
          by_end good lined false lost l is fails = rw (content_count, good, lined, lost)
          by_end good lined true kept false is fails = rw (content_count, good, lined, kept, counts_at, is)
          by_end good lined true kept true is fails = absurd (false≢true (sym fails ∙ rw (is, kept)))

  -- and one without is what is inside it
  content_sound : is_element id left c ≡ true → may_stand e (line j) c whole ≡ true
      → content_count e j whole left n p id c ≡ counts_in e (line j).inside n (elim (constructed id) [ true ↦ tree p c | false ↦ none ])
  unfolding content_count counts_at
  content_sound sound good = go (eqb (line j).inside 0) refl
    where
      go : (f : Bool) → eqb (line j).inside 0 ≡ f
          → content_count e j whole left n p id c ≡ counts_in e (line j).inside n (elim (constructed id) [ true ↦ tree p c | false ↦ none ])
      go true free = rw (content_count, counts_in, good, free, sound)
      go false lined =
          let (may, made) = inside_constructed j id fits (eqb-false _ _ lined) in
          let (listed, kept) = (and-eq-true_iff (is_list left c) (closes id c)).0 (sym (is_element_inside id left c may made) ∙ sound) in
          rw (content_count, counts_in, good, lined, kept, counts_at, listed, made)

-- The count at the first element of octets that are not too many, with levels of depth left.
module _ (e left k n p : ℕ) (bs : List ℕ) (short : length bs ≤ longest) (measured : (span_of bs).octets ≡ 0 → ⊥) where
  abbrev id : ℕ
  id = get_or bs 0 0

  abbrev from : ℕ
  from = (span_of bs).octets

  abbrev to : ℕ
  to = from + (span_of bs).length

  abbrev content : List ℕ
  content = slice from to bs

  abbrev inside : Tree
  inside = elim (constructed id) [ true ↦ tree (p + from) content | false ↦ none ]

  -- What octets without a fault say: the first element has none, nor have those after it, and the tree is read from them.
  record Parts : Type 0 where
    whole : is_element id left content ≡ true
    after : is_list (suc left) (drop to bs) ≡ true
    read : tree p bs ≡ element id p to content inside (tree (p + to) (drop to bs))

  -- an element without a fault has an allowed identifier
  permitted : is_element id left content ≡ true → allowed id ≡ true
  permitted whole = go (allowed id) refl
    where
      go : (b : Bool) → allowed id ≡ b → allowed id ≡ true
      go true may = may
      go false not-may = absurd (false≢true (sym (is_element_refused id left content not-may) ∙ whole))

  parts : is_list (suc left) bs ≡ true → Parts
  parts sound =
      let both = (and-eq-true_iff _ _).0 (sym (is_list_step left bs short measured) ∙ sound) in
      record { whole = both.0; after = both.1; read = span_tree p bs short measured (permitted both.0) }

  -- octets aren't recognised if, without a fault, their tree isn't
  unrecognised_if : (Parts → counts e k n (element id p to content inside (tree (p + to) (drop to bs))) ≡ None)
      → counts_at e (suc left) k n p bs ≡ None
  unfolding counts_at
  unrecognised_if nothing = go (is_list (suc left) bs) refl
    where
      go : (b : Bool) → is_list (suc left) bs ≡ b → counts_at e (suc left) k n p bs ≡ None
      go false fault = rw (counts_at, fault)
      go true sound = let x = parts sound in rw (counts_at, sound, x.read) (nothing x)

  -- no line fits
  pub at_nowhere : find_line k id ≡ None → counts_at e (suc left) k n p bs ≡ None
  at_nowhere missing = unrecognised_if (λ x. counts_nowhere e k n id p to content inside _ missing)

  module _ (j : ℕ) (found : find_line k id ≡ Some j) where
    abbrev counted : Option ℕ
    counted = content_count e j to left (n + rows_by (line j)) (p + from) id content

    abbrev fits : named (line j).identifiers id ≡ true
    fits = found_names k id j found

    -- the value breaks its rule
    pub at_breaks : (d : ℕ) → judged (line j).judge (line j).next content ≡ Err d → counts_at e (suc left) k n p bs ≡ None
    at_breaks d breaks = unrecognised_if (λ x. counts_breaks e k n id p to content inside _ j found d breaks)

    -- the content isn't recognised
    pub at_nothing : counted ≡ None → counts_at e (suc left) k n p bs ≡ None
    at_nothing nothing = unrecognised_if (λ x. go x (may_stand e (line j) content to) refl)
      where
        go : Parts → (b : Bool) → may_stand e (line j) content to ≡ b → counts e k n (element id p to content inside (tree (p + to) (drop to bs))) ≡ None
        go x false bad = counts_wrong e k n id p to content inside _ j found bad
        go x true good =
            counts_none e k n id p to content inside _ j found
            (sym (content_sound e j to left _ (p + from) id content fits x.whole good) ∙ nothing)

    -- the count goes on after it
    pub at_on : (next m : ℕ) → counted ≡ Some m → judged (line j).judge (line j).next content ≡ Ok next
        → counts_at e (suc left) k n p bs ≡ counts_at e (suc left) next m (p + to) (drop to bs)
    unfolding counts_at
    at_on next m some on = go (is_list (suc left) bs) refl
      where
        stood : may_stand e (line j) content to ≡ true
        stood = by (may_stand e (line j) content to) refl
          where
            by : (b : Bool) → may_stand e (line j) content to ≡ b → may_stand e (line j) content to ≡ true
            by true good = good
            by false bad = not_recognised (sym (content_wrong e j to left _ (p + from) id content fits bad) ∙ some)

        go : (b : Bool) → is_list (suc left) bs ≡ b
            → counts_at e (suc left) k n p bs ≡ counts_at e (suc left) next m (p + to) (drop to bs)
        go true sound =
            let x = parts sound in
            rw (counts_at, sound, x.read, x.after)
            (counts_next e k n id p to content inside _ j found next m stood on
            (sym (content_sound e j to left _ (p + from) id content fits x.whole stood) ∙ some))
        go false fault = rw (counts_at, fault) (by (is_list (suc left) (drop to bs)) refl (is_element id left content) refl)
          where
            by : (b : Bool) → is_list (suc left) (drop to bs) ≡ b → (w : Bool) → is_element id left content ≡ w
                → ◌≡◌ {A = Option ℕ} None (elim (is_list (suc left) (drop to bs)) [ true ↦ counts e next m (tree (p + to) (drop to bs)) | false ↦ None ])
            by false broken w is = rw broken
            by true sound false is = not_recognised (sym (content_fault e j to left _ (p + from) id content fits is) ∙ some)
            by true sound true is = absurd (false≢true (sym fault ∙ is_list_step left bs short measured ∙ rw (is, sound)))

-- at the end of the octets the container may end, or may not
pub at_end : (e left k n p : ℕ) → closed k ≡ true → counts_at e left k n p [] ≡ Some n
unfolding counts_at
at_end e left k n p ends = rw (counts_at, is_list_none left, tree_end p) (counts_closed e k n ends)

pub at_open : (e left k n p : ℕ) → closed k ≡ false → counts_at e left k n p [] ≡ None
unfolding counts_at
at_open e left k n p stays = rw (counts_at, is_list_none left, tree_end p) (counts_open e k n stays)

-- if no length is read, or no level is left, there is no element
pub at_lost : (e left k n p : ℕ) (bs : List ℕ) → 0 < length bs → (span_of bs).octets ≡ 0 → counts_at e left k n p bs ≡ None
unfolding counts_at
at_lost e left k n p bs more nothing = rw (counts_at, is_list_lost left bs more nothing)

pub at_deep : (e k n p : ℕ) (bs : List ℕ) → 0 < length bs → counts_at e 0 k n p bs ≡ None
unfolding counts_at
at_deep e k n p bs more = rw (counts_at, is_list_deep bs more)

-- a longer input isn't recognised
pub too_long : (e : ℕ) (s : List ℕ) → longest < length s → recognised e s ≡ None
unfolding recognised counts_at
too_long e s over = go (is_list depth s) refl
  where
    go : (b : Bool) → is_list depth s ≡ b → recognised e s ≡ None
    go false fault = rw (recognised, counts_at, fault)
    go true sound = absurd (omega (arith, is_list_short depth s sound))

-- the table that a reading leaves: as it was if the input isn't recognised, and otherwise filled
pub unrecognised_stays : (e : ℕ) (s old : List ℕ) → recognised e s ≡ None → old ≡ recognised_table e s old
unfolding recognised_table
unrecognised_stays e s old nothing = rw (recognised_table, nothing)

pub recognised_fills : (e : ℕ) (s old : List ℕ) (n : ℕ) → recognised e s ≡ Some n → filled s n old ≡ recognised_table e s old
unfolding recognised_table
recognised_fills e s old n counted = rw (recognised_table, counted)
