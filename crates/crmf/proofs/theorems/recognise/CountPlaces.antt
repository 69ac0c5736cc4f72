-- The recogniser's count at an element of some bytes, by its place in them: what an advance over it makes of the count. Assumes nothing.
use Prim.Native.Nat.{ℕ, suc, ◌+◌, ◌-◌, ◌≤◌, ◌<◌}
use mathlib.Core.Path.{◌≡◌, refl, sym, ap, ap₂, subst, ◌∙◌}
use mathlib.Core.Bool.{Bool, true, false}
use mathlib.Core.List.{List, []}
use native.Mathlib.Omega.{arith}
use lib.ListN.{length, drop, get_or, length-drop, drop_of_length-le}
use lib.Seq.{slice, get_or-drop, drop-drop, length-slice}
use Rattle.der.specs.declared.element.length.Span.{Span}
use Rattle.der.specs.meaning.Bounds.{longest}
use Rattle.der.specs.steps.Span.{span_of}
use Rattle.der.proofs.Laws.{take_drop, span_fits, span_small}
use Rattle.std.specs.Prelude.{Option, Some, None, Err, Ok}
use Rattle.std.specs.Bool.{then_some}
use Rattle.std.proofs.lemmas.Option.{same_Some}
use Rattle.crmf.specs.declared.rows.Spot.{Spot}
use Rattle.crmf.specs.steps.explain.Walk.{line, find_line, closed, judged, rows_by, Onward}
use Rattle.crmf.specs.steps.recognise.Count.{counts_at}
use Rattle.crmf.specs.steps.recognise.Inner.{content_count, ruled_count, Sized, ElementCounted, count_from, count_after}
use Rattle.crmf.proofs.theorems.recognise.CountSteps.{not_recognised}
use Rattle.crmf.proofs.theorems.recognise.CountWays.{at_nowhere, at_breaks, at_nothing, at_on, at_end, at_open}

-- if nothing is recognised from a spot on, there is none after its element
pub stops : (e left : ℕ) (from : Spot) (bytes : List ℕ) → ((p : ℕ) → count_from e left p bytes from ≡ None) → ElementCounted e left from bytes None
stops e left from bytes nothing = record { same = nothing; forward = λ x is. not_recognised is }

-- a spot with which the count is the same, further on and with a number left for each octet
pub advances : {e left : ℕ} {from x : Spot} {bytes : List ℕ} → ((p : ℕ) → count_from e left p bytes from ≡ count_from e left p bytes x)
    → (from.at < x.at) × (x.at ≤ length bytes) × (x.row + (length bytes - x.at) ≤ from.row + (length bytes - from.at))
    → ElementCounted e left from bytes (Some x)
advances {from = from} {x = x} {bytes = bytes} same further =
    record {
      same = same;
      forward = λ y is. subst (λ (z : Spot). (from.at < z.at) × (z.at ≤ length bytes) × (z.row + (length bytes - z.at) ≤ from.row + (length bytes - from.at))) (same_Some _ _ is) further;
    }

-- what is answered of an element says of the count
module _ {e left : ℕ} {from : Spot} {bytes : List ℕ} {r : Option Spot} (w : ElementCounted e left from bytes r) (p : ℕ) where
  pub advance_stopped : r ≡ None → count_from e left p bytes from ≡ None
  advance_stopped is = w.same p ∙ ap (count_after e left p bytes) is

  pub advance_past : (x : Spot) → r ≡ Some x → count_from e left p bytes from ≡ count_from e left p bytes x
  advance_past x is = w.same p ∙ ap (count_after e left p bytes) is

-- what is answered if a test holds
pub answered : (b : Bool) (m n : ℕ) → then_some b m ≡ Some n → m ≡ n
answered true m n is = same_Some m n is
answered false m n is = not_recognised is

-- The element at a place has a span, and there is a level of depth for it.
module _ (e left k before at : ℕ) (bytes : List ℕ) (x : Span) (short : length (drop at bytes) ≤ longest) (is : x ≡ span_of (drop at bytes))
    (some : x.octets ≡ 0 → ⊥) (deep : left ≡ 0 → ⊥) where
  abbrev id : ℕ
  id = get_or bytes at 0

  abbrev from : ℕ
  from = at + x.octets

  abbrev to : ℕ
  to = from + x.length

  abbrev content : List ℕ
  content = slice from to bytes

  abbrev whole : ℕ
  whole = x.octets + x.length

  measured : (span_of (drop at bytes)).octets ≡ 0 → ⊥
  measured none = some (ap (λ (y : Span). y.octets) is ∙ none)

  -- it has at least two octets, and it lies within the bytes
  pub place_fits : (2 ≤ x.octets) × (at + whole ≤ length bytes)
  place_fits =
      let f = subst (λ (y : Span). (2 ≤ y.octets) × (y.octets + y.length ≤ length (drop at bytes))) (sym is) (span_fits (drop at bytes) measured) in
      omega (arith, f, length-drop at bytes)

  -- its identifier, its content and what is after it are those of the bytes from its place on
  same_id : get_or (drop at bytes) 0 0 ≡ id
  same_id = get_or-drop at bytes 0 0 ∙ ap (λ (i : ℕ). get_or bytes i 0) (omega arith)

  same_octets : (span_of (drop at bytes)).octets ≡ x.octets
  same_octets = ap (λ (y : Span). y.octets) (sym is)

  same_whole : (span_of (drop at bytes)).octets + (span_of (drop at bytes)).length ≡ whole
  same_whole = ap (λ (y : Span). y.octets + y.length) (sym is)

  same_content : slice (span_of (drop at bytes)).octets ((span_of (drop at bytes)).octets + (span_of (drop at bytes)).length) (drop at bytes) ≡ content
  same_content =
      let high : at + whole ≡ to = omega arith in
      rw (same_whole, same_octets, take_drop whole at bytes, drop-drop x.octets at, high)

  same_rest : drop ((span_of (drop at bytes)).octets + (span_of (drop at bytes)).length) (drop at bytes) ≡ drop to bytes
  same_rest =
      let high : at + whole ≡ to = omega arith in
      rw (same_whole, drop-drop whole at, high)

  level : suc (left - 1) ≡ left
  level = omega arith

  -- no line fits
  pub place_nowhere : find_line k id ≡ None → (p : ℕ) → counts_at e left k before p (drop at bytes) ≡ None
  place_nowhere missing p =
      subst (λ (l : ℕ). counts_at e l k before p (drop at bytes) ≡ None) level
      (at_nowhere e (left - 1) k before p (drop at bytes) short measured (ap (find_line k) same_id ∙ missing))

  module _ (j : ℕ) (found : find_line k id ≡ Some j) where
    found_there : find_line k (get_or (drop at bytes) 0 0) ≡ Some j
    found_there = ap (find_line k) same_id ∙ found

    same_count : (p : ℕ) → content_count e j ((span_of (drop at bytes)).octets + (span_of (drop at bytes)).length) (left - 1) (before + rows_by (line j)) (p + (span_of (drop at bytes)).octets) (get_or (drop at bytes) 0 0)
        (slice (span_of (drop at bytes)).octets ((span_of (drop at bytes)).octets + (span_of (drop at bytes)).length) (drop at bytes))
        ≡ content_count e j whole (left - 1) (before + rows_by (line j)) (p + x.octets) id content
    same_count p = rw (same_content, same_id, same_whole, same_octets)

    judged_same : judged (line j).judge (line j).next (slice (span_of (drop at bytes)).octets ((span_of (drop at bytes)).octets + (span_of (drop at bytes)).length) (drop at bytes))
        ≡ judged (line j).judge (line j).next content
    judged_same = ap (judged (line j).judge (line j).next) same_content

    -- the element isn't recognised
    pub place_refused : ((n p : ℕ) → ruled_count e j whole (left - 1) n p id content ≡ None) → (p : ℕ)
        → counts_at e left k before p (drop at bytes) ≡ None
    unfolding ruled_count
    place_refused nothing p =
        subst (λ (l : ℕ). counts_at e l k before p (drop at bytes) ≡ None) level (go (judged (line j).judge (line j).next content) refl)
      where
        go : (o : Onward) → judged (line j).judge (line j).next content ≡ o → counts_at e (suc (left - 1)) k before p (drop at bytes) ≡ None
        go (Err d) breaks = at_breaks e (left - 1) k before p (drop at bytes) short measured j found_there d (judged_same ∙ breaks)
        go (Ok next) on =
            at_nothing e (left - 1) k before p (drop at bytes) short measured j found_there
            (same_count p ∙ (rw (ruled_count, on) at (nothing (before + rows_by (line j)) (p + x.octets))))

    -- its content isn't recognised
    pub place_nothing : ((p : ℕ) → content_count e j whole (left - 1) (before + rows_by (line j)) p id content ≡ None) → (p : ℕ)
        → counts_at e left k before p (drop at bytes) ≡ None
    place_nothing nothing p =
        subst (λ (l : ℕ). counts_at e l k before p (drop at bytes) ≡ None) level
        (at_nothing e (left - 1) k before p (drop at bytes) short measured j found_there (same_count p ∙ nothing _))

    -- the count goes on after it, with the rows up to its end
    pub place_past : (next m : ℕ) → judged (line j).judge (line j).next content ≡ Ok next
        → ((p : ℕ) → content_count e j whole (left - 1) (before + rows_by (line j)) p id content ≡ Some m) → (p : ℕ)
        → counts_at e left k before (p + at) (drop at bytes) ≡ count_from e left p bytes (record { state = next; at = to; row = m })
    place_past next m on counted p =
        let place : p + at + ((span_of (drop at bytes)).octets + (span_of (drop at bytes)).length) ≡ p + to = omega (arith, same_whole) in
        let there = at_on e (left - 1) k before (p + at) (drop at bytes) short measured j found_there next m (same_count (p + at) ∙ counted _) (judged_same ∙ on)
        ∙ ap₂ (λ (q : ℕ) (l : List ℕ). counts_at e (suc (left - 1)) next m q l) place same_rest in
        subst (λ (l : ℕ). counts_at e l k before (p + at) (drop at bytes) ≡ counts_at e l next m (p + to) (drop to bytes)) level there

  -- its whole length is that of a certReqId with as much content
  pub place_sized : Sized whole content
  place_sized =
      let size : length content ≡ to - from = length-slice from to bytes (omega (arith, place_fits)) in
      let two : x.length ≤ 127 → x.octets ≡ 2 =
      subst (λ (y : Span). y.length ≤ 127 → y.octets ≡ 2) (sym is) (span_small (drop at bytes) measured) in
      record {
        small = λ few. omega (arith, two (omega (arith, size)), size);
        large = λ many. omega (arith, place_fits, size);
      }

-- at the end of the bytes
module _ (e left k n at : ℕ) (bytes : List ℕ) (over : length bytes ≤ at) (p : ℕ) where
  nothing_left : drop at bytes ≡ []
  nothing_left = drop_of_length-le bytes over

  -- the rows before are those of all, if the container may end
  pub ends : counts_at e left k n p (drop at bytes) ≡ then_some (closed k) n
  ends = ap (counts_at e left k n p) nothing_left ∙ go (closed k) refl
    where
      go : (b : Bool) → closed k ≡ b → counts_at e left k n p [] ≡ then_some (closed k) n
      go true shut = at_end e left k n p shut ∙ ap (λ (b : Bool). then_some b n) (sym shut)
      go false stays = at_open e left k n p stays ∙ ap (λ (b : Bool). then_some b n) (sym stays)
