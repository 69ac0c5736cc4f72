-- The rows of one element by the places that code finds: its own, those inside it, and those of the elements after it. Assumes nothing.
use Prim.Native.Nat.{ℕ, ◌+◌, ◌-◌, ◌*◌, ◌≤◌, ◌<◌}
use mathlib.Core.Path.{◌≡◌, refl, sym, ap, ap₂, ◌∙◌}
use mathlib.Core.Bool.{Bool, true, false}
use mathlib.Core.List.{List, [], ◌++◌, append_assoc}
use native.Mathlib.Omega.{arith}
use lib.Dec.{eqb}
use lib.ListN.{length, length-append}
use lib.Seq.{slice, take-length}
use borrow.Author.Tests.{ne_eqb, le-leb, lt-leb}
use Rattle.der.specs.meaning.Identifier.{constructed}
use Rattle.der.specs.meaning.Tree.{Tree, none, element}
use Rattle.der.specs.meaning.Bounds.{longest}
use Rattle.der.specs.steps.Reading.{reading_at, tree}
use Rattle.crmf.specs.declared.grammar.element.Fit.{Fit}
use Rattle.crmf.specs.declared.rows.Around.{Around}
use Rattle.crmf.specs.declared.rows.Numbers.{Numbers}
use Rattle.crmf.specs.declared.rows.Spot.{Spot}
use Rattle.std.specs.Prelude.{None, Some}
use Rattle.crmf.specs.meaning.Notation.{order}
use Rattle.crmf.specs.steps.grammar.Lines.{start, starts_from}
use Rattle.crmf.specs.steps.explain.Walk.{line, find_line}
use Rattle.crmf.specs.steps.grammar.Fitting.{FitsAt}
use Rattle.crmf.specs.meaning.Rows.{Row, Extent, extent_of, no_extent, row_if, parent_if, width}
use Rattle.crmf.specs.steps.rows.Fill.{goes, rows_from, around_extent, fit_extent, rows_at, own_rows, row_above, inner_rows, written, fits, rows_of_input, filled, around_inside}
use Rattle.crmf.proofs.theorems.lines.Fitting.{fitted, fit_read, fit_content}
use Rattle.crmf.proofs.theorems.explain.Walking.{tree_read, found_constructed, at_end}
use Rattle.crmf.proofs.theorems.rows.RowsOfLines.{rows_one, rows_within, inner_no_rows, rows_nowhere, rows_found}
use Rattle.crmf.proofs.theorems.rows.Writing.{rows_given}

-- the extent of an element that fits a line, and the element around its inside, by its first byte
abbrev fitted_at : ℕ → Fit → Extent
fitted_at p f = record { first = p; whole = f.end - p; content = f.content }

abbrev here : ℕ → ℕ → Fit → ℕ → Around → Around
here n p f row a = record { up = row_above (line n) row a.up; place = p; whole = f.end - p; content = f.content }

-- The rows of one element of a tree: its own, those inside it, and those after it, from a number on and below a row.
module _ (k id p w : ℕ) (c : List ℕ) (inside rest : Tree) (row : ℕ) (a : Around) (n : ℕ) where
  abbrev extent : Extent
  extent = extent_of p w c

  tail : ℕ → ℕ → List Row
  tail i u =
      rows_within (line n).inside inside i u extent
      ++ rows_from (goes (line n).judge (line n).next c) rest (i + length (rows_within (line n).inside inside i u extent)) a.up (around_extent a)

  rows_split : find_line k id ≡ Some n → rows_from k (element id p w c inside rest) row a.up (around_extent a)
      ≡ own_rows (line n) extent row a ++ tail (row + length (own_rows (line n) extent row a)) (row_above (line n) row a.up)
  unfolding rows_one tail
  rows_split e =
      let item = row_if (line n).item (around_extent a) a.up in
      let above = parent_if (line n).item row a.up in
      let own = row_if (line n).kind extent above in
      let i : row + length item + length own ≡ row + length (item ++ own) = omega (arith, length-append item own) in
      let u : parent_if (line n).kind (row + length item) above ≡ row_above (line n) row a.up =
      ap (λ (m : ℕ). parent_if (line n).kind (row + m) above) (rows_given (line n).item (around_extent a) a.up) in
      rows_found k id p w c inside rest row a.up (around_extent a) n e
      ∙ sym (append_assoc item own (tail (row + length item + length own) (parent_if (line n).kind (row + length item) above)))
      ∙ ap (λ (l : List Row). (item ++ own) ++ l) (ap₂ tail i u)

-- an inside that has rows is the tree's
inside_found : (k id n i u : ℕ) (extent : Extent) (t : Tree) → find_line k id ≡ Some n
    → rows_within (line n).inside (elim (constructed id) [ true ↦ t | false ↦ none ]) i u extent ≡ rows_within (line n).inside t i u extent
inside_found k id n i u extent t e = by_inside (eqb (line n).inside 0) refl
  where
    by_inside : (b : Bool) → eqb (line n).inside 0 ≡ b
        → rows_within (line n).inside (elim (constructed id) [ true ↦ t | false ↦ none ]) i u extent ≡ rows_within (line n).inside t i u extent
    by_inside true f = inner_no_rows (line n).inside _ i u extent f ∙ sym (inner_no_rows (line n).inside t i u extent f)
    by_inside false f =
        let same : (elim (constructed id) [ true ↦ t | false ↦ none ]) ≡ t = rw (found_constructed k id n e f) in
        ap (λ (l : Tree). rows_within (line n).inside l i u extent) same

-- after the last element there are no rows
pub shown_end : (s : List ℕ) (q : Spot) (e : ℕ) (a : Around) → q.at ≡ e → rows_at s q e a ≡ []
unfolding rows_from
shown_end s q e a h = rw (at_end s q.at e h)

-- The same by places, over the element at a spot.
module _ (s : List ℕ) (q : Spot) (end : ℕ) (some : q.at < end) (fits : end ≤ length s) (high : length s ≤ longest) (a : Around) where
  -- it fits no line: there are no rows
  pub misfit_rows : find_line q.state (reading_at s q.at end).identifier ≡ None → rows_at s q end a ≡ []
  misfit_rows f =
      rw (tree_read s q.at end some fits high (reading_at s q.at end) refl)
      (rows_nowhere q.state _ q.at _ _ _ _ q.row a.up (around_extent a) f)

  -- it fits a line
  module _ (f : Fit) (h : FitsAt (reading_at s q.at end) q.at q.state f) where
    abbrev n : ℕ
    n = h.number

    abbrev octets : List ℕ
    octets = slice f.content f.end s

    abbrev own_of : List Row
    own_of = own_rows (line n) (fitted_at q.at f) q.row a

    -- the rows inside it, by the number of the first
    abbrev inner_of : ℕ → List Row
    inner_of i = inner_rows n s f.content f.end i (here n q.at f q.row a)

    -- the rows after it, by the line and the number of the first
    abbrev rest_of : ℕ → ℕ → List Row
    rest_of j i = rows_at s (record { state = j; at = f.end; row = i }) end a

    -- its extent by the element that is read
    extent_read : extent_of q.at (f.end - q.at) octets ≡ fitted_at q.at f
    extent_read =
        ap (λ (c : ℕ). record { first = q.at; whole = f.end - q.at; content = c })
        (sym (fit_content s q.at end q.state f h some fits high))

    -- the element's rows and those after it, by its extent and by what is inside it
    abbrev parted : Extent → Tree → List Row
    parted x t =
        let own = own_rows (line n) x q.row a in
        let within = rows_within (line n).inside t (q.row + length own) (row_above (line n) q.row a.up) x in
        own ++ (within ++ rest_of (goes (line n).judge (line n).next octets) (q.row + length own + length within))

    shown_found : rows_at s q end a
        ≡ (own_of ++ inner_of (q.row + length own_of))
        ++ rest_of (goes (line n).judge (line n).next octets) (q.row + length own_of + length (inner_of (q.row + length own_of)))
    unfolding tail rows_within
    shown_found =
        let p = q.at in
        let t = tree f.content octets in
        let kept : Tree = elim (constructed (reading_at s p end).identifier) [ true ↦ t | false ↦ none ] in
        let rest = tree f.end (slice f.end end s) in
        let i = q.row + length own_of in
        let u = row_above (line n) q.row a.up in
        let onward = goes (line n).judge (line n).next octets in
        let same : rows_within (line n).inside kept i u (fitted_at p f) ≡ inner_of i = inside_found q.state _ n i u (fitted_at p f) t h.found in
        rw (tree_read s p end some fits high (fitted s p end f) (fit_read s p end q.state f h))
        (rows_split q.state _ p (f.end - p) octets kept rest q.row a n h.found
        ∙ ap (λ (x : Extent). parted x kept) extent_read
        ∙ ap (λ (l : List Row). own_of ++ (l ++ rows_from onward rest (i + length l) a.up (around_extent a))) same
        ∙ sym (append_assoc own_of (inner_of i) (rest_of onward (i + length (inner_of i)))))

    -- the same by the places of the fit
    pub fit_rows : (let own = own_rows (line h.number) (fit_extent f) q.row a in
        let m = q.row + length own in
        let inner = inner_rows h.number s f.content f.end m (around_inside (line h.number) f (record { up = a.up; row = q.row; next = m })) in
        let st = goes (line h.number).judge (line h.number).next (slice f.content f.end s) in
        rows_at s q end a ≡ (own ++ inner) ++ rows_at s (record { state = st; at = f.end; row = m + length inner }) end a)
    fit_rows =
        let all : ℕ → List Row =
        λ p.
        (let own = own_rows (line n) (fitted_at p f) q.row a in
        let inner = inner_rows n s f.content f.end (q.row + length own) (here n p f q.row a) in
        (own ++ inner) ++ rest_of (goes (line n).judge (line n).next octets) (q.row + length own + length inner)) in
        shown_found ∙ ap all (sym h.first)

-- The rows of a list that is an element's inside are those inside the element.
pub held_inner : (k : ℕ) (s : List ℕ) (f : Fit) (m : Numbers) (start above : ℕ) → start ≡ (line k).inside
    → above ≡ row_above (line k) m.row m.up → ((line k).inside ≡ 0 → ⊥)
    → rows_at s (record { state = start; at = f.content; row = m.next }) f.end (record { up = above; place = f.first; whole = f.end - f.first; content = f.content })
    ≡ inner_rows k s f.content f.end m.next (around_inside (line k) f m)
held_inner k s f m start above starts is some =
    let rows : ℕ → ℕ → List Row =
    λ i u. rows_at s (record { state = i; at = f.content; row = m.next }) f.end (record { up = u; place = f.first; whole = f.end - f.first; content = f.content }) in
    let held : rows (line k).inside (row_above (line k) m.row m.up) ≡ inner_rows k s f.content f.end m.next (around_inside (line k) f m) =
    rw (inner_rows, ne_eqb _ _ some) in
    ap₂ rows starts is ∙ held

-- The rows of a whole input: none if it is too long, and otherwise those of the list of elements from 0 to its end.
module _ (s : List ℕ) where
  pub no_rows : longest < length s → rows_of_input s ≡ []
  unfolding rows_of_input
  no_rows long = rw (rows_of_input, lt-leb _ _ long)

  pub all_rows : length s ≤ longest
      → rows_of_input s ≡ rows_at s (record { state = 1; at = 0; row = 0 }) (length s) (record { up = 0; place = 0; whole = 0; content = 0 })
  unfolding rows_of_input start starts_from order
  all_rows short = rw (rows_of_input, le-leb _ _ short) (ap (λ (l : List ℕ). rows_from 1 (tree 0 l) 0 0 no_extent) (sym (take-length s)))

-- A table without room for a count of rows, and one with room.
module _ (s : List ℕ) (count : ℕ) (old : List ℕ) where
  pub fill_short : length old < width * count → (false ≡ fits count old) × (old ≡ filled s count old)
  unfolding filled fits
  fill_short few = (rw (fits, lt-leb _ _ few), rw (filled, lt-leb _ _ few))

  pub fill_whole : width * count ≤ length old → (new : List ℕ) → new ≡ written old 0 count (rows_of_input s)
      → (true ≡ fits count old) × (new ≡ filled s count old)
  unfolding filled fits
  fill_whole room new e = (rw (fits, le-leb _ _ room), e ∙ rw (filled, le-leb _ _ room))
