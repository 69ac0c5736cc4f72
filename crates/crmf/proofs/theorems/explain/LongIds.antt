-- The counting walk's certReqId "of more than 8 content octets" is the first row that is one, whichever derivation gives the rows: only a
-- line's own kind can be a certReqId's. Assumes nothing.
use Prim.Native.Nat.{ℕ, ◌+◌}
use native.Mathlib.Omega.{arith}
use mathlib.Core.Path.{◌≡◌, refl, sym, ◌∙◌, ap}
use mathlib.Core.Bool.{Bool, true, false, ◌&&◌, not, and-eq-true_iff}
use mathlib.Core.List.{List, [], ◌∷◌, ◌++◌}
use lib.Dec.{eqb, ltb}
use lib.ListN.{length}
use borrow.Author.Tests.{eqb-true, eq-eqb, ltb-true, ne_eqb}
use Rattle.der.specs.meaning.Tree.{Tree, none, element}
use Rattle.crmf.specs.steps.explain.Tally.{Tally}
use Rattle.crmf.specs.meaning.Kinds as kinds
use Rattle.crmf.specs.meaning.Notation.{Mark, both, alone, mark_of, Name}
use Rattle.crmf.specs.meaning.Grammar.{content}
use Rattle.crmf.specs.meaning.Language.{Matches}
use Rattle.crmf.specs.steps.grammar.Lines.{Line, start}
use Rattle.crmf.specs.steps.explain.Walk.{line, with_long_id, with_form, with_element, walk, Passed}
use Rattle.crmf.specs.meaning.Rows.{Row, Extent, extent_of, no_extent, row_if, parent_if, rows, long_id, all_short}
use Rattle.crmf.specs.steps.explain.LongIds.{longer, first_long}
use Rattle.crmf.specs.steps.rows.Fill.{rows_from}
use Rattle.crmf.proofs.theorems.lines.WordFields.{computed, at_line}
use Rattle.crmf.proofs.theorems.explain.Passing.{inner_walk, inner_free, inner_walked, passed_element, passed_none}
use Rattle.crmf.proofs.theorems.rows.RowsOfLines.{rows_one, rows_within, inner_no_rows, inner_rows_lem, rows_from_element, rows_lines, row_none, row_own}

-- what a walk has met of long certReqIds
abbrev known : Tally → ℕ × ℕ
known s = (s.long.whole, s.long.place)

-- no item of the table is a certReqId
item_not_id : (k : ℕ) → not (eqb (line k).item kinds.cert_req_id) ≡ true
unfolding computed
item_not_id = at_line (λ x. not (eqb x.item kinds.cert_req_id)) refl

-- the first in two lists of rows: the second list is searched with what is known after the first
long_append : (h : ℕ × ℕ) (a b : List Row) → first_long h (a ++ b) ≡ first_long (first_long h a) b
unfolding first_long
long_append h [] b = refl
long_append h (r ∷ rs) b = long_append (longer h r.kind r.first r.whole) rs b

-- another kind is no long certReqId
other_kind : (h : ℕ × ℕ) (kind p w : ℕ) → eqb kind kinds.cert_req_id ≡ false → longer h kind p w ≡ h
other_kind h kind p w e = rw (longer, long_id, e)

-- the row of a kind, if it has one
row_long : (h : ℕ × ℕ) (kind : ℕ) (here : Extent) (up : ℕ) → first_long h (row_if kind here up) ≡ longer h kind here.first here.whole
unfolding first_long
row_long h kind here up = go (eqb kind 0) refl
  where
    go : (b : Bool) → eqb kind 0 ≡ b → first_long h (row_if kind here up) ≡ longer h kind here.first here.whole
    go true e =
        let z : kind ≡ 0 = eqb-true kind 0 e in
        let o : eqb kind kinds.cert_req_id ≡ false = ap (λ (n : ℕ). eqb n kinds.cert_req_id) z in
        ap (first_long h) (row_none kind here up e) ∙ sym (other_kind h kind here.first here.whole o)
    go false e = ap (first_long h) (row_own kind here up e)

-- the row of an item is no long certReqId
item_long : (h : ℕ × ℕ) (item : ℕ) (here : Extent) (up : ℕ) → not (eqb item kinds.cert_req_id) ≡ true → first_long h (row_if item here up) ≡ h
item_long h item here up e = row_long h item here up ∙ other_kind h item here.first here.whole (denied (eqb item kinds.cert_req_id) e)
  where
    denied : (b : Bool) → not b ≡ true → b ≡ false
    denied true f = sym f
    denied false f = refl

-- noting a form leaves what is known
noted_long : (m : Mark) (p : ℕ) (s : Tally) → known (with_form m p s) ≡ known s
unfolding with_form
noted_long both p s = refl
noted_long (alone e d detail) p s = by_one (eqb e 1 && eqb s.one.number 0) refl
  where
    by_two : (eqb e 1 && eqb s.one.number 0) ≡ false → (b : Bool) → (eqb e 2 && eqb s.two.number 0) ≡ b → known (with_form (alone e d detail) p s) ≡ known s
    by_two f true t = rw (with_form, f) (rw t)
    by_two f false t = rw (with_form, f) (rw t)

    by_one : (b : Bool) → (eqb e 1 && eqb s.one.number 0) ≡ b → known (with_form (alone e d detail) p s) ≡ known s
    by_one true t = rw (with_form, t)
    by_one false t = by_two t (eqb e 2 && eqb s.two.number 0) refl

-- the element's kind and length are added to it
lengthy_long : (kind p w : ℕ) (s : Tally) → known (with_long_id kind p w s) ≡ longer (known s) kind p w
unfolding with_long_id
lengthy_long kind p w s = go (long_id kind w && eqb s.long.whole 0) refl
  where
    go : (b : Bool) → (long_id kind w && eqb s.long.whole 0) ≡ b → known (with_long_id kind p w s) ≡ longer (known s) kind p w
    go true t = rw (with_long_id, longer, t)
    go false t = rw (with_long_id, longer, t)

-- what is known with an element in a line's form
pub met_long : (x : Line) (c : List ℕ) (p w : ℕ) (s : Tally) → ((with_element x c p w s).long.whole, (with_element x c p w s).long.place) ≡ longer (s.long.whole, s.long.place) x.kind p w
unfolding with_element
met_long x c p w s =
    lengthy_long x.kind p w (with_form (mark_of x.marking c) p s) ∙ ap (λ (h : ℕ × ℕ). longer h x.kind p w) (noted_long (mark_of x.marking c) p s)

-- an element's rows: what is known goes from a to b with its own row and the rows inside it, and from b to d with those after it
rows_one_long : (kind item : ℕ) (here : Extent) (inner : ℕ → ℕ → List Row) (later : ℕ → List Row) (n up : ℕ) (extent : Extent) (a b d : ℕ × ℕ)
    → not (eqb item kinds.cert_req_id) ≡ true → ((j u : ℕ) → first_long (longer a kind here.first here.whole) (inner j u) ≡ b) → ((j : ℕ) → first_long b (later j) ≡ d)
    → first_long a (rows_one kind item here inner later n up extent) ≡ d
unfolding rows_one
rows_one_long kind item here inner later n up extent a b d other within further =
    let around = row_if item extent up in
    let above = parent_if item n up in
    let own = row_if kind here above in
    let next = n + length around in
    let inside = inner (next + length own) (parent_if kind next above) in
    let rest = later (next + length own + length inside) in
    long_append a around (own ++ (inside ++ rest))
    ∙ ap (λ (h : ℕ × ℕ). first_long h (own ++ (inside ++ rest))) (item_long a item extent up other)
    ∙ long_append a own (inside ++ rest)
    ∙ ap (λ (h : ℕ × ℕ). first_long h (inside ++ rest)) (row_long a kind here above)
    ∙ long_append (longer a kind here.first here.whole) inside rest
    ∙ ap (λ (h : ℕ × ℕ). first_long h rest) (within (next + length own) (parent_if kind next above))
    ∙ further (next + length own + length inside)

-- an inside that the walk passes
inner_long : (R : ℕ → Bool) (m r : Tally) (i first : ℕ) (inside : Tree) (n up : ℕ) (extent : Extent)
    → (walk R m i first inside ≡ Passed r → first_long (known m) (rows_from i inside n up extent) ≡ known r)
    → inner_walk R m i first inside ≡ Passed r → first_long (known m) (rows_within i inside n up extent) ≡ known r
unfolding first_long
inner_long R m r i first inside n up extent each w = go (eqb i 0) refl
  where
    go : (b : Bool) → eqb i 0 ≡ b → first_long (known m) (rows_within i inside n up extent) ≡ known r
    go true e =
        let same : m ≡ r = cc (inner_free R m i first inside e) in
        ap (first_long (known m)) (inner_no_rows i inside n up extent e) ∙ ap known same
    go false e =
        ap (first_long (known m)) (inner_rows_lem i inside n up extent e) ∙ each (sym (inner_walked R m i first inside e) ∙ w)

-- The long certReqId that the counting walk has met is the first row that is one.
pub rows_long : (R : ℕ → Bool) (t : Tree) (s r : Tally) (k around n up : ℕ) (extent : Extent) → walk R s k around t ≡ Passed r
    → first_long (s.long.whole, s.long.place) (rows_from k t n up extent) ≡ (r.long.whole, r.long.place)
unfolding rows_from first_long
rows_long R none s r k around n up extent passed = ap known (passed_none R s k around r passed).1
rows_long R (element id p w c inside rest) s r k around n up extent passed =
    let e = passed_element R s k around id p w c inside rest r passed in
    let x = line e.at in
    let m = with_element x c p w s in
    let here = extent_of p w c in
    let inner : ℕ → ℕ → List Row = λ j u. rows_within x.inside inside j u here in
    let later : ℕ → List Row = λ j. rows_from e.next rest j up extent in
    let within : (j u : ℕ) → first_long (known m) (rows_within x.inside inside j u here) ≡ known e.seen =
    λ j u. inner_long R m e.seen x.inside p inside j u here (rows_long R inside m e.seen x.inside p j u here) e.inner in
    let further : (j : ℕ) → first_long (known e.seen) (rows_from e.next rest j up extent) ≡ known r =
    λ j. rows_long R rest e.seen r e.next around j up extent e.further in
    ap (first_long (known s)) (rows_from_element k id p w c inside rest n up extent e.at e.next e.found e.onward)
    ∙ rows_one_long x.kind x.item here inner later n up extent (known s) (known e.seen) (known r) (item_not_id e.at)
    (λ j u. ap (λ (h : ℕ × ℕ). first_long h (inner j u)) (sym (met_long x c p w s)) ∙ within j u) further

-- The long certReqId that a walk over a container's elements has met is the first of any derivation's rows that is one.
pub walk_long : {R : ℕ → Bool} (Q : ℕ → Bool) (name : Name) {t : Tree} (m : Matches R (content name) t) (s r : Tally) (around n up : ℕ) (extent : Extent)
    → walk Q s (start name) around t ≡ Passed r → first_long (s.long.whole, s.long.place) (rows m n up extent) ≡ (r.long.whole, r.long.place)
walk_long Q name {t = t} m s r around n up extent passed =
    ap (first_long (known s)) (sym (rows_lines name m n up extent)) ∙ rows_long Q t s r (start name) around n up extent passed

-- with one more row, no long certReqId is known if none was and the row is not one
longer_none : (h : ℕ × ℕ) (kind p w : ℕ) (c : Bool) → (eqb (longer h kind p w).0 0 && c) ≡ (eqb h.0 0 && (not (long_id kind w) && c))
longer_none h kind p w c = go (long_id kind w) (eqb h.0 0) refl refl
  where
    past : (a : Bool) → (a && ltb 10 w) ≡ true → eqb w 0 ≡ false
    past true t = ne_eqb w 0 (λ (z : w ≡ 0). omega (arith, ltb-true 10 w t))
    past false t = let z : ◌≡◌ {A = ℕ} 0 1 = cc t in absurd (omega arith)

    go : (a b : Bool) → long_id kind w ≡ a → eqb h.0 0 ≡ b
        → (eqb (longer h kind p w).0 0 && c) ≡ (eqb h.0 0 && (not (long_id kind w) && c))
    go true true t e = rw (longer, t, e) (rw (past (eqb kind kinds.cert_req_id) t))
    go true false t e = rw (longer, t, e) (rw e)
    go false true t e = rw (longer, t, e)
    go false false t e = rw (longer, t, e)

-- after some rows, no long certReqId is known if none was and no row is one
long_known : (h : ℕ × ℕ) (rs : List Row) → eqb (first_long h rs).0 0 ≡ (eqb h.0 0 && all_short rs)
unfolding first_long all_short
long_known h [] = go (eqb h.0 0)
  where
    go : (b : Bool) → b ≡ (b && true)
    go true = refl
    go false = refl
long_known h (r ∷ rs) =
    long_known (longer h r.kind r.first r.whole) rs ∙ longer_none h r.kind r.first r.whole (all_short rs)

-- If nothing was known, nothing is known exactly when no row is one.
pub long_none : (rs : List Row) → eqb (first_long (0, 0) rs).0 0 ≡ all_short rs
long_none rs = long_known (0, 0) rs

-- If nothing is known after some rows, nothing was known before them.
none_before : (s r : Tally) (rs : List Row) → first_long (known s) rs ≡ known r → r.long.whole ≡ 0 → s.long.whole ≡ 0
none_before s r rs is zero =
    let both-none = ap (λ (h : ℕ × ℕ). eqb h.0 0) is ∙ eq-eqb r.long.whole 0 zero in
    eqb-true s.long.whole 0 ((and-eq-true_iff (eqb s.long.whole 0) (all_short rs)).0 (sym (long_known (known s) rs) ∙ both-none)).0

-- If a walk passes and has met no long certReqId, none was met before it.
pub walk_short : (R : ℕ → Bool) (t : Tree) (s r : Tally) (k around : ℕ) → walk R s k around t ≡ Passed r → r.long.whole ≡ 0 → s.long.whole ≡ 0
walk_short R t s r k around passed = none_before s r (rows_from k t 0 0 no_extent) (rows_long R t s r k around 0 0 no_extent passed)

-- The same holds before an inside.
pub inner_short : (R : ℕ → Bool) (m r : Tally) (i first : ℕ) (inside : Tree) → inner_walk R m i first inside ≡ Passed r → r.long.whole ≡ 0 → m.long.whole ≡ 0
inner_short R m r i first inside passed =
    none_before m r (rows_within i inside 0 0 no_extent)
    (inner_long R m r i first inside 0 0 no_extent (rows_long R inside m r i first 0 0 no_extent) passed)

-- If no long certReqId is known after an element in a line's form, the element is not one.
pub met_short : (x : Line) (c : List ℕ) (p w : ℕ) (s : Tally) → (with_element x c p w s).long.whole ≡ 0 → not (long_id x.kind w) ≡ true
met_short x c p w s zero =
    let nothing = ap (λ (h : ℕ × ℕ). eqb h.0 0 && true) (sym (met_long x c p w s)) ∙ ap (λ (n : ℕ). eqb n 0 && true) zero in
    ((and-eq-true_iff (not (long_id x.kind w)) true).0
    ((and-eq-true_iff (eqb s.long.whole 0) _).0 (sym (longer_none (known s) x.kind p w true) ∙ nothing)).1).0
