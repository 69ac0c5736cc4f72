-- The rows that the walk over the lines finds are the rows of the grammar's meaning: an element's rows are made in one way from its line's
-- kinds, the rows inside it and the rows after it, and the line shows what the derivation took. So the rows depend on the tree alone, and
-- the counting walk counts them. Assumes nothing.
use Prim.Native.Nat.{ℕ, ◌+◌}
use native.Mathlib.Omega.{arith}
use mathlib.Core.Path.{◌≡◌, refl, sym, ◌∙◌, ap, ap₂, subst, fun_ext}
use mathlib.Core.Bool.{Bool, true, false, ◌&&◌}
use mathlib.Core.List.{List, [], ◌∷◌, ◌++◌, map}
use mathlib.Core.Option.{Option}
use lib.Dec.{T, eqb}
use lib.ListN.{length, length-append}
use Rattle.der.specs.meaning.Tree.{Tree, none, element}
use Rattle.crmf.specs.steps.explain.Tally.{Tally}
use Rattle.std.specs.Prelude.{None, Ok, Some}
use Rattle.crmf.specs.meaning.Value.{keeps}
use Rattle.crmf.specs.meaning.Notation.{Mark, both, alone, mark_of, Name, Inside, free, holds, Form, Occurs, part, Parts, ◌then◌}
use Rattle.crmf.specs.meaning.Grammar.{content}
use Rattle.crmf.specs.meaning.Language.{passable, Matches, end, pass, take, choose, Within, unseen, parts}
use Rattle.crmf.specs.steps.grammar.Lines
use Rattle.crmf.specs.steps.grammar.Lines.{Judge, keep, Line, start, inside_line}
use Rattle.crmf.specs.steps.explain.Walk.{line, find_line, judged, rows_of_kind, with_long_id, with_form, with_element, walk, Passed}
use Rattle.crmf.specs.meaning.Rows.{Row, Extent, extent_of, row_with, row_if, parent_if, rows, rows_in, long_id}
use Rattle.crmf.specs.steps.rows.Fill.{goes, rows_from}
use Rattle.crmf.proofs.theorems.explain.Passing.{judged_kept, judged_way, kept_onward, way_onward, inner_walk, inner_free, inner_walked, passed_element, passed_none}
use Rattle.crmf.proofs.theorems.grammar.Choices.{Choice, taking, choosing, choices, determinate_apart, only_choice}
use Rattle.crmf.proofs.theorems.lines.LinesOfParts.{Stands, stands_start, starts_past, Shows, Finds, find_line_chooses}
use Rattle.crmf.proofs.theorems.grammar.ChoicesMatch.{holds-true, Keeps, Begins, begins_past, matches_begin}
use Rattle.crmf.proofs.theorems.values.ValueRules.{way_selected}
use Rattle.crmf.proofs.theorems.rows.Writing.{rows_given}

-- The rows of an element with the kinds of its own row and of the row that it gives the element around it, and of the elements after it:
-- inner makes the rows inside it from their first number and their parent, and later those after it from their first number.
unfoldable pub rows_one : (kind item : ℕ) (here : Extent) → (ℕ → ℕ → List Row) → (ℕ → List Row) → (n up : ℕ) (extent : Extent) → List Row
rows_one kind item here inner later n up extent =
    let around = row_if item extent up in
    let above = parent_if item n up in
    let own = row_if kind here above in
    let next = n + length around in
    let within = inner (next + length own) (parent_if kind next above) in
    around ++ (own ++ (within ++ later (next + length own + length within)))

-- the rows inside an element whose inside starts at a line: none if that is 0
unfoldable pub rows_within : ℕ → Tree → (n up : ℕ) (extent : Extent) → List Row
rows_within i inside n up extent = elim (eqb i 0) [ true ↦ [] | false ↦ rows_from i inside n up extent ]

-- a free inside has no rows
pub inner_no_rows : (i : ℕ) (inside : Tree) (n up : ℕ) (extent : Extent) → eqb i 0 ≡ true → rows_within i inside n up extent ≡ []
unfolding rows_within
inner_no_rows i inside n up extent e = rw (e, rows_within)

-- an inside that starts at a line has the rows from there
pub inner_rows_lem : (i : ℕ) (inside : Tree) (n up : ℕ) (extent : Extent) → eqb i 0 ≡ false
    → rows_within i inside n up extent ≡ rows_from i inside n up extent
unfolding rows_within
inner_rows_lem i inside n up extent e = rw (e, rows_within)

-- the rows of an element that fits no part
pub rows_nowhere : (k id p w : ℕ) (c : List ℕ) (inside rest : Tree) (n up : ℕ) (extent : Extent) → find_line k id ≡ None
    → rows_from k (element id p w c inside rest) n up extent ≡ []
unfolding rows_from
rows_nowhere k id p w c inside rest n up extent e = rw (e, rows_from)

-- the rows of an element whose line is found
pub rows_found : (k id p w : ℕ) (c : List ℕ) (inside rest : Tree) (n up : ℕ) (extent : Extent) (m : ℕ) → find_line k id ≡ Some m
    → rows_from k (element id p w c inside rest) n up extent
    ≡ rows_one (line m).kind (line m).item (extent_of p w c) (λ j u. rows_within (line m).inside inside j u (extent_of p w c))
    (λ j. rows_from (goes (line m).judge (line m).next c) rest j up extent) n up extent
unfolding rows_from rows_within rows_one
rows_found k id p w c inside rest n up extent m e = rw (e, rows_from)

-- a value that keeps its rule goes on as it is judged
judged_goes : (j : Judge) (next : ℕ) (c : List ℕ) (onward : ℕ) → judged j next c ≡ Ok onward → goes j next c ≡ onward
unfolding goes
judged_goes (keep r) next c onward e = (kept_onward r next onward c e).1
judged_goes (Lines.choose s) next c onward e = let (w, is, goes_on) = way_onward s next onward c e in rw (goes, is) goes_on

-- the rows from a line on, if the element's line and the line after it are known
pub rows_from_element : (k id p w : ℕ) (c : List ℕ) (inside rest : Tree) (n up : ℕ) (extent : Extent) (m onward : ℕ) → find_line k id ≡ Some m
    → judged (line m).judge (line m).next c ≡ Ok onward
    → rows_from k (element id p w c inside rest) n up extent
    ≡ rows_one (line m).kind (line m).item (extent_of p w c) (λ j u. rows_within (line m).inside inside j u (extent_of p w c))
    (λ j. rows_from onward rest j up extent) n up extent
rows_from_element k id p w c inside rest n up extent m onward e j =
    rows_found k id p w c inside rest n up extent m e
    ∙ ap (λ (o : ℕ). rows_one (line m).kind (line m).item (extent_of p w c) (λ j u. rows_within (line m).inside inside j u (extent_of p w c))
    (λ j. rows_from o rest j up extent) n up extent) (judged_goes (line m).judge (line m).next c onward j)

-- an element's rows depend only on the rows inside it and after it
pub rows_one_same : (kind item : ℕ) (here : Extent) (f g : ℕ → ℕ → List Row) (h i : ℕ → List Row) (n up : ℕ) (extent : Extent)
    → ((j u : ℕ) → f j u ≡ g j u) → ((j : ℕ) → h j ≡ i j) → rows_one kind item here f h n up extent ≡ rows_one kind item here g i n up extent
rows_one_same kind item here f g h i n up extent inner later =
    ap₂ (λ (x : ℕ → ℕ → List Row) (y : ℕ → List Row). rows_one kind item here x y n up extent)
    (fun_ext (λ j. fun_ext (λ u. inner j u))) (fun_ext later)

-- an element with no row, whose inside has none
pub rows_one_none : (here : Extent) (f : ℕ → ℕ → List Row) (h : ℕ → List Row) (n up : ℕ) (extent : Extent) → ((j u : ℕ) → f j u ≡ [])
    → rows_one 0 0 here f h n up extent ≡ h n
unfolding rows_one
rows_one_none here f h n up extent inner =
    let count : n + 0 + 0 + 0 ≡ n = omega arith in
    rw (inner (n + 0 + 0) up) (ap h count)

module _ (R : ℕ → Bool) where
  -- the rows of an element that keeps a choice, and of the elements after it
  rows_kept : (h : Choice) (here : Extent) (c : List ℕ) (inside rest : Tree) → Keeps R h c inside rest → (n up : ℕ) (extent : Extent) → List Row
  rows_kept (taking f ps) here c inside rest k n up extent =
      rows_one f.kind f.item here (λ j u. rows_in k.within j u here) (λ j. rows k.further j up extent) n up extent
  rows_kept (choosing id s ns) here c inside rest k n up extent = rows k.further n up extent

  -- the rows of what begins as some parts choose
  rows_begun : (ps : Parts) (t : Tree) → Begins R ps t → (n up : ℕ) (extent : Extent) → List Row
  rows_begun ps none b n up extent = []
  rows_begun ps (element id p w c inside rest) b n up extent =
      rows_kept b.choice (extent_of p w c) c inside rest b.keeping n up extent

  -- a part that is passed over leaves the rows as they are
  begun_past : (o : Occurs) (fs : List Form) (ps : Parts) (t : Tree) (ok : T (passable o)) (b : Begins R ps t) (n up : ℕ) (extent : Extent)
      → rows_begun ps t b n up extent ≡ rows_begun (part o fs then ps) t (begins_past R o fs ps t ok b) n up extent
  unfolding rows_begun begins_past
  begun_past o fs ps none ok b n up extent = refl
  begun_past o fs ps (element id p w c inside rest) ok b n up extent = refl

  -- A derivation's rows are those of how it begins.
  rows_begun_lem : {ps : Parts} {t : Tree} (m : Matches R ps t) (n up : ℕ) (extent : Extent)
      → rows m n up extent ≡ rows_begun ps t (matches_begin m) n up extent
  unfolding rows rows_kept rows_begun rows_one matches_begin
  rows_begun_lem end n up extent = refl
  rows_begun_lem (pass {o = o} {fs = fs} {ps = ps} {t = t} ok m) n up extent =
      rows_begun_lem m n up extent ∙ begun_past o fs ps t ok (matches_begin m) n up extent
  rows_begun_lem (take f among fits read kept within m) n up extent = refl
  rows_begun_lem (choose name way m) n up extent = refl

  -- the rows inside an element are those from the line where its inside starts
  rows_inside : (i : Inside) (inside : Tree) (within : Within R i inside)
      → ((a : Name) (m : Matches R (content a) inside) (n up : ℕ) (extent : Extent) → rows_from (start a) inside n up extent ≡ rows m n up extent)
      → (n up : ℕ) (extent : Extent) → rows_within (inside_line i) inside n up extent ≡ rows_in within n up extent
  unfolding inside_line rows_in
  rows_inside free inside unseen each n up extent = inner_no_rows 0 inside n up extent refl
  rows_inside (holds a) inside (parts m) each n up extent =
      inner_rows_lem (start a) inside n up extent (starts_past a) ∙ each a m n up extent

  -- the rows from the line of the choice that an element keeps
  rows_first : (k id p w m : ℕ) (c : List ℕ) (inside rest : Tree) (h : Choice) → find_line k id ≡ Some m → Shows h (line m)
      → (kept : Keeps R h c inside rest)
      → ((a : Name) (d : Matches R (content a) inside) (n up : ℕ) (extent : Extent) → rows_from (start a) inside n up extent ≡ rows d n up extent)
      → ((j : ℕ) (ps : Parts) → Stands j ps → (d : Matches R ps rest) (n up : ℕ) (extent : Extent)
      → rows_from j rest n up extent ≡ rows d n up extent)
      → (n up : ℕ) (extent : Extent) → rows_from k (element id p w c inside rest) n up extent ≡ rows_kept h (extent_of p w c) c inside rest kept n up extent
  unfolding rows_kept
  rows_first k id p w m c inside rest (taking f ps) found shows kept each further n up extent =
      let x = line m in
      let here = extent_of p w c in
      let onward : judged x.judge x.next c ≡ Ok x.next =
      rw shows.judging (judged_kept f.rule x.next c (holds-true (keeps f.rule c) kept.kept)) in
      rows_from_element k id p w c inside rest n up extent m x.next found onward
      ∙ rw (shows.kinded, shows.itemed, shows.entered)
      (rows_one_same f.kind f.item here (λ j u. rows_within (inside_line f.inside) inside j u here) (λ j u. rows_in kept.within j u here)
      (λ j. rows_from x.next rest j up extent) (λ j. rows kept.further j up extent) n up extent
      (λ j u. rows_inside f.inside inside kept.within each j u here)
      (λ j. further x.next ps shows.onward kept.further j up extent))
  rows_first k id p w m c inside rest (choosing a t ns) found shows kept each further n up extent =
      let x = line m in
      let here = extent_of p w c in
      let (way, is, there) = (way_selected t c ns kept.name).0 kept.way in
      let onward : judged x.judge x.next c ≡ Ok (start kept.name) =
      rw shows.judging (judged_way t x.next c way is ∙ ap Ok (shows.onward way kept.name there)) in
      rows_from_element k id p w c inside rest n up extent m (start kept.name) found onward
      ∙ rw (shows.kinded, shows.itemed, shows.entered)
      (rows_one_none here (λ j u. rows_within 0 inside j u here) (λ j. rows_from (start kept.name) rest j up extent) n up extent
      (λ j u. inner_no_rows 0 inside j u here refl))
      ∙ further (start kept.name) (content kept.name) (stands_start kept.name) kept.further n up extent

  -- Where the lines of some parts stand, the rows from there on are those of a derivation from the parts.
  pub rows_stand : (t : Tree) (k : ℕ) (ps : Parts) → Stands k ps → (m : Matches R ps t) (n up : ℕ) (extent : Extent)
      → rows_from k t n up extent ≡ rows m n up extent
  unfolding rows_from rows_begun
  rows_stand none k ps stands m n up extent = sym (rows_begun_lem m n up extent)
  rows_stand (element id p w c inside rest) k ps stands m n up extent =
      let b = matches_begin m in
      let only = only_choice b.choice (choices ps) id (determinate_apart ps stands.determined) b.among b.identified in
      let (at, found, shows) = subst (λ (o : Option Choice). Finds o (find_line k id)) only (find_line_chooses ps k stands id) in
      rows_first k id p w at c inside rest b.choice found shows b.keeping
      (λ a d. rows_stand inside (start a) (content a) (stands_start a) d) (λ j qs st d. rows_stand rest j qs st d) n up extent
      ∙ sym (rows_begun_lem m n up extent)

-- The rows that the walk over the lines finds are those of any derivation.
pub rows_lines : {R : ℕ → Bool} (name : Name) {t : Tree} (m : Matches R (content name) t) (n up : ℕ) (extent : Extent)
    → rows_from (start name) t n up extent ≡ rows m n up extent
rows_lines {R = R} name {t = t} m = rows_stand R t (start name) (content name) (stands_start name) m

-- Two derivations of one tree have the same rows, whichever forms each may read.
pub rows_same : {R Q : ℕ → Bool} (name : Name) {t : Tree} (m : Matches R (content name) t) (d : Matches Q (content name) t)
    (n up : ℕ) (extent : Extent) → rows m n up extent ≡ rows d n up extent
rows_same name m d n up extent = sym (rows_lines name m n up extent) ∙ rows_lines name d n up extent

-- a kind of 0 has no row
pub row_none : (kind : ℕ) (extent : Extent) (parent : ℕ) → eqb kind 0 ≡ true → row_if kind extent parent ≡ []
row_none kind extent parent e = rw (e, row_if)

-- and leaves the parent
pub parent_none : (kind n up : ℕ) → eqb kind 0 ≡ true → parent_if kind n up ≡ up
parent_none kind n up e = rw (e, parent_if)

-- another kind has a row
pub row_own : (kind : ℕ) (extent : Extent) (parent : ℕ) → eqb kind 0 ≡ false
    → row_if kind extent parent ≡ row_with kind extent parent ∷ []
row_own kind extent parent e = rw (e, row_if)

-- so an element's own row is another row mapped, if its row would be
pub row_mapped : (f : Row → Row) (kind : ℕ) (here there : Extent) (up below : ℕ) → row_with kind there below ≡ f (row_with kind here up)
    → row_if kind there below ≡ map f (row_if kind here up)
row_mapped f kind here there up below same = go (eqb kind 0) refl
  where
    go : (b : Bool) → eqb kind 0 ≡ b → row_if kind there below ≡ map f (row_if kind here up)
    go true e = row_none kind there below e ∙ sym (ap (map f) (row_none kind here up e))
    go false e = row_own kind there below e ∙ ap (λ (r : Row). r ∷ []) same ∙ sym (ap (map f) (row_own kind here up e))

-- which is the parent of the rows inside
pub parent_own : (kind n up : ℕ) → eqb kind 0 ≡ false → parent_if kind n up ≡ n
parent_own kind n up e = rw (e, parent_if)

-- noting a form leaves the count
noted_count : (m : Mark) (p : ℕ) (s : Tally) → (with_form m p s).count ≡ s.count
unfolding with_form
noted_count both p s = refl
noted_count (alone e d detail) p s = by_one (eqb e 1 && eqb s.one.number 0) refl
  where
    by_two : (eqb e 1 && eqb s.one.number 0) ≡ false → (b : Bool) → (eqb e 2 && eqb s.two.number 0) ≡ b → (with_form (alone e d detail) p s).count ≡ s.count
    by_two f true t = rw (with_form, f) (rw t)
    by_two f false t = rw (with_form, f) (rw t)

    by_one : (b : Bool) → (eqb e 1 && eqb s.one.number 0) ≡ b → (with_form (alone e d detail) p s).count ≡ s.count
    by_one true t = rw (with_form, t)
    by_one false t = by_two t (eqb e 2 && eqb s.two.number 0) refl

-- as does a long certReqId
lengthy_count : (kind p w : ℕ) (s : Tally) → (with_long_id kind p w s).count ≡ s.count
unfolding with_long_id
lengthy_count kind p w s = go (long_id kind w && eqb s.long.whole 0) refl
  where
    go : (b : Bool) → (long_id kind w && eqb s.long.whole 0) ≡ b → (with_long_id kind p w s).count ≡ s.count
    go true t = rw (with_long_id, t)
    go false t = rw (with_long_id, t)

-- an element's line counts the rows of its kinds
pub met_count : (x : Line) (c : List ℕ) (p w : ℕ) (s : Tally) → (with_element x c p w s).count ≡ s.count + (rows_of_kind x.item + rows_of_kind x.kind)
unfolding with_element
met_count x c p w s =
    ap (λ (n : ℕ). n + (rows_of_kind x.item + rows_of_kind x.kind)) (lengthy_count x.kind p w (with_form (mark_of x.marking c) p s) ∙ noted_count (mark_of x.marking c) p s)

-- an element's rows are as many as its kinds have, with those inside it and those after it, counted up from a to d
rows_one_count : (kind item : ℕ) (here : Extent) (inner : ℕ → ℕ → List Row) (later : ℕ → List Row) (n up : ℕ) (extent : Extent) (a b d : ℕ)
    → ((j u : ℕ) → length (inner j u) + (a + (rows_of_kind item + rows_of_kind kind)) ≡ b) → ((j : ℕ) → length (later j) + b ≡ d)
    → length (rows_one kind item here inner later n up extent) + a ≡ d
unfolding rows_one
rows_one_count kind item here inner later n up extent a b d within further =
    let around = row_if item extent up in
    let above = parent_if item n up in
    let own = row_if kind here above in
    let next = n + length around in
    let inside = inner (next + length own) (parent_if kind next above) in
    let rest = later (next + length own + length inside) in
    omega (
      arith,
      length-append around (own ++ (inside ++ rest)),
      length-append own (inside ++ rest),
      length-append inside rest,
      rows_given item extent up,
      rows_given kind here above,
      within (next + length own) (parent_if kind next above),
      further (next + length own + length inside),
    )

-- the count of an inside that the walk passes
inner_count : (R : ℕ → Bool) (m r : Tally) (i first : ℕ) (inside : Tree) (n up : ℕ) (extent : Extent)
    → (walk R m i first inside ≡ Passed r → length (rows_from i inside n up extent) + m.count ≡ r.count)
    → inner_walk R m i first inside ≡ Passed r → length (rows_within i inside n up extent) + m.count ≡ r.count
inner_count R m r i first inside n up extent each w = go (eqb i 0) refl
  where
    go : (b : Bool) → eqb i 0 ≡ b → length (rows_within i inside n up extent) + m.count ≡ r.count
    go true e =
        let same : m ≡ r = cc (inner_free R m i first inside e) in
        omega (arith, ap length (inner_no_rows i inside n up extent e), ap (λ (s : Tally). s.count) same)
    go false e = rw (inner_rows_lem i inside n up extent e) (each (sym (inner_walked R m i first inside e) ∙ w))

-- The counting walk's count is the number of rows.
pub rows_count : (R : ℕ → Bool) (t : Tree) (s r : Tally) (k around n up : ℕ) (extent : Extent) → walk R s k around t ≡ Passed r
    → length (rows_from k t n up extent) + s.count ≡ r.count
unfolding rows_from
rows_count R none s r k around n up extent passed =
    omega (arith, ap (λ (m : Tally). m.count) (passed_none R s k around r passed).1)
rows_count R (element id p w c inside rest) s r k around n up extent passed =
    let e = passed_element R s k around id p w c inside rest r passed in
    let x = line e.at in
    let m = with_element x c p w s in
    let here = extent_of p w c in
    let inner : ℕ → ℕ → List Row = λ j u. rows_within x.inside inside j u here in
    let later : ℕ → List Row = λ j. rows_from e.next rest j up extent in
    let within : (j u : ℕ) → length (rows_within x.inside inside j u here) + m.count ≡ e.seen.count =
    λ j u. inner_count R m e.seen x.inside p inside j u here (rows_count R inside m e.seen x.inside p j u here) e.inner in
    let further : (j : ℕ) → length (rows_from e.next rest j up extent) + e.seen.count ≡ r.count =
    λ j. rows_count R rest e.seen r e.next around j up extent e.further in
    ap (λ (l : List Row). length l + s.count) (rows_from_element k id p w c inside rest n up extent e.at e.next e.found e.onward)
    ∙ rows_one_count x.kind x.item here inner later n up extent s.count e.seen.count r.count
    (λ j u. ap (λ (a : ℕ). length (inner j u) + a) (sym (met_count x c p w s)) ∙ within j u) further

-- The count of a walk over a container's elements is the number of any derivation's rows.
pub walk_counts : {R : ℕ → Bool} (Q : ℕ → Bool) (name : Name) {t : Tree} (m : Matches R (content name) t) (s r : Tally) (around n up : ℕ) (extent : Extent)
    → walk Q s (start name) around t ≡ Passed r → length (rows m n up extent) + s.count ≡ r.count
walk_counts Q name {t = t} m s r around n up extent passed =
    ap (λ (l : List Row). length l + s.count) (sym (rows_lines name m n up extent))
    ∙ rows_count Q t s r (start name) around n up extent passed
