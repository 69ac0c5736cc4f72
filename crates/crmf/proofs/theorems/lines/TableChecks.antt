-- The whole table, checked by computing: the names' order, the insides, the ways onward, the kinds of rows and the selectors. Each test
-- runs over the table once, and the laws of tests carry it to every line. Assumes nothing.
use Prim.Native.Nat.{ℕ, ◌+◌, ◌<◌}
use mathlib.Core.Bool.{Bool, true, false, ◌&&◌, ◌||◌, and-eq-true_iff, false≢true}
use mathlib.Core.List.{List, ◌∷◌}
use mathlib.Core.Logic.{◌⊎◌, inl, inr, ⊎_elim}
use mathlib.Core.Option.{Option, some, none}
use mathlib.Core.Path.{◌≡◌, refl}
use native.Mathlib.Omega.{arith}
use borrow.Author.Tests.{eqb-true}
use lib.Dec.{eqb}
use lib.ListN.{length, get_or}
use Rattle.der.proofs.theorems.lists.Range.{every, each}
use Rattle.std.specs.Prelude.{Err, None, Ok, Some}
use Rattle.crmf.specs.meaning.Kinds as kinds
use Rattle.crmf.specs.meaning.Value.{keeps, Selector, selected}
use Rattle.crmf.specs.meaning.Notation.{Identifiers, octet, general_name, anything, nothing, named, among, order, names, Name, Top}
use Rattle.crmf.specs.meaning.Kinds.{row_kinds}
use Rattle.crmf.specs.steps.grammar.Lines.{Judge, keep, choose, Pass, ends, needed, another, over, Line, end_line, lines, start}
use Rattle.crmf.specs.steps.grammar.Packed.{pass_code, identifiers_code}
use Rattle.crmf.specs.steps.explain.Walk.{line, find_line_in, find_line, closed_in, closed, rule_detail, ways, judged, Onward, FoundLine}
use Rattle.crmf.proofs.theorems.lists.Tests.{any, any_get_d, all_among, either}
use Rattle.crmf.proofs.theorems.lines.WordFields.{computed, at_line, line_count, next_small}
use Rattle.crmf.proofs.theorems.grammar.Names.{at_each}
use Rattle.crmf.proofs.theorems.values.ValueRules.{selected_below}

-- No name stands twice in the names' order.
pub ordered : (k : ℕ) → k < length names → order (get_or names k Top) ≡ k
unfolding order
ordered k h = eqb-true _ _ (each (length names) (λ i. eqb (order (get_or names i Top)) i) refl k h)

-- An inside that isn't free is where a container starts.
pub inside_starts : (k : ℕ) → ((line k).inside ≡ 0) ⊎ ((n : Name) × ((line k).inside ≡ start n))
unfolding computed
inside_starts k =
    let starting : ℕ → Name → Bool = λ i n. eqb i (start n) in
    ⊎_elim (λ e. inl (eqb-true _ _ e))
    (λ e. let r = any_get_d (starting (line k).inside) Top names e in inr (get_or names r.0 Top, eqb-true _ _ r.1))
    (either _ _ (at_line (λ x. eqb x.inside 0 || any (starting x.inside) names) refl k))

-- No line gives a row of another kind, and each of them is given by some line.
pub kind_known : (k : ℕ) → among (kinds.none ∷ row_kinds) (line k).kind ≡ true
unfolding computed among
kind_known = at_line (λ x. among (kinds.none ∷ row_kinds) x.kind) refl

pub item_known : (k : ℕ) → among (kinds.none ∷ row_kinds) (line k).item ≡ true
unfolding computed among
item_known = at_line (λ x. among (kinds.none ∷ row_kinds) x.item) refl

pub kind_given : (n : ℕ) → among row_kinds n ≡ true → (k : ℕ) × (((line k).kind ≡ n) ⊎ ((line k).item ≡ n))
unfolding line computed
kind_given n h =
    let gives : ℕ → Line → Bool = λ m x. eqb x.kind m || eqb x.item m in
    let r = any_get_d (gives n) end_line lines (all_among (λ m. any (gives m) lines) row_kinds refl n h) in
    (r.0, ⊎_elim (λ e. inl (eqb-true _ _ e)) (λ e. inr (eqb-true _ _ e)) (either _ _ r.1))

-- a container may end at the line, or some identifier is found from it on
abbrev pub Lives : ℕ → Type 0
Lives n = (closed n ≡ true) ⊎ ((id : ℕ) × (m : ℕ) × (find_line n id ≡ Some m))

-- its test: one of the line's own identifiers is tried
abbrev one_of : Identifiers → ℕ
one_of (octet a) = a
one_of general_name = 0xA0
one_of anything = 0
one_of nothing = 0

abbrev found : FoundLine → Bool
found (Some k) = true
found None = false

abbrev lives : ℕ → Bool
lives n = closed n || found (find_line n (one_of (line n).identifiers))

at_found : (r : FoundLine) → found r ≡ true → (m : ℕ) × (r ≡ Some m)
at_found (Some k) e = (k, refl)
at_found None e = absurd (false≢true e)

lives_right : (n : ℕ) → lives n ≡ true → Lives n
lives_right n e =
    let id = one_of (line n).identifiers in
    ⊎_elim inl (λ h. let r = at_found (find_line n id) h in inr (id, r.0, r.1)) (either (closed n) (found (find_line n id)) e)

-- the test of what a line goes on with: a selector's ways, each of which only says where to go on, and then an end line
abbrev is_way : Line → Bool
is_way x = eqb (pass_code x.pass) (pass_code needed) && eqb (identifiers_code x.identifiers) (identifiers_code nothing)

abbrev way_at : ℕ → ℕ → Bool
way_at next w = is_way (line (next + w)) && lives (line (next + w)).next

abbrev goes_well : Judge → ℕ → Bool
goes_well (keep r) next = lives next
goes_well (choose s) next = eqb (pass_code (line (next + ways s)).pass) (pass_code ends) && every (ways s) (way_at next)

-- what it says of a selector: its last line, and its ways
last : (s : Selector) (next : ℕ) → goes_well (choose s) next ≡ true → pass_code (line (next + ways s)).pass ≡ pass_code ends
last s next t = eqb-true _ _ ((and-eq-true_iff (eqb (pass_code (line (next + ways s)).pass) (pass_code ends)) (every (ways s) (way_at next))).0 t).0

way : (s : Selector) (next : ℕ) → goes_well (choose s) next ≡ true → (w : ℕ) → w < ways s →
    (is_way (line (next + w)) ≡ true) × (lives (line (next + w)).next ≡ true)
way s next t w h =
    let p = ((and-eq-true_iff (eqb (pass_code (line (next + ways s)).pass) (pass_code ends)) (every (ways s) (way_at next))).0 t).1 in
    (and-eq-true_iff (is_way (line (next + w))) (lives (line (next + w)).next)).0 (each (ways s) (way_at next) p w h)

-- what the codes of a way and of an end line say
ends_code : (p : Pass) → pass_code p ≡ pass_code ends → p ≡ ends
unfolding pass_code
ends_code ends e = refl
ends_code needed e = absurd (omega arith)
ends_code another e = absurd (omega arith)
ends_code over e = absurd (omega arith)

needed_code : (p : Pass) → pass_code p ≡ pass_code needed → p ≡ needed
unfolding pass_code
needed_code ends e = absurd (omega arith)
needed_code needed e = refl
needed_code another e = absurd (omega arith)
needed_code over e = absurd (omega arith)

nothing_code : (i : Identifiers) → identifiers_code i ≡ identifiers_code nothing → i ≡ nothing
unfolding identifiers_code
nothing_code nothing e = refl
nothing_code anything e = absurd (omega arith)
nothing_code general_name e = absurd (omega arith)
nothing_code (octet a) e = absurd (omega arith)

way_code : (x : Line) → is_way x ≡ true → (x.identifiers ≡ nothing) × (x.pass ≡ needed)
way_code x e =
    let p = (and-eq-true_iff (eqb (pass_code x.pass) (pass_code needed)) (eqb (identifiers_code x.identifiers) (identifiers_code nothing))).0 e in
    (nothing_code x.identifiers (eqb-true _ _ p.1), needed_code x.pass (eqb-true _ _ p.0))

going : (k : ℕ) → goes_well (line k).judge (line k).next ≡ true
unfolding computed line find_line find_line_in closed closed_in named among
going = at_line (λ x. goes_well x.judge x.next) refl

-- a judgement that goes on has passed its test
to : (b : Bool) (d next n : ℕ) → (elim b as (λ x. Onward) [ true ↦ Ok next | false ↦ Err d ]) ≡ Ok n → (b ≡ true) × (next ≡ n)
to true d next n e = (refl, cc)
to false d next n e = let z : ◌≡◌ {A = ℕ} 0 1 = cc in absurd (omega arith)

-- After an element, whatever its value, the walk goes on with a line of the table where the container may end or an element is found.
pub onward_lives : (k : ℕ) (c : List ℕ) (n : ℕ) → judged (line k).judge (line k).next c ≡ Ok n → (n < line_count) × Lives n
unfolding judged
onward_lives k c n = go (line k).judge (line k).next (going k) (next_small k)
  where
    there : (m : ℕ) → m < line_count → lives m ≡ true → m ≡ n → (n < line_count) × Lives n
    there m h t e = (rw e at h, rw e at (lives_right m t))

    go : (j : Judge) (next : ℕ) → goes_well j next ≡ true → next < line_count → judged j next c ≡ Ok n → (n < line_count) × Lives n
    go (keep r) next t h e = there next h t (to (keeps r c) (rule_detail r c) next n e).1
    go (choose s) next t h e = by_way (selected s c) refl e
      where
        by_way : (o : Option ℕ) → selected s c ≡ o → (elim o as (λ x. Onward) [ some w ↦ Ok (line (next + w)).next | none ↦ Err 3 ]) ≡ Ok n
            → (n < line_count) × Lives n
        by_way none is e = let z : ◌≡◌ {A = ℕ} 0 1 = cc in absurd (omega arith)
        by_way (some w) is e =
            let same : (line (next + w)).next ≡ n = cc in
            there (line (next + w)).next (next_small (next + w)) (way s next t w (selected_below s c w is)).1 same

-- The same holds at the line where a container starts.
pub start_lives : (n : Name) → Lives (start n)
unfolding computed line find_line find_line_in closed closed_in named among
start_lives n = lives_right (start n) (at_each (λ m. lives (start m)) refl n)

-- the lines of a selector's ways, from a line on
pub record WayLines (at count : ℕ) : Type 0 where
  pub way : (w : ℕ) → w < count → ((line (at + w)).identifiers ≡ nothing) × ((line (at + w)).pass ≡ needed)
  pub after : (line (at + count)).pass ≡ ends

-- A selector's ways are as many as its lines.
pub ways_lines : (k : ℕ) (s : Selector) → (line k).judge ≡ choose s → WayLines (line k).next (ways s)
ways_lines k s e =
    let t = rw e at (going k) in
    record { way = λ w h. way_code (line ((line k).next + w)) (way s (line k).next t w h).0; after = ends_code _ (last s (line k).next t) }
