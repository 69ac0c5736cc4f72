-- What a walk that passes says of the first element, part by part, and how the walk over an element is made of those parts. Assumes nothing.
use Prim.Native.Nat.{ℕ, ◌+◌}
use native.Mathlib.Omega.{arith}
use mathlib.Core.Path.{◌≡◌, refl, sym, ◌∙◌}
use mathlib.Core.Bool.{Bool, true, false}
use mathlib.Core.List.{List}
use mathlib.Core.Option.{Option, some, none as absent}
use lib.Dec.{eqb}
use Rattle.der.specs.meaning.Tree.{Tree, none, element}
use Rattle.crmf.specs.steps.explain.Tally.{Tally}
use Rattle.std.specs.Prelude.{Err, None, Ok, Some}
use Rattle.crmf.specs.meaning.Value.{Rule, keeps, Selector, selected}
use Rattle.crmf.specs.meaning.Notation.{mark_of, detail_of}
use Rattle.crmf.specs.meaning.Language.{readable}
use Rattle.crmf.specs.steps.grammar.Lines.{keep, choose}
use Rattle.crmf.specs.steps.explain.Walk.{line, find_line, closed, rule_detail, judged, with_element, walk, Onward, FoundLine, Walked, Passed, Broken}

-- the walk inside an element whose inside starts at a line: none if that is 0
unfoldable pub inner_walk : (ℕ → Bool) → Tally → ℕ → ℕ → Tree → Walked
inner_walk R m i first inside = elim (eqb i 0) [ true ↦ Passed m | false ↦ walk R m i first inside ]

-- a value that keeps its rule goes on with the next line
pub judged_kept : (r : Rule) (next : ℕ) (c : List ℕ) → keeps r c ≡ true → judged (keep r) next c ≡ Ok next
unfolding judged
judged_kept r next c ok = rw (ok, judged)

-- a value that breaks its rule does not go on
pub judged_lost : (r : Rule) (next : ℕ) (c : List ℕ) → keeps r c ≡ false → judged (keep r) next c ≡ Err (rule_detail r c)
unfolding judged
judged_lost r next c lost = rw (lost, judged)

-- a value that selects a way goes on as that way's line says
pub judged_way : (s : Selector) (next : ℕ) (c : List ℕ) (w : ℕ) → selected s c ≡ some w → judged (choose s) next c ≡ Ok (line (next + w)).next
unfolding judged
judged_way s next c w is = rw (is, judged)

-- a value that selects no way does not go on
pub judged_astray : (s : Selector) (next : ℕ) (c : List ℕ) → selected s c ≡ absent → judged (choose s) next c ≡ Err 3
unfolding judged
judged_astray s next c lost = rw (lost, judged)

-- going on is no break
breaks_not_to : {A : Type 0} {d n : ℕ} → Err d ≡ Ok n → A
breaks_not_to same = let z : ◌≡◌ {A = ℕ} 0 1 = cc in absurd (omega arith)

-- only a value that keeps its rule goes on, with the next line
pub kept_onward : (r : Rule) (next n : ℕ) (c : List ℕ) → judged (keep r) next c ≡ Ok n → (keeps r c ≡ true) × (next ≡ n)
kept_onward r next n c to = go (keeps r c) refl
  where
    go : (b : Bool) → keeps r c ≡ b → (keeps r c ≡ true) × (next ≡ n)
    go true e = (e, cc (judged_kept r next c e))
    go false e = breaks_not_to (sym (judged_lost r next c e) ∙ to)

-- only a value that selects a way goes on, as that way's line says
pub way_onward : (s : Selector) (next n : ℕ) (c : List ℕ) → judged (choose s) next c ≡ Ok n
    → (w : ℕ) × (selected s c ≡ some w) × ((line (next + w)).next ≡ n)
way_onward s next n c to = go (selected s c) refl
  where
    go : (o : Option ℕ) → selected s c ≡ o → (w : ℕ) × (selected s c ≡ some w) × ((line (next + w)).next ≡ n)
    go absent e = breaks_not_to (sym (judged_astray s next c e) ∙ to)
    go (some w) e = (w, e, cc (judged_way s next c w e))

-- What a walk that passes found for the first element: its line, what was met up to the end of its inside, and the line after it.
pub record Chosen (R : ℕ → Bool) (s : Tally) (k around id first whole : ℕ) (c : List ℕ) (inside rest : Tree) (r : Tally) : Type 0 where
  pub at : ℕ
  pub found : find_line k id ≡ Some at
  pub read : readable R (mark_of (line at).marking c) ≡ true
  pub seen : Tally
  pub inner : inner_walk R (with_element (line at) c first whole s) (line at).inside first inside ≡ Passed seen
  pub next : ℕ
  pub onward : judged (line at).judge (line at).next c ≡ Ok next
  pub further : walk R seen next around rest ≡ Passed r

-- no walk both passes and breaks
pub passed_not_broken : {A : Type 0} {q d : ℕ} {r s : Tally} → Broken q d r ≡ Passed s → A
passed_not_broken same = let z : ◌≡◌ {A = ℕ} 0 1 = cc in absurd (omega arith)

-- a free inside passes and meets nothing
pub inner_free : (R : ℕ → Bool) (m : Tally) (i first : ℕ) (inside : Tree) → eqb i 0 ≡ true → inner_walk R m i first inside ≡ Passed m
unfolding inner_walk
inner_free R m i first inside free = rw (free, inner_walk)

-- an inside that starts at a line is walked from there
pub inner_walked : (R : ℕ → Bool) (m : Tally) (i first : ℕ) (inside : Tree) → eqb i 0 ≡ false
    → inner_walk R m i first inside ≡ walk R m i first inside
unfolding inner_walk
inner_walked R m i first inside starts = rw (starts, inner_walk)

-- the walk at a container's end, if it may end
pub walk_closed : (R : ℕ → Bool) (s : Tally) (k around : ℕ) → closed k ≡ true → walk R s k around none ≡ Passed s
unfolding walk
walk_closed R s k around ok = rw (ok, walk)

-- the walk at a container's end, if a part is missing
pub walk_open : (R : ℕ → Bool) (s : Tally) (k around : ℕ) → closed k ≡ false → walk R s k around none ≡ Broken around 2 s
unfolding walk
walk_open R s k around missing = rw (missing, walk)

module _ (R : ℕ → Bool) (s : Tally) (k around id first whole : ℕ) (c : List ℕ) (inside rest : Tree) where
  -- an element that fits no part
  pub walk_nowhere : find_line k id ≡ None → walk R s k around (element id first whole c inside rest) ≡ Broken first 1 s
  unfolding walk
  walk_nowhere e = rw (e, walk)

  -- an element in a form that may not be read
  pub walk_unread : (n : ℕ) → find_line k id ≡ Some n → readable R (mark_of (line n).marking c) ≡ false
      → walk R s k around (element id first whole c inside rest) ≡ Broken first (detail_of (mark_of (line n).marking c)) s
  unfolding walk
  walk_unread n e u = rw (e, walk) (rw u)

  -- an element with a break inside
  pub walk_inner_broken : (n q d : ℕ) (r : Tally) → find_line k id ≡ Some n → readable R (mark_of (line n).marking c) ≡ true
      → inner_walk R (with_element (line n) c first whole s) (line n).inside first inside ≡ Broken q d r
      → walk R s k around (element id first whole c inside rest) ≡ Broken q d r
  unfolding walk inner_walk
  walk_inner_broken n q d r e u w = rw (e, walk) (rw u (rw w))

  -- an element whose value breaks its rule
  pub walk_breaks : (n d : ℕ) (r : Tally) → find_line k id ≡ Some n → readable R (mark_of (line n).marking c) ≡ true
      → inner_walk R (with_element (line n) c first whole s) (line n).inside first inside ≡ Passed r → judged (line n).judge (line n).next c ≡ Err d
      → walk R s k around (element id first whole c inside rest) ≡ Broken first d r
  unfolding walk inner_walk
  walk_breaks n d r e u w j = rw (e, walk) (rw u (rw w (rw j)))

  -- an element that is passed: the walk goes on after it
  pub walk_next : (n next : ℕ) (r : Tally) → find_line k id ≡ Some n → readable R (mark_of (line n).marking c) ≡ true
      → inner_walk R (with_element (line n) c first whole s) (line n).inside first inside ≡ Passed r → judged (line n).judge (line n).next c ≡ Ok next
      → walk R s k around (element id first whole c inside rest) ≡ walk R r next around rest
  unfolding walk inner_walk
  walk_next n next r e u w j = rw (e, walk) (rw u (rw w (rw j)))

  -- A walk that passes over an element chose its line, read it, passed its inside, kept its rule and passed the rest.
  pub passed_element : (r : Tally) → walk R s k around (element id first whole c inside rest) ≡ Passed r
      → Chosen R s k around id first whole c inside rest r
  passed_element r passed = by_line (find_line k id) refl
    where
      by_onward : (n : ℕ) (m : Tally) → find_line k id ≡ Some n → readable R (mark_of (line n).marking c) ≡ true
          → inner_walk R (with_element (line n) c first whole s) (line n).inside first inside ≡ Passed m → (o : Onward)
          → judged (line n).judge (line n).next c ≡ o → Chosen R s k around id first whole c inside rest r
      by_onward n m e u w (Err d) j = passed_not_broken (sym (walk_breaks n d m e u w j) ∙ passed)
      by_onward n m e u w (Ok next) j =
          record { at = n; found = e; read = u; seen = m; inner = w; next = next; onward = j; further = sym (walk_next n next m e u w j) ∙ passed }

      by_inner : (n : ℕ) → find_line k id ≡ Some n → readable R (mark_of (line n).marking c) ≡ true → (w : Walked)
          → inner_walk R (with_element (line n) c first whole s) (line n).inside first inside ≡ w → Chosen R s k around id first whole c inside rest r
      by_inner n e u (Broken q d m) w = passed_not_broken (sym (walk_inner_broken n q d m e u w) ∙ passed)
      by_inner n e u (Passed m) w = by_onward n m e u w (judged (line n).judge (line n).next c) refl

      by_read : (n : ℕ) → find_line k id ≡ Some n → (b : Bool) → readable R (mark_of (line n).marking c) ≡ b → Chosen R s k around id first whole c inside rest r
      by_read n e false u = passed_not_broken (sym (walk_unread n e u) ∙ passed)
      by_read n e true u = by_inner n e u (inner_walk R (with_element (line n) c first whole s) (line n).inside first inside) refl

      by_line : (f : FoundLine) → find_line k id ≡ f → Chosen R s k around id first whole c inside rest r
      by_line None e = passed_not_broken (sym (walk_nowhere e) ∙ passed)
      by_line (Some n) e = by_read n e (readable R (mark_of (line n).marking c)) refl

  -- From the same parts, the walk over the element passes.
  pub element_passes : (r : Tally) → Chosen R s k around id first whole c inside rest r
      → walk R s k around (element id first whole c inside rest) ≡ Passed r
  element_passes r h = walk_next h.at h.next h.seen h.found h.read h.inner h.onward ∙ h.further

-- A walk that passes at the end of the elements stands where the container may end, and met nothing more.
pub passed_none : (R : ℕ → Bool) (s : Tally) (k around : ℕ) (r : Tally) → walk R s k around none ≡ Passed r
    → (closed k ≡ true) × (s ≡ r)
passed_none R s k around r passed = go (closed k) refl
  where
    go : (b : Bool) → closed k ≡ b → (closed k ≡ true) × (s ≡ r)
    go true e = (e, cc (walk_closed R s k around e))
    go false e = passed_not_broken (sym (walk_open R s k around e) ∙ passed)
