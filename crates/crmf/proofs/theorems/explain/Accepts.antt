-- Theorem 2. The walk passes over a list of elements exactly when the grammar describes it, whichever forms may be read: the search finds
-- the line of what the parts choose, and the grammar is deterministic, so no other choice describes the element. Assumes nothing.
use Prim.Native.Nat.{ℕ, zero, suc, ◌<◌}
use native.Mathlib.Nat.{le_of_suc-le-suc}
use native.Mathlib.Omega.{arith}
use mathlib.Core.Path.{◌≡◌, refl, sym, ◌∙◌, ap, subst}
use mathlib.Core.Logic.{◌↔◌}
use mathlib.Core.Bool.{Bool, true}
use mathlib.Core.List.{List, [], ◌∷◌}
use mathlib.Core.Option.{Option, some, none as absent}
use lib.ListN.{length, get_elem?}
use Rattle.der.specs.meaning.Tree.{Tree, none, element}
use Rattle.crmf.specs.steps.explain.Tally.{Tally}
use Rattle.std.specs.Prelude.{None, Ok, Some}
use Rattle.crmf.specs.meaning.Value.{keeps}
use Rattle.crmf.specs.meaning.Notation.{mark_of, Name, Inside, free, holds, Parts}
use Rattle.crmf.specs.meaning.Grammar.{content}
use Rattle.crmf.specs.meaning.Language.{readable, Matches, Within, unseen, parts}
use Rattle.crmf.specs.steps.grammar.Lines.{Line, start, inside_line}
use Rattle.crmf.specs.steps.explain.Walk.{line, find_line, judged, with_element, walk, FoundLine, Passed}
use Rattle.crmf.proofs.theorems.values.ValueRules.{selected_below, way_selected}
use Rattle.crmf.proofs.theorems.explain.Passing.{inner_walk, Chosen, inner_free, inner_walked, walk_closed, passed_element, element_passes, passed_none, judged_kept, judged_way, kept_onward, way_onward}
use Rattle.crmf.proofs.theorems.grammar.Choices.{Choice, taking, choosing, choices, chosen, determinate_apart, only_choice, chosen_among}
use Rattle.crmf.proofs.theorems.lines.LinesOfParts.{Stands, stands_start, starts_past, Shows, Finds, find_line_chooses, closed_skips}
use Rattle.crmf.proofs.theorems.grammar.ChoicesMatch.{holds-true, true_holds, Keeps, FirstOf, matches_begin, begin_matches}

-- the walk from a line on passes
abbrev pub Accepted : (ℕ → Bool) → Tally → ℕ → ℕ → Tree → Type 0
Accepted R s k around t = (r : Tally) × (walk R s k around t ≡ Passed r)

-- a place below a list's length has a name
pub name_at : (ns : List Name) (w : ℕ) → w < length ns → (n : Name) × (get_elem? ns w ≡ some n)
name_at [] w h = absurd (omega arith)
name_at (n ∷ ns) zero h = (n, refl)
name_at (n ∷ ns) (suc w) h = name_at ns w (le_of_suc-le-suc h)

-- two lines that the search finds are one
same_line : {m n : ℕ} {f : FoundLine} → f ≡ Some m → f ≡ Some n → m ≡ n
same_line p q = cc

-- no search finds both a line and nothing
found_somewhere : {A : Type 0} {n : ℕ} {f : FoundLine} → f ≡ Some n → f ≡ None → A
found_somewhere p q = let z : ◌≡◌ {A = ℕ} 0 1 = cc in absurd (omega arith)

module _ (R : ℕ → Bool) where
  -- An inside that the walk passes is what its form asks for.
  pub within_sound : (m r : Tally) (i : Inside) (first : ℕ) (inside : Tree)
      → ((n : Name) → walk R m (start n) first inside ≡ Passed r → Matches R (content n) inside)
      → inner_walk R m (inside_line i) first inside ≡ Passed r → Within R i inside
  unfolding inside_line
  within_sound m r free first inside each passed = unseen
  within_sound m r (holds n) first inside each passed = parts (each n (sym (inner_walked R m (start n) first inside (starts_past n)) ∙ passed))

  -- The walk passes an inside that is what its form asks for.
  pub within_complete : (m : Tally) (i : Inside) (first : ℕ) (inside : Tree)
      → ((n : Name) → Matches R (content n) inside → Accepted R m (start n) first inside) → Within R i inside
      → (r : Tally) × (inner_walk R m (inside_line i) first inside ≡ Passed r)
  unfolding inside_line
  within_complete m free first inside each w = (m, inner_free R m 0 first inside refl)
  within_complete m (holds n) first inside each (parts w) =
      let (r, e) = each n w in
      (r, inner_walked R m (start n) first inside (starts_past n) ∙ e)

  -- An element that a line passes keeps the choice that the line shows.
  keeps_sound : (m r : Tally) (x : Line) (h : Choice) (first next : ℕ) (c : List ℕ) (inside rest : Tree) → Shows h x
      → readable R (mark_of x.marking c) ≡ true → inner_walk R m x.inside first inside ≡ Passed r → judged x.judge x.next c ≡ Ok next
      → ((n : Name) → walk R m (start n) first inside ≡ Passed r → Matches R (content n) inside)
      → ((ps : Parts) → Stands next ps → Matches R ps rest) → Keeps R h c inside rest
  keeps_sound m r x (taking f ps) first next c inside rest shows read inner to each further =
      let j = kept_onward f.rule x.next next c (rw shows.judging at to) in
      record {
        read = true_holds (readable R (mark_of f.marking c)) (rw shows.marked at read);
        kept = true_holds (keeps f.rule c) j.0;
        within = within_sound m r f.inside first inside each (rw shows.entered at inner);
        further = further ps (subst (λ (k : ℕ). Stands k ps) j.1 shows.onward);
      }
  keeps_sound m r x (choosing id s ns) first next c inside rest shows read inner to each further =
      let (w, is, goes) = way_onward s x.next next c (rw shows.judging at to) in
      let (n, there) = name_at ns w (omega (arith, selected_below s c w is, shows.counted)) in
      let place : start n ≡ next = sym (shows.onward w n there) ∙ goes in
      record { name = n; way = (way_selected s c ns n).1 (w, is, there); further = further (content n) (subst (λ (k : ℕ). Stands k (content n)) place (stands_start n)) }

  -- The first element that a walk passes is one of the choices and keeps it.
  first_sound : (s r : Tally) (k around id first whole : ℕ) (c : List ℕ) (inside rest : Tree) (ps : Parts) → Stands k ps
      → (e : Chosen R s k around id first whole c inside rest r)
      → ((n : Name) → walk R (with_element (line e.at) c first whole s) (start n) first inside ≡ Passed e.seen → Matches R (content n) inside)
      → ((qs : Parts) → Stands e.next qs → Matches R qs rest) → FirstOf R ps id c inside rest
  first_sound s r k around id first whole c inside rest ps stands e each further =
      go (chosen (choices ps) id) refl (find_line_chooses ps k stands id)
    where
      go : (o : Option Choice) → chosen (choices ps) id ≡ o → Finds o (find_line k id) → FirstOf R ps id c inside rest
      go absent g f = found_somewhere e.found f
      go (some h) g f =
          let here : f.0 ≡ e.at = same_line f.1 e.found in
          let shows = subst (λ (n : ℕ). Shows h (line n)) here f.2 in
          let own = chosen_among h (choices ps) id g in
          record {
            choice = h;
            among = own.0;
            identified = own.1;
            keeping = keeps_sound (with_element (line e.at) c first whole s) e.seen (line e.at) h first e.next c inside rest shows e.read e.inner
                e.onward each further;
          }

  -- Soundness: where the lines of some parts stand, the parts describe what the walk passes over.
  pub walk_sound : (t : Tree) (s r : Tally) (k around : ℕ) (ps : Parts) → Stands k ps → walk R s k around t ≡ Passed r → Matches R ps t
  walk_sound none s r k around ps stands passed =
      begin_matches R ps none (sym (closed_skips ps k stands) ∙ (passed_none R s k around r passed).0)
  walk_sound (element id first whole c inside rest) s r k around ps stands passed =
      let e = passed_element R s k around id first whole c inside rest r passed in
      begin_matches R ps (element id first whole c inside rest)
      (first_sound s r k around id first whole c inside rest ps stands e
      (λ n p. walk_sound inside (with_element (line e.at) c first whole s) e.seen (start n) first (content n) (stands_start n) p)
      (λ qs st. walk_sound rest e.seen r e.next around qs st e.further))

  -- An element that keeps the choice that its line shows is passed.
  first_complete : (s : Tally) (k around id first whole n : ℕ) (c : List ℕ) (inside rest : Tree) (h : Choice) → find_line k id ≡ Some n → Shows h (line n)
      → Keeps R h c inside rest → ((m : Tally) (a : Name) → Matches R (content a) inside → Accepted R m (start a) first inside)
      → ((m : Tally) (j : ℕ) (ps : Parts) → Stands j ps → Matches R ps rest → Accepted R m j around rest)
      → (r : Tally) × Chosen R s k around id first whole c inside rest r
  first_complete s k around id first whole n c inside rest (taking f ps) found shows kept each further =
      let x = line n in
      let (m, inner) = within_complete (with_element x c first whole s) f.inside first inside (each (with_element x c first whole s)) kept.within in
      let (r, passed) = further m x.next ps shows.onward kept.further in (
        r,
        record {
          at = n;
          found = found;
          read = rw shows.marked (holds-true (readable R (mark_of f.marking c)) kept.read);
          seen = m;
          inner = ap (λ (i : ℕ). inner_walk R (with_element x c first whole s) i first inside) shows.entered ∙ inner;
          next = x.next;
          onward = rw shows.judging (judged_kept f.rule x.next c (holds-true (keeps f.rule c) kept.kept));
          further = passed;
        },
      )
  first_complete s k around id first whole n c inside rest (choosing a t ns) found shows kept each further =
      let x = line n in
      let m = with_element x c first whole s in
      let (w, is, there) = (way_selected t c ns kept.name).0 kept.way in
      let (r, passed) = further m (start kept.name) (content kept.name) (stands_start kept.name) kept.further in (
        r,
        record {
          at = n;
          found = found;
          read = rw shows.marked;
          seen = m;
          inner = ap (λ (i : ℕ). inner_walk R m i first inside) shows.entered ∙ inner_free R m 0 first inside refl;
          next = start kept.name;
          onward = rw shows.judging (judged_way t x.next c w is ∙ ap Ok (shows.onward w kept.name there));
          further = passed;
        },
      )

  -- Completeness: where the lines of some parts stand, the walk passes over what the parts describe.
  pub walk_complete : (t : Tree) (s : Tally) (k around : ℕ) (ps : Parts) → Stands k ps → Matches R ps t → Accepted R s k around t
  walk_complete none s k around ps stands m = (s, walk_closed R s k around (closed_skips ps k stands ∙ matches_begin m))
  walk_complete (element id first whole c inside rest) s k around ps stands m =
      let b = matches_begin m in
      let only = only_choice b.choice (choices ps) id (determinate_apart ps stands.determined) b.among b.identified in
      let (n, found, shows) = subst (λ (o : Option Choice). Finds o (find_line k id)) only (find_line_chooses ps k stands id) in
      let (r, e) = first_complete s k around id first whole n c inside rest b.choice found shows b.keeping
      (λ a p q. walk_complete inside a (start p) first (content p) (stands_start p) q)
      (λ a j qs st q. walk_complete rest a j around qs st q) in
      (r, element_passes R s k around id first whole c inside rest r e)

-- Soundness: what the walk of a container passes over is in the grammar.
pub accepts_sound : (R : ℕ → Bool) (s r : Tally) (n : Name) (around : ℕ) (t : Tree) → walk R s (start n) around t ≡ Passed r
    → Matches R (content n) t
accepts_sound R s r n around t = walk_sound R t s r (start n) around (content n) (stands_start n)

-- Completeness: the walk of a container passes over what is in the grammar.
pub accepts_complete : (R : ℕ → Bool) (s : Tally) (n : Name) (around : ℕ) (t : Tree) → Matches R (content n) t
    → Accepted R s (start n) around t
accepts_complete R s n around t = walk_complete R t s (start n) around (content n) (stands_start n)

-- Theorem 2: the walk accepts exactly what is in the grammar, whichever forms may be read.
pub accepts : (R : ℕ → Bool) (s : Tally) (n : Name) (around : ℕ) (t : Tree)
    → ((r : Tally) × (walk R s (start n) around t ≡ Passed r)) ↔ Matches R (content n) t
accepts R s n around t = (λ a. accepts_sound R s a.0 n around t a.1, accepts_complete R s n around t)
