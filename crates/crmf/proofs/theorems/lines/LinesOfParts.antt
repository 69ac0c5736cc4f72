-- Lines and parts: from a container's start on stand the lines of its parts, so the search among the lines chooses what the parts choose,
-- and the lines let a container end exactly when the parts do. Assumes nothing.
use Prim.Native.Nat.{ℕ, zero, suc, ◌+◌}
use native.Mathlib.Nat.{add-zero}
use native.Mathlib.Numerals.{add-one}
use native.Mathlib.Omega.{arith}
use mathlib.Core.Path.{◌≡◌, refl, sym, ◌∙◌, ap, subst}
use mathlib.Core.Bool.{Bool, true, false, not, ◌&&◌, and-eq-true_iff}
use mathlib.Core.List.{List, [], ◌∷◌, ◌++◌, append_assoc, map}
use mathlib.Core.Option.{Option, some, none as absent}
use lib.Dec.{eqb}
use lib.ListN.{length, get_or, get_elem?, drop, length-append, length-map}
use lib.Seq.{drop-drop, get_or-drop, drop_at}
use borrow.Author.Tests.{eqb-true, not-true}
use Rattle.std.specs.Prelude.{None, Some}
use Rattle.crmf.specs.meaning.Kinds as kinds
use Rattle.crmf.specs.meaning.Value.{Selector}
use Rattle.crmf.specs.meaning.Notation.{octet, named, both, whatever, Name, names, order, Form, Occurs, once, optional, repeated, Part, part, Parts, done, ◌then◌, select}
use Rattle.crmf.specs.meaning.Grammar.{content}
use Rattle.crmf.specs.meaning.Language.{passable, parts_after}
use Rattle.crmf.specs.steps.grammar.Lines.{keep, choose, needed, Line, end_line, part_size, size, starts_from, start, inside_line, pass_of, form_lines, line_of, next_line, way_line, part_lines, container_lines, lines_from, lines}
use Rattle.crmf.specs.steps.explain.Walk.{line, walk_goes_on, find_line, closed_in, closed, ways, FoundLine}
use Rattle.crmf.proofs.theorems.lists.Tests.{all}
use Rattle.crmf.proofs.theorems.grammar.Names.{at_each, in_order, not_there}
use Rattle.crmf.proofs.theorems.lines.Search.{find_line_found, find_line_on, find_line_off}
use Rattle.crmf.proofs.theorems.grammar.Choices.{Choice, taking, choosing, identifiers_of, takings, choices, skippable, chosen, apart, determinate, complete, determinate_content, complete_content, never_both, chosen_first, chosen_later}

-- The lines from k on are those of the parts, which are deterministic and complete.
pub record Stands (k : ℕ) (ps : Parts) : Type 0 where
  pub more : List Line
  pub there : drop k lines ≡ container_lines k ps ++ more
  pub determined : determinate ps ≡ true
  pub completed : complete ps ≡ true

-- a part has a line for each form
form_lines_length : (o : Occurs) (next : ℕ) (fs : List Form) → length (form_lines o next fs) ≡ length fs
unfolding form_lines
form_lines_length o next [] = refl
form_lines_length o next (f ∷ fs) = ap suc (form_lines_length o next fs)

-- a part's lines are as many as its size
part_lines_length : (at after : ℕ) (p : Part) → length (part_lines at after p) ≡ part_size p
unfolding part_lines part_size
part_lines_length at after (part o fs) = form_lines_length o (next_line o at after) fs

-- a container's lines are as many as its size
container_lines_length : (at : ℕ) (ps : Parts) → length (container_lines at ps) ≡ size ps
unfolding container_lines size
container_lines_length at done = refl
container_lines_length at (p then ps) =
    let after = line_of (at + part_size p) ps in
    length-append (part_lines at after p) (container_lines (at + part_size p) ps)
    ∙ omega (arith, part_lines_length at after p, container_lines_length (at + part_size p) ps)
container_lines_length at (select id s ns) = omega (arith, length-append (map way_line ns) (end_line ∷ []), length-map ns way_line)

-- From a line on stand the lines of a container.
record Placed (at : ℕ) (xs : List Line) (n : Name) : Type 0 where
  more : List Line
  there : drop at xs ≡ container_lines at (content n) ++ more

-- after some lines, the lines of a list of containers hold those of each of them from its start on
placed : (before : List Line) (at : ℕ) (ns : List Name) (i : ℕ) (n : Name) → length before ≡ at → get_elem? ns i ≡ some n
    → Placed (get_or (starts_from at ns) i 0) (before ++ lines_from at ns) n
unfolding starts_from lines_from
placed before at [] i n sized there = not_there there
placed before at (m ∷ ns) zero n sized there =
    let here : m ≡ n = cc in
    let after = lines_from (at + size (content m)) ns in
    record {
      more = after;
      there = drop_at before (container_lines at (content m) ++ after) at sized ∙ ap (λ (x : Name). container_lines at (content x) ++ after) here;
    }
placed before at (m ∷ ns) (suc i) n sized there =
    let own = container_lines at (content m) in
    let next = at + size (content m) in
    let long : length (before ++ own) ≡ next = omega (arith, length-append before own, container_lines_length at (content m)) in
    let rest = placed (before ++ own) next ns i n long there in
    record { more = rest.more; there = rw (← append_assoc) rest.there }

-- From its start on, the lines of each container stand.
pub stands_start : (n : Name) → Stands (start n) (content n)
unfolding start lines
stands_start n =
    let p = placed (end_line ∷ []) 1 names (order n) n refl (in_order n) in
    record { more = p.more; there = p.there; determined = determinate_content n; completed = complete_content n }

-- no container starts at 0, which says that an inside is free: a test that computes
all_start_past : all (λ n. not (eqb (start n) 0)) names ≡ true
unfolding start starts_from size part_size content order
all_start_past = refl

-- no container's start is 0
pub starts_past : (n : Name) → eqb (start n) 0 ≡ false
starts_past n = not-true (eqb (start n) 0) (at_each (λ m. not (eqb (start m) 0)) all_start_past n)

-- the lines after some lines
pub lines_after : (k j : ℕ) (xs ys : List Line) → drop k lines ≡ xs ++ ys → length xs ≡ j → drop (k + j) lines ≡ ys
lines_after k j xs ys e sized = sym (drop-drop j k lines) ∙ ap (drop j) e ∙ drop_at xs ys j sized

-- a line among them
pub line_among : (k j : ℕ) (xs : List Line) → drop k lines ≡ xs → line (k + j) ≡ get_or xs j end_line
unfolding line
line_among k j xs e = sym (get_or-drop k lines j end_line) ∙ ap (λ (l : List Line). get_or l j end_line) e

-- the first line
pub line_there : (k : ℕ) (x : Line) (xs : List Line) → drop k lines ≡ x ∷ xs → line k ≡ x
line_there k x xs e = ap line (sym (add-zero k)) ∙ line_among k 0 (x ∷ xs) e

-- the lines after the first
pub line_after : (k : ℕ) (x : Line) (xs : List Line) → drop k lines ≡ x ∷ xs → drop (suc k) lines ≡ xs
line_after k x xs e = ap (λ (n : ℕ). drop n lines) (sym (add-one k)) ∙ lines_after k 1 (x ∷ []) xs e refl

-- after a part stand the lines of the parts after it
pub stands_after : (k : ℕ) (o : Occurs) (fs : List Form) (ps : Parts) → Stands k (part o fs then ps) → Stands (k + length fs) ps
unfolding container_lines part_lines part_size determinate complete
stands_after k o fs ps s =
    let own = form_lines o (next_line o k (line_of (k + length fs) ps)) fs in
    let rest = container_lines (k + length fs) ps ++ s.more in
    record {
      more = s.more;
      there = lines_after k (length fs) own rest (s.there ∙ append_assoc own (container_lines (k + length fs) ps) s.more)
          (form_lines_length o (next_line o k (line_of (k + length fs) ps)) fs);
      determined = ((and-eq-true_iff (apart (choices (part o fs then ps))) (determinate ps)).0 s.determined).1;
      completed = ((and-eq-true_iff (walk_goes_on (pass_of o fs)) (complete ps)).0 s.completed).1;
    }

-- from the line of some parts on stand their lines: from line 0 on, those of no parts
stands_line : (k : ℕ) (ps : Parts) → Stands k ps → Stands (line_of k ps) ps
unfolding lines container_lines determinate complete
stands_line k done s = record { more = lines_from 1 names; there = refl; determined = refl; completed = refl }
stands_line k (p then ps) s = s
stands_line k (select id t ns) s = s

-- after an element of a part stand the lines of the parts that may stand there
pub stands_next : (k : ℕ) (o : Occurs) (fs : List Form) (ps : Parts) → Stands k (part o fs then ps)
    → Stands (next_line o k (line_of (k + length fs) ps)) (parts_after o fs ps)
unfolding next_line
stands_next k once fs ps s = stands_line (k + length fs) ps (stands_after k once fs ps s)
stands_next k optional fs ps s = stands_line (k + length fs) ps (stands_after k optional fs ps s)
stands_next k repeated fs ps s = s

-- What a line says of a form: the form's own fields, and that the lines of the parts after it stand from the line after it on.
pub record Takes (f : Form) (ps : Parts) (x : Line) : Type 0 where
  pub identified : x.identifiers ≡ f.identifiers
  pub entered : x.inside ≡ inside_line f.inside
  pub judging : x.judge ≡ keep f.rule
  pub kinded : x.kind ≡ f.kind
  pub itemed : x.item ≡ f.item
  pub marked : x.marking ≡ f.marking
  pub onward : Stands x.next ps

-- What a line says of a value that selects: there are as many ways as names, and each way's line goes on with its name.
pub record Selects (id : ℕ) (s : Selector) (ns : List Name) (x : Line) : Type 0 where
  pub identified : x.identifiers ≡ octet id
  pub entered : x.inside ≡ 0
  pub judging : x.judge ≡ choose s
  pub kinded : x.kind ≡ 0
  pub itemed : x.item ≡ 0
  pub marked : x.marking ≡ whatever both
  pub counted : ways s ≡ length ns
  pub onward : (w : ℕ) (n : Name) → get_elem? ns w ≡ some n → (line (x.next + w)).next ≡ start n

-- A line says what a choice is.
abbrev pub Shows : Choice → Line → Type 0
Shows (taking f ps) x = Takes f ps x
Shows (choosing id s ns) x = Selects id s ns x

-- The search finds the line of the choice, or nothing if there is none.
abbrev pub Finds : Option Choice → FoundLine → Type 0
Finds absent f = f ≡ None
Finds (some h) f = (n : ℕ) × (f ≡ Some n) × Shows h (line n)

-- the search among the lines from k on finds what is chosen
abbrev Tracks : ℕ → List Choice → Type 0
Tracks k hs = (id : ℕ) → Finds (chosen hs id) (find_line k id)

-- a line that says what a choice is has the choice's identifiers
shows_identifiers : (h : Choice) (x : Line) → Shows h x → x.identifiers ≡ identifiers_of h
shows_identifiers (taking f ps) x s = s.identified
shows_identifiers (choosing id t ns) x s = s.identified

-- a line that says what the first choice is, with the other choices after it, if the search goes on there
track_line : (k : ℕ) (x : Line) (xs : List Line) (h : Choice) (hs : List Choice) → drop k lines ≡ x ∷ xs → Shows h x
    → (walk_goes_on x.pass ≡ true → Tracks (suc k) hs) → (walk_goes_on x.pass ≡ false → hs ≡ []) → Tracks k (h ∷ hs)
unfolding chosen
track_line k x xs h hs e shows on off id = by_name (named x.identifiers id) refl
  where
    same : x.identifiers ≡ identifiers_of h
    same = shows_identifiers h x shows

    by_pass : named x.identifiers id ≡ false → (b : Bool) → walk_goes_on x.pass ≡ b → Finds (chosen hs id) (find_line k id)
    by_pass fails true go = rw (find_line_on k x xs e id fails go (line_after k x xs e)) (on go id)
    by_pass fails false stop = rw (off stop) (find_line_off k x xs e id fails stop)

    by_name : (b : Bool) → named x.identifiers id ≡ b → Finds (chosen (h ∷ hs) id) (find_line k id)
    by_name true fits =
        rw (chosen_first h hs id (rw same at fits)) (k, find_line_found k x xs e id fits, rw (line_there k x xs e) shows)
    by_name false fails = rw (chosen_later h hs id (rw same at fails)) (by_pass fails (walk_goes_on x.pass) refl)

-- after a part's last form the search goes on if the part may be passed over
pass_last : (o : Occurs) → walk_goes_on (pass_of o []) ≡ passable o
unfolding pass_of
pass_last once = refl
pass_last optional = refl
pass_last repeated = refl

-- the search ends only after the last form of a needed part
pass_stops : (o : Occurs) (fs : List Form) → walk_goes_on (pass_of o fs) ≡ false → (fs ≡ []) × (passable o ≡ false)
unfolding pass_of
pass_stops once [] e = (refl, refl)
pass_stops once (f ∷ fs) e = never_both true refl e
pass_stops optional fs e = never_both true refl e
pass_stops repeated fs e = never_both true refl e

-- a part's forms, with other choices after them if the part may be passed over
track_forms : (o : Occurs) (next k : ℕ) (ps : Parts) (fs : List Form) (xs : List Line) (hs : List Choice)
    → drop k lines ≡ form_lines o next fs ++ xs → Stands next ps → walk_goes_on (pass_of o fs) ≡ true
    → (passable o ≡ true → Tracks (k + length fs) hs) → (passable o ≡ false → hs ≡ []) → Tracks k (takings ps fs ++ hs)
unfolding form_lines takings
track_forms o next k ps [] xs hs e stands on past stop = subst (λ (n : ℕ). Tracks n hs) (add-zero k) (past (sym (pass_last o) ∙ on))
track_forms o next k ps (f ∷ fs) xs hs e stands on past stop =
    let x : Line = record { identifiers = f.identifiers; inside = inside_line f.inside; judge = keep f.rule; kind = f.kind; item = f.item; marking = f.marking; next = next; pass = pass_of o fs } in
    let rest = form_lines o next fs ++ xs in
    let shows : Takes f ps x = record { identified = refl; entered = refl; judging = refl; kinded = refl; itemed = refl; marked = refl; onward = stands } in
    let place : k + suc (length fs) ≡ suc k + length fs = omega arith in
    track_line k x rest (taking f ps) (takings ps fs ++ hs) e shows
    (λ further.
    track_forms o next (suc k) ps fs xs hs (line_after k x rest e) stands further (λ p. subst (λ (n : ℕ). Tracks n hs) place (past p)) stop)
    (λ last.
    let l = pass_stops o fs last in
    ap (λ (gs : List Form). takings ps gs ++ hs) l.0 ∙ stop l.1)

-- the line of a way
way_among : (ns : List Name) (xs : List Line) (w : ℕ) (n : Name) → get_elem? ns w ≡ some n → get_or (map way_line ns ++ xs) w end_line ≡ way_line n
way_among [] xs w n there = not_there there
way_among (m ∷ ns) xs zero n there = let here : m ≡ n = cc in rw here
way_among (m ∷ ns) xs (suc w) n there = way_among ns xs w n there

-- Where the lines of some parts stand, the search finds the line of what the parts choose.
pub find_line_chooses : (ps : Parts) (k : ℕ) → Stands k ps → (id : ℕ) → Finds (chosen (choices ps) id) (find_line k id)
unfolding container_lines part_lines part_size choices chosen complete named way_line
find_line_chooses done k s = λ id. find_line_off k end_line s.more s.there id refl refl
find_line_chooses (part o fs then ps) k s =
    let next = next_line o k (line_of (k + length fs) ps) in
    let own = form_lines o next fs in
    let rest = container_lines (k + length fs) ps in
    let after-it = stands_after k o fs ps s in
    track_forms o next k (parts_after o fs ps) fs (rest ++ s.more) (elim (passable o) [ true ↦ choices ps | false ↦ [] ])
    (s.there ∙ append_assoc own rest s.more) (stands_next k o fs ps s)
    ((and-eq-true_iff (walk_goes_on (pass_of o fs)) (complete ps)).0 s.completed).0
    (λ p. rw p (find_line_chooses ps (k + length fs) after-it)) (λ p. rw p)
find_line_chooses (select id t ns) k s =
    let x : Line = record { identifiers = octet id; inside = 0; judge = choose t; kind = kinds.none; item = kinds.none; marking = whatever both; next = suc k; pass = needed } in
    let rest = end_line ∷ s.more in
    let e : drop k lines ≡ x ∷ (map way_line ns ++ rest) = s.there ∙ append_assoc (x ∷ map way_line ns) (end_line ∷ []) s.more in
    let shows : Selects id t ns x =
    record {
      identified = refl;
      entered = refl;
      judging = refl;
      kinded = refl;
      itemed = refl;
      marked = refl;
      counted = eqb-true (ways t) (length ns) s.completed;
      onward = λ w n there. ap (λ (y : Line). y.next) (line_among (suc k) w (map way_line ns ++ rest) (line_after k x (map way_line ns ++ rest) e) ∙ way_among ns rest w n there);
    } in
    track_line k x (map way_line ns ++ rest) (choosing id t ns) [] e shows (λ on. never_both true refl (sym on)) (λ off. refl)

-- the lines of a part let a container end if the part may be passed over and the lines after it do
closed_forms : (o : Occurs) (next : ℕ) (fs : List Form) (xs : List Line) → walk_goes_on (pass_of o fs) ≡ true
    → closed_in (form_lines o next fs ++ xs) ≡ (passable o && closed_in xs)
unfolding form_lines closed_in pass_of
closed_forms once next [] xs on = never_both true refl (sym on)
closed_forms once next (f ∷ []) xs on = refl
closed_forms once next (f ∷ (g ∷ fs)) xs on = refl
closed_forms optional next [] xs on = refl
closed_forms optional next (f ∷ fs) xs on = closed_forms optional next fs xs refl
closed_forms repeated next [] xs on = refl
closed_forms repeated next (f ∷ fs) xs on = closed_forms repeated next fs xs refl

-- Where the lines of some parts stand, they let the container end exactly when the parts do.
pub closed_skips : (ps : Parts) (k : ℕ) → Stands k ps → closed k ≡ skippable ps
unfolding container_lines part_lines part_size skippable complete closed closed_in stands_after
closed_skips done k s = ap closed_in s.there
closed_skips (part o fs then ps) k s =
    let own = form_lines o (next_line o k (line_of (k + length fs) ps)) fs in
    let rest = container_lines (k + length fs) ps in
    let after-it = stands_after k o fs ps s in
    ap closed_in (s.there ∙ append_assoc own rest s.more)
    ∙ closed_forms o (next_line o k (line_of (k + length fs) ps)) fs (rest ++ s.more) ((and-eq-true_iff (walk_goes_on (pass_of o fs)) (complete ps)).0 s.completed).0
    ∙ ap (λ (b : Bool). passable o && b) (sym (ap closed_in after-it.there) ∙ closed_skips ps (k + length fs) after-it)
closed_skips (select id t ns) k s = ap closed_in s.there
