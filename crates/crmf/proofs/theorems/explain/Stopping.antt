-- Theorem 1 of the meaning of 8. The walk breaks exactly where the meaning says that the reading stops, with its detail, whichever forms may
-- be read: the search finds the line of what an element can reach, so each way in which a walk breaks is one case of `Stops`. Assumes nothing.
use Prim.Native.Nat.{ℕ}
use native.Mathlib.Omega.{arith}
use mathlib.Core.Path.{◌≡◌, refl, sym, ◌∙◌, ap, subst}
use mathlib.Core.Logic.{◌↔◌, ◌⊎◌, inl, inr}
use mathlib.Core.Bool.{Bool, true, false, ◌&&◌}
use mathlib.Core.List.Memᴰ
use mathlib.Core.List.{List, [], Memᴰ}
use mathlib.Core.Option.{Option, some, none as absent}
use lib.Dec.{T}
use Rattle.der.specs.meaning.Tree.{Tree, none, element}
use Rattle.crmf.specs.steps.explain.Tally.{Tally}
use Rattle.std.specs.Prelude.{Err, Ok, Some}
use Rattle.crmf.specs.meaning.Value.{Selector, keeps, selected, rule_detail}
use Rattle.crmf.specs.meaning.Notation.{named, mark_of, Name, Inside, free, holds, Form, part, Parts, done, ◌then◌, select}
use Rattle.crmf.specs.meaning.Grammar.{content}
use Rattle.crmf.specs.meaning.Language.{readable, passable, parts_after, way_of, Matches, Within}
use Rattle.crmf.specs.meaning.Stops.{Choice, taking, choosing, identifiers_of, Reaches, form, value, past, Has, Needed, Stops, missing, misfit, foreign, inner, broken, astray, later, selected_later, StopsIn, parts}
use Rattle.crmf.specs.steps.grammar.Lines.{start, inside_line}
use Rattle.crmf.specs.steps.explain.Walk.{line, find_line, closed, judged, with_element, walk, empty_tally, Onward, Walked, Passed, Broken}
use Rattle.crmf.proofs.theorems.values.ValueRules.{selected_below, way_selected}
use Rattle.crmf.proofs.theorems.grammar.Names.{not_there}
use Rattle.crmf.proofs.theorems.grammar.Choices.{takings, choices, skippable, chosen, never_both, determinate, determinate_apart, only_choice, chosen_among}
use Rattle.crmf.proofs.theorems.grammar.ChoicesMatch.{holds-true, true_holds, taking_among, among_takings}
use Rattle.crmf.proofs.theorems.lines.LinesOfParts.{Stands, stands_start, starts_past, Shows, Takes, Finds, find_line_chooses, closed_skips}
use Rattle.crmf.proofs.theorems.lines.LinesOfParts as lines
use Rattle.crmf.proofs.theorems.explain.Passing.{inner_walk, inner_free, inner_walked, walk_closed, walk_open, walk_nowhere, walk_unread, walk_inner_broken, walk_breaks, walk_next, judged_kept, judged_lost, judged_way, judged_astray, kept_onward, way_onward, passed_not_broken}
use Rattle.crmf.proofs.theorems.explain.Accepts.{accepts, name_at, within_sound, within_complete, walk_sound, walk_complete}

-- a test that isn't true doesn't hold
false_fails : {b : Bool} → b ≡ false → T b → ⊥
false_fails {b} e t = never_both b (holds-true b t) e

-- a test that doesn't hold is false
fails_false : (b : Bool) → (T b → ⊥) → b ≡ false
fails_false true never = absurd (never tt)
fails_false false never = refl

-- what can be reached is one of the choices
reaches_among : {ps : Parts} {h : Choice} → Reaches ps h → Memᴰ h (choices ps)
unfolding choices
reaches_among (form {o = o} {fs = fs} {ps = ps} one) =
    Memᴰ.append_left (elim (passable o) [ true ↦ choices ps | false ↦ [] ]) (taking_among (parts_after o fs ps) one)
reaches_among value = Memᴰ.head refl
reaches_among (past {o = o} {fs = fs} {ps = ps} ok r) =
    Memᴰ.append_right (takings (parts_after o fs ps) fs) (rw (holds-true (passable o) ok) (reaches_among r))

-- and each choice can be reached
among_reaches : (ps : Parts) (h : Choice) → Memᴰ h (choices ps) → Reaches ps h
unfolding choices
among_reaches done h m = absurd (Memᴰ.not-nil m)
among_reaches (part o fs then ps) h m = by_part (Memᴰ.append_cases (takings (parts_after o fs ps) fs) m) (among_reaches ps h)
  where
    by_pass : (b : Bool) → passable o ≡ b → Memᴰ h (elim b as (λ x. List Choice) [ true ↦ choices ps | false ↦ [] ])
        → (Memᴰ h (choices ps) → Reaches ps h) → Reaches (part o fs then ps) h
    by_pass true e n further = past (true_holds (passable o) e) (further n)
    by_pass false e n further = absurd (Memᴰ.not-nil n)

    by_part : Memᴰ h (takings (parts_after o fs ps) fs) ⊎ Memᴰ h (elim (passable o) as (λ x. List Choice) [ true ↦ choices ps | false ↦ [] ])
        → (Memᴰ h (choices ps) → Reaches ps h) → Reaches (part o fs then ps) h
    by_part (inl n) further =
        let (f, same, one) = among_takings h fs (parts_after o fs ps) n in
        subst (Reaches (part o fs then ps)) (sym same) (form one)
    by_part (inr n) further = by_pass (passable o) refl n further
among_reaches (select id s ns) h m = subst (Reaches (select id s ns)) (sym (Memᴰ.eq_of_singleton m)) value

-- The choice that an element has is the one that its identifier chooses.
has_chosen : (ps : Parts) (id : ℕ) (h : Choice) → determinate ps ≡ true → Has ps id h → chosen (choices ps) id ≡ some h
has_chosen ps id h d has =
    only_choice h (choices ps) id (determinate_apart ps d) (reaches_among has.reached) (holds-true (named (identifiers_of h) id) has.identified)

chosen_has : (ps : Parts) (id : ℕ) (h : Choice) → chosen (choices ps) id ≡ some h → Has ps id h
chosen_has ps id h c =
    let (member, fits) = chosen_among h (choices ps) id c in
    record { reached = among_reaches ps h member; identified = true_holds (named (identifiers_of h) id) fits }

-- if its identifier chooses none, it has none
chosen_none : (ps : Parts) (id : ℕ) → determinate ps ≡ true → chosen (choices ps) id ≡ absent → (h : Choice) → Has ps id h → ⊥
chosen_none ps id d lost h has = not_there (sym lost ∙ has_chosen ps id h d has)

-- the first that its identifier chooses, if there is one
none_chosen : (ps : Parts) (id : ℕ) → ((h : Choice) → Has ps id h → ⊥) → chosen (choices ps) id ≡ absent
none_chosen ps id never = go (chosen (choices ps) id) refl
  where
    go : (o : Option Choice) → chosen (choices ps) id ≡ o → chosen (choices ps) id ≡ absent
    go absent e = e
    go (some h) e = absurd (never h (chosen_has ps id h e))

-- A part is needed exactly when not every part may be passed over.
needed_stays : {ps : Parts} → Needed ps → skippable ps ≡ false
unfolding skippable
needed_stays (Needed.one {o = o} fails) = rw (fails_false (passable o) fails)
needed_stays Needed.value = refl
needed_stays (Needed.later {o = o} n) = rw (needed_stays n) (go (passable o))
  where
    go : (b : Bool) → (b && false) ≡ false
    go true = refl
    go false = refl

stays_needed : (ps : Parts) → skippable ps ≡ false → Needed ps
unfolding skippable
stays_needed done e = never_both true refl e
stays_needed (part o fs then ps) e = go (passable o) refl (stays_needed ps) e
  where
    go : (b : Bool) → passable o ≡ b → (skippable ps ≡ false → Needed ps) → (b && skippable ps) ≡ false → Needed (part o fs then ps)
    go true is further stays = Needed.later (further stays)
    go false is further stays = Needed.one (false_fails is)
stays_needed (select id s ns) e = Needed.value

-- what two breaks that are the same have in common
same_place : {p q d e : ℕ} {r s : Tally} → Broken p d r ≡ Broken q e s → p ≡ q
same_place same = cc

same_detail : {p q d e : ℕ} {r s : Tally} → Broken p d r ≡ Broken q e s → d ≡ e
same_detail same = cc

module _ (R : ℕ → Bool) where
  -- a stop where a walk breaks
  stop_at : {ps : Parts} {around p q d e : ℕ} {t : Tree} {r s : Tally} → Stops R ps around t p d → Broken p d r ≡ Broken q e s → Stops R ps around t q e
  stop_at {ps = ps} {around = around} {q = q} {d = d} {t = t} stop same =
      subst (Stops R ps around t q) (same_detail same) (subst (λ (x : ℕ). Stops R ps around t x d) (same_place same) stop)

  -- An inside that the walk breaks in stops there.
  inner_stops : (m r : Tally) (i : Inside) (first q d : ℕ) (inside : Tree)
      → ((n : Name) → walk R m (start n) first inside ≡ Broken q d r → Stops R (content n) first inside q d)
      → inner_walk R m (inside_line i) first inside ≡ Broken q d r → StopsIn R i first inside q d
  unfolding inside_line
  inner_stops m r free first q d inside each breaks = passed_not_broken (sym breaks ∙ inner_free R m 0 first inside refl)
  inner_stops m r (holds n) first q d inside each breaks = parts (each n (sym (inner_walked R m (start n) first inside (starts_past n)) ∙ breaks))

  -- the walk inside an element whose line starts its inside at a place
  inner_at : (m : Tally) (first : ℕ) (inside : Tree) {i j : ℕ} → i ≡ j → inner_walk R m i first inside ≡ inner_walk R m j first inside
  inner_at m first inside same = ap (λ (i : ℕ). inner_walk R m i first inside) same

  -- a value that selects no way selects no name
  no_name : (v : Selector) (ns : List Name) (c : List ℕ) → selected v c ≡ absent → way_of v c ns ≡ absent
  no_name v ns c lost = go (way_of v c ns) refl
    where
      go : (o : Option Name) → way_of v c ns ≡ o → way_of v c ns ≡ absent
      go absent is = is
      go (some n) is = let (w, found, there) = (way_selected v c ns n).0 is in not_there (sym lost ∙ found)

  -- What is met at an element: where the walk breaks, by the choice that the element has.
  module _ (s : Tally) (k around id first whole : ℕ) (c : List ℕ) (inside rest : Tree) (ps : Parts)
      (n : ℕ) (found : find_line k id ≡ Some n) (each : (m r : Tally) (a : Name) (q d : ℕ) → walk R m (start a) first inside ≡ Broken q d r → Stops R (content a) first inside q d)
      (matched : (m r : Tally) (a : Name) → walk R m (start a) first inside ≡ Passed r → Matches R (content a) inside)
      (further : (m r : Tally) (j q d : ℕ) (qs : Parts) → Stands j qs → walk R m j around rest ≡ Broken q d r → Stops R qs around rest q d) where
    abbrev t : Tree
    t = element id first whole c inside rest

    abbrev m : Tally
    m = with_element (line n) c first whole s

    -- an element in a form
    taking_stops : (f : Form) (qs : Parts) → Has ps id (taking f qs) → Takes f qs (line n) → (p d : ℕ) (r : Tally) → walk R s k around t ≡ Broken p d r
        → Stops R ps around t p d
    taking_stops f qs has shows p d r breaks = by_read (readable R (mark_of (line n).marking c)) refl
      where
        within_it : (u : Tally) → inner_walk R m (line n).inside first inside ≡ Passed u → Within R f.inside inside
        within_it u passed = within_sound R m u f.inside first inside (λ a. matched m u a) (sym (inner_at m first inside shows.entered) ∙ passed)

        by_value : T (readable R (mark_of f.marking c)) → readable R (mark_of (line n).marking c) ≡ true → (u : Tally) → inner_walk R m (line n).inside first inside ≡ Passed u
            → (o : Onward) → judged (line n).judge (line n).next c ≡ o → (b : Bool) → keeps f.rule c ≡ b → Stops R ps around t p d
        by_value may read u passed (Err e) to false lost =
            let says : Err (rule_detail f.rule c) ≡ Err e = sym (judged_lost f.rule (line n).next c lost) ∙ rw shows.judging at to in
            let detail : rule_detail f.rule c ≡ e = cc in
            let stop = broken {qs = qs} has may (within_it u passed) (false_fails lost) in
            stop_at (subst (Stops R ps around t first) detail stop)
            (sym (walk_breaks R s k around id first whole c inside rest n e u found read passed to) ∙ breaks)
        by_value may read u passed (Err e) to true keeps-it =
            let z : ◌≡◌ {A = ℕ} 0 1 = cc (judged_kept f.rule (line n).next c keeps-it, rw shows.judging at to) in absurd (omega arith)
        by_value may read u passed (Ok next) to b keeps-it =
            let (ok, on) = kept_onward f.rule (line n).next next c (rw shows.judging at to) in
            later has (record { read = may; within = within_it u passed; kept = true_holds (keeps f.rule c) ok })
            (further u r next p d qs (subst (λ (j : ℕ). Stands j qs) on shows.onward)
            (sym (walk_next R s k around id first whole c inside rest n next u found read passed to) ∙ breaks))

        by_inner : T (readable R (mark_of f.marking c)) → readable R (mark_of (line n).marking c) ≡ true → (w : Walked) → inner_walk R m (line n).inside first inside ≡ w
            → Stops R ps around t p d
        by_inner may read (Broken q e u) is =
            stop_at (inner {qs = qs} has may (inner_stops m u f.inside first q e inside (λ a. each m u a q e) (sym (inner_at m first inside shows.entered) ∙ is)))
            (sym (walk_inner_broken R s k around id first whole c inside rest n q e u found read is) ∙ breaks)
        by_inner may read (Passed u) is =
            by_value may read u is (judged (line n).judge (line n).next c) refl (keeps f.rule c) refl

        by_read : (b : Bool) → readable R (mark_of (line n).marking c) ≡ b → Stops R ps around t p d
        by_read false unread =
            stop_at (foreign {qs = qs} has (false_fails (rw shows.marked at unread)))
            (rw shows.marked at (sym (walk_unread R s k around id first whole c inside rest n found unread) ∙ breaks))
        by_read true read =
            by_inner (true_holds (readable R (mark_of f.marking c)) (rw shows.marked at read)) read (inner_walk R m (line n).inside first inside) refl

    -- an element whose value selects
    choosing_stops : (a : ℕ) (v : Selector) (ns : List Name) → Has ps id (choosing a v ns) → lines.Selects a v ns (line n) → (p d : ℕ) (r : Tally)
        → walk R s k around t ≡ Broken p d r → Stops R ps around t p d
    choosing_stops a v ns has shows p d r breaks = by_value (judged (line n).judge (line n).next c) refl (selected v c) refl
      where
        read : readable R (mark_of (line n).marking c) ≡ true
        read = rw shows.marked

        unentered : inner_walk R m (line n).inside first inside ≡ Passed m
        unentered = inner_at m first inside shows.entered ∙ inner_free R m 0 first inside refl

        by_value : (o : Onward) → judged (line n).judge (line n).next c ≡ o → (w : Option ℕ) → selected v c ≡ w → Stops R ps around t p d
        by_value (Err e) to absent lost =
            let says : Err 3 ≡ Err e = sym (judged_astray v (line n).next c lost) ∙ rw shows.judging at to in
            let detail : 3 ≡ e = cc in
            let stop = astray {ns = ns} has (no_name v ns c lost) in
            stop_at (subst (Stops R ps around t first) detail stop)
            (sym (walk_breaks R s k around id first whole c inside rest n e m found read unentered to) ∙ breaks)
        by_value (Err e) to (some w) is =
            let z : ◌≡◌ {A = ℕ} 0 1 = cc (judged_way v (line n).next c w is, rw shows.judging at to) in absurd (omega arith)
        by_value (Ok next) to o is =
            let (w, found-way, on) = way_onward v (line n).next next c (rw shows.judging at to) in
            let (name, there) = name_at ns w (omega (arith, selected_below v c w found-way, shows.counted)) in
            let place : start name ≡ next = sym (shows.onward w name there) ∙ on in
            selected_later {n = name} has ((way_selected v c ns name).1 (w, found-way, there))
            (further m r next p d (content name) (subst (λ (j : ℕ). Stands j (content name)) place (stands_start name))
            (sym (walk_next R s k around id first whole c inside rest n next m found read unentered to) ∙ breaks))

    -- an element that has some choice
    choice_stops : (h : Choice) → Has ps id h → Shows h (line n) → (p d : ℕ) (r : Tally) → walk R s k around t ≡ Broken p d r → Stops R ps around t p d
    choice_stops (taking f qs) = taking_stops f qs
    choice_stops (choosing a v ns) = choosing_stops a v ns

  -- Where the lines of some parts stand, a walk that breaks breaks where the reading by the parts stops, with its detail.
  pub broken_stops : (t : Tree) (s r : Tally) (k around p d : ℕ) (ps : Parts) → Stands k ps → walk R s k around t ≡ Broken p d r → Stops R ps around t p d
  broken_stops none s r k around p d ps stands breaks = go (closed k) refl
    where
      go : (b : Bool) → closed k ≡ b → Stops R ps around none p d
      go true shut = passed_not_broken (sym breaks ∙ walk_closed R s k around shut)
      go false open-end =
          stop_at (missing (stays_needed ps (sym (closed_skips ps k stands) ∙ open-end))) (sym (walk_open R s k around open-end) ∙ breaks)
  broken_stops (element id first whole c inside rest) s r k around p d ps stands breaks =
      go (λ m u a q e. broken_stops inside m u (start a) first q e (content a) (stands_start a)) (λ m u j q e qs st. broken_stops rest m u j around q e qs st)
      (chosen (choices ps) id) refl (find_line_chooses ps k stands id)
    where
      go : ((m u : Tally) (a : Name) (q e : ℕ) → walk R m (start a) first inside ≡ Broken q e u → Stops R (content a) first inside q e)
          → ((m u : Tally) (j q e : ℕ) (qs : Parts) → Stands j qs → walk R m j around rest ≡ Broken q e u → Stops R qs around rest q e)
          → (o : Option Choice) → chosen (choices ps) id ≡ o → Finds o (find_line k id) → Stops R ps around (element id first whole c inside rest) p d
      go each further absent lost nowhere =
          stop_at (misfit (chosen_none ps id stands.determined lost)) (sym (walk_nowhere R s k around id first whole c inside rest nowhere) ∙ breaks)
      go each further (some h) is (n, found, shows) =
          choice_stops s k around id first whole c inside rest ps n found each
          (λ m u a. walk_sound R inside m u (start a) first (content a) (stands_start a)) further h (chosen_has ps id h is) shows p d r breaks

  -- the line of the choice that an element has
  line_of : (k id : ℕ) (ps : Parts) → Stands k ps → (h : Choice) → Has ps id h → (n : ℕ) × (find_line k id ≡ Some n) × Shows h (line n)
  line_of k id ps stands h has =
      subst (λ (o : Option Choice). Finds o (find_line k id)) (has_chosen ps id h stands.determined has) (find_line_chooses ps k stands id)

  -- the walk breaks somewhere, with this detail
  abbrev Breaks-at : Tally → ℕ → ℕ → Tree → ℕ → ℕ → Type 0
  Breaks-at s k around t p d = (r : Tally) × (walk R s k around t ≡ Broken p d r)

  -- an inside that is what its form asks for is passed
  within_passes : (m : Tally) (i : Inside) (first : ℕ) (inside : Tree) → Within R i inside → (u : Tally) × (inner_walk R m (inside_line i) first inside ≡ Passed u)
  within_passes m i first inside w =
      within_complete R m i first inside (λ a. walk_complete R inside m (start a) first (content a) (stands_start a)) w

  -- the same inside an element, from the elements inside it
  stops_in_break : {i : Inside} {around p d : ℕ} {t : Tree} → StopsIn R i around t p d → (m : Tally)
      → ((n : Name) → Stops R (content n) around t p d → Breaks-at m (start n) around t p d) → (r : Tally) × (inner_walk R m (inside_line i) around t ≡ Broken p d r)
  unfolding inside_line
  stops_in_break {around = around} {t = inside} (parts {n = n} stop) m each =
      let (r, breaks) = each n stop in
      (r, inner_walked R m (start n) around inside (starts_past n) ∙ breaks)

  -- At an element: from the elements inside it and those after it.
  module _ (s : Tally) (k around id first whole : ℕ) (c : List ℕ) (inside rest : Tree) (ps : Parts) (stands : Stands k ps)
      (each : (m : Tally) (n : Name) (p d : ℕ) → Stops R (content n) first inside p d → Breaks-at m (start n) first inside p d)
      (further : (m : Tally) (j p d : ℕ) (qs : Parts) → Stands j qs → Stops R qs around rest p d → Breaks-at m j around rest p d) where
    -- an element in a form whose line is found
    taking_breaks : (f : Form) (qs : Parts) → Has ps id (taking f qs) → T (readable R (mark_of f.marking c))
        → (n : ℕ) × (find_line k id ≡ Some n) × Takes f qs (line n) × (readable R (mark_of (line n).marking c) ≡ true)
    taking_breaks f qs has may =
        let (n, found, shows) = line_of k id ps stands (taking f qs) has in
        (n, found, shows, rw shows.marked (holds-true (readable R (mark_of f.marking c)) may))

    -- the inside of such an element, if it is what the form asks for
    taken_within : (f : Form) (qs : Parts) (n : ℕ) → Takes f qs (line n) → Within R f.inside inside
        → (u : Tally) × (inner_walk R (with_element (line n) c first whole s) (line n).inside first inside ≡ Passed u)
    taken_within f qs n shows within =
        let m = with_element (line n) c first whole s in
        let (u, passed) = within_passes m f.inside first inside within in
        (u, inner_at m first inside shows.entered ∙ passed)

    -- the inside of an element whose value selects isn't entered
    unentered : (a : ℕ) (v : Selector) (ns : List Name) (n : ℕ) → lines.Selects a v ns (line n)
        → inner_walk R (with_element (line n) c first whole s) (line n).inside first inside ≡ Passed (with_element (line n) c first whole s)
    unentered a v ns n shows =
        let m = with_element (line n) c first whole s in
        inner_at m first inside shows.entered ∙ inner_free R m 0 first inside refl

    -- a value that selects no name selects none of the ways
    no_way : (a : ℕ) (v : Selector) (ns : List Name) (n : ℕ) → lines.Selects a v ns (line n) → way_of v c ns ≡ absent → selected v c ≡ absent
    no_way a v ns n shows unselected = go (selected v c) refl
      where
        go : (o : Option ℕ) → selected v c ≡ o → selected v c ≡ absent
        go absent lost = lost
        go (some w) is =
            let (name, there) = name_at ns w (omega (arith, selected_below v c w is, shows.counted)) in
            not_there (sym unselected ∙ (way_selected v c ns name).1 (w, is, there))

    element_breaks : {p d : ℕ} → Stops R ps around (element id first whole c inside rest) p d → Breaks-at s k around (element id first whole c inside rest) p d
    element_breaks (misfit none_has) = (
      s,
      walk_nowhere R s k around id first whole c inside rest
          (subst (λ (o : Option Choice). Finds o (find_line k id)) (none_chosen ps id none_has) (find_line_chooses ps k stands id)),
    )
    element_breaks (foreign {qs = qs} {f = f} has unread) =
        let (n, found, shows) = line_of k id ps stands (taking f qs) has in
        (s, rw (← shows.marked) (walk_unread R s k around id first whole c inside rest n found (rw shows.marked (fails_false (readable R (mark_of f.marking c)) unread))))
    element_breaks (inner {qs = qs} {place = p} {detail = d} {f = f} has may stop) =
        let (n, found, shows, read) = taking_breaks f qs has may in
        let m = with_element (line n) c first whole s in
        let (r, breaks) = stops_in_break stop m (λ a. each m a p d) in
        (r, walk_inner_broken R s k around id first whole c inside rest n p d r found read (inner_at m first inside shows.entered ∙ breaks))
    element_breaks (broken {qs = qs} {f = f} has may within fails) =
        let (n, found, shows, read) = taking_breaks f qs has may in
        let (u, passed) = taken_within f qs n shows within in (
          u,
          walk_breaks R s k around id first whole c inside rest n (rule_detail f.rule c) u found read passed
              (rw shows.judging (judged_lost f.rule (line n).next c (fails_false (keeps f.rule c) fails))),
        )
    element_breaks (astray {a = a} {s = v} {ns = ns} has unselected) =
        let (n, found, shows) = line_of k id ps stands (choosing a v ns) has in (
          with_element (line n) c first whole s,
          walk_breaks R s k around id first whole c inside rest n 3 _ found (rw shows.marked) (unentered a v ns n shows)
              (rw shows.judging (judged_astray v (line n).next c (no_way a v ns n shows unselected))),
        )
    element_breaks (later {qs = qs} {place = p} {detail = d} {f = f} has kept stop) =
        let (n, found, shows, read) = taking_breaks f qs has kept.read in
        let (u, passed) = taken_within f qs n shows kept.within in
        let (r, breaks) = further u (line n).next p d qs shows.onward stop in (
          r,
          walk_next R s k around id first whole c inside rest n (line n).next u found read passed
              (rw shows.judging (judged_kept f.rule (line n).next c (holds-true (keeps f.rule c) kept.kept))) ∙ breaks,
        )
    element_breaks (selected_later {place = p} {detail = d} {a = a} {s = v} {ns = ns} {n = name} has way stop) =
        let (n, found, shows) = line_of k id ps stands (choosing a v ns) has in
        let m = with_element (line n) c first whole s in
        let (w, is, there) = (way_selected v c ns name).0 way in
        let (r, breaks) = further m (start name) p d (content name) (stands_start name) stop in (
          r,
          walk_next R s k around id first whole c inside rest n (start name) m found (rw shows.marked) (unentered a v ns n shows)
              (rw shows.judging (judged_way v (line n).next c w is ∙ ap Ok (shows.onward w name there))) ∙ breaks,
        )

  -- at a container's end
  end_breaks : {p d : ℕ} (s : Tally) (k around : ℕ) (ps : Parts) → Stands k ps → Stops R ps around none p d → Breaks-at s k around none p d
  end_breaks s k around ps stands (missing needs) = (s, walk_open R s k around (closed_skips ps k stands ∙ needed_stays needs))

  -- Where the reading by some parts stops, the walk from their lines on breaks, with the same detail.
  pub stops_break : (t : Tree) (s : Tally) (k around p d : ℕ) (ps : Parts) → Stands k ps → Stops R ps around t p d → Breaks-at s k around t p d
  stops_break none s k around p d ps stands stop = end_breaks s k around ps stands stop
  stops_break (element id first whole c inside rest) s k around p d ps stands stop =
      element_breaks s k around id first whole c inside rest ps stands (λ m n q e. stops_break inside m (start n) first q e (content n) (stands_start n))
      (λ m j q e qs st. stops_break rest m j around q e qs st) stop

  -- Theorem 1: the walk of a container breaks at a place with a detail exactly where the meaning says that the reading stops.
  pub stops_exactly : (s : Tally) (n : Name) (around p d : ℕ) (t : Tree)
      → ((r : Tally) × (walk R s (start n) around t ≡ Broken p d r)) ↔ Stops R (content n) around t p d
  stops_exactly s n around p d t =
      (λ b. broken_stops t s b.0 (start n) around p d (content n) (stands_start n) b.1, stops_break t s (start n) around p d (content n) (stands_start n))

  -- It never stops at two places, nor with two details.
  pub stops_once : (n : Name) (around p d q e : ℕ) (t : Tree) → Stops R (content n) around t p d → Stops R (content n) around t q e → (p ≡ q) × (d ≡ e)
  stops_once n around p d q e t one other =
      let (r, breaks) = (stops_exactly empty_tally n around p d t).1 one in
      let (u, too) = (stops_exactly empty_tally n around q e t).1 other in
      (same_place (sym breaks ∙ too), same_detail (sym breaks ∙ too))

  -- It stops exactly where the grammar doesn't describe the elements.
  pub stops_outside : (n : Name) (around : ℕ) (t : Tree) → ((p d : ℕ) × Stops R (content n) around t p d) ↔ (Matches R (content n) t → ⊥)
  stops_outside n around t = (there, λ unmatched. back unmatched (walk R empty_tally (start n) around t) refl)
    where
      there : (p d : ℕ) × Stops R (content n) around t p d → Matches R (content n) t → ⊥
      there (p, d, stop) m =
          let (r, breaks) = (stops_exactly empty_tally n around p d t).1 stop in
          let (u, passed) = (accepts R empty_tally n around t).1 m in
          passed_not_broken (sym breaks ∙ passed)

      back : (Matches R (content n) t → ⊥) → (w : Walked) → walk R empty_tally (start n) around t ≡ w → (p d : ℕ) × Stops R (content n) around t p d
      back unmatched (Passed r) is = absurd (unmatched ((accepts R empty_tally n around t).0 (r, is)))
      back unmatched (Broken p d r) is = (p, d, (stops_exactly empty_tally n around p d t).0 (r, is))
