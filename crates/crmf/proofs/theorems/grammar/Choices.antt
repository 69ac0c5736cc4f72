-- What the next element may be, by a container's parts: the forms that can be reached without passing over a needed part, each with the
-- parts after it. The grammar is deterministic: no identifier is of two of them. Assumes nothing.
use Prim.Native.Nat.{ℕ}
use native.Mathlib.Omega.{arith}
use mathlib.Core.Path.{◌≡◌, refl, sym, ◌∙◌}
use mathlib.Core.Bool.{Bool, true, false, not, ◌&&◌, and-eq-true_iff}
use mathlib.Core.List.Memᴰ
use mathlib.Core.List.{List, [], ◌∷◌, ◌++◌, Memᴰ}
use mathlib.Core.Option.{Option, some, none as absent}
use lib.Dec.{eqb}
use lib.ListN.{length}
use borrow.Author.Tests.{eqb-true, not-true}
use Rattle.crmf.specs.meaning.Value.{Selector}
use Rattle.crmf.specs.meaning.Notation.{Identifiers, octet, general_name, anything, nothing, among, named, Name, names, Form, Part, part, Parts, done, ◌then◌, select}
use Rattle.crmf.specs.meaning.Grammar.{content}
use Rattle.crmf.specs.meaning.Language.{passable, parts_after}
pub use Rattle.crmf.specs.meaning.Stops.{Choice, taking, choosing, identifiers_of}
use Rattle.crmf.specs.steps.grammar.Lines.{pass_of}
use Rattle.crmf.specs.steps.explain.Walk.{walk_goes_on, ways}
use Rattle.crmf.proofs.theorems.lists.Tests.{all}
use Rattle.crmf.proofs.theorems.grammar.Names.{at_each, not_there}

-- the forms of a part, with the parts after them
unfoldable pub takings : Parts → List Form → List Choice
takings ps [] = []
takings ps (f ∷ fs) = taking f ps ∷ takings ps fs

-- what the next element may be
unfoldable pub choices : Parts → List Choice
choices done = []
choices (part o fs then ps) = takings (parts_after o fs ps) fs ++ (elim (passable o) [ true ↦ choices ps | false ↦ [] ])
choices (select id s ns) = choosing id s ns ∷ []

-- whether every part may be passed over
unfoldable pub skippable : Parts → Bool
skippable done = true
skippable (part o fs then ps) = passable o && skippable ps
skippable (select id s ns) = false

-- the first choice with the identifier
unfoldable pub chosen : List Choice → ℕ → Option Choice
chosen [] id = absent
chosen (h ∷ hs) id = elim (named (identifiers_of h) id) [ true ↦ some h | false ↦ chosen hs id ]

-- no identifier is of both
unfoldable pub disjoint : Identifiers → Identifiers → Bool
disjoint (octet a) j = not (named j a)
disjoint general_name (octet b) = not (named general_name b)
disjoint general_name general_name = false
disjoint general_name anything = false
disjoint general_name nothing = true
disjoint anything (octet b) = false
disjoint anything general_name = false
disjoint anything anything = false
disjoint anything nothing = true
disjoint nothing j = true

-- no identifier is of a choice and of another of a list
unfoldable pub apart_from : Choice → List Choice → Bool
apart_from h [] = true
apart_from h (g ∷ gs) = disjoint (identifiers_of h) (identifiers_of g) && apart_from h gs

-- no identifier is of two of a list
unfoldable pub apart : List Choice → Bool
apart [] = true
apart (h ∷ hs) = apart_from h hs && apart hs

-- the parts are deterministic: from each of them on, no identifier is of two choices
unfoldable pub determinate : Parts → Bool
determinate done = true
determinate (p then ps) = apart (choices (p then ps)) && determinate ps
determinate (select id s ns) = apart (choices (select id s ns))

-- the parts are complete: a needed part has a form, and a value selects one of as many ways as there are names
unfoldable pub complete : Parts → Bool
complete done = true
complete (part o fs then ps) = walk_goes_on (pass_of o fs) && complete ps
complete (select id s ns) = eqb (ways s) (length ns)

-- Every container of the grammar is deterministic: a test that computes.
pub all_determinate : all (λ n. determinate (content n)) names ≡ true
unfolding content determinate apart apart_from disjoint choices takings named among
all_determinate = refl

-- Every container of the grammar is complete: a test that computes.
pub all_complete : all (λ n. complete (content n)) names ≡ true
unfolding content complete pass_of
all_complete = refl

-- each container is deterministic
pub determinate_content : (n : Name) → determinate (content n) ≡ true
determinate_content = at_each (λ n. determinate (content n)) all_determinate

-- each container is complete
pub complete_content : (n : Name) → complete (content n) ≡ true
complete_content = at_each (λ n. complete (content n)) all_complete

-- a test is not both
pub never_both : {A : Type 0} (b : Bool) → b ≡ true → b ≡ false → A
never_both b on off = let z : ◌≡◌ {A = ℕ} 0 1 = cc in absurd (omega arith)

-- an identifier of both shows that they are not disjoint
pub disjoint_rule : {A : Type 0} (i j : Identifiers) (id : ℕ) → disjoint i j ≡ true → named i id ≡ true → named j id ≡ true → A
unfolding disjoint named
disjoint_rule (octet a) j id d e f =
    let here : id ≡ a = eqb-true id a e in
    never_both (named j a) (rw here at f) (not-true (named j a) d)
disjoint_rule general_name (octet b) id d e f =
    let here : id ≡ b = eqb-true id b f in
    never_both (named general_name b) (rw here at e) (not-true (named general_name b) d)
disjoint_rule general_name general_name id d e f = never_both true refl (sym d)
disjoint_rule general_name anything id d e f = never_both true refl (sym d)
disjoint_rule general_name nothing id d e f = never_both true refl (sym f)
disjoint_rule anything (octet b) id d e f = never_both true refl (sym d)
disjoint_rule anything general_name id d e f = never_both true refl (sym d)
disjoint_rule anything anything id d e f = never_both true refl (sym d)
disjoint_rule anything nothing id d e f = never_both true refl (sym f)
disjoint_rule nothing j id d e f = never_both true refl (sym e)

-- an identifier of a choice is of none that the choice is apart from
apart_rule : {A : Type 0} (h g : Choice) (hs : List Choice) (id : ℕ) → apart_from h hs ≡ true → Memᴰ g hs
    → named (identifiers_of h) id ≡ true → named (identifiers_of g) id ≡ true → A
unfolding apart_from
apart_rule h g [] id a m e f = absurd (Memᴰ.not-nil m)
apart_rule h g (x ∷ hs) id a (Memᴰ.head here) e f =
    let both = (and-eq-true_iff (disjoint (identifiers_of h) (identifiers_of x)) (apart_from h hs)).0 a in
    disjoint_rule (identifiers_of h) (identifiers_of x) id both.0 e (rw here at f)
apart_rule h g (x ∷ hs) id a (Memᴰ.tail m) e f =
    let both = (and-eq-true_iff (disjoint (identifiers_of h) (identifiers_of x)) (apart_from h hs)).0 a in
    apart_rule h g hs id both.1 m e f

-- the first choice, if the identifier is its own
pub chosen_first : (h : Choice) (hs : List Choice) (id : ℕ) → named (identifiers_of h) id ≡ true → chosen (h ∷ hs) id ≡ some h
unfolding chosen
chosen_first h hs id e = rw (e, chosen)

-- the choices after the first, if the identifier is not the first's
pub chosen_later : (h : Choice) (hs : List Choice) (id : ℕ) → named (identifiers_of h) id ≡ false → chosen (h ∷ hs) id ≡ chosen hs id
unfolding chosen
chosen_later h hs id e = rw (e, chosen)

-- The rule: if no identifier is of two choices, a choice with an identifier is the one that the identifier has.
pub only_choice : (h : Choice) (hs : List Choice) (id : ℕ) → apart hs ≡ true → Memᴰ h hs → named (identifiers_of h) id ≡ true
    → chosen hs id ≡ some h
unfolding apart
only_choice h [] id a m e = absurd (Memᴰ.not-nil m)
only_choice h (g ∷ hs) id a (Memᴰ.head here) e = chosen_first g hs id (rw here at e) ∙ rw here
only_choice h (g ∷ hs) id a (Memᴰ.tail m) e =
    let both = (and-eq-true_iff (apart_from g hs) (apart hs)).0 a in
    let rest = only_choice h hs id both.1 m e in
    go both.0 rest (named (identifiers_of g) id) refl
  where
    go : apart_from g hs ≡ true → chosen hs id ≡ some h → (b : Bool) → named (identifiers_of g) id ≡ b → chosen (g ∷ hs) id ≡ some h
    go from rest true f = apart_rule g h hs id from m f e
    go from rest false f = chosen_later g hs id f ∙ rest

-- the choices of deterministic parts hold no identifier twice
pub determinate_apart : (ps : Parts) → determinate ps ≡ true → apart (choices ps) ≡ true
unfolding determinate apart choices
determinate_apart done d = refl
determinate_apart (p then ps) d = ((and-eq-true_iff (apart (choices (p then ps))) (determinate ps)).0 d).0
determinate_apart (select id s ns) d = d

-- some parts, and others after them
infixr 67 ◌followed_by◌
unfoldable pub ◌followed_by◌ : List Part → Parts → Parts
[] followed_by ps = ps
(p ∷ before) followed_by ps = p then (before followed_by ps)

-- the parts after some of a container's are deterministic too
determinate_after : (before : List Part) (ps : Parts) → determinate (before followed_by ps) ≡ true → determinate ps ≡ true
unfolding determinate ◌followed_by◌
determinate_after [] ps d = d
determinate_after (p ∷ before) ps d =
    determinate_after before ps ((and-eq-true_iff (apart (choices (p then (before followed_by ps)))) (determinate (before followed_by ps))).0 d).1

-- and complete
complete_after : (before : List Part) (ps : Parts) → complete (before followed_by ps) ≡ true → complete ps ≡ true
unfolding complete ◌followed_by◌
complete_after [] ps c = c
complete_after (part o fs ∷ before) ps c =
    complete_after before ps ((and-eq-true_iff (walk_goes_on (pass_of o fs)) (complete (before followed_by ps))).0 c).1

-- The grammar is deterministic: from any part of a container on, an identifier has at most one of the choices that can be reached.
pub deterministic : (n : Name) (before : List Part) (ps : Parts) → content n ≡ before followed_by ps → (id : ℕ) (h g : Choice) → Memᴰ h (choices ps)
    → Memᴰ g (choices ps) → named (identifiers_of h) id ≡ true → named (identifiers_of g) id ≡ true → h ≡ g
deterministic n before ps whole id h g mh mg eh eg =
    let own = determinate_apart ps (determinate_after before ps (rw whole at (determinate_content n))) in
    cc (only_choice h (choices ps) id own mh eh, only_choice g (choices ps) id own mg eg)

-- A value selects one of as many ways as the grammar names.
pub ways_parts : (n : Name) (before : List Part) (id : ℕ) (s : Selector) (ns : List Name) → content n ≡ before followed_by select id s ns → length ns ≡ ways s
unfolding complete
ways_parts n before id s ns whole =
    sym (eqb-true (ways s) (length ns) (complete_after before (select id s ns) (rw whole at (complete_content n))))

-- a choice that an identifier has is one of the list's and has the identifier
pub chosen_among : (h : Choice) (hs : List Choice) (id : ℕ) → chosen hs id ≡ some h → Memᴰ h hs × (named (identifiers_of h) id ≡ true)
unfolding chosen
chosen_among h [] id c = not_there c
chosen_among h (g ∷ hs) id c = go (chosen_among h hs id) (named (identifiers_of g) id) refl
  where
    go : (chosen hs id ≡ some h → Memᴰ h hs × (named (identifiers_of h) id ≡ true)) → (b : Bool) → named (identifiers_of g) id ≡ b
        → Memᴰ h (g ∷ hs) × (named (identifiers_of h) id ≡ true)
    go rest true f =
        let same : g ≡ h = cc (chosen_first g hs id f) in
        (Memᴰ.head (sym same), rw (← same) f)
    go rest false f =
        let found = rest (sym (chosen_later g hs id f) ∙ c) in
        (Memᴰ.tail found.0, found.1)
