-- What the grammar means, one element at a time: some parts describe a list of elements exactly when the first element is one of the parts'
-- choices and keeps it, or when there is none and every part may be passed over. Assumes nothing.
use Prim.Native.Nat.{ℕ}
use mathlib.Core.Path.{◌≡◌, refl, sym, subst}
use mathlib.Core.Logic.{◌⊎◌, inl, inr}
use mathlib.Core.Bool.{Bool, true, false, and-eq-true_iff}
use mathlib.Core.List.Memᴰ
use mathlib.Core.List.{List, [], ◌∷◌, Memᴰ}
use mathlib.Core.Option.{some}
use lib.Dec.{T}
use borrow.Author.Tests.{eqb-true, eq-eqb}
use Rattle.der.specs.meaning.Tree.{Tree, none, element}
use Rattle.crmf.specs.meaning.Value.{keeps, Selector}
use Rattle.crmf.specs.meaning.Notation.{octet, named, mark_of, Name, Form, Occurs, part, Parts, done, ◌then◌, select}
use Rattle.crmf.specs.meaning.Grammar.{content}
use Rattle.crmf.specs.meaning.Language.{readable, passable, parts_after, way_of, OneOf, Matches, end, pass, take, choose, Within}
pub use Rattle.der.proofs.Laws.{passed as holds-true}
use Rattle.crmf.proofs.theorems.grammar.Choices.{Choice, taking, choosing, identifiers_of, takings, choices, never_both, skippable}

-- a test that is true holds
pub true_holds : (b : Bool) → b ≡ true → T b
true_holds b e = rw e tt

-- An element keeps a form, with the parts after it.
pub record Taken (R : ℕ → Bool) (f : Form) (ps : Parts) (c : List ℕ) (inside rest : Tree) : Type 0 where
  pub read : T (readable R (mark_of f.marking c))
  pub kept : T (keeps f.rule c)
  pub within : Within R f.inside inside
  pub further : Matches R ps rest

-- An element's value selects how the container goes on.
pub record Selected (R : ℕ → Bool) (s : Selector) (ns : List Name) (c : List ℕ) (rest : Tree) : Type 0 where
  pub name : Name
  pub way : way_of s c ns ≡ some name
  pub further : Matches R (content name) rest

-- an element keeps a choice
abbrev pub Keeps : (ℕ → Bool) → Choice → List ℕ → Tree → Tree → Type 0
Keeps R (taking f ps) c inside rest = Taken R f ps c inside rest
Keeps R (choosing id s ns) c inside rest = Selected R s ns c rest

-- The first element is one of the choices, by its identifier, and keeps it.
pub record FirstOf (R : ℕ → Bool) (ps : Parts) (id : ℕ) (c : List ℕ) (inside rest : Tree) : Type 0 where
  pub choice : Choice
  pub among : Memᴰ choice (choices ps)
  pub identified : named (identifiers_of choice) id ≡ true
  pub keeping : Keeps R choice c inside rest

-- the meaning of some parts, by the first element
abbrev pub Begins : (ℕ → Bool) → Parts → Tree → Type 0
Begins R ps none = skippable ps ≡ true
Begins R ps (element id first whole c inside rest) = FirstOf R ps id c inside rest

-- a part that may be passed over
unfoldable pub begins_past : (R : ℕ → Bool) (o : Occurs) (fs : List Form) (ps : Parts) (t : Tree) → T (passable o) → Begins R ps t
    → Begins R (part o fs then ps) t
unfolding choices skippable
begins_past R o fs ps none ok b = (and-eq-true_iff (passable o) (skippable ps)).1 (holds-true (passable o) ok, b)
begins_past R o fs ps (element id first whole c inside rest) ok b =
    record {
      choice = b.choice;
      among = Memᴰ.append_right (takings (parts_after o fs ps) fs) (rw (holds-true (passable o) ok) b.among);
      identified = b.identified;
      keeping = b.keeping;
    }

-- a form of a part is one of its choices
unfoldable pub taking_among : {f : Form} {fs : List Form} (ps : Parts) → OneOf f fs → Memᴰ (taking f ps) (takings ps fs)
unfolding takings
taking_among ps OneOf.first = Memᴰ.head refl
taking_among ps (OneOf.later m) = Memᴰ.tail (taking_among ps m)

-- a choice of a part is one of its forms
pub among_takings : (h : Choice) (fs : List Form) (ps : Parts) → Memᴰ h (takings ps fs) → (f : Form) × (h ≡ taking f ps) × OneOf f fs
unfolding takings
among_takings h [] ps m = absurd (Memᴰ.not-nil m)
among_takings h (f ∷ fs) ps (Memᴰ.head e) = (f, e, OneOf.first)
among_takings h (f ∷ fs) ps (Memᴰ.tail m) =
    let (g, e, one) = among_takings h fs ps m in
    (g, e, OneOf.later one)

-- What some parts describe begins as they choose.
unfoldable pub matches_begin : {R : ℕ → Bool} {ps : Parts} {t : Tree} → Matches R ps t → Begins R ps t
unfolding choices skippable named
matches_begin end = refl
matches_begin {R = R} (pass {o = o} {fs = fs} {ps = ps} {t = t} ok m) = begins_past R o fs ps t ok (matches_begin m)
matches_begin (take {o = o} {fs = fs} {ps = ps} {id = id} f one fits read kept w m) =
    record {
      choice = taking f (parts_after o fs ps);
      among = Memᴰ.append_left (elim (passable o) [ true ↦ choices ps | false ↦ [] ]) (taking_among (parts_after o fs ps) one);
      identified = holds-true (named f.identifiers id) fits;
      keeping = record { read = read; kept = kept; within = w; further = m };
    }
matches_begin (choose {s = s} {names = ns} {id = id} n way m) =
    record {
      choice = choosing id s ns;
      among = Memᴰ.head refl;
      identified = eq-eqb id id refl;
      keeping = record { name = n; way = way; further = m };
    }

module _ (R : ℕ → Bool) where
  -- no element, if every part may be passed over
  skipped_match : (ps : Parts) → skippable ps ≡ true → Matches R ps none
  unfolding skippable
  skipped_match done e = end
  skipped_match (part o fs then ps) e =
      let both = (and-eq-true_iff (passable o) (skippable ps)).0 e in
      pass (true_holds (passable o) both.0) (skipped_match ps both.1)
  skipped_match (select id s ns) e = never_both true refl (sym e)

  module _ (id first whole : ℕ) (c : List ℕ) (inside rest : Tree) where
    -- an element that keeps a form of a part
    taken_match : (o : Occurs) (fs : List Form) (ps : Parts) (h : Choice) → Memᴰ h (takings (parts_after o fs ps) fs)
        → named (identifiers_of h) id ≡ true → Keeps R h c inside rest → Matches R (part o fs then ps) (element id first whole c inside rest)
    taken_match o fs ps h m fits k =
        let (f, e, one) = among_takings h fs (parts_after o fs ps) m in
        let taken : Taken R f (parts_after o fs ps) c inside rest = subst (λ (g : Choice). Keeps R g c inside rest) e k in
        let own : named f.identifiers id ≡ true = subst (λ (g : Choice). named (identifiers_of g) id ≡ true) e fits in
        take f one (true_holds (named f.identifiers id) own) taken.read taken.kept taken.within taken.further

    -- an element that keeps a choice
    kept_match : (ps : Parts) (h : Choice) → Memᴰ h (choices ps) → named (identifiers_of h) id ≡ true → Keeps R h c inside rest
        → Matches R ps (element id first whole c inside rest)
    unfolding choices named
    kept_match done h m fits k = absurd (Memᴰ.not-nil m)
    kept_match (part o fs then ps) h m fits k =
        by_part (Memᴰ.append_cases (takings (parts_after o fs ps) fs) m) (λ n. kept_match ps h n fits k)
      where
        by_pass : (b : Bool) → passable o ≡ b → Memᴰ h (elim b as (λ x. List Choice) [ true ↦ choices ps | false ↦ [] ])
            → (Memᴰ h (choices ps) → Matches R ps (element id first whole c inside rest))
            → Matches R (part o fs then ps) (element id first whole c inside rest)
        by_pass true e n further = pass (true_holds (passable o) e) (further n)
        by_pass false e n further = absurd (Memᴰ.not-nil n)

        by_part : Memᴰ h (takings (parts_after o fs ps) fs) ⊎ Memᴰ h (elim (passable o) as (λ x. List Choice) [ true ↦ choices ps | false ↦ [] ])
            → (Memᴰ h (choices ps) → Matches R ps (element id first whole c inside rest))
            → Matches R (part o fs then ps) (element id first whole c inside rest)
        by_part (inl n) further = taken_match o fs ps h n fits k
        by_part (inr n) further = by_pass (passable o) refl n further
    kept_match (select a s ns) h m fits k =
        let e = Memᴰ.eq_of_singleton m in
        let picked : Selected R s ns c rest = subst (λ (g : Choice). Keeps R g c inside rest) e k in
        let own : named (octet a) id ≡ true = subst (λ (g : Choice). named (identifiers_of g) id ≡ true) e fits in
        subst (λ (i : ℕ). Matches R (select i s ns) (element id first whole c inside rest)) (eqb-true id a own)
        (choose picked.name picked.way picked.further)

  -- Some parts describe what begins as they choose.
  pub begin_matches : (ps : Parts) (t : Tree) → Begins R ps t → Matches R ps t
  begin_matches ps none b = skipped_match ps b
  begin_matches ps (element id first whole c inside rest) b =
      kept_match id first whole c inside rest ps b.choice b.among b.identified b.keeping
