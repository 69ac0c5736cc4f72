-- What the grammar means (SPECIFICATION 3.1 and 3.7): which element trees a container's parts describe, and where forms of one edition alone
-- occur in them. It names no line, no search and no order of judging. Assumes nothing.
use Rattle.std.specs.Prelude.{ℕ, ◌≡◌, Bool, true, false, List, [], ◌∷◌, ◌++◌, T}
use Rattle.std.proofs.Math.Option.{Option, some, bind}
use Rattle.std.proofs.Math.ListN.{get_elem?}
use Rattle.der.specs.meaning.Tree.{Tree, none, element}
use Rattle.crmf.specs.meaning.Value.{keeps, Selector, selected}
use Rattle.crmf.specs.meaning.Notation.{named, Mark, both, alone, mark_of, Name, Inside, free, holds, Form, Occurs, once, optional, repeated, part, Parts, done, ◌then◌, select}
use Rattle.crmf.specs.meaning.Grammar.{content}

-- An element with a mark is readable if both editions allow it, or if R says that what the one edition alone allows may be read.
abbrev pub readable : (ℕ → Bool) → Mark → Bool
readable R both = true
readable R (alone e d detail) = R e

-- whether a part may be left out
abbrev pub passable : Occurs → Bool
passable once = false
passable optional = true
passable repeated = true

-- the parts that may come after an element of a part
abbrev pub parts_after : Occurs → List Form → Parts → Parts
parts_after once fs ps = ps
parts_after optional fs ps = ps
parts_after repeated fs ps = part repeated fs then ps

-- the name that a value selects among some, if it selects one
unfoldable pub way_of : Selector → List ℕ → List Name → Option Name
way_of s c names = bind (selected s c) (get_elem? names)

-- A form is in a list.
pub data OneOf (f : Form) : List Form → Type 0 where
  first : {fs : List Form} → OneOf f (f ∷ fs)
  later : {g : Form} {fs : List Form} → OneOf f fs → OneOf f (g ∷ fs)

mutual
  -- The elements are what the parts describe, in the parts' order (SPECIFICATION 3.1).
  pub data Matches (R : ℕ → Bool) : Parts → Tree → Type 0 where
    end : Matches R done none
    pass : {o : Occurs} {fs : List Form} {ps : Parts} {t : Tree} → T (passable o) → Matches R ps t → Matches R (part o fs then ps) t
    take : {o : Occurs} {fs : List Form} {ps : Parts} {id first whole : ℕ} {c : List ℕ} {inside rest : Tree} (f : Form)
        → OneOf f fs → T (named f.identifiers id) → T (readable R (mark_of f.marking c)) → T (keeps f.rule c) → Within R f.inside inside
        → Matches R (parts_after o fs ps) rest → Matches R (part o fs then ps) (element id first whole c inside rest)
    choose : {s : Selector} {names : List Name} {id first whole : ℕ} {c : List ℕ} {inside rest : Tree} (n : Name)
        → way_of s c names ≡ some n → Matches R (content n) rest
        → Matches R (select id s names) (element id first whole c inside rest)

  -- The elements inside an element are what its form says: any elements if the inside is free, else what a container's parts describe.
  pub data Within (R : ℕ → Bool) : Inside → Tree → Type 0 where
    unseen : {t : Tree} → Within R free t
    parts : {n : Name} {t : Tree} → Matches R (content n) t → Within R (holds n) t

-- An element in a form of one edition alone (SPECIFICATION 3.7): its place, the edition, the difference's number and the detail of its form.
pub record Occurrence : Type 0 where
  pub place : ℕ
  pub edition : ℕ
  pub difference : ℕ
  pub detail : ℕ

-- the occurrence at an element's place, if its mark names one edition alone
abbrev pub occurs : Mark → ℕ → List Occurrence
occurs both p = []
occurs (alone e d detail) p = record { place = p; edition = e; difference = d; detail = detail } ∷ []

-- The occurrences in the elements, and in the elements inside an element. None occurs in a free inside.
unfoldable mutual
  pub occurrences : {R : ℕ → Bool} {ps : Parts} {t : Tree} → Matches R ps t → List Occurrence
  occurrences end = []
  occurrences (pass ok m) = occurrences m
  occurrences (take {first = p} {c = c} f among fits read kept w m) = occurs (mark_of f.marking c) p ++ (occurrences_in w ++ occurrences m)
  occurrences (choose n way m) = occurrences m

  pub occurrences_in : {R : ℕ → Bool} {i : Inside} {t : Tree} → Within R i t → List Occurrence
  occurrences_in unseen = []
  occurrences_in (parts m) = occurrences m
