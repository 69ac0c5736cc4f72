-- Where an edition's reading stops, and why (SPECIFICATION 3.1 and 3.8): "Place of 8, by this edition's walk, parts left to right, insides
-- first". A relation on parts and element trees; it names no line and no search. Assumes nothing.
use Rattle.std.specs.Prelude.{ℕ, ◌≡◌, Bool, List, T}
use Rattle.std.proofs.Math.Option.{some, none as absent}
use Rattle.der.specs.meaning.Tree.{Tree, none, element}
use Rattle.crmf.specs.meaning.Details.{fits_no_part, part_missing, value_broken}
use Rattle.crmf.specs.meaning.Value.{Selector, keeps, rule_detail}
use Rattle.crmf.specs.meaning.Notation.{Identifiers, octet, named, detail_of, mark_of, Name, Inside, holds, Form, Occurs, part, Parts, ◌then◌, select}
use Rattle.crmf.specs.meaning.Grammar.{content}
use Rattle.crmf.specs.meaning.Language.{readable, passable, parts_after, way_of, OneOf, Within}

-- What the next element may be: an element in a form, with the parts that may come after it; or one whose value selects them.
pub data Choice : Type 0 where
  taking : Form → Parts → Choice
  choosing : ℕ → Selector → List Name → Choice

-- a choice's identifiers
abbrev pub identifiers_of : Choice → Identifiers
identifiers_of (taking f ps) = f.identifiers
identifiers_of (choosing id s ns) = octet id

-- The choices that an element can reach, "a needed part never being passed over".
pub data Reaches : Parts → Choice → Type 0 where
  form : {f : Form} {o : Occurs} {fs : List Form} {ps : Parts} → OneOf f fs → Reaches (part o fs then ps) (taking f (parts_after o fs ps))
  value : {id : ℕ} {s : Selector} {ns : List Name} → Reaches (select id s ns) (choosing id s ns)
  past : {o : Occurs} {fs : List Form} {ps : Parts} {h : Choice} → T (passable o) → Reaches ps h → Reaches (part o fs then ps) h

-- "A part is chosen by identifier alone": the choice that an element with the identifier has.
pub record Has (ps : Parts) (id : ℕ) (h : Choice) : Type 0 where
  pub reached : Reaches ps h
  pub identified : T (named (identifiers_of h) id)

-- Some of the parts is needed: it may not be left out.
pub data Needed : Parts → Type 0 where
  one : {o : Occurs} {fs : List Form} {ps : Parts} → (T (passable o) → ⊥) → Needed (part o fs then ps)
  value : {id : ℕ} {s : Selector} {ns : List Name} → Needed (select id s ns)
  later : {o : Occurs} {fs : List Form} {ps : Parts} → Needed ps → Needed (part o fs then ps)

-- An element is as its form asks, with the elements inside it: the edition allows the form, "insides first", and then its value keeps its rule.
pub record Kept (R : ℕ → Bool) (f : Form) (c : List ℕ) (inside : Tree) : Type 0 where
  pub read : T (readable R (mark_of f.marking c))
  pub within : Within R f.inside inside
  pub kept : T (keeps f.rule c)

mutual
  -- The reading of a container's elements by some parts stops: the container's own place, the elements, the place of the stop and its detail.
  -- R says which editions' own forms may be read.
  pub data Stops (R : ℕ → Bool) : Parts → ℕ → Tree → ℕ → ℕ → Type 0 where
    -- "the container where a needed part is missing at its end"
    missing : {ps : Parts} {around : ℕ} → Needed ps → Stops R ps around none around part_missing
    -- "the element that fits no part it can reach"
    misfit : {ps : Parts} {around id first whole : ℕ} {c : List ℕ} {inside rest : Tree} → ((h : Choice) → Has ps id h → ⊥)
        → Stops R ps around (element id first whole c inside rest) first fits_no_part
    -- an element that this edition doesn't allow in its form; it isn't entered
    foreign : {ps qs : Parts} {around id first whole : ℕ} {c : List ℕ} {inside rest : Tree} {f : Form} → Has ps id (taking f qs)
        → (T (readable R (mark_of f.marking c)) → ⊥) → Stops R ps around (element id first whole c inside rest) first (detail_of (mark_of f.marking c))
    -- "insides first": a stop inside an element
    inner : {ps qs : Parts} {around id first whole place detail : ℕ} {c : List ℕ} {inside rest : Tree} {f : Form} → Has ps id (taking f qs)
        → T (readable R (mark_of f.marking c)) → StopsIn R f.inside first inside place detail
        → Stops R ps around (element id first whole c inside rest) place detail
    -- "an element whose value breaks its rule .. is itself the place"; it is "judged after its inside", as is "the list of control 3 beside
    -- action 0"
    broken : {ps qs : Parts} {around id first whole : ℕ} {c : List ℕ} {inside rest : Tree} {f : Form} → Has ps id (taking f qs)
        → T (readable R (mark_of f.marking c)) → Within R f.inside inside → (T (keeps f.rule c) → ⊥)
        → Stops R ps around (element id first whole c inside rest) first (rule_detail f.rule c)
    -- the same of a value that selects: it selects none of the names
    astray : {ps : Parts} {around id first whole a : ℕ} {c : List ℕ} {inside rest : Tree} {s : Selector} {ns : List Name}
        → Has ps id (choosing a s ns) → way_of s c ns ≡ absent → Stops R ps around (element id first whole c inside rest) first value_broken
    -- "parts left to right": the element is as its form asks, and the reading stops later, by the parts that may come after it
    later : {ps qs : Parts} {around id first whole place detail : ℕ} {c : List ℕ} {inside rest : Tree} {f : Form} → Has ps id (taking f qs)
        → Kept R f c inside → Stops R qs around rest place detail → Stops R ps around (element id first whole c inside rest) place detail
    -- or by the parts of the container that its value selects
    selected_later : {ps : Parts} {around id first whole place detail a : ℕ} {c : List ℕ} {inside rest : Tree} {s : Selector} {ns : List Name} {n : Name}
        → Has ps id (choosing a s ns) → way_of s c ns ≡ some n → Stops R (content n) around rest place detail
        → Stops R ps around (element id first whole c inside rest) place detail

  -- The reading inside an element at a place stops: a free inside "isn't looked at".
  pub data StopsIn (R : ℕ → Bool) : Inside → ℕ → Tree → ℕ → ℕ → Type 0 where
    parts : {n : Name} {around place detail : ℕ} {t : Tree} → Stops R (content n) around t place detail → StopsIn R (holds n) around t place detail
