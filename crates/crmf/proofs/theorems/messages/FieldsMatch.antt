-- What the grammar says of a list of elements, it says of its fields, part by part: a part that stands once is the first field, a part
-- that may stand once is the first field or none, a repeated part is all of them. Assumes nothing.
use Prim.Native.Nat.{ℕ}
use mathlib.Core.Path.{◌≡◌, refl}
use mathlib.Core.Logic.{◌⊎◌, inl, inr}
use mathlib.Core.Bool.{Bool}
use mathlib.Core.List.Memᴰ
use mathlib.Core.List.{List, [], ◌∷◌, ◌++◌, Memᴰ}
use mathlib.Core.Option.{Option, some, none as absent}
use lib.Dec.{T, eqb}
use borrow.Author.Tests.{eqb-true, eq-eqb}
use Rattle.der.specs.meaning.Tree.{Tree, element}
use Rattle.crmf.specs.meaning.Value.{keeps}
use Rattle.crmf.specs.meaning.Notation.{named, mark_of, Name, holds, Form, Occurs, once, optional, repeated, part, Parts, done, ◌then◌, holding, row}
use Rattle.crmf.specs.meaning.Grammar.{content}
use Rattle.crmf.specs.meaning.Language.{readable, parts_after, OneOf, Matches, end, pass, take, Within, parts}
use Rattle.crmf.specs.meaning.Fields.{Field, fields, listed}
use Rattle.crmf.proofs.theorems.grammar.ChoicesMatch.{holds-true, true_holds}
use Rattle.crmf.proofs.theorems.messages.FieldLaws.{IfAny}

-- A field keeps a form.
pub record Fits (R : ℕ → Bool) (form : Form) (f : Field) : Type 0 where
  pub fits : T (named form.identifiers f.identifier)
  pub read : T (readable R (mark_of form.marking f.content))
  pub kept : T (keeps form.rule f.content)
  pub within : Within R form.inside f.inside

-- A field keeps one of some forms.
pub record FitsOne (R : ℕ → Bool) (forms : List Form) (f : Field) : Type 0 where
  pub form : Form
  pub one : OneOf form forms
  pub keeping : Fits R form f

-- A list of elements begins with a field of one of some forms, and goes on as some parts describe.
pub record Begun (R : ℕ → Bool) (forms : List Form) (ps : Parts) (t : Tree) : Type 0 where
  pub item : Field
  pub rest : Tree
  pub keeping : FitsOne R forms item
  pub further : Matches R ps rest
  pub split : fields t ≡ item ∷ fields rest

-- A list of elements may begin with a field of one of some forms, and goes on as some parts describe.
pub record MayBegin (R : ℕ → Bool) (forms : List Form) (ps : Parts) (t : Tree) : Type 0 where
  pub item : Option Field
  pub rest : Tree
  pub keeping : IfAny (FitsOne R forms) item
  pub further : Matches R ps rest
  pub split : fields t ≡ listed item ++ fields rest

-- a part that stands once
pub once_begun : {R : ℕ → Bool} {forms : List Form} {ps : Parts} {t : Tree} → Matches R (part once forms then ps) t → Begun R forms ps t
unfolding fields
once_begun (pass ok m) = absurd ok
once_begun (take {id = id} {first = p} {whole = w} {c = c} {inside = i} {rest = r} f one fits read kept within m) =
    record {
      item = record { identifier = id; place = p; whole = w; content = c; inside = i };
      rest = r;
      keeping = record { form = f; one = one; keeping = record { fits = fits; read = read; kept = kept; within = within } };
      further = m;
      split = refl;
    }

-- a part that may stand once
pub optional_begun : {R : ℕ → Bool} {forms : List Form} {ps : Parts} {t : Tree} → Matches R (part optional forms then ps) t → MayBegin R forms ps t
unfolding fields listed
optional_begun (pass {t = t} ok m) = record { item = absent; rest = t; keeping = tt; further = m; split = refl }
optional_begun (take {id = id} {first = p} {whole = w} {c = c} {inside = i} {rest = r} f one fits read kept within m) =
    record {
      item = some (record { identifier = id; place = p; whole = w; content = c; inside = i });
      rest = r;
      keeping = record { form = f; one = one; keeping = record { fits = fits; read = read; kept = kept; within = within } };
      further = m;
      split = refl;
    }

-- a part that stands any number of times and then nothing: every field keeps one of its forms
pub repeated_keep : {R : ℕ → Bool} {forms : List Form} {t : Tree} → Matches R (part repeated forms then done) t
    → (f : Field) → Memᴰ f (fields t) → FitsOne R forms f
unfolding fields
repeated_keep (pass ok end) f n = absurd (Memᴰ.not-nil n)
repeated_keep (take g one fits read kept within m) f (Memᴰ.head e) =
    rw e (record { form = g; one = one; keeping = record { fits = fits; read = read; kept = kept; within = within } })
repeated_keep (take g one fits read kept within m) f (Memᴰ.tail n) = repeated_keep m f n

-- nothing more
pub end_fields : {R : ℕ → Bool} {t : Tree} → Matches R done t → fields t ≡ []
unfolding fields
end_fields end = refl

-- A field with an identifier holds what a container of the grammar holds.
abbrev pub Holding : (ℕ → Bool) → ℕ → Name → Field → Type 0
Holding R id name f = (f.identifier ≡ id) × Matches R (content name) f.inside

-- what a container holds
inside_matches : {R : ℕ → Bool} {name : Name} {t : Tree} → Within R (holds name) t → Matches R (content name) t
inside_matches (parts m) = m

-- a field that keeps the form of such an element
pub fits_holding : {R : ℕ → Bool} (id : ℕ) (name : Name) (k : ℕ) (f : Field) → Fits R (row k (holding id name)) f → Holding R id name f
unfolding named
fits_holding id name k f fit =
    (eqb-true f.identifier id (holds-true (eqb f.identifier id) fit.fits), inside_matches fit.within)

-- a field that keeps the one form that there is
pub fits_only : {R : ℕ → Bool} {form : Form} {f : Field} → FitsOne R (form ∷ []) f → Fits R form f
fits_only {R} {form} {f} fit = by_form fit.one fit.keeping
  where
    by_form : {g : Form} → OneOf g (form ∷ []) → Fits R g f → Fits R form f
    by_form OneOf.first keeping = keeping
    by_form {g = g} (Rattle.crmf.specs.meaning.Language.later x4) keeping = elim x4 [ ]

-- a field that keeps the first form or one of the others
pub fits_cons : {R : ℕ → Bool} {form : Form} {forms : List Form} {f : Field} → FitsOne R (form ∷ forms) f → Fits R form f ⊎ FitsOne R forms f
fits_cons {R} {form} {forms} {f} fit = by_form fit.one fit.keeping
  where
    by_form : {g : Form} → OneOf g (form ∷ forms) → Fits R g f → Fits R form f ⊎ FitsOne R forms f
    by_form OneOf.first k = inl k
    by_form {g} (OneOf.later one) k = inr (record { form = g; one = one; keeping = k })

-- a field that holds what a container holds keeps the form of such an element
pub holding_take : {R : ℕ → Bool} {o : Occurs} {ps : Parts} {t : Tree} (k id : ℕ) (name : Name) (f : Field) → Holding R id name f
    → Matches R (parts_after o (row k (holding id name) ∷ []) ps) t
    → Matches R (part o (row k (holding id name) ∷ []) then ps) (element f.identifier f.place f.whole f.content f.inside t)
unfolding named keeps
holding_take k id name f h m =
    take (row k (holding id name)) OneOf.first (true_holds (eqb f.identifier id) (eq-eqb f.identifier id h.0)) tt tt (parts h.1) m
