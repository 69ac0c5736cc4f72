-- If no row of a batch is a certReqId "of more than 8 content octets", no message's certReqId is one: each is a row of the batch.
-- Assumes nothing.
use Prim.Native.Nat.{ℕ, ◌+◌, ◌≤◌}
use mathlib.Core.Path.{◌≡◌, refl, ap, ◌∙◌, subst}
use mathlib.Core.Logic.{◌⊎◌, inl, inr}
use mathlib.Core.Bool.{Bool, true, not, and-eq-true_iff}
use mathlib.Core.List.Memᴰ
use mathlib.Core.List.{List, [], ◌∷◌, ◌++◌, Memᴰ}
use lib.Dec.{ltb}
use lib.ListN.{length}
use borrow.Author.Tests.{ltb-false, not-true}
use Rattle.der.specs.meaning.Tree.{Tree}
use Rattle.crmf.specs.meaning.Kinds as kinds
use Rattle.crmf.specs.meaning.Notation
use Rattle.crmf.specs.meaning.Notation.{Name, Top, Batch, CertReq, holds, Form, once, repeated, part, Parts, done, ◌then◌, holding, row}
use Rattle.crmf.specs.meaning.Grammar.{content}
use Rattle.crmf.specs.meaning.Language.{OneOf, Matches, end, pass, take, Within, parts}
use Rattle.crmf.specs.meaning.Rows.{Extent, no_extent, row_if, parent_if, rows, rows_in, batch_rows, all_short}
use Rattle.crmf.specs.meaning.Fields.{Field, fields, nth}
use Rattle.crmf.specs.meaning.Messages.{Message, message_of, batch, messages}
use Rattle.crmf.proofs.theorems.rows.ShortRows.{short_both}
use Rattle.crmf.proofs.theorems.messages.MessageLaws.{message_own}
use Rattle.crmf.proofs.theorems.messages.MessageRows.{field_extent}

-- a row of a certReqId that is not long
short_own : (kind : ℕ) (here : Extent) (up : ℕ) → all_short (row_if kind here up) ≡ true → kind ≡ kinds.cert_req_id → here.whole ≤ 10
unfolding all_short
short_own kind here up short id = ltb-false 10 here.whole (not-true (ltb 10 here.whole) ((and-eq-true_iff (not (ltb 10 here.whole)) true).0 (rw id at short)).0)

-- The rows of a derivation, from some numbers on, have no long certReqId.
record NoLong {R : ℕ → Bool} {ps : Parts} {t : Tree} (m : Matches R ps t) : Type 0 where
  n : ℕ
  up : ℕ
  extent : Extent
  short : all_short (rows m n up extent) ≡ true

-- A field of a form: it is no long certReqId, and there is none inside it.
record ShortField (R : ℕ → Bool) (form : Form) (f : Field) : Type 0 where
  own : form.kind ≡ kinds.cert_req_id → f.whole ≤ 10
  within : Within R form.inside f.inside
  n : ℕ
  up : ℕ
  short : all_short (rows_in within n up (field_extent f)) ≡ true

-- A field of one of some forms.
record ShortOne (R : ℕ → Bool) (forms : List Form) (f : Field) : Type 0 where
  form : Form
  one : OneOf form forms
  field : ShortField R form f

-- the field of the one form that there is
short_only : {R : ℕ → Bool} {form : Form} {f : Field} → ShortOne R (form ∷ []) f → ShortField R form f
short_only {R} {form} {f} s = by_form s.one s.field
  where
    by_form : {g : Form} → OneOf g (form ∷ []) → ShortField R g f → ShortField R form f
    by_form OneOf.first field = field
    by_form {g = g} (Rattle.crmf.specs.meaning.Language.later x4) field = elim x4 [ ]

-- The first field of a list of elements, and the elements after it.
record FirstShort (R : ℕ → Bool) (forms : List Form) (ps : Parts) (t : Tree) : Type 0 where
  item : Field
  rest : Tree
  split : fields t ≡ item ∷ fields rest
  field : ShortOne R forms item
  further : Matches R ps rest
  after : NoLong further

-- an element that is taken from a part
taken_short : {R : ℕ → Bool} {ps : Parts} {rest : Tree} (f : Form) (g : Field) (within : Within R f.inside g.inside)
    (m : Matches R ps rest) (n up : ℕ) (extent : Extent)
    → (let item = row_if f.item extent up in
    let above = parent_if f.item n up in
    let own = row_if f.kind (field_extent g) above in
    let next = n + length item in
    let inner = rows_in within (next + length own) (parent_if f.kind next above) (field_extent g) in
    all_short (item ++ (own ++ (inner ++ rows m (next + length own + length inner) up extent))) ≡ true)
    → ShortField R f g × NoLong m
taken_short f g within m n up extent short =
    let item = row_if f.item extent up in
    let above = parent_if f.item n up in
    let own = row_if f.kind (field_extent g) above in
    let next = n + length item in
    let inner = rows_in within (next + length own) (parent_if f.kind next above) (field_extent g) in
    let after = rows m (next + length own + length inner) up extent in
    let a = short_both item (own ++ (inner ++ after)) short in
    let b = short_both own (inner ++ after) a.1 in
    let c = short_both inner after b.1 in (
      record {
        own = short_own f.kind (field_extent g) above b.0;
        within = within;
        n = next + length own;
        up = parent_if f.kind next above;
        short = c.0;
      },
      record { n = next + length own + length inner; up = up; extent = extent; short = c.1 },
    )

-- a part that stands once
once_short : {R : ℕ → Bool} {forms : List Form} {ps : Parts} {t : Tree} (m : Matches R (part once forms then ps) t) → NoLong m
    → FirstShort R forms ps t
unfolding fields rows
once_short (pass ok m) short = absurd ok
once_short (take {id = id} {first = p} {whole = w} {c = c} {inside = i} {rest = r} f one fits read kept within m) short =
    let g : Field = record { identifier = id; place = p; whole = w; content = c; inside = i } in
    let (own, after) = taken_short f g within m short.n short.up short.extent short.short in
    record { item = g; rest = r; split = refl; field = record { form = f; one = one; field = own }; further = m; after = after }

-- a part that stands any number of times and then nothing
repeated_short : {R : ℕ → Bool} {forms : List Form} {t : Tree} (m : Matches R (part repeated forms then done) t) → NoLong m
    → (f : Field) → Memᴰ f (fields t) → ShortOne R forms f
unfolding fields rows
repeated_short (pass ok end) short f at = absurd (Memᴰ.not-nil at)
repeated_short (take {id = id} {first = p} {whole = w} {c = c} {inside = i} g one fits read kept within m) short f (Memᴰ.head e) =
    let h : Field = record { identifier = id; place = p; whole = w; content = c; inside = i } in
    rw e
    (record { form = g; one = one; field = (taken_short g h within m short.n short.up short.extent short.short).0 })
repeated_short (take {id = id} {first = p} {whole = w} {c = c} {inside = i} g one fits read kept within m) short f (Memᴰ.tail at) =
    let h : Field = record { identifier = id; place = p; whole = w; content = c; inside = i } in
    repeated_short m (taken_short g h within m short.n short.up short.extent short.short).1 f at

-- A container without a long certReqId.
record ShortInside (R : ℕ → Bool) (name : Name) (t : Tree) : Type 0 where
  inside : Matches R (content name) t
  short : NoLong inside

-- what a field holds
short_inside : {R : ℕ → Bool} (kind id : ℕ) (name : Name) (f : Field) → ShortField R (row kind (holding id name)) f
    → ShortInside R name f.inside
unfolding rows
short_inside {R} kind id name f s = by_within s.within s.short
  where
    by_within : (w : Within R (holds name) f.inside) → all_short (rows_in w s.n s.up (field_extent f)) ≡ true
        → ShortInside R name f.inside
    by_within (parts m) short =
        record { inside = m; short = record { n = s.n; up = s.up; extent = field_extent f; short = short } }

-- each message of a batch
each_short : {R : ℕ → Bool} (t : Tree) → ShortInside R Batch t → (f : Field) → Memᴰ f (fields t) → ShortInside R Notation.Message f.inside
unfolding content
each_short {R} t s f at =
    let b = once_short s.inside s.short in
    by_place b (Memᴰ.cases_cons (subst (Memᴰ f) b.split at))
  where
    by_place : (b : FirstShort R (row kinds.message (holding 0x30 Notation.Message) ∷ []) (part repeated (row kinds.message (holding 0x30 Notation.Message) ∷ []) then done) t)
        → (f ≡ b.item) ⊎ Memᴰ f (fields b.rest) → ShortInside R Notation.Message f.inside
    by_place b (inl e) = rw e (short_inside 2 0x30 Notation.Message b.item (short_only b.field))
    by_place b (inr n) = short_inside 2 0x30 Notation.Message f (short_only (repeated_short b.further b.after f n))

-- the first field inside a field
first_nth : (f g : Field) (gs : List Field) → fields f.inside ≡ g ∷ gs → nth 0 f ≡ g
unfolding nth
first_nth f g gs e = rw (nth, e)

-- the certReqId of a message
id_short : {R : ℕ → Bool} (f : Field) → ShortInside R Notation.Message f.inside → (message_of f).cert_req_id.whole ≤ 10
unfolding content message_of
id_short f s =
    let a = once_short s.inside s.short in
    let request = short_inside 3 0x30 CertReq a.item (short_only a.field) in
    let x = once_short request.inside request.short in
    let here : nth 0 (nth 0 f) ≡ x.item =
    ap (nth 0) (first_nth f a.item (fields a.rest) a.split) ∙ first_nth a.item x.item (fields x.rest) x.split in
    rw here ((short_only x.field).own refl)

-- If no row of a batch is a certReqId of more than 8 content octets, no message's certReqId is one: it has at most 10 octets.
pub ids_short : {R : ℕ → Bool} (t : Tree) (top : Matches R (content Top) t) → all_short (batch_rows top) ≡ true
    → (m : Message) → Memᴰ m (messages t) → m.cert_req_id.whole ≤ 10
unfolding content batch batch_rows
ids_short {R} t top short m at =
    let b = once_short top (record { n = 0; up = 0; extent = no_extent; short = short }) in
    let all : ShortInside R Batch (batch t).inside = rw b.split (short_inside 1 0x30 Batch b.item (short_only b.field)) in
    let own = message_own t m at in
    subst (λ (x : Message). x.cert_req_id.whole ≤ 10) own.1 (id_short m.own (each_short (batch t).inside all m.own own.0))
