-- The rows of a batch, message by message: row 0, and then the rows of each of its messages, one after the other. A message's rows move with
-- it, and are renumbered if more rows come before them. Assumes nothing.
use Prim.Native.Nat.{ℕ, ◌+◌, ◌≤◌}
use native.Mathlib.Nat.{add_assoc}
use native.Mathlib.Omega.{arith}
use mathlib.Core.Path.{◌≡◌, refl, sym, ap, ap₂, ◌∙◌}
use mathlib.Core.Bool.{Bool}
use mathlib.Core.List.{List, [], ◌∷◌, ◌++◌, map, map-append, append_assoc, append-nil, Memᴰ}
use lib.ListN.{length, length-append, length-map, get_or, drop}
use Rattle.der.specs.meaning.Tree.{Tree, WellFormed}
use Rattle.crmf.specs.meaning.Kinds as kinds
use Rattle.crmf.specs.meaning.Notation
use Rattle.crmf.specs.meaning.Notation.{Name, Top, Batch, holds, Form, once, repeated, part, done, ◌then◌, holding, row}
use Rattle.crmf.specs.meaning.Grammar.{content}
use Rattle.crmf.specs.meaning.Language.{OneOf, Matches, end, pass, take, Within, parts}
use Rattle.crmf.specs.meaning.Rows.{Row, Extent, extent_of, no_extent, row_with, rows, rows_in, batch_rows, moved_row, renumbered_row, all_short}
use Rattle.crmf.specs.meaning.Fields.{Field, fields, moved_field}
use Rattle.crmf.specs.meaning.Messages.{batch}
use Rattle.crmf.specs.steps.grammar.Lines.{start}
use Rattle.crmf.specs.steps.rows.Fill.{rows_from}
use Rattle.crmf.proofs.theorems.rows.RowsOfLines.{rows_one, rows_lines}
use Rattle.crmf.proofs.theorems.rows.RowsInPlace.{absent_row}
use Rattle.crmf.proofs.theorems.rows.RowLaws.{nothing_left, batch_form, batch_row, row_zero}
use Rattle.crmf.proofs.theorems.rows.RowsMoved.{shifted, extent_moved, rows_from_moved}
use Rattle.crmf.proofs.theorems.rows.RowsRenumbered.{numbered_some, rows_renumbered}
use Rattle.crmf.proofs.theorems.messages.FieldsMatch.{Holding}
use Rattle.crmf.proofs.theorems.messages.MessageLaws.{own_fields, messages_own}

-- the extent of a field
abbrev pub field_extent : Field → Extent
field_extent f = extent_of f.place f.whole f.content

-- a message's own row, below the batch's
abbrev message_row : Field → Row
message_row f = row_with kinds.message (field_extent f) 0

-- The rows of a message whose own row has the number n: that row, and the rows inside the message, below it.
unfoldable pub message_rows : ℕ → Field → List Row
message_rows n f = message_row f ∷ rows_from (start Notation.Message) f.inside (n + 1) n (field_extent f)

-- The rows of some messages, one after the other, from the number n on.
unfoldable pub rows_of_messages : ℕ → List Field → List Row
rows_of_messages n [] = []
rows_of_messages n (f ∷ fs) = message_rows n f ++ rows_of_messages (n + length (message_rows n f)) fs

-- The rows inside a message are those of any derivation.
pub message_rows_lem : {R : ℕ → Bool} (n : ℕ) (f : Field) (m : Matches R (content Notation.Message) f.inside)
    → message_rows n f ≡ row_with kinds.message (field_extent f) 0 ∷ rows m (n + 1) n (field_extent f)
unfolding message_rows
message_rows_lem n f m = ap (λ (rs : List Row). message_row f ∷ rs) (rows_lines Notation.Message m (n + 1) n (field_extent f))

-- Messages after others have their rows after theirs.
pub messages_rows_append : (n : ℕ) (fs gs : List Field)
    → rows_of_messages n (fs ++ gs) ≡ rows_of_messages n fs ++ rows_of_messages (n + length (rows_of_messages n fs)) gs
unfolding rows_of_messages
messages_rows_append n [] gs = ap (λ (k : ℕ). rows_of_messages k gs) (omega arith)
messages_rows_append n (f ∷ fs) gs =
    let own = message_rows n f in
    let next = n + length own in
    let more = rows_of_messages next fs in
    let count : next + length more ≡ n + length (own ++ more) = omega (arith, length-append own more) in
    ap (λ (rs : List Row). own ++ rs) (messages_rows_append next fs gs ∙ ap (λ (k : ℕ). more ++ rows_of_messages k gs) count)
    ∙ sym (append_assoc own more (rows_of_messages (n + length (own ++ more)) gs))

-- a message's rows move with it
pub message_rows_moved : (d n : ℕ) (f : Field) → message_rows n (moved_field d f) ≡ map (moved_row d) (message_rows n f)
unfolding message_rows moved_field
message_rows_moved d n f =
    ap (λ (x : Extent). row_with kinds.message x 0 ∷ rows_from (start Notation.Message) (moved_field d f).inside (n + 1) n x)
    (extent_moved d f.place f.whole f.content)
    ∙ ap (λ (rs : List Row). row_with kinds.message (shifted d (field_extent f)) 0 ∷ rs)
    (rows_from_moved d f.inside (start Notation.Message) (n + 1) n (field_extent f))

-- Messages that are moved have the same rows, moved.
pub messages_rows_moved : (d n : ℕ) (fs : List Field) → rows_of_messages n (map (moved_field d) fs) ≡ map (moved_row d) (rows_of_messages n fs)
unfolding rows_of_messages
messages_rows_moved d n [] = refl
messages_rows_moved d n (f ∷ fs) =
    simp (message_rows_moved d, length-map, messages_rows_moved d (n + length (message_rows n f)) fs, map-append)

-- a message's rows are renumbered if it comes further down
pub message_rows_renumbered : {R : ℕ → Bool} (k n : ℕ) (f : Field) → Holding R 0x30 Notation.Message f → 1 ≤ n
    → message_rows (k + n) f ≡ map (renumbered_row k) (message_rows n f)
message_rows_renumbered k n f h low =
    let x = field_extent f in
    message_rows_lem (k + n) f h.1
    ∙ ap (λ (rs : List Row). message_row f ∷ rs)
    (ap₂ (λ (next up : ℕ). rows h.1 next up x) (add_assoc k n 1) (sym (numbered_some k n low)) ∙ rows_renumbered h.1 k (n + 1) n x (omega arith))
    ∙ sym (ap (map (renumbered_row k)) (message_rows_lem n f h.1))

-- Messages that come k rows further down have the same rows, renumbered.
pub messages_rows_renumbered : {R : ℕ → Bool} (k n : ℕ) (fs : List Field) → ((f : Field) → Memᴰ f fs → Holding R 0x30 Notation.Message f) → 1 ≤ n
    → rows_of_messages (k + n) fs ≡ map (renumbered_row k) (rows_of_messages n fs)
unfolding rows_of_messages
messages_rows_renumbered k n [] each low = refl
messages_rows_renumbered k n (f ∷ fs) each low =
    let next = n + length (message_rows n f) in
    simp (
      message_rows_renumbered k n f (each f (Memᴰ.head refl)) low,
      length-map,
      add_assoc k n (length (message_rows n f)),
      messages_rows_renumbered k next fs (λ g m. each g (Memᴰ.tail m)) (omega arith),
      map-append,
    )

-- the rows inside an element around a container are those of a derivation of the container's parts
within_held : {R : ℕ → Bool} {name : Name} {inside : Tree} (w : Within R (holds name) inside)
    → (d : Matches R (content name) inside) × (◌≡◌ {A = ℕ → ℕ → Extent → List Row} (λ n up extent. rows_in w n up extent) (λ n up extent. rows d n up extent))
unfolding rows_in
within_held (parts d) = (d, refl)

-- so are those that its own row stands above
held_rows : {R : ℕ → Bool} (k id : ℕ) (name : Name) {g : Form} {inside : Tree} → OneOf g (row k (holding id name) ∷ [])
    → (within : Within R g.inside inside) → (d : Matches R (content name) inside)
    × ((here : Extent) (later : ℕ → List Row) (n up : ℕ) (extent : Extent) → rows_one g.kind g.item here (λ j u. rows_in within j u here) later n up extent
    ≡ rows_one k kinds.none here (λ j u. rows d j u here) later n up extent)
held_rows k id name OneOf.first within =
    let (d, same) = within_held within in
    (d, λ here later n up extent. ap (λ (inner : ℕ → ℕ → Extent → List Row). rows_one k kinds.none here (λ j u. inner j u here) later n up extent) same)
held_rows {R = R} k id name {g = g} {inside = inside} (Rattle.crmf.specs.meaning.Language.later x3) within = elim x3 [ ]

-- the form of a message
abbrev message_form : Form
message_form = row kinds.message (holding 0x30 Notation.Message)

-- the rows of a message, before those of others
taken_rows : {R : ℕ → Bool} (f : Field) {g : Form} → OneOf g (message_form ∷ []) → (within : Within R g.inside f.inside)
    (later : ℕ → List Row) (n : ℕ) (extent : Extent) (fs : List Field) → ((j : ℕ) → later j ≡ rows_of_messages j fs)
    → rows_one g.kind g.item (field_extent f) (λ j u. rows_in within j u (field_extent f)) later n 0 extent ≡ rows_of_messages n (f ∷ fs)
unfolding rows_one rows_of_messages
taken_rows f one within later n extent fs others =
    let (d, made) = held_rows kinds.message 0x30 Notation.Message one within in
    let inner = rows d (n + 1) n (field_extent f) in
    let same : n + 0 ≡ n = omega arith in
    let count : n + 1 + length inner ≡ n + length (message_row f ∷ inner) = omega arith in
    made (field_extent f) later n 0 extent
    ∙ rw (message_rows_lem n f d, same)
    (ap (λ (rs : List Row). message_row f ∷ (inner ++ rs)) (ap later count ∙ others (n + length (message_row f ∷ inner))))

-- the rows of any number of messages
repeated_rows : {R : ℕ → Bool} {t : Tree} (m : Matches R (part repeated (message_form ∷ []) then done) t) (n : ℕ) (extent : Extent)
    → rows m n 0 extent ≡ rows_of_messages n (fields t)
unfolding rows rows_one rows_of_messages fields
repeated_rows (pass ok end) n extent = refl
repeated_rows (take {id = id} {first = p} {whole = w} {c = c} {inside = i} {rest = r} g one fits read kept within m) n extent =
    taken_rows (record { identifier = id; place = p; whole = w; content = c; inside = i }) one within (λ j. rows m j 0 extent) n extent (fields r)
    (λ j. repeated_rows m j extent)

-- the rows inside a batch
inside_rows : {R : ℕ → Bool} {t : Tree} (m : Matches R (part once (message_form ∷ []) then part repeated (message_form ∷ []) then done) t) (n : ℕ) (extent : Extent)
    → rows m n 0 extent ≡ rows_of_messages n (fields t)
unfolding rows rows_one fields
inside_rows (pass ok m) n extent = absurd ok
inside_rows (take {id = id} {first = p} {whole = w} {c = c} {inside = i} {rest = r} g one fits read kept within m) n extent =
    taken_rows (record { identifier = id; place = p; whole = w; content = c; inside = i }) one within (λ j. rows m j 0 extent) n extent (fields r)
    (λ j. repeated_rows m j extent)

-- the rows of a batch are its own, and those inside it
top_rows : {R : ℕ → Bool} {t : Tree} (m : Matches R (part once (batch_form ∷ []) then done) t)
    → rows m 0 0 no_extent ≡ row_with kinds.batch (field_extent (batch t)) 0 ∷ rows_of_messages 1 (fields (batch t).inside)
unfolding content rows rows_one batch fields
top_rows (pass ok m) = absurd ok
top_rows (take {first = p} {whole = w} {c = c} g one fits read kept within m) =
    let here = extent_of p w c in
    let (d, made) = held_rows kinds.batch 0x30 Batch one within in
    let inner = rows d 1 0 here in
    made here (λ j. rows m j 0 no_extent) 0 0 no_extent
    ∙ ap (λ (rs : List Row). row_with kinds.batch here 0 ∷ rs)
    (ap (λ (rs : List Row). inner ++ rs) (nothing_left m (1 + length inner) 0 no_extent).1 ∙ append-nil inner ∙ inside_rows d 1 here)

-- The rows of a batch are row 0 and the rows of its messages, one after the other.
pub batch_rows_of_messages : {R : ℕ → Bool} {t : Tree} (m : Matches R (content Top) t) (left : ℕ) → WellFormed left 0 t
    → batch_rows m ≡ batch_row t ∷ rows_of_messages 1 (own_fields t)
unfolding content batch_rows
batch_rows_of_messages {t = t} m left formed =
    let all : batch_rows m ≡ row_with kinds.batch (field_extent (batch t)) 0 ∷ rows_of_messages 1 (fields (batch t).inside) = top_rows m in
    let own : row_with kinds.batch (field_extent (batch t)) 0 ≡ batch_row t = sym (ap (λ (rs : List Row). get_or rs 0 absent_row) all) ∙ row_zero m left formed in
    all ∙ ap₂ (λ (r : Row) (fs : List Field). r ∷ rows_of_messages 1 fs) own (sym (messages_own t))

module _ {R : ℕ → Bool} {t : Tree} (m : Matches R (content Top) t) (left : ℕ) (formed : WellFormed left 0 t) where
  -- So the rows below row 0 are those of its messages.
  pub rows_below : drop 1 (batch_rows m) ≡ rows_of_messages 1 (own_fields t)
  rows_below = ap (drop 1) (batch_rows_of_messages m left formed)

  -- The batch has one row more.
  pub below_count : length (batch_rows m) ≡ 1 + length (rows_of_messages 1 (own_fields t))
  below_count = ap length (batch_rows_of_messages m left formed) ∙ omega arith

  -- Row 0 is no certReqId, so none of the batch's rows is a long one exactly if none below row 0 is.
  pub short_below : all_short (drop 1 (batch_rows m)) ≡ all_short (batch_rows m)
  unfolding all_short
  short_below =
      ap (λ (rs : List Row). all_short (drop 1 rs)) (batch_rows_of_messages m left formed) ∙ sym (ap all_short (batch_rows_of_messages m left formed))
