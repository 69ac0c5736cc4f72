-- The messages of a batch as its octets are read element by element: each field is what is read at its place, and a message's certReqId is
-- what is read first inside what is read first inside the message. Assumes nothing.
use Prim.Native.Nat.{ℕ, ◌≤◌, ◌<◌}
use native.Mathlib.Nat.{lt_of_not-le}
use native.Mathlib.Omega.{arith}
use mathlib.Core.Path.{◌≡◌, refl, sym, ap, ◌∙◌}
use mathlib.Core.List.{List, ◌∷◌, map}
use lib.ListN.{length, drop}
use lib.Seq.{slice, take-length}
use Rattle.der.specs.meaning.Identifier.{constructed}
use Rattle.der.specs.meaning.Tree.{Tree, encode}
use Rattle.der.specs.meaning.Bounds.{longest}
use Rattle.der.specs.steps.Reading.{reading_at, tree}
use Rattle.der.proofs.Laws.{read_at_in_order, sequence_constructed}
use Rattle.crmf.specs.meaning.Fields.{Field, fields}
use Rattle.crmf.specs.steps.Fields.{fields_between}
use Rattle.crmf.specs.steps.Positions.{elements_read}
use Rattle.crmf.specs.meaning.Messages.{message_of, batch, messages}
use Rattle.crmf.proofs.theorems.messages.FieldSteps.{field_at, fields_end, fields_at, inside_fields, batch_at}
use Rattle.crmf.proofs.theorems.messages.MessageLaws.{MessageParts, BatchContent}
use Rattle.crmf.proofs.theorems.messages.MessageSizes.{octets_two}

-- the field that is read from the place p, before the place e
abbrev pub field_read : List ℕ → ℕ → ℕ → Field
field_read s p e = field_at s p (reading_at s p e)

-- fields stand only where an octet does
fields_some : (s : List ℕ) (p e : ℕ) (f : Field) (fs : List Field) → fields_between s p e ≡ f ∷ fs → p < e
fields_some s p e f fs there =
    lt_of_not-le (λ past. let z : ◌≡◌ {A = ℕ} 0 1 = cc (fields_end s p e past) in omega arith)

-- The fields inside a SEQUENCE that is read are those from its content to its end.
pub sequence_read : (s : List ℕ) (p e : ℕ) → (field_read s p e).identifier ≡ 0x30
    → let x = reading_at s p e in fields (field_read s p e).inside ≡ fields_between s x.content x.end
sequence_read s p e thirty = inside_fields s p (reading_at s p e) (ap constructed thirty ∙ sequence_constructed)

-- The first field inside a SEQUENCE is what is read from its content on.
pub first_read : (s : List ℕ) (p e : ℕ) → p < e → e ≤ length s → length s ≤ longest → (f : Field) (fs : List Field)
    → (field_read s p e).identifier ≡ 0x30 → fields (field_read s p e).inside ≡ f ∷ fs
    → let x = reading_at s p e in (x.content < x.end) × (x.end ≤ length s) × (f ≡ field_read s x.content x.end)
first_read s p e some fits high f fs thirty held =
    let x = reading_at s p e in
    let inside = sequence_read s p e thirty in
    let there : x.content < x.end = fields_some s x.content x.end f fs (sym inside ∙ held) in
    let within : x.end ≤ length s = omega (arith, (read_at_in_order s p e some fits high).within) in
    let first = sym held ∙ inside ∙ fields_at s x.content x.end within high there in
    (there, within, cc)

-- A message that is read from the place p, before the place e: its certReqId is read inside its certReq, which is read inside it.
pub record IdRead (s : List ℕ) (p e : ℕ) : Type 0 where
  pub there : let x = reading_at s p e in let y = reading_at s x.content x.end in (y.content < y.end) × (y.end ≤ length s)
  pub same : let x = reading_at s p e in let y = reading_at s x.content x.end in
      (message_of (field_read s p e)).cert_req_id ≡ field_read s y.content y.end

-- A message whose parts are known is read so.
pub id_read : (s : List ℕ) (p e : ℕ) → p < e → e ≤ length s → length s ≤ longest → MessageParts (message_of (field_read s p e)) → IdRead s p e
unfolding message_of
id_read s p e some fits high k =
    let m = message_of (field_read s p e) in
    let x = reading_at s p e in
    let (there, within, request) = first_read s p e some fits high m.cert_req _ k.thirty k.whole.held in
    let (inner, ends, same) =
    first_read s x.content x.end there within high m.cert_req_id _ (ap (λ (f : Field). f.identifier) (sym request) ∙ k.cert_req)
    (ap (λ (f : Field). fields f.inside) (sym request) ∙ k.request.held) in
    record { there = (inner, ends); same = same }

-- a whole input that is read as a batch is the element that is read first, and ends with it
read_whole : (s : List ℕ) (t : Tree) → tree 0 s ≡ t → length s ≤ longest → encode t ≡ s → BatchContent t
    → (batch t ≡ field_read s 0 (length s)) × ((reading_at s 0 (length s)).end ≡ length s)
read_whole s t read high encoded b =
    let n = length s in
    let some : 0 < n = omega (arith, octets_two (batch t), ap length b.all, ap length encoded) in
    let own : batch t ≡ field_read s 0 n = ap batch (sym read) ∙ batch_at s some high in
    (own, omega (arith, ap (λ (f : Field). f.whole) (sym own) ∙ b.size ∙ ap length encoded))

-- If a whole input is read as a batch, the elements inside it are those from the batch's content to the input's end.
pub batch_elements : (s : List ℕ) (t : Tree) → tree 0 s ≡ t → length s ≤ longest → encode t ≡ s → BatchContent t
    → fields (batch t).inside ≡ elements_read s
batch_elements s t read high encoded b =
    let n = length s in
    let x = reading_at s 0 n in
    let (own, ends) = read_whole s t read high encoded b in
    let thirty = ap (λ (f : Field). f.identifier) (sym own) ∙ b.thirty in
    ap (λ (f : Field). fields f.inside) own ∙ sequence_read s 0 n thirty ∙ ap (λ (e : ℕ). fields_between s x.content e) ends

-- The octets from its content on are its content.
pub content_read : (s : List ℕ) (t : Tree) → tree 0 s ≡ t → length s ≤ longest → encode t ≡ s → BatchContent t
    → drop (reading_at s 0 (length s)).content s ≡ (batch t).content
content_read s t read high encoded b =
    let n = length s in
    let x = reading_at s 0 n in
    let (own, ends) = read_whole s t read high encoded b in
    let all : drop x.content s ≡ slice x.content x.end s =
    sym (ap (λ (e : ℕ). slice x.content e s) ends ∙ ap (drop x.content) (take-length s)) in
    all ∙ ap (λ (f : Field). f.content) (sym own)

-- So its messages are those of these elements.
pub batch_read : (s : List ℕ) → length s ≤ longest → encode (tree 0 s) ≡ s → BatchContent (tree 0 s)
    → let p = (reading_at s 0 (length s)).content in messages (tree 0 s) ≡ map message_of (fields_between s p (length s))
unfolding messages
batch_read s high encoded b = ap (map message_of) (batch_elements s (tree 0 s) refl high encoded b)
