-- Fields step by step, as code reads them from place to place: the field at a place and those after it, those inside it, the first with an
-- identifier, and the messages of a batch. Assumes nothing.
use Prim.Native.Nat.{ℕ, ◌+◌, ◌-◌, ◌≤◌, ◌<◌}
use native.Mathlib.Nat.{eq-or-lt_of_le}
use native.Mathlib.Omega.{arith}
use mathlib.Core.Path.{◌≡◌, refl, sym, ap, subst, ◌∙◌}
use mathlib.Core.Logic.{◌⊎◌, inl, inr}
use mathlib.Core.Bool.{Bool, true, false, ◌||◌}
use mathlib.Core.List.{List, [], ◌∷◌, map, Memᴰ}
use mathlib.Core.Option.{some, none as absent}
use lib.ListN.{length, get_or, drop, length-append}
use lib.Seq.{slice, take-length}
use lib.Dec.{eqb}
use borrow.Author.Tests.{eqb-true, eqb-false, eq-eqb, ne_eqb}
use Rattle.der.specs.declared.element.reading.Element.{Element}
use Rattle.der.specs.meaning.Identifier.{constructed}
use Rattle.der.specs.meaning.Bounds.{depth}
use Rattle.der.specs.meaning.Tree.{Tree, none, header, encode, WellFormed, Single}
use Rattle.der.specs.steps.Reading.{reading_at, tree}
use Rattle.der.proofs.Laws.{take_drop, slice_none, tree_end, tree_at, header_some, sequence_constructed}
use Rattle.crmf.specs.meaning.Notation.{among, Top}
use Rattle.crmf.specs.meaning.Fields.{Field, fields, octets, StandsAt, first_with, child, listed}
use Rattle.crmf.specs.steps.Fields.{fields_between}
use Rattle.crmf.specs.meaning.Grammar.{content}
use Rattle.crmf.specs.meaning.Language.{Matches}
use Rattle.crmf.specs.meaning.Messages.{proofs, Message, message_of, batch, messages}
use Rattle.crmf.proofs.theorems.messages.FieldLaws.{fields_none, fields_element, FormedField, child_formed, consists_fields, consists_stand, stands_fit, IfAny, first_with_found}
use Rattle.crmf.proofs.theorems.messages.MessageLaws.{batch_element, message_parts, messages_formed, messages_stand}

-- the field of an element that is read at a place
abbrev pub field_at : List ℕ → ℕ → Element → Field
field_at s p x =
    let content = slice x.content x.end s in
    record {
      identifier = x.identifier;
      place = p;
      whole = x.end - p;
      content = content;
      inside = elim (constructed x.identifier) [ true ↦ tree x.content content | false ↦ none ];
    }

-- from an end on there are no fields
pub fields_end : (s : List ℕ) (p e : ℕ) → e ≤ p → fields_between s p e ≡ []
unfolding fields_between
fields_end s p e past = ap (λ (bs : List ℕ). fields (tree p bs)) (slice_none p e s (omega arith)) ∙ ap fields (tree_end p) ∙ fields_none

-- What the fields from a place to another say of the first: it is the one that is read there, and the others stand after it.
pub record Begins (s : List ℕ) (p e : ℕ) (f : Field) (fs : List Field) : Type 0 where
  pub room : p < e
  pub here : field_at s p (reading_at s p e) ≡ f
  pub after : fields_between s (reading_at s p e).end e ≡ fs

module _ (s : List ℕ) (p e : ℕ) (fits : e ≤ length s) (high : length s ≤ 65535) where
  -- before an end they are the one that is read there and those after it
  pub fields_at : p < e → let x = reading_at s p e in fields_between s p e ≡ field_at s p x ∷ fields_between s x.end e
  unfolding fields_between
  fields_at room = ap fields (tree_at s p e room fits high) ∙ fields_element _ _ _ _ _ _

  -- and if there is a first, it is that one
  pub fields_begin : {f : Field} {fs : List Field} → p ≤ e → fields_between s p e ≡ f ∷ fs → Begins s p e f fs
  fields_begin {f} {fs} order same = by_room (eq-or-lt_of_le order)
    where
      by_room : (p ≡ e) ⊎ (p < e) → Begins s p e f fs
      by_room (inl end) = let none : f ∷ fs ≡ [] = sym same ∙ fields_end s p e (omega arith) in absurd (omega (arith, ap length none))
      by_room (inr room) =
          let both = sym (fields_at room) ∙ same in
          record { room = room; here = ap (λ (l : List Field). get_or l 0 f) both; after = ap (drop 1) both }

-- the fields inside a constructed one
pub inside_fields : (s : List ℕ) (p : ℕ) (x : Element) → constructed x.identifier ≡ true
    → fields (field_at s p x).inside ≡ fields_between s x.content x.end
unfolding fields_between
inside_fields s p x made = rw (made, field_at)

-- among no fields none is found
pub first_with_none : (ids : List ℕ) → first_with ids [] ≡ absent
unfolding first_with
first_with_none ids = refl

module _ (id : ℕ) (f : Field) (fs : List Field) where
  -- a field with the identifier is found
  pub first_with_here : f.identifier ≡ id → first_with (id ∷ []) (f ∷ fs) ≡ some f
  unfolding first_with among
  first_with_here is = rw (eq-eqb _ _ is, first_with)

  -- past any other the search goes on
  pub first_with_next : (f.identifier ≡ id → ⊥) → first_with (id ∷ []) (f ∷ fs) ≡ first_with (id ∷ []) fs
  unfolding first_with among
  first_with_next other = rw (ne_eqb _ _ other, first_with)

-- what is found inside a field by its identifier has it
pub child_identified : (id : ℕ) (f x : Field) → child id f ≡ some x → x.identifier ≡ id
unfolding among first_with child
child_identified id f x found = by_test (eqb x.identifier id) refl (first_with_found (id ∷ []) (fields f.inside) x found).1
  where
    by_test : (b : Bool) → eqb x.identifier id ≡ b → b || false ≡ true → x.identifier ≡ id
    by_test true e test = eqb-true x.identifier id e
    by_test false e test = absurd (eqb-false 0 0 (sym test) refl)

-- the input's one element is the one that is read at its first byte
pub batch_at : (s : List ℕ) → 0 < length s → length s ≤ 65535 → batch (tree 0 s) ≡ field_at s 0 (reading_at s 0 (length s))
batch_at s room high =
    ap (λ (bs : List ℕ). batch (tree 0 bs)) (sym (take-length s))
    ∙ ap batch (tree_at s 0 (length s) room (omega arith) high)
    ∙ batch_element _ _ _ _ _ _

-- its messages are those of the fields inside it
pub messages_inside : (t : Tree) → messages t ≡ map message_of (fields (batch t).inside)
unfolding messages
messages_inside t = refl

-- a message's own field
pub message_field : (f : Field) → (message_of f).own ≡ f
unfolding message_of
message_field f = refl

-- a field has at least one octet
octets_some : (f : Field) → 1 ≤ length (octets f)
unfolding octets
octets_some f =
    omega (arith, header_some f.identifier f.content, length-append (header f.identifier f.content) f.content)

-- a proof's identifier is one of the four
pub proof_cases : (id : ℕ) → among proofs id ≡ true → (id ≡ 0x80) ⊎ ((id ≡ 0xA1) ⊎ ((id ≡ 0xA2) ⊎ (id ≡ 0xA3)))
unfolding among
proof_cases id is = first (eqb id 0x80) refl is
  where
    fourth : (b : Bool) → eqb id 0xA3 ≡ b → b || false ≡ true → id ≡ 0xA3
    fourth true e test = eqb-true id 0xA3 e
    fourth false e test = absurd (eqb-false 0 0 (sym test) refl)

    third : (b : Bool) → eqb id 0xA2 ≡ b → b || (eqb id 0xA3 || false) ≡ true → (id ≡ 0xA2) ⊎ (id ≡ 0xA3)
    third true e test = inl (eqb-true id 0xA2 e)
    third false e test = inr (fourth (eqb id 0xA3) refl test)

    second : (b : Bool) → eqb id 0xA1 ≡ b → b || (eqb id 0xA2 || (eqb id 0xA3 || false)) ≡ true → (id ≡ 0xA1) ⊎ ((id ≡ 0xA2) ⊎ (id ≡ 0xA3))
    second true e test = inl (eqb-true id 0xA1 e)
    second false e test = inr (third (eqb id 0xA2) refl test)

    first : (b : Bool) → eqb id 0x80 ≡ b → b || (eqb id 0xA1 || (eqb id 0xA2 || (eqb id 0xA3 || false))) ≡ true
        → (id ≡ 0x80) ⊎ ((id ≡ 0xA1) ⊎ ((id ≡ 0xA2) ⊎ (id ≡ 0xA3)))
    first true e test = inl (eqb-true id 0x80 e)
    first false e test = inr (second (eqb id 0xA1) refl test)

-- A field inside a message's proof stands at its place in the batch's octets, and is as long as its own.
pub proof_child_stands : {R : ℕ → Bool} (t : Tree) → Matches R (content Top) t → WellFormed depth 0 t → Single t
    → (m : Message) → Memᴰ m (messages t) → (p : Field) → m.proof ≡ some p → constructed p.identifier ≡ true
    → (id : ℕ) (x : Field) → child id p ≡ some x → StandsAt (encode t) x.place (octets x) × (x.whole ≡ length (octets x))
unfolding octets child listed
proof_child_stands t top w one m n p has made id x found =
    let k = message_parts t top w one m n in
    let thirty : constructed m.own.identifier ≡ true = ap constructed k.thirty ∙ sequence_constructed in
    let within : Memᴰ p (fields m.own.inside) =
    rw (k.whole.held, has) (mathlib.Core.List.Memᴰ.tail (mathlib.Core.List.Memᴰ.head refl)) in
    let formed : FormedField 18 p = child_formed 18 m.own (messages_formed t top w one m n) thirty p within in
    let whole = consists_fields 18 p formed made in
    let here = (first_with_found (id ∷ []) (fields p.inside) x found).0 in
    let stands : StandsAt (encode t) p.place (octets p) = subst (IfAny (λ f. StandsAt (encode t) f.place (octets f))) has (messages_stand t top w one m n).proof in
    (consists_stand (encode t) p (fields p.inside) whole stands x here, (child_formed 17 p formed made x here).sized)

-- A field that stands at its place, as long as its octets, lies within the bytes, and its octets are that part of them.
pub stands_part : (s : List ℕ) (f : Field) → StandsAt s f.place (octets f) → f.whole ≡ length (octets f)
    → (f.place + f.whole ≤ length s) × (slice f.place (f.place + f.whole) s ≡ octets f)
stands_part s f stands size = (
  omega (arith, stands_fit s f.place (octets f) stands (octets_some f)),
  ap (λ (n : ℕ). slice f.place (f.place + n) s) size ∙ sym (take_drop (length (octets f)) f.place s) ∙ stands,
)
