-- Batches made of messages: any fields, at least one, that match as messages and are well-formed make a batch, settled one after the other
-- after its header. Its octets are those of the messages, as are any batch's. Assumes nothing.
use Prim.Native.Nat.{ℕ, ◌+◌, ◌≤◌}
use native.Mathlib.Nat.{zero-add}
use native.Mathlib.Omega.{arith}
use mathlib.Core.Path.{◌≡◌, refl, sym, ap, ap₂, ◌∙◌, subst}
use mathlib.Core.Bool.{Bool}
use mathlib.Core.List.Memᴰ
use mathlib.Core.List.{List, [], ◌∷◌, ◌++◌, map, map-map, flat_map, flatten, append_assoc, Memᴰ}
use lib.ListN.{length, length-append, length-map}
use Rattle.der.specs.meaning.Bounds.{depth}
use Rattle.der.specs.meaning.Tree.{Tree, header, encode, WellFormed, Single}
use Rattle.der.proofs.Laws.{header_grows}
use Rattle.crmf.specs.meaning.Notation
use Rattle.crmf.specs.meaning.Notation.{Top}
use Rattle.crmf.specs.meaning.Grammar.{content}
use Rattle.crmf.specs.meaning.Language.{Matches}
use Rattle.crmf.specs.meaning.Fields.{Field, fields, octets, Runs}
use Rattle.crmf.specs.meaning.Messages.{Message, message_of, batch, messages, batch_header, message_octets, batch_octets, batch_of}
use Rattle.crmf.proofs.theorems.messages.FieldLaws.{FormedField}
use Rattle.crmf.proofs.theorems.messages.FieldsMatch.{Holding}
use Rattle.crmf.proofs.theorems.messages.MessageLaws.{BatchContent, batch_content, messages_match, messages_formed, own_fields_lem, own_fields, batch_of_matches, batch_of_formed, batch_of_messages, batch_of_octets}
use Rattle.crmf.proofs.theorems.messages.SettledFields.{settled, settled_length, settled_octets, settled_each, settled_run, field_formed, field_holding}

-- the definitions of a batch's octets and of its messages', one step at a time
pub batch_octets_parts : (ms : List (List ℕ)) → batch_octets ms ≡ header 0x30 (flatten ms) ++ flatten ms
unfolding batch_octets
batch_octets_parts ms = refl

pub messages_octets : (t : Tree) → message_octets t ≡ map (λ (m : Message). octets m.own) (messages t)
unfolding message_octets
messages_octets t = refl

-- A tree is a batch: it is in the grammar, well-formed and a single element.
pub record BatchTree (R : ℕ → Bool) (t : Tree) : Type 0 where
  pub matches : Matches R (content Top) t
  pub formed : WellFormed depth 0 t
  pub single : Single t

-- A tree is the batch of some messages, which are given by their octets.
pub record BatchWith (R : ℕ → Bool) (ms : List (List ℕ)) (t : Tree) : Type 0 where
  pub whole : BatchTree R t
  pub encoded : encode t ≡ batch_octets ms
  pub own : message_octets t ≡ ms

-- the octets of fields, one after the other
flat_octets : (fs : List Field) → flat_map octets fs ≡ flatten (map octets fs)
unfolding flat_map flatten
flat_octets [] = refl
flat_octets (f ∷ fs) = ap (λ (bs : List ℕ). octets f ++ bs) (flat_octets fs)

-- each message's octets are those of its own field
pub octets_own : (t : Tree) → message_octets t ≡ map octets (own_fields t)
unfolding message_octets
octets_own t = sym (map-map octets (λ (m : Message). m.own) (messages t))

module _ {R : ℕ → Bool} {t : Tree} (b : BatchTree R t) where
  -- what the batch is
  contents : BatchContent t
  contents = batch_content t b.matches b.formed b.single

  -- what holds of each message's own field holds of each own field
  own_each : (P : Field → Type 0) → ((m : Message) → Memᴰ m (messages t) → P m.own) → (f : Field) → Memᴰ f (own_fields t) → P f
  own_each P each f n = let (m, there, same) = Memᴰ.of_map (λ (x : Message). x.own) (messages t) n in subst P same (each m there)

  -- A batch's messages' own fields match as messages.
  pub own_holding : (f : Field) → Memᴰ f (own_fields t) → Holding R 0x30 Notation.Message f
  own_holding = own_each (Holding R 0x30 Notation.Message) (λ m n. (messages_match t b.matches m n).message)

  -- There is at least one.
  pub own_some : 1 ≤ length (own_fields t)
  own_some = rw length-map contents.some

  -- They are well-formed.
  pub own_formed : (f : Field) → Memᴰ f (own_fields t) → FormedField 19 f
  own_formed = own_each (FormedField 19) (messages_formed t b.matches b.formed b.single)

  -- They stand one after the other, after the batch's header.
  pub own_run : Runs (batch_header t) (batch t).whole (own_fields t)
  own_run = rw (contents.first, contents.thirty, zero-add (batch_header t), zero-add (batch t).whole) at contents.whole.placed

  -- The batch's content is their octets, one after the other.
  pub own_written : (batch t).content ≡ flat_map octets (own_fields t)
  own_written = contents.whole.written

  -- So it is the messages' octets.
  pub content_octets : (batch t).content ≡ flatten (message_octets t)
  content_octets = own_written ∙ flat_octets (own_fields t) ∙ ap flatten (sym (octets_own t))

  -- So the batch's octets are those of the batch of its messages.
  pub batch_octets_lem : encode t ≡ batch_octets (message_octets t)
  unfolding batch_octets octets
  batch_octets_lem = contents.all ∙ ap₂ (λ (id : ℕ) (bs : List ℕ). header id bs ++ bs) contents.thirty content_octets

  -- They are as many as its header and its content have.
  pub batch_length : length (encode t) ≡ batch_header t + length (batch t).content
  unfolding octets
  batch_length =
      ap length (contents.all ∙ ap (λ (id : ℕ). header id (batch t).content ++ (batch t).content) contents.thirty)
      ∙ length-append (header 0x30 (batch t).content) (batch t).content

-- a longer content makes a longer element
longer_element : (c d : List ℕ) → length c ≤ length d → length (header 0x30 c ++ c) ≤ length (header 0x30 d ++ d)
longer_element c d longer = omega (arith, length-append (header 0x30 c) c, length-append (header 0x30 d) d, header_grows 0x30 c d longer)

-- lists after others, joined
pub flatten_append : (a b : List (List ℕ)) → flatten (a ++ b) ≡ flatten a ++ flatten b
unfolding flatten
flatten_append [] b = refl
flatten_append (x ∷ a) b = ap (λ (bs : List ℕ). x ++ bs) (flatten_append a b) ∙ sym (append_assoc x (flatten a) (flatten b))

-- The batch of some messages is not longer than one with others after them.
pub batch_octets_left : (a b : List (List ℕ)) → length (batch_octets a) ≤ length (batch_octets (a ++ b))
unfolding batch_octets
batch_octets_left a b =
    longer_element (flatten a) (flatten (a ++ b)) (rw (flatten_append a b) (omega (arith, length-append (flatten a) (flatten b))))

-- Nor is it longer than one with others before them.
pub batch_octets_right : (a b : List (List ℕ)) → length (batch_octets b) ≤ length (batch_octets (a ++ b))
unfolding batch_octets
batch_octets_right a b =
    longer_element (flatten b) (flatten (a ++ b)) (rw (flatten_append a b) (omega (arith, length-append (flatten a) (flatten b))))

-- the length of the header before some fields
abbrev pub header_before : List Field → ℕ
header_before fs = length (header 0x30 (flat_map octets fs))

-- The batch around some fields, settled after its header.
unfoldable pub batch_from : List Field → Tree
batch_from fs = batch_of (settled (header_before fs) fs)

-- fields that are settled have the same octets, one after the other
flat_settled : (p : ℕ) (fs : List Field) → flat_map octets (settled p fs) ≡ flat_map octets fs
flat_settled p fs = flat_octets (settled p fs) ∙ ap flatten (settled_octets p fs) ∙ sym (flat_octets fs)

-- Its messages are those of the fields, settled.
pub batch_from_messages : (fs : List Field) → messages (batch_from fs) ≡ map message_of (settled (header_before fs) fs)
unfolding batch_from
batch_from_messages fs = batch_of_messages (settled (header_before fs) fs)

-- These are their own fields.
pub batch_from_fields : (fs : List Field) → own_fields (batch_from fs) ≡ settled (header_before fs) fs
batch_from_fields fs = ap (map (λ (m : Message). m.own)) (batch_from_messages fs) ∙ own_fields_lem (settled (header_before fs) fs)

-- So its messages have the fields' octets.
pub batch_from_own : (fs : List Field) → message_octets (batch_from fs) ≡ map octets fs
batch_from_own fs = octets_own (batch_from fs) ∙ ap (map octets) (batch_from_fields fs) ∙ settled_octets (header_before fs) fs

-- Its header is the one before those fields.
pub batch_from_header : (fs : List Field) → batch_header (batch_from fs) ≡ header_before fs
unfolding batch_from batch_of batch fields
batch_from_header fs = ap (λ (c : List ℕ). length (header 0x30 c)) (flat_settled (header_before fs) fs)

-- Its octets are those of the batch of these messages.
pub batch_from_octets : (fs : List Field) → encode (batch_from fs) ≡ batch_octets (map octets fs)
unfolding batch_from batch_octets
batch_from_octets fs =
    batch_of_octets (settled (header_before fs) fs)
    ∙ ap (λ (c : List ℕ). header 0x30 c ++ c) (flat_settled (header_before fs) fs ∙ flat_octets fs)

module _ {R : ℕ → Bool} (fs : List Field) (some : 1 ≤ length fs) (holding : (f : Field) → Memᴰ f fs → Holding R 0x30 Notation.Message f)
    (formed : (f : Field) → Memᴰ f fs → FormedField 19 f) where
  -- Fields that match as messages and are well-formed, at least one, make a batch of them.
  pub batch_from_lem : BatchWith R (map octets fs) (batch_from fs)
  unfolding batch_from
  batch_from_lem =
      let p = header_before fs in
      let settled-fields = settled p fs in
      let run = settled_run 19 p fs formed in
      let well = batch_of_formed (p + length (flat_map octets fs)) settled-fields (rw (flat_settled p fs) run) (settled_each (field_formed 19) p fs formed) in
      record {
        whole = record {
          matches = batch_of_matches R settled-fields (rw (settled_length p fs) some) (settled_each (field_holding 0x30 Notation.Message) p fs holding);
          formed = well.0;
          single = well.1;
        };
        encoded = batch_from_octets fs;
        own = batch_from_own fs;
      }
