-- The messages of a batch, on its element tree alone: what a message is, and which ones a batch holds (SPECIFICATION 3.2 and 7). Assumes
-- nothing.
use Rattle.std.specs.Prelude.{ℕ, length, get_or, drop}
use mathlib.Core.List.{List, [], ◌∷◌, ◌++◌, map, flat_map, flatten}
use Rattle.std.proofs.Math.Option
use Rattle.std.proofs.Math.Option.{Option}
use Rattle.der.specs.meaning.Tree.{Tree, none, element, header}
use Rattle.crmf.specs.meaning.Fields.{Field, fields, chain, octets, nth, first_with, moved_field}

-- "raVerified 80 empty", "signature A1", "keyEncipherment A2 or keyAgreement A3"
abbrev pub proofs : List ℕ
proofs = 0x80 ∷ 0xA1 ∷ 0xA2 ∷ 0xA3 ∷ []

-- A message: the whole of it, and its fields.
pub record Message : Type 0 where
  pub own : Field
  pub cert_req : Field
  pub cert_req_id : Field
  pub template : Field
  pub controls : Option Field
  pub proof : Option Field
  pub reg_info : Option Field

-- "Message 30: certReq, proof?, regInfo?"; "certReq 30: certReqId 02, template 30, controls 30?"
unfoldable pub message_of : Field → Message
message_of f =
    let cert_req = nth 0 f in
    let after = drop 1 (fields f.inside) in
    record {
      own = f;
      cert_req = cert_req;
      cert_req_id = nth 0 cert_req;
      template = nth 1 cert_req;
      controls = first_with (0x30 ∷ []) (drop 2 (fields cert_req.inside));
      proof = first_with proofs after;
      reg_info = first_with (0x30 ∷ []) after;
    }

-- the input's one element; a field of no length if there is none
unfoldable pub batch : Tree → Field
batch t = get_or (fields t) 0 (record { identifier = 0; place = 0; whole = 0; content = []; inside = none })

-- "Batch 30: message+": its messages, in order
unfoldable pub messages : Tree → List Message
messages t = map message_of (fields (batch t).inside)

-- the length of a batch's header: its identifier and length octets
abbrev pub batch_header : Tree → ℕ
batch_header t = length (header 0x30 (batch t).content)

-- each message's octets, in order
unfoldable pub message_octets : Tree → List (List ℕ)
message_octets t = map (λ (m : Message). octets m.own) (messages t)

-- "Batch 30: message+": the octets of the batch of some messages, by each message's octets
unfoldable pub batch_octets : List (List ℕ) → List ℕ
batch_octets ms = let content = flatten ms in header 0x30 content ++ content

-- a batch around some fields, from the first byte on
unfoldable pub batch_of : List Field → Tree
batch_of fs =
    let content = flat_map octets fs in
    element 0x30 0 (length (header 0x30 content ++ content)) content (chain fs) none

-- the same message, d bytes further on
unfoldable pub moved_message : ℕ → Message → Message
moved_message d m =
    record {
      own = moved_field d m.own;
      cert_req = moved_field d m.cert_req;
      cert_req_id = moved_field d m.cert_req_id;
      template = moved_field d m.template;
      controls = Option.map (moved_field d) m.controls;
      proof = Option.map (moved_field d) m.proof;
      reg_info = Option.map (moved_field d) m.reg_info;
    }
