-- The messages of a batch: the fields of a message, by the grammar, are those that its definition finds by position and identifier, so a
-- batch consists of its messages, a message of its fields, and each stands at its place in the batch's octets. Assumes nothing.
use Prim.Native.Nat.{ℕ, zero, suc, ◌+◌, ◌≤◌, ◌<◌}
use native.Mathlib.Nat.{zero-add}
use native.Mathlib.Omega.{arith}
use mathlib.Core.Path.{◌≡◌, refl, sym, ap, ◌∙◌, subst}
use mathlib.Core.Logic.{◌⊎◌, inl, inr}
use mathlib.Core.Bool.{Bool, true, false, ◌||◌}
use mathlib.Core.List.Memᴰ
use mathlib.Core.List.{List, [], ◌∷◌, ◌++◌, map, flat_map, append-nil, Memᴰ}
use mathlib.Core.Option.{Option, some, none as absent, none-ne-some, some-injective}
use lib.Dec.{T, eqb}
use lib.ListN.{length, length-map, get_elem?}
use lib.Seq.{take-length}
use borrow.Author.Tests.{eqb-true}
use Rattle.der.specs.meaning.Bounds.{depth}
use Rattle.der.specs.meaning.Identifier.{constructed}
use Rattle.der.specs.meaning.Tree.{Tree, none, element, header, encode, members, WellFormed, Single, moved}
use Rattle.der.proofs.Laws.{encode_none, encode_element, moved_none, moved_element, sequence_constructed, sequence_allowed, sequence_closing, well_formed_none, well_formed_element, single_none, single_element}
use Rattle.crmf.specs.meaning.Kinds as kinds
use Rattle.crmf.specs.meaning.Value.{keeps, is_empty, empty}
use Rattle.crmf.specs.meaning.Notation
use Rattle.crmf.specs.meaning.Notation.{among, named, Top, Batch, CertReq, Template, Signature, KeyProof, Controls, RegInfo, Form, repeated, part, done, ◌then◌, plain, holding, ruled, row}
use Rattle.crmf.specs.meaning.Grammar.{content}
use Rattle.crmf.specs.meaning.Language.{Matches, end, pass}
use Rattle.crmf.specs.meaning.Fields.{Field, fields, chain, octets, Runs, Consists, StandsAt, nth, first_with, listed, moved_field}
use Rattle.crmf.specs.meaning.Messages.{proofs, Message, message_of, batch, messages, batch_of, moved_message}
use Rattle.crmf.proofs.theorems.grammar.Choices.{never_both}
use Rattle.crmf.proofs.theorems.grammar.ChoicesMatch.{holds-true}
use Rattle.crmf.proofs.theorems.messages.FieldLaws.{fields_chain, encode_fields, FormedField, chain_formed, fields_formed, fields_run, child_formed, consists_fields, consists_stand, IfAny, if_any, first_with_own, first_with_after, first_with_before, fields_moved, inside_moved, nth_moved, first_with_moved, drop_moved}
use Rattle.crmf.proofs.theorems.messages.FieldsMatch.{Fits, FitsOne, Begun, once_begun, optional_begun, repeated_keep, end_fields, Holding, fits_holding, fits_only, fits_cons, holding_take}

-- A proof's field: which of the four it is, and what it holds.
pub data ProofMatches (R : ℕ → Bool) (f : Field) : Type 0 where
  ra_verified : f.identifier ≡ 0x80 → f.content ≡ [] → ProofMatches R f
  signature : Holding R 0xA1 Signature f → ProofMatches R f
  key_encipherment : Holding R 0xA2 KeyProof f → ProofMatches R f
  key_agreement : Holding R 0xA3 KeyProof f → ProofMatches R f

-- no octets
no_octets : (c : List ℕ) → T (is_empty c) → c ≡ []
unfolding is_empty
no_octets [] e = refl
no_octets (b ∷ c) e = absurd (omega (arith, eqb-true (length (b ∷ c)) 0 (holds-true (eqb (length (b ∷ c)) 0) e)))

-- the four forms of a proof
abbrev proof_forms : List Form
proof_forms =
    row kinds.ra_verified (ruled empty (plain 0x80)) ∷ row kinds.signature (holding 0xA1 Signature) ∷ row kinds.key_encipherment (holding 0xA2 KeyProof) ∷ row kinds.key_agreement (holding 0xA3 KeyProof) ∷ []

-- a field that keeps one of them
proof_matches : {R : ℕ → Bool} (f : Field) → FitsOne R proof_forms f → ProofMatches R f
unfolding named keeps
proof_matches {R} f fit = first (fits_cons fit)
  where
    third : Fits R (row kinds.key_encipherment (holding 0xA2 KeyProof)) f ⊎ FitsOne R (row kinds.key_agreement (holding 0xA3 KeyProof) ∷ []) f → ProofMatches R f
    third (inl k) = key_encipherment (fits_holding 0xA2 KeyProof kinds.key_encipherment f k)
    third (inr more) = key_agreement (fits_holding 0xA3 KeyProof kinds.key_agreement f (fits_only more))

    second : Fits R (row kinds.signature (holding 0xA1 Signature)) f ⊎ FitsOne R (row kinds.key_encipherment (holding 0xA2 KeyProof) ∷ row kinds.key_agreement (holding 0xA3 KeyProof) ∷ []) f
        → ProofMatches R f
    second (inl k) = signature (fits_holding 0xA1 Signature kinds.signature f k)
    second (inr more) = third (fits_cons more)

    first : Fits R (row kinds.ra_verified (ruled empty (plain 0x80))) f
        ⊎ FitsOne R (row kinds.signature (holding 0xA1 Signature) ∷ row kinds.key_encipherment (holding 0xA2 KeyProof) ∷ row kinds.key_agreement (holding 0xA3 KeyProof) ∷ []) f → ProofMatches R f
    first (inl k) =
        ra_verified (eqb-true f.identifier 0x80 (holds-true (eqb f.identifier 0x80) k.fits)) (no_octets f.content k.kept)
    first (inr more) = second (fits_cons more)

-- its identifier is one of the four
pub proof_identified : {R : ℕ → Bool} (f : Field) → ProofMatches R f → among proofs f.identifier ≡ true
unfolding among
proof_identified f (ra_verified e c) = rw e
proof_identified f (signature h) = rw h.0
proof_identified f (key_encipherment h) = rw h.0
proof_identified f (key_agreement h) = rw h.0

-- A message's inside, by the grammar: its fields.
pub record MessageFields (R : ℕ → Bool) (t : Tree) : Type 0 where
  pub cert_req : Field
  pub proof : Option Field
  pub reg_info : Option Field
  pub split : fields t ≡ cert_req ∷ (listed proof ++ listed reg_info)
  pub is_cert_req : Holding R 0x30 CertReq cert_req
  pub is_proof : IfAny (ProofMatches R) proof
  pub is_reg_info : IfAny (Holding R 0x30 RegInfo) reg_info

-- A certReq's inside, by the grammar: its fields.
pub record RequestFields (R : ℕ → Bool) (t : Tree) : Type 0 where
  pub cert_req_id : Field
  pub template : Field
  pub controls : Option Field
  pub split : fields t ≡ cert_req_id ∷ template ∷ listed controls
  pub is_cert_req_id : cert_req_id.identifier ≡ 0x02
  pub is_template : Holding R 0x30 Template template
  pub is_controls : IfAny (Holding R 0x30 Controls) controls

-- a message's fields
message_fields : {R : ℕ → Bool} (t : Tree) → Matches R (content Notation.Message) t → MessageFields R t
unfolding content
message_fields {R} t m =
    let a = once_begun m in
    let p = optional_begun a.further in
    let q = optional_begun p.further in
    record {
      cert_req = a.item;
      proof = p.item;
      reg_info = q.item;
      split = rw (a.split, p.split, q.split, end_fields q.further, append-nil);
      is_cert_req = fits_holding 0x30 CertReq 3 a.item (fits_only a.keeping);
      is_proof = if_any p.item (λ f k. proof_matches f k) p.keeping;
      is_reg_info = if_any q.item (λ f k. fits_holding 0x30 RegInfo kinds.reg_info f (fits_only k)) q.keeping;
    }

-- a certReq's fields
request_fields : {R : ℕ → Bool} (t : Tree) → Matches R (content CertReq) t → RequestFields R t
unfolding content named
request_fields {R} t m =
    let x = once_begun m in
    let y = once_begun x.further in
    let z = optional_begun y.further in
    record {
      cert_req_id = x.item;
      template = y.item;
      controls = z.item;
      split = rw (x.split, y.split, z.split, end_fields z.further, append-nil);
      is_cert_req_id = eqb-true x.item.identifier 0x02 (holds-true (eqb x.item.identifier 0x02) (fits_only x.keeping).fits);
      is_template = fits_holding 0x30 Template 5 y.item (fits_only y.keeping);
      is_controls = if_any z.item (λ f k. fits_holding 0x30 Controls kinds.controls f (fits_only k)) z.keeping;
    }

-- a proof's identifier is not a regInfo's
not_thirty : (id : ℕ) → among proofs id ≡ true → among (0x30 ∷ []) id ≡ false
unfolding among
not_thirty id h = by_test (eqb id 0x30) refl
  where
    by_test : (b : Bool) → eqb id 0x30 ≡ b → eqb id 0x30 || false ≡ false
    by_test true e = let here : id ≡ 0x30 = eqb-true id 0x30 e in never_both (among proofs 0x30) (subst (λ (n : ℕ). among proofs n ≡ true) here h) refl
    by_test false e = rw e

-- A field whose fields are known is a known message.
pub message_known : (f a x y : Field) (z p q : Option Field) → fields f.inside ≡ a ∷ (listed p ++ listed q)
    → fields a.inside ≡ x ∷ y ∷ listed z → IfAny (λ g. g.identifier ≡ 0x30) z → IfAny (λ g. among proofs g.identifier ≡ true) p
    → IfAny (λ g. g.identifier ≡ 0x30) q
    → message_of f ≡ record { own = f; cert_req = a; cert_req_id = x; template = y; controls = z; proof = p; reg_info = q }
unfolding message_of nth among
message_known f a x y z p q outer inner isz isp isq =
    let s1 : first_with (0x30 ∷ []) (listed z) ≡ z = first_with_own (0x30 ∷ []) z (if_any z (λ g e. rw e) isz) in
    let s2 : first_with proofs (listed p ++ listed q) ≡ p = first_with_before proofs p q isp (if_any q (λ g e. rw e) isq) in
    let s3 : first_with (0x30 ∷ []) (listed p ++ listed q) ≡ q
    = first_with_after (0x30 ∷ []) p (listed q) (if_any p (λ g e. not_thirty g.identifier e) isp) ∙ first_with_own (0x30 ∷ []) q (if_any q (λ g e. rw e) isq) in
    rw (outer, inner, s1, s2, s3)

-- What a message of a batch is: an element 30 of a certReq, at most one proof and at most one regInfo; the certReq an element 30 of a
-- certReqId, a template and at most one list of controls.
pub record MessageParts (m : Message) : Type 0 where
  pub thirty : m.own.identifier ≡ 0x30
  pub whole : Consists m.own (m.cert_req ∷ (listed m.proof ++ listed m.reg_info))
  pub cert_req : m.cert_req.identifier ≡ 0x30
  pub request : Consists m.cert_req (m.cert_req_id ∷ m.template ∷ listed m.controls)
  pub cert_req_id : m.cert_req_id.identifier ≡ 0x02
  pub template : m.template.identifier ≡ 0x30
  pub controls : IfAny (λ f. f.identifier ≡ 0x30) m.controls
  pub proof : IfAny (λ f. among proofs f.identifier ≡ true) m.proof
  pub reg_info : IfAny (λ f. f.identifier ≡ 0x30) m.reg_info

-- What the grammar says of a message and its fields.
pub record MessageMatches (R : ℕ → Bool) (m : Message) : Type 0 where
  pub message : Holding R 0x30 Notation.Message m.own
  pub cert_req : Holding R 0x30 CertReq m.cert_req
  pub template : Holding R 0x30 Template m.template
  pub controls : IfAny (Holding R 0x30 Controls) m.controls
  pub proof : IfAny (ProofMatches R) m.proof
  pub reg_info : IfAny (Holding R 0x30 RegInfo) m.reg_info

-- a field that matches as a message is the message of its fields
known_message : {R : ℕ → Bool} (f : Field) (v : MessageFields R f.inside) (u : RequestFields R v.cert_req.inside)
    → message_of f
    ≡ record { own = f; cert_req = v.cert_req; cert_req_id = u.cert_req_id; template = u.template; controls = u.controls; proof = v.proof; reg_info = v.reg_info }
known_message f v u =
    message_known f v.cert_req u.cert_req_id u.template u.controls v.proof v.reg_info v.split u.split
    (if_any u.controls (λ g k. k.0) u.is_controls)
    (if_any v.proof (λ g k. proof_identified g k) v.is_proof)
    (if_any v.reg_info (λ g k. k.0) v.is_reg_info)

module _ (R : ℕ → Bool) (f : Field) (h : Holding R 0x30 Notation.Message f) where
  -- a field that matches as a message
  pub message_matches : MessageMatches R (message_of f)
  message_matches =
      let v = message_fields f.inside h.1 in
      let u = request_fields v.cert_req.inside v.is_cert_req.1 in
      subst (MessageMatches R) (sym (known_message f v u))
      (record { message = h; cert_req = v.is_cert_req; template = u.is_template; controls = u.is_controls; proof = v.is_proof; reg_info = v.is_reg_info })

  -- a well-formed field that matches as a message
  pub parts_of_message : (left : ℕ) → FormedField (suc (suc left)) f → MessageParts (message_of f)
  parts_of_message left formed =
      let v = message_fields f.inside h.1 in
      let u = request_fields v.cert_req.inside v.is_cert_req.1 in
      let made : constructed f.identifier ≡ true = ap constructed h.0 ∙ sequence_constructed in
      let inner : FormedField (suc left) v.cert_req
      = child_formed (suc left) f formed made v.cert_req (rw v.split (Memᴰ.head refl)) in
      let made' : constructed v.cert_req.identifier ≡ true = ap constructed v.is_cert_req.0 ∙ sequence_constructed in
      subst MessageParts (sym (known_message f v u))
      (record {
        thirty = h.0;
        whole = subst (Consists f) v.split (consists_fields (suc (suc left)) f formed made);
        cert_req = v.is_cert_req.0;
        request = subst (Consists v.cert_req) u.split (consists_fields (suc left) v.cert_req inner made');
        cert_req_id = u.is_cert_req_id;
        template = u.is_template.0;
        controls = if_any u.controls (λ g k. k.0) u.is_controls;
        proof = if_any v.proof (λ g k. proof_identified g k) v.is_proof;
        reg_info = if_any v.reg_info (λ g k. k.0) v.is_reg_info;
      })

-- the fields of a batch, by the grammar: messages, and at least one
batch_fields : {R : ℕ → Bool} (t : Tree) → Matches R (content Batch) t
    → (1 ≤ length (fields t)) × ((f : Field) → Memᴰ f (fields t) → Holding R 0x30 Notation.Message f)
unfolding content
batch_fields {R} t m =
    let b = once_begun m in
    (rw b.split (omega arith), rw b.split (λ f n. each b f (Memᴰ.cases_cons n)))
  where
    each : (b : Begun R (row kinds.message (holding 0x30 Notation.Message) ∷ []) (part repeated (row kinds.message (holding 0x30 Notation.Message) ∷ []) then done) t)
        → (f : Field) → (f ≡ b.item) ⊎ Memᴰ f (fields b.rest) → Holding R 0x30 Notation.Message f
    each b f (inl e) = rw e (fits_holding 0x30 Notation.Message 2 b.item (fits_only b.keeping))
    each b f (inr n) = fits_holding 0x30 Notation.Message kinds.message f (fits_only (repeated_keep b.further f n))

-- any number of messages
messages_repeat : (R : ℕ → Bool) (fs : List Field) → ((f : Field) → Memᴰ f fs → Holding R 0x30 Notation.Message f)
    → Matches R (part repeated (row kinds.message (holding 0x30 Notation.Message) ∷ []) then done) (chain fs)
unfolding chain
messages_repeat R [] each = pass tt end
messages_repeat R (f ∷ fs) each =
    holding_take 2 0x30 Notation.Message f (each f (Memᴰ.head refl)) (messages_repeat R fs (λ g n. each g (Memᴰ.tail n)))

-- Conversely, a batch around one field or more, each of which matches as a message, matches as a batch.
pub batch_matches : (R : ℕ → Bool) (first whole : ℕ) (c : List ℕ) (fs : List Field) → 1 ≤ length fs
    → ((f : Field) → Memᴰ f fs → Holding R 0x30 Notation.Message f) → Matches R (content Top) (element 0x30 first whole c (chain fs) none)
unfolding content chain
batch_matches R first whole c [] n each = absurd (omega arith)
batch_matches R first whole c (f ∷ fs) n each =
    holding_take 1 0x30 Batch (record { identifier = 0x30; place = first; whole = whole; content = c; inside = chain (f ∷ fs) })
    (refl, holding_take 2 0x30 Notation.Message f (each f (Memᴰ.head refl)) (messages_repeat R fs (λ g n. each g (Memᴰ.tail n))))
    end

-- the batch of a tree that is an element
pub batch_element : (id first whole : ℕ) (c : List ℕ) (inside rest : Tree)
    → batch (element id first whole c inside rest) ≡ record { identifier = id; place = first; whole = whole; content = c; inside = inside }
unfolding batch fields
batch_element id first whole c inside rest = refl

-- The messages of an element are those of the fields inside it.
pub messages_fields : (id first whole : ℕ) (c : List ℕ) (inside rest : Tree)
    → messages (element id first whole c inside rest) ≡ map message_of (fields inside)
unfolding messages batch fields
messages_fields id first whole c inside rest = refl

-- A batch around some fields has the messages of those fields.
pub messages_chain : (id first whole : ℕ) (c : List ℕ) (fs : List Field) (rest : Tree)
    → messages (element id first whole c (chain fs) rest) ≡ map message_of fs
messages_chain id first whole c fs rest = messages_fields id first whole c (chain fs) rest ∙ ap (map message_of) (fields_chain fs)

-- A message is the message of its own field, which stands inside the batch.
pub message_own : (t : Tree) (m : Message) → Memᴰ m (messages t) → Memᴰ m.own (fields (batch t).inside) × (message_of m.own ≡ m)
unfolding messages message_of
message_own t m n =
    let (f, here, e) = Memᴰ.of_map message_of (fields (batch t).inside) n in
    subst (λ (x : Message). Memᴰ x.own (fields (batch t).inside) × (message_of x.own ≡ x)) e (here, refl)

-- the own fields of the messages of some fields are those fields
pub own_fields_lem : (fs : List Field) → map (λ (m : Message). m.own) (map message_of fs) ≡ fs
unfolding message_of
own_fields_lem [] = refl
own_fields_lem (f ∷ fs) = ap (λ (gs : List Field). f ∷ gs) (own_fields_lem fs)

-- The own fields of a batch's messages.
abbrev pub own_fields : Tree → List Field
own_fields t = map (λ (m : Message). m.own) (messages t)

-- they are the fields inside the batch
pub messages_own : (t : Tree) → own_fields t ≡ fields (batch t).inside
unfolding messages
messages_own t = own_fields_lem (fields (batch t).inside)

-- and the messages are those of them
pub own_messages : (t : Tree) → map message_of (own_fields t) ≡ messages t
unfolding messages
own_messages t = ap (map message_of) (messages_own t)

-- the encoding of a single element is its header and its content
alone_octets : (id first whole : ℕ) (c : List ℕ) (inside : Tree) → encode (element id first whole c inside none) ≡ header id c ++ c
alone_octets id first whole c inside =
    encode_element id first whole c inside none ∙ ap (λ (bs : List ℕ). (header id c ++ c) ++ bs) encode_none ∙ append-nil (header id c ++ c)

-- the one element of a tree is its batch
single_batch : (t : Tree) → Single t → (fields t ≡ batch t ∷ []) × (encode t ≡ octets (batch t))
unfolding fields batch octets
single_batch none one = absurd (single_none one)
single_batch (element id first whole c inside rest) one =
    rw ((single_element id first whole c inside rest).0 one) (refl, alone_octets id first whole c inside)

-- it is well-formed
single_formed : (left p : ℕ) (t : Tree) → WellFormed left p t → Single t → FormedField left (batch t) × ((batch t).place ≡ p)
single_formed left p t w one =
    let alone = (single_batch t one).0 in
    (fields_formed left p t w (batch t) (rw alone (Memᴰ.head refl)), (subst (Runs p (p + length (encode t))) alone (fields_run left p t w)).0)

-- by the grammar it is a batch
top_batch : {R : ℕ → Bool} (t : Tree) → Matches R (content Top) t → Holding R 0x30 Batch (batch t)
unfolding content batch
top_batch t m =
    let b = once_begun m in
    rw b.split (fits_holding 0x30 Batch 1 b.item (fits_only b.keeping))

-- What a batch is: one element 30 from the first byte on, which consists of its messages, at least one.
pub record BatchContent (t : Tree) : Type 0 where
  pub thirty : (batch t).identifier ≡ 0x30
  pub first : (batch t).place ≡ 0
  pub all : encode t ≡ octets (batch t)
  pub size : (batch t).whole ≡ length (encode t)
  pub whole : Consists (batch t) (own_fields t)
  pub some : 1 ≤ length (messages t)

-- The content of a batch is its messages' octets, one after the other, and the places run on.
pub batch_content : {R : ℕ → Bool} (t : Tree) → Matches R (content Top) t → WellFormed depth 0 t → Single t → BatchContent t
unfolding messages octets
batch_content t m w one =
    let h = top_batch t m in
    let formed = single_formed depth 0 t w one in
    let all = (single_batch t one).1 in
    record {
      thirty = h.0;
      first = formed.1;
      all = all;
      size = formed.0.sized ∙ ap length (sym all);
      whole = rw (messages_own t) (consists_fields depth (batch t) formed.0 (ap constructed h.0 ∙ sequence_constructed));
      some = rw length-map (batch_fields (batch t).inside h.1).0;
    }

-- Each message of a batch, by the grammar.
pub messages_match : {R : ℕ → Bool} (t : Tree) → Matches R (content Top) t → (m : Message) → Memᴰ m (messages t) → MessageMatches R m
messages_match {R} t top m n =
    let own = message_own t m n in
    let h = (batch_fields (batch t).inside (top_batch t top).1).1 m.own own.0 in
    subst (MessageMatches R) own.1 (message_matches R m.own h)

-- Each message of a batch is well-formed, a level of depth below the batch.
pub messages_formed : {R : ℕ → Bool} (t : Tree) → Matches R (content Top) t → WellFormed depth 0 t → Single t
    → (m : Message) → Memᴰ m (messages t) → FormedField 19 m.own
messages_formed t top w one m n =
    let made : constructed (batch t).identifier ≡ true = ap constructed (top_batch t top).0 ∙ sequence_constructed in
    child_formed 19 (batch t) (single_formed depth 0 t w one).0 made m.own (message_own t m n).0

-- Each message of a batch consists of its fields.
pub message_parts : {R : ℕ → Bool} (t : Tree) → Matches R (content Top) t → WellFormed depth 0 t → Single t
    → (m : Message) → Memᴰ m (messages t) → MessageParts m
message_parts {R} t top w one m n =
    let own = message_own t m n in
    let h = (batch_fields (batch t).inside (top_batch t top).1).1 m.own own.0 in
    subst MessageParts own.1 (parts_of_message R m.own h 17 (messages_formed t top w one m n))

-- A message and its fields stand each at its place in some octets.
pub record MessageStands (s : List ℕ) (m : Message) : Type 0 where
  pub own : StandsAt s m.own.place (octets m.own)
  pub cert_req : StandsAt s m.cert_req.place (octets m.cert_req)
  pub cert_req_id : StandsAt s m.cert_req_id.place (octets m.cert_req_id)
  pub template : StandsAt s m.template.place (octets m.template)
  pub controls : IfAny (λ f. StandsAt s f.place (octets f)) m.controls
  pub proof : IfAny (λ f. StandsAt s f.place (octets f)) m.proof
  pub reg_info : IfAny (λ f. StandsAt s f.place (octets f)) m.reg_info

-- what holds of each of some fields, some of which may be missing
listed_any : {P : Field → Type 0} (o : Option Field) → ((f : Field) → Memᴰ f (listed o) → P f) → IfAny P o
unfolding listed
listed_any absent each = tt
listed_any (some f) each = each f (Memᴰ.head refl)

-- a batch stands at its place in its octets
pub batch_stands : (t : Tree) → BatchContent t → StandsAt (encode t) (batch t).place (octets (batch t))
unfolding octets
batch_stands t b = rw (b.first, b.all) (take-length (octets (batch t)))

-- Each message of a batch, and each of its fields, stands at its place in the batch's octets.
pub messages_stand : {R : ℕ → Bool} (t : Tree) → Matches R (content Top) t → WellFormed depth 0 t → Single t
    → (m : Message) → Memᴰ m (messages t) → MessageStands (encode t) m
messages_stand t top w one m n =
    let s = encode t in
    let b = batch_content t top w one in
    let k = message_parts t top w one m n in
    let own = consists_stand s (batch t) (own_fields t) b.whole (batch_stands t b) m.own (Memᴰ.map (λ (x : Message). x.own) n) in
    let part = consists_stand s m.own (m.cert_req ∷ (listed m.proof ++ listed m.reg_info)) k.whole own in
    let cert_req = part m.cert_req (Memᴰ.head refl) in
    let inner = consists_stand s m.cert_req (m.cert_req_id ∷ m.template ∷ listed m.controls) k.request cert_req in
    record {
      own = own;
      cert_req = cert_req;
      cert_req_id = inner m.cert_req_id (Memᴰ.head refl);
      template = inner m.template (Memᴰ.tail (Memᴰ.head refl));
      controls = listed_any m.controls (λ f i. inner f (Memᴰ.tail (Memᴰ.tail i)));
      proof = listed_any m.proof (λ f i. part f (Memᴰ.tail (Memᴰ.append_left (listed m.reg_info) i)));
      reg_info = listed_any m.reg_info (λ f i. part f (Memᴰ.tail (Memᴰ.append_right (listed m.proof) i)));
    }

-- the entry at a position is one of the list's
pub at_position : {A : Type 0} (l : List A) (i : ℕ) (a : A) → get_elem? l i ≡ some a → Memᴰ a l
at_position [] i a e = absurd (none-ne-some a e)
at_position (x ∷ l) zero a e = Memᴰ.head (sym (some-injective x a e))
at_position (x ∷ l) (suc i) a e = Memᴰ.tail (at_position l i a e)

-- its position is within the list
pub position_within : {A : Type 0} (l : List A) (i : ℕ) {a : A} → get_elem? l i ≡ some a → i < length l
position_within [] i {a} e = absurd (none-ne-some a e)
position_within (x ∷ l) zero e = omega arith
position_within (x ∷ l) (suc i) e = omega (arith, position_within l i e)

-- A batch around one field or more, each of which matches as a message, matches as a batch.
pub batch_of_matches : (R : ℕ → Bool) (fs : List Field) → 1 ≤ length fs
    → ((f : Field) → Memᴰ f fs → Holding R 0x30 Notation.Message f) → Matches R (content Top) (batch_of fs)
unfolding batch_of
batch_of_matches R fs n each =
    let c = flat_map octets fs in
    batch_matches R 0 (length (header 0x30 c ++ c)) c fs n each

-- A batch around well-formed fields that stand one after the other, after its header, is well-formed.
pub batch_of_formed : (to : ℕ) (fs : List Field) → Runs (length (header 0x30 (flat_map octets fs))) to fs
    → ((f : Field) → Memᴰ f fs → FormedField 19 f) → WellFormed depth 0 (batch_of fs) × Single (batch_of fs)
unfolding batch_of
batch_of_formed to fs run each =
    let c = flat_map octets fs in
    let same : c ≡ encode (chain fs) = ap (flat_map octets) (sym (fields_chain fs)) ∙ sym (encode_fields (chain fs)) in
    let size = length (header 0x30 c ++ c) in
    let formed = chain_formed 19 (length (header 0x30 c)) to fs run each in (
      (well_formed_element 19 0 0x30 0 size c (chain fs) none).1 (
        record {
          placed = refl;
          sized = refl;
          identified = sequence_allowed;
          filled = λ e. (same, rw zero-add formed);
          closing = sequence_closing (members (chain fs));
          valued = λ e. never_both (constructed 0x30) sequence_constructed e;
        },
        well_formed_none depth (0 + size),
      ),
      (single_element 0x30 0 size c (chain fs) none).1 refl,
    )

-- It has the messages of those fields.
pub batch_of_messages : (fs : List Field) → messages (batch_of fs) ≡ map message_of fs
unfolding batch_of
batch_of_messages fs =
    let c = flat_map octets fs in
    messages_chain 0x30 0 (length (header 0x30 c ++ c)) c fs none

-- Its octets are a header and the octets of those fields.
pub batch_of_octets : (fs : List Field) → encode (batch_of fs) ≡ header 0x30 (flat_map octets fs) ++ flat_map octets fs
unfolding batch_of
batch_of_octets fs = let c = flat_map octets fs in alone_octets 0x30 0 (length (header 0x30 c ++ c)) c (chain fs)

-- a message further on
pub message_moved : (d : ℕ) (f : Field) → message_of (moved_field d f) ≡ moved_message d (message_of f)
unfolding message_of moved_message
message_moved d f = simp (nth_moved, inside_moved, drop_moved, first_with_moved)

-- the messages of fields further on
pub messages_of_moved : (d : ℕ) (fs : List Field) → map message_of (map (moved_field d) fs) ≡ map (moved_message d) (map message_of fs)
messages_of_moved d [] = refl
messages_of_moved d (f ∷ fs) = rw (message_moved d f, messages_of_moved d fs)

-- The messages of a tree further on are the messages further on.
pub messages_moved : (d : ℕ) (t : Tree) → messages (moved d t) ≡ map (moved_message d) (messages t)
unfolding messages batch fields
messages_moved d none = ap messages (moved_none d)
messages_moved d (element id first whole c inside rest) =
    ap messages (moved_element d id first whole c inside rest) ∙ rw (fields_moved d inside) (messages_of_moved d (fields inside))
