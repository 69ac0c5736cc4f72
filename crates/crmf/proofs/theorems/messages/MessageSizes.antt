-- How large a message and its certReqId are, and so how many messages a batch can have. Assumes nothing.
use Prim.Native.Nat.{ℕ, suc, ◌+◌, ◌*◌, ◌≤◌}
use native.Mathlib.Nat.{mul-zero, mul-suc}
use native.Mathlib.Omega.{arith}
use mathlib.Core.Path.{◌≡◌, refl, ap, ◌∙◌}
use mathlib.Core.Bool.{Bool, true}
use mathlib.Core.List.Memᴰ
use mathlib.Core.List.{List, [], ◌∷◌, map, Memᴰ}
use lib.ListN.{length, length-append, length-map}
use Rattle.der.specs.meaning.Identifier.{constructed}
use Rattle.der.specs.meaning.Tree.{Tree, header, encode, WellFormed, Single}
use Rattle.der.specs.meaning.Bounds.{depth}
use Rattle.der.proofs.Laws.{header_two, integer_some, sequence_constructed, integer_primitive}
use Rattle.crmf.specs.meaning.Notation.{Top}
use Rattle.crmf.specs.meaning.Grammar.{content}
use Rattle.crmf.specs.meaning.Language.{Matches}
use Rattle.crmf.specs.meaning.Rows.{batch_rows, all_short}
use Rattle.crmf.specs.meaning.Fields.{Field, octets, content_start, field_end, Runs}
use Rattle.crmf.specs.meaning.Messages.{Message, batch, messages}
use Rattle.crmf.proofs.theorems.messages.FieldLaws.{FormedField, child_formed, consists_within}
use Rattle.crmf.proofs.theorems.messages.MessageLaws.{MessageParts, batch_content, message_parts, messages_formed}
use Rattle.crmf.proofs.theorems.messages.ShortIds.{ids_short}

-- a field has at least two octets more than its content
pub octets_two : (f : Field) → 2 + length f.content ≤ length (octets f)
unfolding octets
octets_two f =
    omega (arith, header_two f.identifier f.content, length-append (header f.identifier f.content) f.content)

-- a message's certReqId is well-formed, two levels of depth below it
id_formed : (left : ℕ) (m : Message) → MessageParts m → FormedField (suc (suc left)) m.own → FormedField left m.cert_req_id
id_formed left m k formed =
    let made : constructed m.own.identifier ≡ true = ap constructed k.thirty ∙ sequence_constructed in
    let request = child_formed (suc left) m.own formed made m.cert_req (rw k.whole.held (Memᴰ.head refl)) in
    let made' : constructed m.cert_req.identifier ≡ true = ap constructed k.cert_req ∙ sequence_constructed in
    child_formed left m.cert_req request made' m.cert_req_id (rw k.request.held (Memᴰ.head refl))

-- a certReqId is an INTEGER, so its content is not empty
id_some : (left : ℕ) (m : Message) → MessageParts m → FormedField (suc (suc (suc left))) m.own → 1 ≤ length m.cert_req_id.content
id_some left m k formed =
    let x = id_formed (suc left) m k formed in
    let rule = (x.valued (ap constructed k.cert_req_id ∙ integer_primitive)).1 in
    integer_some m.cert_req_id.content (rule.of_integer k.cert_req_id)

-- a message has at least 9 octets: four headers, and the content of its certReqId
message_nine : (m : Message) → MessageParts m → 1 ≤ length m.cert_req_id.content → 9 ≤ m.own.whole
message_nine m k some =
    let f = m.own in
    let g = m.cert_req in
    let run = k.request.placed in
    omega (
      arith,
      header_two f.identifier f.content,
      header_two g.identifier g.content,
      octets_two m.cert_req_id,
      octets_two m.template,
      consists_within k.whole m.cert_req (Memᴰ.head refl),
      consists_within k.request m.template (Memᴰ.tail (Memᴰ.head refl)),
      run.1,
      run.2.0,
      run.2.1,
    )

-- fields that stand one after the other, each of at least n octets
runs_many : (n from to : ℕ) (fs : List Field) → Runs from to fs → ((f : Field) → Memᴰ f fs → n ≤ f.whole) → from + n * length fs ≤ to
runs_many n from to [] run each = omega (arith, run, mul-zero n)
runs_many n from to (f ∷ fs) run each =
    omega (
      arith,
      mul-suc n (length fs),
      each f (Memᴰ.head refl),
      runs_many n (from + f.whole) to fs run.2 (λ g at. each g (Memᴰ.tail at)),
    )

module _ {R : ℕ → Bool} (t : Tree) (top : Matches R (content Top) t) (w : WellFormed depth 0 t) (one : Single t) where
  -- A message's certReqId has at least one octet of content.
  pub ids_some : (m : Message) → Memᴰ m (messages t) → 1 ≤ length m.cert_req_id.content
  ids_some m at = id_some 16 m (message_parts t top w one m at) (messages_formed t top w one m at)

  -- If no row is a long certReqId, it has at most 8.
  pub ids_eight : all_short (batch_rows top) ≡ true → (m : Message) → Memᴰ m (messages t) → length m.cert_req_id.content ≤ 8
  unfolding octets
  ids_eight short m at =
      let x = id_formed 17 m (message_parts t top w one m at) (messages_formed t top w one m at) in
      omega (arith, octets_two m.cert_req_id, x.sized, ids_short t top short m at)

  -- A batch has at least two octets, and 9 more for each of its messages.
  pub messages_few : 2 + 9 * length (messages t) ≤ length (encode t)
  messages_few =
      let f = batch t in
      let b = batch_content t top w one in
      omega (
        arith,
        runs_many 9 (content_start f) (field_end f) (map (λ (m : Message). m.own) (messages t)) b.whole.placed nine,
        length-map (messages t) (λ (m : Message). m.own),
        header_two f.identifier f.content,
        b.first,
        b.size,
      )
    where
      nine : (f : Field) → Memᴰ f (map (λ (m : Message). m.own) (messages t)) → 9 ≤ f.whole
      nine f at =
          let (m, here, e) = Memᴰ.of_map (λ (x : Message). x.own) (messages t) at in
          rw (← e) (message_nine m (message_parts t top w one m here) (ids_some m here))
