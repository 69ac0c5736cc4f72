-- What the verdict says: it is on the messages of the accepted batch's tree, and the part that it hands back is the certReq's octets or the
-- poposkInput's, as they stand in the bytes. Assumes nothing.
use Prim.Native.Nat.{ℕ, ◌+◌, ◌≤◌, ◌<◌, ◌/◌, ◌%◌}
use native.Mathlib.Omega.{arith}
use mathlib.Core.Logic.{◌⊎◌, ◌↔◌, inl, inr}
use mathlib.Core.Path.{◌≡◌, refl, sym, ap, subst, ◌∙◌}
use mathlib.Core.Bool.{Bool, true, false}
use mathlib.Core.List.{List, [], Memᴰ}
use mathlib.Core.Option.{Option, some, none as absent}
use lib.Dec.{eqb, ltb}
use lib.ListN.{length}
use lib.Seq.{slice}
use borrow.Author.Tests.{eqb-true, eqb-false, ltb-true, ltb-false}
use Rattle.der.specs.meaning.Refusal.{accepted, no_such_message}
use Rattle.der.specs.meaning.Octets.{Octets}
use Rattle.der.specs.steps.Reading.{tree}
use Rattle.der.proofs.Laws.{constructed_bit_lem}
use Rattle.crmf.specs.meaning.Notation.{among}
use Rattle.crmf.specs.meaning.Fields.{Field, octets, StandsAt}
use Rattle.crmf.specs.meaning.Messages.{proofs, Message, messages}
use Rattle.crmf.proofs.Laws.{IfAny, MessageParts, message_parts, messages_stand, proof_child_stands, child_identified, stands_part}
use Rattle.editions.specs.meaning.Membership.{InGrammar}
use Rattle.editions.specs.steps.Reading.{answer}
use Rattle.editions.proofs.Laws.{nest_read}
use Rattle.verdict.specs.steps.Answer.{Verdict}
use Rattle.verdict.specs.meaning.Verdict.{signed_poposk_input, signed_cert_req, verdict_of, signed_of, signed_octets}
use Rattle.verdict.specs.steps.JudgeAnswer.{message_at, refused, verdict_on, verdict_answer}
use Rattle.verdict.proofs.theorems.verdict.Answers.{answer_refused, answer_missing, answer_judged}
use Rattle.verdict.proofs.theorems.verdict.Batches.{Accepted, accepted_tree, position_member}
use Rattle.verdict.proofs.theorems.verdict.Judging.{SignedInput, input_is, input_there, judged_none, signed_request, signed_input, signed_nothing}

-- The messages are those of the tree whose encoding the bytes are.
pub batch_messages : {e : ℕ} (s : List ℕ) (g : InGrammar e s) → messages (tree 0 s) ≡ messages g.nest
batch_messages s g = ap messages (nest_read s g)

-- A verdict, and no refusal: the batch is accepted, there is a message at the position, and the answer is that message's.
pub record Judged (e : ℕ) (s : List ℕ) (position : ℕ) : Type 0 where
  pub accepted : (answer e s).number ≡ accepted
  pub within : position < length (messages (tree 0 s))
  pub same : verdict_answer e s position ≡ verdict_on (message_at s position)

-- A refusal.
pub record Refused (e : ℕ) (s : List ℕ) (position : ℕ) : Type 0 where
  pub number : ℕ
  pub place : ℕ
  pub some : number ≡ 0 → ⊥
  pub same : verdict_answer e s position ≡ refused number place

module _ (e : ℕ) (s : List ℕ) (position : ℕ) where
  by_position_lem : (answer e s).number ≡ accepted → (b : Bool) → ltb position (length (messages (tree 0 s))) ≡ b → Judged e s position ⊎ Refused e s position
  by_position_lem zero true test =
      let within = ltb-true _ _ test in
      inl (record { accepted = zero; within = within; same = sym (answer_judged e s position zero within) })
  by_position_lem zero false test =
      inr (record { number = no_such_message; place = 0; some = λ e. omega arith; same = sym (answer_missing e s position zero (ltb-false _ _ test)) })

  by_number : (b : Bool) → eqb (answer e s).number 0 ≡ b → Judged e s position ⊎ Refused e s position
  by_number true test = by_position_lem (eqb-true _ _ test) (ltb position (length (messages (tree 0 s)))) refl
  by_number false test =
      let own = eqb-false _ _ test in
      inr (record { number = (answer e s).number; place = (answer e s).place; some = own; same = sym (answer_refused e s position own) })

  -- one or the other
  pub verdict_ways : Judged e s position ⊎ Refused e s position
  verdict_ways = by_number (eqb (answer e s).number 0) refl

  -- The answer's number is 0 exactly if the batch is accepted and has a message at the position.
  pub judged_exactly : ((verdict_answer e s position).number ≡ accepted) ↔ (((answer e s).number ≡ accepted) × (position < length (messages (tree 0 s))))
  judged_exactly = (λ zero. there zero verdict_ways, λ (zero, within). ap (λ (v : Verdict). v.number) (sym (answer_judged e s position zero within)))
    where
      there : (verdict_answer e s position).number ≡ accepted → Judged e s position ⊎ Refused e s position
          → ((answer e s).number ≡ accepted) × (position < length (messages (tree 0 s)))
      there zero (inl j) = (j.accepted, j.within)
      there zero (inr r) = absurd (r.some (sym (ap (λ (v : Verdict). v.number) r.same) ∙ zero))

-- Of an accepted batch's message, the certReq and the poposkInput of its signature are parts of the bytes.
module _ {e : ℕ} (s : List ℕ) (a : Accepted e s) (m : Message) (n : Memᴰ m (messages (tree 0 s))) where
  parts : MessageParts m
  parts = message_parts (tree 0 s) a.top a.formed a.single m n

  request_part : let f = m.cert_req in (f.place + f.whole ≤ length s) × (slice f.place (f.place + f.whole) s ≡ octets f)
  request_part =
      let stands = (messages_stand (tree 0 s) a.top a.formed a.single m n).cert_req in
      stands_part s m.cert_req (subst (λ (bs : List ℕ). StandsAt bs m.cert_req.place (octets m.cert_req)) a.encoded stands) parts.whole.placed.1

  input_part : (i : SignedInput m) → let f = i.input in (f.place + f.whole ≤ length s) × (slice f.place (f.place + f.whole) s ≡ octets f)
  input_part i =
      let made = constructed_bit_lem i.proof.identifier (ap (λ (id : ℕ). id / 32 % 2) i.signature) in
      let stands = proof_child_stands (tree 0 s) a.top a.formed a.single m n i.proof i.proven made 0xA0 i.input i.found in
      stands_part s i.input (subst (λ (bs : List ℕ). StandsAt bs i.input.place (octets i.input)) a.encoded stands.0) stands.1

  -- with verdict 3 there is such a signature
  input_read : verdict_of m ≡ signed_poposk_input → SignedInput m
  input_read three = by_proof m.proof refl
    where
      by_proof : (o : Option Field) → m.proof ≡ o → SignedInput m
      by_proof (some p) proven = input_there m p proven (subst (IfAny (λ f. among proofs f.identifier ≡ true)) proven parts.proof) three
      by_proof absent lacks = absurd (omega (arith, ap (λ (v : Verdict). v.verdict) (judged_none m lacks)))

  -- The signed part lies within the bytes.
  part_fits : (signed_of m).0 + (signed_of m).1 ≤ length s
  part_fits = by_request (eqb (verdict_of m) 2) refl
    where
      by_input : (verdict_of m ≡ signed_cert_req → ⊥) → (b : Bool) → eqb (verdict_of m) 3 ≡ b → (signed_of m).0 + (signed_of m).1 ≤ length s
      by_input two true test =
          let three = eqb-true _ _ test in
          let i = input_read three in
          rw (signed_input m three ∙ input_is m i) (input_part i).0
      by_input two false test = rw (signed_nothing m two (eqb-false _ _ test)) (omega arith)

      by_request : (b : Bool) → eqb (verdict_of m) 2 ≡ b → (signed_of m).0 + (signed_of m).1 ≤ length s
      by_request true test = rw (signed_request m (eqb-true _ _ test)) request_part.0
      by_request false test = by_input (eqb-false _ _ test) (eqb (verdict_of m) 3) refl

-- the part from a place and of a length
abbrev part_from : List ℕ → ℕ × ℕ → List ℕ
part_from s p = slice p.0 (p.0 + p.1) s

-- What is handed back.
module _ (e : ℕ) (s : List ℕ) (position : ℕ) (known : Octets s) where
  abbrev told : Verdict
  told = verdict_answer e s position

  abbrev message : Message
  message = message_at s position

  tree_of : Judged e s position → Accepted e s
  tree_of j = accepted_tree e s known j.accepted

  verdict_of_lem : (j : Judged e s position) {v : ℕ} → told.verdict ≡ v → verdict_of message ≡ v
  verdict_of_lem j is = sym (ap (λ (v : Verdict). v.verdict) j.same) ∙ is

  octets_of_lem : Judged e s position → signed_octets s told.from told.length ≡ part_from s (signed_of message)
  octets_of_lem j = ap (λ (v : Verdict). signed_octets s v.from v.length) j.same

  none_refused : (r : Refused e s position) {v : ℕ} → told.verdict ≡ v → v ≡ 0
  none_refused r is = sym is ∙ ap (λ (v : Verdict). v.verdict) r.same

  -- With verdict 2 it is the octets of the message's certReq.
  pub request_signed : told.verdict ≡ signed_cert_req → signed_octets s told.from told.length ≡ octets message.cert_req
  request_signed two = by_way (verdict_ways e s position)
    where
      by_way : Judged e s position ⊎ Refused e s position → signed_octets s told.from told.length ≡ octets message.cert_req
      by_way (inl j) =
          octets_of_lem j
          ∙ ap (part_from s) (signed_request message (verdict_of_lem j two))
          ∙ (request_part s (tree_of j) message (position_member s position j.within)).1
      by_way (inr r) = absurd (omega (arith, none_refused r two))

  -- With verdict 3 it is the octets of the poposkInput, from its A0 on.
  pub input_signed : told.verdict ≡ signed_poposk_input → (i : SignedInput message) × ((i.input.identifier ≡ 0xA0) × (signed_octets s told.from told.length ≡ octets i.input))
  input_signed three = by_way (verdict_ways e s position)
    where
      by_way : Judged e s position ⊎ Refused e s position → (i : SignedInput message) × ((i.input.identifier ≡ 0xA0) × (signed_octets s told.from told.length ≡ octets i.input))
      by_way (inl j) =
          let n = position_member s position j.within in
          let i = input_read s (tree_of j) message n (verdict_of_lem j three) in (
            i,
            (
              child_identified 0xA0 i.proof i.input i.found,
              octets_of_lem j ∙ ap (part_from s) (signed_input message (verdict_of_lem j three) ∙ input_is message i) ∙ (input_part s (tree_of j) message n i).1,
            ),
          )
      by_way (inr r) = absurd (omega (arith, none_refused r three))

  -- With any other verdict, and with a refusal, it is empty.
  pub nothing_signed : (told.verdict ≡ signed_cert_req → ⊥) → (told.verdict ≡ signed_poposk_input → ⊥) → signed_octets s told.from told.length ≡ []
  nothing_signed two three = by_way (verdict_ways e s position)
    where
      by_way : Judged e s position ⊎ Refused e s position → signed_octets s told.from told.length ≡ []
      by_way (inl j) =
          octets_of_lem j
          ∙ ap (part_from s)
          (signed_nothing message (λ is. two (ap (λ (v : Verdict). v.verdict) j.same ∙ is)) (λ is. three (ap (λ (v : Verdict). v.verdict) j.same ∙ is)))
      by_way (inr r) = ap (λ (v : Verdict). signed_octets s v.from v.length) r.same

  -- It always lies within the bytes.
  pub part_within : told.from + told.length ≤ length s
  part_within = by_way (verdict_ways e s position)
    where
      by_way : Judged e s position ⊎ Refused e s position → told.from + told.length ≤ length s
      by_way (inl j) = rw j.same (part_fits s (tree_of j) message (position_member s position j.within))
      by_way (inr r) = rw r.same (omega arith)
