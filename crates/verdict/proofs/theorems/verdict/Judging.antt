-- The verdict on a message by its proof: each case of the code is the definition's. Assumes nothing.
use Prim.Native.Nat.{ℕ, ◌/◌, ◌%◌}
use native.Mathlib.Omega.{arith}
use mathlib.Core.Path.{◌≡◌, refl, sym, ap, ap₂, ◌∙◌}
use mathlib.Core.Logic.{◌⊎◌, inl, inr}
use mathlib.Core.Bool.{Bool, true, false, not, ◌&&◌}
use mathlib.Core.List.{List, [], ◌∷◌}
use mathlib.Core.Option.{Option, some, none as absent}
use Rattle.std.specs.Prelude.{Some, None}
use Rattle.std.proofs.lemmas.Option.{same_Some}
use lib.Dec.{eqb}
use borrow.Author.Tests.{ne_eqb}
use Rattle.der.specs.meaning.Identifier.{constructed}
use Rattle.der.proofs.Laws.{constructed_bit_lem}
use Rattle.crmf.specs.meaning.Notation.{among}
use Rattle.crmf.specs.meaning.Fields.{Field, fields, first_with, child}
use Rattle.crmf.specs.meaning.Messages.{Message, proofs}
use Rattle.crmf.proofs.Laws.{proof_cases, child_first}
use Rattle.verdict.specs.declared.verdict.Extent.{Extent}
use Rattle.verdict.specs.meaning.Verdict.{key_agreement, misplaced_dh_mac, no_proof, ra_verified, other_signature, signed_poposk_input, signed_cert_req, has, has_subject_and_key, signature_verdict, encipherment_verdict, agreement_verdict, verdict_of, input_of, signed_of}
use Rattle.verdict.specs.steps.JudgeAnswer.{verdict_on}
use Rattle.verdict.specs.steps.Judging.{part_of, part_found, holds, told, bare, signature_answer, proof_answer}

-- by the identifier of the element after the certReq
module _ (id : ℕ) (inside : List Field) (both : Bool) (request : Extent) where
  pub answer_verified : id ≡ 0x80 → bare ra_verified ≡ proof_answer id inside both request
  unfolding proof_answer
  answer_verified is = rw is

  pub answer_signature : id ≡ 0xA1 → signature_answer (first_with (0xA0 ∷ []) inside) both request ≡ proof_answer id inside both request
  unfolding proof_answer
  answer_signature is = rw is

  pub answer_encipherment : id ≡ 0xA2 → bare (encipherment_verdict (holds 0x82 inside)) ≡ proof_answer id inside both request
  unfolding proof_answer
  answer_encipherment is = rw is

  pub answer_agreement : id ≡ 0xA3 → bare (agreement_verdict (holds 0x82 inside) both) ≡ proof_answer id inside both request
  unfolding proof_answer
  answer_agreement is = rw is

  pub answer_none : (id ≡ 0x80 → ⊥) → (id ≡ 0xA1 → ⊥) → (id ≡ 0xA2 → ⊥) → (id ≡ 0xA3 → ⊥) → bare no_proof ≡ proof_answer id inside both request
  unfolding proof_answer
  answer_none a b c d = rw (proof_answer, ne_eqb id 0x80 a, ne_eqb id 0xA1 b, ne_eqb id 0xA2 c, ne_eqb id 0xA3 d)

-- the verdict on a signature, by the part of the poposkInput that was found or not
module _ (request : Extent) where
  pub signature_request : (o : Option Field) {both : Bool} → None ≡ part_found o → true ≡ both → told signed_cert_req request ≡ signature_answer o both request
  unfolding signature_answer
  signature_request absent is named = ap (λ (b : Bool). signature_answer absent b request) named
  signature_request (some x) is named = cc

  pub signature_input : (o : Option Field) {part : Extent} {both : Bool} → Some part ≡ part_found o → false ≡ both
      → told signed_poposk_input part ≡ signature_answer o both request
  unfolding signature_answer
  signature_input absent is unnamed = cc
  signature_input (some x) is unnamed =
      ap (told signed_poposk_input) (same_Some _ _ is) ∙ ap (λ (b : Bool). signature_answer (some x) b request) unnamed

  pub signature_neither : (o : Option Field) {both : Bool} → None ≡ part_found o → false ≡ both → bare other_signature ≡ signature_answer o both request
  unfolding signature_answer
  signature_neither absent is unnamed = ap (λ (b : Bool). signature_answer absent b request) unnamed
  signature_neither (some x) is unnamed = cc

  pub signature_both : (o : Option Field) {part : Extent} {both : Bool} → Some part ≡ part_found o → true ≡ both
      → bare other_signature ≡ signature_answer o both request
  unfolding signature_answer
  signature_both absent is named = cc
  signature_both (some x) is named = ap (λ (b : Bool). signature_answer (some x) b request) named

-- with verdict 2 the certReq is signed, with 3 the poposkInput, otherwise nothing
module _ (m : Message) where
  pub signed_request : verdict_of m ≡ signed_cert_req → signed_of m ≡ (m.cert_req.place, m.cert_req.whole)
  unfolding signed_of
  signed_request is = rw (signed_of, is)

  pub signed_input : verdict_of m ≡ signed_poposk_input → signed_of m ≡ input_of m
  unfolding signed_of
  signed_input is = rw (signed_of, is) (ap (λ (v : ℕ). elim (eqb v 3) as (λ x. ℕ × ℕ) [ true ↦ input_of m | false ↦ (0, 0) ]) is)

  pub signed_nothing : (verdict_of m ≡ signed_cert_req → ⊥) → (verdict_of m ≡ signed_poposk_input → ⊥) → signed_of m ≡ (0, 0)
  unfolding signed_of
  signed_nothing two three = rw (signed_of, ne_eqb _ _ two, ne_eqb _ _ three)

-- A signature with a poposkInput in it.
pub record SignedInput (m : Message) : Type 0 where
  pub proof : Field
  pub proven : m.proof ≡ some proof
  pub signature : proof.identifier ≡ 0xA1
  pub input : Field
  pub found : child 0xA0 proof ≡ some input

-- a field has an element with the identifier if one of the fields inside it has it
pub has_first : (id : ℕ) (f : Field) → has id f ≡ holds id (fields f.inside)
has_first id f = ap (λ (o : Option Field). elim o as (λ y. Bool) [ absent ↦ false | some x ↦ true ]) (child_first id f)

-- it is the poposkInput
pub input_is : (m : Message) (i : SignedInput m) → input_of m ≡ (i.input.place, i.input.whole)
input_is m i = rw (i.proven, input_of, i.found)

-- the part that is signed with a verdict
abbrev signed_for : Message → ℕ → ℕ × ℕ
signed_for m v =
    elim (eqb v 2) [ true ↦ (m.cert_req.place, m.cert_req.whole) | false ↦ elim (eqb v 3) [ true ↦ input_of m | false ↦ (0, 0) ] ]

-- what is answered with a verdict
judged_for : (m : Message) (v : ℕ) → verdict_of m ≡ v → told v (record { from = (signed_for m v).0; length = (signed_for m v).1 }) ≡ verdict_on m
unfolding signed_of
judged_for m v is = sym (ap (λ (w : ℕ). told w (record { from = (signed_for m w).0; length = (signed_for m w).1 })) is)

-- without a proof
pub judged_none : (m : Message) → m.proof ≡ absent → bare no_proof ≡ verdict_on m
unfolding verdict_of
judged_none m lacks = judged_for m 0 (rw (lacks, verdict_of))

-- the verdict on a proof, by an identifier
abbrev verdict_by : Message → Field → ℕ → ℕ
verdict_by m p id =
    elim (eqb id 0x80) [
      | true ↦ ra_verified
      | false ↦ elim (eqb id 0xA1) [
        | true ↦ signature_verdict (has 0xA0 p) (has_subject_and_key m)
        | false ↦ elim (eqb id 0xA2) [ true ↦ encipherment_verdict (has 0x82 p) | false ↦ agreement_verdict (has 0x82 p) (has_subject_and_key m) ]
      ]
    ]

module _ (m : Message) (p : Field) (proven : m.proof ≡ some p) where
  by_proof : {id : ℕ} → p.identifier ≡ id → verdict_of m ≡ verdict_by m p id
  unfolding verdict_of
  by_proof is = rw (proven, verdict_of) (ap (verdict_by m p) is)

  judged_verified : p.identifier ≡ 0x80 → bare ra_verified ≡ verdict_on m
  judged_verified is = judged_for m 1 (by_proof is)

  judged_signature : p.identifier ≡ 0xA1 → signature_answer (child 0xA0 p) (has_subject_and_key m) (part_of (some m.cert_req)) ≡ verdict_on m
  unfolding signature_answer
  judged_signature is = by_parts (child 0xA0 p) refl (has_subject_and_key m) refl
    where
      verdict : (o : Option Field) → child 0xA0 p ≡ o → (b : Bool) → has_subject_and_key m ≡ b
          → verdict_of m ≡ signature_verdict (elim o [ absent ↦ false | some x ↦ true ]) b
      verdict o input b both =
          by_proof is
          ∙ ap₂ signature_verdict (ap (λ (q : Option Field). elim q as (λ y. Bool) [ absent ↦ false | some x ↦ true ]) input) both

      by_parts : (o : Option Field) → child 0xA0 p ≡ o → (b : Bool) → has_subject_and_key m ≡ b → signature_answer o b (part_of (some m.cert_req)) ≡ verdict_on m
      by_parts absent input true both = judged_for m 2 (verdict absent input true both)
      by_parts absent input false both = judged_for m 4 (verdict absent input false both)
      by_parts (some x) input true both = judged_for m 4 (verdict (some x) input true both)
      by_parts (some x) input false both =
          ap (λ (q : ℕ × ℕ). told signed_poposk_input (record { from = q.0; length = q.1 })) (sym (input_is m (record { proof = p; proven = proven; signature = is; input = x; found = input })))
          ∙ judged_for m 3 (verdict (some x) input false both)

  judged_encipherment : p.identifier ≡ 0xA2 → bare (encipherment_verdict (has 0x82 p)) ≡ verdict_on m
  judged_encipherment is = by_mac (has 0x82 p) refl
    where
      by_mac : (b : Bool) → has 0x82 p ≡ b → bare (encipherment_verdict b) ≡ verdict_on m
      by_mac true mac = judged_for m 7 (by_proof is ∙ ap encipherment_verdict mac)
      by_mac false mac = judged_for m 5 (by_proof is ∙ ap encipherment_verdict mac)

  judged_agreement : p.identifier ≡ 0xA3 → bare (agreement_verdict (has 0x82 p) (has_subject_and_key m)) ≡ verdict_on m
  judged_agreement is = by_mac (has 0x82 p && not (has_subject_and_key m)) refl
    where
      by_mac : (b : Bool) → (has 0x82 p && not (has_subject_and_key m)) ≡ b → bare (elim b [ true ↦ misplaced_dh_mac | false ↦ key_agreement ]) ≡ verdict_on m
      by_mac true mac = judged_for m 7 (by_proof is ∙ ap (λ (b : Bool). elim b as (λ x. ℕ) [ true ↦ misplaced_dh_mac | false ↦ key_agreement ]) mac)
      by_mac false mac = judged_for m 6 (by_proof is ∙ ap (λ (b : Bool). elim b as (λ x. ℕ) [ true ↦ misplaced_dh_mac | false ↦ key_agreement ]) mac)

  -- with a proof of one of the four identifiers; if it is constructed, the fields inside it are known
  pub judged_proof : among proofs p.identifier ≡ true → (inside : List Field) → (constructed p.identifier ≡ true → fields p.inside ≡ inside)
      → proof_answer p.identifier inside (has_subject_and_key m) (part_of (some m.cert_req)) ≡ verdict_on m
  judged_proof one inside holding = by_identifier (proof_cases p.identifier one)
    where
      request : Extent
      request = part_of (some m.cert_req)

      held : {id : ℕ} → p.identifier ≡ id → id / 32 % 2 ≡ 1 → inside ≡ fields p.inside
      held is bit = sym (holding (constructed_bit_lem p.identifier (ap (λ (n : ℕ). n / 32 % 2) is ∙ bit)))

      by_identifier : (p.identifier ≡ 0x80) ⊎ ((p.identifier ≡ 0xA1) ⊎ ((p.identifier ≡ 0xA2) ⊎ (p.identifier ≡ 0xA3)))
          → proof_answer p.identifier inside (has_subject_and_key m) request ≡ verdict_on m
      by_identifier (inl is) = sym (answer_verified p.identifier inside (has_subject_and_key m) request is) ∙ judged_verified is
      by_identifier (inr (inl is)) =
          sym (answer_signature p.identifier inside (has_subject_and_key m) request is)
          ∙ ap (λ (fs : List Field). signature_answer (first_with (0xA0 ∷ []) fs) (has_subject_and_key m) request) (held is refl)
          ∙ ap (λ (o : Option Field). signature_answer o (has_subject_and_key m) request) (sym (child_first 0xA0 p))
          ∙ judged_signature is
      by_identifier (inr (inr (inl is))) =
          sym (answer_encipherment p.identifier inside (has_subject_and_key m) request is)
          ∙ ap (λ (fs : List Field). bare (encipherment_verdict (holds 0x82 fs))) (held is refl)
          ∙ ap (λ (b : Bool). bare (encipherment_verdict b)) (sym (has_first 0x82 p))
          ∙ judged_encipherment is
      by_identifier (inr (inr (inr is))) =
          sym (answer_agreement p.identifier inside (has_subject_and_key m) request is)
          ∙ ap (λ (fs : List Field). bare (agreement_verdict (holds 0x82 fs) (has_subject_and_key m))) (held is refl)
          ∙ ap (λ (b : Bool). bare (agreement_verdict b (has_subject_and_key m))) (sym (has_first 0x82 p))
          ∙ judged_agreement is

  -- with verdict 3 there is one
  pub input_there : among proofs p.identifier ≡ true → verdict_of m ≡ signed_poposk_input → SignedInput m
  input_there one three = by_identifier (proof_cases p.identifier one)
    where
      by_input : p.identifier ≡ 0xA1 → (o : Option Field) → child 0xA0 p ≡ o → (b : Bool)
          → signature_verdict (elim o as (λ y. Bool) [ absent ↦ false | some x ↦ true ]) b ≡ 3 → SignedInput m
      by_input is absent found true same = absurd (omega arith)
      by_input is absent found false same = absurd (omega arith)
      by_input is (some x) found b same = record { proof = p; proven = proven; signature = is; input = x; found = found }

      no_encipherment : (b : Bool) → encipherment_verdict b ≡ 3 → ⊥
      no_encipherment true same = omega arith
      no_encipherment false same = omega arith

      no_agreement : (a b : Bool) → agreement_verdict a b ≡ 3 → ⊥
      no_agreement true true same = omega arith
      no_agreement true false same = omega arith
      no_agreement false b same = omega arith

      by_identifier : (p.identifier ≡ 0x80) ⊎ ((p.identifier ≡ 0xA1) ⊎ ((p.identifier ≡ 0xA2) ⊎ (p.identifier ≡ 0xA3))) → SignedInput m
      by_identifier (inl is) = let other : ◌≡◌ {A = ℕ} 3 1 = sym three ∙ by_proof is in absurd (omega arith)
      by_identifier (inr (inl is)) = by_input is (child 0xA0 p) refl (has_subject_and_key m) (sym (by_proof is) ∙ three)
      by_identifier (inr (inr (inl is))) = absurd (no_encipherment (has 0x82 p) (sym (by_proof is) ∙ three))
      by_identifier (inr (inr (inr is))) = absurd (no_agreement (has 0x82 p) (has_subject_and_key m) (sym (by_proof is) ∙ three))
