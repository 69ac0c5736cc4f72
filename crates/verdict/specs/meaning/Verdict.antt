-- The verdict on a message's proof, and the part that its signature covers: SPECIFICATION 7. Assumes nothing.
use Rattle.std.specs.Prelude.{ℕ, ◌+◌, Bool, true, false, not, ◌&&◌, List, eqb}
use Rattle.std.proofs.Math.Option.{some, none as absent}
use Rattle.std.proofs.Math.Seq.{slice}
use Rattle.crmf.specs.meaning.Fields.{Field, child}
use Rattle.crmf.specs.meaning.Messages.{Message}

-- "0 no proof."
abbrev pub no_proof : ℕ
no_proof = 0

-- "1 raVerified."
abbrev pub ra_verified : ℕ
ra_verified = 1

-- "2 signature over the certReq: no poposkInput, subject and publicKey both in the template."
abbrev pub signed_cert_req : ℕ
signed_cert_req = 2

-- "3 signature over poposkInput: present, subject or publicKey missing."
abbrev pub signed_poposk_input : ℕ
signed_poposk_input = 3

-- "4 signature otherwise."
abbrev pub other_signature : ℕ
other_signature = 4

-- "5 other keyEncipherment"
abbrev pub key_encipherment : ℕ
key_encipherment = 5

-- "6 other keyAgreement."
abbrev pub key_agreement : ℕ
key_agreement = 6

-- "7 choice 82 under keyEncipherment, or without both subject and publicKey."
abbrev pub misplaced_dh_mac : ℕ
misplaced_dh_mac = 7

-- whether a field has an element with the identifier directly inside it
abbrev pub has : ℕ → Field → Bool
has id f = elim (child id f) [ absent ↦ false | some x ↦ true ]

-- "subject and publicKey both in the template"
abbrev pub has_subject_and_key : Message → Bool
has_subject_and_key m = has 0xA5 m.template && has 0xA6 m.template

-- "signature A1": by whether poposkInput is there, and whether the template has both
abbrev pub signature_verdict : (input has_subject_and_key : Bool) → ℕ
signature_verdict input has_subject_and_key =
    elim input [
      | true ↦ elim has_subject_and_key [ true ↦ other_signature | false ↦ signed_poposk_input ]
      | false ↦ elim has_subject_and_key [ true ↦ signed_cert_req | false ↦ other_signature ]
    ]

-- "keyEncipherment A2" and "keyAgreement A3": by whether the choice is 82, and whether the template has both
abbrev pub encipherment_verdict : (mac : Bool) → ℕ
encipherment_verdict mac = elim mac [ true ↦ misplaced_dh_mac | false ↦ key_encipherment ]

abbrev pub agreement_verdict : (mac has_subject_and_key : Bool) → ℕ
agreement_verdict mac has_subject_and_key = elim (mac && not has_subject_and_key) [ true ↦ misplaced_dh_mac | false ↦ key_agreement ]

-- the verdict on a proof, by its identifier: "raVerified 80", "signature A1", "keyEncipherment A2 or keyAgreement A3"
abbrev pub proof_verdict : Message → Field → ℕ
proof_verdict m p =
    elim (eqb p.identifier 0x80) [
      | true ↦ ra_verified
      | false ↦ elim (eqb p.identifier 0xA1) [
        | true ↦ signature_verdict (has 0xA0 p) (has_subject_and_key m)
        | false ↦ elim (eqb p.identifier 0xA2) [ true ↦ encipherment_verdict (has 0x82 p) | false ↦ agreement_verdict (has 0x82 p) (has_subject_and_key m) ]
      ]
    ]

-- the verdict on a message: the table of SPECIFICATION 7
unfoldable pub verdict_of : Message → ℕ
verdict_of m = elim m.proof [ absent ↦ no_proof | some p ↦ proof_verdict m p ]

-- "Verdicts 2 and 3 hand back the signed element's bytes as they stand: the certReq, or poposkInput from its A0": its place and length; "Other
-- verdicts and refusals hand back an empty part", from place 0
abbrev pub input_of : Message → ℕ × ℕ
input_of m = elim m.proof [ absent ↦ (0, 0) | some p ↦ elim (child 0xA0 p) [ absent ↦ (0, 0) | some x ↦ (x.place, x.whole) ] ]

unfoldable pub signed_of : Message → ℕ × ℕ
signed_of m =
    elim (eqb (verdict_of m) signed_cert_req) [
      | true ↦ (m.cert_req.place, m.cert_req.whole)
      | false ↦ elim (eqb (verdict_of m) signed_poposk_input) [ true ↦ input_of m | false ↦ (0, 0) ]
    ]

-- the octets of a part, by its place and length
abbrev pub signed_octets : List ℕ → (from size : ℕ) → List ℕ
signed_octets s from size = slice from (from + size) s
