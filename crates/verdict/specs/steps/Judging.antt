-- The verdict step by step, on places of any bytes and on the fields that are read there. Assumes nothing.
use Rattle.std.specs.Prelude as std
use Rattle.std.specs.Prelude.{ℕ, Bool, true, false, List, [], ◌∷◌, Some, None, eqb}
use Rattle.std.proofs.Math.Option.{Option, some, none as absent}
use Rattle.der.specs.meaning.Refusal.{accepted}
use Rattle.crmf.specs.meaning.Fields.{Field, first_with}
use Rattle.verdict.specs.declared.verdict.Extent.{Extent}
use Rattle.verdict.specs.steps.Answer.{Verdict}
use Rattle.verdict.specs.meaning.Verdict.{no_proof, ra_verified, signed_cert_req, signed_poposk_input, other_signature, encipherment_verdict, agreement_verdict}

-- the place and length of a field; 0 and 0 if there is none
abbrev pub part_of : Option Field → Extent
part_of absent = record { from = 0; length = 0 }
part_of (some f) = record { from = f.place; length = f.whole }

-- whether one of some fields has the identifier
abbrev pub holds : ℕ → List Field → Bool
holds id fs = elim (first_with (id ∷ []) fs) [ absent ↦ false | some x ↦ true ]

-- the part that a search has found
abbrev pub part_found : Option Field → std.Option Extent
part_found absent = None
part_found (some f) = Some (record { from = f.place; length = f.whole })

-- a verdict with a signed part
abbrev pub told : ℕ → Extent → Verdict
told v p = record { number = accepted; place = 0; verdict = v; from = p.from; length = p.length }

-- a verdict without one
abbrev pub bare : ℕ → Verdict
bare v = told v (part_of absent)

-- "signature over the certReq", "over poposkInput" or "otherwise", by the poposkInput, if there is one, and the certReq's part
unfoldable pub signature_answer : Option Field → (named : Bool) → Extent → Verdict
signature_answer input named request =
    elim input [
      | absent ↦ elim named [ true ↦ told signed_cert_req request | false ↦ bare other_signature ]
      | some x ↦ elim named [ true ↦ bare other_signature | false ↦ told signed_poposk_input (part_of (some x)) ]
    ]

-- the verdict by the identifier of the element after the certReq, and by the fields inside it
unfoldable pub proof_answer : ℕ → List Field → (named : Bool) → Extent → Verdict
proof_answer id inside named request =
    elim (eqb id 0x80) [
      | true ↦ bare ra_verified
      | false ↦ elim (eqb id 0xA1) [
        | true ↦ signature_answer (first_with (0xA0 ∷ []) inside) named request
        | false ↦ elim (eqb id 0xA2) [
          | true ↦ bare (encipherment_verdict (holds 0x82 inside))
          | false ↦ elim (eqb id 0xA3) [ true ↦ bare (agreement_verdict (holds 0x82 inside) named) | false ↦ bare no_proof ]
        ]
      ]
    ]
