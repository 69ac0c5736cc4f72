-- What the code's results say in document 01's numbers. Assumes nothing.
use Rattle.std.specs.Prelude.{ℕ, Option, Some, None, Result, Ok, Err}
use Rattle.der.specs.declared.refusal.Refused.{Refused}
use Rattle.der.specs.meaning.Refusal.{accepted}
use Rattle.der.specs.steps.Refusal.{refusal_number}
use Rattle.verdict.specs.declared.duplicates.Pair.{Pair}
use Rattle.verdict.specs.declared.verdict.Verdict as code
use Rattle.verdict.specs.declared.verdict.ProofVerdict.{ProofVerdict}
use Rattle.verdict.specs.declared.verdict.ProofVerdict.TheVariants.{NoProof, RaVerified, SignedCertReq, SignedPoposkInput, OtherSignature, KeyEncipherment, KeyAgreement, MisplacedDhMac}
use Rattle.verdict.specs.steps.Answer.{Verdict, Duplicates}
use Rattle.verdict.specs.meaning.Verdict.{no_proof, ra_verified, signed_cert_req, signed_poposk_input, other_signature, key_encipherment, key_agreement, misplaced_dh_mac}
use Rattle.verdict.specs.steps.JudgeAnswer.{refused}
use Rattle.verdict.specs.steps.Judging.{told, bare}
use Rattle.verdict.specs.steps.SearchAnswer.{without_pair}

-- the number of a verdict
abbrev pub number_of : ProofVerdict → ℕ
number_of NoProof = no_proof
number_of RaVerified = ra_verified
number_of SignedCertReq = signed_cert_req
number_of SignedPoposkInput = signed_poposk_input
number_of OtherSignature = other_signature
number_of KeyEncipherment = key_encipherment
number_of KeyAgreement = key_agreement
number_of MisplacedDhMac = misplaced_dh_mac

-- a verdict with its part, if it has one
abbrev pub verdict_told : code.Verdict → Verdict
verdict_told v = elim v.part [ Some part ↦ told (number_of v.verdict) part | None ↦ bare (number_of v.verdict) ]

-- what judging a message's proof answers: the verdict, or the refusal
abbrev pub judge_answer_of : Result code.Verdict Refused → Verdict
judge_answer_of (Ok v) = verdict_told v
judge_answer_of (Err r) = refused (refusal_number r.refusal) r.place

-- a pair, or that there is none
abbrev pub pair_told : Option Pair → Duplicates
pair_told (Some pair) = record { number = accepted; place = 0; found = 1; earlier = pair.earlier; later = pair.later }
pair_told None = without_pair accepted 0

-- what the search for duplicates answers: a pair or that there is none, or the refusal
abbrev pub search_answer_of : Result (Option Pair) Refused → Duplicates
search_answer_of (Ok found) = pair_told found
search_answer_of (Err r) = without_pair (refusal_number r.refusal) r.place
