-- Every verdict is at most 7, the last of document 01's table. Assumes nothing.
use Prim.Native.Nat.{ℕ, ◌≤◌}
use native.Mathlib.Omega.{arith}
use mathlib.Core.Bool.{Bool, true, false}
use mathlib.Core.List.{List}
use mathlib.Core.Option.{Option, some, none as absent}
use lib.Dec.{eqb}
use Rattle.crmf.specs.meaning.Fields.{Field}
use Rattle.crmf.specs.meaning.Messages.{Message}
use Rattle.verdict.specs.meaning.Judges.{Judges}
use Rattle.verdict.specs.meaning.Verdict.{no_proof, ra_verified, misplaced_dh_mac, has, has_subject_and_key, signature_verdict, encipherment_verdict, agreement_verdict, proof_verdict, verdict_of}

signature_small : (input both : Bool) → signature_verdict input both ≤ misplaced_dh_mac
signature_small true true = omega arith
signature_small true false = omega arith
signature_small false true = omega arith
signature_small false false = omega arith

encipherment_small : (mac : Bool) → encipherment_verdict mac ≤ misplaced_dh_mac
encipherment_small true = omega arith
encipherment_small false = omega arith

agreement_small : (mac both : Bool) → agreement_verdict mac both ≤ misplaced_dh_mac
agreement_small true true = omega arith
agreement_small true false = omega arith
agreement_small false both = omega arith

proof_small : (m : Message) (p : Field) → proof_verdict m p ≤ misplaced_dh_mac
proof_small m p = go (eqb p.identifier 0x80) (eqb p.identifier 0xA1) (eqb p.identifier 0xA2)
  where
    go : (a b c : Bool)
        → (elim a as (λ x. ℕ) [
          | true ↦ ra_verified
          | false ↦ elim b as (λ x. ℕ) [
            | true ↦ signature_verdict (has 0xA0 p) (has_subject_and_key m)
            | false ↦ elim c as (λ x. ℕ) [ true ↦ encipherment_verdict (has 0x82 p) | false ↦ agreement_verdict (has 0x82 p) (has_subject_and_key m) ]
          ]
        ]) ≤ misplaced_dh_mac
    go true b c = omega arith
    go false true c = signature_small (has 0xA0 p) (has_subject_and_key m)
    go false false true = encipherment_small (has 0x82 p)
    go false false false = agreement_small (has 0x82 p) (has_subject_and_key m)

-- The verdict on a message is at most 7.
pub verdict_small : (m : Message) → verdict_of m ≤ misplaced_dh_mac
unfolding verdict_of
verdict_small m = go m.proof
  where
    go : (o : Option Field) → (elim o as (λ x. ℕ) [ absent ↦ no_proof | some p ↦ proof_verdict m p ]) ≤ misplaced_dh_mac
    go absent = omega arith
    go (some p) = proof_small m p

-- So is the verdict of every answer that `Judges` relates.
pub judges_small : {e position n p v f l : ℕ} {s : List ℕ} → Judges e s position n p v f l → v ≤ misplaced_dh_mac
judges_small (Judges.refused related fails) = omega arith
judges_small (Judges.missing related g out) = omega arith
judges_small (Judges.judged related g m there) = verdict_small m
