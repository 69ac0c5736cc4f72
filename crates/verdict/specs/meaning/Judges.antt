-- What judging a message's proof answers, for every edition number, bytes and position: SPECIFICATION 7. One relation, by `Answers` and then
-- 14. Assumes nothing.
use Rattle.std.specs.Prelude.{ℕ, ◌≤◌, ◌≡◌, List, length}
use Rattle.std.proofs.Math.Option.{some}
use Rattle.std.proofs.Math.ListN.{get_elem?}
use Rattle.std.specs.Borrow.{Bor}
use Rattle.der.specs.meaning.Refusal.{accepted, no_such_message}
use Rattle.crmf.specs.meaning.Messages.{Message, messages}
use Rattle.editions.specs.meaning.Membership.{InGrammar}
use Rattle.editions.specs.meaning.Answers.{Answers}
use Rattle.editions.specs.meaning.HandedBack.{HandedBack}
use Rattle.verdict.specs.meaning.Verdict.{no_proof, verdict_of, signed_of}

-- The number, the place, the verdict, and the place and length of the signed part. "The verdict takes a message's position from 0."
pub data Judges (e : ℕ) (s : List ℕ) (position : ℕ) : (number place verdict from size : ℕ) → Type 0 where
  -- "Refusals: as reading without 11"; "Other verdicts and refusals hand back an empty part"
  refused : {number place count : ℕ} → Answers e s number place count → (number ≡ accepted → ⊥) → Judges e s position number place no_proof 0 0
  -- "then 14": "no message at that position"
  missing : {count : ℕ} → Answers e s accepted 0 count → (g : InGrammar e s) → length (messages g.nest) ≤ position
      → Judges e s position no_such_message 0 no_proof 0 0
  -- the verdict and the signed part of the message at the position
  judged : {count : ℕ} → Answers e s accepted 0 count → (g : InGrammar e s) (m : Message) → get_elem? (messages g.nest) position ≡ some m
      → Judges e s position accepted 0 (verdict_of m) (signed_of m).0 (signed_of m).1

-- "Verdicts 2 and 3 hand back the signed element's bytes as they stand": the part of the lent bytes that the answer's place and length give.
pub record SignedPart (e : ℕ) (bytes : Bor (List ℕ)) (position : ℕ) (part : Bor (List ℕ)) : Type 0 where
  pub number : ℕ
  pub place : ℕ
  pub verdict : ℕ
  pub from : ℕ
  pub size : ℕ
  pub answer : Judges e bytes.now position number place verdict from size
  pub handed : HandedBack bytes part from size
