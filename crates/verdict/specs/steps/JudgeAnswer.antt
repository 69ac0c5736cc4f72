-- The answer of judging a message's proof, computed for every input, on the messages of the tree that is read from it. Assumes nothing.
use Rattle.std.specs.Prelude.{ℕ, true, false, List, eqb, ltb, length, get_or}
use Rattle.der.specs.meaning.Refusal.{accepted, no_such_message}
use Rattle.der.specs.steps.Reading.{tree}
use Rattle.crmf.specs.meaning.Fields.{missing}
use Rattle.crmf.specs.meaning.Messages.{Message, message_of, batch, messages}
use Rattle.editions.specs.steps.Reading.{answer}
use Rattle.verdict.specs.steps.Answer.{Verdict}
use Rattle.verdict.specs.meaning.Verdict.{no_proof, verdict_of, signed_of}

-- no message
abbrev pub no_message : List ℕ → Message
no_message s = message_of (missing (batch (tree 0 s)))

-- the message at a position, from 0
abbrev pub message_at : List ℕ → ℕ → Message
message_at s position = get_or (messages (tree 0 s)) position (no_message s)

-- a refusal; verdict, place and length of the part are 0
abbrev pub refused : ℕ → ℕ → Verdict
refused n p = record { number = n; place = p; verdict = no_proof; from = 0; length = 0 }

-- the answer with a message's verdict and signed part
abbrev pub verdict_on : Message → Verdict
verdict_on m = record { number = accepted; place = 0; verdict = verdict_of m; from = (signed_of m).0; length = (signed_of m).1 }

-- the answer for every input (SPECIFICATION 7): "Refusals: as reading without 11, then 14"
unfoldable pub verdict_answer : ℕ → List ℕ → ℕ → Verdict
verdict_answer e s position =
    let a = answer e s in
    elim (eqb a.number accepted) [
      | false ↦ refused a.number a.place
      | true ↦ elim (ltb position (length (messages (tree 0 s)))) [ false ↦ refused no_such_message 0 | true ↦ verdict_on (message_at s position) ]
    ]
