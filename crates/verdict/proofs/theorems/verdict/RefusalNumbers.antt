-- The numbers that the verdict answers. Assumes nothing.
use Prim.Native.Nat.{ℕ, ◌≤◌}
use native.Mathlib.Omega.{arith}
use mathlib.Core.Bool.{Bool, true, false}
use mathlib.Core.List.{List}
use lib.Dec.{eqb, ltb}
use lib.ListN.{length}
use Rattle.der.specs.meaning.Refusal.{no_such_message}
use Rattle.der.specs.meaning.Octets.{Octets}
use Rattle.der.specs.steps.Reading.{tree}
use Rattle.crmf.specs.meaning.Messages.{messages}
use Rattle.editions.specs.steps.Reading.{answer}
use Rattle.editions.proofs.Laws.{answer_number}
use Rattle.verdict.specs.steps.Answer.{Verdict}
use Rattle.verdict.specs.steps.JudgeAnswer.{refused, verdict_on, message_at, verdict_answer}

-- the verdict answers a number of at most 14, the largest of its refusals
pub verdict_number : (e : ℕ) (s : List ℕ) (position : ℕ) → Octets s → (verdict_answer e s position).number ≤ no_such_message
unfolding verdict_answer
verdict_number e s position o = by_tests (eqb (answer e s).number 0) (ltb position (length (messages (tree 0 s))))
  where
    by_tests : (a b : Bool)
        → (elim a as (λ x. Verdict) [ false ↦ refused (answer e s).number (answer e s).place | true ↦ elim b as (λ x. Verdict) [ false ↦ refused no_such_message 0 | true ↦ verdict_on (message_at s position) ] ]).number ≤ no_such_message
    by_tests false b = omega (arith, answer_number e s o)
    by_tests true false = omega arith
    by_tests true true = omega arith
