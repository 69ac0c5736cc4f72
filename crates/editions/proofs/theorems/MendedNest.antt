-- Document 02, A3, in a reading: what is accepted has SETs that ascend, and of several faults in the nest the one that is decided first is answered.
-- Assumes nothing.
use Prim.Native.Nat.{ℕ, ◌≤◌}
use native.Mathlib.Omega.{arith}
use mathlib.Core.Logic.{◌↔◌}
use mathlib.Core.List.{List}
use lib.ListN.{length}
use Rattle.der.specs.meaning.Bounds.{depth, longest}
use Rattle.der.specs.meaning.Octets.{Octets}
use Rattle.der.specs.meaning.Refusal.{accepted, truncated, too_deep}
use Rattle.der.specs.meaning.Fault.{Any, Soonest}
use Rattle.der.proofs.Laws.{EverySetAscends, sets_ascend, walk_fault, walk_soonest, first_number}
use Rattle.crmf.specs.meaning.Edition.{Edition}
use Rattle.editions.specs.meaning.Membership.{InGrammar}
use Rattle.editions.specs.meaning.Answers.{Answers}
use Rattle.editions.proofs.theorems.Demands.{accepted_exactly}

-- In bytes of an edition's grammar every SET ascends.
pub grammar_ascends : {e : ℕ} {s : List ℕ} (g : InGrammar e s) → EverySetAscends g.nest
grammar_ascends g = sets_ascend depth 0 g.nest g.formed

-- So it does in a batch that is accepted.
pub accepted_ascends : {e : ℕ} → Edition e → (s : List ℕ) → Octets s → (count : ℕ) → Answers e s accepted 0 count
    → (g : InGrammar e s) × EverySetAscends g.nest
accepted_ascends ed s octets count answers = let (g, short) = (accepted_exactly ed s octets).0 (count, answers) in (g, grammar_ascends g)

-- A fault of the nest is answered, in either edition, exactly if of all faults it is decided first.
module _ {e : ℕ} (ed : Edition e) (s : List ℕ) (octets : Octets s) (short : length s ≤ longest) (number place : ℕ) where
  -- an answer with such a number is a fault
  fault_soonest : {n p c : ℕ} → Answers e s n p c → truncated ≤ n → n ≤ too_deep → (detail : ℕ) × Soonest (Any depth 0 s) n p detail
  fault_soonest (Answers.unknown none) low high = absurd (omega arith)
  fault_soonest (Answers.long known over) low high = absurd (omega arith)
  fault_soonest (Answers.fault {number = n} {place = p} {detail = d} known few first) low high =
      (d, (walk_soonest s octets short n p d).0 ((walk_fault s octets short n p d).1 first))
  fault_soonest (Answers.trailing known few t after formed single split more) low high = absurd (omega arith)
  fault_soonest (Answers.neither known outside outside-too stop) low high = absurd (omega arith)
  fault_soonest (Answers.other known outside first) low high = absurd (omega arith)
  fault_soonest (Answers.long_id known g first) low high = absurd (omega arith)
  fault_soonest (Answers.accept known g none) low high = absurd (omega arith)

  pub soonest_answered : ((truncated ≤ number) × (number ≤ too_deep) × Answers e s number place 0) ↔ ((detail : ℕ) × Soonest (Any depth 0 s) number place detail)
  soonest_answered = (
    λ (low, high, answers). fault_soonest answers low high,
    λ (detail, soonest).
        let first = (walk_fault s octets short number place detail).0 ((walk_soonest s octets short number place detail).1 soonest) in
        let (low, high) = first_number s number place detail first in
        (low, high, Answers.fault ed short first),
  )
