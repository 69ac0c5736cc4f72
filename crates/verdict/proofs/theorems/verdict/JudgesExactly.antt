-- The verdict's computed answer is exactly the one that `Judges` relates. Assumes nothing.
use Prim.Native.Nat.{ℕ, zero, suc, ◌<◌}
use native.Mathlib.Nat.{le_of_suc-le-suc}
use native.Mathlib.Omega.{arith}
use mathlib.Core.Logic.{◌↔◌}
use mathlib.Core.Path.{◌≡◌, refl, sym, ap, subst, ◌∙◌}
use mathlib.Core.Bool.{Bool, true, false}
use mathlib.Core.List.{List, [], ◌∷◌}
use mathlib.Core.Option.{some}
use lib.Dec.{eqb, ltb}
use lib.ListN.{length, get_or, get_elem?}
use borrow.Author.Tests.{eqb-true, eqb-false, ltb-true, ltb-false}
use Rattle.der.specs.meaning.Refusal.{accepted, no_such_message}
use Rattle.der.specs.meaning.Octets.{Octets}
use Rattle.der.specs.steps.Reading.{tree}
use Rattle.crmf.specs.meaning.Messages.{Message, messages}
use Rattle.editions.specs.meaning.Answer.{Answer}
use Rattle.editions.specs.steps.Reading.{answer}
use Rattle.editions.proofs.Laws.{answer_related, related_answer, accepted_related}
use Rattle.verdict.specs.steps.Answer.{Verdict}
use Rattle.verdict.specs.meaning.Judges.{Judges, refused, missing, judged}
use Rattle.verdict.specs.steps.JudgeAnswer as steps
use Rattle.verdict.specs.steps.JudgeAnswer.{verdict_on, message_at, verdict_answer}
use Rattle.verdict.proofs.theorems.verdict.Answers.{answer_refused, answer_missing, answer_judged}
use Rattle.verdict.proofs.theorems.verdict.Verdicts.{batch_messages}

-- what is found at a position below a list's length
there_at : (ms : List Message) (i : ℕ) (d : Message) → i < length ms → get_elem? ms i ≡ some (get_or ms i d)
there_at [] i d below = absurd (omega arith)
there_at (m ∷ ms) zero d below = refl
there_at (m ∷ ms) (suc i) d below = there_at ms i d (le_of_suc-le-suc below)

-- what is found at a position is there
at_there : (ms : List Message) (i : ℕ) (d m : Message) → get_elem? ms i ≡ some m → (i < length ms) × (get_or ms i d ≡ m)
at_there [] i d m is = let z : ◌≡◌ {A = ℕ} 0 1 = cc in absurd (omega arith)
at_there (x ∷ ms) zero d m is = (omega arith, cc)
at_there (x ∷ ms) (suc i) d m is = let (below, same) = at_there ms i d m is in (omega arith, same)

-- an answer is related
abbrev Related : ℕ → List ℕ → ℕ → Verdict → Type 0
Related e s position v = Judges e s position v.number v.place v.verdict v.from v.length

module _ (e : ℕ) (s : List ℕ) (position : ℕ) (octets : Octets s) where
  to_answer : (v : Verdict) → v ≡ verdict_answer e s position → Related e s position v → Related e s position (verdict_answer e s position)
  to_answer v same = subst (Related e s position) same

  by_position_lem : (answer e s).number ≡ accepted → (b : Bool) → ltb position (length (messages (tree 0 s))) ≡ b → Related e s position (verdict_answer e s position)
  by_position_lem accepted-it true test =
      let within = ltb-true _ _ test in
      let (g, related) = accepted_related e s octets accepted-it in
      to_answer (verdict_on (message_at s position)) (answer_judged e s position accepted-it within)
      (judged related g (message_at s position)
      (subst (λ (ms : List Message). get_elem? ms position ≡ some (message_at s position)) (batch_messages s g) (there_at (messages (tree 0 s)) position (steps.no_message s) within)))
  by_position_lem accepted-it false test =
      let out = ltb-false _ _ test in
      let (g, related) = accepted_related e s octets accepted-it in
      to_answer (steps.refused no_such_message 0) (answer_missing e s position accepted-it out) (missing related g (rw (batch_messages s g) at out))

  by_number : (b : Bool) → eqb (answer e s).number accepted ≡ b → Related e s position (verdict_answer e s position)
  by_number true test = by_position_lem (eqb-true _ _ test) (ltb position (length (messages (tree 0 s)))) refl
  by_number false test =
      let some-refusal = eqb-false _ _ test in
      to_answer (steps.refused (answer e s).number (answer e s).place) (answer_refused e s position some-refusal) (refused (answer_related e s octets) some-refusal)

  -- What is computed is related.
  pub verdict_related : Judges e s position (verdict_answer e s position).number (verdict_answer e s position).place (verdict_answer e s position).verdict
      (verdict_answer e s position).from (verdict_answer e s position).length
  verdict_related = by_number (eqb (answer e s).number accepted) refl

  -- What is related is computed.
  pub related_verdict : (n p v f l : ℕ) → Judges e s position n p v f l
      → verdict_answer e s position ≡ record { number = n; place = p; verdict = v; from = f; length = l }
  related_verdict n p v f l (refused {count = c} related some-refusal) =
      let is = related_answer e s octets n p c related in
      sym (answer_refused e s position (λ accepted-it. some-refusal (sym (ap (λ (a : Answer). a.number) is) ∙ accepted-it)))
      ∙ ap (λ (a : Answer). steps.refused a.number a.place) is
  related_verdict n p v f l (missing {count = c} related g out) =
      let accepted-it = ap (λ (a : Answer). a.number) (related_answer e s octets accepted 0 c related) in
      sym (answer_missing e s position accepted-it (rw (batch_messages s g) out))
  related_verdict n p v f l (judged {count = c} related g m there) =
      let accepted-it = ap (λ (a : Answer). a.number) (related_answer e s octets accepted 0 c related) in
      let (below, same) = at_there (messages (tree 0 s)) position (steps.no_message s) m (rw (batch_messages s g) there) in
      sym (answer_judged e s position accepted-it below) ∙ ap verdict_on same

  -- The answer is exactly the one that `Judges` relates.
  pub judges_exactly : (n p v f l : ℕ) → Judges e s position n p v f l
      ↔ (verdict_answer e s position ≡ record { number = n; place = p; verdict = v; from = f; length = l })
  judges_exactly n p v f l = (related_verdict n p v f l, λ same. subst (Related e s position) same verdict_related)

  -- So an answer that equals the computed one is related.
  pub equal_verdict : (a : Verdict) → a ≡ verdict_answer e s position → Judges e s position a.number a.place a.verdict a.from a.length
  equal_verdict a same = subst (Related e s position) (sym same) verdict_related
