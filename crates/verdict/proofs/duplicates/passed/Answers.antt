-- `verdict::duplicates::passed` meets its contract: none of the positions in front of what is left has the certReqId, and they are
-- passed eight at once. Assumes nothing.
use Rattle.std.proofs.Common.{ℕ, ◌≡◌, ◌+◌, ◌-◌, length, take, drop, ap, sym, subst, ◌∙◌, arith, drop-drop}
use Rattle.verdict.specs.steps.SearchAnswer.{is_among, numbers_of}
use Rattle.verdict.proofs.theorems.duplicates.Eights.{Passed, eight_passed}
use Rattle.verdict.proofs.duplicates.passed.Goals as goal

pub loop-eight-init : goal.loop-eight-init
loop-eight-init c =
    let ids = c.args.ids.now in
    let none : length ids - length ids ≡ 0 = omega arith in
    (omega arith, ap (λ (m : ℕ). drop m ids) (sym none), ap (λ (m : ℕ). is_among c.args.id.0 (numbers_of (take m ids))) none, omega arith)

pub loop-eight-preserved : goal.loop-eight-preserved
loop-eight-preserved c =
    let ids = c.args.ids.now in
    let l = c.loop-eight in
    let s = c.in-Some in
    let n = length ids - length l.rest.now in
    let on : n + 8 ≡ length ids - length s.more.now = omega (arith, s.ensures.cases, l.invariant.0) in (
      omega (arith, s.ensures.cases, l.invariant.0),
      s.ensures.cases.1 ∙ ap (drop 8) l.invariant.1 ∙ drop-drop 8 n ids ∙ ap (λ (m : ℕ). drop m ids) on,
      subst (λ (m : ℕ). Passed c.args.id.0 m ids) on (eight_passed c.args.id.0 n ids l.rest.now s.eight.now l.invariant.2 l.invariant.1 s.ensures.cases.0 c.if-is_among.ensures),
      omega (arith, on, l.invariant.3),
    )

pub loop-eight-smaller : goal.loop-eight-smaller
loop-eight-smaller c = omega (arith, c.in-Some.ensures.cases)

pub overflow_sub-result : goal.overflow_sub-result
overflow_sub-result c = c.loop-eight.invariant.0
