-- `verdict::duplicates::first_pair` meets its contract: no position that the inner loop has passed, one by one or eight at once, is the earlier
-- one, and no pair has its later position before the outer loop's. Assumes nothing.
use native.Mathlib.Numerals.{add-one}
use Rattle.std.proofs.Common.{ℕ, List, ◌≡◌, ◌≤◌, take, ap, sym, ◌∙◌, arith, length-take-le, take-take}
use Rattle.std.specs.Prelude.{option_map}
use Rattle.verdict.specs.declared.duplicates.ReqId.{ReqId}
use Rattle.verdict.specs.steps.SearchAnswer.{is_among, numbers_of, pair_at}
use Rattle.verdict.proofs.theorems.duplicates.Eights.{at, one_passed, pair_ends, pair_here, pair_later}
use Rattle.verdict.proofs.duplicates.first_pair.Goals as goal

pub loop-earlier-init : goal.loop-earlier-init
loop-earlier-init c =
    let ids = c.args.ids.now in
    let p = c.passed-earlier in
    let later = c.pair.later in
    let within : p.result ≤ later = omega (arith, p.ensures.without.0, length-take-le later ids (omega (arith, c.pair-test.true))) in (
      c.pair.invariant.0,
      within,
      ap (λ (l : List ReqId). is_among (at ids later) (numbers_of l)) (sym (take-take p.result later ids within)) ∙ p.ensures.without.1,
    )

pub loop-earlier-preserved : goal.loop-earlier-preserved
loop-earlier-preserved c =
    let ids = c.args.ids.now in
    let l = c.loop-earlier in (
      l.invariant.0,
      omega (arith, c.loop-earlier-test.true),
      one_passed (at ids c.pair.later) l.earlier ids (omega (arith, c.loop-earlier-test.true, c.pair-test.true)) l.invariant.2 (sym c.if-eq.ensures),
    )

pub pair-preserved : goal.pair-preserved
pair-preserved c =
    let ids = c.args.ids.now in
    let l = c.loop-earlier in
    let later = c.pair.later in
    let all : l.earlier ≡ later = omega (arith, l.invariant.1, c.loop-earlier-test.false) in (
      l.invariant.0,
      rw add-one (pair_later ids later c.pair-test.true (ap (λ (n : ℕ). is_among (at ids later) (numbers_of (take n ids))) (sym all) ∙ l.invariant.2) ∙ c.pair.invariant.1),
    )

pub returns-after-pair : goal.returns-after-pair
returns-after-pair c =
    let p = c.pair in
    p.invariant.0 ∙ ap (option_map pair_at) (pair_ends c.args.ids.now p.later c.pair-test.false ∙ p.invariant.1)

pub returns-then-eq : goal.returns-then-eq
returns-then-eq c =
    let l = c.loop-earlier in
    let p = c.pair in
    ap (option_map pair_at) (pair_here c.args.ids.now p.later l.earlier c.pair-test.true c.loop-earlier-test.true l.invariant.2 (sym c.if-eq.ensures) ∙ p.invariant.1)
