-- `crmf::grammar::table::closed` meets its contract. The loop's invariant: a container may end at the line looked at exactly if it may
-- end at `from`. Assumes nothing.
use Prim.Native.Nat.{◌<◌}
use mathlib.Core.Path.{◌≡◌, ap, ◌∙◌}
use native.Mathlib.Omega.{arith}
use native.Mathlib.Numerals.{add-one}
use Rattle.crmf.specs.steps.grammar.Packed.{pass_field, pass_code}
use Rattle.crmf.specs.steps.explain.Walk.{line}
use Rattle.crmf.proofs.theorems.lines.WordFields.{line_count, pass_at}
use Rattle.crmf.proofs.theorems.lines.Search.{closed_here, closed_next, closed_past}
use Rattle.crmf.proofs.grammar.table.closed.Goals as goal
use Rattle.crmf.proofs.grammar.table.closed.Goals.{After-word-pass, At-loop-k, In-loop-k}

-- the loop's test compares with the number of lines
inside : (c : In-loop-k) → c.loop-k.k < line_count
unfolding line_count
inside c = c.loop-k-test.true

-- the pass of the line that is looked at
looked : (c : After-word-pass) →
    let a = (goal.at.After-word-pass c).At-loop-k in
    pass_field c.word-pass.result ≡ pass_code (line a.loop-k.k).pass
looked c = ap pass_field c.word-pass.ensures ∙ pass_at (goal.at.After-word-pass c).At-loop-k.loop-k.k

pub returns-then-pass-lt-OVER : goal.returns-then-pass-lt-OVER
unfolding pass_code
returns-then-pass-lt-OVER c =
    let a = (goal.at.returns-then-pass-lt-OVER c).At-loop-k in
    let e = looked (goal.at.returns-then-pass-lt-OVER c).After-word-pass in
    rw e (closed_here a.loop-k.k (inside (goal.at.returns-then-pass-lt-OVER c).In-loop-k) (omega arith) ∙ a.loop-k.invariant)

pub loop-k-preserved : goal.loop-k-preserved
unfolding pass_code
loop-k-preserved c =
    let a = (goal.at.loop-k-preserved c).At-loop-k in
    let e = looked (goal.at.loop-k-preserved c).After-word-pass in
    rw add-one (closed_next a.loop-k.k (inside (goal.at.loop-k-preserved c).In-loop-k) (omega arith) ∙ a.loop-k.invariant)

pub returns : goal.returns
unfolding line_count
returns c = closed_past c.loop-k.k c.loop-k-test.false ∙ c.loop-k.invariant
