-- `crmf::rows::walk` meets its contract: the rows of the list of elements from 0 to the input's end are the input's. Assumes nothing.
use mathlib.Core.List.{List}
use mathlib.Core.Path.{sym, subst}
use native.Mathlib.Omega.{arith}
use Rattle.std.specs.Prelude.{Some}
use Rattle.crmf.specs.meaning.Rows.{Row}
use Rattle.crmf.specs.steps.rows.Take.{Took}
use Rattle.crmf.proofs.theorems.rows.Showing.{no_rows}
use Rattle.crmf.proofs.theorems.rows.Taking.{took_none, took_whole}
use Rattle.crmf.proofs.rows.walk.Goals as goal

pub returns-then-bytes-gt-LONGEST : goal.returns-then-bytes-gt-LONGEST
returns-then-bytes-gt-LONGEST g c =
    let a = c.args in
    let takes = g.T.Taker.takes a.taker.now in
    subst (λ (l : List Row). Took takes 0 l a.out.now (Some 0) a.out.now) (sym (no_rows a.bytes.now c.if-bytes-gt-LONGEST.true)) (took_none takes 0 a.out.now)

pub returns : goal.returns
returns g c =
    took_whole (g.T.Taker.takes c.args.taker.now) c.args.bytes.now c.args.out.now _ _ (omega (arith, c.if-bytes-gt-LONGEST.false))
    c.list.ensures.took
