-- `crmf::rows::fill` meets its contract: if there is room, the walk writes the input's rows. Assumes nothing.
use Prim.Native.Nat.{◌*◌, ◌≤◌}
use native.Mathlib.Omega.{arith}
use lib.ListN.{length}
use Rattle.crmf.specs.meaning.Rows.{width}
use Rattle.crmf.specs.steps.rows.Fill.{rows_of_input}
use Rattle.crmf.proofs.theorems.rows.Showing.{fill_short, fill_whole}
use Rattle.crmf.proofs.theorems.rows.Taking.{first_written}
use Rattle.crmf.proofs.rows.fill.Goals as goal

pub returns-then-out-count : goal.returns-then-out-count
returns-then-out-count c = let a = c.args in fill_short a.bytes.now a.count a.out.now (omega (arith, c.if-out-count.true))

pub returns : goal.returns
returns c =
    let a = c.args in
    let room : width * a.count ≤ length a.out.now = omega (arith, c.if-out-count.false) in
    fill_whole a.bytes.now a.count a.out.now room _
    (first_written a.count (rows_of_input a.bytes.now) a.out.now c.walk.result c.walk.new.out room c.walk.ensures)
