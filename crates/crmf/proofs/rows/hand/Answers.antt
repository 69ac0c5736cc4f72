-- `crmf::rows::hand` meets its contract: where there is an entry its row is taken. Assumes nothing.
use Rattle.crmf.proofs.theorems.rows.Taking.{took_none, took_one}
use Rattle.crmf.proofs.rows.hand.Goals as goal

pub returns-in_default : goal.returns-in_default
returns-in_default g c = rw c.in_default.is (took_none (g.T.Taker.takes c.args.taker.now) c.args.row c.args.out.now)

pub returns : goal.returns
returns g c = rw (c.in-Some.is, c.then_some.ensures) (took_one (g.T.Taker.takes c.args.taker.now) c.args.row _ c.args.out.now c.take.result c.take.new.out c.take.ensures)
