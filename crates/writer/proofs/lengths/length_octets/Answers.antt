-- `writer::lengths::length_octets` meets its contract: one, two or three octets. Assumes nothing.
use mathlib.Core.Path.{sym, ap}
use lib.ListN.{length}
use Rattle.der.proofs.Laws.{shortest_small, shortest_one, shortest_two}
use native.Mathlib.Omega.{arith}
use Rattle.writer.proofs.lengths.length_octets.Goals as goal

pub returns-then-content-lt128 : goal.returns-then-content-lt128
returns-then-content-lt128 c = (sym (ap length (shortest_small c.args.content c.if-content-lt128.true)), omega arith)

pub returns-then-content-lt256 : goal.returns-then-content-lt256
returns-then-content-lt256 c = (sym (ap length (shortest_one c.args.content c.if-content-lt128.false c.if-content-lt256.true)), omega arith)

pub returns : goal.returns
returns c = (sym (ap length (shortest_two c.args.content c.if-content-lt256.false c.requires)), omega arith)
