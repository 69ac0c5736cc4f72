-- `writer::around::put_runs` meets its contract: a header and two runs, one after another. Assumes nothing.
use Prim.Native.Nat.{ℕ, ◌+◌, ◌<◌}
use native.Mathlib.Omega.{arith}
use mathlib.Core.Path.{subst}
use mathlib.Core.List.{List, ◌++◌}
use lib.ListN.{length, length-append}
use Rattle.der.specs.meaning.Tree.{header}
use Rattle.writer.specs.steps.Around.{around}
use Rattle.writer.specs.steps.Inner.{Placed}
use Rattle.writer.proofs.theorems.OctetRuns.{append_two, append_none}
use Rattle.writer.proofs.theorems.AroundContents.{before_header, whole_around}
use Rattle.writer.proofs.around.put_runs.Goals as goal

pub put_header-requires-clause-short : goal.put_header-requires-clause-short
put_header-requires-clause-short c = let a = c.args in omega (arith, whole_around a.left.now a.right.now, c.requires)

pub returns-in_err-content : goal.returns-in_err-content
returns-in_err-content c =
    let a = c.args in
    let long = subst (λ (l : List ℕ). length a.output.now < 0 + length l) (before_header a.left.now a.right.now) c.in_err-content.ensures in
    rw c.from_residual.ensures (append_none a.output.now 0 (header 0x30 (a.left.now ++ a.right.now)) (a.left.now ++ a.right.now) long)

pub returns-in_err-middle : goal.returns-in_err-middle
returns-in_err-middle c =
    let a = c.args in
    let both = a.left.now ++ a.right.now in
    let head = subst (λ (l : List ℕ). Placed a.output.now 0 l c.in_ok-content.content c.put_header.new.scratch) (before_header a.left.now a.right.now) c.in_ok-content.ensures in
    let long : length a.output.now < 0 + length (around a.left.now a.right.now) =
    omega (arith, c.in_err-middle.ensures.written, head.place, c.put_header.auto.scratch, length-append (header 0x30 both) both, length-append a.left.now a.right.now) in
    rw c.from_residual-in_err-middle.ensures long

pub returns : goal.returns
returns c =
    let a = c.args in
    let head = c.put_header.new.scratch in
    let content = c.in_ok-content.content in
    let written = subst (λ (l : List ℕ). Placed a.output.now 0 l content head) (before_header a.left.now a.right.now) c.in_ok-content.ensures in
    append_two a.output.now 0 head c.append-2.new.scratch content c.append-2.result
    (header 0x30 (a.left.now ++ a.right.now)) (a.left.now ++ a.right.now) c.put_header.auto.scratch written
    (append_two head content c.append.new.scratch c.append-2.new.scratch c.in_ok-middle.middle c.append-2.result
    a.left.now a.right.now c.append.auto.scratch c.in_ok-middle.ensures.written c.append-2.ensures.written)
