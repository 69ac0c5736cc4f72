-- `writer::octets::put_length` meets its contract: one, two or three octets. Assumes nothing.
use Prim.Native.Nat.{ℕ}
use mathlib.Core.Path.{sym, subst}
use mathlib.Core.List.{List}
use Rattle.der.proofs.Laws.{shortest_small, shortest_one, shortest_two}
use Rattle.writer.specs.steps.Inner.{Appended}
use Rattle.writer.proofs.octets.put_length.Goals as goal

pub returns-then-content-lt128 : goal.returns-then-content-lt128
returns-then-content-lt128 c =
    let a = c.args in
    subst (λ (l : List ℕ). Appended a.scratch.now a.at l c.append.result c.append.new.scratch) (sym (shortest_small a.content c.if-content-lt128.true)) c.append.ensures.written

pub returns-then-content-lt256 : goal.returns-then-content-lt256
returns-then-content-lt256 c =
    let a = c.args in
    let put = c.append-then-content-lt256 in
    subst (λ (l : List ℕ). Appended a.scratch.now a.at l put.result put.new.scratch) (sym (shortest_one a.content c.if-content-lt128.false c.if-content-lt256.true)) put.ensures.written

pub returns : goal.returns
returns c =
    let a = c.args in
    let put = c.append-2 in
    subst (λ (l : List ℕ). Appended a.scratch.now a.at l put.result put.new.scratch) (sym (shortest_two a.content c.if-content-lt256.false c.requires.0)) put.ensures.written
