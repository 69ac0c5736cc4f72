-- `writer::octets::put` meets its contract: a container's header, or a leaf's octets. Assumes nothing.
use Prim.Native.Nat.{ℕ, ◌+◌, ◌-◌}
use mathlib.Core.Path.{◌≡◌, sym, ◌∙◌, subst}
use mathlib.Core.List.{List}
use lib.ListN.{take, drop}
use lib.Seq.{slice}
use native.Mathlib.Nat.{add-sub_cancel_left}
use Rattle.der.proofs.Laws.{take_drop}
use Rattle.crmf.specs.meaning.Pieces.{piece_of}
use Rattle.crmf.proofs.Laws.{leaf_octets, own_container, own_leaf, whole_container}
use Rattle.writer.specs.steps.Inner.{row_of, Appended}
use native.Mathlib.Omega.{arith}
use Rattle.writer.proofs.octets.put.Goals as goal

pub put_header-requires-clause-short : goal.put_header-requires-clause-short
put_header-requires-clause-short c =
    let a = c.args in
    let is = sym c.container.ensures ∙ c.if-container.true in
    omega (arith, whole_container (piece_of a.bytes.now (row_of a.row)) a.inner is, c.requires.short)

pub returns-then-container : goal.returns-then-container
returns-then-container c =
    let a = c.args in
    let is = sym c.container.ensures ∙ c.if-container.true in
    subst (λ (l : List ℕ). Appended a.scratch.now a.at l c.put_header.result c.put_header.new.scratch) (sym (own_container (piece_of a.bytes.now (row_of a.row)) a.inner is)) c.put_header.ensures

pub returns : goal.returns
returns c =
    let a = c.args in
    let is = sym c.container.ensures ∙ c.if-container.false in
    let first = a.row.first in
    let whole = a.row.whole in
    let run : take (first + whole - first) (drop first a.bytes.now) ≡ slice first (first + whole) a.bytes.now = rw add-sub_cancel_left (take_drop whole first a.bytes.now) in
    let octets = run ∙ sym (leaf_octets a.bytes.now (row_of a.row) is) ∙ sym (own_leaf (piece_of a.bytes.now (row_of a.row)) a.inner is) in
    subst (λ (l : List ℕ). Appended a.scratch.now a.at l c.append.result c.append.new.scratch) octets c.append.ensures.written
