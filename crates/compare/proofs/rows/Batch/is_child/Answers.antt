-- `compare::rows::Batch::is_child` meets its contract: its tests are those of the definition. Assumes nothing.
use mathlib.Core.Path.{sym, ap, ◌∙◌}
use Prim.Native.Nat.{ℕ}
use lib.Dec.{eqb}
use borrow.Author.Tests.{true-ltb, le-ltb}
use Rattle.std.proofs.lemmas.List.{get_or_default}
use Rattle.crmf.specs.steps.rows.Packing.{parent_of}
use Rattle.compare.specs.steps.Tables.{child_at}
use Rattle.compare.proofs.rows.Batch.is_child.Goals as goal

pub returns-in_default : goal.returns-in_default
unfolding child_at
returns-in_default c = rw (le-ltb _ _ c.in_default.ensures.lookup.3)

pub returns : goal.returns
unfolding child_at
returns c =
    let a = c.args in
    let there = c.in-Some.ensures.lookup in
    let read = there.1 ∙ get_or_default a.self.rows.now a.row _ 0 (true-ltb _ _ there.0) in
    rw (sym there.0) (ap (λ (p : ℕ). eqb p a.parent) (c.parent.ensures ∙ ap parent_of read))
