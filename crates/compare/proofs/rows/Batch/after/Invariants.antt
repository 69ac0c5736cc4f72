-- `compare::rows::Batch::after` meets its contract: all rows passed so far have parents no earlier than the row. Assumes nothing.
use Prim.Native.Nat.{ℕ, ◌≤◌, ◌<◌}
use mathlib.Core.List.{List}
use lib.ListN.{get_or}
use Rattle.crmf.specs.steps.rows.Packing.{parent_of}
use Rattle.compare.proofs.rows.Batch.after.Given as goal

-- the rows between two are below the first
abbrev pub Deep : List ℕ → (i k : ℕ) → Type 0
Deep table i k = (m : ℕ) → i < m → m < k → i ≤ parent_of (get_or table m 0)

abbrev pub invariant-loop-next : goal.invariant-loop-next
invariant-loop-next l = Deep l.self.rows.now l.row l.next
