-- `crmf::rows::item_entry` meets its contract: the word's field is the line's. Assumes nothing.
use Prim.Native.Nat.{ℕ}
use mathlib.Core.Path.{ap, ◌∙◌}
use Rattle.crmf.specs.steps.grammar.Packed.{item_field}
use Rattle.crmf.specs.meaning.Rows.{row_if}
use Rattle.crmf.specs.steps.rows.Fill.{around_extent}
use Rattle.crmf.proofs.theorems.lines.WordFields.{item_at}
use Rattle.crmf.proofs.rows.item_entry.Goals as goal

pub returns : goal.returns
returns c =
    let around = c.args.around in
    λ k e. c.if_any.ensures ∙ ap (λ (j : ℕ). row_if j (around_extent around) around.up) (c.item_of.ensures ∙ ap item_field e ∙ item_at k)
