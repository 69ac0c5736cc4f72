-- `crmf::rows::own_entry` meets its contract: the word's fields are the line's. Assumes nothing.
use Prim.Native.Nat.{ℕ}
use mathlib.Core.Path.{◌≡◌, ap, ap₂, ◌∙◌}
use Rattle.crmf.specs.steps.grammar.Packed.{item_field, kind_field}
use Rattle.crmf.specs.steps.explain.Walk.{line}
use Rattle.crmf.specs.meaning.Rows.{row_if, parent_if}
use Rattle.crmf.specs.steps.rows.Fill.{fit_extent}
use Rattle.crmf.proofs.theorems.lines.WordFields.{item_at, kind_at}
use Rattle.crmf.proofs.rows.own_entry.Goals as goal

pub returns : goal.returns
returns c = λ k e.
    let a = c.args in
    let parent : c.parent_if-parent.result ≡ parent_if (line k).item a.row a.around.up =
    c.parent_if-parent.ensures ∙ ap (λ (j : ℕ). parent_if j a.row a.around.up) (c.item_of.ensures ∙ ap item_field e ∙ item_at k) in
    c.if_any.ensures ∙ ap₂ (λ (j q : ℕ). row_if j (fit_extent a.fit) q) (c.kind_of.ensures ∙ ap kind_field e ∙ kind_at k) parent
