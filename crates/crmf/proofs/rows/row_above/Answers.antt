-- `crmf::rows::row_above` meets its contract: the word's fields are the line's. Assumes nothing.
use Prim.Native.Nat.{ℕ, ◌+◌}
use mathlib.Core.Path.{◌≡◌, ap, ap₂, ◌∙◌}
use Rattle.crmf.specs.steps.grammar.Packed.{item_field, kind_field}
use Rattle.crmf.specs.steps.explain.Walk.{line, rows_of_kind as rowsGiven}
use Rattle.crmf.specs.meaning.Rows.{parent_if}
use Rattle.crmf.proofs.theorems.lines.WordFields.{item_at, kind_at}
use Rattle.crmf.proofs.rows.row_above.Goals as goal

pub returns : goal.returns
returns c = λ k e.
    let a = c.args in
    let item : c.item_of-item.result ≡ (line k).item = c.item_of-item.ensures ∙ ap item_field e ∙ item_at k in
    let kind : c.kind_of.result ≡ (line k).kind = c.kind_of.ensures ∙ ap kind_field e ∙ kind_at k in
    let own : a.row + c.row_of.result ≡ a.row + rowsGiven (line k).item = ap (λ (n : ℕ). a.row + n) (c.row_of.ensures.0 ∙ ap rowsGiven item) in
    let above : c.parent_if.result ≡ parent_if (line k).item a.row a.up = c.parent_if.ensures ∙ ap (λ (j : ℕ). parent_if j a.row a.up) item in
    c.parent_if-2.ensures
    ∙ ap (λ (j : ℕ). parent_if j (a.row + c.row_of.result) c.parent_if.result) kind
    ∙ ap₂ (λ (n u : ℕ). parent_if (line k).kind n u) own above
