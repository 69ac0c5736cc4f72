-- `crmf::explain::tally::with_element` meets its contract: the word's fields are the line's, and the form, the certReqId and the rows are tallied one after another. Assumes nothing.
use Prim.Native.Nat.{ℕ, ◌-◌}
use mathlib.Core.Path.{◌≡◌, sym, ap, ◌∙◌}
use mathlib.Core.List.{List}
use lib.Seq.{slice}
use Rattle.der.proofs.Laws.{take_slice}
use Rattle.crmf.specs.meaning.Notation.{mark_of}
use native.Mathlib.Omega.{arith}
use Rattle.crmf.specs.steps.grammar.Packed.{mark_code, kind_field, item_field}
use Rattle.crmf.specs.steps.explain.Tally.{tally_of}
use Rattle.crmf.specs.steps.explain.Walk.{line, with_long_id, rows_of_kind}
use Rattle.crmf.proofs.theorems.lines.WordFields.{kind_at, item_at}
use Rattle.crmf.proofs.theorems.explain.Meeting.{met_with}
use Rattle.crmf.proofs.explain.tally.with_element.Goals as goal
use Rattle.crmf.proofs.explain.tally.with_element.Goals.{After-item_of, After-kind_of-kind, After-with_form-marked, After-with_long_id-after, Start}

pub returns : goal.returns
returns c =
    let items = (goal.at.returns c).After-item_of in
    let long = (goal.at.After-item_of items).After-with_long_id-after in
    let form = (goal.at.After-with_long_id-after long).After-with_form-marked in
    let kinds = (goal.at.After-with_form-marked form).After-kind_of-kind in
    let start = (goal.at.After-kind_of-kind kinds).Start in
    let a = start.args in
    let octets = slice a.fit.content a.fit.end a.bytes.now in
    let place = a.fit.first in
    let whole = a.fit.end - a.fit.first in (
      λ k e.
          let coded : mark_code (mark_of (line k).marking octets) ≡ form.mark_of-mark.result =
          ap (λ (l : List ℕ). mark_code (mark_of (line k).marking l)) (sym (take_slice a.fit.content a.fit.end a.bytes.now start.requires.1)) ∙ sym (form.mark_of-mark.ensures k e) in
          let is-kind = kinds.kind_of-kind.ensures ∙ ap kind_field e ∙ kind_at k in
          let item = c.row_of.ensures.0 ∙ ap rows_of_kind (items.item_of.ensures ∙ ap item_field e ∙ item_at k) in
          let kind = c.row_of-2.ensures.0 ∙ ap rows_of_kind is-kind in
          met_with (line k) octets place whole (tally_of a.tally) (tally_of form.with_form-marked.result) (tally_of long.with_long_id-after.result) _ _ _ (form.with_form-marked.ensures.0 k octets coded)
          (long.with_long_id-after.ensures.0 ∙ ap (λ (j : ℕ). with_long_id j place whole (tally_of form.with_form-marked.result)) is-kind) c.add_rows.ensures item kind,
      omega (arith, c.add_rows.ensures, c.row_of-2.ensures.1, c.row_of.ensures.1, long.with_long_id-after.ensures.1, form.with_form-marked.ensures.1),
    )
