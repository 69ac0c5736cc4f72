-- `crmf::rows::onward` meets its contract: the word's fields are the line's, and its code says whether the value selects. Assumes nothing.
use Prim.Native.Nat.{ℕ, ◌+◌, ◌-◌}
use mathlib.Core.Path.{◌≡◌, sym, ap, ap₂, ◌∙◌}
use Rattle.std.specs.Prelude.{unwrap_or}
use lib.ListN.{get_or, take, drop}
use lib.Seq.{slice}
use Rattle.der.proofs.Laws.{take_slice}
use Rattle.crmf.specs.steps.grammar.Packed.{packed, judge_code, judge_field, next_field}
use Rattle.crmf.specs.steps.explain.Walk.{line}
use Rattle.crmf.specs.steps.rows.Fill.{goes}
use Rattle.crmf.proofs.theorems.lines.WordFields.{judge_at, next_at}
use Rattle.crmf.proofs.theorems.lines.Judging.{goes_on, goes_by}
use Rattle.crmf.proofs.theorems.values.ValueRules.{told_or}
use Rattle.crmf.proofs.rows.onward.Goals as goal
use Rattle.crmf.proofs.rows.onward.Goals.{After-next_of-next}

pub returns-then-code-lt-SELECTORS : goal.returns-then-code-lt-SELECTORS
returns-then-code-lt-SELECTORS c = λ k e.
    let j = (line k).judge in
    let coded : judge_code j ≡ c.judge_of-code.result = sym (judge_at k) ∙ ap judge_field (sym e) ∙ sym c.judge_of-code.ensures in
    let next : c.next_of-next.result ≡ (line k).next = c.next_of-next.ensures ∙ ap next_field e ∙ next_at k in
    let a = c.args in
    let content = slice a.fit.content a.fit.end a.bytes.now in
    next ∙ goes_on (line k).next _ content c.if-code-lt-SELECTORS.true j coded

-- the way that the value selects, or the number of ways
pub returns : goal.returns
returns c = λ k e.
    let j = (line k).judge in
    let given = (goal.at.returns c).After-next_of-next in
    let a = given.args in
    let coded : judge_code j ≡ given.judge_of-code.result = sym (judge_at k) ∙ ap judge_field (sym e) ∙ sym given.judge_of-code.ensures in
    let next : given.next_of-next.result ≡ (line k).next = given.next_of-next.ensures ∙ ap next_field e ∙ next_at k in
    let part = take_slice a.fit.content a.fit.end a.bytes.now given.requires.0 in
    let way = c.unwrap_or-way.result in
    c.next_of.ensures
    ∙ ap next_field (c.word.ensures ∙ ap (λ (n : ℕ). get_or packed (n + way) 0) next)
    ∙ next_at ((line k).next + way)
    ∙ goes_by (line k).next _ (take (a.fit.end - a.fit.content) (drop a.fit.content a.bytes.now)) c.if-code-lt-SELECTORS.false _
    (λ s f. c.unwrap_or-way.ensures ∙ ap₂ unwrap_or (c.selected.ensures.way s f) (c.ways.ensures.0 s f) ∙ told_or _ _) j coded
    ∙ ap (goes j (line k).next) part
