-- `crmf::grammar::judge::judge_value` meets its contract: the word's fields are the line's, and each way out is what the judge says. Assumes nothing.
use Prim.Native.Nat.{ℕ, ◌+◌}
use mathlib.Core.Path.{◌≡◌, sym, ap, ◌∙◌}
use mathlib.Core.List.{List}
use lib.ListN.{get_or}
use Rattle.std.specs.Prelude.{Ok}
use Rattle.crmf.specs.steps.grammar.Packed.{packed, judge_code, judge_field, next_field}
use Rattle.crmf.specs.steps.explain.Walk.{line}
use Rattle.crmf.proofs.theorems.lines.WordFields.{judge_at, next_at}
use Rattle.crmf.proofs.theorems.lines.Judging.{kept, lost, selects, selects_none}
use Rattle.crmf.proofs.grammar.judge.judge_value.Goals as goal
use Rattle.crmf.proofs.grammar.judge.judge_value.Goals.{After-next_of-next, Start}

-- after the reading of the word
module _ (c : After-next_of-next) where
  abbrev start : Start
  start = (goal.at.After-next_of-next c).Start

  abbrev content : List ℕ
  content = start.args.content.now

  -- the judge's code and the next line are the line's
  coded : (k : ℕ) → start.args.word ≡ get_or packed k 0 → judge_code (line k).judge ≡ c.judge_of-code.result
  coded k e = sym (judge_at k) ∙ ap judge_field (sym e) ∙ sym c.judge_of-code.ensures

  next : (k : ℕ) → start.args.word ≡ get_or packed k 0 → c.next_of-next.result ≡ (line k).next
  next k e = c.next_of-next.ensures ∙ ap next_field e ∙ next_at k

pub returns-then-keeps : goal.returns-then-keeps
returns-then-keeps c = λ k e.
    let d = (goal.at.returns-then-keeps c).After-next_of-next in
    ap Ok (next d k e)
    ∙ kept (line k).next _ (content d) c.if-code-lt-SELECTORS.true (line k).judge (coded d k e) _ c.keeps.ensures c.if-keeps.true

pub returns-then-code-lt-SELECTORS : goal.returns-then-code-lt-SELECTORS
returns-then-code-lt-SELECTORS c = λ k e.
    let d = (goal.at.returns-then-code-lt-SELECTORS c).After-next_of-next in
    lost (line k).next _ (content d) c.if-code-lt-SELECTORS.true (line k).judge (coded d k e) _ c.keeps.ensures c.if-keeps.false
    _ c.rule_detail.ensures

pub returns-in_default : goal.returns-in_default
returns-in_default c = λ k e.
    let d = (goal.at.returns-in_default c).After-next_of-next in
    selects_none (line k).next _ (content d) c.if-code-lt-SELECTORS.false c.in_default.ensures.way (line k).judge (coded d k e)

pub returns : goal.returns
returns c = λ k e.
    let d = (goal.at.returns c).After-next_of-next in
    let way = c.in-Some.way in
    ap Ok (c.next_of.ensures
    ∙ ap next_field (c.word.ensures ∙ ap (λ (n : ℕ). get_or packed (n + way) 0) (next d k e))
    ∙ next_at ((line k).next + way))
    ∙ selects (line k).next _ (content d) c.if-code-lt-SELECTORS.false way c.in-Some.ensures.way (line k).judge (coded d k e)
