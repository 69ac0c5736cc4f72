-- `crmf::messages::skip` meets its contract. The loop's invariant: skipping the elements that are left from its place gives what skipping all
-- of them from the first place does. Assumes nothing.
use Prim.Native.Nat.{ℕ, suc, ◌+◌, ◌-◌}
use native.Mathlib.Omega.{arith}
use mathlib.Core.Path.{◌≡◌, sym, ap, ◌∙◌}
use mathlib.Core.List.{List}
use lib.ListN.{drop}
use Rattle.crmf.specs.meaning.Fields.{Field}
use Rattle.crmf.specs.steps.Fields.{fields_between}
use Rattle.crmf.specs.steps.Positions.{first_place}
use Rattle.crmf.proofs.theorems.messages.Positions.{first_place_lem, skip_end, after_places, skip_next}
use Rattle.crmf.proofs.messages.skip.Goals as goal

pub loop-passed-init : goal.loop-passed-init
loop-passed-init c =
    let a = c.args in
    let whole : a.count - 0 ≡ a.count = omega arith in
    (c.requires, ap (λ (n : ℕ). drop n (fields_between a.bytes.now a.at a.end)) whole)

pub returns-then-end-place : goal.returns-then-end-place
returns-then-end-place c =
    let a = c.args in
    let l = c.loop-passed in
    sym (first_place_lem a.bytes.now l.place a.end l.invariant.0)
    ∙ ap (first_place a.end) (sym (skip_end a.bytes.now l.place a.end l.invariant.0 (a.count - l.passed) c.if-end-place.true) ∙ l.invariant.1)

pub loop-passed-preserved : goal.loop-passed-preserved
loop-passed-preserved c =
    let a = c.args in
    let l = c.loop-passed in
    let room = c.if-end-place.false in
    let left = a.count - (l.passed + 1) in
    let one : suc left ≡ a.count - l.passed = omega arith in (
      after_places a.bytes.now l.place a.end l.invariant.0 c.read_at-place.result c.read_at-place.ensures,
      skip_next a.bytes.now l.place a.end l.invariant.0 room c.read_at-place.result c.read_at-place.ensures left
          ∙ ap (λ (n : ℕ). drop n (fields_between a.bytes.now l.place a.end)) one
          ∙ l.invariant.1,
    )

pub returns : goal.returns
returns c =
    let a = c.args in
    let l = c.loop-passed in
    let none : a.count - l.passed ≡ 0 = omega arith in
    let whole : List Field = fields_between a.bytes.now l.place a.end in
    sym (first_place_lem a.bytes.now l.place a.end l.invariant.0)
    ∙ ap (first_place a.end) (ap (λ (n : ℕ). drop n whole) (sym none) ∙ l.invariant.1)
