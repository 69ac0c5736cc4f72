-- `crmf::messages::message_at` meets its contract. Assumes nothing.
use native.Mathlib.Omega.{arith}
use Prim.Native.Nat.{ℕ, ◌≤◌}
use mathlib.Core.Path.{◌≡◌, sym, ap, subst, ◌∙◌}
use lib.ListN.{length, drop}
use Rattle.der.specs.declared.element.reading.Element.{Element}
use Rattle.crmf.specs.steps.Fields.{fields_between}
use Rattle.crmf.specs.steps.Positions.{first_place, message_place}
use Rattle.crmf.proofs.theorems.messages.Positions.{from_content, place_long, place_short}
use Rattle.crmf.proofs.messages.message_at.Goals as goal
use Rattle.crmf.proofs.messages.message_at.Goals.{After-skip-place}

pub returns-then-end-gt-LONGEST : goal.returns-then-end-gt-LONGEST
returns-then-end-gt-LONGEST c =
    let a = c.args in
    let s = a.bytes.now in
    subst (λ (p : ℕ). length s ≤ p) (sym (place_long s a.position.0 c.if-end-gt-LONGEST.true)) (omega arith)

pub skip-place-requires : goal.skip-place-requires
skip-place-requires c =
    let a = c.args in
    from_content a.bytes.now 0 (length a.bytes.now) (record { order = omega arith; within = omega arith; short = c.if-end-gt-LONGEST.false })
    c.read_at-batch.result c.read_at-batch.ensures

-- the place that is skipped to
skipped : (c : After-skip-place) → c.skip-place.result ≡ message_place c.args.bytes.now c.args.position.0
skipped c =
    let a = c.args in
    let s = a.bytes.now in
    c.skip-place.ensures
    ∙ ap (λ (x : Element). first_place (length s) (drop a.position.0 (fields_between s x.content (length s)))) c.read_at-batch.ensures
    ∙ sym (place_short s a.position.0 c.if-end-gt-LONGEST.false)

pub returns-then-end-place : goal.returns-then-end-place
returns-then-end-place c =
    subst (λ (p : ℕ). length c.args.bytes.now ≤ p) (skipped (goal.at.returns-then-end-place c).After-skip-place) c.if-end-place.true

pub returns : goal.returns
returns c = (skipped (goal.at.returns c).After-skip-place, c.if-end-place.false)
