-- `writer::build::build` meets its contract: a draft that isn't sound describes nothing, a candidate that is longer than the scratch is left
-- alone, and any other is judged. Assumes nothing.
use borrow.Author.Tests.{lt-leb}
use lib.ListN.{length, take}
use lib.Seq.{length-take-le}
use mathlib.Core.Bool.{true, and-eq-true_iff}
use mathlib.Core.Path.{◌≡◌, refl, sym, ◌∙◌}
use native.Mathlib.Omega.{arith}
use Rattle.der.specs.meaning.Bounds.{longest}
use Rattle.der.specs.meaning.Refusal.{no_such_batch}
use Rattle.crmf.specs.steps.rows.Agree.{draft_rows}
use Rattle.crmf.specs.steps.rows.Assembly.{none_longer}
use Rattle.editions.specs.steps.Reading.{refusal}
use Rattle.editions.specs.steps.Results.{answer_of}
use Rattle.writer.specs.meaning.Draft.{inside}
use Rattle.writer.specs.steps.Writing.{drafted, candidate}
use Rattle.writer.specs.steps.Inner.{sound}
use Rattle.writer.proofs.theorems.Answering.{no_batch, judged}
use Rattle.writer.proofs.theorems.Describing.{unsound, too_long}
use Rattle.writer.proofs.build.build.Goals as goal
use Rattle.writer.proofs.build.build.Goals.{Else-not-add_up}

pub returns-then-not-add_up : goal.returns-then-not-add_up
returns-then-not-add_up c =
    let a = c.args in
    no_batch a.draft.now.edition a.draft.now.numbers.now a.draft.now.bytes.now a.output.now a.draft.now.known
    (unsound a.draft.now.edition a.draft.now.numbers.now a.draft.now.bytes.now a.draft.now.shape (sym c.add_up.ensures.0 ∙ c.if-not-add_up.true))
    (refusal no_such_batch 0) refl

-- a sound draft
sounds : (c : Else-not-add_up) → sound c.args.draft.now.bytes.now 0 (draft_rows c.args.draft.now.numbers.now) ≡ true
sounds c = sym c.add_up.ensures.0 ∙ c.if-not-add_up.false

pub assemble-requires : goal.assemble-requires
assemble-requires c =
    let d = c.args.draft.now.numbers.now in
    let b = c.args.draft.now.bytes.now in
    let (within, fit) = (and-eq-true_iff (inside b (draft_rows d)) (none_longer longest 0 (drafted d b))).0 (sounds (goal.at.assemble-requires c).Else-not-add_up) in
    record {
      within = within;
      fit = fit;
      sized = omega (arith, c.requires.blank.room, c.add_up.auto.table);
      summed = c.add_up.ensures.1 c.if-not-add_up.false;
      short = c.requires.short;
    }

pub returns-in-Some : goal.returns-in-Some
returns-in-Some c =
    let a = c.args in
    let scratch = c.assemble.new.scratch in
    let (within, first) = c.in-Some.ensures in
    judged a.draft.now.edition a.draft.now.numbers.now a.draft.now.bytes.now a.output.now a.draft.now.known a.draft.now.shape (sounds (goal.at.returns-in-Some c).Else-not-add_up)
    (take c.in-Some.length scratch) first
    (omega (arith, length-take-le c.in-Some.length scratch within, c.assemble.auto.scratch, c.requires.short))
    (answer_of c.judge.result) _ c.judge.ensures.0 c.judge.ensures.1

pub returns : goal.returns
returns c =
    let a = c.args in
    no_batch a.draft.now.edition a.draft.now.numbers.now a.draft.now.bytes.now a.output.now a.draft.now.known
    (too_long a.draft.now.edition a.draft.now.numbers.now a.draft.now.bytes.now a.draft.now.shape (sounds (goal.at.returns c).Else-not-add_up)
    (lt-leb (length (candidate a.draft.now.numbers.now a.draft.now.bytes.now)) longest (omega (arith, c.in_default.ensures, c.if-scratch-lt-LONGEST.false))))
    (refusal no_such_batch 0) refl
