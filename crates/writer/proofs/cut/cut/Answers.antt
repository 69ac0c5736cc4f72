-- `writer::cut::cut` meets its contract: the batch's refusal, no message at the position, or what is answered of the batch around that message.
-- Assumes nothing.
use Prim.Native.Nat.{ℕ, ◌-◌, ◌≤◌, ◌<◌}
use native.Mathlib.Omega.{arith}
use mathlib.Core.Path.{◌≡◌, refl, sym, ap, subst, ◌∙◌}
use mathlib.Core.List.{List, []}
use lib.ListN.{length, take, drop, length-take, length-drop}
use lib.Seq.{slice}
use Rattle.der.specs.meaning.Bounds.{longest}
use Rattle.std.proofs.lemmas.Result.{err_from_is_err_and}
use Rattle.der.proofs.Laws.{take_slice, some_refusal}
use Rattle.crmf.specs.meaning.Fields.{octets}
use Rattle.crmf.proofs.Laws.{StandsThere, position_missing, position_there, message_read}
use Rattle.editions.specs.steps.Results.{answer_of}
use Rattle.editions.proofs.Laws.{nest_read, taken, grammar_content}
use Rattle.editions.specs.meaning.TwoBatches.{Accepted}
use Rattle.writer.specs.meaning.Cuts.{refused, missing}
use Rattle.writer.specs.steps.Around.{around_answer, around_output}
use Rattle.writer.proofs.theorems.CutsExactly.{cut_says}
use Rattle.writer.proofs.cut.cut.Goals as goal
use Rattle.writer.proofs.cut.cut.Goals.{After-read_at-end, In-Some}

pub returns-in_err-accept : goal.returns-in_err-accept
returns-in_err-accept c =
    let why = c.in_err-accept.field-0.0 in
    let p = err_from_is_err_and c.from_residual.result c.from_residual.ensures.1 in
    rw (p.1, p.2) (refused c.in_err-accept.ensures (some_refusal why.refusal))

-- the batch is accepted, and the message at the position stands at the place
module _ (c : In-Some) where
  batch : Accepted c.args.edition c.args.bytes.now
  batch = taken c.in_ok-accept.ensures refl

  there : StandsThere c.args.bytes.now batch.batch.nest c.args.position.0 c.in-Some.at
  there =
      let s = c.args.bytes.now in
      let n = c.args.position.0 in
      let g = batch.batch in
      let (same, within) = c.in-Some.ensures in
      let room = subst (λ (p : ℕ). p < length s) same within in
      subst (StandsThere s g.nest n) (sym same)
      (position_there s g.nest (nest_read s g) g.short g.encoded (grammar_content g) n room)

pub returns-in_default : goal.returns-in_default
returns-in_default c =
    let s = c.args.bytes.now in
    let n = c.args.position.0 in
    let a = taken c.in_ok-accept.ensures refl in
    let g = a.batch in
    missing a (position_missing s g.nest (nest_read s g) g.short g.encoded (grammar_content g) n c.in_default.ensures)

-- its octets are the bytes from there to the end of what is read
own : (c : After-read_at-end) → let p = c.in-Some.at in let e = c.read_at-end.result.end in
    (p ≤ e) × (e ≤ length c.args.bytes.now) × (slice p e c.args.bytes.now ≡ octets (there (goal.at.After-read_at-end c).In-Some).message.own)
own c =
    let s = c.args.bytes.now in
    let b = (goal.at.After-read_at-end c).In-Some in
    let g = (batch b).batch in
    rw c.read_at-end.ensures
    (message_read s g.nest g.encoded g.batch g.formed g.single c.args.position.0 c.in-Some.at (there b))

pub slice_bounds-put_around-count : goal.slice_bounds-put_around-count
slice_bounds-put_around-count c = (own c).0

pub slice_bounds-put_around-start : goal.slice_bounds-put_around-start
slice_bounds-put_around-start c = (own c).0

pub slice_bounds-put_around-end : goal.slice_bounds-put_around-end
slice_bounds-put_around-end c = (own c).1

-- a part of the batch isn't too long
part_short : (s : List ℕ) (p e : ℕ) → length s ≤ longest → length (take (e - p) (drop p s)) ≤ longest
part_short s p e short = rw (length-take, length-drop) (omega arith)

pub put_around-requires : goal.put_around-requires
put_around-requires c =
    let s = c.args.bytes.now in
    let end = c.read_at-end.result.end in
    let short = (taken c.in_ok-accept.ensures refl).batch.short in
    (part_short s c.in-Some.at end short, omega arith)

pub returns : goal.returns
returns c =
    let read = (goal.at.returns c).After-read_at-end in
    let b = (goal.at.After-read_at-end read).In-Some in
    let a = c.args in
    let s = a.bytes.now in
    let old = a.output.now in
    let end = c.read_at-end.result.end in
    let (order, within, same) = own read in
    let left = take_slice c.in-Some.at end s order ∙ same in
    cut_says (batch b) a.position.0 (there b).message (there b).there old c.put_around.new.output (answer_of c.put_around.result)
    (c.put_around.ensures.0 ∙ ap (λ (l : List ℕ). around_answer l [] old) left)
    (c.put_around.ensures.1 ∙ ap (λ (l : List ℕ). around_output l [] old) left)
