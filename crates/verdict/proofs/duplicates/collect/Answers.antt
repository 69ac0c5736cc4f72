-- `verdict::duplicates::collect` meets its contract: each turn of the loop is a step of the walk over the messages. Assumes nothing.
use Prim.Native.Nat.{◌<◌}
use native.Mathlib.Omega.{arith}
use mathlib.Core.Path.{refl, ap, ◌∙◌}
use lib.ListN.{length, length-set}
use lib.Seq.{slice}
use Rattle.der.specs.declared.element.reading.Element.{Element}
use Rattle.der.proofs.Laws.{octets_each}
use Rattle.verdict.specs.meaning.Duplicates.{signed}
use Rattle.verdict.specs.steps.Collecting.{id_in}
use Rattle.verdict.proofs.theorems.duplicates.Collecting.{Known, accepted_known, Step, step, walk_start, walk_end, walk_full, walk_more}
use Rattle.verdict.proofs.duplicates.collect.Goals as goal
use Rattle.verdict.proofs.duplicates.collect.Goals.{After-read_at-at, Else-count-room, In-loop-at}

-- what is known of the batch
known : (c : After-read_at-at) → Known c.args.bytes.now
known c =
    let s = c.args.bytes.now in
    accepted_known s (octets_each s (λ i. (c.type_inv.bytes i).fits)) c.requires

-- what a turn reads
next : (c : In-loop-at) → Step c.args.bytes.now c.loop-at.at
next c =
    step c.args.bytes.now c.loop-at.at (known (goal.at.In-loop-at c).After-read_at-at) c.loop-at.invariant.1.among c.loop-at-test.true

-- there is room for its certReqId
room : (c : Else-count-room) → c.loop-at.count < length c.loop-at.room
room c = omega (arith, c.if-count-room.false, c.loop-at.invariant.1.counted)

pub loop-at-init : goal.loop-at-init
loop-at-init c =
    let args = c.args in
    (refl, rw c.read_at-at.ensures (walk_start args.bytes.now args.room.now (known c)))

pub returns-then-count-room : goal.returns-then-count-room
returns-then-count-room c =
    let l = c.loop-at in
    walk_full c.args.bytes.now l.room l.at l.count l.invariant.1 (next (goal.at.returns-then-count-room c).In-loop-at) c.if-count-room.true

pub own_id-requires : goal.own_id-requires
own_id-requires c = rw c.read_at-message.ensures (next (goal.at.own_id-requires c).In-loop-at).short

pub loop-at-smaller : goal.loop-at-smaller
loop-at-smaller c =
    let t = next (goal.at.loop-at-smaller c).In-loop-at in
    omega (arith, t.onward, t.within, ap (λ (x : Element). x.end) c.read_at-message.ensures)

pub loop-at-preserved : goal.loop-at-preserved
loop-at-preserved c =
    let e = (goal.at.loop-at-preserved c).Else-count-room in
    let l = (goal.at.Else-count-room e).In-loop-at in
    let s = l.args.bytes.now in
    let w = l.loop-at in
    let x = c.read_at-message.ensures in
    let id = c.own_id.ensures ∙ ap (λ (y : Element). signed (slice (id_in s y.content y.end).content (id_in s y.content y.end).end s)) x ∙ (next l).number in
    (simp length-set w.invariant.0, rw x (walk_more s w.room w.at w.count w.invariant.1 (next l) (room e) _ id))

pub returns : goal.returns
returns c =
    let l = c.loop-at in
    walk_end c.args.bytes.now l.room l.at l.count l.invariant.1 c.loop-at-test.false
