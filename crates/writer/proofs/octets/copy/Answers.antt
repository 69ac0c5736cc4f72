-- `writer::octets::copy` meets its contract: each turn copies one octet more, and all of them stand over the old ones at the end. Assumes nothing.
use Prim.Native.Nat.{ℕ, ◌+◌}
use native.Mathlib.Omega.{arith}
use mathlib.Core.Path.{◌≡◌, sym, ap, ◌∙◌}
use mathlib.Core.List.{List, ◌++◌}
use lib.ListN.{length, take, drop}
use Rattle.std.proofs.Common.{slice_set, slice_index_or}
use Rattle.std.proofs.lemmas.List.Edits.{paste_none, paste_more, paste_all}
use Rattle.crmf.proofs.Laws.{over_parts}
use Rattle.writer.proofs.octets.copy.Goals as goal

pub loop-i-init : goal.loop-i-init
loop-i-init c = let a = c.args in paste_none a.to.now a.at a.octets.now

pub loop-i-preserved : goal.loop-i-preserved
loop-i-preserved c =
    let a = c.args in
    let i = c.loop-i.i in
    ap (λ (to : List ℕ). slice_set to (a.at + i) (slice_index_or a.octets.now i 0)) c.loop-i.invariant
    ∙ paste_more a.to.now a.at a.octets.now i 0 (omega (arith, c.requires, c.loop-i-test.true)) c.loop-i-test.true

pub returns : goal.returns
returns c =
    let a = c.args in
    let whole : c.loop-i.i ≡ length a.octets.now = omega (arith, c.loop-i.auto.i-end, c.loop-i-test.false) in
    c.loop-i.invariant
    ∙ paste_all a.to.now a.at a.octets.now c.loop-i.i whole
    ∙ ap (λ (n : ℕ). take a.at a.to.now ++ (a.octets.now ++ drop (a.at + n) a.to.now)) whole
    ∙ sym (over_parts a.to.now a.at a.octets.now)
