-- `writer::octets::put_header` meets its contract: three runs, one after another. Assumes nothing.
use Prim.Native.Nat.{ℕ, ◌+◌}
use mathlib.Core.Path.{subst}
use mathlib.Core.List.{List, [], ◌∷◌, ◌++◌}
use lib.ListN.{length}
use Rattle.der.specs.meaning.Length.{length_octets}
use Rattle.crmf.specs.steps.rows.Assembly.{identifier_of, implied}
use Rattle.writer.specs.steps.Inner.{Placed, Appended}
use Rattle.writer.proofs.theorems.OctetRuns.{append_two}
use Rattle.writer.proofs.octets.put_header.Goals as goal

pub returns : goal.returns
returns c =
    let a = c.args in
    let octets = length_octets (length (implied a.kind) + a.inner) in
    let one = c.append.new.scratch in
    let two = c.put_length.new.scratch in
    let three = c.append-2.new.scratch in
    let next = c.in_ok-length.length in
    let content = c.in_ok-content.content in
    let end = c.append-2.result in
    let first = subst (λ (x : ℕ). Placed a.scratch.now a.at (x ∷ []) next one) c.identifier.ensures c.in_ok-length.ensures.written in
    let second = subst (λ (l : List ℕ). Placed one next (length_octets (length l + a.inner)) content two) c.implied.ensures c.in_ok-content.ensures in
    let third = subst (λ (l : List ℕ). Appended two content l end three) c.implied-2.ensures c.append-2.ensures.written in
    append_two a.scratch.now a.at one three next end (identifier_of a.kind ∷ []) (octets ++ implied a.kind) c.append.auto.scratch first
    (append_two one next two three content end octets (implied a.kind) c.put_length.auto.scratch second third)
