-- `crmf::explain::count_part` meets its contract: of what isn't tried nothing is said, and otherwise the recogniser has counted. Assumes nothing.
use lib.Seq.{slice}
use mathlib.Core.Path.{subst}
use mathlib.Core.List.{List}
use Prim.Native.Nat.{ℕ}
use Rattle.der.specs.meaning.Bounds.{depth}
use Rattle.der.proofs.Laws.{take_slice}
use Rattle.crmf.specs.steps.recognise.Count.{neither}
use Rattle.crmf.specs.steps.recognise.Inner.{ListCounted}
use Rattle.crmf.proofs.theorems.recognise.CommonForms.{tried_octets, not_tried}
use Rattle.crmf.proofs.explain.count_part.Goals as goal
use Rattle.crmf.proofs.explain.count_part.Goals.{Start}

pub returns-then-not-is_part : goal.returns-then-not-is_part
returns-then-not-is_part c = not_tried _ _ _

pub returns : goal.returns
returns c =
    let start = (goal.at.returns c).Start in
    let a = start.args in
    tried_octets depth a.state a.fit.content c.list.result (slice a.fit.content a.fit.end a.bytes.now)
    (subst (λ (l : List ℕ). ListCounted neither depth a.state 0 l c.list.result) (take_slice a.fit.content a.fit.end a.bytes.now start.requires.0) c.list.ensures)
