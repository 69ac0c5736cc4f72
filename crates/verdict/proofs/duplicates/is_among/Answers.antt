-- `verdict::duplicates::is_among` meets its contract: what is counted up says whether one of the eight is the certReqId. Assumes nothing.
use Rattle.std.proofs.Common.{Bool, false, ◌||◌, ◌∙◌, rules}
use Rattle.std.specs.Ordering.{int_eq}
use Rattle.std.proofs.lemmas.Iterator.{YieldsList-from_slice}
use Rattle.std.proofs.lemmas.Iterator.Consumers.{fold_from_yields_List}
use Rattle.verdict.specs.declared.duplicates.ReqId.{ReqId}
use Rattle.verdict.proofs.theorems.duplicates.Eights.{any_folded}
use Rattle.verdict.proofs.duplicates.is_among.Goals as goal

pub returns : goal.returns
returns c =
    let k = c.args.id.0 in
    fold_from_yields_List _ (λ (any : Bool) (id : ReqId). any || int_eq id.0 k) false c.fold.result c.fold.ensures.ran (YieldsList-from_slice c.args.eight.now cc) (λ a x b q k. search rules)
    ∙ any_folded k false c.args.eight.now
