-- `crmf::recognise::common::primitive` meets its contract: one primitive element is a value after an OBJECT IDENTIFIER. Assumes nothing.
use mathlib.Core.Bool.{Bool, true, false, not, ◌||◌, false≢true}
use mathlib.Core.Path.{◌≡◌, refl, sym, ◌∙◌}
use Rattle.crmf.proofs.theorems.recognise.RowlessInsides.{rowless_primitive}
use Rattle.crmf.proofs.recognise.common.primitive.Goals as goal

-- an identifier that passes both tests
passes_both : (made may : Bool) → (made || not may) ≡ false → (made ≡ false) × (may ≡ true)
passes_both false true e = (refl, refl)
passes_both false false e = absurd (false≢true (sym e))
passes_both true may e = absurd (false≢true (sym e))

pub returns : goal.returns
returns c = λ yes.
    let two = passes_both _ _ c.if-is_constructed-is_allowed.false in
    rowless_primitive c.args.bytes.now c.requires.1 c.in-Some.ensures (sym c.is_constructed.ensures ∙ two.0) (sym c.is_allowed.ensures ∙ two.1)
    (sym c.holds.ensures ∙ yes)
