-- `verdict::elements::Elements::find` meets its contract: the search in what is left finds what the search in all does. Assumes nothing.
use Rattle.std.proofs.Common.{◌≡◌, ◌-◌, [], ◌∷◌}
use Rattle.crmf.specs.meaning.Fields.{first_with}
use Rattle.verdict.proofs.theorems.verdict.Elements.{fields_of}
use Rattle.verdict.proofs.elements.Elements.find.Given as goal

abbrev pub invariant-loop-rest : goal.invariant-loop-rest
invariant-loop-rest l = first_with (l.id ∷ []) (fields_of l.rest) ≡ first_with (l.id ∷ []) (fields_of l.self)

abbrev pub decreases-loop-rest : goal.decreases-loop-rest
decreases-loop-rest l = l.rest.end - l.rest.at
