-- `editions::reader::broken` meets its contract: a form of the opposite edition before the break, or none. Assumes nothing.
use Prim.Native.Nat.{ℕ}
use mathlib.Core.Path.{ap, ◌∙◌}
use Rattle.std.specs.Prelude.{Option, unwrap_or}
use Rattle.der.specs.meaning.Refusal.{not_in_grammar}
use Rattle.crmf.specs.steps.explain.Tally.{tally_of}
use Rattle.editions.specs.steps.OneWalk.{first_form}
use Rattle.editions.specs.steps.Reading.{refusal}
use Rattle.editions.specs.steps.Results.{edition_number}
use Rattle.editions.proofs.theorems.Answers.{broken_at}
use Rattle.editions.proofs.reader.broken.Goals as goal

pub returns : goal.returns
returns c =
    let a = c.args in
    ap (refusal not_in_grammar)
    (c.unwrap_or.ensures ∙ ap (λ (o : Option ℕ). unwrap_or o a.place) (c.first_form.ensures ∙ ap (λ (x : ℕ). first_form x (tally_of a.tally)) c.opposite.ensures))
    ∙ broken_at (edition_number a.edition) a.place (tally_of a.tally)
