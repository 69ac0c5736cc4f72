-- `verdict::duplicates::search` meets its contract: a refusal is passed on, and an accepted batch is searched. Assumes nothing.
use mathlib.Core.Path.{◌≡◌, ap}
use Rattle.std.proofs.lemmas.Result.{err_from_is_err_and}
use Rattle.der.specs.meaning.Refusal.{accepted}
use Rattle.der.specs.meaning.Octets.{Octets}
use Rattle.der.proofs.Laws.{octets_each, some_refusal}
use Rattle.editions.specs.meaning.Answer.{Answer}
use Rattle.editions.specs.steps.Reading.{answer}
use Rattle.editions.proofs.Laws.{related_answer}
use Rattle.verdict.specs.meaning.Searches.{Searches}
use Rattle.verdict.specs.steps.Results.{pair_told}
use Rattle.verdict.proofs.theorems.duplicates.SearchesExactly.{equal_search}
use Rattle.verdict.proofs.theorems.duplicates.SearchAnswers.{answer_told}
use Rattle.verdict.proofs.duplicates.search.Goals as goal
use Rattle.verdict.proofs.duplicates.search.Goals.{In_ok-accept}

pub returns-in_err-accept : goal.returns-in_err-accept
returns-in_err-accept c =
    let p = err_from_is_err_and c.from_residual.result c.from_residual.ensures.1 in
    rw (p.1, p.2) (Searches.refused c.in_err-accept.ensures (some_refusal _))

module _ (c : In_ok-accept) where
  octets : Octets c.args.bytes.now
  octets = octets_each c.args.bytes.now (λ i. (c.type_inv.bytes i).fits)

  -- the batch is accepted
  zero : let args = c.args in (answer args.edition args.bytes.now).number ≡ accepted
  zero = let args = c.args in ap (λ (a : Answer). a.number) (related_answer args.edition args.bytes.now octets _ _ _ c.in_ok-accept.ensures)

pub search_accepted-requires : goal.search_accepted-requires
search_accepted-requires c = record { edition = c.args.edition; zero = zero c }

pub returns : goal.returns
returns c =
    let args = c.args in
    let begun = (goal.at.returns c).In_ok-accept in
    let found = c.search_accepted in
    equal_search args.edition args.bytes.now (octets begun) (pair_told found.result)
    (answer_told args.edition args.bytes.now (zero begun) found.result found.ensures)
