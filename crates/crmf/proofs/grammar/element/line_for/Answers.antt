-- `crmf::grammar::element::line_for` meets its contract: the line is the one that the search finds, and the places are the element's. Assumes nothing.
use mathlib.Core.Path.{refl, sym}
use Rattle.crmf.proofs.grammar.element.line_for.Goals as goal

pub returns-in_err-k : goal.returns-in_err-k
returns-in_err-k c = rw c.from_residual.ensures (sym c.in_err-k.ensures)

pub returns : goal.returns
returns c =
    let line = c.in_ok-k in
    record {
      number = line.k;
      found = sym line.ensures;
      word = c.word.ensures;
      first = refl;
      content = refl;
      end = refl;
    }
