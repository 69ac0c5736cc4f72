-- `crmf::grammar::table::word` meets its contract: past the table's end `get_or` answers 0, as the code does. Assumes nothing.
use Prim.Native.Nat.{ℕ, ◌≤◌}
use mathlib.Core.Path.{refl, sym, subst}
use lib.ListN.{get_or-eq_default}
use Rattle.crmf.specs.steps.grammar.Packed.{packed}
use Rattle.crmf.proofs.theorems.lines.WordFields.{line_count, words_count, computed}
use Rattle.crmf.proofs.grammar.table.word.Goals as goal

pub returns-then-k-lt-LINES : goal.returns-then-k-lt-LINES
unfolding computed
returns-then-k-lt-LINES c = refl

pub returns-else-k-lt-LINES : goal.returns-else-k-lt-LINES
unfolding line_count
returns-else-k-lt-LINES c = sym (get_or-eq_default packed 0 (subst (λ (n : ℕ). n ≤ c.args.k) (sym words_count) c.if-k-lt-LINES.false))
