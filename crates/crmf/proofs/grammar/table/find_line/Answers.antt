-- `crmf::grammar::table::find_line` meets its contract. The loop's invariant: the search from the line looked at finds what the search
-- from `from` finds. Assumes nothing.
use Prim.Native.Nat.{ℕ, ◌+◌, ◌<◌}
use mathlib.Core.Bool.{Bool, false}
use Rattle.std.specs.Bool.{then_some}
use mathlib.Core.Path.{◌≡◌, sym, ap, ◌∙◌}
use native.Mathlib.Omega.{arith}
use native.Mathlib.Numerals.{add-one}
use Rattle.crmf.specs.meaning.Notation.{named}
use Rattle.crmf.specs.steps.grammar.Codes as codes
use Rattle.crmf.specs.steps.grammar.Packed.{pass_field, pass_code, identifiers_field, identifiers_code}
use Rattle.crmf.specs.steps.explain.Walk.{line}
use Rattle.crmf.proofs.theorems.lines.WordFields.{line_count, pass_at, identifiers_at}
use Rattle.crmf.proofs.theorems.lines.Search.{stays, moves, own_code, other_code, find_line_here, find_line_stops, find_line_next, find_line_ends, find_line_past}
use Rattle.crmf.proofs.grammar.table.find_line.Goals as goal
use Rattle.crmf.proofs.grammar.table.find_line.Goals.{After-word-word, At-loop-k, Else-code-lt-OCTET, In-loop-k}

-- the loop's test compares with the number of lines
inside : (c : In-loop-k) → c.loop-k.k < line_count
unfolding line_count
inside c = c.loop-k-test.true

-- what the identifiers and the pass of the line that is looked at say
module _ (c : After-word-word) where
  abbrev a : At-loop-k
  a = (goal.at.After-word-word c).At-loop-k

  coded : identifiers_field c.word-word.result ≡ identifiers_code (line a.loop-k.k).identifiers
  coded = ap identifiers_field c.word-word.ensures ∙ identifiers_at a.loop-k.k

  looked : pass_field c.word-word.result ≡ pass_code (line a.loop-k.k).pass
  looked = ap pass_field c.word-word.ensures ∙ pass_at a.loop-k.k

pub returns-then-code-from : goal.returns-then-code-from
returns-then-code-from c =
    let d = (goal.at.returns-then-code-from c).After-word-word in
    let k = (a d).loop-k.k in
    find_line_here k (inside (goal.at.After-word-word d).In-loop-k) (a d).args.id (own_code (line k).identifiers _ (sym (coded d) ∙ c.if-code-from.true ∙ ap (λ (n : ℕ). n + codes.octet) c.from.ensures)) ∙ (a d).loop-k.invariant

pub returns-then-code-lt-OCTET : goal.returns-then-code-lt-OCTET
returns-then-code-lt-OCTET c =
    let d = (goal.at.returns-then-code-lt-OCTET c).After-word-word in
    let k = (a d).loop-k.k in
    let e = coded d in
    c.then_some.ensures ∙ ap (λ (b : Bool). then_some b k) (c.names.ensures (line k).identifiers (sym e)) ∙ find_line_ends k (inside (goal.at.After-word-word d).In-loop-k) (a d).args.id (omega arith) ∙ (a d).loop-k.invariant

-- after the two tests of its identifiers the line doesn't have the identifier
unfit : (c : Else-code-lt-OCTET) →
    let d = (goal.at.Else-code-lt-OCTET c).After-word-word in
    named (line (a d).loop-k.k).identifiers (a d).args.id ≡ false
unfit c =
    let d = (goal.at.Else-code-lt-OCTET c).After-word-word in
    let e = coded d in
    other_code (line (a d).loop-k.k).identifiers _ (omega arith) (λ q. c.if-code-from.false (e ∙ q ∙ ap (λ (n : ℕ). n + codes.octet) (sym c.from.ensures)))

pub returns-then-word-lt-ANOTHER : goal.returns-then-word-lt-ANOTHER
unfolding pass_code
returns-then-word-lt-ANOTHER c =
    let d = (goal.at.returns-then-word-lt-ANOTHER c).After-word-word in
    let k = (a d).loop-k.k in
    let e = looked d in
    find_line_stops k (inside (goal.at.After-word-word d).In-loop-k) (a d).args.id (unfit (goal.at.returns-then-word-lt-ANOTHER c).Else-code-lt-OCTET) (stays (line k).pass (omega arith)) ∙ (a d).loop-k.invariant

pub loop-k-preserved : goal.loop-k-preserved
unfolding pass_code
loop-k-preserved c =
    let d = (goal.at.loop-k-preserved c).After-word-word in
    let k = (a d).loop-k.k in
    let e = looked d in
    rw add-one (find_line_next k (inside (goal.at.After-word-word d).In-loop-k) (a d).args.id (unfit (goal.at.loop-k-preserved c).Else-code-lt-OCTET) (moves (line k).pass (omega arith)) ∙ (a d).loop-k.invariant)

pub returns : goal.returns
unfolding line_count
returns c = find_line_past c.loop-k.k c.loop-k-test.false c.args.id ∙ c.loop-k.invariant
