-- `writer::assemble::assemble` meets its contract. The loop's invariant: the scratch begins with the octets of the rows so far. Assumes nothing.
use Prim.Native.Nat.{ℕ, suc, ◌<◌}
use mathlib.Core.List.{List, [], ◌∷◌}
use mathlib.Core.Path.{◌≡◌, sym, ap, ◌∙◌}
use lib.ListN.{length, drop, get_or, length-append}
use Rattle.std.proofs.Common.{rules}
use Rattle.std.proofs.lemmas.Slice.Zip.{zip_turn, zip_end}
use Rattle.crmf.specs.meaning.Rows.{Row}
use Rattle.crmf.specs.steps.rows.Agree.{draft_rows}
use Rattle.writer.specs.steps.Inner.{row_of, row_with, children}
use Rattle.writer.proofs.theorems.Assembling.{joined_first, joined_last, joined_next, joined_stops, row_fits, row_lies}
use native.Mathlib.Omega.{arith}
use Rattle.writer.proofs.assemble.assemble.Goals as goal
use Rattle.writer.proofs.assemble.assemble.Goals.{After-from}

pub loop-numbers-init : goal.loop-numbers-init
loop-numbers-init c = let a = c.args in joined_first a.draft.now.bytes.now (draft_rows a.draft.now.numbers.now) a.scratch.now c.requires.short c.requires.within c.requires.fit

-- the row of this turn, and its children's octets
module _ (c : After-from) where
  abbrev rows : List Row
  rows = draft_rows c.args.draft.now.numbers.now

  abbrev n : ℕ
  n = length c.loop-numbers.yielded

  turn : (n < length c.rows.result.now) × (n < length c.args.sums.now) × ((d : List ℕ) → c.in-Some.numbers.now ≡ get_or c.rows.result.now n d)
      × ((d : ℕ) → c.in-Some.inner.now ≡ get_or c.args.sums.now n d)
  turn =
      zip_turn c.rows.result.now c.args.sums.now c.loop-numbers.yielded c.into_iter-numbers-iterator.result c.loop-numbers.numbers-iterator c.next.new.self c.next.result
      (search rules) (search rules) c.loop-numbers.yielded_by (c.in-Some.numbers, c.in-Some.inner) c.in-Some.is c.next.ensures.steps

  there : n < length rows
  there = omega (arith, turn.0, c.rows.ensures.count)

  cut : drop n rows ≡ row_of c.from.result ∷ drop (suc n) rows
  cut =
      c.rows.ensures.each n turn.0
      ∙ ap (λ (r : Row). r ∷ drop (suc n) rows) (ap row_with (sym (turn.2 [])) ∙ sym c.from.ensures)

  sum : c.in-Some.inner.now ≡ children c.args.draft.now.bytes.now rows n
  sum = turn.3 0 ∙ c.requires.summed n there

pub put-requires-clause-short : goal.put-requires-clause-short
put-requires-clause-short c =
    let a = c.args in
    let l = c.loop-numbers in
    let f = (goal.at.put-requires-clause-short c).After-from in
    row_fits a.draft.now.bytes.now (rows f) (n f) l.at a.scratch.now l.scratch l.invariant (row_of c.from.result) (cut f) (there f) c.in-Some.inner.now (sum f)

pub put-requires-clause-inside : goal.put-requires-clause-inside
put-requires-clause-inside c =
    let a = c.args in
    let l = c.loop-numbers in
    let f = (goal.at.put-requires-clause-inside c).After-from in
    row_lies a.draft.now.bytes.now (rows f) (n f) l.at a.scratch.now l.scratch l.invariant (row_of c.from.result) (cut f) (there f) c.in-Some.inner.now (sum f)

pub returns-in_err-at : goal.returns-in_err-at
returns-in_err-at c =
    let a = c.args in
    let l = c.loop-numbers in
    let f = (goal.at.returns-in_err-at c).After-from in
    rw c.from_residual.ensures
    (joined_stops a.draft.now.bytes.now (rows f) (n f) l.at a.scratch.now l.scratch l.invariant (row_of c.from.result) (cut f) (there f) c.in-Some.inner.now (sum f)
    c.put.new.scratch c.put.auto.scratch c.in_err-at.ensures)

pub loop-numbers-preserved : goal.loop-numbers-preserved
loop-numbers-preserved c =
    let a = c.args in
    let l = c.loop-numbers in
    let f = (goal.at.loop-numbers-preserved c).After-from in
    rw length-append
    (joined_next a.draft.now.bytes.now (rows f) (n f) l.at a.scratch.now l.scratch l.invariant (row_of c.from.result) (cut f) (there f) c.in-Some.inner.now (sum f)
    c.in_ok-at.at c.put.new.scratch c.put.auto.scratch c.in_ok-at.ensures)

pub returns : goal.returns
returns c =
    let a = c.args in
    let l = c.loop-numbers in
    let end =
    zip_end c.rows.result.now c.args.sums.now c.loop-numbers.yielded c.into_iter-numbers-iterator.result c.loop-numbers.numbers-iterator c.next.new.self c.next.result
    (search rules) (search rules) c.loop-numbers.yielded_by c.in-None.is c.next.ensures.steps in
    joined_last a.draft.now.bytes.now (draft_rows a.draft.now.numbers.now) (length l.yielded) l.at a.scratch.now l.scratch l.invariant (omega (arith, end, c.rows.ensures.count, c.requires.sized))
