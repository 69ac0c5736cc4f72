-- `crmf::recognise::step::take_by_fields` meets its contract: the mark, the value and the inside are the line's. Assumes nothing.
use Prim.Native.Nat.{ℕ, ◌/◌}
use mathlib.Core.Path.{◌≡◌, refl, sym, ap, subst, ◌∙◌}
use mathlib.Core.Bool.{Bool, true, false, not, ◌&&◌}
use lib.Dec.{eqb}
use lib.ListN.{get_or}
use borrow.Author.Tests.{eq-eqb, ne_eqb}
use Rattle.std.specs.Prelude.{None, Some, Err, Ok}
use Rattle.std.specs.Result.{result_ok}
use Rattle.std.proofs.lemmas.Option.{none-some, same_Some}
use Rattle.crmf.specs.steps.grammar.Codes as codes
use Rattle.crmf.specs.meaning.Kinds as kinds
use Rattle.crmf.specs.steps.grammar.Packed.{packed, inside_field}
use Rattle.crmf.specs.steps.explain.Walk.{line, judged, Onward}
use Rattle.crmf.specs.steps.recognise.Count.{may_stand}
use Rattle.crmf.specs.steps.recognise.Inner.{VisitJustified}
use Rattle.crmf.proofs.theorems.lines.WordFields.{inside_at}
use Rattle.crmf.proofs.theorems.recognise.StepWays.{reads, stands_by, refuse_breaks, refuse_wrong, descend, skip_whole}
use Rattle.crmf.proofs.recognise.step.take_by_fields.Goals as goal
use Rattle.crmf.proofs.recognise.step.take_by_fields.Goals.{After-inside_of, After-mark_of-mark, Start}

-- what a judged value says, by what is kept of it
goes_on : (o : Onward) (n : ℕ) → result_ok o ≡ Some n → o ≡ Ok n
goes_on (Ok m) n is = ap Ok (same_Some m n is)
goes_on (Err d) n is = absurd (none-some n is)

breaks : (o : Onward) → result_ok o ≡ None → (d : ℕ) × (o ≡ Err d)
breaks (Ok m) is = absurd (none-some m (sym is))
breaks (Err d) is = (d, refl)

-- after the reading of the mark
module _ (c : After-mark_of-mark) where
  abbrev start : Start
  start = (goal.at.After-mark_of-mark c).Start

  -- the test of the mark says whether the edition allows the element in the line's form
  standing : (k whole : ℕ) → start.args.word ≡ get_or packed k 0 → eqb (line k).kind kinds.cert_req_id ≡ false → (b : Bool)
      → (not (eqb c.mark_of-mark.result 0) && not (eqb (c.mark_of-mark.result / codes.edition) start.args.edition)) ≡ b
      → may_stand start.args.edition (line k) start.args.content.now whole ≡ not b
  standing k whole e short b test =
      stands_by _ k whole _ short ∙ reads k _ _ _ (sym (c.mark_of-mark.ensures k e)) ∙ ap not test

pub returns-then-mark-edition : goal.returns-then-mark-edition
returns-then-mark-edition c k whole e short ends = refuse_wrong _ k whole _ _ _ (standing (goal.at.returns-then-mark-edition c).After-mark_of-mark k whole e short true c.if-mark-edition.true)

-- after the reading of the inside
module _ (c : After-inside_of) where
  abbrev marked : After-mark_of-mark
  marked = (goal.at.After-inside_of c).After-mark_of-mark

  abbrev word : ℕ
  word = marked.args.word

  -- it is the line's, the value says how to go on, and the edition allows the element in the line's form
  inside : (k : ℕ) → word ≡ get_or packed k 0 → c.inside_of.result ≡ (line k).inside
  inside k e = c.inside_of.ensures ∙ ap inside_field e ∙ inside_at k

  says : (k : ℕ) → word ≡ get_or packed k 0
      → judged (line k).judge (line k).next marked.args.content.now ≡ Ok c.in_ok-next.next
  says k e = sym (c.judge_value.ensures k e) ∙ goes_on c.judge_value.result _ (sym c.ok.ensures.value ∙ c.in_ok-next.was)

  stood : (k whole : ℕ) → word ≡ get_or packed k 0 → eqb (line k).kind kinds.cert_req_id ≡ false
      → may_stand marked.args.edition (line k) marked.args.content.now whole ≡ true
  stood k whole e short = standing marked k whole e short false c.if-mark-edition.false

pub returns-then-inside_of-ne-FREE : goal.returns-then-inside_of-ne-FREE
returns-then-inside_of-ne-FREE c k whole e short ends =
    let d = (goal.at.returns-then-inside_of-ne-FREE c).After-inside_of in
    let lined = ne_eqb _ _ (λ z. c.if-inside_of-ne-FREE.true (inside d k e ∙ z)) in
    descend _ k whole _ _ _ (stood d k whole e short) _ (says d k e) lined (ends lined)

pub returns-in_err-next : goal.returns-in_err-next
returns-in_err-next c k whole e short ends =
    let (d, is) = breaks c.judge_value.result (sym c.ok.ensures.value ∙ c.in_err-next.was) in
    rw c.from_residual.ensures (refuse_breaks _ k whole _ _ _ d (sym (c.judge_value.ensures k e) ∙ is))

pub returns : goal.returns
returns c k whole e short ends =
    let d = (goal.at.returns c).After-inside_of in
    subst (VisitJustified _ k whole _ _ _) (sym c.skip_or_refuse.ensures)
    (skip_whole _ k whole _ _ _ (stood d k whole e short) _ (says d k e) (eq-eqb _ _ (sym (inside d k e) ∙ c.if-inside_of-ne-FREE.false)) _
    (sym c.is_element.ensures))
