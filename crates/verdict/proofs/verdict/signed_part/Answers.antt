-- `verdict::verdict::signed_part` meets its contract: the part always lies within the bytes. Assumes nothing.
use Prim.Native.Nat.{◌+◌, ◌≤◌}
use native.Mathlib.Nat.{add-sub_cancel_left}
use native.Mathlib.Omega.{arith}
use mathlib.Core.Path.{refl, subst}
use lib.ListN.{length}
use Rattle.std.specs.Prelude.{Option, Some, None}
use Rattle.der.specs.meaning.Refusal.{accepted}
use Rattle.der.proofs.Laws.{take_drop, octets_each}
use Rattle.verdict.specs.declared.verdict.Extent.{Extent}
use Rattle.verdict.specs.steps.Answer.{Verdict}
use Rattle.verdict.specs.meaning.Judges.{Judges}
use Rattle.verdict.specs.steps.Judging.{told, bare}
use Rattle.verdict.specs.steps.Results.{number_of}
use Rattle.verdict.proofs.theorems.verdict.Verdicts.{part_within}
use Rattle.verdict.proofs.theorems.verdict.JudgesExactly.{related_verdict}
use Rattle.verdict.proofs.verdict.signed_part.Goals as goal
use Rattle.verdict.proofs.verdict.signed_part.Goals.{In-Some}

-- what judging the proof has answered, by the part
judged : (c : In-Some) → let a = c.args in
    let part = c.in-Some.signed in
    Judges a.edition a.bytes.now a.position.0 accepted 0 (number_of c.in-Ok.found.verdict) part.from part.length
judged c =
    let a = c.args in
    let n = number_of c.in-Ok.found.verdict in
    let P : Option Extent → Type 0 = λ o.
    let v = elim o as (λ x. Verdict) [ Some part ↦ told n part | None ↦ bare n ] in
    Judges a.edition a.bytes.now a.position.0 v.number v.place v.verdict v.from v.length in
    subst P c.in-Some.is c.in-Ok.ensures

-- the part lies within the bytes
fits : (c : In-Some) → let part = c.in-Some.signed in part.from + part.length ≤ length c.args.bytes.now
fits c =
    let a = c.args in
    let octets = octets_each a.bytes.now (λ i. (c.type_inv.bytes i).fits) in
    let same = related_verdict a.edition a.bytes.now a.position.0 octets _ _ _ _ _ (judged c) in
    subst (λ (v : Verdict). v.from + v.length ≤ length a.bytes.now) same (part_within a.edition a.bytes.now a.position.0 octets)

pub overflow_add-end : goal.overflow_add-end
overflow_add-end c = omega (arith, fits (goal.at.overflow_add-end c).In-Some)

pub slice_bounds-result-end-2 : goal.slice_bounds-result-end-2
slice_bounds-result-end-2 c = omega (arith, fits (goal.at.slice_bounds-result-end-2 c).In-Some)

pub returns : goal.returns
returns c =
    let found = (goal.at.returns c).In-Some in
    let part = found.in-Some.signed in
    let s = found.args.bytes.now in
    record {
      number = _;
      place = _;
      verdict = _;
      from = part.from;
      size = part.length;
      answer = judged found;
      handed = record {
        octets = rw (add-sub_cancel_left part.from part.length) (take_drop part.length part.from s);
        block = refl;
        offset = omega arith;
      };
    }
