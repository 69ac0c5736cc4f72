-- `editions::reader::passed` meets its contract: a form of the opposite edition, a long certReqId, or neither. Assumes nothing.
use Prim.Native.Nat.{ℕ}
use mathlib.Core.Path.{◌≡◌, refl, sym, ap, ◌∙◌}
use native.Mathlib.Omega.{arith}
use Rattle.std.specs.Prelude.{Option, Some, None, is_none}
use Rattle.der.specs.meaning.Refusal.{long_cert_req_id}
use Rattle.crmf.specs.declared.explain.first.LongId.{LongId}
use Rattle.crmf.specs.steps.explain.Tally.{Tally, long_id_of, tally_of}
use Rattle.editions.specs.meaning.Edition.{opposite}
use Rattle.editions.specs.steps.OneWalk.{first_form}
use Rattle.editions.specs.steps.Reading.{refusal, eight_or_nine}
use Rattle.editions.specs.steps.Results.{edition_number}
use Rattle.editions.proofs.theorems.Answers.{met, unmet, none_met, passed_foreign, passed_long, passed_accepted}
use Rattle.editions.proofs.reader.passed.Goals as goal

-- the first form of the opposite edition
opposite_form : (e e' : ℕ) (t : Tally) (o o' : Option ℕ) → e' ≡ opposite e → o ≡ first_form e' t → o ≡ o' → first_form (opposite e) t ≡ o'
opposite_form e e' t o o' other is same = ap (λ (x : ℕ). first_form x t) (sym other) ∙ sym is ∙ same

pub returns-in-Some : goal.returns-in-Some
returns-in-Some c =
    let e = edition_number c.args.edition in
    let t = tally_of c.args.tally in
    let (some, place) = met (opposite e) t _ (opposite_form e _ t _ _ c.opposite.ensures c.first_form.ensures c.in-Some.is) in
    ap (λ (n : ℕ). refusal n c.in-Some.place) (c.stop.ensures ∙ ap eight_or_nine (ap is_none c.first_form-in-Some.ensures ∙ none_met e t))
    ∙ passed_foreign e _ _ t refl place _ refl some

-- a certReqId that was noted has a length
long_whole : (o : Option LongId) (l : LongId) → o ≡ Some l → (long_id_of o).whole ≡ 0 → ⊥
long_whole None l is none = absurd (cc)
long_whole (Some d) l is none = omega (arith, d.some, none)

pub returns-in-Some-long : goal.returns-in-Some-long
returns-in-Some-long c =
    let e = edition_number c.args.edition in
    let t = tally_of c.args.tally in
    let none = unmet (opposite e) t (opposite_form e _ t _ _ c.opposite.ensures c.first_form.ensures c.in_default.is) in
    ap (λ (o : Option LongId). refusal long_cert_req_id (long_id_of o).place) (sym c.in-Some-long.is)
    ∙ passed_long e _ _ t refl refl none (long_whole c.args.tally.long c.in-Some-long.long c.in-Some-long.is)

pub returns : goal.returns
returns c =
    let e = edition_number c.args.edition in
    let t = tally_of c.args.tally in
    let none = unmet (opposite e) t (opposite_form e _ t _ _ c.opposite.ensures c.first_form.ensures c.in_default.is) in
    passed_accepted e _ _ t refl refl none (ap (λ (o : Option LongId). (long_id_of o).whole) c.in_default-long.is)
