-- The answer by the recogniser: acceptance exactly of what it recognises, with the rows it counts. Assumes nothing.
use Prim.Native.Nat.{ℕ}
use native.Mathlib.Omega.{arith}
use mathlib.Core.Logic.{◌↔◌}
use mathlib.Core.Path.{◌≡◌, refl, sym, ap, ◌∙◌}
use mathlib.Core.Bool.{Bool, true, false, not, ◌&&◌}
use mathlib.Core.List.{List}
use lib.Dec.{eqb}
use lib.ListN.{length}
use borrow.Author.Tests.{eqb-true}
use Rattle.der.specs.meaning.Refusal.{accepted as acceptance}
use Rattle.der.specs.steps.Nest.{End}
use Rattle.der.specs.meaning.Octets.{Octets}
use Rattle.der.proofs.Laws.{walk_tree}
use Rattle.std.specs.Prelude.{Option, Some, None}
use Rattle.crmf.specs.steps.rows.Fill.{fits}
use Rattle.crmf.specs.steps.recognise.Count.{recognised, recognised_table}
use Rattle.crmf.proofs.Laws.{not_recognised, recognised_walk, walk_recognised, recognised_fills, fits_room}
use Rattle.editions.specs.meaning.Answer.{Answer}
use Rattle.editions.specs.steps.Reading.{accepted, answer, read_answer, table_after}
use Rattle.editions.specs.steps.OneWalk.{shown_answer}
use Rattle.editions.proofs.theorems.Answers.{in_range, passed_accepted, one_element}
use Rattle.editions.proofs.theorems.Accepting.{batch_inverse}
use Rattle.editions.proofs.theorems.OneElement.{late_accepted, one_whole}
use Rattle.editions.proofs.theorems.OneWalk.{edition, batch_passed}
use Rattle.editions.proofs.theorems.Tables.{read_short, read_accepted}

-- An input that is recognised with n rows is accepted with them.
pub recognised_accepted : (e : ℕ) (s : List ℕ) → (not (eqb e 1) && not (eqb e 2)) ≡ false → (n : ℕ) → recognised e s ≡ Some n → accepted n ≡ answer e s
recognised_accepted e s known n is =
    let ed = edition e (in_range e s known).0 (in_range e s known).1 in
    let q = recognised_walk ed s n is in
    ap accepted (sym q.rows) ∙ passed_accepted e _ _ q.seen refl refl q.clear q.short
    ∙ batch_passed ed s q.fits q.seen q.passed
    ∙ one_element e s known q.fits (length s) q.ends (omega arith)

-- An input that isn't recognised is not accepted.
pub unrecognised_refused : (e : ℕ) (s : List ℕ) → Octets s → recognised e s ≡ None → (answer e s).number ≡ acceptance → ⊥
unrecognised_refused e s octets none zero =
    let one = one_whole e s octets (late_accepted zero) in
    let (r, (passed, fit)) = batch_inverse e s (ap (λ (a : Answer). a.number) (sym one.same) ∙ zero) in
    let within = ((walk_tree s one.end octets one.short).0 one.ends).within in
    let whole : one.end ≡ length s = omega (arith, one.last, within) in
    let (n, is) = walk_recognised e s (one.ends ∙ ap End whole) r passed (eqb-true _ 0 fit) in
    not_recognised (sym none ∙ is)

-- An input is recognised with n rows exactly if it is accepted with n rows.
pub recognised_exactly : (e : ℕ) (s : List ℕ) → (not (eqb e 1) && not (eqb e 2)) ≡ false → Octets s → (n : ℕ)
    → (recognised e s ≡ Some n) ↔ (answer e s ≡ accepted n)
recognised_exactly e s known octets n = (λ is. sym (recognised_accepted e s known n is), back (recognised e s) refl)
  where
    back : (r : Option ℕ) → recognised e s ≡ r → answer e s ≡ accepted n → recognised e s ≡ Some n
    back None none is = absurd (unrecognised_refused e s octets none (ap (λ (a : Answer). a.number) is))
    back (Some m) some is = some ∙ ap Some (ap (λ (a : Answer). a.count) (recognised_accepted e s known m some ∙ is))

-- The answer and the table of reading an input that is recognised.
pub recognised_shown : (e : ℕ) (s old : List ℕ) → Octets s → (not (eqb e 1) && not (eqb e 2)) ≡ false → (n : ℕ) → recognised e s ≡ Some n
    → (shown_answer n (length old) ≡ read_answer e s old) × (recognised_table e s old ≡ table_after e s old)
recognised_shown e s old octets known n is = go (fits n old) refl
  where
    same : accepted n ≡ answer e s
    same = recognised_accepted e s known n is

    go : (b : Bool) → fits n old ≡ b → (shown_answer n (length old) ≡ read_answer e s old) × (recognised_table e s old ≡ table_after e s old)
    go true enough =
        let (answered, after) = read_accepted e s old (accepted n) same refl octets enough in
        (rw (shown_answer, sym (fits_room n old) ∙ enough) answered, sym (recognised_fills e s old n is) ∙ after)
    go false few =
        let (answered, after) = read_short e s old (accepted n) same refl few in
        (rw (shown_answer, sym (fits_room n old) ∙ few) answered, sym (recognised_fills e s old n is) ∙ after)
