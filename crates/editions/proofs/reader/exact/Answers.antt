-- `editions::reader::exact` meets its contract: the refusals in document 01's order. Assumes nothing.
use native.Mathlib.Omega.{arith}
use Prim.Native.Nat.{ℕ, ◌≤◌}
use mathlib.Core.Path.{◌≡◌, refl, sym, ap, ◌∙◌}
use lib.ListN.{length}
use Rattle.std.specs.Prelude.{Result, Ok, Err, MatchResult, IsErrAnd}
use Rattle.std.proofs.Common.{rules}
use Rattle.std.proofs.lemmas.Result.{err_from_is_err_and}
use Rattle.der.specs.declared.explain.Fault.{Fault}
use Rattle.der.specs.declared.refusal.Refused.{Refused}
use Rattle.der.specs.meaning.Bounds.{longest}
use Rattle.der.specs.steps.Explain.{walk_at}
use Rattle.der.specs.steps.Nest.{nest_of}
use Rattle.der.proofs.Laws.{octets_each, explained_walk}
use Rattle.editions.specs.steps.Results.{edition_number}
use Rattle.editions.proofs.theorems.Answers.{too_long, nest_fault, bytes_after, one_element}
use Rattle.editions.proofs.theorems.Results.{known_number}
use Rattle.editions.proofs.reader.exact.Goals as goal
use Rattle.editions.proofs.reader.exact.Goals.{After-map_err}

pub returns-then-bytes-gt-LONGEST : goal.returns-then-bytes-gt-LONGEST
returns-then-bytes-gt-LONGEST c =
    let k = c.args.edition in
    too_long (edition_number k) c.args.bytes.now (known_number k) c.if-bytes-gt-LONGEST.true

-- a refusal is made of a fault, and an end stays
of_fault : (r : Result ℕ Fault) (m : Result ℕ Refused) (P : Fault → Refused → Type 0) → MatchResult r (λ x. m ≡ Ok x) (λ e. IsErrAnd m (P e))
    → (d : Refused) → m ≡ Err d → (e : Fault) × (r ≡ Err e) × P e d
of_fault (Ok x) m P same d is = absurd (cc)
of_fault (Err e) m P some d is = (e, refl, rw is at some)

of_end : (r : Result ℕ Fault) (m : Result ℕ Refused) (P : Fault → Refused → Type 0) → MatchResult r (λ x. m ≡ Ok x) (λ e. IsErrAnd m (P e))
    → (x : ℕ) → m ≡ Ok x → r ≡ Ok x
of_end (Ok y) m P same x is = cc
of_end (Err e) m P some x is = absurd (rw is at some)

-- the input is short
short : (c : After-map_err) → length c.args.bytes.now ≤ longest
short c = omega arith

-- the walk over the nest answers what was explained
walks : (c : After-map_err) → let s = c.args.bytes.now in walk_at s 0 (length s) ≡ nest_of c.explain.result
walks c =
    let s = c.args.bytes.now in
    sym (explained_walk s (octets_each s (λ i. (c.type_inv.bytes i).fits)) 0 (length s) _ c.explain.ensures)

pub returns-in_err-end : goal.returns-in_err-end
returns-in_err-end c =
    let k = c.args.edition in
    let walked = (goal.at.returns-in_err-end c).After-map_err in
    let (fault, is, made) = of_fault _ _ _ c.map_err.ensures.cases _ c.in_err-end.was in
    let p = err_from_is_err_and c.from_residual.result c.from_residual.ensures.1 in
    let same : c.in_err-end.field-0.0 ≡ record { refusal = fault.refusal; place = fault.place } = search rules in
    rw (p.1, p.2, same)
    (nest_fault (edition_number k) c.args.bytes.now (known_number k) (short walked) _ _ _ (walks walked ∙ ap nest_of is))

pub returns-then-end-bytes : goal.returns-then-end-bytes
returns-then-end-bytes c =
    let k = c.args.edition in
    let walked = (goal.at.returns-then-end-bytes c).After-map_err in
    let is = of_end _ _ _ c.map_err.ensures.cases _ c.in_ok-end.was in
    bytes_after (edition_number k) c.args.bytes.now (known_number k) (short walked) _ (walks walked ∙ ap nest_of is) c.if-end-bytes.true

pub returns : goal.returns
returns c =
    let k = c.args.edition in
    let walked = (goal.at.returns c).After-map_err in
    let is = of_end _ _ _ c.map_err.ensures.cases _ c.in_ok-end.was in
    c.batch.ensures
    ∙ one_element (edition_number k) c.args.bytes.now (known_number k) (short walked) _ (walks walked ∙ ap nest_of is) c.if-end-bytes.false
