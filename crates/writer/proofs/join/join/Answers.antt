-- `writer::join::join` meets its contract: the first's refusal, the second's, or what is answered of the batch around both contents. Assumes
-- nothing.
use Prim.Native.Nat.{ℕ, ◌≤◌}
use native.Mathlib.Omega.{arith}
use mathlib.Core.Bool.{true}
use mathlib.Core.Path.{◌≡◌, refl, sym, ap, ap₂, ◌∙◌}
use mathlib.Core.List.{List}
use lib.ListN.{length, drop, length-drop}
use Rattle.std.specs.Prelude.{Result, Ok, Err, MatchResult}
use Rattle.std.specs.Result.{IsErrAnd, is_ok}
use Rattle.std.proofs.lemmas.Result.{err_from_is_err_and}
use Rattle.der.specs.declared.refusal.Refused.{Refused}
use Rattle.der.specs.meaning.Bounds.{longest}
use Rattle.der.specs.steps.Reading.{reading_at}
use Rattle.editions.specs.declared.pair.File.TheVariants.{Neither, First, Second}
use Rattle.editions.specs.declared.pair.PairRefused.{PairRefused}
use Rattle.editions.specs.meaning.Answers.{Answers}
use Rattle.editions.specs.meaning.TwoBatches.{Accepted, neither_file}
use Rattle.editions.specs.steps.Results.{answer_of, pair_answer_of}
use Rattle.editions.proofs.Laws.{taken}
use Rattle.writer.specs.meaning.Joins.{Joins, first_refused, second_refused}
use Rattle.writer.specs.steps.Around.{around_answer, around_output}
use Rattle.writer.proofs.theorems.JoinsExactly.{join_says}
use Rattle.der.proofs.Laws.{some_refusal}
use Rattle.writer.proofs.join.join.Goals as goal

-- what is answered of a batch that isn't refused
accepts : {e : ℕ} {s : List ℕ} (r : Result ℕ Refused) → is_ok r ≡ true → (let a = answer_of r in Answers e s a.number a.place a.count) → Accepted e s
accepts (Ok n) is answered = taken answered refl
accepts (Err d) is answered = let z : ◌≡◌ {A = ℕ} 0 1 = cc in absurd (omega arith)

-- what the relation says is said of the call's result
abbrev Says : (e : ℕ) (first second old : List ℕ) → Result ℕ PairRefused → List ℕ → Type 0
Says e first second old r new = let a = pair_answer_of r in Joins e first second old a.number a.place a.file a.count new

module _ {e : ℕ} {first second old : List ℕ} where
  first_told : (r : Result ℕ Refused) (why : PairRefused) → MatchResult r (λ n. ◌≡◌ {A = Result ℕ PairRefused} (Err why) (Ok n)) (λ d. why ≡ record { refused = d; file = First })
      → (let a = answer_of r in Answers e first a.number a.place a.count) → Says e first second old (Err why) old
  first_told (Ok n) why is answered = let z : ◌≡◌ {A = ℕ} 0 1 = cc in absurd (omega arith)
  first_told (Err d) why is answered = rw is (first_refused answered (some_refusal d.refusal))

  second_told : Accepted e first → (r : Result ℕ Refused) (why : PairRefused)
      → MatchResult r (λ n. ◌≡◌ {A = Result ℕ PairRefused} (Err why) (Ok n)) (λ d. why ≡ record { refused = d; file = Second })
      → (let a = answer_of r in Answers e second a.number a.place a.count) → Says e first second old (Err why) old
  second_told one (Ok n) why is answered = let z : ◌≡◌ {A = ℕ} 0 1 = cc in absurd (omega arith)
  second_told one (Err d) why is answered = rw is (second_refused one answered (some_refusal d.refusal))

  both_told : {new : List ℕ} (r : Result ℕ Refused) (m : Result ℕ PairRefused)
      → MatchResult r (λ n. m ≡ Ok n) (λ d. IsErrAnd m (λ why. why ≡ record { refused = d; file = Neither }))
      → (let a = answer_of r in Joins e first second old a.number a.place neither_file a.count new) → Says e first second old m new
  both_told (Ok n) m is says = rw is says
  both_told (Err d) (Ok n) is says = absurd is
  both_told (Err d) (Err why) is says = rw is says

pub returns-in_err-map_err : goal.returns-in_err-map_err
returns-in_err-map_err c =
    let p = err_from_is_err_and c.from_residual.result c.from_residual.ensures.1 in
    rw (p.1, p.2) (first_told c.accept.result c.in_err-map_err.field-0.0 c.in_err-map_err.ensures.cases c.accept.ensures)

pub returns-in_err-map_err-2 : goal.returns-in_err-map_err-2
returns-in_err-map_err-2 c =
    let one = accepts c.accept.result (sym c.in_ok-map_err.ensures.variant) c.accept.ensures in
    let p = err_from_is_err_and c.from_residual-in_err-map_err-2.result c.from_residual-in_err-map_err-2.ensures.1 in
    rw (p.1, p.2) (second_told one c.accept-2.result c.in_err-map_err-2.field-0.0 c.in_err-map_err-2.ensures.cases c.accept-2.ensures)

pub content-requires : goal.content-requires
content-requires c = (accepts c.accept.result (sym c.in_ok-map_err.ensures.variant) c.accept.ensures).batch.short

pub content-requires-2 : goal.content-requires-2
content-requires-2 c = (accepts c.accept-2.result (sym c.in_ok-map_err-2.ensures.variant) c.accept-2.ensures).batch.short

-- what comes after the first bytes of a batch isn't too long
part_short : (s : List ℕ) (n : ℕ) {r : List ℕ} → r ≡ drop n s → length s ≤ longest → length r ≤ longest
part_short s n {r} same short = omega (arith, ap length same, length-drop n s)

pub put_around-requires : goal.put_around-requires
put_around-requires c =
    let first = c.args.first.now in
    let second = c.args.second.now in
    let one = accepts c.accept.result (sym c.in_ok-map_err.ensures.variant) c.accept.ensures in
    let two = accepts c.accept-2.result (sym c.in_ok-map_err-2.ensures.variant) c.accept-2.ensures in (
      part_short first (reading_at first 0 (length first)).content c.content.ensures one.batch.short,
      part_short second (reading_at second 0 (length second)).content c.content-2.ensures two.batch.short,
    )

pub returns : goal.returns
returns c =
    let one = accepts c.accept.result (sym c.in_ok-map_err.ensures.variant) c.accept.ensures in
    let two = accepts c.accept-2.result (sym c.in_ok-map_err-2.ensures.variant) c.accept-2.ensures in
    let old = c.args.output.now in
    let same = c.content.ensures in
    let also = c.content-2.ensures in
    both_told c.put_around.result c.map_err-3.result c.map_err-3.ensures.cases
    (join_says one two old c.put_around.new.output (answer_of c.put_around.result)
    (c.put_around.ensures.0 ∙ ap₂ (λ (l r : List ℕ). around_answer l r old) same also)
    (c.put_around.ensures.1 ∙ ap₂ (λ (l r : List ℕ). around_output l r old) same also))
