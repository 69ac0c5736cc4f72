-- What judging two batches tells: whose refusal comes back, and what the relations say of it. Assumes nothing.
use Prim.Native.Nat.{ℕ}
use native.Mathlib.Omega.{arith}
use mathlib.Core.Path.{◌≡◌, ap, subst, sym}
use mathlib.Core.List.{List}
use lib.IntN.{ℤ}
use Rattle.std.specs.Prelude.{Result, Ok, Err, MatchResult}
use Rattle.der.specs.declared.refusal.Refused.{Refused}
use Rattle.der.specs.meaning.Refusal.{accepted}
use Rattle.der.specs.steps.Refusal.{refusal_number}
use Rattle.der.proofs.Laws.{some_refusal}
use Rattle.editions.specs.declared.pair.File.TheVariants.{First, Second}
use Rattle.editions.specs.declared.pair.PairRefused.{PairRefused}
use Rattle.editions.specs.meaning.Answers.{Answers}
use Rattle.editions.specs.meaning.TwoBatches.{Accepted}
use Rattle.editions.specs.steps.Results.{answer_of, file_number}
use Rattle.compare.specs.meaning.Compares as whole
use Rattle.compare.specs.meaning.Parts as parts
use Rattle.compare.specs.steps.Judging.{Refuses, of_first, of_second}

module _ {e : ℕ} {s : List ℕ} where
  -- the count of a batch that isn't refused
  pub count_told : (r : Result ℕ Refused) (n : ℕ) → MatchResult r (λ m. ◌≡◌ {A = Result ℕ PairRefused} (Ok n) (Ok m)) (λ d. ⊥)
      → (let a = answer_of r in Answers e s a.number a.place a.count) → Answers e s accepted 0 n
  count_told (Ok m) n is answered = subst (Answers e s accepted 0) (sym (ap counted is)) answered
    where
      counted : Result ℕ PairRefused → ℕ
      counted (Ok k) = k
      counted (Err why) = 0
  count_told (Err d) n is answered = absurd is

module _ {e : ℕ} {first second : List ℕ} where
  -- a refusal of the first, and of the second
  pub first_told : (r : Result ℕ Refused) (why : PairRefused) → MatchResult r (λ n. ◌≡◌ {A = Result ℕ PairRefused} (Err why) (Ok n)) (λ d. why ≡ record { refused = d; file = First })
      → (let a = answer_of r in Answers e first a.number a.place a.count) → Refuses e first second why
  first_told (Ok n) why is answered = let z : ◌≡◌ {A = ℕ} 0 1 = cc in absurd (omega arith)
  first_told (Err d) why is answered = rw is (of_first answered)

  pub second_told : Accepted e first → (r : Result ℕ Refused) (why : PairRefused)
      → MatchResult r (λ n. ◌≡◌ {A = Result ℕ PairRefused} (Err why) (Ok n)) (λ d. why ≡ record { refused = d; file = Second })
      → (let a = answer_of r in Answers e second a.number a.place a.count) → Refuses e first second why
  second_told one (Ok n) why is answered = let z : ◌≡◌ {A = ℕ} 0 1 = cc in absurd (omega arith)
  second_told one (Err d) why is answered = rw is (of_second one answered)

  -- what a refusal says of comparing, and of finding a part
  pub compare_refused : {list : List ℤ} {why : PairRefused} → Refuses e first second why
      → whole.Compares e first second list (refusal_number why.refused.refusal) why.refused.place (file_number why.file) 0 list
  compare_refused (of_first {r = r} answered) = whole.first_refused answered (some_refusal r.refusal)
  compare_refused (of_second {r = r} one answered) = whole.second_refused one answered (some_refusal r.refusal)

  pub part_refused : {n : ℕ} {why : PairRefused} → Refuses e first second why
      → parts.Finds e first second n (refusal_number why.refused.refusal) why.refused.place (file_number why.file) 0 0
  part_refused (of_first {r = r} answered) = parts.first_refused answered (some_refusal r.refusal)
  part_refused (of_second {r = r} one answered) = parts.second_refused one answered (some_refusal r.refusal)
