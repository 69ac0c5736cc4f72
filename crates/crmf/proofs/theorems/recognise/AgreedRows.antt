-- Whether an input is a batch whose rows agree with a draft's, by the comparison and the count. Assumes nothing.
use Prim.Native.Nat.{ℕ}
use mathlib.Core.Path.{◌≡◌, refl, sym, ap}
use mathlib.Core.Bool.{Bool, true, false, ◌&&◌, and-eq-true_iff, false≢true}
use mathlib.Core.List.{List}
use Rattle.std.specs.Prelude.{Option, Some, None}
use Rattle.crmf.specs.steps.rows.Agree.{draft_rows, agree}
use Rattle.crmf.specs.steps.rows.Fill.{rows_of_input}
use Rattle.crmf.specs.steps.recognise.Count.{recognised, is_recognised, agreed}

-- a recognition is one exactly with a count of rows
by_answer : (r : Option ℕ) → is_recognised r ≡ true → (n : ℕ) × (r ≡ Some n)
by_answer (Some n) is = (n, refl)
by_answer None is = absurd (false≢true is)

module _ (e : ℕ) (s draft : List ℕ) (inPlace : Bool) where
  -- other rows decide; if the rows agree, the count does
  pub agreed_not : agree inPlace (draft_rows draft) (rows_of_input s) ≡ false → false ≡ agreed e s draft inPlace
  unfolding agreed
  agreed_not other = sym (ap (λ (b : Bool). b && is_recognised (recognised e s)) other)

  pub agreed_judged : agree inPlace (draft_rows draft) (rows_of_input s) ≡ true → is_recognised (recognised e s) ≡ agreed e s draft inPlace
  unfolding agreed
  agreed_judged same = sym (ap (λ (b : Bool). b && is_recognised (recognised e s)) same)

  -- so both hold of an input that agrees
  pub agreed_both : agreed e s draft inPlace ≡ true → (agree inPlace (draft_rows draft) (rows_of_input s) ≡ true) × ((n : ℕ) × (recognised e s ≡ Some n))
  unfolding agreed
  agreed_both is =
      let both = (and-eq-true_iff (agree inPlace (draft_rows draft) (rows_of_input s)) (is_recognised (recognised e s))).0 is in
      (both.0, by_answer (recognised e s) both.1)

  pub agreed_all : (n : ℕ) → agree inPlace (draft_rows draft) (rows_of_input s) ≡ true → recognised e s ≡ Some n → agreed e s draft inPlace ≡ true
  unfolding agreed
  agreed_all n same is = (and-eq-true_iff (agree inPlace (draft_rows draft) (rows_of_input s)) (is_recognised (recognised e s))).1 (same, ap is_recognised is)
