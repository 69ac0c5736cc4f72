-- What a value says, by the code of its line's judge: rules have codes below 16, selectors from 16 on. Assumes nothing.
use Prim.Native.Nat.{ℕ, ◌+◌, ◌≤◌, ◌<◌}
use mathlib.Core.Path.{◌≡◌, refl, sym, ap, ◌∙◌}
use mathlib.Core.Bool.{Bool, true, false}
use mathlib.Core.List.{List}
use mathlib.Core.Option.{get_or}
use native.Mathlib.Omega.{arith}
use Rattle.std.specs.Prelude.{Some, None, Err, Ok}
use Rattle.time.specs.steps.Moments.{as_option}
use Rattle.time.proofs.Laws.{told_some, told_none}
use Rattle.crmf.specs.steps.grammar.Codes as codes
use Rattle.crmf.specs.meaning.Value.{Rule, keeps, Selector, selected}
use Rattle.crmf.specs.steps.grammar.Lines.{Judge, keep, choose}
use Rattle.crmf.specs.steps.grammar.Packed.{judge_code}
use Rattle.crmf.specs.steps.explain.Walk.{line, rule_detail, ways, judged}
use Rattle.crmf.specs.steps.rows.Fill.{goes}
use Rattle.crmf.proofs.theorems.lines.JudgeCodes.{rule_range, selector_range}

-- what is said by the answers of the functions for a rule's code
module _ (next code : ℕ) (c : List ℕ) (rule : code < codes.selectors) where
  pub kept : (j : Judge) → judge_code j ≡ code → (r : Bool) → ((x : Rule) → judge_code (keep x) ≡ code → r ≡ keeps x c) → r ≡ true
      → Ok next ≡ judged j next c
  unfolding judged
  kept (keep x) e r f t = let k : keeps x c ≡ true = sym (f x e) ∙ t in rw (judged, k)
  kept (choose s) e r f t = absurd (omega (arith, selector_range s))

  pub lost : (j : Judge) → judge_code j ≡ code → (r : Bool) → ((x : Rule) → judge_code (keep x) ≡ code → r ≡ keeps x c) → r ≡ false
      → (d : ℕ) → ((x : Rule) → judge_code (keep x) ≡ code → d ≡ rule_detail x c) → Err d ≡ judged j next c
  unfolding judged
  lost (keep x) e r f t d g = let k : keeps x c ≡ false = sym (f x e) ∙ t in rw (judged, k, g x e)
  lost (choose s) e r f t d g = absurd (omega (arith, selector_range s))

-- and for a selector's
module _ (next code : ℕ) (c : List ℕ) (selector : codes.selectors ≤ code) where
  pub selects : (w : ℕ) → ((s : Selector) → judge_code (choose s) ≡ code → Some w ≡ as_option (selected s c))
      → (j : Judge) → judge_code j ≡ code → Ok (line (next + w)).next ≡ judged j next c
  unfolding judged
  selects w way (keep x) e = absurd (omega (arith, rule_range x))
  selects w way (choose s) e = rw (judged, told_some _ _ w (way s e) refl)

  pub selects_none : ((s : Selector) → judge_code (choose s) ≡ code → None ≡ as_option (selected s c))
      → (j : Judge) → judge_code j ≡ code → Err 3 ≡ judged j next c
  unfolding judged
  selects_none way (keep x) e = absurd (omega (arith, rule_range x))
  selects_none way (choose s) e = rw (judged, told_none _ _ (way s e) refl)

-- the line to go on with, by the answers of the functions for a rule's code and for a selector's
pub goes_on : (next code : ℕ) (c : List ℕ) → code < codes.selectors → (j : Judge) → judge_code j ≡ code → next ≡ goes j next c
unfolding goes
goes_on next code c rule (keep x) e = refl
goes_on next code c rule (choose s) e = absurd (omega (arith, selector_range s))

pub goes_by : (next code : ℕ) (c : List ℕ) → codes.selectors ≤ code → (w : ℕ) → ((s : Selector) → judge_code (choose s) ≡ code → w ≡ get_or (selected s c) (ways s))
    → (j : Judge) → judge_code j ≡ code → (line (next + w)).next ≡ goes j next c
unfolding goes
goes_by next code c selector w way (keep x) e = absurd (omega (arith, rule_range x))
goes_by next code c selector w way (choose s) e = ap (λ (v : ℕ). (line (next + v)).next) (way s e)
