-- `crmf::grammar::value::keeps` meets its contract: each arm's code is one rule's, and any other code is the last rule's. Assumes nothing.
use Prim.Native.Nat.{ℕ, ◌≤◌, zero-le, ◌<◌}
use mathlib.Core.Bool.{not, ◌&&◌}
use mathlib.Core.Path.{◌≡◌, sym, ap, ap₂, ◌∙◌}
use mathlib.Core.Option.{Option, some, none}
use lib.Arith.{lt_of_le-ne}
use Rattle.std.specs.Prelude.{is_some}
use Rattle.time.specs.steps.Moments.{as_option}
use Rattle.time.proofs.Laws.{some_told, none_told}
use Rattle.crmf.specs.meaning.Value.{is_empty, is_shown, always, integer, boolean, bit_string, empty, zero_or_one, true_only, utc_time, generalized_time_from2050, some_forwards, never, keeps}
use Rattle.crmf.specs.steps.grammar.Lines.{keep}
use Rattle.crmf.specs.steps.grammar.Packed.{judge_code}
use Rattle.crmf.proofs.theorems.lines.JudgeCodes.{same_rule, last_rule}
use Rattle.crmf.proofs.grammar.value.keeps.Goals as goal
use Rattle.crmf.proofs.grammar.value.keeps.Goals.{In_default}

pub returns-in-0 : goal.returns-in-0
unfolding keeps judge_code
returns-in-0 c x e = rw (same_rule x always (e ∙ c.in-0.is))

pub returns-in-1 : goal.returns-in-1
unfolding keeps judge_code
returns-in-1 c x e = rw (same_rule x integer (e ∙ c.in-1.is)) c.integer.ensures

pub returns-in-2 : goal.returns-in-2
unfolding keeps judge_code
returns-in-2 c x e = rw (same_rule x boolean (e ∙ c.in-2.is)) c.boolean.ensures

pub returns-in-3 : goal.returns-in-3
unfolding keeps judge_code
returns-in-3 c x e = rw (same_rule x bit_string (e ∙ c.in-3.is)) c.bit_string.ensures

pub returns-in-4 : goal.returns-in-4
unfolding keeps judge_code is_empty
returns-in-4 c x e = rw (same_rule x empty (e ∙ c.in-4.is)) c.is_empty.ensures

pub returns-in-5 : goal.returns-in-5
unfolding keeps judge_code
returns-in-5 c x e = rw (same_rule x zero_or_one (e ∙ c.in-5.is)) c.is_up_to.ensures

pub returns-in-6 : goal.returns-in-6
unfolding keeps judge_code
returns-in-6 c x e = rw (same_rule x true_only (e ∙ c.in-6.is)) c.is_true.ensures

-- what the check of a time answers says whether a moment is shown
shown : (o : Option ℕ) → is_some (as_option o) ≡ is_shown o
unfolding is_shown
shown none = ap is_some none_told
shown (some n) = ap is_some (some_told n)

pub returns-in-7 : goal.returns-in-7
unfolding keeps judge_code
returns-in-7 c x e = rw (same_rule x utc_time (e ∙ c.in-7.is)) (c.is_some.ensures ∙ ap is_some c.utc_time.ensures ∙ shown _)

pub returns-in-8 : goal.returns-in-8
unfolding keeps judge_code
returns-in-8 c x e = rw (same_rule x generalized_time_from2050 (e ∙ c.in-8.is)) (c.is_some-in-8.ensures ∙ ap is_some c.generalized_time.ensures ∙ shown _)

pub returns-in-9 : goal.returns-in-9
unfolding keeps judge_code is_empty
returns-in-9 c x e =
    rw (same_rule x some_forwards (e ∙ c.in-9.is)) (ap₂ ◌&&◌ (ap not c.is_empty-in-9.ensures) c.forwards.ensures)

-- what is at least n and not n is above n
up : {n k : ℕ} → n ≤ k → (k ≡ n → ⊥) → n < k
up h f = lt_of_le-ne h (λ e. f (sym e))

-- no code below the last rule's is left, from the bottom up
above : (c : In_default) → judge_code (keep never) ≤ c.args.code
unfolding judge_code
above c =
    let r = c.in_default.in_default-own.rest in
    let s = r.0.0.0.0.0 in
    let five = up (up (up (up (up zero-le s.0.0.0.0.1) s.0.0.0.1) s.0.0.1) s.0.1) s.1 in
    up (up (up (up (up five r.0.0.0.0.1) r.0.0.0.1) r.0.0.1) r.0.1) r.1

pub returns-in_default : goal.returns-in_default
unfolding keeps judge_code
returns-in_default c x e = rw (last_rule x (rw e (above c)))
