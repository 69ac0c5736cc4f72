-- A judge's code tells which judge it is: the rules are listed in the order of their codes, and the selectors in that of theirs. Assumes nothing.
use Prim.Native.Nat.{ℕ, ◌-◌, ◌≤◌, ◌<◌}
use mathlib.Core.Bool.{false}
use mathlib.Core.List.{List, [], ◌∷◌}
use mathlib.Core.Path.{◌≡◌, refl, sym, ap, ◌∙◌}
use lib.Dec.{lit≤}
use lib.ListN.{get_or, get_or-eq_default}
use Rattle.crmf.specs.steps.grammar.Codes as codes
use Rattle.crmf.specs.meaning.Value.{Rule, always, integer, boolean, bit_string, empty, zero_or_one, true_only, utc_time, generalized_time_from2050, some_forwards, never}
use Rattle.crmf.specs.meaning.Value.{is_empty, Selector, action, method, control_type, info_type}
use Rattle.crmf.specs.steps.grammar.Lines.{keep, choose}
use Rattle.crmf.specs.steps.grammar.Packed.{judge_code}
use Rattle.crmf.specs.steps.explain.Walk.{rule_detail}

-- the rules in the order of their codes, but the last
rules : List Rule
rules =
    always ∷ integer ∷ boolean ∷ bit_string ∷ empty ∷ zero_or_one ∷ true_only ∷ utc_time ∷ generalized_time_from2050 ∷ some_forwards ∷ []

listed : (x : Rule) → get_or rules (judge_code (keep x)) never ≡ x
unfolding rules judge_code
listed always = refl
listed integer = refl
listed boolean = refl
listed bit_string = refl
listed empty = refl
listed zero_or_one = refl
listed true_only = refl
listed utc_time = refl
listed generalized_time_from2050 = refl
listed some_forwards = refl
listed never = refl

pub same_rule : (x y : Rule) → judge_code (keep x) ≡ judge_code (keep y) → x ≡ y
same_rule x y e = sym (listed x) ∙ ap (λ (k : ℕ). get_or rules k never) e ∙ listed y

pub last_rule : (x : Rule) → judge_code (keep never) ≤ judge_code (keep x) → x ≡ never
unfolding rules judge_code
last_rule x h = sym (listed x) ∙ get_or-eq_default rules never h

selectors : List Selector
selectors = action ∷ method ∷ control_type ∷ []

selector_listed : (s : Selector) → get_or selectors (judge_code (choose s) - codes.selectors) info_type ≡ s
unfolding selectors judge_code
selector_listed action = refl
selector_listed method = refl
selector_listed control_type = refl
selector_listed info_type = refl

pub same_selector : (s t : Selector) → judge_code (choose s) ≡ judge_code (choose t) → s ≡ t
same_selector s t e =
    sym (selector_listed s) ∙ ap (λ (k : ℕ). get_or selectors (k - codes.selectors) info_type) e ∙ selector_listed t

-- a rule's code is below the selectors', and a selector's is not
pub rule_range : (x : Rule) → judge_code (keep x) < codes.selectors
unfolding judge_code
rule_range always = lit≤ tt
rule_range integer = lit≤ tt
rule_range boolean = lit≤ tt
rule_range bit_string = lit≤ tt
rule_range empty = lit≤ tt
rule_range zero_or_one = lit≤ tt
rule_range true_only = lit≤ tt
rule_range utc_time = lit≤ tt
rule_range generalized_time_from2050 = lit≤ tt
rule_range some_forwards = lit≤ tt
rule_range never = lit≤ tt

pub selector_range : (s : Selector) → (codes.selectors ≤ judge_code (choose s)) × (judge_code (choose s) ≤ judge_code (choose info_type))
unfolding judge_code
selector_range action = (lit≤ tt, lit≤ tt)
selector_range method = (lit≤ tt, lit≤ tt)
selector_range control_type = (lit≤ tt, lit≤ tt)
selector_range info_type = (lit≤ tt, lit≤ tt)

-- the detail of what breaks a rule, but for an empty validity and a list beside action 0
pub other_detail : (x : Rule) (c : List ℕ) → (judge_code (keep x) ≡ judge_code (keep some_forwards) → is_empty c ≡ false) → (judge_code (keep x) ≡ judge_code (keep never) → ⊥)
    → 3 ≡ rule_detail x c
unfolding judge_code
other_detail always c a b = refl
other_detail integer c a b = refl
other_detail boolean c a b = refl
other_detail bit_string c a b = refl
other_detail empty c a b = refl
other_detail zero_or_one c a b = refl
other_detail true_only c a b = refl
other_detail utc_time c a b = refl
other_detail generalized_time_from2050 c a b = refl
other_detail some_forwards c a b = rw (rule_detail, a refl)
other_detail never c a b = absurd (b refl)
