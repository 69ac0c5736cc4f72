-- The digits of a number stand for it, are digits and begin with 0 only for 0 itself. Assumes nothing.
use Prim.Native.Nat.{ℕ, zero, suc, ◌+◌, ◌-◌, ◌*◌, ◌/◌, ◌%◌, ◌≤◌, ◌<◌}
use native.Mathlib.Omega.{arith}
use native.Mathlib.Nat.{div-add-mod', div-lt_self}
use mathlib.Core.Path.{◌≡◌, refl, sym, ap, ◌∙◌}
use mathlib.Core.Bool.{Bool, true, false}
use mathlib.Core.List.{List, [], ◌∷◌, ◌++◌}
use lib.Dec.{ltb}
use lib.ListN.{get_or}
use borrow.Author.Tests.{ltb-true, ltb-false, lt-ltb, le-ltb}
use Rattle.format.specs.Decimal.{digit, digits_within, decimal, Digits, value_after, value}

tens_less : (n : ℕ) → 10 ≤ n → n / 10 < n
tens_less n large = div-lt_self (omega arith) (omega arith)

-- one digit, and more than one
within_small : (more n : ℕ) → n < 10 → digits_within more n ≡ digit n ∷ []
unfolding digits_within
within_small zero n small = refl
within_small (suc more) n small = rw (digits_within, lt-ltb n 10 small)

within_large : (more n : ℕ) → 10 ≤ n → digits_within (suc more) n ≡ digits_within more (n / 10) ++ (digit (n % 10) ∷ [])
unfolding digits_within
within_large more n large = rw (digits_within, le-ltb n 10 large)

-- a bound that is large enough doesn't count
same_step : (a b n : ℕ) → (10 ≤ n → digits_within a (n / 10) ≡ digits_within b (n / 10)) → (t : Bool) → ltb n 10 ≡ t
    → digits_within (suc a) n ≡ digits_within (suc b) n
same_step a b n tens true is = within_small (suc a) n (ltb-true n 10 is) ∙ sym (within_small (suc b) n (ltb-true n 10 is))
same_step a b n tens false is =
    let large = ltb-false n 10 is in
    within_large a n large ∙ ap (λ (l : List ℕ). l ++ (digit (n % 10) ∷ [])) (tens large) ∙ sym (within_large b n large)

same_within : (a b n : ℕ) → n ≤ a → n ≤ b → digits_within a n ≡ digits_within b n
same_within zero b n low high = within_small zero n (omega arith) ∙ sym (within_small b n (omega arith))
same_within (suc a) zero n low high = within_small (suc a) n (omega arith) ∙ sym (within_small zero n (omega arith))
same_within (suc a) (suc b) n low high =
    same_step a b n (λ large. let less = tens_less n large in same_within a b (n / 10) (omega arith) (omega arith)) _ refl

pub decimal_small : (n : ℕ) → n < 10 → decimal n ≡ digit n ∷ []
unfolding decimal
decimal_small n small = within_small n n small

pub decimal_large : (n : ℕ) → 10 ≤ n → decimal n ≡ decimal (n / 10) ++ (digit (n % 10) ∷ [])
unfolding decimal
decimal_large zero large = absurd (omega arith)
decimal_large (suc n) large =
    let less = tens_less (suc n) large in
    within_large n (suc n) large
    ∙ ap (λ (l : List ℕ). l ++ (digit (suc n % 10) ∷ [])) (same_within n (suc n / 10) (suc n / 10) (omega arith) (omega arith))

-- the number that digits stand for
after_last : (n c : ℕ) (digits : List ℕ) → value_after n (digits ++ (c ∷ [])) ≡ value_after n digits * 10 + (c - 0x30)
unfolding value_after
after_last n c [] = refl
after_last n c (d ∷ rest) = after_last (n * 10 + (d - 0x30)) c rest

one_digit : (n : ℕ) → digit n - 0x30 ≡ n
one_digit n = omega arith

first_digit : (n : ℕ) → value_after 0 (digit n ∷ []) ≡ n
unfolding value_after
first_digit n = omega arith

value_step : (more n : ℕ) → (10 ≤ n → value_after 0 (digits_within more (n / 10)) ≡ n / 10) → (t : Bool) → ltb n 10 ≡ t
    → value_after 0 (digits_within (suc more) n) ≡ n
unfolding value_after
value_step more n tens true is = ap (value_after 0) (within_small (suc more) n (ltb-true n 10 is)) ∙ first_digit n
value_step more n tens false is =
    let large = ltb-false n 10 is in
    ap (value_after 0) (within_large more n large) ∙ after_last 0 (digit (n % 10)) (digits_within more (n / 10))
    ∙ ap (λ (k : ℕ). k * 10 + (digit (n % 10) - 0x30)) (tens large) ∙ ap (λ (k : ℕ). n / 10 * 10 + k) (one_digit (n % 10)) ∙ div-add-mod' n 10

within_value : (more n : ℕ) → n ≤ more → value_after 0 (digits_within more n) ≡ n
unfolding value_after
within_value zero n low = ap (value_after 0) (within_small zero n (omega arith)) ∙ first_digit n
within_value (suc more) n low =
    value_step more n (λ large. let less = tens_less n large in within_value more (n / 10) (omega arith)) _ refl

-- the digits of a number, read, give the number
pub value_decimal : (n : ℕ) → value (decimal n) ≡ n
unfolding value decimal
value_decimal n = within_value n n (omega arith)

-- every character is a digit
digits_last : (digits : List ℕ) (d : ℕ) → Digits digits → d < 10 → Digits (digits ++ (digit d ∷ []))
digits_last [] d each small = (omega arith, omega arith, tt)
digits_last (c ∷ rest) d each small = (each.0, each.1, digits_last rest d each.2 small)

digits_step : (more n : ℕ) → (10 ≤ n → Digits (digits_within more (n / 10))) → (t : Bool) → ltb n 10 ≡ t → Digits (digits_within (suc more) n)
digits_step more n tens true is = rw (within_small (suc more) n (ltb-true n 10 is)) (digits_last [] n tt (ltb-true n 10 is))
digits_step more n tens false is =
    let large = ltb-false n 10 is in
    rw (within_large more n large) (digits_last (digits_within more (n / 10)) (n % 10) (tens large) (omega arith))

within_digits : (more n : ℕ) → n ≤ more → Digits (digits_within more n)
within_digits zero n low = rw (within_small zero n (omega arith)) (digits_last [] n tt (omega arith))
within_digits (suc more) n low = digits_step more n (λ large. let less = tens_less n large in within_digits more (n / 10) (omega arith)) _ refl

pub decimal_digits : (n : ℕ) → Digits (decimal n)
unfolding decimal
decimal_digits n = within_digits n n (omega arith)

-- the first digit of a number above 0 isn't 0
first_last : (digits : List ℕ) (c : ℕ) → 0x30 < get_or digits 0 0 → 0x30 < get_or (digits ++ (c ∷ [])) 0 0
first_last [] c first = absurd (omega arith)
first_last (d ∷ rest) c first = first

first_step : (more n : ℕ) → (10 ≤ n → 0x30 < get_or (digits_within more (n / 10)) 0 0) → (t : Bool) → ltb n 10 ≡ t → 0 < n
    → 0x30 < get_or (digits_within (suc more) n) 0 0
first_step more n tens true is some = rw (within_small (suc more) n (ltb-true n 10 is)) (omega arith)
first_step more n tens false is some =
    let large = ltb-false n 10 is in
    rw (within_large more n large) (first_last (digits_within more (n / 10)) (digit (n % 10)) (tens large))

within_first : (more n : ℕ) → n ≤ more → 0 < n → 0x30 < get_or (digits_within more n) 0 0
within_first zero n low some = absurd (omega arith)
within_first (suc more) n low some =
    first_step more n (λ large. let less = tens_less n large in within_first more (n / 10) (omega arith) (omega arith)) _ refl some

pub decimal_first : (n : ℕ) → 0 < n → 0x30 < get_or (decimal n) 0 0
unfolding decimal
decimal_first n some = within_first n n (omega arith) some
