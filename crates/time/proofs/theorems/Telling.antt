-- What the answer of a time's check says of the moment, by its steps. Assumes nothing.
use Prim.Native.Nat.{ℕ}
use Rattle.std.specs.Prelude.{Option, Some, None}
use mathlib.Core.Option as math
use mathlib.Core.Path.{◌≡◌, refl, sym, ap, ◌∙◌}
use Rattle.time.specs.steps.Moments.{as_option}

-- the number of an answer, if it has one
abbrev said : Option ℕ → math.Option ℕ
said (Some n) = math.some n
said None = math.none

said_told : (o : math.Option ℕ) → said (as_option o) ≡ o
unfolding as_option
said_told math.none = refl
said_told (math.some n) = refl

-- what the code answers for a moment, and for none
pub some_told : (n : ℕ) → as_option (math.some n) ≡ Some n
unfolding as_option
some_told n = refl

pub none_told : as_option math.none ≡ None
unfolding as_option
none_told = refl

-- and what an answer says of the moment
pub told_some : (o : math.Option ℕ) (m : Option ℕ) (n : ℕ) → m ≡ as_option o → m ≡ Some n → o ≡ math.some n
told_some o m n is some = sym (said_told o) ∙ ap said (sym is ∙ some)

pub told_none : (o : math.Option ℕ) (m : Option ℕ) → m ≡ as_option o → m ≡ None → o ≡ math.none
told_none o m is none = sym (said_told o) ∙ ap said (sym is ∙ none)
