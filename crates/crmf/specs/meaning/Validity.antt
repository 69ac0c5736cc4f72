-- What request A12 asks of a validity, on its elements: "notAfter isn't earlier than notBefore". It names no octet's place. Assumes nothing.
use Rattle.std.specs.Prelude.{ℕ, ◌≤◌, ◌≡◌, List}
use Rattle.std.proofs.Math.Option.{some}
use Rattle.der.specs.meaning.Tree.{Tree, none, element}
use Rattle.time.specs.meaning.Time.{time_moment}

-- Among some elements one with the identifier holds a Time, and the Time shows the moment.
pub data Shows (id moment : ℕ) : Tree → Type 0 where
  here : {other first whole time place size : ℕ} {octets c : List ℕ} {inner rest : Tree} → other ≡ id → time_moment time c ≡ some moment
      → Shows id moment (element other first whole octets (element time place size c inner none) rest)
  later : {other first whole : ℕ} {octets : List ℕ} {inside rest : Tree} → Shows id moment rest → Shows id moment (element other first whole octets inside rest)

-- "notAfter isn't earlier than notBefore", of the elements in a validity: A0 is notBefore, and A1 notAfter
abbrev pub Forwards : Tree → Type 0
Forwards t = (before after : ℕ) → Shows 0xA0 before t → Shows 0xA1 after t → before ≤ after
