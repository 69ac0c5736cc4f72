-- The walk that collects the certReqIds of a batch's messages: what it is lent and what it leaves. Assumes nothing.
use Rattle.std.specs.Prelude.{ℕ, ◌+◌, ◌≤◌, ◌<◌, ◌≡◌, List, Option, Some, None, length, take}
use Rattle.der.specs.declared.element.reading.Element.{Element}
use Rattle.der.specs.meaning.Refusal.{accepted}
use Rattle.der.specs.steps.Reading.{reading_at}
use Rattle.editions.specs.steps.Reading.{answer}
use Rattle.verdict.specs.declared.duplicates.ReqId.{ReqId}
use Rattle.verdict.specs.steps.SearchAnswer.{ids, numbers_of}

-- The bytes of a batch that an edition accepts.
pub record Accepted (s : List ℕ) : Type 0 where
  pub edition : ℕ
  pub zero : (answer edition s).number ≡ accepted

-- What is answered of a batch and a room: the first `count` places are the certReqIds; or nothing, and there are more certReqIds than places.
abbrev pub Collected : List ℕ → (room : List ReqId) → Option ℕ → Type 0
Collected s room (Some count) = (count ≤ length room) × (numbers_of (take count room) ≡ ids s)
Collected s room None = length room < length (ids s)

-- the certReqId of the message whose inside is from one place to another: the first element of the first element there
abbrev pub id_in : List ℕ → ℕ → ℕ → Element
id_in s at end = let request = reading_at s at end in reading_at s request.content request.end

-- An element has 1 to 8 content octets.
pub record Short (s : List ℕ) (x : Element) : Type 0 where
  pub some : x.content < x.end
  pub eight : x.end ≤ x.content + 8
  pub within : x.end ≤ length s
