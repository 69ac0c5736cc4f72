-- The causes have document 01's numbers and request A9's details: just those that a fault can have. A header is broken by the cause of the rule
-- that the element breaks. Assumes nothing.
use Prim.Native.Nat.{ℕ}
use mathlib.Core.Path.{◌≡◌, refl}
use mathlib.Core.Logic.{◌↔◌}
use mathlib.Core.List.{List}
use native.Mathlib.Omega.{arith}
use Rattle.der.specs.declared.cause.Cause.{Cause}
use Rattle.der.specs.declared.cause.Cause.TheVariants.{TooLong, TooDeep, NoIdentifier, WrongIdentifier, NoLength, WrongLength, PastEnd, WrongContent}
use Rattle.der.specs.steps.Head.{Broken}
use Rattle.der.specs.meaning.Identifier.{tag_number}
use Rattle.der.specs.meaning.Refusal.{too_long_number, truncated, bad_identifier, bad_length, bad_content, too_deep}
use Rattle.der.specs.meaning.Fault.{Breaks, Named}
use Rattle.der.specs.steps.Cause.{cause_number, cause_detail}
use Rattle.der.specs.steps.Header.{sized_by, head_of}
use Rattle.der.proofs.theorems.element.Headers.{head_breaks, headed_stands}
use Rattle.der.proofs.theorems.explain.Steps.{head_wrong, head_sized, head_past, stands_broken}

-- The causes that an element with an identifier can have: the input's length is none of an element, and a wrong content has its tag number.
abbrev pub CauseAt : ℕ → Cause → Type 0
CauseAt id TooLong = ⊥
CauseAt id TooDeep = Unit {0}
CauseAt id NoIdentifier = Unit {0}
CauseAt id WrongIdentifier = Unit {0}
CauseAt id NoLength = Unit {0}
CauseAt id WrongLength = Unit {0}
CauseAt id PastEnd = Unit {0}
CauseAt id (WrongContent tag) = tag ≡ tag_number id

-- a cause has a number and a detail
abbrev pub Gives : Cause → ℕ → ℕ → Type 0
Gives c number detail = (cause_number c ≡ number) × (cause_detail c ≡ detail)

-- Each number is the one that the table "Numbers that come back" has for the cause.
pub cause_numbers : (cause_number TooLong ≡ too_long_number)
    × (cause_number NoIdentifier ≡ truncated)
    × (cause_number NoLength ≡ truncated)
    × (cause_number PastEnd ≡ truncated)
    × (cause_number WrongIdentifier ≡ bad_identifier)
    × (cause_number WrongLength ≡ bad_length)
    × ((tag : ℕ) → cause_number (WrongContent tag) ≡ bad_content)
    × (cause_number TooDeep ≡ too_deep)
cause_numbers = (refl, refl, refl, refl, refl, refl, λ tag. refl, refl)

-- A number and a detail are a fault's at an element exactly if a cause that the element can have gives them.
pub cause_named : (id number detail : ℕ) → Named id number detail ↔ ((c : Cause) × CauseAt id c × Gives c number detail)
cause_named id number detail = (cause, λ (c, at, gives). rw (gives.0, gives.1) at (named c at))
  where
    cause : {n d : ℕ} → Named id n d → (c : Cause) × CauseAt id c × Gives c n d
    cause Named.no_identifier = (NoIdentifier, tt, (refl, refl))
    cause Named.no_length = (NoLength, tt, (refl, refl))
    cause Named.past_end = (PastEnd, tt, (refl, refl))
    cause Named.identifier = (WrongIdentifier, tt, (refl, refl))
    cause Named.length = (WrongLength, tt, (refl, refl))
    cause Named.content = (WrongContent (tag_number id), refl, (refl, refl))
    cause Named.depth = (TooDeep, tt, (refl, refl))

    named : (c : Cause) → CauseAt id c → Named id (cause_number c) (cause_detail c)
    named TooLong at = absurd at
    named TooDeep at = Named.depth
    named NoIdentifier at = Named.no_identifier
    named WrongIdentifier at = Named.identifier
    named NoLength at = Named.no_length
    named WrongLength at = Named.length
    named PastEnd at = Named.past_end
    named (WrongContent tag) at = rw at Named.content

-- an element that breaks its content's rule has a header that stands
content_stands : {bs : List ℕ} {number detail : ℕ} {c : Cause} → Breaks bs number detail → number ≡ bad_content → head_of bs ≡ Broken c → ⊥
content_stands Breaks.no_identifier is broken = omega arith
content_stands (Breaks.identifier u) is broken = omega arith
content_stands (Breaks.no_length u v) is broken = omega arith
content_stands (Breaks.length u v) is broken = omega arith
content_stands (Breaks.past_end k n u v w) is broken = omega arith
content_stands (Breaks.content id h n e u v) is broken = stands_broken (headed_stands e) broken

-- A header is broken by a cause exactly if the element breaks the rule of that number and detail, which is not its content's (5).
pub broken_exact : (bs : List ℕ) (number detail : ℕ)
    → ((c : Cause) × (head_of bs ≡ Broken c) × Gives c number detail) ↔ (Breaks bs number detail × (number ≡ bad_content → ⊥))
unfolding head_of sized_by
broken_exact bs number detail = (
  λ (c, broken, gives).
      let breaks = rw (gives.0, gives.1) at (head_breaks bs broken) in
      (breaks, λ is. content_stands breaks is broken),
  λ (breaks, other). cause breaks other,
)
  where
    cause : {bs : List ℕ} {n d : ℕ} → Breaks bs n d → (n ≡ bad_content → ⊥) → (c : Cause) × (head_of bs ≡ Broken c) × Gives c n d
    cause Breaks.no_identifier other = (NoIdentifier, refl, (refl, refl))
    cause (Breaks.identifier {id} {bs} u) other = (WrongIdentifier, head_wrong id bs u, (refl, refl))
    cause (Breaks.no_length {id} {bs} u v) other = (NoLength, head_sized id bs u v, (refl, refl))
    cause (Breaks.length {id} {bs} u v) other = (WrongLength, head_sized id bs u v, (refl, refl))
    cause (Breaks.past_end {id} {bs} k n u v w) other = (PastEnd, head_past id bs u v w, (refl, refl))
    cause (Breaks.content id h n e u v) other = absurd (other refl)
