-- Which fault is answered: SPECIFICATION 2.4. A fault is true and the first in the order of judging if the element at its place breaks the
-- rule of its number, and every element and rule judged before it holds. No walk is named. `Soonest` says it once more by places: every other
-- fault is decided further on. Assumes nothing.
use Rattle.std.specs.Prelude.{ℕ, zero, suc, ◌+◌, ◌-◌, ◌≤◌, ◌<◌, ◌≡◌, ◌⊎◌, true, false, List, [], ◌∷◌, ◌++◌, take, drop}
use Rattle.std.proofs.Math.ListN
use Rattle.der.specs.meaning.Identifier.{tag_number, allowed, constructed}
use Rattle.der.specs.meaning.Length.{missing, wrong, octets, length_of}
use Rattle.der.specs.meaning.Content.{Content}
use Rattle.der.specs.meaning.Order.{Closing}
use Rattle.der.specs.meaning.Tree.{Tree, WellFormed, encode, members}

-- The octets from an element's first byte to its parent's end begin with a header of h octets and n octets of content: an identifier that is
-- allowed, and the length octets that give n. All of it ends no later than the parent.
pub record Headed (bs : List ℕ) (id h n : ℕ) : Type 0 where
  pub count : ℕ
  pub after : List ℕ
  pub split : bs ≡ id ∷ after
  pub known : allowed id ≡ true
  pub measured : length_of after ≡ octets count n
  pub sized : h ≡ suc count
  pub fits : count + n ≤ ListN.length after

-- An element, over the octets from its first byte to its parent's end, breaks a rule itself: the number and the detail. Each rule asks that
-- those before it hold (the table of SPECIFICATION 2.4).
pub data Breaks : List ℕ → ℕ → ℕ → Type 0 where
  no_identifier : Breaks [] 2 1
  identifier : {id : ℕ} {bs : List ℕ} → allowed id ≡ false → Breaks (id ∷ bs) 3 0
  no_length : {id : ℕ} {bs : List ℕ} → allowed id ≡ true → length_of bs ≡ missing → Breaks (id ∷ bs) 2 2
  length : {id : ℕ} {bs : List ℕ} → allowed id ≡ true → length_of bs ≡ wrong → Breaks (id ∷ bs) 4 0
  past_end : {id : ℕ} {bs : List ℕ} (k n : ℕ) → allowed id ≡ true → length_of bs ≡ octets k n → ListN.length bs < k + n → Breaks (id ∷ bs) 2 3
  content : {bs : List ℕ} (id h n : ℕ) → Headed bs id h n → constructed id ≡ false → (Content id (take n (drop h bs)) → ⊥)
      → Breaks bs 5 (tag_number id)

-- A fault as a relation: over the place of an element and the octets from there to its parent's end, the fault's number, place and detail.
abbrev pub Faults : Type 1
Faults = ℕ → List ℕ → ℕ → ℕ → ℕ → Type 0

-- The first fault of an element at a place, with the levels of depth that are left inside it: a rule that it breaks itself; the first fault
-- of the list of elements inside it; or, if there is none, the rule at its end ("decided after any fault within it").
pub data FaultOf (left : ℕ) (Inside : Faults) (p : ℕ) (bs : List ℕ) : ℕ → ℕ → ℕ → Type 0 where
  own : {number detail : ℕ} → Breaks bs number detail → FaultOf left Inside p bs number p detail
  inside : {number at detail : ℕ} (id h n : ℕ) → Headed bs id h n → constructed id ≡ true
      → Inside (p + h) (take n (drop h bs)) number at detail → FaultOf left Inside p bs number at detail
  closing : (id h n : ℕ) → Headed bs id h n → constructed id ≡ true → (t : Tree) → WellFormed left (p + h) t → take n (drop h bs) ≡ encode t
      → (Closing id (members t) → ⊥) → FaultOf left Inside p bs 5 p (tag_number id)

-- Without a level of depth left, the fault is 6, before anything else.
abbrev pub TooDeep : Faults
TooDeep p bs number at detail = (number ≡ 6) × (at ≡ p) × (detail ≡ 0)

-- A list of elements, with the levels of depth that are left: well-formed elements, and after them the first that has a fault.
pub record FirstIn (left : ℕ) (Faulty : Faults) (p : ℕ) (bs : List ℕ) (number at detail : ℕ) : Type 0 where
  pub before : Tree
  pub after : List ℕ
  pub split : bs ≡ encode before ++ after
  pub holds : WellFormed left p before
  pub one : after ≡ [] → ⊥
  pub faulty : Faulty (p + ListN.length (encode before)) after number at detail

-- The first fault of the element at a place, with the levels of depth that are left.
abbrev pub First : ℕ → Faults
First zero p bs number at detail = TooDeep p bs number at detail
First (suc left) p bs number at detail = FaultOf left (FirstIn left (First left)) p bs number at detail

-- Octets that consist of elements, by their headers alone, and the encoding of each.
pub data Members : List ℕ → List (List ℕ) → Type 0 where
  none : Members [] []
  member : {bs : List ℕ} {ms : List (List ℕ)} (id h n : ℕ) → Headed bs id h n → Members (drop (h + n) bs) ms → Members bs (take (h + n) bs ∷ ms)

-- A fault as a relation, with the place at which it is decided after its number, place and detail.
abbrev pub DecidedFaults : Type 1
DecidedFaults = ℕ → List ℕ → ℕ → ℕ → ℕ → ℕ → Type 0

-- Any fault of an element at a place, whatever else is wrong: a rule that it breaks itself, decided at its first byte; a fault of the list of
-- elements inside it; or the rule at its end, decided at its last byte.
pub data AnyOf (Inside : DecidedFaults) (p : ℕ) (bs : List ℕ) : ℕ → ℕ → ℕ → ℕ → Type 0 where
  own : {number detail : ℕ} → Breaks bs number detail → AnyOf Inside p bs number p detail p
  inside : {number at detail decided : ℕ} (id h n : ℕ) → Headed bs id h n → constructed id ≡ true
      → Inside (p + h) (take n (drop h bs)) number at detail decided → AnyOf Inside p bs number at detail decided
  closing : (id h n : ℕ) → Headed bs id h n → constructed id ≡ true → (ms : List (List ℕ)) → Members (take n (drop h bs)) ms
      → (Closing id ms → ⊥) → AnyOf Inside p bs 5 p (tag_number id) (p + (h + n) - 1)

-- A list of elements, any of which has a fault: headers alone lead to it, and the elements before it may have faults too.
pub data AnyIn (Faulty : DecidedFaults) : ℕ → List ℕ → ℕ → ℕ → ℕ → ℕ → Type 0 where
  here : {p : ℕ} {bs : List ℕ} {number at detail decided : ℕ} → (bs ≡ [] → ⊥) → Faulty p bs number at detail decided
      → AnyIn Faulty p bs number at detail decided
  later : {p : ℕ} {bs : List ℕ} {number at detail decided : ℕ} (id h n : ℕ) → Headed bs id h n
      → AnyIn Faulty (p + (h + n)) (drop (h + n) bs) number at detail decided → AnyIn Faulty p bs number at detail decided

-- Any fault of the element at a place or of an element inside it, with the levels of depth that are left.
abbrev pub Any : ℕ → DecidedFaults
Any zero p bs number at detail decided = TooDeep p bs number at detail × (decided ≡ p)
Any (suc left) p bs number at detail decided = AnyOf (AnyIn (Any left)) p bs number at detail decided

-- The order of judging: of two faults the one that is decided at the smaller place comes first. If both are decided at one place, it is the last
-- byte of both elements, and the inner element's comes first.
abbrev pub Sooner : (at decided at' decided' : ℕ) → Type 0
Sooner at decided at' decided' = (decided < decided') ⊎ ((decided ≡ decided') × (at' < at))

-- "Of several faults": the one that is decided first. Every fault is this one or comes later.
pub record Soonest (Faulty : ℕ → ℕ → ℕ → ℕ → Type 0) (number at detail : ℕ) : Type 0 where
  pub decided : ℕ
  pub any : Faulty number at detail decided
  pub others : (n a d e : ℕ) → Faulty n a d e → ((number ≡ n) × (at ≡ a) × (detail ≡ d)) ⊎ Sooner at decided a e

-- The details that a fault's number can have, at an element with the identifier id.
pub data Named (id : ℕ) : ℕ → ℕ → Type 0 where
  -- what is missing: 1 the identifier, 2 length octets, 3 content
  no_identifier : Named id 2 1
  no_length : Named id 2 2
  past_end : Named id 2 3
  identifier : Named id 3 0
  length : Named id 4 0
  -- the tag number
  content : Named id 5 (tag_number id)
  depth : Named id 6 0
