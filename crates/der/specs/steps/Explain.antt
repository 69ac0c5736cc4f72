-- The walk over the nest of elements ("nest" is document 01's own term) that explains a refusal: the first fault in its order, or the end.
-- Assumes nothing.
use Rattle.std.specs.Prelude.{ℕ, zero, suc, ◌+◌, ◌-◌, ◌^◌, ◌≤◌, ◌<◌, Bool, true, false, List, [], ◌∷◌, leb, length, take, drop}
use Rattle.std.proofs.Math.Seq.{slice}
use Rattle.der.specs.declared.cause.Cause.{Cause}
use Rattle.der.specs.declared.cause.Cause.TheVariants.{TooLong, TooDeep, WrongContent}
use Rattle.der.specs.steps.Head.{Stands, Broken}
use Rattle.der.specs.steps.Nest.{Nest, End, Fault}
use Rattle.der.specs.meaning.Bounds.{depth, longest}
use Rattle.der.specs.steps.Cause.{cause_number, cause_detail}
use Rattle.der.specs.meaning.Identifier.{tag_number, constructed}
use Rattle.der.specs.steps.Header.{head_of}
use Rattle.der.specs.steps.ContentTest.{holds}
use Rattle.der.specs.steps.Order.{closes}

-- document 01's number for an answer: 0 if there is no fault
unfoldable pub number_of : Nest → ℕ
number_of (End q) = 0
number_of (Fault n q k) = n

-- document 01's place for an answer: 0 if there is no fault
unfoldable pub place_of : Nest → ℕ
place_of (End q) = 0
place_of (Fault n q k) = q

-- request A9's detail for an answer: 0 if there is no fault
unfoldable pub detail_of : Nest → ℕ
detail_of (End q) = 0
detail_of (Fault n q k) = k

-- the place after the element for an answer: 0 if there is a fault
unfoldable pub end_of : Nest → ℕ
end_of (End q) = q
end_of (Fault n q k) = 0

-- the fault of an element at a place, by its cause
abbrev pub fault_at : Cause → ℕ → Nest
fault_at c p = Fault (cause_number c) p (cause_detail c)

-- "a list of elements": from a place on, each judged by the walk handed over, up to the first fault; the count bounds its elements
unfoldable pub list_of : (ℕ → List ℕ → Nest) → ℕ → ℕ → List ℕ → Nest
list_of judge zero p bs = End p
list_of judge (suc n) p [] = End p
list_of judge (suc n) p (b ∷ bs) =
    elim (judge p (b ∷ bs)) [ End q ↦ list_of judge n q (drop (q - p) (b ∷ bs)) | Fault m q k ↦ Fault m q k ]

-- an element at the place p and up to the place q, by whether it keeps the rule of its identifier (5, with the tag number)
unfoldable pub by_rule : Bool → ℕ → ℕ → ℕ → Nest
by_rule kept p q id = elim kept [ true ↦ End q | false ↦ fault_at (WrongContent (tag_number id)) p ]

-- a constructed element at the place p, by the answer for its inside: the rule at its end is judged if there is no fault before
unfoldable pub after_inside : ℕ → ℕ → List ℕ → Nest → Nest
after_inside p id content (End q) = by_rule (closes id content) p q id
after_inside p id content (Fault m q k) = Fault m q k

-- "An element's inside, if constructed, is a list of elements, and each is an element again": the element at a place, over the octets
-- from there to its parent's end, with the levels of depth that are left; with none left it is too deep (6).
unfoldable pub element_of : ℕ → ℕ → List ℕ → Nest
element_of zero p bs = fault_at TooDeep p
element_of (suc left) p bs =
    elim (head_of bs) [
      | Broken c ↦ fault_at c p
      | Stands id h n ↦ elim (constructed id) [
        | true ↦ let content = take n (drop h bs) in after_inside p id content (list_of (element_of left) n (p + h) content)
        | false ↦ by_rule (holds id (take n (drop h bs))) p (p + h + n) id
      ]
    ]

-- The first element from the place at, before the place end, of a whole input; one that is too long is 1.
unfoldable pub walk_at : List ℕ → ℕ → ℕ → Nest
walk_at s at end = elim (leb (length s) longest) [ true ↦ element_of depth at (slice at end s) | false ↦ fault_at TooLong 0 ]

-- What the inner functions of the walk are lent: bytes of a whole input at a place.
pub record Lent (bytes : List ℕ) (place : ℕ) : Type 0 where
  pub short : length bytes ≤ longest
  pub placed : place + length bytes < 2 ^ 64
