-- The answer of the duplicate search, computed for every input: the certReqIds of the tree that is read from it, compared pair by pair.
-- Assumes nothing.
use Rattle.std.specs.Prelude.{ℕ, zero, suc, ◌-◌, Bool, true, false, List, [], ◌∷◌, map, Option, Some, None, eqb, ℤ, pos, length, get_or, take}
use Rattle.std.specs.List.{list_any}
use Rattle.std.specs.Ordering.{int_eq}
use Rattle.der.specs.meaning.Refusal.{accepted}
use Rattle.der.specs.steps.Reading.{tree}
use Rattle.crmf.specs.declared.messages.Position.{Position}
use Rattle.crmf.specs.meaning.Messages.{messages}
use Rattle.editions.specs.steps.Reading.{answer}
use Rattle.verdict.specs.steps.Answer.{Duplicates}
use Rattle.verdict.specs.declared.duplicates.Pair.{Pair}
use Rattle.verdict.specs.declared.duplicates.ReqId.{ReqId}
use Rattle.verdict.specs.meaning.Duplicates.{own_ids}

-- an octet's part in the magnitude of a negative number is its complement
abbrev pub magnitude_octet : Bool → ℕ → ℕ
magnitude_octet true b = 255 - b
magnitude_octet false b = b

-- the messages' own certReqIds, by position
unfoldable pub ids : List ℕ → List ℤ
ids s = own_ids (messages (tree 0 s))

-- whether one of some numbers is the number k
abbrev pub is_among : ℤ → List ℤ → Bool
is_among k ns = list_any (λ n. int_eq n k) ns

-- the first position that has the number k, in a list whose first position is i
unfoldable pub find : ℤ → ℕ → List ℤ → Option ℕ
find k i [] = None
find k i (n ∷ ns) = elim (int_eq n k) [ true ↦ Some i | false ↦ find k (suc i) ns ]

-- the first equal pair whose later position is one of the `more` positions from j on
unfoldable pub pair_from : List ℤ → (more j : ℕ) → Option (ℕ × ℕ)
pair_from ns zero j = None
pair_from ns (suc more) j =
    elim (find (get_or ns j (pos 0)) 0 (take j ns)) [ Some i ↦ Some (i, j) | None ↦ pair_from ns more (suc j) ]

-- the first equal pair
abbrev pub pair_of : List ℤ → Option (ℕ × ℕ)
pair_of ns = pair_from ns (length ns) 0

-- a position
abbrev pub position : ℕ → Position
position p = record { 0 = p }

-- the pair of two positions
abbrev pub pair_at : ℕ × ℕ → Pair
pair_at p = record { earlier = position p.0; later = position p.1 }

-- the numbers of certReqIds
abbrev pub numbers_of : List ReqId → List ℤ
numbers_of ids = map (λ (id : ReqId). id.0) ids

-- an answer without a pair: the positions are 0 and 0
abbrev pub without_pair : (number place : ℕ) → Duplicates
without_pair number place = record { number = number; place = place; found = 0; earlier = position 0; later = position 0 }

-- what the search answers of a pair, or if there is none
abbrev pub searched : Option (ℕ × ℕ) → Duplicates
searched None = without_pair accepted 0
searched (Some p) = record { number = accepted; place = 0; found = 1; earlier = position p.0; later = position p.1 }

-- the answer for every input (SPECIFICATION 8): "Refusals: reading's without 11"
unfoldable pub duplicates_answer : ℕ → List ℕ → Duplicates
duplicates_answer e s =
    let a = answer e s in
    elim (eqb a.number accepted) [
      | false ↦ without_pair a.number a.place
      | true ↦ searched (pair_of (ids s))
    ]
