-- The messages' own certReqIds as signed whole numbers, and the first equal pair of them: SPECIFICATION 8. Assumes nothing.
use Rattle.std.specs.Prelude.{ℕ, ◌-◌, ◌<◌, ◌≤◌, ◌≡◌, true, false, List, map, ltb, ℤ, pos, negsuc, length, get_or}
use Rattle.der.specs.meaning.Length.{value_from}
use Rattle.crmf.specs.meaning.Messages.{Message}

-- "a signed whole number": what an INTEGER's octets give in two's complement, the most significant first
unfoldable pub signed : List ℕ → ℤ
signed c = elim (ltb (get_or c 0 0) 0x80) [ true ↦ pos (value_from 0 c) | false ↦ negsuc (value_from 0 (map (λ b. 255 - b) c)) ]

-- "messages' own certReqIds", by position
unfoldable pub own_ids : List Message → List ℤ
own_ids ms = map (λ (m : Message). signed m.cert_req_id.content) ms

-- Two positions with equal numbers, the earlier first.
pub record Equal (ns : List ℤ) (earlier later : ℕ) : Type 0 where
  pub order : earlier < later
  pub there : later < length ns
  pub same : get_or ns earlier (pos 0) ≡ get_or ns later (pos 0)

-- "the first equal pair (least later position, then least earlier)" (SPECIFICATION 8)
pub record FirstEqual (ns : List ℤ) (earlier later : ℕ) : Type 0 where
  pub pair : Equal ns earlier later
  pub first : (i j : ℕ) → Equal ns i j → (later ≤ j) × (j ≡ later → earlier ≤ i)
