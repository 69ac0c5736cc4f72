-- Many batches joined two at a time in some grouping, and a batch cut at every position, by what the calls answer: document 02's request A13,
-- SPECIFICATION 10. Assumes nothing.
use Rattle.std.specs.Prelude.{ℕ, ◌≤◌, ◌≡◌, List, [], ◌∷◌, ◌++◌, length}
use Rattle.std.proofs.Math.Option.{some}
use Rattle.std.proofs.Math.ListN.{get_elem?}
use Rattle.der.specs.meaning.Refusal.{accepted, too_long_number, no_such_message}
use Rattle.crmf.specs.meaning.Lists.{over}
use Rattle.crmf.specs.meaning.Messages.{message_octets, batch_octets}
use Rattle.editions.specs.meaning.TwoBatches.{Accepted, neither_file}
use Rattle.writer.specs.meaning.Joins.{Joins}
use Rattle.writer.specs.meaning.Cuts.{Cuts}

-- A grouping of accepted batches: one of them, or two groupings whose batches are joined.
pub data Grouping (e : ℕ) : Type 0 where
  alone : {s : List ℕ} → Accepted e s → Grouping e
  both : Grouping e → Grouping e → Grouping e

-- the batches that are grouped, from the left
unfoldable pub batches : {e : ℕ} → Grouping e → List (List ℕ)
batches (alone {s} a) = s ∷ []
batches (both l r) = batches l ++ batches r

-- all their messages' octets
unfoldable pub grouped : {e : ℕ} → Grouping e → List (List ℕ)
grouped (alone a) = message_octets a.batch.nest
grouped (both l r) = grouped l ++ grouped r

-- "the whole": the octets of the batch of all their messages
abbrev pub whole : {e : ℕ} → Grouping e → List ℕ
whole g = batch_octets (grouped g)

-- What "joining in [a] grouping gives", call by call: each join is answered with 0 and its bytes, whatever output with room for them is lent.
pub data Gives {e : ℕ} : Grouping e → List ℕ → Type 0 where
  by_itself : {s : List ℕ} (a : Accepted e s) → Gives (alone a) s
  by_call : {l r : Grouping e} {first second s : List ℕ} → Gives l first → Gives r second
      → ((old : List ℕ) → length s ≤ length old → Joins e first second old accepted 0 neither_file (length s) (over old 0 s))
      → Gives (both l r) s

-- A join within a grouping is refused with 1, "for a longer result", after all those before it were answered with 0.
pub data TooLongWithin {e : ℕ} : Grouping e → Type 0 where
  here : {l r : Grouping e} {first second : List ℕ} → Gives l first → Gives r second
      → ((old : List ℕ) → Joins e first second old too_long_number 0 neither_file 0 old) → TooLongWithin (both l r)
  on_the_left : {l r : Grouping e} → TooLongWithin l → TooLongWithin (both l r)
  on_the_right : {l r : Grouping e} → TooLongWithin r → TooLongWithin (both l r)

-- What "cutting at every position" gives: at each position the call is answered with 0 and its bytes, whatever output with room for them is
-- lent, and at the next position after them there is no message.
pub record CutUp (e : ℕ) (s : List ℕ) (cs : List (List ℕ)) : Type 0 where
  pub each : (n : ℕ) (c : List ℕ) → get_elem? cs n ≡ some c → (old : List ℕ) → length c ≤ length old → Cuts e s n old accepted 0 (length c) (over old 0 c)
  pub ends : (old : List ℕ) → Cuts e s (length cs) old no_such_message 0 0 old
