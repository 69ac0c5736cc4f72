-- What the duplicate search answers, for every edition number and bytes: SPECIFICATION 8. One relation, by `Answers` and the messages' own
-- certReqIds. Assumes nothing.
use Rattle.std.specs.Prelude.{ℕ, ◌≡◌, List}
use Rattle.der.specs.meaning.Refusal.{accepted}
use Rattle.crmf.specs.meaning.Messages.{messages}
use Rattle.editions.specs.meaning.Membership.{InGrammar}
use Rattle.editions.specs.meaning.Answers.{Answers}
use Rattle.verdict.specs.meaning.Duplicates.{own_ids, Equal, FirstEqual}

-- The number, the place, 1 if a pair was found and 0 if not, and the pair's positions, 0 and 0 if there is none.
pub data Searches (e : ℕ) (s : List ℕ) : (number place found earlier later : ℕ) → Type 0 where
  -- "Refusals: reading's without 11"
  refused : {number place count : ℕ} → Answers e s number place count → (number ≡ accepted → ⊥) → Searches e s number place 0 0 0
  -- "the first equal pair (least later position, then least earlier)"
  pair : {count i j : ℕ} → Answers e s accepted 0 count → (g : InGrammar e s) → FirstEqual (own_ids (messages g.nest)) i j
      → Searches e s accepted 0 1 i j
  -- "or says there is none"
  none : {count : ℕ} → Answers e s accepted 0 count → (g : InGrammar e s) → ((i j : ℕ) → Equal (own_ids (messages g.nest)) i j → ⊥)
      → Searches e s accepted 0 0 0 0
