-- What is known of an accepted batch: the tree that its bytes are read as is its own, the octets from its content on are its messages', and no
-- certReqId of it is long. Assumes nothing.
use Prim.Native.Nat.{ℕ}
use mathlib.Core.Path.{◌≡◌, refl, sym, ap, ◌∙◌}
use mathlib.Core.Bool.{true}
use mathlib.Core.List.{List, flatten}
use lib.Dec.{eqb}
use lib.ListN.{length, drop}
use Rattle.der.specs.meaning.Octets.{Octets}
use Rattle.der.specs.meaning.Refusal.{accepted}
use Rattle.der.specs.steps.Reading.{reading_at}
use Rattle.crmf.specs.meaning.Edition.{Edition}
use Rattle.crmf.specs.meaning.Messages.{message_octets, batch_octets}
use Rattle.crmf.specs.meaning.Rows.{batch_rows, all_short}
use Rattle.crmf.proofs.Laws.{BatchContent, BatchTree, batch_content, content_read, content_octets, batch_octets_lem, short_none, none_short}
use Rattle.editions.specs.meaning.Answers.{Answers, unknown, long, fault, trailing, neither, other, long_id, accept}
use Rattle.editions.specs.meaning.Membership.{InGrammar}
use Rattle.editions.proofs.theorems.AnswersExactly.{acceptance_shows, answers_once}
use Rattle.editions.proofs.theorems.Accepting.{nest_read, nest_rows}
use Rattle.editions.specs.meaning.TwoBatches.{Accepted}

module _ {e : ℕ} {s : List ℕ} where
  -- An answer with the number 0 is an acceptance.
  pub taken : {number place count : ℕ} → Answers e s number place count → number ≡ accepted → Accepted e s
  taken answered zero =
      let shown = acceptance_shows answered zero in
      record { rows = length (batch_rows shown.within.batch); answer = accept shown.edition shown.within shown.short; batch = shown.within }

  -- a refusal's count is 0
  pub refused_count : {number place count : ℕ} → Answers e s number place count → (number ≡ accepted → ⊥) → count ≡ 0
  refused_count (unknown none) refusing = refl
  refused_count (long ed past) refusing = refl
  refused_count (fault ed short first) refusing = refl
  refused_count (trailing ed short nest after formed single same some) refusing = refl
  refused_count (neither ed own opposite stops) refusing = refl
  refused_count (other ed own first) refusing = refl
  refused_count (long_id ed g first) refusing = refl
  refused_count (accept ed g short) refusing = absurd (refusing refl)

  -- the tree of bytes in the grammar is a batch
  pub grammar_tree : (g : InGrammar e s) → BatchTree (λ x. eqb x e) g.nest
  grammar_tree g = record { matches = g.batch; formed = g.formed; single = g.single }

  pub grammar_content : (g : InGrammar e s) → BatchContent g.nest
  grammar_content g = batch_content g.nest g.batch g.formed g.single

  -- The octets from its content on are its messages'.
  pub content_messages : (g : InGrammar e s) → drop (reading_at s 0 (length s)).content s ≡ flatten (message_octets g.nest)
  content_messages g =
      content_read s g.nest (nest_read s g) g.short g.encoded (grammar_content g) ∙ content_octets (grammar_tree g)

  -- It is the batch of its messages.
  pub grammar_octets : (g : InGrammar e s) → batch_octets (message_octets g.nest) ≡ s
  grammar_octets g = sym (batch_octets_lem (grammar_tree g)) ∙ g.encoded

  -- its rows don't depend on how it was found to be in the grammar
  grammar_rows : (g h : InGrammar e s) → batch_rows g.batch ≡ batch_rows h.batch
  grammar_rows g h = sym (nest_rows s g) ∙ nest_rows s h

  module _ (a : Accepted e s) where
    -- an accepted batch is of a known edition,
    pub accepted_edition : Edition e
    accepted_edition = (acceptance_shows a.answer refl).edition

    -- has as many rows as its answer says
    pub accepted_rows : length (batch_rows a.batch.batch) ≡ a.rows
    accepted_rows =
        let shown = acceptance_shows a.answer refl in
        ap length (grammar_rows a.batch shown.within) ∙ shown.counted

    -- and no long certReqId
    pub accepted_short : all_short (batch_rows a.batch.batch) ≡ true
    accepted_short =
        let shown = acceptance_shows a.answer refl in
        ap all_short (grammar_rows a.batch shown.within) ∙ none_short (batch_rows shown.within.batch) shown.short

  -- Conversely, bytes in the grammar with no long certReqId are accepted.
  pub grammar_accepted : Edition e → (g : InGrammar e s) → all_short (batch_rows g.batch) ≡ true → Accepted e s
  grammar_accepted ed g short =
      record { rows = length (batch_rows g.batch); answer = accept ed g (short_none (batch_rows g.batch) short); batch = g }

-- An accepted batch isn't refused.
pub not_refused : {e : ℕ} {s : List ℕ} {n p c : ℕ} → Octets s → Accepted e s → Answers e s n p c → (n ≡ accepted → ⊥) → ⊥
not_refused {e} {s} {n} {p} {c} known a answer refusing = refusing (sym (answers_once e s known accepted 0 a.rows n p c a.answer answer).0)
