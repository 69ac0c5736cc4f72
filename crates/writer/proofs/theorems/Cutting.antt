-- What cutting a message out of a batch gives (document 02's request A13): a batch that the edition accepts, whose one message is that message,
-- moved; and no other bytes are the batch of that message. Assumes nothing.
use Prim.Native.Nat.{ℕ, ◌-◌}
use native.Mathlib.Nat.{le_trans}
use mathlib.Core.Path.{◌≡◌, sym, ap, subst, ◌∙◌}
use mathlib.Core.List.{List, [], ◌∷◌, map, Memᴰ}
use Rattle.der.specs.meaning.Tree.{Tree}
use Rattle.crmf.specs.meaning.Fields.{octets}
use Rattle.crmf.specs.meaning.Messages.{Message, messages, batch_header, message_octets, batch_octets, moved_message}
use Rattle.crmf.proofs.Laws.{cut_tree, cut_tree_lem, cut_message, cut_short}
use Rattle.editions.specs.meaning.Membership.{InGrammar}
use Rattle.editions.proofs.Laws.{one_nest, grammar_tree, grammar_octets, accepted_edition, accepted_short, grammar_accepted}
use Rattle.editions.specs.meaning.TwoBatches.{Accepted}
use Rattle.writer.specs.meaning.Cuts.{cut}
use Rattle.writer.proofs.theorems.CutsExactly.{cut_fits}

-- "the one-message batch of a named position": bytes in the grammar with that message alone are the cut
pub cut_only : {e : ℕ} {s : List ℕ} (m : Message) (g : InGrammar e s) → message_octets g.nest ≡ octets m.own ∷ [] → s ≡ cut m
unfolding cut
cut_only m g same = sym (grammar_octets g) ∙ ap batch_octets same

module _ {e : ℕ} {s : List ℕ} (a : Accepted e s) (m : Message) (there : Memᴰ m (messages a.batch.nest)) where
  -- it is in the grammar
  cut_within : InGrammar e (cut m)
  unfolding cut
  cut_within =
      let v = cut_tree_lem (grammar_tree a.batch) m there in
      record {
        short = le_trans (cut_fits a.batch m there) a.batch.short;
        nest = cut_tree m;
        formed = v.whole.formed;
        single = v.whole.single;
        encoded = v.encoded;
        batch = v.whole.matches;
      }

  -- What is cut is accepted in the edition,
  pub cut_accepted : Accepted e (cut m)
  unfolding cut_within
  cut_accepted =
      grammar_accepted (accepted_edition a) cut_within (cut_short (grammar_tree a.batch) m there a.batch.batch cut_within.batch (accepted_short a))

  module _ (g : InGrammar e (cut m)) where
    cut_nest : cut_tree m ≡ g.nest
    unfolding cut_within
    cut_nest = one_nest (cut m) cut_within g

    -- has that message's octets alone,
    pub cut_octets : message_octets g.nest ≡ octets m.own ∷ []
    cut_octets = ap message_octets (sym cut_nest) ∙ (cut_tree_lem (grammar_tree a.batch) m there).own

    -- and shows that message alone, which stood further on in the batch.
    pub cut_shows : map (moved_message (m.own.place - batch_header g.nest)) (messages g.nest) ≡ m ∷ []
    cut_shows =
        subst (λ (v : Tree). map (moved_message (m.own.place - batch_header v)) (messages v) ≡ m ∷ []) cut_nest
        (cut_message (grammar_tree a.batch) m there)
