-- What joining two batches gives (document 02's request A13): a batch that the edition accepts, which shows both's messages and rows, moved; and no
-- other bytes are the batch of those messages. Assumes nothing.
use Prim.Native.Nat.{ℕ, ◌+◌, ◌-◌, ◌≤◌}
use native.Mathlib.Omega.{arith}
use mathlib.Core.Path.{◌≡◌, sym, ap, subst, ◌∙◌}
use mathlib.Core.List.{List, ◌++◌, map}
use lib.Dec.{eqb}
use lib.ListN.{length, drop, length-append, length-drop, length-map}
use Rattle.der.specs.meaning.Bounds.{longest}
use Rattle.der.specs.meaning.Tree.{Tree}
use Rattle.crmf.specs.meaning.Notation.{Top}
use Rattle.crmf.specs.meaning.Grammar.{content}
use Rattle.crmf.specs.meaning.Language.{Matches}
use Rattle.crmf.specs.meaning.Messages.{messages, message_octets, batch_octets, moved_message}
use Rattle.crmf.specs.meaning.Rows.{Row, batch_rows, moved_row, renumbered_row}
use Rattle.crmf.proofs.Laws.{rows_some, joined_tree, joined_tree_lem, joined_messages, joined_rows, joined_short}
use Rattle.editions.specs.meaning.Membership.{InGrammar}
use Rattle.editions.proofs.Laws.{one_nest, grammar_tree, grammar_octets, accepted_edition, accepted_rows, accepted_short, grammar_accepted}
use Rattle.editions.specs.meaning.TwoBatches.{Accepted}
use Rattle.writer.specs.meaning.Joins.{join, joined, first_moves, second_moves}

module _ {e : ℕ} {first second : List ℕ} (one : Accepted e first) (two : Accepted e second) where
  -- the two batches' trees
  abbrev t : Tree
  t = one.batch.nest

  abbrev u : Tree
  u = two.batch.nest

  -- "the batch with the first's messages and then the second's": bytes in the grammar with these messages are the join
  pub join_only : {s : List ℕ} (g : InGrammar e s) → message_octets g.nest ≡ message_octets one.batch.nest ++ message_octets two.batch.nest
      → s ≡ joined one two
  unfolding join
  join_only g same = sym (grammar_octets g) ∙ ap batch_octets same

  module _ (fits : length (joined one two) ≤ longest) where
    -- it is in the grammar
    pub join_within : InGrammar e (joined one two)
    unfolding join
    join_within =
        let v = joined_tree_lem (grammar_tree one.batch) (grammar_tree two.batch) in
        record {
          short = fits;
          nest = joined_tree one.batch.nest two.batch.nest;
          formed = v.whole.formed;
          single = v.whole.single;
          encoded = v.encoded;
          batch = v.whole.matches;
        }

    -- What is joined is accepted in the edition,
    pub join_accepted : Accepted e (joined one two)
    unfolding join_within
    join_accepted =
        grammar_accepted (accepted_edition one) join_within
        (joined_short (grammar_tree one.batch) (grammar_tree two.batch) one.batch.batch two.batch.batch join_within.batch (accepted_short one) (accepted_short two))

  module _ (g : InGrammar e (joined one two)) where
    -- the join's tree is the one of both's messages
    join_tree : joined_tree t u ≡ g.nest
    unfolding join_within
    join_tree = one_nest (joined one two) (join_within g.short) g

    -- and shows both's messages: their octets,
    pub join_octets : message_octets g.nest ≡ message_octets one.batch.nest ++ message_octets two.batch.nest
    join_octets = ap message_octets (sym join_tree) ∙ (joined_tree_lem (grammar_tree one.batch) (grammar_tree two.batch)).own

    -- and the messages themselves, moved.
    pub join_messages : messages g.nest
        ≡ map (moved_message (first_moves one.batch.nest g.nest)) (messages one.batch.nest)
        ++ map (moved_message (second_moves one.batch.nest two.batch.nest g.nest)) (messages two.batch.nest)
    join_messages =
        subst (λ (v : Tree). messages v ≡ map (moved_message (first_moves t v)) (messages t) ++ map (moved_message (second_moves t u v)) (messages u)) join_tree
        (joined_messages (grammar_tree one.batch) (grammar_tree two.batch))

    -- "The rows of a join below the batch's are those of the parts": the first's moved, the second's moved and numbered further by the first's
    -- count less one.
    pub join_rows : drop 1 (batch_rows g.batch)
        ≡ map (moved_row (first_moves one.batch.nest g.nest)) (drop 1 (batch_rows one.batch.batch))
        ++ map (λ (r : Row). renumbered_row (one.rows - 1) (moved_row (second_moves one.batch.nest two.batch.nest g.nest) r)) (drop 1 (batch_rows two.batch.batch))
    join_rows =
        let first = batch_rows one.batch.batch in
        let second = batch_rows two.batch.batch in
        let Below : ℕ → Tree → List Row = λ k v. map (moved_row (first_moves t v)) (drop 1 first) ++ map (λ (r : Row). renumbered_row (k - 1) (moved_row (second_moves t u v) r)) (drop 1 second) in
        subst (λ (v : Tree). (m : Matches (λ x. eqb x e) (content Top) v) → drop 1 (batch_rows m) ≡ Below (length first) v) join_tree
        (joined_rows (grammar_tree one.batch) (grammar_tree two.batch) one.batch.batch two.batch.batch) g.batch
        ∙ ap (λ (k : ℕ). Below k g.nest) (accepted_rows one)

    -- So it has both's rows but one.
    pub join_count : length (batch_rows g.batch) + 1 ≡ one.rows + two.rows
    join_count =
        let first = batch_rows one.batch.batch in
        let second = batch_rows two.batch.batch in
        let d = first_moves t g.nest in
        let place : Row → Row = λ r. renumbered_row (one.rows - 1) (moved_row (second_moves t u g.nest) r) in
        omega (
          arith,
          ap length join_rows,
          length-append (map (moved_row d) (drop 1 first)) (map place (drop 1 second)),
          length-map (drop 1 first) (moved_row d),
          length-map (drop 1 second) place,
          length-drop 1 first,
          length-drop 1 second,
          length-drop 1 (batch_rows g.batch),
          rows_some one.batch.batch,
          rows_some two.batch.batch,
          rows_some g.batch,
          accepted_rows one,
          accepted_rows two,
        )
