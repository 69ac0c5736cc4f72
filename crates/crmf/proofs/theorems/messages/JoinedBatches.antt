-- Two batches joined: the messages of the first and then those of the second make a batch. The first's messages and rows move by the growth of
-- the batch's header; the second's move by that header and the first's content, less their own header, and their rows are renumbered. Assumes
-- nothing.
use Prim.Native.Nat.{ℕ, ◌+◌, ◌-◌, ◌≤◌}
use native.Mathlib.Omega.{arith}
use mathlib.Core.Path.{◌≡◌, refl, sym, ap, ap₂, ◌∙◌, subst}
use mathlib.Core.Logic.{◌⊎◌, inl, inr}
use mathlib.Core.Bool.{Bool, true, ◌&&◌}
use mathlib.Core.List.Memᴰ
use mathlib.Core.List.{List, ◌++◌, map, map-append, map-map, flat_map, Memᴰ}
use lib.ListN.{length, length-append, length-map, drop}
use Rattle.der.specs.meaning.Bounds.{depth}
use Rattle.der.specs.meaning.Tree.{Tree}
use Rattle.der.proofs.Laws.{header_grows}
use Rattle.crmf.specs.meaning.Notation.{Top}
use Rattle.crmf.specs.meaning.Grammar.{content}
use Rattle.crmf.specs.meaning.Language.{Matches}
use Rattle.crmf.specs.meaning.Rows.{Row, batch_rows, moved_row, renumbered_row, all_short}
use Rattle.crmf.specs.meaning.Fields.{Field, octets, moved_field}
use Rattle.crmf.specs.meaning.Messages.{Message, message_of, batch, messages, batch_header, message_octets, moved_message}
use Rattle.crmf.proofs.theorems.rows.ShortRows.{short_append, short_mapped, short_moved}
use Rattle.crmf.proofs.theorems.messages.FieldLaws.{octets_append}
use Rattle.crmf.proofs.theorems.messages.MessageLaws.{own_fields, own_messages, messages_of_moved}
use Rattle.crmf.proofs.theorems.messages.SettledFields.{settled, settled_append, settled_moved}
use Rattle.crmf.proofs.theorems.messages.MessageRows.{rows_of_messages, messages_rows_append, messages_rows_moved, messages_rows_renumbered, rows_below, below_count, short_below}
use Rattle.crmf.proofs.theorems.messages.BatchesOfMessages.{BatchTree, BatchWith, octets_own, own_holding, own_formed, own_run, own_some, own_written, batch_from, header_before, batch_from_lem, batch_from_fields, batch_from_header}

-- the batch of the messages of two batches: those of the first and then those of the second
unfoldable pub joined_tree : Tree → Tree → Tree
joined_tree t u = batch_from (own_fields t ++ own_fields u)

-- how far the first's messages move: by the growth of the header
abbrev pub first_move : Tree → Tree → ℕ
first_move t u = batch_header (joined_tree t u) - batch_header t

-- how far the second's do: by the header and the first's content, less their own header
abbrev pub second_move : Tree → Tree → ℕ
second_move t u = batch_header (joined_tree t u) + length (batch t).content - batch_header u

-- what holds of each of some fields, and of each of those after them
both_each : {P : Field → Type 0} (fs gs : List Field) → ((f : Field) → Memᴰ f fs → P f) → ((f : Field) → Memᴰ f gs → P f)
    → (f : Field) → Memᴰ f (fs ++ gs) → P f
both_each {P} fs gs first second f n = by_part (Memᴰ.append_cases fs n)
  where
    by_part : Memᴰ f fs ⊎ Memᴰ f gs → P f
    by_part (inl m) = first f m
    by_part (inr m) = second f m

module _ {R : ℕ → Bool} {t u : Tree} (b : BatchTree R t) (c : BatchTree R u) where
  -- The two batches' messages make a batch of all of them.
  pub joined_tree_lem : BatchWith R (message_octets t ++ message_octets u) (joined_tree t u)
  unfolding joined_tree
  joined_tree_lem =
      let fs = own_fields t in
      let gs = own_fields u in
      let all : map octets (fs ++ gs) ≡ message_octets t ++ message_octets u = map-append octets fs gs ∙ sym (ap₂ (λ (x y : List (List ℕ)). x ++ y) (octets_own t) (octets_own u)) in
      subst (λ (ms : List (List ℕ)). BatchWith R ms (joined_tree t u)) all
      (batch_from_lem (fs ++ gs) (rw length-append (omega (arith, own_some b))) (both_each fs gs (own_holding b) (own_holding c)) (both_each fs gs (own_formed b) (own_formed c)))

  -- the header before all of them is no shorter than the header of either batch
  headers : let h = header_before (own_fields t ++ own_fields u) in (batch_header t ≤ h) × (batch_header u ≤ h)
  headers =
      let all = flat_map octets (own_fields t ++ own_fields u) in
      let size = ap length (octets_append (own_fields t) (own_fields u)) ∙ length-append (flat_map octets (own_fields t)) (flat_map octets (own_fields u)) in (
        header_grows 0x30 (batch t).content all (omega (arith, size, ap length (own_written b))),
        header_grows 0x30 (batch u).content all (omega (arith, size, ap length (own_written c))),
      )

  -- the own fields of the joined batch's messages are those of the two, each moved
  joined_fields : own_fields (joined_tree t u) ≡ map (moved_field (first_move t u)) (own_fields t) ++ map (moved_field (second_move t u)) (own_fields u)
  unfolding joined_tree
  joined_fields =
      let fs = own_fields t in
      let gs = own_fields u in
      let h = header_before (fs ++ gs) in
      let same : batch_header (joined_tree t u) ≡ h = batch_from_header (fs ++ gs) in
      let first : h ≡ first_move t u + batch_header t = omega (arith, same, headers) in
      let second : h + length (flat_map octets fs) ≡ second_move t u + batch_header u = omega (arith, same, headers, ap length (own_written b)) in
      batch_from_fields (fs ++ gs)
      ∙ settled_append 19 h fs gs (own_formed b)
      ∙ ap₂ (λ (x y : List Field). x ++ y)
      (ap (λ (p : ℕ). settled p fs) first ∙ settled_moved (first_move t u) 19 (batch_header t) (batch t).whole fs (own_run b) (own_formed b))
      (ap (λ (p : ℕ). settled p gs) second ∙ settled_moved (second_move t u) 19 (batch_header u) (batch u).whole gs (own_run c) (own_formed c))

  -- The messages of the joined batch are those of the two, each moved.
  pub joined_messages : messages (joined_tree t u) ≡ map (moved_message (first_move t u)) (messages t) ++ map (moved_message (second_move t u)) (messages u)
  joined_messages =
      let fs = own_fields t in
      let gs = own_fields u in
      let d = first_move t u in
      let e = second_move t u in
      sym (own_messages (joined_tree t u))
      ∙ ap (map message_of) joined_fields
      ∙ map-append message_of (map (moved_field d) fs) (map (moved_field e) gs)
      ∙ ap₂ (λ (x y : List Message). x ++ y)
      (messages_of_moved d fs ∙ ap (map (moved_message d)) (own_messages t))
      (messages_of_moved e gs ∙ ap (map (moved_message e)) (own_messages u))

  module _ {P Q S : ℕ → Bool} (mt : Matches P (content Top) t) (mu : Matches Q (content Top) u) (mv : Matches S (content Top) (joined_tree t u)) where
    -- The rows below the joined batch's are those below the two batches', the first's moved, and the second's moved and renumbered.
    pub joined_rows : drop 1 (batch_rows mv)
        ≡ map (moved_row (first_move t u)) (drop 1 (batch_rows mt))
        ++ map (λ (r : Row). renumbered_row (length (batch_rows mt) - 1) (moved_row (second_move t u) r)) (drop 1 (batch_rows mu))
    joined_rows =
        let fs = own_fields t in
        let gs = own_fields u in
        let d = first_move t u in
        let e = second_move t u in
        let k = length (batch_rows mt) - 1 in
        let below = rows_of_messages 1 fs in
        let further = rows_of_messages 1 gs in
        let before = rows_of_messages 1 (map (moved_field d) fs) in
        let first : before ≡ map (moved_row d) below = messages_rows_moved d 1 fs in
        let count : 1 + length before ≡ k + 1 = omega (arith, ap length first, length-map below (moved_row d), below_count mt depth b.formed) in
        rows_below mv depth joined_tree_lem.whole.formed
        ∙ ap (rows_of_messages 1) joined_fields
        ∙ messages_rows_append 1 (map (moved_field d) fs) (map (moved_field e) gs)
        ∙ ap₂ (λ (x y : List Row). x ++ y)
        (first ∙ ap (map (moved_row d)) (sym (rows_below mt depth b.formed)))
        (ap (λ (n : ℕ). rows_of_messages n (map (moved_field e) gs)) count
        ∙ messages_rows_moved e (k + 1) gs
        ∙ ap (map (moved_row e)) (messages_rows_renumbered k 1 gs (own_holding c) (omega arith))
        ∙ map-map (moved_row e) (renumbered_row k) further
        ∙ ap (map (λ (r : Row). renumbered_row k (moved_row e r))) (sym (rows_below mu depth c.formed)))

    -- If none of theirs is a long certReqId, none of the joined batch's rows is one.
    pub joined_short : all_short (batch_rows mt) ≡ true → all_short (batch_rows mu) ≡ true → all_short (batch_rows mv) ≡ true
    joined_short short brief =
        let rs = drop 1 (batch_rows mt) in
        let qs = drop 1 (batch_rows mu) in
        let d = first_move t u in
        let place : Row → Row = λ r. renumbered_row (length (batch_rows mt) - 1) (moved_row (second_move t u) r) in
        sym (short_below mv depth joined_tree_lem.whole.formed)
        ∙ ap all_short joined_rows
        ∙ short_append (map (moved_row d) rs) (map place qs)
        ∙ ap₂ (λ (x y : Bool). x && y)
        (short_moved d rs ∙ short_below mt depth b.formed ∙ short)
        (short_mapped place (λ r. refl) qs ∙ short_below mu depth c.formed ∙ brief)
