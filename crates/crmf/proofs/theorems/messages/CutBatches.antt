-- A message cut out of a batch makes a batch of its own. It stands after that batch's header, never later than before, so the message that was
-- cut is that message moved forward. Assumes nothing.
use Prim.Native.Nat.{ℕ, ◌+◌, ◌-◌, ◌≤◌}
use native.Mathlib.Omega.{arith}
use mathlib.Core.Path.{◌≡◌, refl, sym, ap, ◌∙◌, subst}
use mathlib.Core.Bool.{Bool, true}
use mathlib.Core.List.Memᴰ
use mathlib.Core.List.{List, [], ◌∷◌, map, append-nil, flat_map, Memᴰ}
use lib.ListN.{length, length-append}
use Rattle.der.specs.meaning.Bounds.{depth}
use Rattle.der.specs.meaning.Tree.{Tree}
use Rattle.der.proofs.Laws.{header_grows}
use Rattle.crmf.specs.meaning.Notation
use Rattle.crmf.specs.meaning.Notation.{Top}
use Rattle.crmf.specs.meaning.Grammar.{content}
use Rattle.crmf.specs.meaning.Language.{Matches}
use Rattle.crmf.specs.meaning.Rows.{batch_rows, all_short}
use Rattle.crmf.specs.meaning.Fields.{Field, octets, moved_field}
use Rattle.crmf.specs.meaning.Messages.{Message, message_of, batch, messages, batch_header, moved_message}
use Rattle.crmf.proofs.theorems.rows.ShortRows.{short_both, short_moved, short_renumbered}
use Rattle.crmf.proofs.theorems.messages.FieldsMatch.{Holding}
use Rattle.crmf.proofs.theorems.messages.FieldLaws.{runs_within}
use Rattle.crmf.proofs.theorems.messages.MessageLaws.{own_fields, message_own, message_moved}
use Rattle.crmf.proofs.theorems.messages.SettledFields.{placed_field, field_further, field_there, settled}
use Rattle.crmf.proofs.theorems.messages.MessageRows.{message_rows, rows_of_messages, message_rows_moved, message_rows_renumbered, rows_below, short_below}
use Rattle.crmf.proofs.theorems.messages.BatchesOfMessages.{BatchTree, BatchWith, own_holding, own_formed, own_run, own_written, batch_from, header_before, batch_from_lem, batch_from_messages, batch_from_fields, batch_from_header}

-- the batch of one message
unfoldable pub cut_tree : Message → Tree
cut_tree m = batch_from (m.own ∷ [])

-- how far its message moves to where it stood before
abbrev pub cut_move : Message → ℕ
cut_move m = m.own.place - batch_header (cut_tree m)

-- if no row of some messages is a long certReqId, none of one message alone is
short_message : {R : ℕ → Bool} (k : ℕ) (fs : List Field) → ((f : Field) → Memᴰ f fs → Holding R 0x30 Notation.Message f)
    → all_short (rows_of_messages (k + 1) fs) ≡ true → (f : Field) → Memᴰ f fs → all_short (message_rows 1 f) ≡ true
unfolding rows_of_messages
short_message k [] each short f n = absurd (Memᴰ.not-nil n)
short_message k (g ∷ fs) each short f (Memᴰ.head e) =
    let own = message_rows (k + 1) g in
    let renumbered = message_rows_renumbered k 1 g (each g (Memᴰ.head refl)) (omega arith) in
    rw e
    (sym (ap all_short renumbered ∙ short_renumbered k (message_rows 1 g)) ∙ (short_both own (rows_of_messages (k + 1 + length own) fs) short).0)
short_message k (g ∷ fs) each short f (Memᴰ.tail n) =
    let own = message_rows (k + 1) g in
    let count : k + 1 + length own ≡ k + length own + 1 = omega arith in
    let rest = (short_both own (rows_of_messages (k + 1 + length own) fs) short).1 in
    short_message (k + length own) fs (λ h i. each h (Memᴰ.tail i)) (subst (λ (j : ℕ). all_short (rows_of_messages j fs) ≡ true) count rest) f n

-- the octets of one of some fields are no more than those of all of them
part_length : (fs : List Field) (f : Field) → Memᴰ f fs → length (octets f) ≤ length (flat_map octets fs)
unfolding flat_map
part_length [] f n = absurd (Memᴰ.not-nil n)
part_length (g ∷ fs) f (Memᴰ.head e) = rw e (omega (arith, length-append (octets g) (flat_map octets fs)))
part_length (g ∷ fs) f (Memᴰ.tail n) = omega (arith, length-append (octets g) (flat_map octets fs), part_length fs f n)

module _ {R : ℕ → Bool} {t : Tree} (b : BatchTree R t) (m : Message) (there : Memᴰ m (messages t)) where
  -- the message's own field is one of those of the batch's messages
  among : Memᴰ m.own (own_fields t)
  among = Memᴰ.map (λ (x : Message). x.own) there

  -- A message of a batch makes a batch.
  pub cut_tree_lem : BatchWith R (octets m.own ∷ []) (cut_tree m)
  unfolding cut_tree
  cut_tree_lem =
      batch_from_lem (m.own ∷ []) (omega arith) (λ f n. rw (Memᴰ.eq_of_singleton n) (own_holding b m.own among))
      (λ f n. rw (Memᴰ.eq_of_singleton n) (own_formed b m.own among))

  -- its header is no longer than the batch's, so the message moves forward
  moved_forward : cut_move m + header_before (m.own ∷ []) ≡ m.own.place
  unfolding cut_tree flat_map
  moved_forward =
      let f = m.own in
      let size : length (flat_map octets (f ∷ [])) ≤ length (batch t).content
      = omega (arith, length-append (octets f) [], part_length (own_fields t) f among, ap length (own_written b)) in
      omega (arith, batch_from_header (f ∷ []), header_grows 0x30 (flat_map octets (f ∷ [])) (batch t).content size, runs_within (batch_header t) (batch t).whole (own_fields t) (own_run b) f among)

  -- so the field there, moved forward, is the message's own
  field_back : moved_field (cut_move m) (placed_field (header_before (m.own ∷ [])) m.own) ≡ m.own
  field_back =
      let f = m.own in
      field_further (cut_move m) (header_before (f ∷ [])) f ∙ ap (λ (p : ℕ). placed_field p f) moved_forward ∙ field_there 19 f (own_formed b f among)

  -- The one message of that batch, moved forward to where it stood, is the message.
  pub cut_message : map (moved_message (cut_move m)) (messages (cut_tree m)) ≡ m ∷ []
  unfolding cut_tree settled
  cut_message =
      let fs = m.own ∷ [] in
      ap (map (moved_message (cut_move m))) (batch_from_messages fs)
      ∙ ap (λ (x : Message). x ∷ [])
      (sym (message_moved (cut_move m) (placed_field (header_before fs) m.own)) ∙ ap message_of field_back ∙ (message_own t m there).1)

  -- If no row of the batch is a long certReqId, none of the cut one's is.
  pub cut_short : {P Q : ℕ → Bool} (mt : Matches P (content Top) t) (mc : Matches Q (content Top) (cut_tree m))
      → all_short (batch_rows mt) ≡ true → all_short (batch_rows mc) ≡ true
  unfolding cut_tree settled rows_of_messages
  cut_short mt mc short =
      let fs = m.own ∷ [] in
      let f = placed_field (header_before fs) m.own in
      let rs = message_rows 1 f in
      let before : all_short (rows_of_messages 1 (own_fields t)) ≡ true
      = ap all_short (sym (rows_below mt depth b.formed)) ∙ short_below mt depth b.formed ∙ short in
      sym (short_below mc depth cut_tree_lem.whole.formed)
      ∙ ap all_short (rows_below mc depth cut_tree_lem.whole.formed ∙ ap (rows_of_messages 1) (batch_from_fields fs) ∙ append-nil rs)
      ∙ sym (ap all_short (message_rows_moved (cut_move m) 1 f) ∙ short_moved (cut_move m) rs)
      ∙ ap (λ (g : Field). all_short (message_rows 1 g)) field_back
      ∙ short_message 0 (own_fields t) (own_holding b) before m.own among
