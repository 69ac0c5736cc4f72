-- The walk over an accepted batch's messages from place to place. Each step reads a message, whose certReqId has 1 to 8 content octets; if no
-- room is left for it, there are more messages than there is room for. There are never more than the most that there is. Assumes nothing.
use Prim.Native.Nat.{ℕ, ◌+◌, ◌-◌, ◌≤◌, ◌<◌}
use native.Mathlib.Numerals.{add-one}
use native.Mathlib.Omega.{arith}
use mathlib.Core.Path.{◌≡◌, refl, sym, ap, ◌∙◌}
use mathlib.Core.Bool.{Bool, true}
use mathlib.Core.List.{List, [], ◌∷◌, ◌++◌, map, append-nil, append_assoc, Memᴰ}
use Rattle.std.specs.Prelude.{Option, Some, None}
use Rattle.std.specs.Option.{IsSome}
use borrow.Author.Rules.{rules}
use Rattle.std.proofs.lemmas.List.{map-append}
use lib.IntN.{ℤ}
use lib.ListN.{length, length-map, length-append, length-set, take, set}
use lib.Seq.{slice, length-slice, length-take-le, take-suc-set}
use Rattle.der.specs.meaning.Octets.{Octets}
use Rattle.der.specs.meaning.Tree.{Tree, WellFormed, Single, encode}
use Rattle.der.specs.meaning.Bounds.{depth, longest}
use Rattle.der.specs.steps.Reading.{reading_at, tree}
use Rattle.der.proofs.Laws.{read_at_in_order}
use Rattle.crmf.specs.meaning.Notation.{Top}
use Rattle.crmf.specs.meaning.Grammar.{content}
use Rattle.crmf.specs.meaning.Language.{Matches}
use Rattle.crmf.specs.meaning.Rows.{batch_rows, all_short}
use Rattle.crmf.specs.meaning.Fields.{Field}
use Rattle.crmf.specs.steps.Fields.{fields_between}
use Rattle.crmf.specs.meaning.Messages.{Message, message_of, messages}
use Rattle.crmf.proofs.Laws.{MessageParts, batch_content, message_parts, field_read, fields_end, fields_at, id_read, batch_read, ids_some, ids_eight, messages_few}
use Rattle.editions.proofs.Laws.{nest_read, accepted_in_lem}
use Rattle.verdict.specs.meaning.Duplicates.{signed, own_ids}
use Rattle.verdict.specs.declared.duplicates.Pair.{Pair}
use Rattle.verdict.specs.declared.duplicates.ReqId.{ReqId}
use Rattle.verdict.specs.steps.SearchAnswer.{ids, numbers_of}
use Rattle.verdict.specs.steps.Collecting.{Accepted, Collected, id_in, Short}
use Rattle.verdict.specs.steps.Sizes.{most_messages, Tried}

-- the messages from a place on
abbrev pub messages_from : List ℕ → ℕ → List Message
messages_from s p = map message_of (fields_between s p (length s))

-- What is known of the messages of an accepted batch.
pub record Known (s : List ℕ) : Type 0 where
  pub high : length s ≤ longest
  pub start : messages (tree 0 s) ≡ messages_from s (reading_at s 0 (length s)).content
  pub parts : (m : Message) → Memᴰ m (messages (tree 0 s)) → MessageParts m
  pub some : (m : Message) → Memᴰ m (messages (tree 0 s)) → 1 ≤ length m.cert_req_id.content
  pub eight : (m : Message) → Memᴰ m (messages (tree 0 s)) → length m.cert_req_id.content ≤ 8
  pub few : length (messages (tree 0 s)) ≤ most_messages

-- by the tree that the bytes are read as
known_tree : {R : ℕ → Bool} (s : List ℕ) (t : Tree) → tree 0 s ≡ t → length s ≤ longest → (top : Matches R (content Top) t)
    → WellFormed depth 0 t → Single t → encode t ≡ s → all_short (batch_rows top) ≡ true → Known s
known_tree s t same high top formed single encoded short =
    record {
      high = high;
      start = batch_read s high (rw same encoded) (rw same (batch_content t top formed single));
      parts = rw same (message_parts t top formed single);
      some = rw same (ids_some t top formed single);
      eight = rw same (ids_eight t top formed single short);
      few = rw same (omega (arith, messages_few t top formed single, ap length encoded));
    }

-- This is known of what is accepted.
pub accepted_known : (s : List ℕ) → Octets s → Accepted s → Known s
accepted_known s octets a =
    let (g, short) = accepted_in_lem a.edition s octets a.zero in
    known_tree s g.nest (nest_read s g) g.short g.batch g.formed g.single g.encoded short

-- the number of a message
abbrev pub id_of : Message → ℤ
id_of m = signed m.cert_req_id.content

-- from the end on there are none
pub none_from : (s : List ℕ) (p : ℕ) → length s ≤ p → messages_from s p ≡ []
none_from s p past = ap (map message_of) (fields_end s p (length s) past)

-- What a step reads: the first message, its certReqId's place, and the messages after it.
pub record Step (s : List ℕ) (p : ℕ) : Type 0 where
  pub message : Message
  pub split : messages_from s p ≡ message ∷ messages_from s (reading_at s p (length s)).end
  pub short : let x = reading_at s p (length s) in Short s (id_in s x.content x.end)
  pub number : let x = reading_at s p (length s) in let z = id_in s x.content x.end in signed (slice z.content z.end s) ≡ id_of message
  pub onward : p < (reading_at s p (length s)).end
  pub within : (reading_at s p (length s)).end ≤ length s

-- Each message from a place on is one of the batch's.
abbrev pub Among : List ℕ → ℕ → Type 0
Among s p = (m : Message) → Memᴰ m (messages_from s p) → Memᴰ m (messages (tree 0 s))

-- Before the end, a message is read.
pub step : (s : List ℕ) (p : ℕ) → Known s → Among s p → p < length s → Step s p
step s p k among some =
    let n = length s in
    let x = reading_at s p n in
    let y = reading_at s x.content x.end in
    let z = reading_at s y.content y.end in
    let m = message_of (field_read s p n) in
    let split : messages_from s p ≡ m ∷ messages_from s x.end = ap (map message_of) (fields_at s p n (omega arith) k.high some) in
    let at : Memᴰ m (messages (tree 0 s)) = among m (rw split (mathlib.Core.List.Memᴰ.head refl)) in
    let read = id_read s p n some (omega arith) k.high (k.parts m at) in
    let order = read_at_in_order s p n some (omega arith) k.high in
    let inner = read_at_in_order s y.content y.end read.there.0 read.there.1 k.high in
    let within : z.end ≤ n = omega (arith, read.there.1) in
    let octets : slice z.content z.end s ≡ m.cert_req_id.content = ap (λ (f : Field). f.content) (sym read.same) in
    let size : length m.cert_req_id.content ≡ z.end - z.content = ap length (sym octets) ∙ length-slice z.content z.end s within in
    record {
      message = m;
      split = split;
      short = record { some = omega (arith, k.some m at); eight = omega (arith, k.eight m at); within = within };
      number = ap signed octets;
      onward = omega arith;
      within = omega arith;
    }

-- How far the walk is: `count` certReqIds are collected in the room, and the messages from a place on are left.
pub record Walk (s : List ℕ) (room : List ReqId) (at count : ℕ) : Type 0 where
  pub counted : count ≤ length room
  pub same : numbers_of (take count room) ++ map id_of (messages_from s at) ≡ ids s
  pub among : Among s at

-- the walk begins
pub walk_start : (s : List ℕ) (room : List ReqId) → Known s → Walk s room (reading_at s 0 (length s)).content 0
unfolding ids own_ids
walk_start s room k =
    record {
      counted = omega arith;
      same = ap (map id_of) (sym k.start);
      among = λ m at. rw k.start at;
    }

module _ (s : List ℕ) (room : List ReqId) (at count : ℕ) (w : Walk s room at count) where
  -- the walk ends
  pub walk_end : length s ≤ at → Collected s room (Some count)
  walk_end past = (
    w.counted,
    sym (append-nil (numbers_of (take count room)))
        ∙ ap (λ (ms : List Message). numbers_of (take count room) ++ map id_of ms) (sym (none_from s at past))
        ∙ w.same,
  )

  module _ (next : Step s at) where
    -- there is no room left
    pub walk_full : count ≡ length room → Collected s room None
    walk_full full =
        let front : length (take count room) ≡ count = length-take-le count room w.counted in
        let all : length (numbers_of (take count room)) + length (map id_of (messages_from s at)) ≡ length (ids s) =
        sym (length-append (numbers_of (take count room)) (map id_of (messages_from s at))) ∙ ap length w.same in
        omega (arith, length-map (take count room) (λ (id : ReqId). id.0), length-map (messages_from s at) id_of, ap length next.split)

    -- the next message's certReqId is collected
    pub walk_more : count < length room → (id : ReqId) → id.0 ≡ id_of next.message → Walk s (set room count id) (reading_at s at (length s)).end (count + 1)
    walk_more within id is =
        let rest = messages_from s (reading_at s at (length s)).end in
        let front = take count room in
        let here : numbers_of (take (count + 1) (set room count id)) ≡ numbers_of front ++ (id.0 ∷ []) =
        rw (add-one, take-suc-set room count id within) (map-append (λ (y : ReqId). y.0) front (id ∷ [])) in
        record {
          counted = omega (arith, length-set room count id);
          same = ap (λ (l : List ℤ). l ++ map id_of rest) here
              ∙ append_assoc (numbers_of front) (id.0 ∷ []) (map id_of rest)
              ∙ ap (λ (y : ℤ). numbers_of front ++ (y ∷ map id_of rest)) is
              ∙ ap (λ (ms : List Message). numbers_of front ++ map id_of ms) (sym next.split)
              ∙ w.same;
          among = λ m n. w.among m (rw next.split (mathlib.Core.List.Memᴰ.tail n));
        }

-- There are no more messages than there is room for at last.
pub accepted_few : (s : List ℕ) → Octets s → Accepted s → length (ids s) ≤ most_messages
unfolding ids own_ids
accepted_few s octets a = omega (arith, (accepted_known s octets a).few, length-map (messages (tree 0 s)) id_of)

-- So with room for that many a try always answers.
pub room_enough : (s : List ℕ) → Octets s → Accepted s → (found : Option (Option Pair)) → Tried most_messages s found → IsSome found
room_enough s octets a (Some found) tried = search rules
room_enough s octets a None tried = absurd (omega (arith, tried, accepted_few s octets a))
