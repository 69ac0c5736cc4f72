-- "Cutting at every position and joining again gives the original" (document 02's request A13), by what the calls answer and in any grouping. What
-- comes of cutting at every position is the cuts of the batch's messages, and they have the batch's messages. Assumes nothing.
use Prim.Native.Nat.{ℕ, zero, suc, ◌≤◌}
use native.Mathlib.Omega.{arith}
use mathlib.Core.Path.{◌≡◌, refl, sym, ap, ap₂, subst, ◌∙◌}
use mathlib.Core.List.{List, [], ◌∷◌, ◌++◌, map, flat_map, Memᴰ}
use mathlib.Core.Option.{some, none-ne-some, some-injective}
use lib.ListN.{length, get_elem?, length-map}
use Rattle.der.specs.meaning.Bounds.{longest}
use Rattle.der.specs.meaning.Refusal.{accepted, no_such_message}
use Rattle.der.specs.steps.Reading.{tree}
use Rattle.crmf.specs.meaning.Fields.{octets}
use Rattle.crmf.specs.meaning.Lists.{over}
use Rattle.crmf.specs.meaning.Messages.{Message, messages, message_octets, batch_octets}
use Rattle.crmf.proofs.Laws.{messages_octets}
use Rattle.editions.proofs.Laws.{related_number, grammar_octets}
use Rattle.editions.specs.meaning.TwoBatches.{Accepted}
use Rattle.writer.specs.meaning.Cuts.{cut, Cuts, refused, missing, no_room, written}
use Rattle.writer.specs.meaning.Groupings.{Grouping, batches, grouped, whole, Gives, CutUp}
use Rattle.writer.proofs.theorems.Cutting.{cut_accepted, cut_octets}
use Rattle.writer.proofs.theorems.Grouping.{read_octets, grouped_read, any_grouping, over_all}
use Rattle.writer.proofs.theorems.OneAnswer.{same_messages}

-- what a list's entries are made into, at a position
map_at : {A B : Type 0} (f : A → B) (l : List A) (n : ℕ) {b : B} → get_elem? (map f l) n ≡ some b → (a : A) × (get_elem? l n ≡ some a) × (f a ≡ b)
map_at f [] n {b} found = absurd (none-ne-some b found)
map_at f (a ∷ l) zero {b} found = (a, refl, some-injective (f a) b found)
map_at f (a ∷ l) (suc n) found = map_at f l n found

-- Cutting an accepted batch at every position gives the cuts of its messages.
pub cut_up : {e : ℕ} {s : List ℕ} (a : Accepted e s) → CutUp e s (map cut (messages a.batch.nest))
cut_up {e} {s} a =
    let ms = messages a.batch.nest in
    record {
      each = λ n c found old room.
          let (m, there, same) = map_at cut ms n found in
          subst (λ (x : List ℕ). length x ≤ length old → Cuts e s n old accepted 0 (length x) (over old 0 x)) same (written a m there) room;
      ends = λ old. missing a (omega (arith, length-map ms cut));
    }

-- What an answer with 0 says: the batch is accepted, and the output is the cut of the message there.
record CutOut (e : ℕ) (s : List ℕ) (position : ℕ) (old : List ℕ) (count : ℕ) (new : List ℕ) : Type 0 where
  batch : Accepted e s
  message : Message
  there : get_elem? (messages batch.batch.nest) position ≡ some message
  counted : length (cut message) ≡ count
  output : over old 0 (cut message) ≡ new

cut_out : {e : ℕ} {s old new : List ℕ} {position number place count : ℕ} → Cuts e s position old number place count new → number ≡ accepted
    → CutOut e s position old count new
cut_out (refused answer other) none = absurd (other none)
cut_out (missing a past) none = absurd (omega (arith, none))
cut_out (no_room a m there short) none = absurd (omega (arith, none))
cut_out (written a m there room) none = record { batch = a; message = m; there = there; counted = refl; output = refl }

-- and one with 14: the batch is accepted, and has no message there
none_there : {e : ℕ} {s old new : List ℕ} {position number place count : ℕ} → Cuts e s position old number place count new → number ≡ no_such_message
    → (a : Accepted e s) × (length (messages a.batch.nest) ≤ position)
none_there (refused answer other) is = absurd (omega (arith, is, related_number answer))
none_there (missing a past) is = (a, past)
none_there (no_room a m there short) is = absurd (omega (arith, is))
none_there (written a m there room) is = absurd (omega (arith, is))

-- a list whose entries are made from another's, position by position
made_from : {A B : Type 0} (f : A → B) (xs : List A) (bs : List B) → ((n : ℕ) (b : B) → get_elem? bs n ≡ some b → (a : A) × (get_elem? xs n ≡ some a) × (f a ≡ b))
    → length xs ≤ length bs → bs ≡ map f xs
made_from f [] [] each all = refl
made_from f (a ∷ xs) [] each all = absurd (omega arith)
made_from f [] (b ∷ bs) each all = let (a, there, same) = each 0 b refl in absurd (none-ne-some a there)
made_from {A} {B} f (a ∷ xs) (b ∷ bs) each all =
    let (y, there, same) = each 0 b refl in
    ap₂ (λ (c : B) (cs : List B). c ∷ cs) (sym same ∙ ap f (sym (some-injective a y there))) (made_from f xs bs (λ n c found. each (suc n) c found) (omega arith))

-- Whatever comes of cutting at every position is the cuts of the messages.
pub cut_apart : {e : ℕ} {s : List ℕ} {cs : List (List ℕ)} → CutUp e s cs → (a : Accepted e s) × (cs ≡ map cut (messages a.batch.nest))
cut_apart {e} {s} {cs} up =
    let (a, past) = none_there (up.ends []) refl in
    let ms = messages a.batch.nest in
    let each : (n : ℕ) (c : List ℕ) → get_elem? cs n ≡ some c → (m : Message) × (get_elem? ms n ≡ some m) × (cut m ≡ c) =
    λ n c found.
    let out = cut_out (up.each n c found c (omega arith)) refl in
    let same = ap (λ (l : List Message). get_elem? l n) (same_messages a out.batch) in
    let bytes = sym (over_all c (cut out.message) (omega (arith, out.counted))) ∙ out.output ∙ over_all c c (omega arith) in
    (out.message, same ∙ out.there, bytes) in
    (a, made_from cut ms cs each past)

-- the messages that the cuts are read as are the messages that were cut
cuts_read : {e : ℕ} {s : List ℕ} (a : Accepted e s) (ms : List Message) → ((m : Message) → Memᴰ m ms → Memᴰ m (messages a.batch.nest))
    → flat_map (λ (c : List ℕ). message_octets (tree 0 c)) (map cut ms) ≡ map (λ (m : Message). octets m.own) ms
unfolding flat_map
cuts_read a [] each = refl
cuts_read a (m ∷ ms) each =
    let there = each m (Memᴰ.head refl) in
    let own = sym (read_octets (cut_accepted a m there)) ∙ cut_octets a m there (cut_accepted a m there).batch in
    ap₂ (λ (x y : List (List ℕ)). x ++ y) own (cuts_read a ms (λ k n. each k (Memᴰ.tail n)))

-- Joined again, in any grouping, they give the batch.
pub cut_again : {e : ℕ} {s : List ℕ} {cs : List (List ℕ)} → CutUp e s cs → (g : Grouping e) → batches g ≡ cs → Gives g s
cut_again {e} {s} {cs} up g same =
    let (a, cut_of) = cut_apart up in
    let ms = messages a.batch.nest in
    let all : grouped g ≡ message_octets a.batch.nest =
    grouped_read g ∙ ap (flat_map (λ (c : List ℕ). message_octets (tree 0 c))) (same ∙ cut_of) ∙ cuts_read a ms (λ m n. n) ∙ sym (messages_octets a.batch.nest) in
    let bytes : whole g ≡ s = ap batch_octets all ∙ grammar_octets a.batch in
    subst (Gives g) bytes (any_grouping g (subst (λ (l : List ℕ). length l ≤ longest) (sym bytes) a.batch.short))
