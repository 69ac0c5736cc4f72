-- Joining and cutting have one answer, and one output afterwards, for every input; a refusal leaves the output as it was. Assumes nothing.
use Prim.Native.Nat.{ℕ, ◌≤◌}
use native.Mathlib.Omega.{arith}
use mathlib.Core.Path.{◌≡◌, refl, sym, ap, ap₂, ◌∙◌}
use mathlib.Core.List.{List}
use mathlib.Core.Option.{some, some-injective}
use lib.ListN.{length, get_elem?}
use Rattle.der.specs.meaning.Octets.{Octets}
use Rattle.der.specs.meaning.Refusal.{accepted}
use Rattle.crmf.specs.meaning.Lists.{over}
use Rattle.crmf.specs.meaning.Messages.{Message, messages}
use Rattle.crmf.proofs.Laws.{position_within}
use Rattle.editions.proofs.Laws.{answers_once, not_refused, one_nest}
use Rattle.editions.specs.meaning.TwoBatches.{Accepted}
use Rattle.writer.specs.meaning.Joins.{join, joined, Joins, first_refused, second_refused, too_long, no_room, written}
use Rattle.writer.specs.meaning.Cuts.{cut, Cuts, refused, missing}
use Rattle.writer.specs.meaning.Cuts as cuts

-- the messages of an accepted batch
pub same_messages : {e : ℕ} {s : List ℕ} (a b : Accepted e s) → messages a.batch.nest ≡ messages b.batch.nest
same_messages {s = s} a b = ap messages (one_nest s a.batch b.batch)

-- two accepted batches have one join
same_join : {e : ℕ} {first second : List ℕ} (one one' : Accepted e first) (two two' : Accepted e second) → joined one two ≡ joined one' two'
same_join {first = first} {second} one one' two two' = ap₂ join (one_nest first one.batch one'.batch) (one_nest second two.batch two'.batch)

-- Two answers, each with a number, a place, a file, a count and an output afterwards, are the same.
pub record Same (n p f c n' p' f' c' : ℕ) (new new' : List ℕ) : Type 0 where
  pub number : n ≡ n'
  pub place : p ≡ p'
  pub file : f ≡ f'
  pub count : c ≡ c'
  pub output : new ≡ new'

module _ {e : ℕ} {first second old : List ℕ} (octets : Octets first) (more : Octets second) where
  -- Joining has one answer and one output.
  pub joins_once : {n p f c n' p' f' c' : ℕ} {new new' : List ℕ} → Joins e first second old n p f c new → Joins e first second old n' p' f' c' new'
      → Same n p f c n' p' f' c' new new'
  joins_once (first_refused {number = n} {place = p} {count = c} a other) (first_refused {number = n'} {place = p'} {count = c'} b another) =
      let (number, place, count) = answers_once e first octets n p c n' p' c' a b in
      record { number = number; place = place; file = refl; count = refl; output = refl }
  joins_once (first_refused a other) (second_refused one b another) = absurd (not_refused octets one a other)
  joins_once (first_refused a other) (too_long one two long) = absurd (not_refused octets one a other)
  joins_once (first_refused a other) (no_room one two fits short) = absurd (not_refused octets one a other)
  joins_once (first_refused a other) (written one two fits room) = absurd (not_refused octets one a other)
  joins_once (second_refused one a other) (first_refused b another) = absurd (not_refused octets one b another)
  joins_once (second_refused {number = n} {place = p} {count = c} one a other) (second_refused {number = n'} {place = p'} {count = c'} one' b another) =
      let (number, place, count) = answers_once e second more n p c n' p' c' a b in
      record { number = number; place = place; file = refl; count = refl; output = refl }
  joins_once (second_refused one a other) (too_long one' two long) = absurd (not_refused more two a other)
  joins_once (second_refused one a other) (no_room one' two fits short) = absurd (not_refused more two a other)
  joins_once (second_refused one a other) (written one' two fits room) = absurd (not_refused more two a other)
  joins_once (too_long one two long) (first_refused b another) = absurd (not_refused octets one b another)
  joins_once (too_long one two long) (second_refused one' b another) = absurd (not_refused more two b another)
  joins_once (too_long one two long) (too_long one' two' past) = record { number = refl; place = refl; file = refl; count = refl; output = refl }
  joins_once (too_long one two long) (no_room one' two' fits short) = absurd (omega (arith, ap length (same_join one one' two two')))
  joins_once (too_long one two long) (written one' two' fits room) = absurd (omega (arith, ap length (same_join one one' two two')))
  joins_once (no_room one two fits short) (first_refused b another) = absurd (not_refused octets one b another)
  joins_once (no_room one two fits short) (second_refused one' b another) = absurd (not_refused more two b another)
  joins_once (no_room one two fits short) (too_long one' two' past) = absurd (omega (arith, ap length (same_join one one' two two')))
  joins_once (no_room one two fits short) (no_room one' two' fit little) = record { number = refl; place = refl; file = refl; count = refl; output = refl }
  joins_once (no_room one two fits short) (written one' two' fit room) = absurd (omega (arith, ap length (same_join one one' two two')))
  joins_once (written one two fits room) (first_refused b another) = absurd (not_refused octets one b another)
  joins_once (written one two fits room) (second_refused one' b another) = absurd (not_refused more two b another)
  joins_once (written one two fits room) (too_long one' two' past) = absurd (omega (arith, ap length (same_join one one' two two')))
  joins_once (written one two fits room) (no_room one' two' fit short) = absurd (omega (arith, ap length (same_join one one' two two')))
  joins_once (written one two fits room) (written one' two' fit enough) =
      let same = same_join one one' two two' in
      record { number = refl; place = refl; file = refl; count = ap length same; output = ap (over old 0) same }

-- A refusal of a join leaves the output as it was, and its count is 0.
pub join_stays : {e : ℕ} {first second old new : List ℕ} {n p f c : ℕ} → Joins e first second old n p f c new → (n ≡ accepted → ⊥)
    → (new ≡ old) × (c ≡ 0)
join_stays (first_refused a other) refusing = (refl, refl)
join_stays (second_refused one a other) refusing = (refl, refl)
join_stays (too_long one two long) refusing = (refl, refl)
join_stays (no_room one two fits short) refusing = (refl, refl)
join_stays (written one two fits room) refusing = absurd (refusing refl)

module _ {e : ℕ} {s : List ℕ} (position : ℕ) (a b : Accepted e s) where
  -- the message at a position is the same
  same_message : (m k : Message) → get_elem? (messages a.batch.nest) position ≡ some m → get_elem? (messages b.batch.nest) position ≡ some k → m ≡ k
  same_message m k here there =
      some-injective m k (sym here ∙ ap (λ (l : List Message). get_elem? l position) (same_messages a b) ∙ there)

  -- it isn't missing
  gone : {m : Message} → length (messages a.batch.nest) ≤ position → get_elem? (messages b.batch.nest) position ≡ some m → ⊥
  gone past there = omega (arith, past, ap length (same_messages a b), position_within (messages b.batch.nest) position there)

module _ {e : ℕ} {s : List ℕ} (position : ℕ) (octets : Octets s) where
  -- Cutting has one answer and one output.
  pub cuts_once : {old : List ℕ} {n p c n' p' c' : ℕ} {new new' : List ℕ} → Cuts e s position old n p c new → Cuts e s position old n' p' c' new'
      → Same n p 0 c n' p' 0 c' new new'
  cuts_once (refused {number = n} {place = p} {count = c} a other) (refused {number = n'} {place = p'} {count = c'} b another) =
      let (number, place, count) = answers_once e s octets n p c n' p' c' a b in
      record { number = number; place = place; file = refl; count = refl; output = refl }
  cuts_once (refused a other) (missing b past) = absurd (not_refused octets b a other)
  cuts_once (refused a other) (cuts.no_room b m there short) = absurd (not_refused octets b a other)
  cuts_once (refused a other) (cuts.written b m there room) = absurd (not_refused octets b a other)
  cuts_once (missing a past) (refused b another) = absurd (not_refused octets a b another)
  cuts_once (missing a past) (missing b beyond) = record { number = refl; place = refl; file = refl; count = refl; output = refl }
  cuts_once (missing a past) (cuts.no_room b m there short) = absurd (gone position a b past there)
  cuts_once (missing a past) (cuts.written b m there room) = absurd (gone position a b past there)
  cuts_once (cuts.no_room a m here short) (refused b another) = absurd (not_refused octets a b another)
  cuts_once (cuts.no_room a m here short) (missing b past) = absurd (gone position b a past here)
  cuts_once (cuts.no_room a m here short) (cuts.no_room b k there little) = record { number = refl; place = refl; file = refl; count = refl; output = refl }
  cuts_once (cuts.no_room a m here short) (cuts.written b k there room) = absurd (omega (arith, ap (λ (x : Message). length (cut x)) (same_message position a b m k here there)))
  cuts_once (cuts.written a m here room) (refused b another) = absurd (not_refused octets a b another)
  cuts_once (cuts.written a m here room) (missing b past) = absurd (gone position b a past here)
  cuts_once (cuts.written a m here room) (cuts.no_room b k there short) = absurd (omega (arith, ap (λ (x : Message). length (cut x)) (same_message position a b m k here there)))
  cuts_once {old} (cuts.written a m here room) (cuts.written b k there enough) =
      let same = ap cut (same_message position a b m k here there) in
      record { number = refl; place = refl; file = refl; count = ap length same; output = ap (over old 0) same }

-- A refusal of a cut leaves the output as it was, and its count is 0.
pub cut_stays : {e : ℕ} {s old new : List ℕ} {position n p c : ℕ} → Cuts e s position old n p c new → (n ≡ accepted → ⊥) → (new ≡ old) × (c ≡ 0)
cut_stays (refused a other) refusing = (refl, refl)
cut_stays (missing a past) refusing = (refl, refl)
cut_stays (cuts.no_room a m there short) refusing = (refl, refl)
cut_stays (cuts.written a m there room) refusing = absurd (refusing refl)
