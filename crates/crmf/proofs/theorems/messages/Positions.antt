-- Elements between two places, one by one, and the message at a position: skipping as many elements as the position says gives the fields of
-- the messages from there on. Assumes nothing.
use Prim.Native.Nat.{ℕ, zero, suc, ◌+◌, ◌≤◌, ◌<◌}
use native.Mathlib.Nat.{eq-or-lt_of_le}
use native.Mathlib.Omega.{arith}
use mathlib.Core.Path.{◌≡◌, refl, sym, ap, ap₂, subst, ◌∙◌}
use mathlib.Core.Logic.{◌⊎◌, inl, inr}
use mathlib.Core.Bool.{Bool}
use mathlib.Core.List.{List, [], ◌∷◌, map}
use mathlib.Core.Option.{some}
use lib.ListN.{length, drop, get_or, get_elem?, length-drop, length-map}
use lib.Seq.{slice, drop-nil}
use borrow.Author.Tests.{le-leb, lt-leb}
use Rattle.der.specs.declared.element.reading.Element.{Element}
use Rattle.der.specs.meaning.Bounds.{depth, longest}
use Rattle.der.specs.meaning.Tree.{Tree, encode, WellFormed, Single}
use Rattle.der.specs.steps.Reading.{reading_at, tree}
use Rattle.der.proofs.Laws.{InOrder, read_at_in_order, read_at_within}
use Rattle.crmf.specs.meaning.Notation.{Top}
use Rattle.crmf.specs.meaning.Grammar.{content}
use Rattle.crmf.specs.meaning.Language.{Matches}
use Rattle.crmf.specs.meaning.Fields.{Field, octets, StandsAt}
use Rattle.crmf.specs.meaning.Messages.{Message, messages}
use Rattle.crmf.specs.steps.Fields.{fields_between, Places}
use Rattle.crmf.specs.steps.Positions.{first_place, elements_read, message_place}
use Rattle.crmf.proofs.theorems.messages.FieldSteps.{field_at, fields_end, fields_at, stands_part}
use Rattle.crmf.proofs.theorems.messages.MessageLaws.{BatchContent, messages_own, messages_formed, messages_stand, at_position}
use Rattle.crmf.proofs.theorems.messages.MessageSteps.{batch_elements}

module _ (s : List ℕ) (at end : ℕ) (lent : Places s at end) where
  -- what is read from a place, whether an element or none
  module _ (x : Element) (read : x ≡ reading_at s at end) where
    between : (at ≤ x.content) × (x.content ≤ x.end) × (x.end ≤ end)
    between = rw read (read_at_within s at end lent.order lent.within lent.short)

    -- it ends at its first place or after it
    pub read_forward : at ≤ x.end
    read_forward = let b = between in omega arith

    -- its content lies in order
    pub content_places : Places s x.content x.end
    content_places = let b = between in record { order = b.1; within = omega (arith, lent.within); short = lent.short }

    -- and so does the part after it
    pub after_places : Places s x.end end
    after_places = let b = between in record { order = b.2; within = lent.within; short = lent.short }

    -- and all from its content on
    pub from_content : Places s x.content end
    from_content = let b = between in record { order = omega arith; within = lent.within; short = lent.short }

  module _ (room : at < end) (x : Element) (read : x ≡ reading_at s at end) where
    -- the next element lies in order
    pub next_in_order : InOrder at end x
    next_in_order = subst (InOrder at end) (sym read) (read_at_in_order s at end room lent.within lent.short)

    -- it is the first of the fields
    pub next_fields : fields_between s at end ≡ field_at s at x ∷ fields_between s x.end end
    next_fields =
        fields_at s at end lent.within lent.short room
        ∙ ap (λ (y : Element). field_at s at y ∷ fields_between s y.end end) (sym read)

    -- one is skipped
    pub skip_next : (n : ℕ) → drop n (fields_between s x.end end) ≡ drop (suc n) (fields_between s at end)
    skip_next n = sym (ap (drop (suc n)) next_fields)

  -- from the end on nothing is skipped
  pub skip_end : (n : ℕ) → end ≤ at → drop n (fields_between s at end) ≡ fields_between s at end
  skip_end n past = let none = fields_end s at end past in rw (none, drop-nil n)

  -- the first field stands at the first place, which is the end if there is none
  pub first_place_lem : first_place end (fields_between s at end) ≡ at
  first_place_lem = by_room (eq-or-lt_of_le lent.order)
    where
      by_room : (at ≡ end) ⊎ (at < end) → first_place end (fields_between s at end) ≡ at
      by_room (inl past) = ap (first_place end) (fields_end s at end (omega arith)) ∙ sym past
      by_room (inr room) = ap (first_place end) (next_fields room (reading_at s at end) refl)

-- The fields after the first ones are those from the first of them on.
pub drop_between : (s : List ℕ) (end n at : ℕ) → Places s at end → let p = first_place end (drop n (fields_between s at end)) in
    Places s p end × (fields_between s p end ≡ drop n (fields_between s at end))
drop_between s end zero at lent =
    let same = sym (first_place_lem s at end lent) in
    (subst (λ (p : ℕ). Places s p end) same lent, ap (λ (p : ℕ). fields_between s p end) (sym same))
drop_between s end (suc n) at lent =
    by_room (drop_between s end n (reading_at s at end).end (after_places s at end lent (reading_at s at end) refl)) (eq-or-lt_of_le lent.order)
  where
    Found : List Field → Type 0
    Found fs = Places s (first_place end fs) end × (fields_between s (first_place end fs) end ≡ fs)

    by_room : Found (drop n (fields_between s (reading_at s at end).end end)) → (at ≡ end) ⊎ (at < end) → Found (drop (suc n) (fields_between s at end))
    by_room later (inl past) =
        let none = fields_end s at end (omega arith) in
        subst Found (sym (skip_end s at end lent (suc n) (omega arith) ∙ none))
        (record { order = omega arith; within = lent.within; short = lent.short }, fields_end s end end (omega arith))
    by_room later (inr room) = subst Found (skip_next s at end lent room (reading_at s at end) refl n) later

-- what comes first after n entries of a list is the one at position n
drop_at : {A B : Type 0} (g : A → B) (l : List A) (n : ℕ) {b : B} {more : List B} → drop n (map g l) ≡ b ∷ more
    → (a : A) × (get_elem? l n ≡ some a) × (g a ≡ b)
drop_at g [] n same = absurd (omega (arith, ap length (sym (drop-nil n) ∙ same)))
drop_at {A} {B} g (a ∷ l) zero {b} same = (a, refl, ap (λ (bs : List B). get_or bs 0 b) same)
drop_at g (a ∷ l) (suc n) same = drop_at g l n same

-- The message at a position stands at a place: it is the first of the fields from there on.
pub record StandsThere (s : List ℕ) (t : Tree) (n p : ℕ) : Type 0 where
  pub message : Message
  pub more : List Field
  pub there : get_elem? (messages t) n ≡ some message
  pub own : message.own ≡ field_at s p (reading_at s p (length s))
  pub first : fields_between s p (length s) ≡ message.own ∷ more
  pub lies : Places s p (length s)

-- the place is found by skipping
pub place_short : (s : List ℕ) (n : ℕ) → length s ≤ longest → message_place s n ≡ first_place (length s) (drop n (elements_read s))
unfolding message_place
place_short s n short = rw (le-leb (length s) longest short, message_place)

-- in an input that is too long there is none
pub place_long : (s : List ℕ) (n : ℕ) → longest < length s → message_place s n ≡ length s
unfolding message_place
place_long s n long = rw (lt-leb (length s) longest long, message_place)

module _ (s : List ℕ) (t : Tree) (read : tree 0 s ≡ t) (short : length s ≤ longest) (encoded : encode t ≡ s) (b : BatchContent t) (n : ℕ) where
  -- from the place on there are the own fields of the messages after the first n
  rest_own : let p = message_place s n in
      Places s p (length s) × (fields_between s p (length s) ≡ drop n (map (λ (m : Message). m.own) (messages t)))
  rest_own =
      let x = reading_at s 0 (length s) in
      let whole : Places s 0 (length s) = record { order = omega arith; within = omega arith; short = short } in
      let own : elements_read s ≡ map (λ (m : Message). m.own) (messages t) = sym (messages_own t ∙ batch_elements s t read short encoded b) in
      let rest = drop_between s (length s) n x.content (from_content s 0 (length s) whole x refl) in
      rw (place_short s n short) (rest.0, rest.1 ∙ ap (drop n) own)

  -- no message is left
  pub position_missing : length s ≤ message_place s n → length (messages t) ≤ n
  position_missing past =
      let own = map (λ (m : Message). m.own) (messages t) in
      let none : drop n own ≡ [] = sym rest_own.1 ∙ fields_end s (message_place s n) (length s) past in
      omega (arith, length-drop n own, ap length none, length-map (messages t) (λ (m : Message). m.own))

  -- or the message at the position is the next
  pub position_there : message_place s n < length s → StandsThere s t n (message_place s n)
  position_there room =
      let p = message_place s n in
      let (lies, rest) = rest_own in
      let first = next_fields s p (length s) lies room (reading_at s p (length s)) refl in
      let (m, here, own) = drop_at (λ (m : Message). m.own) (messages t) n (sym rest ∙ first) in
      record {
        message = m;
        more = fields_between s (reading_at s p (length s)).end (length s);
        there = here;
        own = own;
        first = first ∙ ap (λ (f : Field). f ∷ fields_between s (reading_at s p (length s)).end (length s)) (sym own);
        lies = lies;
      }

-- The octets from the place of the message at a position to the end of what is read there are the message's.
pub message_read : {R : ℕ → Bool} (s : List ℕ) (t : Tree) → encode t ≡ s → Matches R (content Top) t → WellFormed depth 0 t → Single t
    → (n p : ℕ) (found : StandsThere s t n p) → let x = reading_at s p (length s) in
    (p ≤ x.end) × (x.end ≤ length s) × (slice p x.end s ≡ octets found.message.own)
unfolding octets
message_read s t encoded top formed one n p found =
    let x = reading_at s p (length s) in
    let m = found.message in
    let member = at_position (messages t) n m found.there in
    let stands = subst (λ (bs : List ℕ). StandsAt bs m.own.place (octets m.own)) encoded (messages_stand t top formed one m member).own in
    let part = stands_part s m.own stands (messages_formed t top formed one m member).sized in
    let begin : m.own.place ≡ p = ap (λ (f : Field). f.place) found.own in
    let forward : p ≤ x.end = read_forward s p (length s) found.lies x refl in
    let end : m.own.place + m.own.whole ≡ x.end = omega (arith, ap (λ (f : Field). f.whole) found.own) in
    (forward, omega (arith, part.0), ap₂ (λ (i j : ℕ). slice i j s) (sym begin) (sym end) ∙ part.1)
