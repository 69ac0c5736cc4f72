-- Joining in any grouping (document 02's request A13): if the whole is not too long, every call within it is answered with 0, and what comes out is
-- the whole, whatever the grouping; otherwise a call within it is refused with 1. Assumes nothing.
use Prim.Native.Nat.{ℕ, ◌+◌, ◌≤◌, ◌<◌}
use native.Mathlib.Nat.{le_trans}
use native.Mathlib.Omega.{arith}
use mathlib.Core.Path.{◌≡◌, refl, sym, ap, ap₂, subst, ◌∙◌}
use mathlib.Core.Bool.{Bool, true, false}
use mathlib.Core.List.{List, [], ◌∷◌, ◌++◌, flat_map, append-nil, append_assoc}
use lib.Dec.{leb}
use lib.ListN.{length, drop, drop_of_length-le}
use borrow.Author.Tests.{leb-true, leb-false}
use Rattle.der.specs.meaning.Bounds.{longest}
use Rattle.der.specs.meaning.Refusal.{accepted}
use Rattle.der.specs.steps.Reading.{tree}
use Rattle.crmf.specs.meaning.Lists.{over}
use Rattle.crmf.specs.meaning.Messages.{message_octets, batch_octets}
use Rattle.crmf.proofs.Laws.{batch_octets_left, batch_octets_right, over_parts}
use Rattle.editions.proofs.Laws.{nest_read, grammar_octets}
use Rattle.editions.specs.meaning.TwoBatches.{Accepted, neither_file}
use Rattle.writer.specs.meaning.Joins.{join, joined, Joins, first_refused, second_refused, too_long, no_room, written}
use Rattle.writer.specs.meaning.Groupings.{Grouping, alone, both, batches, grouped, whole, Gives, by_itself, by_call, TooLongWithin, here, on_the_left, on_the_right}
use Rattle.writer.proofs.theorems.Joining.{join_accepted, join_octets}

-- the messages of an accepted batch are those that its bytes are read as
pub read_octets : {e : ℕ} {s : List ℕ} (a : Accepted e s) → message_octets a.batch.nest ≡ message_octets (tree 0 s)
read_octets {s = s} a = ap message_octets (sym (nest_read s a.batch))

-- An accepted batch with some messages.
pub record With (e : ℕ) (ms : List (List ℕ)) (s : List ℕ) : Type 0 where
  pub batch : Accepted e s
  pub own : message_octets batch.batch.nest ≡ ms

-- two such batches are joined into one
joined_with : {e : ℕ} {ms ns : List (List ℕ)} {s t : List ℕ} (a : With e ms s) (b : With e ns t)
    → (joined a.batch b.batch ≡ batch_octets (ms ++ ns)) × (length (batch_octets (ms ++ ns)) ≤ longest → With e (ms ++ ns) (batch_octets (ms ++ ns)))
unfolding join
joined_with {e} {ms} {ns} a b =
    let both_own = ap₂ (λ (x y : List (List ℕ)). x ++ y) a.own b.own in
    let same : joined a.batch b.batch ≡ batch_octets (ms ++ ns) = ap batch_octets both_own in (
      same,
      λ fits.
          let c = join_accepted a.batch b.batch (subst (λ (l : List ℕ). length l ≤ longest) (sym same) fits) in
          subst (With e (ms ++ ns)) same (record { batch = c; own = join_octets a.batch b.batch c.batch ∙ both_own }),
    )

-- The whole of a grouping is an accepted batch of all its messages, if it is not too long.
pub whole_accepted : {e : ℕ} (g : Grouping e) → length (whole g) ≤ longest → With e (grouped g) (whole g)
unfolding grouped
whole_accepted {e} (alone a) fits = subst (With e (message_octets a.batch.nest)) (sym (grammar_octets a.batch)) (record { batch = a; own = refl })
whole_accepted (both l r) fits =
    let first = whole_accepted l (le_trans (batch_octets_left (grouped l) (grouped r)) fits) in
    let second = whole_accepted r (le_trans (batch_octets_right (grouped l) (grouped r)) fits) in
    (joined_with first second).1 fits

-- If the whole is not too long, joining in the grouping gives it, and every join within it is answered with 0.
pub any_grouping : {e : ℕ} (g : Grouping e) → length (whole g) ≤ longest → Gives g (whole g)
unfolding grouped
any_grouping {e} (alone a) fits = subst (Gives (alone a)) (sym (grammar_octets a.batch)) (by_itself a)
any_grouping {e} (both l r) fits =
    let low = le_trans (batch_octets_left (grouped l) (grouped r)) fits in
    let high = le_trans (batch_octets_right (grouped l) (grouped r)) fits in
    let one = whole_accepted l low in
    let two = whole_accepted r high in
    let same = (joined_with one two).0 in
    by_call (any_grouping l low) (any_grouping r high) (λ old room.
    subst (λ (s : List ℕ). length s ≤ longest → length s ≤ length old → Joins e (whole l) (whole r) old accepted 0 neither_file (length s) (over old 0 s)) same
    (written one.batch two.batch) fits room)

-- What an answer with 0 says: both batches are accepted, and the output is their join.
pub record Joined (e : ℕ) (first second old : List ℕ) (count : ℕ) (new : List ℕ) : Type 0 where
  pub one : Accepted e first
  pub two : Accepted e second
  pub fits : length (joined one two) ≤ longest
  pub counted : length (joined one two) ≡ count
  pub output : over old 0 (joined one two) ≡ new

pub answered : {e : ℕ} {first second old new : List ℕ} {number place file count : ℕ} → Joins e first second old number place file count new
    → number ≡ accepted → Joined e first second old count new
answered (first_refused refusal other) none = absurd (other none)
answered (second_refused one refusal other) none = absurd (other none)
answered (too_long one two long) none = absurd (omega (arith, none))
answered (no_room one two fits short) none = absurd (omega (arith, none))
answered (written one two fits room) none = record { one = one; two = two; fits = fits; counted = refl; output = refl }

-- octets over others that are no more leave nothing of them
pub over_all : (old new : List ℕ) → length old ≤ length new → over old 0 new ≡ new
over_all old new short =
    let none : drop (0 + length new) old ≡ [] = drop_of_length-le old {i = 0 + length new} (omega arith) in
    over_parts old 0 new ∙ ap (λ (l : List ℕ). new ++ l) none ∙ append-nil new

-- Conversely, what joining in a grouping gives is the whole, which is not too long.
pub gives_whole : {e : ℕ} {g : Grouping e} {s : List ℕ} → Gives g s → (s ≡ whole g) × (length (whole g) ≤ longest)
unfolding grouped join
gives_whole (by_itself {s} a) = (sym (grammar_octets a.batch), subst (λ (l : List ℕ). length l ≤ longest) (sym (grammar_octets a.batch)) a.batch.short)
gives_whole (by_call {l} {r} {first} {second} {s} one two calls) =
    let (same, low) = gives_whole one in
    let (also, high) = gives_whole two in
    let j = answered (calls s (omega arith)) refl in
    let left : message_octets j.one.batch.nest ≡ grouped l = read_octets j.one ∙ ap (λ (b : List ℕ). message_octets (tree 0 b)) same ∙ sym (read_octets (whole_accepted l low).batch) ∙ (whole_accepted l low).own in
    let right : message_octets j.two.batch.nest ≡ grouped r = read_octets j.two ∙ ap (λ (b : List ℕ). message_octets (tree 0 b)) also ∙ sym (read_octets (whole_accepted r high).batch) ∙ (whole_accepted r high).own in
    let all : joined j.one j.two ≡ batch_octets (grouped l ++ grouped r) = ap₂ (λ (x y : List (List ℕ)). batch_octets (x ++ y)) left right in
    let out : joined j.one j.two ≡ s =
    sym (over_all s (joined j.one j.two) (omega (arith, j.counted))) ∙ j.output ∙ over_all s s (omega arith) in
    (sym out ∙ all, subst (λ (b : List ℕ). length b ≤ longest) all j.fits)

-- the messages of a grouping, by its batches' bytes
pub grouped_read : {e : ℕ} (g : Grouping e) → grouped g ≡ flat_map (λ (s : List ℕ). message_octets (tree 0 s)) (batches g)
unfolding grouped batches flat_map
grouped_read (alone a) = read_octets a ∙ sym (append-nil (message_octets (tree 0 _)))
grouped_read (both l r) = ap₂ (λ (x y : List (List ℕ)). x ++ y) (grouped_read l) (grouped_read r) ∙ sym (flat_append (batches l) (batches r))
  where
    flat_append : (a b : List (List ℕ)) → flat_map (λ (s : List ℕ). message_octets (tree 0 s)) (a ++ b)
        ≡ flat_map (λ (s : List ℕ). message_octets (tree 0 s)) a ++ flat_map (λ (s : List ℕ). message_octets (tree 0 s)) b
    flat_append [] b = refl
    flat_append (s ∷ a) b = ap (λ (l : List (List ℕ)). message_octets (tree 0 s) ++ l) (flat_append a b) ∙ sym (append_assoc (message_octets (tree 0 s)) _ _)

-- Groupings of the same batches have the same whole,
pub same_whole : {e : ℕ} (g h : Grouping e) → batches g ≡ batches h → whole g ≡ whole h
same_whole g h same =
    ap batch_octets (grouped_read g ∙ ap (flat_map (λ (s : List ℕ). message_octets (tree 0 s))) same ∙ sym (grouped_read h))

-- and joining in either gives the same bytes.
pub same_bytes : {e : ℕ} (g h : Grouping e) → batches g ≡ batches h → {s : List ℕ} → Gives g s → Gives h s
same_bytes g h same given =
    let (is, fits) = gives_whole given in
    let all = same_whole g h same in
    subst (Gives h) (sym (is ∙ all)) (any_grouping h (subst (λ (l : List ℕ). length l ≤ longest) all fits))

-- If the whole is too long, a join within the grouping is refused with 1.
pub too_long_within : {e : ℕ} (g : Grouping e) → longest < length (whole g) → TooLongWithin g
unfolding grouped
too_long_within (alone a) long = absurd (omega (arith, ap length (grammar_octets a.batch), a.batch.short))
too_long_within {e} (both l r) long =
    go (too_long_within l) (too_long_within r) (leb (length (whole l)) longest) (leb (length (whole r)) longest) refl refl
  where
    go : (longest < length (whole l) → TooLongWithin l) → (longest < length (whole r) → TooLongWithin r)
        → (x y : Bool) → leb (length (whole l)) longest ≡ x → leb (length (whole r)) longest ≡ y → TooLongWithin (both l r)
    go left right false y past test = on_the_left (left (leb-false (length (whole l)) longest past))
    go left right true false within past = on_the_right (right (leb-false (length (whole r)) longest past))
    go left right true true within also =
        let low = leb-true (length (whole l)) longest within in
        let high = leb-true (length (whole r)) longest also in
        let one = whole_accepted l low in
        let two = whole_accepted r high in
        let all = subst (λ (s : List ℕ). longest < length s) (sym (joined_with one two).0) long in
        here (any_grouping l low) (any_grouping r high) (λ old. too_long one.batch two.batch all)
