-- Entries added to a list one after the other: each is written at its place, or not at all if it comes before the list's first entry or past its
-- room. Assumes nothing.
use Prim.Native.Nat.{ℕ, ◌+◌, ◌-◌, ◌*◌, ◌/◌, ◌≤◌, ◌<◌}
use native.Mathlib.Numerals.{add-one, add-two, add-three}
use native.Mathlib.Omega.{arith}
use mathlib.Core.Path.{◌≡◌, refl, sym, ap, ap₂, ◌∙◌}
use mathlib.Core.List.{List, [], ◌∷◌, ◌++◌, append_assoc, append-nil}
use lib.IntN.{ℤ}
use lib.ListN.{length, take, drop, set, length-append, length-take, length-drop}
use lib.Seq.{take_all, take-append-le, drop-append-le, take_at, drop_at, drop-drop, sets-eq}
use Rattle.compare.specs.meaning.Changes.{Change, only_first, only_second, leaves_differ, Later, entry_numbers, entry, entries}
use Rattle.compare.specs.steps.Lists.{kept, window, Added}

-- an entry has four numbers
pub entry_length : (later : Later) (c : Change) → length (entry later c) ≡ entry_numbers
unfolding entry
entry_length later (only_first i) = refl
entry_length later (only_second j) = refl
entry_length later (leaves_differ i j) = refl

pub entries_length : (later : Later) (cs : List Change) → length (entries later cs) ≡ entry_numbers * length cs
unfolding entries
entries_length later [] = refl
entries_length later (c ∷ cs) = omega (arith, length-append (entry later c) (entries later cs), entry_length later c, entries_length later cs)

pub entries_append : (later : Later) (cs ds : List Change) → entries later (cs ++ ds) ≡ entries later cs ++ entries later ds
unfolding entries
entries_append later [] ds = refl
entries_append later (c ∷ cs) ds =
    ap (λ (l : List ℤ). entry later c ++ l) (entries_append later cs ds) ∙ sym (append_assoc (entry later c) (entries later cs) (entries later ds))

-- a list keeps its length
pub window_length : (later : Later) (from : ℕ) (cs : List Change) (old : List ℤ) → length (window later from cs old) ≡ length old
window_length later from cs old =
    omega
    (arith, length-append (entries later (kept from cs old)) (drop (entry_numbers * length (kept from cs old)) old), entries_length later (kept from cs old), length-drop (entry_numbers * length (kept from cs old)) old, length-take (length old / entry_numbers) (drop from cs))

-- nothing is added
pub added_none : (later : Later) (from count : ℕ) (old : List ℤ) → Added later from count [] old old
added_none later from count old before base counted is = is ∙ ap (λ (cs : List Change). window later from cs base) (sym (append-nil before))

-- entries added after others
pub added_two : (later : Later) (from count : ℕ) (cs ds : List Change) (old mid new : List ℤ) → Added later from count cs old mid
    → Added later from (count + length cs) ds mid new → Added later from count (cs ++ ds) old new
added_two later from count cs ds old mid new f g before base counted is =
    g (before ++ cs) base (length-append before cs ∙ ap (λ (n : ℕ). n + length cs) counted) (f before base counted is)
    ∙ ap (λ (l : List Change). window later from l base) (append_assoc before cs ds)

module _ (later : Later) (from : ℕ) (c : Change) (before : List Change) (base : List ℤ) where
  abbrev room : ℕ
  room = length base / entry_numbers

  -- nor is one past the room
  pub late : from ≤ length before → length base < entry_numbers * (length before - from) + entry_numbers
      → window later from before base ≡ window later from (before ++ (c ∷ [])) base
  late past full =
      ap (λ (cs : List Change). entries later cs ++ drop (entry_numbers * length cs) base)
      (sym (ap (take room) (drop-append-le from before (c ∷ []) past)
      ∙ take-append-le room (drop from before) (c ∷ []) (omega (arith, length-drop from before))))

  -- Any other is, at its place.
  module _ (past : from ≤ length before) (fits : entry_numbers * (length before - from) + entry_numbers ≤ length base) where
    abbrev earlier : List Change
    earlier = drop from before

    abbrev at : ℕ
    at = entry_numbers * (length before - from)

    count : length earlier ≡ length before - from
    count = length-drop from before

    all_before : kept from before base ≡ earlier
    all_before = take_all room earlier (omega (arith, count))

    all_after : kept from (before ++ (c ∷ [])) base ≡ earlier ++ (c ∷ [])
    all_after =
        ap (take room) (drop-append-le from before (c ∷ []) past)
        ∙ take_all room (earlier ++ (c ∷ [])) (omega (arith, count, length-append earlier (c ∷ [])))

    was : window later from before base ≡ entries later earlier ++ drop at base
    was =
        ap (λ (cs : List Change). entries later cs ++ drop (entry_numbers * length cs) base) all_before
        ∙ ap (λ (n : ℕ). entries later earlier ++ drop (entry_numbers * n) base) count

    front : length (entries later earlier) ≡ at
    front = omega (arith, entries_length later earlier, count)

    one_entry : entries later (c ∷ []) ≡ entry later c
    unfolding entries
    one_entry = append-nil (entry later c)

    pub in_place : (x y z w : ℤ) → entry later c ≡ x ∷ y ∷ z ∷ w ∷ []
        → set (set (set (set (window later from before base) at x) (at + 1) y) (at + 2) z) (at + 3) w ≡ window later from (before ++ (c ∷ [])) base
    in_place x y z w is =
        let l = window later from before base in
        let new = x ∷ y ∷ z ∷ w ∷ [] in
        let sized : at + entry_numbers ≤ length l = omega (arith, window_length later from before base) in
        let stored : set (set (set (set l at x) (at + 1) y) (at + 2) z) (at + 3) w ≡ take at l ++ new ++ drop (at + entry_numbers) l =
        simp (add-one, add-two, add-three) (sets-eq new l at sized) in
        let first : take at l ≡ entries later earlier = ap (take at) was ∙ take_at (entries later earlier) (drop at base) at front in
        let behind : drop at l ≡ drop at base = ap (drop at) was ∙ drop_at (entries later earlier) (drop at base) at front in
        let last : drop (at + entry_numbers) l ≡ drop (at + entry_numbers) base =
        sym (drop-drop entry_numbers at l) ∙ ap (drop entry_numbers) behind ∙ drop-drop entry_numbers at base in
        let numbers : entries later earlier ++ new ≡ entries later (earlier ++ (c ∷ [])) =
        ap (λ (l : List ℤ). entries later earlier ++ l) (sym (one_entry ∙ is)) ∙ sym (entries_append later earlier (c ∷ [])) in
        let end : at + entry_numbers ≡ entry_numbers * length (earlier ++ (c ∷ [])) = omega (arith, count, length-append earlier (c ∷ [])) in
        stored ∙ ap₂ (λ (l r : List ℤ). l ++ new ++ r) first last
        ∙ ap₂ (λ (l : List ℤ) (n : ℕ). l ++ drop n base) numbers end
        ∙ ap (λ (cs : List Change). entries later cs ++ drop (entry_numbers * length cs) base) (sym all_after)
