-- What a merge lists: every entry says what is so, and every row that the merge passes is accounted for. Assumes nothing.
use Prim.Native.Nat.{ℕ, suc, ◌≤◌, ◌<◌}
use native.Mathlib.Decide.{dec_le}
use native.Mathlib.Omega.{arith}
use mathlib.Core.Path.{◌≡◌, refl, sym, ap, subst, ◌∙◌}
use mathlib.Core.Logic.{◌⊎◌, inl, inr}
use mathlib.Core.Bool.{false≢true}
use mathlib.Core.List.{List, ◌∷◌, ◌++◌, Memᴰ}
use Rattle.crmf.specs.meaning.Rows.{Row, container}
use Rattle.compare.specs.meaning.Changes.{Change, only_first, only_second, leaves_differ, Changed, in_first, in_second, in_both, Accounted, matched, is_alone, differs, below, FirstAccounted, SecondAccounted}
use Rattle.compare.specs.steps.Arranged.{Arranged}
use Rattle.compare.specs.steps.Merging.{Merge, over, first, second, unlike, same, differing, within}
use Rattle.compare.proofs.theorems.Members.{either, of_left, of_right}
use Rattle.compare.proofs.theorems.RowOrder.{next_below}
use Rattle.compare.proofs.theorems.Aligning.{other_way, At, at_other, at_first, at_both}
use Rattle.compare.proofs.theorems.OneCounterpart.{alone, unlike_alone}
use Rattle.compare.proofs.theorems.MergeSteps.{at_second, alike_pair, at_inside, at_leaves, at_after}

module _ {s t : List ℕ} {A B : List Row} (a : Arranged s A) (b : Arranged t B) where
  -- Every entry says what is so.
  pub merged_only : {p q i j k l : ℕ} {cs : List Change} → At A B p q i j → Merge s t A B p q i j cs k l → (c : Change) → Memᴰ c cs
      → Changed s t A B c
  merged_only x (first here before n more) c (Memᴰ.head e) =
      subst (Changed s t A B) (sym e) (in_first x.pair here (alone a b x here before))
  merged_only x (first here before n more) c (Memᴰ.tail m) = merged_only (at_first a b x here before n) more c m
  merged_only x (second there before n more) c (Memᴰ.head e) =
      subst (Changed s t A B) (sym e) (in_second x.pair there (λ i y. alone b a (at_other x) there before i (other_way y)))
  merged_only x (second there before n more) c (Memᴰ.tail m) = merged_only (at_second a b x there before n) more c m
  merged_only x (unlike here there alike kinds u v more) c (Memᴰ.head e) =
      subst (Changed s t A B) (sym e) (in_first x.pair here (unlike_alone a b x here there alike kinds))
  merged_only x (unlike here there alike kinds u v more) c (Memᴰ.tail (Memᴰ.head e)) =
      subst (Changed s t A B) (sym e)
      (in_second x.pair there (λ i y. unlike_alone b a (at_other x) there here (sym alike) (λ z. kinds (sym z)) i (other_way y)))
  merged_only x (unlike here there alike kinds u v more) c (Memᴰ.tail (Memᴰ.tail m)) =
      merged_only (at_both a b x here there alike u v) more c m
  merged_only x (same e leaf octets more) c m = merged_only (at_leaves a b x e leaf) more c m
  merged_only x (differing e leaf octets more) c (Memᴰ.head f) =
      subst (Changed s t A B) (sym f) (in_both (alike_pair a b x e) leaf octets)
  merged_only x (differing e leaf octets more) c (Memᴰ.tail m) = merged_only (at_leaves a b x e leaf) more c m
  merged_only x (over {p = p} {q = q} {i = i} {j = j} _ _) c m = elim m [ ]
  merged_only x (within {cs = cs} {ds = ds} e box inside more) c m =
      go (either cs ds m) (λ y. merged_only (at_inside a b x e) inside c y) (λ y. merged_only (at_after a b x e inside) more c y)
    where
      go : Memᴰ c cs ⊎ Memᴰ c ds → (Memᴰ c cs → Changed s t A B c) → (Memᴰ c ds → Changed s t A B c) → Changed s t A B c
      go (inl l) f g = f l
      go (inr r) f g = g r

  -- what is accounted for in a list is so in one with more entries
  more_entries : {u v : List ℕ} {C D : List Row} {lone : ℕ → Change} {differ : ℕ → ℕ → Change} {cs ds : List Change} {i : ℕ}
      → ((c : Change) → Memᴰ c cs → Memᴰ c ds) → Accounted u v C D lone differ cs i → Accounted u v C D lone differ ds i
  more_entries f (matched pair octets) = matched pair octets
  more_entries f (is_alone m) = is_alone (f _ m)
  more_entries f (differs m) = differs (f _ m)
  more_entries f (below m under) = below (f _ m) under

  -- Every row of the first that is passed is accounted for,
  pub first_accounted : {p q i j k l : ℕ} {cs : List Change} → At A B p q i j → Merge s t A B p q i j cs k l → (m : ℕ) → i ≤ m → m < k
      → FirstAccounted s t A B cs m
  first_accounted x (over none none') m from to = absurd (omega arith)
  first_accounted {i = i} {k = k} x (first {m = n} {cs = cs} here before next more) m from to =
      go (dec_le (suc i) m) (dec_le n m) (λ y z. first_accounted (at_first a b x here before next) more m y z)
    where
      go : Dec (i < m) → Dec (n ≤ m) → (n ≤ m → m < k → FirstAccounted s t A B cs m) → FirstAccounted s t A B (only_first i ∷ cs) m
      go (no at) z f = let same_row : m ≡ i = omega arith in rw same_row (is_alone (Memᴰ.head refl))
      go (yes after) (no under) f = below (Memᴰ.head refl) (next_below a next m after (omega arith))
      go (yes after) (yes past) f = more_entries (λ c y. Memᴰ.tail y) (f past to)
  first_accounted x (second there before n more) m from to =
      more_entries (λ c y. Memᴰ.tail y) (first_accounted (at_second a b x there before n) more m from to)
  first_accounted {i = i} {j = j} {k = k} x (unlike {m = n} {cs = cs} here there alike kinds u v more) m from to =
      go (dec_le (suc i) m) (dec_le n m) (λ y z. first_accounted (at_both a b x here there alike u v) more m y z)
    where
      go : Dec (i < m) → Dec (n ≤ m) → (n ≤ m → m < k → FirstAccounted s t A B cs m) → FirstAccounted s t A B (only_first i ∷ only_second j ∷ cs) m
      go (no at) z f = let same_row : m ≡ i = omega arith in rw same_row (is_alone (Memᴰ.head refl))
      go (yes after) (no under) f = below (Memᴰ.head refl) (next_below a u m after (omega arith))
      go (yes after) (yes past) f = more_entries (λ c y. Memᴰ.tail (Memᴰ.tail y)) (f past to)
  first_accounted {i = i} {k = k} {cs = cs} x (same e leaf octets more) m from to =
      go (dec_le (suc i) m) (λ y z. first_accounted (at_leaves a b x e leaf) more m y z)
    where
      go : Dec (i < m) → (i < m → m < k → FirstAccounted s t A B cs m) → FirstAccounted s t A B cs m
      go (no at) f = let same_row : m ≡ i = omega arith in rw same_row (matched (alike_pair a b x e) (λ z. octets))
      go (yes after) f = f after to
  first_accounted {i = i} {j = j} {k = k} x (differing {cs = cs} e leaf octets more) m from to =
      go (dec_le (suc i) m) (λ y z. first_accounted (at_leaves a b x e leaf) more m y z)
    where
      go : Dec (i < m) → (i < m → m < k → FirstAccounted s t A B cs m) → FirstAccounted s t A B (leaves_differ i j ∷ cs) m
      go (no at) f = let same_row : m ≡ i = omega arith in rw same_row (differs (Memᴰ.head refl))
      go (yes after) f = more_entries (λ c y. Memᴰ.tail y) (f after to)
  first_accounted {i = i} {k = k} x (within {m = n} {cs = cs} {ds = ds} e box inside more) m from to =
      go (dec_le (suc i) m) (dec_le n m) (λ y z. first_accounted (at_inside a b x e) inside m y z) (λ y z. first_accounted (at_after a b x e inside) more m y z)
    where
      go : Dec (i < m) → Dec (n ≤ m) → (i < m → m < n → FirstAccounted s t A B cs m) → (n ≤ m → m < k → FirstAccounted s t A B ds m)
          → FirstAccounted s t A B (cs ++ ds) m
      go (no at) z f g =
          let same_row : m ≡ i = omega arith in
          rw same_row (matched (alike_pair a b x e) (λ z. absurd (false≢true (sym z ∙ box))))
      go (yes after) (no under) f g = more_entries (λ c y. of_left ds y) (f after (omega arith))
      go (yes after) (yes past) f g = more_entries (λ c y. of_right cs y) (g past to)

  -- and so is every row of the second.
  pub second_accounted : {p q i j k l : ℕ} {cs : List Change} → At A B p q i j → Merge s t A B p q i j cs k l → (m : ℕ) → j ≤ m → m < l
      → SecondAccounted s t A B cs m
  second_accounted x (over none none') m from to = absurd (omega arith)
  second_accounted x (first here before n more) m from to =
      more_entries (λ c y. Memᴰ.tail y) (second_accounted (at_first a b x here before n) more m from to)
  second_accounted {j = j} {l = l} x (second {m = n} {cs = cs} there before next more) m from to =
      go (dec_le (suc j) m) (dec_le n m) (λ y z. second_accounted (at_second a b x there before next) more m y z)
    where
      go : Dec (j < m) → Dec (n ≤ m) → (n ≤ m → m < l → SecondAccounted s t A B cs m) → SecondAccounted s t A B (only_second j ∷ cs) m
      go (no at) z f = let same_row : m ≡ j = omega arith in rw same_row (is_alone (Memᴰ.head refl))
      go (yes after) (no under) f = below (Memᴰ.head refl) (next_below b next m after (omega arith))
      go (yes after) (yes past) f = more_entries (λ c y. Memᴰ.tail y) (f past to)
  second_accounted {i = i} {j = j} {l = l} x (unlike {n = n} {cs = cs} here there alike kinds u v more) m from to =
      go (dec_le (suc j) m) (dec_le n m) (λ y z. second_accounted (at_both a b x here there alike u v) more m y z)
    where
      go : Dec (j < m) → Dec (n ≤ m) → (n ≤ m → m < l → SecondAccounted s t A B cs m) → SecondAccounted s t A B (only_first i ∷ only_second j ∷ cs) m
      go (no at) z f = let same_row : m ≡ j = omega arith in rw same_row (is_alone (Memᴰ.tail (Memᴰ.head refl)))
      go (yes after) (no under) f = below (Memᴰ.tail (Memᴰ.head refl)) (next_below b v m after (omega arith))
      go (yes after) (yes past) f = more_entries (λ c y. Memᴰ.tail (Memᴰ.tail y)) (f past to)
  second_accounted {j = j} {l = l} {cs = cs} x (same e leaf octets more) m from to =
      go (dec_le (suc j) m) (λ y z. second_accounted (at_leaves a b x e leaf) more m y z)
    where
      go : Dec (j < m) → (j < m → m < l → SecondAccounted s t A B cs m) → SecondAccounted s t A B cs m
      go (no at) f = let same_row : m ≡ j = omega arith in rw same_row (matched (other_way (alike_pair a b x e)) (λ z. sym octets))
      go (yes after) f = f after to
  second_accounted {i = i} {j = j} {l = l} x (differing {cs = cs} e leaf octets more) m from to =
      go (dec_le (suc j) m) (λ y z. second_accounted (at_leaves a b x e leaf) more m y z)
    where
      go : Dec (j < m) → (j < m → m < l → SecondAccounted s t A B cs m) → SecondAccounted s t A B (leaves_differ i j ∷ cs) m
      go (no at) f = let same_row : m ≡ j = omega arith in rw same_row (differs {j = i} (Memᴰ.head refl))
      go (yes after) f = more_entries (λ c y. Memᴰ.tail y) (f after to)
  second_accounted {j = j} {l = l} x (within {n = n} {cs = cs} {ds = ds} e box inside more) m from to =
      go (dec_le (suc j) m) (dec_le n m) (λ y z. second_accounted (at_inside a b x e) inside m y z) (λ y z. second_accounted (at_after a b x e inside) more m y z)
    where
      go : Dec (j < m) → Dec (n ≤ m) → (j < m → m < n → SecondAccounted s t A B cs m) → (n ≤ m → m < l → SecondAccounted s t A B ds m)
          → SecondAccounted s t A B (cs ++ ds) m
      go (no at) z f g =
          let same_row : m ≡ j = omega arith in
          rw same_row (matched (other_way (alike_pair a b x e)) (λ z. absurd (false≢true (sym z ∙ ap container (sym e.kinds) ∙ box))))
      go (yes after) (no under) f g = more_entries (λ c y. of_left ds y) (f after (omega arith))
      go (yes after) (yes past) f g = more_entries (λ c y. of_right cs y) (g past to)
