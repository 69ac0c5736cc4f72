-- A merge lists its entries in order: each stands at or below a child that still comes, and what comes later is at a later spot. Assumes nothing.
use Prim.Native.Nat.{ℕ, suc, ◌≤◌, ◌<◌}
use native.Mathlib.Omega.{arith}
use mathlib.Core.Path.{◌≡◌, refl, sym, subst}
use mathlib.Core.Logic.{◌⊎◌, inl, inr}
use mathlib.Core.List.{List, [], ◌∷◌, ◌++◌, Memᴰ, append_assoc}
use Rattle.crmf.specs.meaning.Rows.{Row}
use Rattle.compare.specs.meaning.Counterparts.{Child, match_kind, Spot, spot}
use Rattle.compare.specs.meaning.Changes.{Change, only_first, only_second, Path, child, Way, first as in_one, second as in_two, both, Sooner, Earlier, parts, along, Before, by_spot, at_one_spot, InOrder}
use Rattle.compare.specs.steps.Arranged.{Arranged}
use Rattle.compare.specs.steps.Merging.{Alike, Merge, over, first, second, unlike, same, differing, within}
use Rattle.compare.proofs.theorems.Members.{either}
use Rattle.compare.proofs.theorems.Counting.{later_more}
use Rattle.compare.proofs.theorems.RowOrder.{matched_ascend, same_or_not}
use Rattle.compare.proofs.theorems.Aligning.{At, at_first, at_both, still_later, one_spot}
use Rattle.compare.proofs.theorems.MergeSteps.{at_second, at_inside, at_leaves, at_after, merge_end}

-- ways that part after the same spots
earlier_after : (way : List Spot) {xs ys : List Spot} → Earlier xs ys → Earlier (way ++ xs) (way ++ ys)
earlier_after [] e = e
earlier_after (x ∷ way) e = along (earlier_after way e)

-- a later child of a row is at a later spot
sooner_child : {s : List ℕ} {rs : List Row} → Arranged s rs → {p i m : ℕ} → Child rs p i → Child rs p m → i < m → Sooner (spot rs i) (spot rs m)
unfolding spot
sooner_child {rs = rs} a {p} {i} {m} c d before = go (same_or_not (match_kind rs i) (match_kind rs m))
  where
    go : Dec (match_kind rs i ≡ match_kind rs m) → Sooner (spot rs i) (spot rs m)
    go (yes alike) =
        inr (alike, rw (c.below, d.below) (rw alike (later_more rs p (match_kind rs m) i m c alike before)))
    go (no else) = inl (omega (arith, matched_ascend a c d (omega arith)))

-- An entry stands at or below a child that still comes, of row p of the first batch from row i on, or of row q of the second from row j on.
record Under (A B : List Row) (way : List Spot) (p q i j : ℕ) (c : Change) : Type 0 where
  top : Spot
  rest : List Spot
  leads : Way A B c (way ++ (top ∷ rest))
  whose : ((m : ℕ) × (i ≤ m) × Child A p m × (spot A m ≡ top)) ⊎ ((l : ℕ) × (j ≤ l) × Child B q l × (spot B l ≡ top))

module _ {A B : List Row} (way : List Spot) {p q : ℕ} where
  -- which holds from earlier rows on too
  under_from : {i j m n : ℕ} {c : Change} → i ≤ m → j ≤ n → Under A B way p q m n c → Under A B way p q i j c
  under_from {i} {j} {m} {n} {c} f g u = record { top = u.top; rest = u.rest; leads = u.leads; whose = go u.whose }
    where
      go : ((k : ℕ) × (m ≤ k) × Child A p k × (spot A k ≡ u.top)) ⊎ ((l : ℕ) × (n ≤ l) × Child B q l × (spot B l ≡ u.top))
          → ((k : ℕ) × (i ≤ k) × Child A p k × (spot A k ≡ u.top)) ⊎ ((l : ℕ) × (j ≤ l) × Child B q l × (spot B l ≡ u.top))
      go (inl (k, from, c', e)) = inl (k, omega arith, c', e)
      go (inr (l, from, c', e)) = inr (l, omega arith, c', e)

  -- An entry at or below a spot comes before those at a later spot.
  sooner_before : {i j : ℕ} {c d : Change} (x : Spot) (rest : List Spot) → Way A B c (way ++ (x ∷ rest)) → (u : Under A B way p q i j d) → Sooner x u.top
      → Before A B c d
  sooner_before x rest here u sooner = by_spot here u.leads (earlier_after way (parts sooner))

module _ {s t : List ℕ} {A B : List Row} (a : Arranged s A) (b : Arranged t B) where
  -- two alike stand at the end of one way
  module _ {p q i j : ℕ} (x : At A B p q i j) (e : Alike A B p q i j) (way : List Spot) where
    way_one : Path A p way → Path A i (way ++ (spot A i ∷ []))
    way_one path = child path e.one

    way_two : Path B q way → Path B j (way ++ (spot A i ∷ []))
    way_two path =
        subst (λ (y : Spot). Path B j (way ++ (y ∷ []))) (sym (one_spot a b x e.one e.two e.matched)) (child path e.two)

  -- Every entry stands so.
  under_all : {p q i j k l : ℕ} {cs : List Change} (way : List Spot) → At A B p q i j → Path A p way → Path B q way → Merge s t A B p q i j cs k l
      → (c : Change) → Memᴰ c cs → Under A B way p q i j c
  under_all {i = i} way x one two (first here before n more) c (Memᴰ.head e) =
      record { top = spot A i; rest = []; leads = subst (λ (d : Change). Way A B d (way ++ (spot A i ∷ []))) (sym e) (in_one (child one here)); whose = inl (i, omega arith, here, refl) }
  under_all way x one two (first here before n more) c (Memᴰ.tail m) =
      under_from way (omega (arith, n.past)) (omega arith) (under_all way (at_first a b x here before n) one two more c m)
  under_all {j = j} way x one two (second there before n more) c (Memᴰ.head e) =
      record { top = spot B j; rest = []; leads = subst (λ (d : Change). Way A B d (way ++ (spot B j ∷ []))) (sym e) (in_two (child two there)); whose = inr (j, omega arith, there, refl) }
  under_all way x one two (second there before n more) c (Memᴰ.tail m) =
      under_from way (omega arith) (omega (arith, n.past)) (under_all way (at_second a b x there before n) one two more c m)
  under_all {i = i} way x one two (unlike here there alike kinds u v more) c (Memᴰ.head e) =
      record { top = spot A i; rest = []; leads = subst (λ (d : Change). Way A B d (way ++ (spot A i ∷ []))) (sym e) (in_one (child one here)); whose = inl (i, omega arith, here, refl) }
  under_all {j = j} way x one two (unlike here there alike kinds u v more) c (Memᴰ.tail (Memᴰ.head e)) =
      record { top = spot B j; rest = []; leads = subst (λ (d : Change). Way A B d (way ++ (spot B j ∷ []))) (sym e) (in_two (child two there)); whose = inr (j, omega arith, there, refl) }
  under_all way x one two (unlike here there alike kinds u v more) c (Memᴰ.tail (Memᴰ.tail m)) =
      under_from way (omega (arith, u.past)) (omega (arith, v.past)) (under_all way (at_both a b x here there alike u v) one two more c m)
  under_all way x one two (same e leaf octets more) c m =
      under_from way (omega arith) (omega arith) (under_all way (at_leaves a b x e leaf) one two more c m)
  under_all {i = i} way x one two (differing e leaf octets more) c (Memᴰ.head f) =
      record { top = spot A i; rest = []; leads = subst (λ (d : Change). Way A B d (way ++ (spot A i ∷ []))) (sym f) (both (child one e.one)); whose = inl (i, omega arith, e.one, refl) }
  under_all way x one two (differing e leaf octets more) c (Memᴰ.tail m) =
      under_from way (omega arith) (omega arith) (under_all way (at_leaves a b x e leaf) one two more c m)
  under_all way x one two (over {p = p} {q = q} {i = i} {j = j} _ _) c m = elim m [ ]
  under_all {p = p} {q = q} {i = i} {j = j} way x one two (within {m = m'} {n = n'} {cs = cs} {ds = ds} e box inside more) c m =
      go (either cs ds m) (λ y. under_all (way ++ (spot A i ∷ [])) (at_inside a b x e) (way_one x e way one) (way_two x e way two) inside c y)
      (λ y. under_all way (at_after a b x e inside) one two more c y)
    where
      go : Memᴰ c cs ⊎ Memᴰ c ds → (Memᴰ c cs → Under A B (way ++ (spot A i ∷ [])) i j (suc i) (suc j) c)
          → (Memᴰ c ds → Under A B way p q m' n' c) → Under A B way p q i j c
      go (inl l) f g =
          let u = f l in
          record { top = spot A i; rest = u.top ∷ u.rest; leads = subst (Way A B c) (append_assoc way (spot A i ∷ []) (u.top ∷ u.rest)) u.leads; whose = inl (i, omega arith, e.one, refl) }
      go (inr r) f g =
          let (u, v) = merge_end a b (at_inside a b x e) inside in
          under_from way (omega (arith, u.past)) (omega (arith, v.past)) (g r)

  module _ {p q i j : ℕ} (x : At A B p q i j) (way : List Spot) {d : Change} where
    -- what comes after a child of the first that is passed alone is at a later spot,
    later_first : {m : ℕ} → Child A p i → (Child B q j → match_kind A i < match_kind B j) → i < m → (u : Under A B way p q m j d) → Sooner (spot A i) u.top
    unfolding spot
    later_first {m} c before past u = go u.whose
      where
        go : ((k : ℕ) × (m ≤ k) × Child A p k × (spot A k ≡ u.top)) ⊎ ((l : ℕ) × (j ≤ l) × Child B q l × (spot B l ≡ u.top)) → Sooner (spot A i) u.top
        go (inl (k, from, e, at)) = subst (Sooner (spot A i)) at (sooner_child a c e (omega arith))
        go (inr (l, from, e, at)) = subst (Sooner (spot A i)) at (inl (still_later b x.two (match_kind A i) before l from e))

    -- so is what comes after one of the second,
    later_second : {n : ℕ} → Child B q j → (Child A p i → match_kind B j < match_kind A i) → j < n → (u : Under A B way p q i n d) → Sooner (spot B j) u.top
    unfolding spot
    later_second {n} c before past u = go u.whose
      where
        go : ((k : ℕ) × (i ≤ k) × Child A p k × (spot A k ≡ u.top)) ⊎ ((l : ℕ) × (n ≤ l) × Child B q l × (spot B l ≡ u.top)) → Sooner (spot B j) u.top
        go (inl (k, from, e, at)) = subst (Sooner (spot B j)) at (inl (still_later a x.one (match_kind B j) before k from e))
        go (inr (l, from, e, at)) = subst (Sooner (spot B j)) at (sooner_child b c e (omega arith))

    -- and what comes after two at one spot.
    later_both : {m n : ℕ} (y : Spot) → Child A p i → Child B q j → spot A i ≡ y → spot B j ≡ y → i < m → j < n → (u : Under A B way p q m n d)
        → Sooner y u.top
    later_both {m} {n} y c e one two past_one past_two u = go u.whose
      where
        go : ((k : ℕ) × (m ≤ k) × Child A p k × (spot A k ≡ u.top)) ⊎ ((l : ℕ) × (n ≤ l) × Child B q l × (spot B l ≡ u.top)) → Sooner y u.top
        go (inl (k, from, f, at)) = subst (Sooner y) at (subst (λ (z : Spot). Sooner z (spot A k)) one (sooner_child a c f (omega arith)))
        go (inr (l, from, f, at)) = subst (Sooner y) at (subst (λ (z : Spot). Sooner z (spot B l)) two (sooner_child b e f (omega arith)))

  -- two lists in order, the second's entries after all the first's
  order_append : (cs ds : List Change) → InOrder A B cs → InOrder A B ds
      → ((c d : Change) → Memᴰ c cs → Memᴰ d ds → Before A B c d) → InOrder A B (cs ++ ds)
  order_append [] ds f g between = g
  order_append (c ∷ cs) ds f g between =
      (λ d m. go d (either cs ds m), order_append cs ds f.1 g (λ e d m n. between e d (Memᴰ.tail m) n))
    where
      go : (d : Change) → Memᴰ d cs ⊎ Memᴰ d ds → Before A B c d
      go d (inl l) = f.0 d l
      go d (inr r) = between c d (Memᴰ.head refl) r

  -- A merge lists its entries in order.
  pub merged_order : {p q i j k l : ℕ} {cs : List Change} (way : List Spot) → At A B p q i j → Path A p way → Path B q way
      → Merge s t A B p q i j cs k l → InOrder A B cs
  merged_order way x one two (over none none') = tt
  merged_order {i = i} way x one two (first here before n more) =
      let y = at_first a b x here before n in (
        λ d m.
            let u = under_all way y one two more d m in
            sooner_before way (spot A i) [] (in_one (child one here)) u (later_first x way here before n.past u),
        merged_order way y one two more,
      )
  merged_order {j = j} way x one two (second there before n more) =
      let y = at_second a b x there before n in (
        λ d m.
            let u = under_all way y one two more d m in
            sooner_before way (spot B j) [] (in_two (child two there)) u (later_second x way there before n.past u),
        merged_order way y one two more,
      )
  merged_order {i = i} {j = j} way x one two (unlike {cs = cs} here there alike kinds u v more) =
      let y = at_both a b x here there alike u v in
      let spots = one_spot a b x here there alike in
      let after : (d : Change) → Memᴰ d cs → Before A B (only_first i) d =
      λ d m.
      let w = under_all way y one two more d m in
      sooner_before way (spot A i) [] (in_one (child one here)) w (later_both x way (spot A i) here there refl (sym spots) u.past v.past w) in (
        λ d m. go after spots d m,
        (
          λ d m.
              let w = under_all way y one two more d m in
              sooner_before way (spot B j) [] (in_two (child two there)) w (later_both x way (spot B j) here there spots refl u.past v.past w),
          merged_order way y one two more,
        ),
      )
    where
      go : ((d : Change) → Memᴰ d cs → Before A B (only_first i) d) → spot A i ≡ spot B j → (d : Change) → Memᴰ d (only_second j ∷ cs)
          → Before A B (only_first i) d
      go after spots d (Memᴰ.head e) =
          subst (Before A B (only_first i)) (sym e)
          (at_one_spot (child one here) (subst (λ (z : Spot). Path B j (way ++ (z ∷ []))) (sym spots) (child two there)))
      go after spots d (Memᴰ.tail m) = after d m
  merged_order way x one two (same e leaf octets more) = merged_order way (at_leaves a b x e leaf) one two more
  merged_order {i = i} way x one two (differing e leaf octets more) =
      let y = at_leaves a b x e leaf in (
        λ d m.
            let u = under_all way y one two more d m in
            sooner_before way (spot A i) [] (both (child one e.one)) u
            (later_both x way (spot A i) e.one e.two refl (sym (one_spot a b x e.one e.two e.matched)) (omega arith) (omega arith) u),
        merged_order way y one two more,
      )
  merged_order {i = i} way x one two (within {cs = cs} {ds = ds} e box inside more) =
      let z = at_inside a b x e in
      let y = at_after a b x e inside in
      let (f, g) = merge_end a b z inside in
      let deeper = way ++ (spot A i ∷ []) in
      order_append cs ds (merged_order deeper z (way_one x e way one) (way_two x e way two) inside) (merged_order way y one two more)
      (λ c d m n.
      let v = under_all deeper z (way_one x e way one) (way_two x e way two) inside c m in
      let u = under_all way y one two more d n in
      sooner_before way (spot A i) (v.top ∷ v.rest) (subst (Way A B c) (append_assoc way (spot A i ∷ []) (v.top ∷ v.rest)) v.leads) u
      (later_both x way (spot A i) e.one e.two refl (sym (one_spot a b x e.one e.two e.matched)) f.past g.past u))
