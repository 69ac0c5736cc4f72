-- Two batches have only one list of changes: of two entries at most one comes before the other. Assumes nothing.
use Prim.Native.Nat.{ℕ}
use native.Mathlib.Omega.{arith}
use mathlib.Core.Path.{◌≡◌, refl, sym, ap, ap₂, subst, ◌∙◌}
use mathlib.Core.Logic.{inl, inr}
use lib.ListN.{length}
use mathlib.Core.List.{List, [], ◌∷◌, ◌++◌, Memᴰ}
use Rattle.crmf.specs.meaning.Rows.{Row}
use Rattle.compare.specs.meaning.Counterparts.{Spot, spot}
use Rattle.compare.specs.meaning.Changes.{Change, Path, batch, child, Way, first, second, both, Sooner, Earlier, parts, along, Before, by_spot, at_one_spot, InOrder, Changes}

-- a row has one way
path_once : {rs : List Row} {i : ℕ} {xs ys : List Spot} → Path rs i xs → Path rs i ys → xs ≡ ys
path_once batch batch = refl
path_once batch (child path c) = absurd (omega (arith, c.some))
path_once (child path c) batch = absurd (omega (arith, c.some))
path_once {rs} {i} (child path c) (child {way = way} other d) =
    ap (λ (way : List Spot). way ++ (spot rs i ∷ [])) (path_once path (subst (λ (p : ℕ). Path rs p way) (sym d.below ∙ c.below) other))

-- and so has an entry
way_once : {A B : List Row} {c : Change} {xs ys : List Spot} → Way A B c xs → Way A B c ys → xs ≡ ys
way_once (first p) (first q) = path_once p q
way_once (second p) (second q) = path_once p q
way_once (both p) (both q) = path_once p q

-- of two spots at most one is sooner
not_both_sooner : (x y : Spot) → Sooner x y → Sooner y x → ⊥
not_both_sooner x y (inl a) (inl b) = absurd (omega arith)
not_both_sooner x y (inl a) (inr b) = absurd (omega (arith, b.0))
not_both_sooner x y (inr a) (inl b) = absurd (omega (arith, a.0))
not_both_sooner x y (inr a) (inr b) = absurd (omega (arith, a.1, b.1))

-- so it is of spots that are equal to them
not_both_sooner_spots : (x y v w : Spot) → y ≡ v → w ≡ x → Sooner x y → Sooner v w → ⊥
not_both_sooner_spots x y v w there here a b =
    not_both_sooner x y a (subst (λ (s : Spot). Sooner y s) here (subst (λ (s : Spot). Sooner s w) (sym there) b))

-- of two ways at most one leads to an earlier spot
not_both_ways : {xs ys vs ws : List Spot} → Earlier xs ys → Earlier vs ws → ys ≡ vs → ws ≡ xs → ⊥
not_both_ways (parts {x = x} {y = y} a) (parts {x = v} {y = w} b) there here = not_both_sooner_spots x y v w (cc) (cc) a b
not_both_ways (parts {x = x} {y = y} a) (along {x = z} b) there here = not_both_sooner_spots x y x y (cc) (cc) a a
not_both_ways (along {x = z} a) (parts {x = v} {y = w} b) there here = not_both_sooner_spots v w v w (cc) (cc) b b
not_both_ways (along a) (along b) there here = not_both_ways a b (cc) (cc)

not_both_earlier : {xs ys : List Spot} → Earlier xs ys → Earlier ys xs → ⊥
not_both_earlier a b = not_both_ways a b refl refl

not_back : {xs ys vs ws : List Spot} → vs ≡ ys → ws ≡ xs → Earlier xs ys → Earlier vs ws → ⊥
not_back {xs} {ys} {vs} {ws} this that e f =
    not_both_earlier e (subst (Earlier ys) that (subst (λ (zs : List Spot). Earlier zs ws) this f))

-- none does if the two are one
not_on_one_way : {xs ys way : List Spot} → xs ≡ way → ys ≡ way → Earlier xs ys → ⊥
not_on_one_way {xs} {ys} {way} this that e =
    let twice = subst (Earlier way) that (subst (λ (zs : List Spot). Earlier zs ys) this e) in
    not_both_earlier twice twice

-- an empty list has no member
pub none : {c : Change} → Memᴰ c [] → ⊥
none m = nobody m refl
  where
    nobody : {c : Change} {cs : List Change} → Memᴰ c cs → cs ≡ [] → ⊥
    nobody (Memᴰ.head e) z = absurd (omega (arith, ap length z))
    nobody (Memᴰ.tail n) z = absurd (omega (arith, ap length z))

-- of two entries at most one comes before the other
pub not_both_before : {A B : List Row} {c d : Change} → Before A B c d → Before A B d c → ⊥
not_both_before (by_spot v w e) (by_spot x y f) =
    not_back (way_once x w) (way_once y v) e f
not_both_before (by_spot v w e) (at_one_spot p q) = not_on_one_way (way_once v (second q)) (way_once w (first p)) e
not_both_before (at_one_spot p q) (by_spot v w e) = not_on_one_way (way_once v (second q)) (way_once w (first p)) e

module _ (A B : List Row) where
  -- two lists in order with the same entries are the same
  pub same_entries : (cs ds : List Change) → InOrder A B cs → InOrder A B ds → ((c : Change) → Memᴰ c cs → Memᴰ c ds)
      → ((c : Change) → Memᴰ c ds → Memᴰ c cs) → cs ≡ ds
  same_entries [] [] f g into from = refl
  same_entries [] (d ∷ ds) f g into from = absurd (none (from d (Memᴰ.head refl)))
  same_entries (c ∷ cs) [] f g into from = absurd (none (into c (Memᴰ.head refl)))
  same_entries (c ∷ cs) (d ∷ ds) f g into from =
      let same = heads (into c (Memᴰ.head refl)) (from d (Memᴰ.head refl)) in
      ap₂ (λ (x : Change) (xs : List Change). x ∷ xs) same
      (same_entries cs ds f.1 g.1 (λ e m. into_rest same e m (into e (Memᴰ.tail m))) (λ e m. from_rest same e m (from e (Memᴰ.tail m))))
    where
      heads : Memᴰ c (d ∷ ds) → Memᴰ d (c ∷ cs) → c ≡ d
      heads (Memᴰ.head e) n = e
      heads (Memᴰ.tail m) (Memᴰ.head e) = sym e
      heads (Memᴰ.tail m) (Memᴰ.tail n) = absurd (not_both_before (f.0 d n) (g.0 c m))

      into_rest : c ≡ d → (e : Change) → Memᴰ e cs → Memᴰ e (d ∷ ds) → Memᴰ e ds
      into_rest same e m (Memᴰ.head z) =
          let twice = subst (Before A B c) (z ∙ sym same) (f.0 e m) in
          absurd (not_both_before twice twice)
      into_rest same e m (Memᴰ.tail n) = n

      from_rest : c ≡ d → (e : Change) → Memᴰ e ds → Memᴰ e (c ∷ cs) → Memᴰ e cs
      from_rest same e m (Memᴰ.head z) =
          let twice = subst (Before A B d) (z ∙ same) (g.0 e m) in
          absurd (not_both_before twice twice)
      from_rest same e m (Memᴰ.tail n) = n

-- Two batches have only one list of changes.
pub changes_once : {s t : List ℕ} {A B : List Row} {cs ds : List Change} → Changes s t A B cs → Changes s t A B ds → cs ≡ ds
changes_once {A = A} {B = B} {cs = cs} {ds = ds} x y =
    same_entries A B cs ds x.in_order y.in_order (λ c m. y.all c (x.only c m)) (λ c m. x.all c (y.only c m))
