-- The order of octet strings: none precedes itself, and if one precedes another, a third comes after the one or before the other. So no member of
-- a SET precedes any before it if none precedes its neighbour. Assumes nothing.
use Prim.Native.Nat.{ℕ, zero, suc, ◌+◌, ◌<◌}
use mathlib.Core.Path.{◌≡◌, refl, sym, ◌∙◌}
use mathlib.Core.Logic.{◌↔◌, ◌⊎◌, inl, inr, ⊎_elim}
use mathlib.Core.Bool.{Bool, true, false}
use mathlib.Core.List.{List, [], ◌∷◌}
use native.Mathlib.Omega.{arith}
use lib.Dec.{eqb, ltb}
use lib.ListN.{length, get_or}
use borrow.Author.Tests.{eqb-true, eqb-false, ltb-true, ltb-false}
use Rattle.der.specs.meaning.Order.{Precedes, Ascending}

-- No octet string precedes itself, so equal members pass.
pub equal_pass : (a : List ℕ) → Precedes a a → ⊥
equal_pass a p = omega (arith, p.less)

-- what holds below i and at i holds up to i
upto : (P : ℕ → Type 0) (i : ℕ) → ((j : ℕ) → j < i → P j) → P i → (j : ℕ) → j < suc i → P j
upto P i below here j within = go (eqb j i) refl
  where
    go : (b : Bool) → eqb j i ≡ b → P j
    go true is = rw (eqb-true j i is) here
    go false is = below j (let other = eqb-false j i is in omega arith)

-- If one precedes another, a third comes after the one or before the other.
module _ (a b c : List ℕ) (p : Precedes a c) where
  -- up to a place the third is as the one
  abbrev Alike : ℕ → Type 0
  Alike i = (j : ℕ) → j < i → get_or a j 0 ≡ get_or b j 0

  -- there it has a greater octet than the one, or a smaller than the other
  decide : (i : ℕ) → i < suc p.place → Alike i → (get_or a i 0 < get_or b i 0) ⊎ (get_or b i 0 < get_or c i 0) → Precedes a b ⊎ Precedes b c
  decide i within alike (inl less) = inl (record { place = i; same = alike; less = less })
  decide i within alike (inr less) =
      inr (record { place = i; same = λ j before. sym (alike j before) ∙ p.same j (omega arith); less = less })

  -- at the place where the two differ
  at_place : (i : ℕ) → i ≡ p.place → Alike i → Precedes a b ⊎ Precedes b c
  at_place i is alike = go (ltb (get_or a i 0) (get_or b i 0)) refl
    where
      less : get_or a i 0 < get_or c i 0
      less = rw is p.less

      go : (t : Bool) → ltb (get_or a i 0) (get_or b i 0) ≡ t → Precedes a b ⊎ Precedes b c
      go true u = decide i (omega arith) alike (inl (ltb-true _ _ u))
      go false u = decide i (omega arith) alike (inr (omega (arith, less, ltb-false (get_or a i 0) (get_or b i 0) u)))

  -- at a place before, where the third differs from the one
  at_difference : (i : ℕ) → i < p.place → (get_or a i 0 ≡ get_or b i 0 → ⊥) → Alike i → Precedes a b ⊎ Precedes b c
  at_difference i before differ alike = go (ltb (get_or a i 0) (get_or b i 0)) refl
    where
      same : get_or a i 0 ≡ get_or c i 0
      same = p.same i before

      go : (t : Bool) → ltb (get_or a i 0) (get_or b i 0) ≡ t → Precedes a b ⊎ Precedes b c
      go true u = decide i (omega arith) alike (inl (ltb-true _ _ u))
      go false u = decide i (omega arith) alike (inr (omega (arith, same, differ, ltb-false (get_or a i 0) (get_or b i 0) u)))

  -- from a place on
  from_place : (n i : ℕ) → n + i ≡ p.place → Alike i → Precedes a b ⊎ Precedes b c
  from_place zero i is alike = at_place i (omega arith) alike
  from_place (suc n) i is alike = go (from_place n (suc i) (omega arith)) (eqb (get_or a i 0) (get_or b i 0)) refl
    where
      go : (Alike (suc i) → Precedes a b ⊎ Precedes b c) → (e : Bool) → eqb (get_or a i 0) (get_or b i 0) ≡ e → Precedes a b ⊎ Precedes b c
      go later true e = later (upto (λ j. get_or a j 0 ≡ get_or b j 0) i alike (eqb-true _ _ e))
      go later false e = at_difference i (omega arith) (eqb-false _ _ e) alike

  pub between : Precedes a b ⊎ Precedes b c
  between = from_place p.place 0 (omega arith) (λ j none. absurd (omega arith))

-- no member of those after one precedes it
none_precedes : (a : List ℕ) (ms : List (List ℕ)) → Ascending (a ∷ ms) → (j : ℕ) → j < length ms → Precedes (get_or ms j []) a → ⊥
unfolding Ascending
none_precedes a [] up j within p = omega arith
none_precedes a (b ∷ ms) up zero within p = up.0 p
none_precedes a (b ∷ ms) up (suc j) within p = ⊎_elim (none_precedes b ms up.1 j (omega arith)) up.0 (between (get_or ms j []) b a p)

-- Neighbours suffice: members ascend exactly if no member precedes any member before it.
pub neighbours_suffice : (ms : List (List ℕ))
    → Ascending ms ↔ ((i j : ℕ) → i < j → j < length ms → Precedes (get_or ms j []) (get_or ms i []) → ⊥)
unfolding Ascending
neighbours_suffice ms = (to ms, from ms)
  where
    to : (ms : List (List ℕ)) → Ascending ms → (i j : ℕ) → i < j → j < length ms → Precedes (get_or ms j []) (get_or ms i []) → ⊥
    to [] up i j before within p = omega arith
    to (a ∷ ms) up i zero before within p = omega arith
    to (a ∷ ms) up zero (suc j) before within p = none_precedes a ms up j (omega arith) p
    to (a ∷ []) up (suc i) (suc j) before within p = omega arith
    to (a ∷ b ∷ ms) up (suc i) (suc j) before within p = to (b ∷ ms) up.1 i j (omega arith) (omega arith) p

    from : (ms : List (List ℕ)) → ((i j : ℕ) → i < j → j < length ms → Precedes (get_or ms j []) (get_or ms i []) → ⊥) → Ascending ms
    from [] all = tt
    from (a ∷ []) all = tt
    from (a ∷ b ∷ ms) all = (all 0 1 (omega arith) (omega arith), from (b ∷ ms) (λ i j before within. all (suc i) (suc j) (omega arith) (omega arith)))
