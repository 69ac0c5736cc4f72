-- Why there is no element: a law for each case of the code, by the octets that it looks at. In the long form these are the first two length
-- octets: they decide the form, and a form that is right gives a content that runs past the end. Assumes nothing.
use Prim.Native.Nat.{ℕ, zero, suc, ◌-◌, ◌≤◌, ◌<◌}
use mathlib.Core.Path.{◌≡◌, refl, sym, ap, ◌∙◌}
use mathlib.Core.Bool.{Bool, true, false, ◌&&◌, ◌||◌, false≢true}
use mathlib.Core.List.{List, [], ◌∷◌}
use native.Mathlib.Omega.{arith}
use lib.Dec.{ltb, eqb}
use lib.ListN.{length, take, drop, get_or, length-drop}
use lib.Seq.{get_or-drop}
use borrow.Author.Tests.{le-leb, lt-leb, lt-ltb, le-ltb, ltb-true, ltb-false, eqb-true, eqb-false, ne_eqb}
use Rattle.der.specs.declared.cause.Cause.TheVariants.{NoIdentifier, NoLength, WrongLength, PastEnd}
use Rattle.der.specs.meaning.Identifier.{allowed}
use Rattle.der.specs.meaning.Length.{Length, missing, wrong, octets, value_from, shortest, long_form, length_of}
use Rattle.der.specs.steps.Header.{cause_by, cause_of}
use Rattle.der.proofs.theorems.lists.Ends.{two}
use Rattle.der.proofs.theorems.element.Spans.{sized_cause}

-- no identifier
pub way_empty : (bs : List ℕ) → length bs ≡ 0 → NoIdentifier ≡ cause_of bs
unfolding cause_of
way_empty [] none = refl
way_empty (b ∷ bs) none = absurd (omega arith)

-- no length octet
pub way_unsized : (bs : List ℕ) → length bs ≡ 1 → allowed (get_or bs 0 0) ≡ true → NoLength ≡ cause_of bs
unfolding cause_by length_of
way_unsized [] one known = absurd (omega arith)
way_unsized (b ∷ []) one known = sized_cause b [] known refl
way_unsized (b ∷ c ∷ bs) one known = absurd (omega arith)

-- the short form
pub way_short : (bs : List ℕ) → 2 ≤ length bs → allowed (get_or bs 0 0) ≡ true → get_or bs 1 0 < 0x80 → PastEnd ≡ cause_of bs
unfolding cause_by length_of
way_short [] some known low = absurd (omega arith)
way_short (b ∷ []) some known low = absurd (omega arith)
way_short (b ∷ c ∷ bs) some known low = sized_cause b (c ∷ bs) {l = octets 1 c} known (rw (length_of, lt-ltb c 0x80 low))

-- the first length octet is 80 or FF
reserved : (c : ℕ) (bs : List ℕ) → (eqb c 0x80 || eqb c 0xFF) ≡ true → length_of (c ∷ bs) ≡ wrong
unfolding length_of long_form
reserved c bs t = go (eqb c 0x80) refl
  where
    go : (z : Bool) → eqb c 0x80 ≡ z → length_of (c ∷ bs) ≡ wrong
    go true e = let is : c ≡ 0x80 = eqb-true c 0x80 e in rw is refl
    go false e = let is : c ≡ 0xFF = eqb-true c 0xFF (rw e at t) in rw is refl

-- indefinite or reserved
pub way_reserved : (bs : List ℕ) → 2 ≤ length bs → allowed (get_or bs 0 0) ≡ true → (eqb (get_or bs 1 0) 0x80 || eqb (get_or bs 1 0) 0xFF) ≡ true
    → WrongLength ≡ cause_of bs
unfolding cause_by
way_reserved [] some known t = absurd (omega arith)
way_reserved (b ∷ []) some known t = absurd (omega arith)
way_reserved (b ∷ c ∷ bs) some known t = sized_cause b (c ∷ bs) known (reserved c bs t)

-- what the test of 80 and FF leaves: the first length octet asks for 1 to 126 more
pub asks_some : (c : ℕ) → c < 256 → 0x80 ≤ c → (eqb c 0x80 || eqb c 0xFF) ≡ false → (1 ≤ c - 0x80) × (c - 0x80 ≤ 126)
asks_some c octet long t = go (eqb c 0x80) refl
  where
    go : (z : Bool) → eqb c 0x80 ≡ z → (1 ≤ c - 0x80) × (c - 0x80 ≤ 126)
    go true e = absurd (false≢true (sym (rw e at t)))
    go false e =
        let low : c ≡ 0x80 → ⊥ = eqb-false c 0x80 e in
        let high : c ≡ 0xFF → ⊥ = eqb-false c 0xFF (rw e at t) in
        (omega arith, omega arith)

-- The test of the first octet of k that follow the first length octet: it is not the shortest form.
abbrev pub Longer : ℕ → ℕ → Bool
Longer k b = eqb b 0 || (eqb k 1 && ltb b 0x80)

-- it passes if the form is not the shortest
longer_form : (k : ℕ) (bs : List ℕ) → 1 ≤ k → k ≤ length bs → Longer k (get_or bs 0 0) ≡ true → shortest (take k bs) ≡ false
unfolding shortest
longer_form zero bs some fits t = absurd (omega arith)
longer_form (suc k) [] some fits t = absurd (omega arith)
longer_form (suc zero) (b ∷ bs) some fits t = lt-leb 0x80 b (below (eqb b 0) refl)
  where
    below : (z : Bool) → eqb b 0 ≡ z → b < 0x80
    below true e = omega (arith, eqb-true b 0 e)
    below false e = ltb-true b 0x80 (rw e at t)
longer_form (suc (suc j)) (b ∷ []) some fits t = absurd (omega arith)
longer_form (suc (suc j)) (b ∷ c ∷ bs) some fits t = le-ltb 0 b (zeroed (eqb b 0) refl)
  where
    zeroed : (z : Bool) → eqb b 0 ≡ z → b ≤ 0
    zeroed true e = omega (arith, eqb-true b 0 e)
    zeroed false e = absurd (false≢true (rw (e, ne_eqb (suc (suc j)) 1 (λ z. omega arith)) at t))

-- and fails if it is
shortest_form : (k : ℕ) (bs : List ℕ) → 1 ≤ k → k ≤ length bs → Longer k (get_or bs 0 0) ≡ false → shortest (take k bs) ≡ true
unfolding shortest
shortest_form zero bs some fits t = absurd (omega arith)
shortest_form (suc k) [] some fits t = absurd (omega arith)
shortest_form (suc zero) (b ∷ bs) some fits t = le-leb 0x80 b (above (eqb b 0) refl)
  where
    above : (z : Bool) → eqb b 0 ≡ z → 0x80 ≤ b
    above true e = absurd (false≢true (sym (rw e at t)))
    above false e = ltb-false b 0x80 (rw e at t)
shortest_form (suc (suc j)) (b ∷ []) some fits t = absurd (omega arith)
shortest_form (suc (suc j)) (b ∷ c ∷ bs) some fits t = lt-ltb 0 b (above (eqb b 0) refl)
  where
    above : (z : Bool) → eqb b 0 ≡ z → 0 < b
    above true e = absurd (false≢true (sym (rw e at t)))
    above false e = let other : b ≡ 0 → ⊥ = eqb-false b 0 e in omega arith

-- The long form of k octets, the first k of bs.
module _ (k : ℕ) (bs : List ℕ) (some : 1 ≤ k) (most : k ≤ 126) where
  -- fewer octets than it asks for
  long_cut : length bs < k → long_form k bs ≡ missing
  unfolding long_form
  long_cut few = rw (long_form, le-leb 1 k some, le-leb k 126 most, lt-leb k (length bs) few)

  -- not the shortest form
  long_wrong : k ≤ length bs → Longer k (get_or bs 0 0) ≡ true → long_form k bs ≡ wrong
  unfolding long_form
  long_wrong fits t = rw (long_form, le-leb 1 k some, le-leb k 126 most, le-leb k (length bs) fits, longer_form k bs some fits t)

  -- the shortest form
  long_right : k ≤ length bs → Longer k (get_or bs 0 0) ≡ false → long_form k bs ≡ octets (suc k) (value_from 0 (take k bs))
  unfolding long_form
  long_right fits t = rw (long_form, le-leb 1 k some, le-leb k 126 most, le-leb k (length bs) fits, shortest_form k bs some fits t)

-- the cause is what the long form gives
long_cause : (b c : ℕ) (bs : List ℕ) {l : Length} → allowed b ≡ true → 0x80 ≤ c → long_form (c - 0x80) bs ≡ l → cause_by l ≡ cause_of (b ∷ c ∷ bs)
unfolding length_of
long_cause b c bs known long e = sized_cause b (c ∷ bs) known (rw (length_of, le-ltb c 0x80 long) e)

-- The long form, whose first length octet is neither 80 nor FF and asks for k octets more.
module _ (bs : List ℕ) (k : ℕ) (some : 2 ≤ length bs) (known : allowed (get_or bs 0 0) ≡ true) (octet : get_or bs 1 0 < 256) (long : 0x80 ≤ get_or bs 1 0)
    (t : (eqb (get_or bs 1 0) 0x80 || eqb (get_or bs 1 0) 0xFF) ≡ false) (count : k ≡ get_or bs 1 0 - 0x80) where
  -- it asks for some
  range : (1 ≤ k) × (k ≤ 126)
  range = rw count (asks_some (get_or bs 1 0) octet long t)

  -- the cause is what the long form gives
  by_form : {l : Length} → long_form k (drop 2 bs) ≡ l → cause_by l ≡ cause_of bs
  by_form e =
      long_cause (get_or bs 0 0) (get_or bs 1 0) (drop 2 bs) known long (ap (λ (j : ℕ). long_form j (drop 2 bs)) (sym count) ∙ e)
      ∙ ap cause_of (sym (two bs (omega arith)))

  -- fewer octets than it asks for
  pub way_cut : length bs - 2 < k → NoLength ≡ cause_of bs
  unfolding cause_by
  way_cut few = by_form (long_cut k (drop 2 bs) range.0 range.1 (omega (arith, length-drop 2 bs)))

  -- not the shortest form
  pub way_longer : k ≤ length bs - 2 → Longer k (get_or bs 2 0) ≡ true → WrongLength ≡ cause_of bs
  unfolding cause_by
  way_longer fits test =
      by_form (long_wrong k (drop 2 bs) range.0 range.1 (omega (arith, length-drop 2 bs)) (ap (Longer k) (get_or-drop 2 bs 0 0) ∙ test))

  -- the shortest form: since there is no element, it runs past the end
  pub way_past : k ≤ length bs - 2 → Longer k (get_or bs 2 0) ≡ false → PastEnd ≡ cause_of bs
  unfolding cause_by
  way_past fits test =
      by_form (long_right k (drop 2 bs) range.0 range.1 (omega (arith, length-drop 2 bs)) (ap (Longer k) (get_or-drop 2 bs 0 0) ∙ test))
