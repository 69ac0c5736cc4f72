-- The octets of notBefore and notAfter by their parts, and two of them one after the other. Assumes nothing.
use Prim.Native.Nat.{ℕ, suc, ◌+◌, ◌≤◌}
use mathlib.Core.Bool.{Bool, true, false, ◌||◌}
use mathlib.Core.List.{List, [], ◌∷◌, ◌++◌}
use mathlib.Core.Option.{Option, some, none, none-ne-some}
use mathlib.Core.Path.{◌≡◌, refl, sym, ◌∙◌}
use native.Mathlib.Omega.{arith}
use borrow.Author.Tests.{le-leb, eqb-true, eqb-false, eq-eqb}
use lib.Dec.{leb, eqb}
use lib.ListN.{length}
use lib.Seq.{take_at, drop_at}
use Rattle.time.specs.meaning.Time.{utc_moment, generalized_moment, time_moment}
use Rattle.time.specs.meaning.Validity.{is_short, shown_moment, first_element, further_elements, forwards}
use Rattle.time.proofs.theorems.Times.{utc_length, generalized_length}
use Rattle.time.proofs.theorems.Ranges.{kept}
use Rattle.time.proofs.theorems.Validities.{element_short, shown_inside, forwards_one, forwards_both}

-- an element with one length octet
short_parts : (id : ℕ) (c : List ℕ) → is_short (id ∷ length c ∷ c) ≡ true
unfolding is_short
short_parts id c = rw (le-leb 2 (suc (suc (length c))) (omega arith)) (eq-eqb (length c) (length c) refl)

-- the element of notBefore or notAfter around a Time
module _ (id time : ℕ) (c : List ℕ) (n : ℕ) where
  pub shown_parts : (eqb id 0xA0 || eqb id 0xA1) ≡ true → time_moment time c ≡ some n → shown_moment (id ∷ suc (suc (length c)) ∷ time ∷ length c ∷ c) ≡ some n
  shown_parts one shows =
      shown_inside (id ∷ suc (suc (length c)) ∷ time ∷ length c ∷ c) (short_parts id (time ∷ length c ∷ c)) one
      ∙ element_short (time ∷ length c ∷ c) (short_parts time c)
      ∙ shows

-- a Time has at most 15 content octets
pub time_few : (id : ℕ) (c : List ℕ) (n : ℕ) → time_moment id c ≡ some n → length c ≤ 15
unfolding time_moment
time_few id c n is = by_first (eqb id 0x17) is
  where
    utc : (k : ℕ) → length c ≡ k → utc_moment c ≡ some n → k ≤ 15
    utc k size shows = by (eqb k 13) refl
      where
        by : (b : Bool) → eqb k 13 ≡ b → k ≤ 15
        by true e = omega (arith, eqb-true k 13 e)
        by false e = absurd (none-ne-some n (sym (utc_length c (λ same. eqb-false k 13 e (sym size ∙ same))) ∙ shows))

    generalized : (k : ℕ) → length c ≡ k → generalized_moment c ≡ some n → k ≤ 15
    generalized k size shows = by (eqb k 15) refl
      where
        by : (b : Bool) → eqb k 15 ≡ b → k ≤ 15
        by true e = omega (arith, eqb-true k 15 e)
        by false e = absurd (none-ne-some n (sym (generalized_length c (λ same. eqb-false k 15 e (sym size ∙ same))) ∙ shows))

    by_first : (b : Bool)
        → (elim b as (λ x. Option ℕ) [ true ↦ utc_moment c | false ↦ elim (eqb id 0x18) as (λ x. Option ℕ) [ true ↦ generalized_moment c | false ↦ none ] ]) ≡ some n
        → length c ≤ 15
    by_first true h = utc (length c) refl h
    by_first false h = generalized (length c) refl (kept (eqb id 0x18) (generalized_moment c) n h).1

-- no octets run forwards
pub forwards_none : forwards [] ≡ true
forwards_none = forwards_one [] (omega arith)

-- an element with one length octet alone runs forwards
pub forwards_alone : (a : ℕ) (body : List ℕ) → forwards (a ∷ length body ∷ body) ≡ true
forwards_alone a body = forwards_one (a ∷ length body ∷ body) (omega arith)

-- with octets after it
module _ (a : ℕ) (body rest : List ℕ) where
  first_parts : first_element (a ∷ length body ∷ (body ++ rest)) ≡ a ∷ length body ∷ body
  unfolding first_element
  first_parts = take_at (a ∷ length body ∷ body) rest (2 + length body) (omega arith)

  further_parts : further_elements (a ∷ length body ∷ (body ++ rest)) ≡ rest
  unfolding further_elements
  further_parts = drop_at (a ∷ length body ∷ body) rest (2 + length body) (omega arith)

  -- it runs forwards by the order of the two moments
  pub forwards_two : (m n : ℕ) → shown_moment (a ∷ length body ∷ body) ≡ some m → shown_moment rest ≡ some n → forwards (a ∷ length body ∷ (body ++ rest)) ≡ leb m n
  unfolding first_element further_elements
  forwards_two m n shows also = forwards_both _ m n (rw first_parts shows) (rw further_parts also)
