-- The laws of length octets: below 65,536 they are one, two or three, the shortest are read back, and what is read is the shortest. Assumes nothing.
use Prim.Native.Nat.{ℕ, zero, suc, ◌+◌, ◌-◌, ◌*◌, ◌/◌, ◌%◌, ◌^◌, ◌≤◌, ◌<◌}
use mathlib.Core.Path.{◌≡◌, refl, sym, ap, ap₂, ◌∙◌}
use mathlib.Core.Bool.{Bool, true, false, ◌&&◌}
use mathlib.Core.List.{List, [], ◌∷◌, ◌++◌}
use native.Mathlib.Nat.{mul_assoc, mul-le-mul_right, pow-succ', lt_of_lt_of_le}
use native.Mathlib.Omega.{arith}
use lib.Dec.{leb, ltb}
use lib.ListN.{length, take, length-append}
use lib.Seq.{length-take-le}
use borrow.Author.Tests.{ltb-true, ltb-false, leb-true, lt-ltb, le-ltb, le-leb, ne_eqb}
use Rattle.der.specs.meaning.Octets.{Octets}
use Rattle.der.specs.meaning.Length.{missing, wrong, octets, value_from, shortest, long_form, length_of, base256, length_octets}
use Rattle.der.proofs.theorems.lists.Parts.{octets_rest, octets_take}

-- no octet gives 0
base_zero : (k : ℕ) → base256 k 0 ≡ []
unfolding base256
base_zero zero = refl
base_zero (suc k) = refl

-- the last octet of a number is its remainder by 256
base_step : (k n : ℕ) → 0 < n → base256 (suc k) n ≡ base256 k (n / 256) ++ (n % 256 ∷ [])
unfolding base256
base_step k n low = rw (base256, ne_eqb n 0 (λ e. omega arith))

-- one octet gives what is below 256
base_one : (k n : ℕ) → 0 < n → n < 256 → base256 (suc k) n ≡ n ∷ []
base_one k n low high =
    let z : n / 256 ≡ 0 = omega arith in
    let m : n % 256 ≡ n = omega arith in
    rw (base_step k n low, z, base_zero k, m)

-- two octets give what is below 65,536
base_two : (k n : ℕ) → 256 ≤ n → n ≤ 65535 → base256 (suc (suc k)) n ≡ n / 256 ∷ n % 256 ∷ []
base_two k n low high =
    let q : 0 < n / 256 = omega arith in
    let r : n / 256 < 256 = omega arith in
    rw (base_step (suc k) n (omega arith), base_one k (n / 256) q r)

-- a number below 128 is its own length octet
pub shortest_small : (n : ℕ) → n < 128 → length_octets n ≡ n ∷ []
unfolding length_octets
shortest_small n h = rw (length_octets, lt-ltb n 128 h)

-- the shortest length octets if the octets to the base 256 are known
long_octets : (n : ℕ) (bs : List ℕ) → 128 ≤ n → base256 n n ≡ bs → length_octets n ≡ (0x80 + length bs) ∷ bs
unfolding length_octets
long_octets n bs h e = rw (length_octets, le-ltb n 128 h, e)

-- one octet after the first from 128 to 255
pub shortest_one : (n : ℕ) → 128 ≤ n → n < 256 → length_octets n ≡ 0x81 ∷ n ∷ []
shortest_one zero low high = absurd (omega arith)
shortest_one (suc k) low high = long_octets (suc k) _ low (base_one k (suc k) (omega arith) high)

-- two octets after the first from 256 to 65,535
pub shortest_two : (n : ℕ) → 256 ≤ n → n ≤ 65535 → length_octets n ≡ 0x82 ∷ n / 256 ∷ n % 256 ∷ []
shortest_two zero low high = absurd (omega arith)
shortest_two (suc zero) low high = absurd (omega arith)
shortest_two (suc (suc k)) low high = long_octets (suc (suc k)) _ (omega arith) (base_two k (suc (suc k)) low high)

-- a larger number has no fewer octets to the base 256
base_grows : (j k m n : ℕ) → j ≤ k → m ≤ n → length (base256 j m) ≤ length (base256 k n)
unfolding base256
base_grows zero k m n few low = omega arith
base_grows (suc j) zero m n few low = absurd (omega arith)
base_grows (suc j) (suc k) zero n few low = omega arith
base_grows (suc j) (suc k) (suc m) n few low =
    let a = base256 j (suc m / 256) in
    let b = base256 k (n / 256) in
    let more : length a ≤ length b = base_grows j k (suc m / 256) (n / 256) (omega arith) (omega arith) in
    rw (base_step j (suc m) (omega arith), base_step k n (omega arith))
    (omega (arith, length-append a (suc m % 256 ∷ []), length-append b (n % 256 ∷ [])))

-- and no fewer length octets
pub lengths_grow : (m n : ℕ) → m ≤ n → length (length_octets m) ≤ length (length_octets n)
unfolding length_octets
lengths_grow m n low = by_tests (ltb m 128) (ltb n 128) refl refl
  where
    octets_by : Bool → ℕ → List ℕ
    octets_by b k = elim b [ true ↦ k ∷ [] | false ↦ (0x80 + length (base256 k k)) ∷ base256 k k ]

    by_tests : (a b : Bool) → ltb m 128 ≡ a → ltb n 128 ≡ b → length (octets_by a m) ≤ length (octets_by b n)
    by_tests true true p q = omega arith
    by_tests true false p q = omega arith
    by_tests false true p q = absurd (omega (arith, ltb-false m 128 p, ltb-true n 128 q))
    by_tests false false p q = omega (arith, base_grows m n m n low low)

-- no octets give the number before them
pub value_none : (n : ℕ) → value_from n [] ≡ n
unfolding value_from
value_none n = refl

-- an octet gives the number that those after it follow
pub value_more : (n b : ℕ) (bs : List ℕ) → value_from n (b ∷ bs) ≡ value_from (n * 256 + b) bs
unfolding value_from
value_more n b bs = refl

-- the last octet is added to 256 times what those before it give
pub value_last : (n : ℕ) (bs : List ℕ) (b : ℕ) → value_from n (bs ++ (b ∷ [])) ≡ value_from n bs * 256 + b
unfolding value_from
value_last n [] b = refl
value_last n (c ∷ bs) b = value_last (n * 256 + c) bs b

-- octets are digits to the base 256
pub value_below : (n : ℕ) (bs : List ℕ) → Octets bs → value_from n bs < suc n * 256 ^ length bs
unfolding value_from Octets
value_below n [] o = omega arith
value_below n (b ∷ bs) o =
    let more : suc (n * 256 + b) * 256 ^ length bs ≤ suc n * 256 * 256 ^ length bs = mul-le-mul_right (256 ^ length bs) (omega (arith, o 0)) in
    lt_of_lt_of_le (value_below (n * 256 + b) bs (λ i. o (suc i))) (rw (pow-succ' 256 (length bs), ← mul_assoc (suc n) 256 (256 ^ length bs)) more)

-- more octets give no less
value_grows : (n : ℕ) (bs : List ℕ) → n ≤ value_from n bs
unfolding value_from
value_grows n [] = omega arith
value_grows n (b ∷ bs) = omega (arith, value_grows (n * 256 + b) bs)

-- three octets or more of which the first is not 00 give 65,536 or more
pub value_large : (bs : List ℕ) → 3 ≤ length bs → shortest bs ≡ true → 65536 ≤ value_from 0 bs
unfolding value_from shortest
value_large [] long s = absurd (omega arith)
value_large (b ∷ []) long s = absurd (omega arith)
value_large (b ∷ c ∷ []) long s = absurd (omega arith)
value_large (b ∷ c ∷ d ∷ bs) long s =
    omega (arith, ltb-true 0 b s, value_grows (((0 * 256 + b) * 256 + c) * 256 + d) bs)

-- The three forms of the length octets of a number below 65,536.
data Form : ℕ → List ℕ → Type 0 where
  small : {n : ℕ} → n < 128 → Form n (n ∷ [])
  one : {n : ℕ} → 128 ≤ n → n < 256 → Form n (0x81 ∷ n ∷ [])
  two : {n : ℕ} → 256 ≤ n → n ≤ 65535 → Form n (0x82 ∷ n / 256 ∷ n % 256 ∷ [])

-- the shortest length octets of a number below 65,536 have one of the forms
form : (n : ℕ) → n ≤ 65535 → Form n (length_octets n)
form n high = below (ltb n 128) (ltb n 256) refl refl
  where
    below : (s t : Bool) → ltb n 128 ≡ s → ltb n 256 ≡ t → Form n (length_octets n)
    below true t p q = let h : n < 128 = ltb-true n 128 p in rw (shortest_small n h) (small h)
    below false true p q =
        let l : 128 ≤ n = ltb-false n 128 p in
        let h : n < 256 = ltb-true n 256 q in
        rw (shortest_one n l h) (one l h)
    below false false p q = let l : 256 ≤ n = ltb-false n 256 q in rw (shortest_two n l high) (two l high)

-- octets in one of the forms are read back
form_read : {n : ℕ} {bs : List ℕ} (more : List ℕ) → Form n bs → length_of (bs ++ more) ≡ octets (length bs) n
unfolding length_of long_form shortest value_from
form_read more (small {n} h) = rw (length_of, lt-ltb n 128 h)
form_read more (one {n} low high) =
    let v : 0 * 256 + n ≡ n = omega arith in
    rw (long_form, le-leb 1 (suc (length more)) (omega arith), le-leb 128 n low, v)
form_read more (two {n} low high) =
    let v : (0 * 256 + n / 256) * 256 + n % 256 ≡ n = omega arith in
    rw (long_form, le-leb 2 (suc (suc (length more))) (omega arith), lt-ltb 0 (n / 256) (omega arith), v)

-- the shortest length octets are read back, whatever comes after them
pub length_encoded : (n : ℕ) (more : List ℕ) → n ≤ 65535 → length_of (length_octets n ++ more) ≡ octets (length (length_octets n)) n
length_encoded n more high = form_read more (form n high)

-- missing length octets give no length
pub never_missing : {A : Type 0} {m n : ℕ} → missing ≡ octets m n → A
never_missing e = let z : ◌≡◌ {A = ℕ} 0 1 = cc in absurd (omega arith)

-- nor do wrong ones
never_wrong : {A : Type 0} {m n : ℕ} → wrong ≡ octets m n → A
never_wrong e = let z : ◌≡◌ {A = ℕ} 0 1 = cc in absurd (omega arith)

-- What a long form of k octets after the first says if it is read as m octets in all that give n.
pub record Long (k : ℕ) (bs : List ℕ) (m n : ℕ) : Type 0 where
  pub fits : k ≤ length bs
  pub brief : shortest (take k bs) ≡ true
  pub counted : m ≡ suc k
  pub valued : n ≡ value_from 0 (take k bs)

-- a long form that is read passes every test
pub long_read : (k : ℕ) (bs : List ℕ) (m n : ℕ) → long_form k bs ≡ octets m n → Long k bs m n
unfolding long_form
long_read k bs m n e = tests (leb 1 k && leb k 126) (leb k (length bs)) (shortest (take k bs)) refl refl refl
  where
    tests : (a b c : Bool) → (leb 1 k && leb k 126) ≡ a → leb k (length bs) ≡ b → shortest (take k bs) ≡ c → Long k bs m n
    tests false b c p q r = never_wrong (rw (long_form, p) at e)
    tests true false c p q r = never_missing (rw (long_form, p, q) at e)
    tests true true false p q r = never_wrong (rw (long_form, p, q, r) at e)
    tests true true true p q r =
        let h : octets (suc k) (value_from 0 (take k bs)) ≡ octets m n = rw (long_form, p, q, r) at e in
        record { fits = leb-true k (length bs) q; brief = r; counted = cc; valued = cc }

-- octets in the shortest form are the octets after the first of the shortest length octets
shortest_octets : (bs : List ℕ) → Octets bs → shortest bs ≡ true → value_from 0 bs ≤ 65535 → length_octets (value_from 0 bs) ≡ (0x80 + length bs) ∷ bs
unfolding shortest value_from Octets
shortest_octets [] o s high =
    let f : ◌≡◌ {A = Bool} false true = s in
    let z : ◌≡◌ {A = ℕ} 0 1 = cc in
    absurd (omega arith)
shortest_octets (b ∷ []) o s high =
    let v : 0 * 256 + b ≡ b = omega arith in
    rw v (shortest_one b (leb-true 0x80 b s) (o 0))
shortest_octets (b ∷ c ∷ []) o s high =
    let n = (0 * 256 + b) * 256 + c in
    let positive : 0 < b = ltb-true 0 b s in
    let first : b < 256 = o 0 in
    let second : c < 256 = o 1 in
    let q : n / 256 ≡ b = omega arith in
    let r : n % 256 ≡ c = omega arith in
    shortest_two n (omega arith) high ∙ rw (q, r)
shortest_octets (b ∷ c ∷ d ∷ bs) o s high = absurd (omega (arith, value_large (b ∷ c ∷ d ∷ bs) (omega arith) s))

-- Length octets that are read are the shortest.
pub record Shortest (bs : List ℕ) (k n : ℕ) : Type 0 where
  pub taken : take k bs ≡ length_octets n
  pub counted : length (length_octets n) ≡ k

-- a long form that is read, with its first octet
long_shortest : (b j : ℕ) (bs : List ℕ) (k n : ℕ) → Octets bs → b ≡ 0x80 + j → n ≤ 65535 → Long j bs k n → Shortest (b ∷ bs) k n
long_shortest b j bs k n o first high l =
    let ls : List ℕ = take j bs in
    let long : length ls ≡ j = length-take-le j bs l.fits in
    let v : n ≡ value_from 0 ls = l.valued in
    let own : length_octets (value_from 0 ls) ≡ (0x80 + length ls) ∷ ls = shortest_octets ls (octets_take j bs o) l.brief (omega arith) in
    let all : length_octets n ≡ b ∷ ls = ap length_octets v ∙ own ∙ rw (long, first) in
    rw l.counted (record { taken = sym all; counted = ap length all ∙ rw long })

-- what is read as a length below 65,536 is its shortest length octets
pub length_octets_lem : (bs : List ℕ) (k n : ℕ) → Octets bs → n ≤ 65535 → length_of bs ≡ octets k n → Shortest bs k n
unfolding length_of
length_octets_lem [] k n o high e = never_missing e
length_octets_lem (b ∷ bs) k n o high e = test (ltb b 0x80) refl
  where
    test : (t : Bool) → ltb b 0x80 ≡ t → Shortest (b ∷ bs) k n
    test true p =
        let h : octets 1 b ≡ octets k n = rw (length_of, p) at e in
        let ks : k ≡ 1 = cc in
        let ns : n ≡ b = cc in
        let own : length_octets b ≡ b ∷ [] = shortest_small b (ltb-true b 0x80 p) in
        rw (ks, ns) (record { taken = sym own; counted = ap length own })
    test false p =
        let h : long_form (b - 0x80) bs ≡ octets k n = rw (length_of, p) at e in
        long_shortest b (b - 0x80) bs k n (octets_rest b bs o) (omega (arith, ltb-false b 0x80 p)) high (long_read (b - 0x80) bs k n h)

-- there is at least one length octet
pub length_counted : (bs : List ℕ) (k n : ℕ) → length_of bs ≡ octets k n → 1 ≤ k
unfolding length_of
length_counted [] k n e = never_missing e
length_counted (b ∷ bs) k n e = test (ltb b 0x80) refl
  where
    test : (t : Bool) → ltb b 0x80 ≡ t → 1 ≤ k
    test true p =
        let h : octets 1 b ≡ octets k n = rw (length_of, p) at e in
        let one : k ≡ 1 = cc in
        omega arith
    test false p = omega (arith, (long_read (b - 0x80) bs k n (rw (length_of, p) at e)).counted)

-- the long form looks at its own octets alone
long_decided : (j : ℕ) (bs cs : List ℕ) (k n : ℕ) → long_form j bs ≡ octets k n → j ≤ length cs → take j cs ≡ take j bs → long_form j cs ≡ octets k n
unfolding long_form
long_decided j bs cs k n e room same = tests (leb 1 j && leb j 126) (leb j (length bs)) refl refl
  where
    tests : (a b : Bool) → (leb 1 j && leb j 126) ≡ a → leb j (length bs) ≡ b → long_form j cs ≡ octets k n
    tests false b p q = never_wrong (rw (long_form, p) at e)
    tests true false p q = never_missing (rw (long_form, p, q) at e)
    tests true true p q =
        let x = long_read j bs k n e in
        let brief : shortest (take j cs) ≡ true = ap shortest same ∙ x.brief in
        rw (long_form, p, le-leb j (length cs) room, brief)
        (ap (λ (l : List ℕ). octets (suc j) (value_from 0 l)) same ∙ ap₂ octets (sym x.counted) (sym x.valued))

-- What octets say of a length is decided by the length octets alone.
pub length_decided : (bs cs : List ℕ) (k n : ℕ) → length_of bs ≡ octets k n → k ≤ length cs → take k cs ≡ take k bs → length_of cs ≡ octets k n
unfolding length_of
length_decided [] cs k n e room same = never_missing e
length_decided (b ∷ bs) [] k n e room same = absurd (omega (arith, length_counted (b ∷ bs) k n e))
length_decided (b ∷ bs) (c ∷ cs) zero n e room same = absurd (omega (arith, length_counted (b ∷ bs) zero n e))
length_decided (b ∷ bs) (c ∷ cs) (suc k) n e room same = test (ltb b 0x80) refl
  where
    first : c ≡ b
    first = cc

    test : (t : Bool) → ltb b 0x80 ≡ t → length_of (c ∷ cs) ≡ octets (suc k) n
    test true p = ap (λ (x : ℕ). length_of (x ∷ cs)) first ∙ rw (length_of, p) (rw (length_of, p) at e)
    test false p =
        let h : long_form (b - 0x80) bs ≡ octets (suc k) n = rw (length_of, p) at e in
        let counted : b - 0x80 ≡ k = omega (arith, (long_read (b - 0x80) bs (suc k) n h).counted) in
        let rest : take (b - 0x80) cs ≡ take (b - 0x80) bs = rw counted (cc) in
        ap (λ (x : ℕ). length_of (x ∷ cs)) first ∙ rw (length_of, p) (long_decided (b - 0x80) bs cs (suc k) n h (omega arith) rest)
