-- The search for a pair as the code makes it: from one later position to the next, and at each behind the earlier ones that have another
-- certReqId, which are passed one by one or eight at once. Assumes nothing.
use Prim.Native.Nat.{ℕ, zero, suc, ◌+◌, ◌-◌, ◌≤◌, ◌<◌}
use native.Mathlib.Numerals.{add-one}
use native.Mathlib.Omega.{arith}
use mathlib.Core.Path.{◌≡◌, refl, sym, ap, ap₂, ◌∙◌}
use mathlib.Core.Bool.{Bool, true, false, ◌||◌, or-false, or_assoc}
use mathlib.Core.List.{List, [], ◌∷◌, ◌++◌}
use Rattle.std.specs.List.{fold}
use Rattle.std.specs.Ordering.{int_eq}
use Rattle.std.specs.Prelude.{Option, Some, None}
use Rattle.std.proofs.Common.{take-add}
use Rattle.std.proofs.lemmas.List.{take-map, get_or-map, map-append}
use Rattle.std.proofs.lemmas.List.Folds.{list_any-append}
use lib.IntN.{ℤ, pos}
use lib.ListN.{length, get_or, take, drop}
use Rattle.verdict.specs.declared.duplicates.ReqId.{ReqId}
use Rattle.verdict.specs.steps.SearchAnswer.{is_among, find, numbers_of, pair_from}

-- whether one of some certReqIds is the searched one, counted up from the first
pub any_folded : (k : ℤ) (b : Bool) (ids : List ReqId) → fold (λ (any : Bool) (id : ReqId). any || int_eq id.0 k) b ids ≡ b || is_among k (numbers_of ids)
any_folded k b [] = sym (or-false b)
any_folded k b (id ∷ ids) = any_folded k (b || int_eq id.0 k) ids ∙ or_assoc b (int_eq id.0 k) (is_among k (numbers_of ids))

-- None of the first positions has the searched one.
abbrev pub Passed : ℤ → ℕ → List ReqId → Type 0
Passed k n ids = is_among k (numbers_of (take n ids)) ≡ false

-- eight more are passed over, of which none is searched for
pub eight_passed : (k : ℤ) (n : ℕ) (ids rest eight : List ReqId) → Passed k n ids → rest ≡ drop n ids → eight ≡ take 8 rest
    → false ≡ is_among k (numbers_of eight) → Passed k (n + 8) ids
eight_passed k n ids rest eight passed left front none =
    ap (λ (l : List ReqId). is_among k (numbers_of l)) (take-add n 8 ids ∙ ap (λ (l : List ReqId). take n ids ++ take 8 l) (sym left))
    ∙ ap (is_among k) (map-append (λ (id : ReqId). id.0) (take n ids) (take 8 rest))
    ∙ list_any-append (λ (m : ℤ). int_eq m k) (numbers_of (take n ids)) (numbers_of (take 8 rest))
    ∙ ap₂ ◌||◌ passed (ap (λ (l : List ReqId). is_among k (numbers_of l)) (sym front) ∙ sym none)

-- the certReqId at a position
abbrev pub at : List ReqId → ℕ → ℤ
at ids i = (get_or ids i (record { 0 = pos 0 })).0

-- one more is passed, which is not searched for
pub one_passed : (k : ℤ) (n : ℕ) (ids : List ReqId) → n < length ids → Passed k n ids → int_eq (at ids n) k ≡ false → Passed k (n + 1) ids
one_passed k n [] there passed other = absurd (omega arith)
one_passed k zero (id ∷ ids) there passed other = rw other
one_passed k (suc n) (id ∷ ids) there passed other =
    rw add-one (by_test (int_eq id.0 k) passed (λ before. rw add-one at (one_passed k n ids (omega arith) before other)))
  where
    by_test : (b : Bool) → b || is_among k (numbers_of (take n ids)) ≡ false
        → (is_among k (numbers_of (take n ids)) ≡ false → is_among k (numbers_of (take (suc n) ids)) ≡ false)
        → b || is_among k (numbers_of (take (suc n) ids)) ≡ false
    by_test true passed more = cc
    by_test false passed more = more passed

-- If all are passed, none is found.
none_found : (k : ℤ) (i : ℕ) (ns : List ℤ) → is_among k ns ≡ false → find k i ns ≡ None
unfolding find
none_found k i [] none = refl
none_found k i (n ∷ ns) none = by_test (int_eq n k) none (none_found k (suc i) ns)
  where
    by_test : (b : Bool) → b || is_among k ns ≡ false → (is_among k ns ≡ false → find k (suc i) ns ≡ None)
        → elim b as (λ x. Option ℕ) [ true ↦ Some i | false ↦ find k (suc i) ns ] ≡ None
    by_test true none more = cc
    by_test false none more = more none

-- The one behind those that are passed is found, if it is searched for.
next_found : (k : ℤ) (from n j : ℕ) (ids : List ReqId) → n < j → n < length ids → Passed k n ids → int_eq (at ids n) k ≡ true
    → find k from (numbers_of (take j ids)) ≡ Some (from + n)
unfolding find
next_found k from n j [] early there passed same = absurd (omega arith)
next_found k from n zero (id ∷ ids) early there passed same = absurd (omega arith)
next_found k from zero (suc j) (id ∷ ids) early there passed same = rw (find, same) (ap Some (omega arith))
next_found k from (suc n) (suc j) (id ∷ ids) early there passed same =
    by_test (int_eq id.0 k) passed (λ before. next_found k (suc from) n j ids (omega arith) (omega arith) before same)
  where
    by_test : (b : Bool) → b || is_among k (numbers_of (take n ids)) ≡ false
        → (is_among k (numbers_of (take n ids)) ≡ false → find k (suc from) (numbers_of (take j ids)) ≡ Some (suc from + n))
        → elim b as (λ x. Option ℕ) [ true ↦ Some from | false ↦ find k (suc from) (numbers_of (take j ids)) ] ≡ Some (from + suc n)
    by_test true passed more = cc
    by_test false passed more = more passed ∙ ap Some (omega arith)

-- The search for a pair: what is left of it from a later position on.
abbrev pub pair_left : List ReqId → ℕ → Option (ℕ × ℕ)
pair_left ids j = pair_from (numbers_of ids) (length ids - j) j

-- at the end it is nothing
pub pair_ends : (ids : List ReqId) (j : ℕ) → length ids ≤ j → None ≡ pair_left ids j
unfolding pair_from
pair_ends ids j past = ap (λ (n : ℕ). pair_from (numbers_of ids) n j) {x = 0} (omega arith)

-- the search for a certReqId before its own position
abbrev earlier_of : List ReqId → ℕ → Option ℕ
earlier_of ids j = find (at ids j) 0 (numbers_of (take j ids))

-- at a later position it is decided by that search
pair_step : (ids : List ReqId) (j : ℕ) → j < length ids
    → pair_left ids j ≡ elim (earlier_of ids j) as (λ x. Option (ℕ × ℕ)) [ Some i ↦ Some (i, j) | None ↦ pair_left ids (suc j) ]
unfolding pair_from
pair_step ids j there =
    let more : length ids - j ≡ suc (length ids - suc j) = omega arith in
    rw (more, pair_from, get_or-map (λ (id : ReqId). id.0) ids j (record { 0 = pos 0 }) (pos 0) there, take-map (λ (id : ReqId). id.0) j ids)

-- if the one behind those that are passed has it, that is the earlier position
pub pair_here : (ids : List ReqId) (j i : ℕ) → j < length ids → i < j → Passed (at ids j) i ids → int_eq (at ids i) (at ids j) ≡ true
    → Some (i, j) ≡ pair_left ids j
pair_here ids j i there early passed same =
    ap (λ (o : Option ℕ). elim o as (λ x. Option (ℕ × ℕ)) [ Some i ↦ Some (i, j) | None ↦ pair_left ids (suc j) ])
    (ap Some (omega arith) ∙ sym (next_found (at ids j) 0 i j ids early (omega arith) passed same))
    ∙ sym (pair_step ids j there)

-- and if all are passed, the search goes on
pub pair_later : (ids : List ReqId) (j : ℕ) → j < length ids → Passed (at ids j) j ids → pair_left ids (suc j) ≡ pair_left ids j
pair_later ids j there passed =
    ap (λ (o : Option ℕ). elim o as (λ x. Option (ℕ × ℕ)) [ Some i ↦ Some (i, j) | None ↦ pair_left ids (suc j) ])
    (sym (none_found (at ids j) 0 (numbers_of (take j ids)) passed))
    ∙ sym (pair_step ids j there)
