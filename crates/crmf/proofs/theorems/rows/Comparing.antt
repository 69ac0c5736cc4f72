-- A draft compared with the rows of elements, one run of rows after another: what comes after rows that agree is compared from the number
-- after them, and what comes after a row that differs doesn't matter. Assumes nothing.
use Prim.Native.Nat.{ℕ, suc, ◌+◌, ◌-◌, ◌*◌, ◌/◌, ◌≤◌, ◌<◌}
use native.Mathlib.Decide.{dec_le}
use native.Mathlib.Omega.{arith}
use mathlib.Core.Path.{◌≡◌, refl, sym, ap, ap₂, ◌∙◌}
use mathlib.Core.Logic.{inl, inr}
use mathlib.Core.Bool.{Bool, true, false, ◌&&◌}
use mathlib.Core.List.{List, [], ◌∷◌, ◌++◌}
use lib.Dec.{eqb}
use lib.ListN.{length, get_or, drop, drop_of_length-le}
use lib.Seq.{drop-cons}
use borrow.Author.Tests.{eq-eqb, ne_eqb}
use Rattle.std.specs.Prelude.{Option, Some, None}
use Rattle.std.specs.Option.{IfSome, option_eq}
use Rattle.std.proofs.lemmas.Option.{none-some, same_Some}
use Rattle.crmf.specs.meaning.Rows.{Row, container, width}
use Rattle.crmf.specs.steps.rows.Agree.{draft_rows, row_from, is_same_place, agrees, agree, first_agrees, passed}
use Rattle.crmf.specs.steps.rows.Take.{Took}
use Rattle.crmf.proofs.theorems.rows.DraftRows.{rows_by_width, row_cut}
use Rattle.crmf.proofs.theorems.rows.RowsInPlace.{absent_row}

-- whether an answer is this number
abbrev pub counted : Option ℕ → ℕ → Bool
counted r n = option_eq eqb r (Some n)

module _ (inPlace : Bool) (rs : List Row) where
  -- two runs of rows, by what is answered for the first
  pub passed_two : (n m : ℕ) (xs ys : List Row) → passed inPlace rs n xs ≡ Some m → passed inPlace rs n (xs ++ ys) ≡ passed inPlace rs m ys
  unfolding passed
  passed_two n m [] ys is = ap (λ (k : ℕ). passed inPlace rs k ys) (same_Some n m is)
  passed_two n m (x ∷ xs) ys is = by_first (first_agrees inPlace (drop n rs) x) refl (passed_two (suc n) m xs ys)
    where
      by_first : (b : Bool) → first_agrees inPlace (drop n rs) x ≡ b
          → (passed inPlace rs (suc n) xs ≡ Some m → passed inPlace rs (suc n) (xs ++ ys) ≡ passed inPlace rs m ys)
          → passed inPlace rs n (x ∷ (xs ++ ys)) ≡ passed inPlace rs m ys
      by_first true e more = rw (passed, e) (more (rw (passed, e) at is))
      by_first false e more = absurd (none-some m (rw (passed, e) at is))

  pub passed_lost : (n : ℕ) (xs ys : List Row) → passed inPlace rs n xs ≡ None → passed inPlace rs n (xs ++ ys) ≡ None
  unfolding passed
  passed_lost n [] ys is = absurd (none-some n (sym is))
  passed_lost n (x ∷ xs) ys is = by_first (first_agrees inPlace (drop n rs) x) refl (passed_lost (suc n) xs ys)
    where
      by_first : (b : Bool) → first_agrees inPlace (drop n rs) x ≡ b → (passed inPlace rs (suc n) xs ≡ None → passed inPlace rs (suc n) (xs ++ ys) ≡ None)
          → passed inPlace rs n (x ∷ (xs ++ ys)) ≡ None
      by_first true e more = rw (passed, e) (more (rw (passed, e) at is))
      by_first false e more = rw (passed, e)

  -- the number after rows that agree
  pub passed_count : (n m : ℕ) (xs : List Row) → passed inPlace rs n xs ≡ Some m → m ≡ n + length xs
  unfolding passed
  passed_count n m [] is = omega (arith, same_Some n m is)
  passed_count n m (x ∷ xs) is = by_first (first_agrees inPlace (drop n rs) x) refl (passed_count (suc n) m xs)
    where
      by_first : (b : Bool) → first_agrees inPlace (drop n rs) x ≡ b → (passed inPlace rs (suc n) xs ≡ Some m → m ≡ suc n + length xs)
          → m ≡ n + suc (length xs)
      by_first true e more = omega (arith, more (rw (passed, e) at is))
      by_first false e more = absurd (none-some m (rw (passed, e) at is))

  -- which is at most where they end
  pub passed_few : (n top : ℕ) (xs : List Row) → n + length xs ≤ top → IfSome (passed inPlace rs n xs) (λ m. m ≤ top)
  passed_few n top xs few = go (passed inPlace rs n xs) refl
    where
      go : (r : Option ℕ) → passed inPlace rs n xs ≡ r → IfSome r (λ m. m ≤ top)
      go (Some m) is = omega (arith, passed_count n m xs is, few)
      go None is = tt

  -- after no rows
  pub passed_none : (n : ℕ) → passed inPlace rs n [] ≡ Some n
  unfolding passed
  passed_none n = refl

  -- All of a draft's rows are compared exactly if there are as many and they agree.
  pub passed_all : (n : ℕ) (qs : List Row) → n ≤ length rs → counted (passed inPlace rs n qs) (length rs) ≡ agree inPlace (drop n rs) qs
  unfolding passed agree
  passed_all n [] within = by_end (dec_le (suc n) (length rs))
    where
      by_end : Dec (suc n ≤ length rs) → eqb n (length rs) ≡ agree inPlace (drop n rs) []
      by_end (yes before) = ne_eqb n (length rs) (omega arith) ∙ ap (λ (l : List Row). agree inPlace l []) (sym (drop-cons rs n absent_row before))
      by_end (no past) =
          let few : length rs ≤ n = omega arith in
          let end : drop n rs ≡ [] = drop_of_length-le rs few in
          eq-eqb n (length rs) (omega arith) ∙ ap (λ (l : List Row). agree inPlace l []) (sym end)
  passed_all n (q ∷ qs) within = by_end (dec_le (suc n) (length rs)) (passed_all (suc n) qs)
    where
      next : Bool → Option ℕ
      next b = elim b [ true ↦ passed inPlace rs (suc n) qs | false ↦ None ]

      by_first : (b : Bool) → counted (passed inPlace rs (suc n) qs) (length rs) ≡ agree inPlace (drop (suc n) rs) qs
          → counted (next b) (length rs) ≡ (b && agree inPlace (drop (suc n) rs) qs)
      by_first true is = is
      by_first false is = refl

      by_end : Dec (suc n ≤ length rs) → (suc n ≤ length rs → counted (passed inPlace rs (suc n) qs) (length rs) ≡ agree inPlace (drop (suc n) rs) qs)
          → counted (passed inPlace rs n (q ∷ qs)) (length rs) ≡ agree inPlace (drop n rs) (q ∷ qs)
      by_end (yes before) is =
          ap (λ (l : List Row). counted (next (first_agrees inPlace l q)) (length rs)) (drop-cons rs n absent_row before)
          ∙ by_first (agrees inPlace (get_or rs n absent_row) q) (is before)
          ∙ ap (λ (l : List Row). agree inPlace l (q ∷ qs)) (sym (drop-cons rs n absent_row before))
      by_end (no past) is =
          let few : length rs ≤ n = omega arith in
          let end : drop n rs ≡ [] = drop_of_length-le rs few in
          ap (λ (l : List Row). counted (next (first_agrees inPlace l q)) (length rs)) end
          ∙ ap (λ (l : List Row). agree inPlace l (q ∷ qs)) (sym end)

-- Two rows, number by number: the first that differs decides.
module _ (r q : Row) where
  pub other_kind : (b : Bool) → (r.kind ≡ q.kind → ⊥) → false ≡ agrees b r q
  other_kind b other = rw (ne_eqb r.kind q.kind other)

  module _ (kinds : r.kind ≡ q.kind) where
    pub other_parent : (b : Bool) → (r.parent ≡ q.parent → ⊥) → false ≡ agrees b r q
    other_parent b other = rw (eq-eqb r.kind q.kind kinds, ne_eqb r.parent q.parent other)

    module _ (parents : r.parent ≡ q.parent) where
      pub same_places : (b : Bool) → b ≡ true → is_same_place r q ≡ agrees b r q
      same_places b is = rw (eq-eqb r.kind q.kind kinds, eq-eqb r.parent q.parent parents, is)

      pub same_container : (b : Bool) → b ≡ false → container q.kind ≡ true → true ≡ agrees b r q
      same_container b is bears = rw (eq-eqb r.kind q.kind kinds, eq-eqb r.parent q.parent parents, is, bears)

      pub same_leaf : (b : Bool) → b ≡ false → container q.kind ≡ false
          → (eqb r.whole q.whole && eqb (r.content - r.first) (q.content - q.first)) ≡ agrees b r q
      same_leaf b is leaf = rw (eq-eqb r.kind q.kind kinds, eq-eqb r.parent q.parent parents, is, leaf)

-- A row compared with the draft's of a number.
module _ (inPlace : Bool) (draft : List ℕ) (n : ℕ) (q : Row) where
  -- there is no such row
  pub compare_past : length draft < width * n + width → false ≡ first_agrees inPlace (drop n (draft_rows draft)) q
  compare_past past =
      let few : length (draft_rows draft) ≤ n = omega (arith, rows_by_width draft) in
      sym (ap (λ (l : List Row). first_agrees inPlace l q) (drop_of_length-le (draft_rows draft) few))

  pub compare_there : width * n + width ≤ length draft
      → agrees inPlace (row_from draft (width * n)) q ≡ first_agrees inPlace (drop n (draft_rows draft)) q
  compare_there there = sym (ap (λ (l : List Row). first_agrees inPlace l q) (row_cut draft n (omega (arith, rows_by_width draft))))

-- The rows that a comparing taker takes agree, up to where it stops.
module _ (inPlace : Bool) (rs : List Row) where
  pub took_passed : (n : ℕ) (qs : List Row) (old : List ℕ) (r : Option ℕ) (new : List ℕ)
      → Took (λ n q old b new. b ≡ first_agrees inPlace (drop n rs) q) n qs old r new → r ≡ passed inPlace rs n qs
  unfolding Took passed
  took_passed n [] old r new (is, same) = is
  took_passed n (q ∷ qs) old r new (inl (other, is)) = is ∙ ap (λ (b : Bool). elim b [ true ↦ passed inPlace rs (suc n) qs | false ↦ None ]) other
  took_passed n (q ∷ qs) old r new (inr (mid, agrees, rest)) =
      took_passed (suc n) qs mid r new rest ∙ ap (λ (b : Bool). elim b [ true ↦ passed inPlace rs (suc n) qs | false ↦ None ]) agrees

-- So the answer for all of a batch's rows says whether the draft has as many, and they agree.
pub agree_rows : (inPlace : Bool) (draft : List ℕ) (qs : List Row) (r : Option ℕ) → r ≡ passed inPlace (draft_rows draft) 0 qs
    → option_eq eqb r (Some (length draft / width)) ≡ agree inPlace (draft_rows draft) qs
agree_rows inPlace draft qs r is =
    let rs = draft_rows draft in
    ap₂ counted is (sym (rows_by_width draft)) ∙ passed_all inPlace rs 0 qs (omega arith)
