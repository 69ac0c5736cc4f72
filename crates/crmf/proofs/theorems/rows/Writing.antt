-- Rows written into a table of either layout, one run after another: what is written over a list twice in a row is written at once. Assumes
-- nothing.
use Prim.Native.Nat.{ℕ, zero, suc, ◌+◌, ◌-◌, ◌*◌, ◌≤◌, ◌<◌}
use mathlib.Core.Path.{◌≡◌, refl, sym, ap, ap₂, ◌∙◌}
use mathlib.Core.Bool.{Bool, true, false}
use mathlib.Core.List.{List, [], ◌∷◌, ◌++◌, append_assoc, append-nil, map-append}
use native.Mathlib.Nat.{add-zero}
use native.Mathlib.Decide.{dec_le}
use native.Mathlib.Numerals.{add-one, add-two, add-three, add-four}
use native.Mathlib.Omega.{arith}
use lib.ListN.{length, take, drop, set, length-append, length-map, length-take, length-drop, take-append-drop}
use Rattle.std.proofs.lemmas.List.{drop-append-le}
use lib.Seq.{take_all, take-nil, take_at, drop_at, drop-drop, length-take-le, sets-eq}
use lib.Dec.{eqb}
use Rattle.std.specs.Prelude.{Option, Some, None}
use Rattle.crmf.specs.declared.rows.Entry.{Entry}
use Rattle.crmf.specs.meaning.Rows.{Row, Extent, row_if, width, numbers}
use Rattle.crmf.specs.steps.explain.Walk.{rows_of_kind as rowsGiven}
use Rattle.crmf.specs.steps.rows.Fill.{place_in, numbers_in, written_in, row_of}
use Rattle.crmf.specs.steps.rows.Packing.{pack_row, packed_rows}
use Rattle.crmf.specs.meaning.Lists.{over}

-- what is written stands between the numbers before its place and those after its end
pub over_parts : (old : List ℕ) (a : ℕ) (p : List ℕ) → over old a p ≡ take a old ++ (p ++ drop (a + length p) old)
unfolding over
over_parts old a p = refl

-- nothing written changes nothing
pub over_nothing : (old : List ℕ) (a : ℕ) → over old a [] ≡ old
unfolding over
over_nothing old a = rw (add-zero a) (take-append-drop a old)

-- two runs, the second after the first
pub over_over : (old : List ℕ) (a : ℕ) (p q : List ℕ) → a + length p ≤ length old → over (over old a p) (a + length p) q ≡ over old a (p ++ q)
unfolding over
over_over old a p q fits =
    let start : length (take a old) ≡ a = length-take-le a old (omega arith) in
    let head : length (take a old ++ p) ≡ a + length p = rw (length-append (take a old) p, start) in
    let split : over old a p ≡ (take a old ++ p) ++ drop (a + length p) old = sym (append_assoc (take a old) p (drop (a + length p) old)) in
    let first : take (a + length p) (over old a p) ≡ take a old ++ p = rw split (take_at (take a old ++ p) (drop (a + length p) old) (a + length p) head) in
    let after : drop (a + length p) (over old a p) ≡ drop (a + length p) old = rw split (drop_at (take a old ++ p) (drop (a + length p) old) (a + length p) head) in
    let both : a + length p + length q ≡ a + length (p ++ q) = omega (arith, length-append p q) in
    let rest : drop (a + length p + length q) (over old a p) ≡ drop (a + length (p ++ q)) old =
    sym (drop-drop (length q) (a + length p) (over old a p)) ∙ ap (drop (length q)) after ∙ drop-drop (length q) (a + length p) old ∙ ap (λ (k : ℕ). drop k old) both in
    ap₂ (λ (l r : List ℕ). l ++ (q ++ r)) first rest
    ∙ append_assoc (take a old) p (q ++ drop (a + length (p ++ q)) old)
    ∙ ap (λ (l : List ℕ). take a old ++ l) (sym (append_assoc p q (drop (a + length (p ++ q)) old)))

-- a table keeps its length
pub length_over : (old : List ℕ) (a : ℕ) (p : List ℕ) → a + length p ≤ length old → length (over old a p) ≡ length old
unfolding over
length_over old a p fits = simp (length-append, length-take, length-drop) (omega arith)

-- the numbers of rows
pub numbers_append : (rs ss : List Row) → numbers (rs ++ ss) ≡ numbers rs ++ numbers ss
unfolding numbers
numbers_append [] ss = refl
numbers_append (r ∷ rs) ss = ap (λ (l : List ℕ). r.kind ∷ r.first ∷ r.whole ∷ r.parent ∷ r.content ∷ l) (numbers_append rs ss)

pub numbers_length : (rs : List Row) → length (numbers rs) ≡ width * length rs
unfolding numbers
numbers_length [] = refl
numbers_length (r ∷ rs) = omega (arith, numbers_length rs)

-- the numbers of rows in a layout
numbers_in_append : (packed : Bool) (rs ss : List Row) → numbers_in packed (rs ++ ss) ≡ numbers_in packed rs ++ numbers_in packed ss
unfolding packed_rows
numbers_in_append true rs ss = map-append pack_row rs ss
numbers_in_append false rs ss = numbers_append rs ss

pub numbers_in_length : (packed : Bool) (rs : List Row) → length (numbers_in packed rs) ≡ place_in packed (length rs)
unfolding packed_rows
numbers_in_length true rs = length-map rs pack_row
numbers_in_length false rs = numbers_length rs

numbers_in_none : (packed : Bool) → numbers_in packed [] ≡ []
unfolding packed_rows numbers
numbers_in_none true = refl
numbers_in_none false = refl

-- the place of a row some rows further down
place_further : (packed : Bool) (n k : ℕ) → place_in packed (n + k) ≡ place_in packed n + place_in packed k
place_further true n k = refl
place_further false n k = omega arith

-- the place of a later row is no earlier one
place_later : (packed : Bool) (n m : ℕ) → n ≤ m → place_in packed n ≤ place_in packed m
place_later true n m l = l
place_later false n m l = omega arith

-- the first rows of two runs
take_rows : (m : ℕ) (rs ss : List Row) → take m (rs ++ ss) ≡ take m rs ++ take (m - length rs) ss
take_rows m [] ss = let all : m - 0 ≡ m = omega arith in rw (all, take-nil m)
take_rows zero (r ∷ rs) ss = let none : 0 - suc (length rs) ≡ 0 = omega arith in rw none
take_rows (suc m) (r ∷ rs) ss =
    let one : suc m - suc (length rs) ≡ m - length rs = omega arith in
    rw one (ap (λ (l : List Row). r ∷ l) (take_rows m rs ss))

-- In a table of a layout with room up to the limit:
module _ (packed : Bool) (old : List ℕ) (n limit : ℕ) where
  abbrev place : ℕ → ℕ
  place = place_in packed

  abbrev numbered : List Row → List ℕ
  numbered = numbers_in packed

  module _ (room : place_in packed limit ≤ length old) (rs : List Row) where
    abbrev first : List ℕ
    first = numbered (take (limit - n) rs)

    -- two runs of rows, the second after the first
    pub written_written : (ss : List Row)
        → written_in packed (written_in packed old n limit rs) (n + length rs) limit ss ≡ written_in packed old n limit (rs ++ ss)
    written_written ss = by_room (dec_le (n + length rs) limit)
      where
        after : List ℕ
        after = numbered (take (limit - (n + length rs)) ss)

        whole : numbered (take (limit - n) (rs ++ ss)) ≡ first ++ after
        whole =
            let left : limit - (n + length rs) ≡ limit - n - length rs = omega arith in
            rw (take_rows (limit - n) rs ss, numbers_in_append packed (take (limit - n) rs), left)

        by_room : Dec (n + length rs ≤ limit)
            → written_in packed (written_in packed old n limit rs) (n + length rs) limit ss ≡ written_in packed old n limit (rs ++ ss)
        by_room (yes all) =
            let every : take (limit - n) rs ≡ rs = take_all (limit - n) rs (omega arith) in
            let size : length first ≡ place (length rs) = ap (λ (l : List Row). length (numbered l)) every ∙ numbers_in_length packed rs in
            let next : place (n + length rs) ≡ place n + length first = omega (arith, place_further packed n (length rs)) in
            ap (λ (k : ℕ). over (over old (place n) first) k after) next
            ∙ over_over old (place n) first after (omega (arith, place_later packed (n + length rs) limit all))
            ∙ ap (over old (place n)) (sym whole)
        by_room (no more) =
            let none : limit - (n + length rs) ≡ 0 = omega arith in
            let nothing : after ≡ [] = ap (λ (k : ℕ). numbered (take k ss)) none ∙ numbers_in_none packed in
            let same : numbered (take (limit - n) (rs ++ ss)) ≡ first = whole ∙ ap (λ (l : List ℕ). first ++ l) nothing ∙ append-nil first in
            ap (over (over old (place n) first) (place (n + length rs))) nothing
            ∙ over_nothing (over old (place n) first) (place (n + length rs))
            ∙ ap (over old (place n)) (sym same)

    -- a table keeps its length
    pub length_written : length (written_in packed old n limit rs) ≡ length old
    length_written = by_room (dec_le n limit)
      where
        by_room : Dec (n ≤ limit) → length (written_in packed old n limit rs) ≡ length old
        by_room (yes within) =
            let taken = take (limit - n) rs in
            let end : n + length taken ≤ limit = omega (arith, length-take (limit - n) rs) in
            length_over old (place n) (numbered taken)
            (omega (arith, numbers_in_length packed taken, place_further packed n (length taken), place_later packed (n + length taken) limit end))
        by_room (no past) =
            let none : limit - n ≡ 0 = omega arith in
            ap (λ (k : ℕ). length (over old (place n) (numbered (take k rs)))) none
            ∙ ap (λ (l : List ℕ). length (over old (place n) l)) (numbers_in_none packed)
            ∙ ap length (over_nothing old (place n))

-- nothing is written
pub written_none : (packed : Bool) (n limit : ℕ) (old : List ℕ) → old ≡ written_in packed old n limit []
written_none packed n limit old = rw (take-nil (limit - n), numbers_in_none packed) (sym (over_nothing old (place_in packed n)))

-- a row past the limit writes nothing
pub written_past : (packed : Bool) (old : List ℕ) (n limit : ℕ) (q : Row) → limit ≤ n → old ≡ written_in packed old n limit (q ∷ [])
written_past packed old n limit q past =
    let none : limit - n ≡ 0 = omega arith in
    sym (ap (λ (k : ℕ). over old (place_in packed n) (numbers_in packed (take k (q ∷ [])))) none
    ∙ ap (over old (place_in packed n)) (numbers_in_none packed)
    ∙ over_nothing old (place_in packed n))

-- a row below the limit is written into a table of either layout
module _ (old : List ℕ) (n limit : ℕ) (q : Row) (below : n < limit) where
  all : take (limit - n) (q ∷ []) ≡ q ∷ []
  all = take_all (limit - n) (q ∷ []) (omega arith)

  -- what is stored where the row's numbers begin is the row
  stored_row : (packed : Bool) (after : List ℕ) → after ≡ over old (place_in packed n) (numbers_in packed (q ∷ [])) → after ≡ written_in packed old n limit (q ∷ [])
  stored_row packed after stored = stored ∙ ap (λ (rs : List Row). over old (place_in packed n) (numbers_in packed rs)) (sym all)

  -- one number
  pub written_packed : limit ≤ length old → set old n (pack_row q) ≡ written_in true old n limit (q ∷ [])
  unfolding packed_rows over
  written_packed fits =
      let values = pack_row q ∷ [] in
      stored_row true (set old n (pack_row q))
      (sets-eq values old n (omega arith) ∙ append_assoc (take n old) values (drop (n + 1) old))

  -- five numbers
  pub written_row : width * limit ≤ length old
      → set (set (set (set (set old (width * n) q.kind) (width * n + 1) q.first) (width * n + 2) q.whole) (width * n + 3) q.parent) (width * n + 4) q.content
      ≡ written_in false old n limit (q ∷ [])
  unfolding numbers over
  written_row fits =
      let b = width * n in
      let values = q.kind ∷ q.first ∷ q.whole ∷ q.parent ∷ q.content ∷ [] in
      stored_row false _
      (simp (add-one, add-two, add-three, add-four) (sets-eq values old b (omega arith) ∙ append_assoc (take b old) values (drop (b + width) old)))

-- a list's first numbers are written over, and the others stay
pub over_first : (old : List ℕ) (m : ℕ) (p : List ℕ) → length p ≤ m → m ≤ length old → over (take m old) 0 p ++ drop m old ≡ over old 0 p
unfolding over
over_first old m p few fits =
    let none : 0 + length p ≡ length p = omega arith in
    let size : length (take m old) ≡ m = length-take-le m old fits in
    let rest : drop (length p) (take m old) ++ drop m old ≡ drop (length p) old =
    sym (drop-append-le (length p) (take m old) (drop m old) (omega (arith, size))) ∙ ap (drop (length p)) (take-append-drop m old) in
    rw none (append_assoc p (drop (length p) (take m old)) (drop m old) ∙ ap (λ (l : List ℕ). p ++ l) rest)

-- an entry has at most one row
pub one_at_most : (entry : Option Entry) → length (row_of entry) ≤ 1
one_at_most None = omega arith
one_at_most (Some new) = omega arith

-- a kind gives as many rows as are counted for it
pub rows_given : (kind : ℕ) (extent : Extent) (parent : ℕ) → length (row_if kind extent parent) ≡ rowsGiven kind
rows_given kind extent parent = go (eqb kind 0) refl
  where
    go : (b : Bool) → eqb kind 0 ≡ b → length (row_if kind extent parent) ≡ rowsGiven kind
    go true e = rw (row_if, rowsGiven, e)
    go false e = rw (row_if, rowsGiven, e)
