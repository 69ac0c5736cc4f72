-- Rows taken one run after another, and those of one element: its own, those inside it, and those after it. Assumes nothing.
use Prim.Native.Nat.{ℕ, suc, ◌+◌, ◌-◌, ◌*◌, ◌/◌, ◌≤◌, ◌<◌}
use native.Mathlib.Omega.{arith}
use mathlib.Core.Logic.{inl, inr}
use mathlib.Core.Path.{◌≡◌, refl, sym, ap, ap₂, subst, ◌∙◌}
use mathlib.Core.Bool.{Bool, true, false, false≢true}
use mathlib.Core.List.{List, [], ◌∷◌, ◌++◌}
use lib.ListN.{length, take, drop, length-take}
use lib.Seq.{slice, length-take-le}
use Rattle.std.specs.Prelude.{Option, Some, None}
use Rattle.std.specs.Bool.{then_some}
use Rattle.std.specs.Option.{IfSome}
use Rattle.std.proofs.lemmas.Option.{none-some, same_Some}
use Rattle.der.specs.meaning.Bounds.{longest}
use Rattle.der.specs.steps.Reading.{reading_at}
use Rattle.crmf.specs.declared.grammar.element.Fit.{Fit}
use Rattle.crmf.specs.declared.rows.Around.{Around}
use Rattle.crmf.specs.declared.rows.Spot.{Spot}
use Rattle.crmf.specs.meaning.Rows.{Row, width, numbers}
use Rattle.crmf.specs.steps.explain.Walk.{line, find_line}
use Rattle.crmf.specs.steps.grammar.Fitting.{FitsAt}
use Rattle.crmf.specs.steps.rows.Fill.{goes, fit_extent, rows_at, own_rows, inner_rows, around_inside, place_in, written_in, rows_of_input}
use Rattle.crmf.specs.steps.rows.Take.{Takes, Took, Stepped, Writes, rows_in}
use Rattle.crmf.proofs.theorems.lines.Fitting.{fit_order}
use Rattle.crmf.proofs.theorems.rows.Showing.{misfit_rows, shown_end, fit_rows, all_rows}
use Rattle.crmf.proofs.theorems.rows.Writing.{numbers_length, over_first, written_none, written_written, length_written}

module _ (takes : Takes) where
  -- after no rows
  pub took_none : (n : ℕ) (old : List ℕ) → Took takes n [] old (Some n) old
  unfolding Took
  took_none n old = (refl, refl)

  -- two runs of rows, by what is answered for the first
  pub took_two : (n m : ℕ) (xs ys : List Row) (old mid : List ℕ) (r : Option ℕ) (new : List ℕ)
      → Took takes n xs old (Some m) mid → Took takes m ys mid r new → Took takes n (xs ++ ys) old r new
  unfolding Took
  took_two n m [] ys old mid r new (is, same) then =
      subst (λ (k : ℕ). Took takes k ys old r new) (same_Some m n is) (subst (λ (l : List ℕ). Took takes m ys l r new) same then)
  took_two n m (x ∷ xs) ys old mid r new (inl (stopped, is)) then = absurd (none-some m (sym is))
  took_two n m (x ∷ xs) ys old mid r new (inr (next, taken, rest)) then =
      inr (next, taken, took_two (suc n) m xs ys next mid r new rest then)

  pub took_lost : (n : ℕ) (xs ys : List Row) (old new : List ℕ) → Took takes n xs old None new → Took takes n (xs ++ ys) old None new
  unfolding Took
  took_lost n [] ys old new (is, same) = absurd (none-some n is)
  took_lost n (x ∷ xs) ys old new (inl stopped) = inl stopped
  took_lost n (x ∷ xs) ys old new (inr (next, taken, rest)) = inr (next, taken, took_lost (suc n) xs ys next new rest)

  -- the number after rows that are taken
  pub took_count : (n m : ℕ) (xs : List Row) (old new : List ℕ) → Took takes n xs old (Some m) new → m ≡ n + length xs
  unfolding Took
  took_count n m [] old new (is, same) = omega (arith, same_Some m n is)
  took_count n m (x ∷ xs) old new (inl (stopped, is)) = absurd (none-some m (sym is))
  took_count n m (x ∷ xs) old new (inr (next, taken, rest)) = omega (arith, took_count (suc n) m xs next new rest)

  -- which is at most where they end
  pub took_few : (n top : ℕ) (xs : List Row) (old : List ℕ) (r : Option ℕ) (new : List ℕ) → n + length xs ≤ top → Took takes n xs old r new
      → IfSome r (λ m. m ≤ top)
  took_few n top xs old (Some m) new few taken = omega (arith, took_count n m xs old new taken, few)
  took_few n top xs old None new few taken = tt

  -- one row
  pub took_one : (n : ℕ) (q : Row) (old : List ℕ) (b : Bool) (new : List ℕ) → takes n q old b new → Took takes n (q ∷ []) old (then_some b (n + 1)) new
  unfolding Took
  took_one n q old true new taken = inr (new, taken, (ap Some (omega arith), refl))
  took_one n q old false new taken = inl (taken, refl)

  -- The step over the element at a spot.
  module _ (s : List ℕ) (q : Spot) (end : ℕ) (some : q.at < end) (fits : end ≤ length s) (high : length s ≤ longest) (a : Around) (old : List ℕ) where
    -- it fits no line: there is nothing to take
    pub step_misfit : q.row ≤ 2 * q.at → find_line q.state (reading_at s q.at end).identifier ≡ None
        → Stepped takes s q end a old (Some (record { state = q.state; at = end; row = q.row })) old
    step_misfit few f =
        let none = shown_end s (record { state = q.state; at = end; row = q.row }) end a refl ∙ sym (misfit_rows s q end some fits high a f) in
        record {
          took = λ r new rest. subst (λ (l : List Row). Took takes q.row l old r new) none rest;
          forward = (some, omega arith, omega arith);
        }

    -- it fits a line: its own rows are taken, then those inside it
    module _ (f : Fit) (h : FitsAt (reading_at s q.at end) q.at q.state f) where
      abbrev own : List Row
      own = own_rows (line h.number) (fit_extent f) q.row a

      abbrev inner : ℕ → List Row
      inner m = inner_rows h.number s f.content f.end m (around_inside (line h.number) f (record { up = a.up; row = q.row; next = m }))

      abbrev after : ℕ → ℕ → List Row
      after j b = rows_at s (record { state = j; at = f.end; row = b }) end a

      abbrev onward : ℕ
      onward = goes (line h.number).judge (line h.number).next (slice f.content f.end s)

      split : rows_at s q end a ≡ (own ++ inner (q.row + length own)) ++ after onward (q.row + length own + length (inner (q.row + length own)))
      split = fit_rows s q end some fits high a f h

      abbrev whole : Option ℕ → List ℕ → Type 0
      whole r new = Took takes q.row (rows_at s q end a) old r new

      joined : (r : Option ℕ) (new : List ℕ)
          → Took takes q.row ((own ++ inner (q.row + length own)) ++ after onward (q.row + length own + length (inner (q.row + length own)))) old r new
          → whole r new
      joined r new taken = subst (λ (l : List Row). Took takes q.row l old r new) (sym split) taken

      -- the taker stops at one of its own rows
      pub step_other : (new : List ℕ) → Took takes q.row own old None new → Stepped takes s q end a old None new
      step_other new other =
          record {
            took = joined None new (took_lost q.row _ _ old new (took_lost q.row own (inner (q.row + length own)) old new other));
            forward = tt;
          }

      module _ (m : ℕ) (mid : List ℕ) (mine : Took takes q.row own old (Some m) mid) where
        next : q.row + length own ≡ m
        next = sym (took_count q.row m own old mid mine)

        both : (r : Option ℕ) (new : List ℕ) → Took takes m (inner m) mid r new → Took takes q.row (own ++ inner (q.row + length own)) old r new
        both r new theirs =
            took_two q.row m own (inner (q.row + length own)) old mid r new mine (subst (λ (i : ℕ). Took takes m (inner i) mid r new) (sym next) theirs)

        -- it stops at one of those inside it
        pub step_inner_other : (new : List ℕ) → Took takes m (inner m) mid None new → Stepped takes s q end a old None new
        step_inner_other new other = record { took = joined None new (took_lost q.row _ _ old new (both None new other)); forward = tt }

        -- all are taken
        pub step_on : (b st : ℕ) (new : List ℕ) → Took takes m (inner m) mid (Some b) new → st ≡ onward → b ≤ 2 * f.end
            → Stepped takes s q end a old (Some (record { state = st; at = f.end; row = b })) new
        step_on b st new theirs goes_there few =
            let order = fit_order s q.at end q.state f h some fits high in
            let number : b ≡ q.row + length own + length (inner (q.row + length own)) =
            took_count m b (inner m) mid new theirs ∙ sym (ap (λ (i : ℕ). i + length (inner i)) next) in
            record {
              took = λ r last rest.
                  joined r last
                  (took_two q.row b _ _ old new r last (both (Some b) new theirs)
                  (subst (λ (l : List Row). Took takes b l new r last) (ap₂ after goes_there number) rest));
              forward = (omega (arith, order.headed, order.ordered), order.within, few);
            }

-- The rows of the list of elements from 0 to an input's end are the input's.
pub took_whole : (takes : Takes) (s old : List ℕ) (r : Option ℕ) (new : List ℕ) → length s ≤ longest
    → Took takes 0 (rows_at s (record { state = 1; at = 0; row = 0 }) (length s) (record { up = 0; place = 0; whole = 0; content = 0 })) old r new
    → Took takes 0 (rows_of_input s) old r new
took_whole takes s old r new short taken = subst (λ (l : List Row). Took takes 0 l old r new) (sym (all_rows s short)) taken

-- Rows that are taken by writing them are written.
pub took_written : (packed : Bool) (limit n : ℕ) (qs : List Row) (old : List ℕ) (r : Option ℕ) (new : List ℕ) → rows_in packed old ≡ limit
    → place_in packed limit ≤ length old → Took (Writes packed) n qs old r new → new ≡ written_in packed old n limit qs
unfolding Took
took_written packed limit n [] old r new room fits (is, same) = same ∙ written_none packed n limit old
took_written packed limit n (q ∷ qs) old r new room fits (inl ((stops, put), is)) = absurd (false≢true stops)
took_written packed limit n (q ∷ qs) old r new room fits (inr (mid, (on, put), rest)) =
    let one : mid ≡ written_in packed old n limit (q ∷ []) = put ∙ ap (λ (l : ℕ). written_in packed old n l (q ∷ [])) room in
    let size : length mid ≡ length old = ap length one ∙ length_written packed old n limit fits (q ∷ []) in
    let same_room : rows_in packed mid ≡ limit = in_room packed mid old size ∙ room in
    took_written packed limit (suc n) qs mid r new same_room (omega (arith, size, fits)) rest
    ∙ ap₂ (λ (l : List ℕ) (i : ℕ). written_in packed l i limit qs) one (let i : suc n ≡ n + 1 = omega arith in i)
    ∙ written_written packed old n limit fits (q ∷ []) qs
  where
    in_room : (b : Bool) (x y : List ℕ) → length x ≡ length y → rows_in b x ≡ rows_in b y
    in_room true x y same = same
    in_room false x y same = ap (λ (l : ℕ). l / width) same

-- In a table that is cut to the room of a count of rows they are written as far as their numbers are below it; what was cut off stays.
pub first_written : (count : ℕ) (qs : List Row) (old : List ℕ) (r : Option ℕ) (new : List ℕ) → width * count ≤ length old
    → Took (Writes false) 0 qs (take (width * count) old) r new → new ++ drop (width * count) old ≡ written_in false old 0 count qs
first_written count qs old r new room taken =
    let m = width * count in
    let size : length (take m old) ≡ m = length-take-le m old room in
    let below = take (count - 0) qs in
    let few : length (numbers below) ≤ m = omega (arith, numbers_length below, length-take (count - 0) qs) in
    ap (λ (l : List ℕ). l ++ drop m old) (took_written false count 0 qs (take m old) r new (omega (arith, size)) (omega (arith, size)) taken)
    ∙ over_first old m (numbers below) few room
