-- The steps of the walk: each goes on from a cursor to another, with the entries that it lists, so that a merge from there on is one from here on.
-- Assumes nothing.
use Prim.Native.Nat.{ℕ, suc, ◌+◌, ◌<◌}
use native.Mathlib.Omega.{arith}
use mathlib.Core.Path.{◌≡◌, refl, sym, ap, subst, ◌∙◌}
use mathlib.Core.Bool.{Bool, true, false}
use mathlib.Core.List.{List, [], ◌∷◌, ◌++◌, append_assoc, append-nil}
use lib.IntN.{ℤ}
use lib.ListN.{length, length-append}
use Rattle.crmf.specs.meaning.Rows.{Row, container}
use Rattle.crmf.specs.steps.rows.Fill.{rows_of_input}
use Rattle.compare.specs.declared.merge.Cursor.{Cursor}
use Rattle.compare.specs.declared.merge.Pair.{Pair}
use Rattle.compare.specs.meaning.Counterparts.{row_at, Child, by_position, match_kind}
use Rattle.compare.specs.meaning.Changes.{Change, only_first, only_second, leaves_differ, Later, row_octets}
use Rattle.compare.specs.steps.Lists.{Added, later_between}
use Rattle.compare.specs.steps.Merging.{over, first, second, unlike, same, differing, within}
use Rattle.compare.specs.steps.Tables.{child_at, Ended}
use Rattle.compare.specs.steps.Walking.{Merging, Standing, Went, Stepped, Gone, Facing}
use Rattle.compare.proofs.theorems.RowOrder.{matched_none, matched_own}
use Rattle.compare.proofs.theorems.TableRows.{table_child, table_no_child, table_next}
use Rattle.compare.proofs.theorems.Windows.{added_none, added_two}

-- a merge from the rows after two rows on
next_rows : {s t : List ℕ} {p q i j m n k l : ℕ} {cs : List Change} → m ≡ i + 1 → n ≡ j + 1 → Merging s t p q m n cs k l
    → Merging s t p q (suc i) (suc j) cs k l
next_rows {s} {t} {p} {q} {i} {j} {m} {n} {k} {l} {cs} first_on second-on more =
    let one_on : m ≡ suc i = omega (arith, first_on) in
    let two_on : n ≡ suc j = omega (arith, second-on) in
    subst (λ (y : ℕ). Merging s t p q (suc i) y cs k l) two_on (subst (λ (y : ℕ). Merging s t p q y n cs k l) one_on more)

module _ {s t one two : List ℕ} {above : Pair} {at : Cursor} (x : Standing s t one two above at) where
  abbrev A : List Row
  A = rows_of_input s

  abbrev B : List Row
  B = rows_of_input t

  -- the next rows, if they are children
  pub child_first : child_at one above.first at.first ≡ true → Child A above.first at.first
  child_first is = table_child x.first (omega (arith, x.past_first)) is

  pub child_second : child_at two above.second at.second ≡ true → Child B above.second at.second
  child_second is = table_child x.second (omega (arith, x.past_second)) is

  -- the parents' children are matched alike
  by_same : {b : Bool} → by_position (row_at A above.first).kind ≡ b → by_position (row_at B above.second).kind ≡ b
  by_same by = ap by_position (sym x.kinds) ∙ by

  module _ (c : Child A above.first at.first) (d : Child B above.second at.second) where
    -- by position: at one spot
    pub one_position : by_position (row_at A above.first).kind ≡ true → match_kind A at.first ≡ match_kind B at.second
    one_position by = matched_none x.first.arranged c by ∙ sym (matched_none x.second.arranged d (by_same by))

    -- by kind: in the order of their kinds
    pub kinds_first : by_position (row_at A above.first).kind ≡ false → (row_at A at.first).kind < (row_at B at.second).kind
        → match_kind A at.first < match_kind B at.second
    kinds_first by less = omega (arith, matched_own x.first.arranged c by, matched_own x.second.arranged d (by_same by))

    pub kinds_second : by_position (row_at A above.first).kind ≡ false → (row_at B at.second).kind < (row_at A at.first).kind
        → match_kind B at.second < match_kind A at.first
    kinds_second by less = omega (arith, matched_own x.first.arranged c by, matched_own x.second.arranged d (by_same by))

    -- and of one kind, alike
    pub alike : (row_at A at.first).kind ≡ (row_at B at.second).kind → Facing s t above at
    alike kinds = record { one = c; two = d; kinds = kinds; matched = go (by_position (row_at A above.first).kind) refl }
      where
        go : (b : Bool) → by_position (row_at A above.first).kind ≡ b → match_kind A at.first ≡ match_kind B at.second
        go true by = one_position by
        go false by = matched_own x.first.arranged c by ∙ kinds ∙ sym (matched_own x.second.arranged d (by_same by))

  module _ {from : ℕ} {old new : List ℤ} {r : Cursor} where
    -- a row of the first is passed alone,
    pub step_first : Child A above.first at.first → (Child B above.second at.second → match_kind A at.first < match_kind B at.second)
        → Ended one at.first r.first → r.second ≡ at.second → r.count ≡ suc at.count
        → ((later : Later) → Added later from at.count (only_first at.first ∷ []) old new) → Stepped s t above at from old r new
    step_first c before ended stays counts added =
        let n = table_next x.first ended in
        record {
          went = record {
            listed = only_first at.first ∷ [];
            goes = λ cs k l more. first c before n (subst (λ (j : ℕ). Merging s t above.first above.second r.first j cs k l) stays more);
            counted = omega (arith, counts);
            added = added (later_between s t);
            on_first = omega (arith, n.past);
            on_second = omega (arith, stays);
            in_first = n.there;
            in_second = omega (arith, stays, x.in_second, x.second.sized);
            few = omega (arith, counts, stays, n.past, x.few);
          };
          further = omega (arith, stays, n.past);
        }

    -- one of the second,
    pub step_second : Child B above.second at.second → (Child A above.first at.first → match_kind B at.second < match_kind A at.first)
        → r.first ≡ at.first → Ended two at.second r.second → r.count ≡ suc at.count
        → ((later : Later) → Added later from at.count (only_second at.second ∷ []) old new) → Stepped s t above at from old r new
    step_second c before stays ended counts added =
        let n = table_next x.second ended in
        record {
          went = record {
            listed = only_second at.second ∷ [];
            goes = λ cs k l more. second c before n (subst (λ (i : ℕ). Merging s t above.first above.second i r.second cs k l) stays more);
            counted = omega (arith, counts);
            added = added (later_between s t);
            on_first = omega (arith, stays);
            on_second = omega (arith, n.past);
            in_first = omega (arith, stays, x.in_first, x.first.sized);
            in_second = n.there;
            few = omega (arith, counts, stays, n.past, x.few);
          };
          further = omega (arith, stays, n.past);
        }

    -- or both at one spot.
    pub step_unlike : {half : Cursor} {mid : List ℤ} → Child A above.first at.first → Child B above.second at.second
        → match_kind A at.first ≡ match_kind B at.second → ((row_at A at.first).kind ≡ (row_at B at.second).kind → ⊥)
        → Ended one at.first half.first → half.second ≡ at.second → half.count ≡ suc at.count
        → ((later : Later) → Added later from at.count (only_first at.first ∷ []) old mid)
        → r.first ≡ half.first → Ended two half.second r.second → r.count ≡ suc half.count
        → ((later : Later) → Added later from half.count (only_second half.second ∷ []) mid new) → Stepped s t above at from old r new
    step_unlike {half} {mid} c d matched kinds ended stays counts added keeps ends more-counts more_added =
        let u = table_next x.first (subst (Ended one at.first) (sym keeps) ended) in
        let v = table_next x.second (subst (λ (j : ℕ). Ended two j r.second) stays ends) in
        let half_added : Added (later_between s t) from (at.count + 1) (only_second at.second ∷ []) mid new =
        subst (λ (n : ℕ). Added (later_between s t) from n (only_second at.second ∷ []) mid new) (omega (arith, counts))
        (subst (λ (j : ℕ). Added (later_between s t) from half.count (only_second j ∷ []) mid new) stays (more_added (later_between s t))) in
        record {
          went = record {
            listed = only_first at.first ∷ only_second at.second ∷ [];
            goes = λ cs k l more. unlike c d matched kinds u v more;
            counted = omega (arith, counts, more-counts);
            added = added_two (later_between s t) from at.count (only_first at.first ∷ []) (only_second at.second ∷ []) old mid new (added (later_between s t)) half_added;
            on_first = omega (arith, u.past);
            on_second = omega (arith, v.past);
            in_first = u.there;
            in_second = v.there;
            few = omega (arith, counts, more-counts, u.past, v.past, x.few);
          };
          further = omega (arith, u.past, v.past);
        }

    module _ (e : Facing s t above at) where
      -- Two leaves are passed, of the same octets
      pub step_same : container (row_at A at.first).kind ≡ false → row_octets s (row_at A at.first) ≡ row_octets t (row_at B at.second)
          → r.first ≡ at.first + 1 → r.second ≡ at.second + 1 → r.count ≡ at.count → old ≡ new → Stepped s t above at from old r new
      step_same leaf octets i j counts kept =
          record {
            went = record {
              listed = [];
              goes = λ cs k l more. same e leaf octets (next_rows i j more);
              counted = omega (arith, counts);
              added = subst (Added (later_between s t) from at.count [] old) kept (added_none (later_between s t) from at.count old);
              on_first = omega (arith, i);
              on_second = omega (arith, j);
              in_first = omega (arith, i, e.one.there);
              in_second = omega (arith, j, e.two.there);
              few = omega (arith, counts, i, j, x.few);
            };
            further = omega (arith, i, j);
          }

      -- or of others,
      pub step_differing : container (row_at A at.first).kind ≡ false → (row_octets s (row_at A at.first) ≡ row_octets t (row_at B at.second) → ⊥)
          → r.first ≡ at.first + 1 → r.second ≡ at.second + 1 → r.count ≡ suc at.count
          → Added (later_between s t) from at.count (leaves_differ at.first at.second ∷ []) old new → Stepped s t above at from old r new
      step_differing leaf octets i j counts added =
          record {
            went = record {
              listed = leaves_differ at.first at.second ∷ [];
              goes = λ cs k l more. differing e leaf octets (next_rows i j more);
              counted = omega (arith, counts);
              added = added;
              on_first = omega (arith, i);
              on_second = omega (arith, j);
              in_first = omega (arith, i, e.one.there);
              in_second = omega (arith, j, e.two.there);
              few = omega (arith, counts, i, j, x.few);
            };
            further = omega (arith, i, j);
          }

      -- or two containers with all below them.
      pub step_inside : container (row_at A at.first).kind ≡ true → {next : Cursor} → next.first ≡ at.first + 1 → next.second ≡ at.second + 1
          → next.count ≡ at.count → Gone s t (record { first = at.first; second = at.second }) next from old r new → Stepped s t above at from old r new
      step_inside box {next} i j counts gone =
          record {
            went = record {
              listed = gone.listed;
              goes = λ cs k l more. within e box (next_rows i j gone.merge) more;
              counted = gone.counted ∙ ap (λ (n : ℕ). n + length gone.listed) counts;
              added = subst (λ (n : ℕ). Added (later_between s t) from n gone.listed old new) counts gone.added;
              on_first = omega (arith, i, gone.on_first);
              on_second = omega (arith, j, gone.on_second);
              in_first = gone.in_first;
              in_second = gone.in_second;
              few = gone.few;
            };
            further = omega (arith, i, j, gone.on_first, gone.on_second);
          }

module _ {s t : List ℕ} {above : Pair} {start at : Cursor} {from : ℕ} {old mid : List ℤ} (w : Went s t above start from old at mid) where
  -- The walk goes on by a step,
  pub went_on : {new : List ℤ} {r : Cursor} → Stepped s t above at from mid r new → Went s t above start from old r new
  went_on {new} {r} step =
      let v = step.went in
      record {
        listed = w.listed ++ v.listed;
        goes = λ cs k l more.
            subst (λ (ds : List Change). Merging s t above.first above.second start.first start.second ds k l)
            (sym (append_assoc w.listed v.listed cs)) (w.goes (v.listed ++ cs) k l (v.goes cs k l more));
        counted = omega (arith, v.counted, w.counted, length-append w.listed v.listed);
        added = added_two (later_between s t) from start.count w.listed v.listed old mid new w.added
            (subst (λ (n : ℕ). Added (later_between s t) from n v.listed mid new) w.counted v.added);
        on_first = omega (arith, w.on_first, v.on_first);
        on_second = omega (arith, w.on_second, v.on_second);
        in_first = v.in_first;
        in_second = v.in_second;
        few = v.few;
      }

  -- until there are no more children.
  pub gone : {one two : List ℕ} → Standing s t one two above start → child_at one above.first at.first ≡ false
      → child_at two above.second at.second ≡ false → Gone s t above start from old at mid
  gone x None-first none-second =
      record {
        listed = w.listed;
        merge = subst (λ (ds : List Change). Merging s t above.first above.second start.first start.second ds at.first at.second)
            (append-nil w.listed) (w.goes [] at.first at.second (over (table_no_child x.first None-first) (table_no_child x.second none-second)));
        counted = w.counted;
        added = w.added;
        on_first = w.on_first;
        on_second = w.on_second;
        in_first = w.in_first;
        in_second = w.in_second;
        few = w.few;
      }
