-- Rows in place: what each row of a table says of the rows before it, kept while rows are added at the end. An element's rows stand in the
-- room that the row above leaves, between the rows before and the bytes after. Assumes nothing.
use Prim.Native.Nat.{ℕ, zero, suc, ◌+◌, ◌≤◌, ◌<◌}
use native.Mathlib.Nat.{le_of_suc-le-suc}
use native.Mathlib.Omega.{arith}
use mathlib.Core.Path.{◌≡◌, refl, sym, subst}
use mathlib.Core.Bool.{Bool, true, false, ◌||◌}
use mathlib.Core.List.{List, [], ◌∷◌, ◌++◌, append-nil, append_assoc}
use lib.Dec.{eqb}
use lib.ListN.{length, get_or, take, length-append, get_or-append}
use lib.Seq.{get_or_at}
use Rattle.crmf.specs.meaning.Kinds as kinds
use Rattle.crmf.specs.meaning.Rows.{Row, Extent, container, row_with, row_if, parent_if}
use Rattle.crmf.proofs.theorems.rows.RowsOfLines.{rows_one, row_none, row_own, parent_none, parent_own}
use Rattle.crmf.proofs.theorems.grammar.Containers.{bears_if, bears_none, bears_own, or_second}

-- the row given for a number that has none
abbrev pub absent_row : Row
absent_row = record { kind = kinds.none; first = 0; whole = 0; parent = 0; content = 0 }

-- the rows' first bytes are before a place
abbrev pub Before : ℕ → List Row → Type 0
Before q [] = Unit {0}
Before q (r ∷ rs) = (r.first < q) × Before q rs

-- rows before a place are before a later one
before_later : (q e : ℕ) (rs : List Row) → q ≤ e → Before q rs → Before e rs
before_later q e [] l b = tt
before_later q e (r ∷ rs) l b = (omega (arith, b.0), before_later q e rs l b.1)

-- and rows after them that are
before_append : (q : ℕ) (rs more : List Row) → Before q rs → Before q more → Before q (rs ++ more)
before_append q [] more b c = c
before_append q (r ∷ rs) more b c = (b.0, before_append q rs more b.1 c)

-- each of them is
pub before_at : (q : ℕ) (rs : List Row) → Before q rs → (i : ℕ) → i < length rs → (get_or rs i absent_row).first < q
before_at q [] b i l = absurd (omega arith)
before_at q (r ∷ rs) b zero l = b.0
before_at q (r ∷ rs) b (suc i) l = before_at q rs b.1 i (le_of_suc-le-suc l)

-- A row in place after others: its parent is one of them, a container's, around its bytes; and they all start before it.
pub record Fit (pre : List Row) (r : Row) : Type 0 where
  pub parented : r.parent < length pre
  pub held : container (get_or pre r.parent absent_row).kind ≡ true
  pub low : (get_or pre r.parent absent_row).first ≤ r.first
  pub high : r.first + r.whole ≤ (get_or pre r.parent absent_row).first + (get_or pre r.parent absent_row).whole
  pub ordered : Before r.first pre

-- rows in place after others
abbrev pub Fits : List Row → List Row → Type 0
Fits pre [] = Unit {0}
Fits pre (r ∷ rs) = Fit pre r × Fits (pre ++ (r ∷ [])) rs

-- rows in place, and rows in place after them
fits_append : (pre rs more : List Row) → Fits pre rs → Fits (pre ++ rs) more → Fits pre (rs ++ more)
fits_append pre [] more f g = rw append-nil at g
fits_append pre (r ∷ rs) more f g =
    (f.0, fits_append (pre ++ (r ∷ [])) rs more f.1 (subst (λ (l : List Row). Fits l more) (sym (append_assoc pre (r ∷ []) rs)) g))

-- each of them is in place after those before it
pub fits_at : (pre rs : List Row) → Fits pre rs → (i : ℕ) → i < length rs → Fit (pre ++ take i rs) (get_or rs i absent_row)
fits_at pre [] f i l = absurd (omega arith)
fits_at pre (r ∷ rs) f zero l = subst (λ (p : List Row). Fit p r) (sym (append-nil pre)) f.0
fits_at pre (r ∷ rs) f (suc i) l =
    subst (λ (p : List Row). Fit p (get_or rs i absent_row)) (append_assoc pre (r ∷ []) (take i rs))
    (fits_at (pre ++ (r ∷ [])) rs f.1 i (le_of_suc-le-suc l))

-- rows in place after others, before a place
pub record Laid (pre rs : List Row) (e : ℕ) : Type 0 where
  pub fits : Fits pre rs
  pub before : Before e rs

-- rows in place, and rows in place after them
laid_append : (pre rs more : List Row) (q e : ℕ) → q ≤ e → Laid pre rs q → Laid (pre ++ rs) more e → Laid pre (rs ++ more) e
laid_append pre rs more q e l a b =
    record {
      fits = fits_append pre rs more a.fits b.fits;
      before = before_append e rs more (before_later q e rs l a.before) b.before;
    }

-- The room below a row, after other rows, for elements from one place to another: b says whether the row is a container's, its bytes are
-- around theirs, and the rows there are start before them.
pub record Room (pre : List Row) (up : ℕ) (b : Bool) (q e : ℕ) : Type 0 where
  pub there : up < length pre
  pub bears : b ≡ true → container (get_or pre up absent_row).kind ≡ true
  pub low : (get_or pre up absent_row).first ≤ q
  pub high : e ≤ (get_or pre up absent_row).first + (get_or pre up absent_row).whole
  pub before : Before q pre

-- less room, after more rows
room_after : (pre rs : List Row) (up : ℕ) (b : Bool) (q e p f : ℕ) → Room pre up b q e → Before p rs → q ≤ p → f ≤ e
    → Room (pre ++ rs) up b p f
room_after pre rs up b q e p f r later l m =
    let same : get_or (pre ++ rs) up absent_row ≡ get_or pre up absent_row = get_or-append pre rs absent_row up r.there in
    record {
      there = omega (arith, length-append pre rs, r.there);
      bears = rw same r.bears;
      low = rw same (omega (arith, r.low));
      high = rw same (omega (arith, r.high));
      before = before_append p pre rs (before_later q p pre l r.before) later;
    }

-- less room
pub room_less : (pre : List Row) (up : ℕ) (b : Bool) (q e p f : ℕ) → Room pre up b q e → q ≤ p → f ≤ e → Room pre up b p f
room_less pre up b q e p f r l m =
    subst (λ (l : List Row). Room l up b p f) (append-nil pre) (room_after pre [] up b q e p f r tt l m)

-- The room for a row that an element gives the element around it, whose extent is the row's.
pub record Early (pre : List Row) (up : ℕ) (b : Bool) (extent : Extent) (q e : ℕ) : Type 0 where
  pub room : Room pre up b extent.first (extent.first + extent.whole)
  pub after : extent.first < q
  pub ends : e ≤ extent.first + extent.whole

-- less of it
pub early_less : (pre : List Row) (up : ℕ) (b : Bool) (extent : Extent) (q e p f : ℕ) → Early pre up b extent q e → q ≤ p → f ≤ e
    → Early pre up b extent p f
early_less pre up b extent q e p f y l m =
    record { room = y.room; after = omega (arith, y.after); ends = omega (arith, y.ends) }

module _ (pre : List Row) (n : ℕ) (sized : length pre ≡ n) (kind : ℕ) (here : Extent) (up : ℕ) (b : Bool) (e : ℕ) (room : Room pre up b here.first e)
    (fits : here.first + here.whole ≤ e) (right : (eqb kind 0 || b) ≡ true) where
  -- an element's own row is in place
  row_laid : (q : ℕ) → here.first < q → Laid pre (row_if kind here up) q
  row_laid q l = go (eqb kind 0) refl
    where
      go : (c : Bool) → eqb kind 0 ≡ c → Laid pre (row_if kind here up) q
      go true z = rw (row_none kind here up z) (record { fits = tt; before = tt })
      go false z =
          let fit : Fit pre (row_with kind here up) =
          record {
            parented = room.there;
            held = room.bears (or_second (eqb kind 0) b right z);
            low = room.low;
            high = omega (arith, room.high);
            ordered = room.before;
          } in
          rw (row_own kind here up z) (record { fits = (fit, tt); before = (l, tt) })

  -- and leaves room inside the element
  row_room : (q f : ℕ) → here.first < q → f ≤ here.first + here.whole → Room (pre ++ row_if kind here up) (parent_if kind n up) (bears_if kind b) q f
  row_room q f l m = go (eqb kind 0) refl
    where
      go : (c : Bool) → eqb kind 0 ≡ c → Room (pre ++ row_if kind here up) (parent_if kind n up) (bears_if kind b) q f
      go true z =
          rw (row_none kind here up z, parent_none kind n up z, bears_none kind b z)
          (room_after pre [] up b here.first e q f room tt (omega arith) (omega arith))
      go false z =
          let r : Row = row_with kind here up in
          let same : get_or (pre ++ (r ∷ [])) n absent_row ≡ r = get_or_at pre r [] absent_row n sized in
          let new : Room (pre ++ (r ∷ [])) n (container kind) q f =
          record {
            there = omega (arith, length-append pre (r ∷ []));
            bears = rw same (λ c. c);
            low = rw same (omega arith);
            high = rw same m;
            before = before_append q pre (r ∷ []) (before_later here.first q pre (omega arith) room.before) (l, tt);
          } in
          rw (row_own kind here up z, parent_own kind n up z, bears_own kind b z) new

  -- if it has none, there is room inside it for a row that the elements there give it
  row_early : (q f : ℕ) → here.first < q → f ≤ here.first + here.whole → eqb kind 0 ≡ true
      → Early (pre ++ row_if kind here up) (parent_if kind n up) (bears_if kind b) here q f
  row_early q f l m z =
      rw (row_none kind here up z, parent_none kind n up z, bears_none kind b z)
      (record { room = room_after pre [] up b here.first e here.first (here.first + here.whole) room tt (omega arith) fits; after = l; ends = m })

module _ (pre : List Row) (n : ℕ) (sized : length pre ≡ n) (item : ℕ) (extent : Extent) (up : ℕ) (b : Bool) (p e : ℕ) (room : Room pre up b p e)
    (given : eqb item 0 ≡ false → Early pre up b extent p e) (right : (eqb item 0 || b) ≡ true) where
  -- the row that an element gives the element around it is in place
  item_laid : Laid pre (row_if item extent up) p
  item_laid = go (eqb item 0) refl
    where
      go : (c : Bool) → eqb item 0 ≡ c → Laid pre (row_if item extent up) p
      go true z = rw (row_none item extent up z) (record { fits = tt; before = tt })
      go false z =
          let y = given z in
          row_laid pre n sized item extent up b (extent.first + extent.whole) y.room (omega arith) right p y.after

  -- and leaves room for the element
  item_room : Room (pre ++ row_if item extent up) (parent_if item n up) (bears_if item b) p e
  item_room = go (eqb item 0) refl
    where
      go : (c : Bool) → eqb item 0 ≡ c → Room (pre ++ row_if item extent up) (parent_if item n up) (bears_if item b) p e
      go true z =
          rw (row_none item extent up z, parent_none item n up z, bears_none item b z)
          (room_after pre [] up b p e p e room tt (omega arith) (omega arith))
      go false z =
          let y = given z in
          row_room pre n sized item extent up b (extent.first + extent.whole) y.room (omega arith) right p e y.after y.ends

-- An element's rows, those inside it and those after it are in place, if there is room for them: h is where its inside starts and a where
-- that ends.
pub one_laid : (kind item : ℕ) (here : Extent) (inner : ℕ → ℕ → List Row) (later : ℕ → List Row) (pre : List Row) (n up : ℕ) (extent : Extent) (b : Bool)
    (e h a : ℕ) → (let p = here.first in
    let w = here.whole in
    length pre ≡ n → Room pre up b p e → p + w ≤ e → p < h → h ≤ a → a ≤ p + w → (eqb item 0 || b) ≡ true
    → (eqb kind 0 || bears_if item b) ≡ true → (eqb item 0 ≡ false → Early pre up b extent p e)
    → ((new : List Row) (j u : ℕ) → length new ≡ j → Room new u (bears_if kind (bears_if item b)) h a
    → (eqb kind 0 ≡ true → Early new u (bears_if kind (bears_if item b)) here h a) → Laid new (inner j u) a)
    → ((new : List Row) (j : ℕ) → length new ≡ j → Room new up b (p + w) e → Laid new (later j) e)
    → Laid pre (rows_one kind item here inner later n up extent) e)
unfolding rows_one
one_laid kind item here inner later pre n up extent b e h a sized room ends starts goes holds item-right own-right given each further =
    let p = here.first in
    let w = here.whole in
    let around = row_if item extent up in
    let above = parent_if item n up in
    let below = bears_if item b in
    let own = row_if kind here above in
    let next = n + length around in
    let first = pre ++ around in
    let second = first ++ own in
    let first_sized : length first ≡ next = omega (arith, length-append pre around) in
    let second_sized : length second ≡ next + length own = omega (arith, length-append first own) in
    let laid-item = item_laid pre n sized item extent up b p e room given item-right in
    let room-item = item_room pre n sized item extent up b p e room given item-right in
    let laid-own = row_laid first next first_sized kind here above below e room-item ends own-right h starts in
    let room-own = row_room first next first_sized kind here above below e room-item ends own-right h a starts holds in
    let u = parent_if kind next above in
    let within = inner (next + length own) u in
    let early-own = row_early first next first_sized kind here above below e room-item ends own-right h a starts holds in
    let laid-inner = each second (next + length own) u second_sized room-own early-own in
    let third = second ++ within in
    let third_sized : length third ≡ next + length own + length within = omega (arith, length-append second within) in
    let room-first = room_after pre around up b p e p e room laid-item.before (omega arith) (omega arith) in
    let room-second = room_after first own up b p e h e room-first laid-own.before (omega arith) (omega arith) in
    let room_third : Room third up b (p + w) e =
    room_after second within up b h e (p + w) e room-second (before_later a (p + w) within holds laid-inner.before) (omega arith) (omega arith) in
    let rest = later (next + length own + length within) in
    let laid-rest = further third (next + length own + length within) third_sized room_third in
    laid_append pre around (own ++ (within ++ rest)) p e (omega arith) laid-item
    (laid_append first own (within ++ rest) h e (omega arith) laid-own (laid_append second within rest a e (omega arith) laid-inner laid-rest))
