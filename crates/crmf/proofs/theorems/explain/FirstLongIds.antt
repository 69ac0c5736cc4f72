-- The long certReqId that the walk notes is the first in byte order: rows ascend, so the first of the list has the least place. Assumes nothing.
use Prim.Native.Nat.{ℕ, suc, ◌≤◌, ◌<◌}
use native.Mathlib.Omega.{arith}
use mathlib.Core.Logic.{◌↔◌, ◌⊎◌, inl, inr}
use mathlib.Core.Path.{◌≡◌, refl, sym, ap, subst, ◌∙◌}
use mathlib.Core.Bool.{Bool, true, false, not, ◌&&◌, and-eq-true_iff}
use mathlib.Core.List.Memᴰ
use mathlib.Core.List.{List, [], ◌∷◌, Memᴰ}
use lib.Dec.{eqb, ltb}
use lib.ListN.{length, get_or}
use borrow.Author.Tests.{eqb-true, eq-eqb, ne_eqb, ltb-true, lt-ltb, not-true}
use Rattle.der.specs.meaning.Tree.{Tree, WellFormed}
use Rattle.crmf.specs.meaning.Kinds as kinds
use Rattle.crmf.specs.meaning.Notation.{Top}
use Rattle.crmf.specs.meaning.Grammar.{content}
use Rattle.crmf.specs.meaning.Language.{Matches}
use Rattle.crmf.specs.meaning.Rows.{Row, batch_rows, long_id, all_short, LongIdAt, FirstLongId}
use Rattle.crmf.specs.steps.explain.LongIds.{longer, first_long}
use Rattle.crmf.proofs.theorems.grammar.Choices.{never_both}
use Rattle.crmf.proofs.theorems.rows.RowsInPlace.{absent_row}
use Rattle.crmf.proofs.theorems.rows.RowLaws.{rows_ascend}
use Rattle.crmf.proofs.theorems.explain.LongIds.{long_none}

-- no row comes before one with a smaller first byte
abbrev Rising : List Row → Type 0
Rising [] = Unit {0}
Rising (r ∷ rs) = ((q : Row) → Memᴰ q rs → r.first ≤ q.first) × Rising rs

-- a row of a list has a number in it
numbered : {q : Row} (rs : List Row) → Memᴰ q rs → (j : ℕ) × (j < length rs) × (get_or rs j absent_row ≡ q)
numbered [] m = absurd (Memᴰ.not-nil m)
numbered {q} (r ∷ rs) m = go (Memᴰ.cases_cons m) (numbered rs)
  where
    go : (q ≡ r) ⊎ Memᴰ q rs → (Memᴰ q rs → (j : ℕ) × (j < length rs) × (get_or rs j absent_row ≡ q))
        → (j : ℕ) × (j < suc (length rs)) × (get_or (r ∷ rs) j absent_row ≡ q)
    go (inl same) further = (0, omega arith, sym same)
    go (inr later) further = let (j, there, is) = further later in (suc j, omega arith, is)

-- rows that ascend by their numbers rise
ascending_rise : (rs : List Row) → ((i j : ℕ) → i < j → j < length rs → (get_or rs i absent_row).first < (get_or rs j absent_row).first) → Rising rs
ascending_rise [] up = tt
ascending_rise (r ∷ rs) up = (
  λ q m. let (j, there, is) = numbered rs m in omega (arith, up 0 (suc j) (omega arith) (omega arith), ap (λ (x : Row). x.first) is),
  ascending_rise rs (λ i j l there. up (suc i) (suc j) (omega arith) (omega arith)),
)

-- a row is a long certReqId exactly when the test says so
long_test : (r : Row) → r.kind ≡ kinds.cert_req_id → 10 < r.whole → long_id r.kind r.whole ≡ true
long_test r kind long = (and-eq-true_iff (eqb r.kind kinds.cert_req_id) (ltb 10 r.whole)).1 (eq-eqb _ _ kind, lt-ltb 10 r.whole long)

test_long : (r : Row) → long_id r.kind r.whole ≡ true → (r.kind ≡ kinds.cert_req_id) × (10 < r.whole)
test_long r test =
    let (kind, long) = (and-eq-true_iff (eqb r.kind kinds.cert_req_id) (ltb 10 r.whole)).0 test in
    (eqb-true _ _ kind, ltb-true 10 r.whole long)

-- what is noted stays
noted_stays : (w p : ℕ) (rs : List Row) → eqb w 0 ≡ false → first_long (w, p) rs ≡ (w, p)
unfolding first_long
noted_stays w p [] known = refl
noted_stays w p (r ∷ rs) known = ap (λ (h : ℕ × ℕ). first_long h rs) (go (long_id r.kind r.whole) refl) ∙ noted_stays w p rs known
  where
    go : (b : Bool) → long_id r.kind r.whole ≡ b → longer (w, p) r.kind r.first r.whole ≡ (w, p)
    go true long = rw (longer, long, known)
    go false short = rw (longer, short)

-- a long first row is noted, and any other changes nothing
first_noted : (r : Row) (rs : List Row) → long_id r.kind r.whole ≡ true → first_long (0, 0) (r ∷ rs) ≡ (r.whole, r.first)
unfolding first_long
first_noted r rs long =
    ap (λ (h : ℕ × ℕ). first_long h rs) (rw (longer, long)) ∙ noted_stays r.whole r.first rs (ne_eqb r.whole 0 (λ zero. omega (arith, (test_long r long).1)))

first_passed : (r : Row) (rs : List Row) → long_id r.kind r.whole ≡ false → first_long (0, 0) (r ∷ rs) ≡ first_long (0, 0) rs
unfolding first_long
first_passed r rs short = ap (λ (h : ℕ × ℕ). first_long h rs) (rw (longer, short))

-- the first row is one if its test says so, and a later one is one of all
long_here : (r : Row) (rs : List Row) → long_id r.kind r.whole ≡ true → LongIdAt (r ∷ rs) r.first
long_here r rs test =
    let (kind, size) = test_long r test in
    record { row = r; among = Memᴰ.head refl; cert_req_id = kind; long = size; stands = refl }

long_later : (r : Row) (rs : List Row) {p : ℕ} → LongIdAt rs p → LongIdAt (r ∷ rs) p
long_later r rs long = record { row = long.row; among = Memᴰ.tail long.among; cert_req_id = long.cert_req_id; long = long.long; stands = long.stands }

-- conversely, it is the first of them or a later one
long_cases : {A : Type 0} {p : ℕ} (r : Row) (rs : List Row) → LongIdAt (r ∷ rs) p → ((r.first ≡ p) → long_id r.kind r.whole ≡ true → A) → (LongIdAt rs p → A) → A
long_cases {A} {p} r rs long here there = go (Memᴰ.cases_cons long.among)
  where
    go : (long.row ≡ r) ⊎ Memᴰ long.row rs → A
    go (inl same) =
        here (ap (λ (x : Row). x.first) (sym same) ∙ long.stands)
        (long_test r (ap (λ (x : Row). x.kind) (sym same) ∙ long.cert_req_id) (subst (λ (x : Row). 10 < x.whole) same long.long))
    go (inr later) = there (record { row = long.row; among = later; cert_req_id = long.cert_req_id; long = long.long; stands = long.stands })

-- What is noted after rows that rise is the first long certReqId.
noted_first : (rs : List Row) → Rising rs → eqb (first_long (0, 0) rs).0 0 ≡ false → FirstLongId rs (first_long (0, 0) rs).1
unfolding first_long
noted_first [] rise known = never_both true refl known
noted_first (r ∷ rs) rise known = go (long_id r.kind r.whole) refl (noted_first rs rise.1)
  where
    go : (b : Bool) → long_id r.kind r.whole ≡ b → (eqb (first_long (0, 0) rs).0 0 ≡ false → FirstLongId rs (first_long (0, 0) rs).1)
        → FirstLongId (r ∷ rs) (first_long (0, 0) (r ∷ rs)).1
    go true long further =
        rw (first_noted r rs long) (record {
          here = long_here r rs long;
          least = λ q other. long_cases r rs other (λ same test. omega arith) (λ later. omega (arith, rise.0 later.row later.among, later.stands));
        })
    go false short further =
        let found = further (ap (λ (h : ℕ × ℕ). eqb h.0 0) (sym (first_passed r rs short)) ∙ known) in
        rw (first_passed r rs short) (record {
          here = long_later r rs found.here;
          least = λ q other. long_cases r rs other (λ same test. never_both (long_id r.kind r.whole) test short) (λ later. found.least q later);
        })

-- there is only one first
first_alone : (rs : List Row) (p q : ℕ) → FirstLongId rs p → FirstLongId rs q → p ≡ q
first_alone rs p q a b = omega (arith, a.least q b.here, b.least p a.here)

-- if no row is a long certReqId, there is none, and conversely
pub short_none : (rs : List Row) → all_short rs ≡ true → (p : ℕ) → LongIdAt rs p → ⊥
unfolding all_short
short_none [] short p long = Memᴰ.not-nil long.among
short_none (r ∷ rs) short p long =
    let (own, further) = (and-eq-true_iff (not (long_id r.kind r.whole)) (all_short rs)).0 short in
    long_cases r rs long (λ same test. never_both (long_id r.kind r.whole) test (not-true _ own)) (short_none rs further p)

pub none_short : (rs : List Row) → ((p : ℕ) → LongIdAt rs p → ⊥) → all_short rs ≡ true
unfolding all_short
none_short [] none = refl
none_short (r ∷ rs) none = go (long_id r.kind r.whole) refl (none_short rs (λ p later. none p (long_later r rs later)))
  where
    go : (b : Bool) → long_id r.kind r.whole ≡ b → all_short rs ≡ true → (not (long_id r.kind r.whole) && all_short rs) ≡ true
    go true test rest = absurd (none r.first (long_here r rs test))
    go false test rest = rw (test, rest)

-- Rows that are found by a derivation of well-formed elements rise.
module _ {R : ℕ → Bool} {t : Tree} (m : Matches R (content Top) t) (left : ℕ) (wf : WellFormed left 0 t) where
  batch_rise : Rising (batch_rows m)
  batch_rise = ascending_rise (batch_rows m) (rows_ascend m left wf)

  -- The first long certReqId of a batch's rows is the one that is noted.
  pub long_exactly : (p : ℕ) → FirstLongId (batch_rows m) p ↔ ((eqb (first_long (0, 0) (batch_rows m)).0 0 ≡ false) × ((first_long (0, 0) (batch_rows m)).1 ≡ p))
  long_exactly p = (λ first. there first (eqb (first_long (0, 0) (batch_rows m)).0 0) refl, λ (known, is). subst (FirstLongId (batch_rows m)) is (noted_first (batch_rows m) batch_rise known))
    where
      there : FirstLongId (batch_rows m) p → (b : Bool) → eqb (first_long (0, 0) (batch_rows m)).0 0 ≡ b
          → (eqb (first_long (0, 0) (batch_rows m)).0 0 ≡ false) × ((first_long (0, 0) (batch_rows m)).1 ≡ p)
      there first false known = (known, first_alone (batch_rows m) _ p (noted_first (batch_rows m) batch_rise known) first)
      there first true none-noted = absurd (short_none (batch_rows m) (sym (long_none (batch_rows m)) ∙ none-noted) p first.here)
