-- A list of changes is empty exactly when the batches are the same: a merge without entries passes the same rows on both sides, and these show
-- the same pieces, of which each batch is the assembly. Assumes nothing.
use Prim.Native.Nat.{ℕ, zero, suc, ◌≤◌, ◌<◌}
use native.Mathlib.Decide.{dec_le}
use native.Mathlib.Omega.{arith}
use mathlib.Core.Path.{◌≡◌, refl, sym, ap, ap₂, subst, ◌∙◌}
use mathlib.Core.Bool.{Bool, true, false, false≢true}
use mathlib.Core.List.Memᴰ
use mathlib.Core.List.{List, [], ◌∷◌}
use lib.ListN.{length, length-append}
use Rattle.crmf.specs.meaning.Rows.{Row, container}
use Rattle.crmf.specs.meaning.Pieces.{Piece, piece_of, pieces_of}
use Rattle.crmf.proofs.Laws.{pieces_none, pieces_row}
use Rattle.compare.specs.meaning.Counterparts.{row_at, Child, Counterpart, batches, children}
use Rattle.compare.specs.meaning.Changes.{Change, only_first, only_second, leaves_differ, row_octets, Changed, in_first, in_second, in_both, Changes}
use Rattle.compare.specs.steps.Arranged.{Arranged}
use Rattle.compare.specs.steps.Merging.{Alike, Merge, over, first, second, unlike, same, differing, within}
use Rattle.compare.proofs.theorems.OneCounterpart.{one_counterpart, counterpart_there}
use Rattle.compare.proofs.theorems.MergeSteps.{merge_end}
use Rattle.compare.proofs.theorems.Complete.{at_batches, next_batch, batch_box}
use Rattle.compare.proofs.theorems.OneList.{changes_once}
use Rattle.compare.proofs.theorems.Existing.{whole_merge, merged_changes}

-- In its own batch each row is its own counterpart.
own_counterpart : {s : List ℕ} {rs : List Row} → Arranged s rs → (bound i : ℕ) → i ≤ bound → i < length rs → Counterpart rs rs i i
own_counterpart {rs = rs} a zero i small there = let first_row : i ≡ 0 = omega arith in rw first_row batches
own_counterpart {rs = rs} a (suc bound) i small there = go i small there (λ k low in_rows. own_counterpart a bound k low in_rows)
  where
    go : (m : ℕ) → m ≤ suc bound → m < length rs → ((k : ℕ) → k ≤ bound → k < length rs → Counterpart rs rs k k) → Counterpart rs rs m m
    go zero small there up = batches
    go (suc m) small there up =
        let higher = a.earlier (suc m) (omega arith) there in
        let c : Child rs (row_at rs (suc m)).parent (suc m) = record { some = omega arith; there = there; below = refl } in
        children (up (row_at rs (suc m)).parent (omega arith) (omega arith)) c c refl refl

-- So nothing changed between a batch and itself.
pub nothing_changed : {s : List ℕ} {rs : List Row} → Arranged s rs → (cs : List Change) → Changes s s rs rs cs → cs ≡ []
nothing_changed a [] x = refl
nothing_changed {s} {rs} a (c ∷ cs) x = absurd (go c (x.only c (Memᴰ.head refl)))
  where
    own : (i : ℕ) → i < length rs → Counterpart rs rs i i
    own i there = own_counterpart a i i (omega arith) there

    go : (d : Change) → Changed s s rs rs d → ⊥
    go (only_first i) (in_first pair c lone) = lone i (own i c.there)
    go (only_second j) (in_second pair c lone) = lone j (own j c.there)
    go (leaves_differ i j) (in_both pair leaf octets) =
        octets (ap (λ (k : ℕ). row_octets s (row_at rs k)) (one_counterpart (own i (counterpart_there a a pair).0) pair))

-- Rows of one number show the same of two batches: kind, parent and, in a leaf, octets.
record Same (s t : List ℕ) (r q : Row) : Type 0 where
  kinds : r.kind ≡ q.kind
  parents : r.parent ≡ q.parent
  octets : container r.kind ≡ false → row_octets s r ≡ row_octets t q

-- a list of no length has no entries
no_entries : (cs : List Change) → length cs ≡ 0 → cs ≡ []
no_entries [] e = refl
no_entries (c ∷ cs) e = absurd (omega arith)

module _ {s t : List ℕ} {A B : List Row} where
  -- two that are alike do, if they are leaves of the same octets or containers
  alike_same : {p q i j : ℕ} → Alike A B p q i j → p ≡ q → (container (row_at A i).kind ≡ false → row_octets s (row_at A i) ≡ row_octets t (row_at B j))
      → Same s t (row_at A i) (row_at B j)
  alike_same e parents octets = record { kinds = e.kinds; parents = e.one.below ∙ parents ∙ sym e.two.below; octets = octets }

  first_same : {p q i j m : ℕ} → Alike A B p q i j → p ≡ q → i ≡ j
      → (container (row_at A i).kind ≡ false → row_octets s (row_at A i) ≡ row_octets t (row_at B j)) → m ≡ i → Same s t (row_at A m) (row_at B m)
  first_same {i = i} {m = m} e up at octets one =
      subst (λ (y : ℕ). Same s t (row_at A y) (row_at B m)) (sym one)
      (subst (λ (y : ℕ). Same s t (row_at A i) (row_at B y)) (sym (one ∙ at)) (alike_same e up octets))

  -- A merge without entries from one row on passes the same rows on both sides.
  same_run : {p q i j k l : ℕ} {cs : List Change} → p ≡ q → i ≡ j → cs ≡ [] → Merge s t A B p q i j cs k l
      → (k ≡ l) × ((m : ℕ) → i ≤ m → m < k → Same s t (row_at A m) (row_at B m))
  same_run up at empty (over c d) = (at, λ m from to. absurd (omega arith))
  same_run up at empty (first c before n more) = absurd (omega (arith, ap length empty))
  same_run up at empty (second c before n more) = absurd (omega (arith, ap length empty))
  same_run up at empty (unlike c d alike kinds u v more) = absurd (omega (arith, ap length empty))
  same_run {i = i} {j = j} {k = k} up at empty (same e leaf octets more) =
      let (ends, rest) = same_run up (ap suc at) empty more in
      (ends, λ m from to. go (dec_le (suc i) m) from (λ after. rest m after to))
    where
      go : {m : ℕ} → Dec (i < m) → i ≤ m → (i < m → Same s t (row_at A m) (row_at B m)) → Same s t (row_at A m) (row_at B m)
      go (yes after) from f = f after
      go {m} (no x) from f =
          first_same e up at (λ z. octets) (omega arith)
  same_run up at empty (differing e leaf octets more) = absurd (omega (arith, ap length empty))
  same_run {i = i} {j = j} {k = k} up at empty (within {m = n} {cs = cs} {ds = ds} e box inside more) =
      let none_inside : length cs ≡ 0 = omega (arith, ap length empty, length-append cs ds) in
      let none_after : length ds ≡ 0 = omega (arith, ap length empty, length-append cs ds) in
      let (meet, within-rest) = same_run at (ap suc at) (no_entries cs none_inside) inside in
      let (ends, rest) = same_run up meet (no_entries ds none_after) more in
      (ends, λ m from to. go (dec_le (suc i) m) (dec_le n m) from (λ after before. within-rest m after before) (λ past. rest m past to))
    where
      go : {m : ℕ} → Dec (i < m) → Dec (n ≤ m) → i ≤ m → (i < m → m < n → Same s t (row_at A m) (row_at B m)) → (n ≤ m → Same s t (row_at A m) (row_at B m))
          → Same s t (row_at A m) (row_at B m)
      go (yes after) (yes past) from f g = g past
      go (yes after) (no under) from f g = f after (omega arith)
      go {m} (no x) y from f g = first_same e up at (λ z. absurd (false≢true (sym z ∙ box))) (omega arith)

-- what a piece has of its row's octets: a container's none, a leaf's all
abbrev shown : Bool → List ℕ → List ℕ
shown b o = elim b [ true ↦ [] | false ↦ o ]

piece_octets : (u : List ℕ) (r : Row) {b : Bool} → container r.kind ≡ b → (piece_of u r).octets ≡ shown b (row_octets u r)
piece_octets u r e = ap (λ (c : Bool). shown c (row_octets u r)) e

-- Two lists of rows that show the same of two batches, row by row, show the same pieces.
same_pieces : {s t : List ℕ} (A B : List Row) → length A ≡ length B → ((m : ℕ) → m < length A → Same s t (row_at A m) (row_at B m))
    → pieces_of s A ≡ pieces_of t B
same_pieces {s} {t} [] [] sized alike = pieces_none s ∙ sym (pieces_none t)
same_pieces [] (q ∷ qs) sized alike = absurd (omega arith)
same_pieces (r ∷ rs) [] sized alike = absurd (omega arith)
same_pieces {s} {t} (r ∷ rs) (q ∷ qs) sized alike =
    pieces_row s r rs
    ∙ ap₂ (λ (x : Piece) (xs : List Piece). x ∷ xs) (piece (alike 0 (omega arith)))
    (same_pieces rs qs (omega arith) (λ m there. alike (suc m) (omega arith)))
    ∙ sym (pieces_row t q qs)
  where
    octets_of_lem : Same s t r q → (b : Bool) → container r.kind ≡ b → (piece_of s r).octets ≡ (piece_of t q).octets
    octets_of_lem x true e = piece_octets s r e ∙ sym (piece_octets t q (ap container (sym x.kinds) ∙ e))
    octets_of_lem x false e = piece_octets s r e ∙ x.octets e ∙ sym (piece_octets t q (ap container (sym x.kinds) ∙ e))

    piece : Same s t r q → piece_of s r ≡ piece_of t q
    piece x =
        ap₂ (λ (k u : ℕ). record { kind = k; parent = u; octets = (piece_of s r).octets }) x.kinds x.parents
        ∙ ap (λ (o : List ℕ). record { kind = q.kind; parent = q.parent; octets = o }) (octets_of_lem x (container r.kind) refl)

-- With no changes two batches' rows show the same pieces.
pub unchanged_pieces : {s t : List ℕ} {A B : List Row} → Arranged s A → Arranged t B → Changes s t A B [] → pieces_of s A ≡ pieces_of t B
unchanged_pieces {s} {t} {A} {B} a b unchanged =
    let whole = whole_merge a b in
    let empty = changes_once (merged_changes a b whole.merge) unchanged in
    let (one, two) = merge_end a b (at_batches a b) whole.merge in
    let (ends, rest) = same_run refl refl empty whole.merge in
    same_pieces A B (sym (next_batch one) ∙ ends ∙ next_batch two) (λ m there. go m there (next_batch one) rest)
  where
    go : (m : ℕ) → m < length A → {k : ℕ} → k ≡ length A → ((n : ℕ) → 1 ≤ n → n < k → Same s t (row_at A n) (row_at B n)) → Same s t (row_at A m) (row_at B m)
    go zero there end rest =
        record { kinds = a.batch ∙ sym b.batch; parents = a.own ∙ sym b.own; octets = λ leaf. absurd (batch_box a leaf) }
    go (suc m) there end rest = rest (suc m) (omega arith) (omega arith)
