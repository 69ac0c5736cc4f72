-- Whether some rows have no certReqId "of more than 8 content octets" is a matter of each row, and of its kind and whole length alone: so it
-- doesn't change if they are moved or renumbered. Assumes nothing.
use Prim.Native.Nat.{ℕ}
use mathlib.Core.Path.{◌≡◌, refl, sym, ap, ap₂, ◌∙◌}
use mathlib.Core.Bool.{Bool, true, not, ◌&&◌, and_assoc, and-eq-true_iff}
use mathlib.Core.List.{List, [], ◌∷◌, ◌++◌, map}
use Rattle.crmf.specs.meaning.Rows.{Row, moved_row, renumbered_row, long_id, all_short}

-- rows after others have none exactly if both have none
pub short_append : (a b : List Row) → all_short (a ++ b) ≡ (all_short a && all_short b)
unfolding all_short
short_append [] b = refl
short_append (r ∷ a) b =
    let own = not (long_id r.kind r.whole) in
    ap (λ (x : Bool). own && x) (short_append a b) ∙ sym (and_assoc own (all_short a) (all_short b))

-- so if both together have none, each has none
pub short_both : (a b : List Row) → all_short (a ++ b) ≡ true → (all_short a ≡ true) × (all_short b ≡ true)
short_both a b short = (and-eq-true_iff (all_short a) (all_short b)).0 (sym (short_append a b) ∙ short)

-- rows with other places and numbers have none exactly if the rows have none
pub short_mapped : (f : Row → Row) → ((r : Row) → long_id (f r).kind (f r).whole ≡ long_id r.kind r.whole) → (rs : List Row)
    → all_short (map f rs) ≡ all_short rs
unfolding all_short
short_mapped f same [] = refl
short_mapped f same (r ∷ rs) = ap₂ (λ (x y : Bool). not x && y) (same r) (short_mapped f same rs)

-- so it is with rows that are moved
pub short_moved : (d : ℕ) (rs : List Row) → all_short (map (moved_row d) rs) ≡ all_short rs
short_moved d = short_mapped (moved_row d) (λ r. refl)

-- and with rows that are renumbered
pub short_renumbered : (k : ℕ) (rs : List Row) → all_short (map (renumbered_row k) rs) ≡ all_short rs
short_renumbered k = short_mapped (renumbered_row k) (λ r. refl)
