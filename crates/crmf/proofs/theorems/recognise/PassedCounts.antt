-- A batch that one edition's own walk passes, with no long certReqId, is recognised. Assumes nothing.
use Prim.Native.Nat.{ℕ, ◌+◌}
use mathlib.Core.Path.{◌≡◌, refl, sym, ◌∙◌, ap}
use mathlib.Core.Bool.{Bool, true, false, and-eq-true_iff}
use mathlib.Core.List.{List}
use lib.Dec.{eqb}
use lib.ListN.{length}
use Rattle.der.specs.steps.Nest.{End}
use Rattle.der.specs.meaning.Tree.{Tree, none, element}
use Rattle.der.specs.meaning.Bounds.{depth}
use Rattle.der.specs.steps.Explain.{walk_at}
use Rattle.der.specs.steps.Reading.{tree}
use Rattle.der.proofs.Laws.{is_list_short, single_is_list}
use Rattle.std.specs.Prelude.{Some}
use Rattle.crmf.specs.steps.explain.Tally.{Tally}
use Rattle.crmf.specs.meaning.Notation.{Top}
use Rattle.crmf.specs.meaning.Rows.{no_extent}
use Rattle.crmf.specs.steps.explain.LongIds.{first_long}
use Rattle.crmf.specs.steps.grammar.Lines.{start}
use Rattle.crmf.specs.steps.explain.Walk.{line, rows_by, with_element, walk, empty_tally, Passed}
use Rattle.crmf.specs.steps.rows.Fill.{rows_of_input}
use Rattle.crmf.specs.steps.recognise.Count.{counts, counts_at, recognised}
use Rattle.crmf.proofs.theorems.recognise.CountSteps.{counts_in, counts_closed, counts_next}
use Rattle.crmf.proofs.theorems.explain.Passing.{Chosen, inner_walk, inner_walked, passed_element, passed_none}
use Rattle.crmf.proofs.theorems.explain.LongIds.{rows_long, walk_short, inner_short, met_short}
use Rattle.crmf.proofs.theorems.explain.WholeInput.{rows_whole}

-- the forms that an edition reads
abbrev own : ℕ → ℕ → Bool
own e x = eqb x e

-- whether elements that an edition's walk passes are recognised, if no long certReqId is met
abbrev Counts : ℕ → Tree → Type 0
Counts e t =
    (s r : Tally) (k around n : ℕ) → walk (own e) s k around t ≡ Passed r → r.long.whole ≡ 0 → (m : ℕ) × (counts e k n t ≡ Some m)

-- at the end of the elements
counts_end : (e : ℕ) → Counts e none
counts_end e s r k around n passed short = (n, counts_closed e k n (passed_none (own e) s k around r passed).0)

-- inside an element, from the elements inside it
counts_within : (e : ℕ) (inside : Tree) → Counts e inside → (m r : Tally) (i place n : ℕ) → inner_walk (own e) m i place inside ≡ Passed r
    → r.long.whole ≡ 0 → (j : ℕ) × (counts_in e i n inside ≡ Some j)
counts_within e inside inner m r i place n passed short = go (eqb i 0) refl
  where
    go : (b : Bool) → eqb i 0 ≡ b → (j : ℕ) × (counts_in e i n inside ≡ Some j)
    go true free = (n, rw (free, counts_in))
    go false starts =
        let (j, some) = inner m r i place n (sym (inner_walked (own e) m i place inside starts) ∙ passed) short in
        (j, rw (starts, counts_in) some)

-- at an element, from the elements inside it and those after it
counts_element : (e id first whole : ℕ) (c : List ℕ) (inside rest : Tree) → Counts e inside → Counts e rest
    → Counts e (element id first whole c inside rest)
counts_element e id first whole c inside rest inner later s r k around n passed short =
    go (passed_element (own e) s k around id first whole c inside rest r passed)
  where
    go : Chosen (own e) s k around id first whole c inside rest r → (j : ℕ) × (counts e k n (element id first whole c inside rest) ≡ Some j)
    go f =
        let x = line f.at in
        let m = with_element x c first whole s in
        let later-short = walk_short (own e) rest f.seen r f.next around f.further short in
        let own-short = met_short x c first whole s (inner_short (own e) m f.seen x.inside first inside f.inner later-short) in
        let (i, within) = counts_within e inside inner m f.seen x.inside first (n + rows_by x) f.inner later-short in
        let (j, after) = later f.seen r f.next around i f.further short in
        (j, counts_next e k n id first whole c inside rest f.at f.found f.next i ((and-eq-true_iff _ _).1 (f.read, own-short)) f.onward within ∙ after)

-- Elements that an edition's own walk passes are recognised, if no long certReqId is met.
walk_counted : (e : ℕ) (t : Tree) → Counts e t
walk_counted e none = counts_end e
walk_counted e (element id first whole c inside rest) =
    counts_element e id first whole c inside rest (walk_counted e inside) (walk_counted e rest)

-- An input is recognised if it is one element without a fault, the edition's own walk passes, and none of its rows is a long certReqId.
pub walk_recognised : (e : ℕ) (s : List ℕ) → walk_at s 0 (length s) ≡ End (length s) → (r : Tally)
    → walk (λ x. eqb x e) empty_tally (start Top) 0 (tree 0 s) ≡ Passed r → (first_long (0, 0) (rows_of_input s)).0 ≡ 0 → (n : ℕ) × (recognised e s ≡ Some n)
unfolding recognised counts_at empty_tally
walk_recognised e s ends r passed short =
    let sound = single_is_list s ends in
    let met_long = ap (first_long (0, 0)) (rows_whole s (is_list_short depth s sound)) ∙ rows_long (own e) (tree 0 s) empty_tally r (start Top) 0 0 0 no_extent passed in
    let none_long : r.long.whole ≡ 0 = sym (ap (λ (h : ℕ × ℕ). h.0) met_long) ∙ short in
    let same : recognised e s ≡ counts e (start Top) 0 (tree 0 s) = rw (recognised, counts_at, sound) in
    let (n, counted) = walk_counted e (tree 0 s) empty_tally r (start Top) 0 0 passed none_long in
    (n, same ∙ counted)
