-- The search for an element's line and for a container's end, one line at a time: what a line's codes make of it. Assumes nothing.
use Prim.Native.Nat.{ℕ, zero, suc, ◌+◌, ◌<◌, ◌≤◌}
use mathlib.Core.Bool.{Bool, true, false, not, ◌&&◌, ◌||◌, and-eq-true_iff, false≢true}
use mathlib.Core.List.{List, [], ◌∷◌}
use mathlib.Core.Logic.{⊎_elim}
use mathlib.Core.Path.{◌≡◌, refl, sym, ◌∙◌}
use native.Mathlib.Omega.{arith}
use native.Mathlib.Numerals.{add-one}
use borrow.Author.Tests.{eqb-true, eq-eqb, ne_eqb, leb-true, ltb-true, ltb-false, not-true}
use lib.Dec.{eqb, leb, ltb}
use lib.ListN.{get_or, drop, drop_of_length-le}
use lib.Seq.{get_or-drop, drop-cons}
use Rattle.der.proofs.theorems.lists.Range.{every, each}
use Rattle.std.specs.Bool.{then_some}
use Rattle.std.specs.Prelude.{None, Some}
use Rattle.crmf.specs.steps.grammar.Codes as codes
use Rattle.crmf.specs.meaning.Notation.{Identifiers, octet, general_name, anything, nothing, named}
use Rattle.crmf.specs.steps.grammar.Lines.{Pass, ends, needed, another, over, Line, end_line, lines}
use Rattle.crmf.specs.steps.grammar.Packed.{pass_code, identifiers_code}
use Rattle.crmf.specs.steps.explain.Walk.{line, walk_goes_on, find_line_in, find_line, closed_in, closed}
use Rattle.crmf.proofs.theorems.lists.Tests.{either}
use Rattle.crmf.proofs.theorems.lines.WordFields.{computed, line_count, lines_count}

-- what the code of a line's pass says
pub stays : (p : Pass) → pass_code p < pass_code another → walk_goes_on p ≡ false
unfolding pass_code
stays ends h = refl
stays needed h = refl
stays another h = absurd (omega arith)
stays over h = absurd (omega arith)

pub moves : (p : Pass) → pass_code another ≤ pass_code p → walk_goes_on p ≡ true
unfolding pass_code
moves ends h = absurd (omega arith)
moves needed h = absurd (omega arith)
moves another h = refl
moves over h = refl

-- what the code of a line's identifiers says: an octet's code stands for that one identifier, and the code of nothing for none
pub own_code : (i : Identifiers) (id : ℕ) → identifiers_code i ≡ id + codes.octet → named i id ≡ true
unfolding identifiers_code named
own_code (octet a) id e = eq-eqb id a (omega arith)
own_code general_name id e = absurd (omega arith)
own_code anything id e = refl
own_code nothing id e = absurd (omega arith)

pub other_code : (i : Identifiers) (id : ℕ) → codes.octet ≤ identifiers_code i → (identifiers_code i ≡ id + codes.octet → ⊥) → named i id ≡ false
unfolding identifiers_code named
other_code (octet a) id h n = ne_eqb id a (λ e. n (omega arith))
other_code general_name id h n = absurd (omega arith)
other_code anything id h n = absurd (omega arith)
other_code nothing id h n = absurd (omega arith)

no_code : (i : Identifiers) (id : ℕ) → identifiers_code i ≡ identifiers_code nothing → named i id ≡ false
unfolding identifiers_code named
no_code (octet a) id e = absurd (omega arith)
no_code general_name id e = absurd (omega arith)
no_code anything id e = absurd (omega arith)
no_code nothing id e = refl

ending : (x : Line) (xs : List Line) → pass_code x.pass < pass_code over → eqb (pass_code x.pass) (pass_code ends) ≡ closed_in (x ∷ xs)
unfolding closed_in pass_code
ending x xs = go x.pass
  where
    go : (p : Pass) → pass_code p < pass_code over → eqb (pass_code p) (pass_code ends) ≡ (elim p [ ends ↦ true | needed ↦ false | another ↦ false | over ↦ closed_in xs ])
    go ends h = refl
    go needed h = refl
    go another h = refl
    go over h = absurd (omega arith)

passing : (x : Line) (xs : List Line) → pass_code over ≤ pass_code x.pass → closed_in xs ≡ closed_in (x ∷ xs)
unfolding closed_in pass_code
passing x xs = go x.pass
  where
    go : (p : Pass) → pass_code over ≤ pass_code p → closed_in xs ≡ (elim p [ ends ↦ true | needed ↦ false | another ↦ false | over ↦ closed_in xs ])
    go ends h = absurd (omega arith)
    go needed h = absurd (omega arith)
    go another h = absurd (omega arith)
    go over h = refl

-- with a line that stands at k, and those after it
module _ (k : ℕ) (x : Line) (xs : List Line) (there : drop k lines ≡ x ∷ xs) (id : ℕ) where
  -- the search finds a line that has the identifier
  pub find_line_found : named x.identifiers id ≡ true → find_line k id ≡ Some k
  unfolding find_line find_line_in
  find_line_found fits = rw there (rw (fits, find_line_in))

  -- at another it goes on if the line says so
  pub find_line_on : named x.identifiers id ≡ false → walk_goes_on x.pass ≡ true → drop (suc k) lines ≡ xs → find_line k id ≡ find_line (suc k) id
  unfolding find_line find_line_in
  find_line_on fails on after = rw there (rw (fails, find_line_in) (rw (on, after)))

  -- and otherwise ends
  pub find_line_off : named x.identifiers id ≡ false → walk_goes_on x.pass ≡ false → find_line k id ≡ None
  unfolding find_line find_line_in
  find_line_off fails off = rw there (rw (fails, find_line_in) (rw off))

-- at a line of the table
module _ (k : ℕ) (h : k < line_count) where
  from_line : drop k lines ≡ line k ∷ drop (suc k) lines
  unfolding line
  from_line = drop-cons lines k end_line (rw lines_count h)

  pub find_line_here : (id : ℕ) → named (line k).identifiers id ≡ true → Some k ≡ find_line k id
  find_line_here id e = sym (find_line_found k _ _ from_line id e)

  pub find_line_stops : (id : ℕ) → named (line k).identifiers id ≡ false → walk_goes_on (line k).pass ≡ false → None ≡ find_line k id
  find_line_stops id e g = sym (find_line_off k _ _ from_line id e g)

  pub find_line_next : (id : ℕ) → named (line k).identifiers id ≡ false → walk_goes_on (line k).pass ≡ true → find_line (suc k) id ≡ find_line k id
  find_line_next id e g = sym (find_line_on k _ _ from_line id e g refl)

  pub closed_here : pass_code (line k).pass < pass_code over → eqb (pass_code (line k).pass) (pass_code ends) ≡ closed k
  unfolding closed
  closed_here p = rw from_line (ending (line k) (drop (suc k) lines) p)

  pub closed_next : pass_code over ≤ pass_code (line k).pass → closed (suc k) ≡ closed k
  unfolding closed
  closed_next p = rw from_line (passing (line k) (drop (suc k) lines) p)

-- past the table's end
module _ (k : ℕ) (h : line_count ≤ k) where
  none_left : drop k lines ≡ []
  none_left = drop_of_length-le lines {i = k} (rw lines_count h)

  pub find_line_past : (id : ℕ) → None ≡ find_line k id
  unfolding find_line find_line_in
  find_line_past id = rw (find_line, none_left)

  pub closed_past : true ≡ closed k
  unfolding closed closed_in
  closed_past = rw (closed, none_left)

-- a line without identifiers at which the search ends; and the test that such a line comes after each line that may be passed over and
-- whose identifiers have a code other than an octet's
abbrev bars : Line → Bool
bars x = eqb (identifiers_code x.identifiers) (identifiers_code nothing) && not (walk_goes_on x.pass)

abbrev barred : ℕ → Bool
barred k = leb codes.octet (identifiers_code (line k).identifiers) || (not (walk_goes_on (line k).pass) || ltb (k + 1) line_count && bars (line (k + 1)))

all_barred : every line_count barred ≡ true
unfolding computed line_count line
all_barred = refl

-- what the test says of a line
bar : (k : ℕ) → k < line_count → identifiers_code (line k).identifiers < codes.octet → walk_goes_on (line k).pass ≡ true → (k + 1 < line_count) × (bars (line (k + 1)) ≡ true)
bar k h low on =
    ⊎_elim (λ (p : leb codes.octet (identifiers_code (line k).identifiers) ≡ true). absurd (omega (arith, leb-true codes.octet (identifiers_code (line k).identifiers) p)))
    (λ q. ⊎_elim (λ p. absurd (false≢true (sym (not-true _ p) ∙ on)))
    (λ p. let (i, b) = (and-eq-true_iff _ _).0 p in (ltb-true _ _ i, b))
    (either _ _ q))
    (either _ _ (each line_count barred all_barred k h))

-- at a line for identifiers of a code other than an octet's the search ends
pub find_line_ends : (k : ℕ) → k < line_count → (id : ℕ) → identifiers_code (line k).identifiers < codes.octet
    → then_some (named (line k).identifiers id) k ≡ find_line k id
find_line_ends k h id low = by_name (named (line k).identifiers id) refl
  where
    by_pass : (b : Bool) → named (line k).identifiers id ≡ false → walk_goes_on (line k).pass ≡ b → None ≡ find_line k id
    by_pass false e g = find_line_stops k h id e g
    by_pass true e g =
        let (i, b) = bar k h low g in
        let (none, stops) = (and-eq-true_iff _ _).0 b in
        find_line_stops (k + 1) i id (no_code _ id (eqb-true _ _ none)) (not-true _ stops) ∙ rw add-one (find_line_next k h id e g)

    by_name : (b : Bool) → named (line k).identifiers id ≡ b → then_some b k ≡ find_line k id
    by_name true e = find_line_here k h id e
    by_name false e = by_pass (walk_goes_on (line k).pass) e refl

-- a line's place after others, and that it has an identifier
abbrev Named : List Line → ℕ → ℕ → ℕ → Type 0
Named xs k id n = (m : ℕ) × (n ≡ k + m) × (named (get_or xs m end_line).identifiers id ≡ true)

-- the search finds a line that has the identifier
find_line_names : (xs : List Line) (k id n : ℕ) → find_line_in xs k id ≡ Some n → Named xs k id n
unfolding find_line_in
find_line_names [] k id n e = let z : ◌≡◌ {A = ℕ} 0 1 = cc in absurd (omega arith)
find_line_names (x ∷ xs) k id n e = by_name (named x.identifiers id) refl (find_line_names xs (suc k) id n)
  where
    by_pass : (b : Bool) → named x.identifiers id ≡ false → walk_goes_on x.pass ≡ b → (find_line_in xs (suc k) id ≡ Some n → Named xs (suc k) id n)
        → Named (x ∷ xs) k id n
    by_pass true f g further = let (m, place, fits) = further (rw g at (rw (find_line_in, f) at e)) in (suc m, omega arith, fits)
    by_pass false f g further = let h = rw (find_line_in, f, g) at e in let z : ◌≡◌ {A = ℕ} 0 1 = cc in absurd (omega arith)

    by_name : (b : Bool) → named x.identifiers id ≡ b → (find_line_in xs (suc k) id ≡ Some n → Named xs (suc k) id n) → Named (x ∷ xs) k id n
    by_name true f further =
        let here : k ≡ n = let h : Some k ≡ Some n = rw (find_line_in, f) at e in cc in
        (0, omega arith, f)
    by_name false f further = by_pass (walk_goes_on x.pass) f refl further

-- The line that is found has the identifier.
pub found_names : (k id n : ℕ) → find_line k id ≡ Some n → named (line n).identifiers id ≡ true
unfolding find_line line
found_names k id n e =
    let (m, place, fits) = find_line_names (drop k lines) k id n e in
    rw place (rw (get_or-drop k lines m end_line) at fits)

-- What holds at the line where a search begins, and is kept past every line that may be passed over, holds at the line that is found.
module _ (P : ℕ → Type 0) (on : (k : ℕ) → P k → walk_goes_on (line k).pass ≡ true → P (suc k)) (id n : ℕ) where
  -- by the number of lines to the table's end
  kept_from : (f k : ℕ) → line_count ≤ k + f → P k → find_line k id ≡ Some n → P n
  kept_from zero k h p e = let past = find_line_past k (omega arith) id in let z : ◌≡◌ {A = ℕ} 0 1 = cc in absurd (omega arith)
  kept_from (suc f) k h p e = by_place (ltb k line_count) refl (kept_from f (suc k) (omega arith))
    where
      by_pass : k < line_count → named (line k).identifiers id ≡ false → (b : Bool) → walk_goes_on (line k).pass ≡ b → (P (suc k) → find_line (suc k) id ≡ Some n → P n) → P n
      by_pass l f true g further = further (on k p g) (find_line_next k l id f g ∙ e)
      by_pass l f false g further = let stops = find_line_stops k l id f g in let z : ◌≡◌ {A = ℕ} 0 1 = cc in absurd (omega arith)

      by_name : k < line_count → (b : Bool) → named (line k).identifiers id ≡ b → (P (suc k) → find_line (suc k) id ≡ Some n → P n) → P n
      by_name l true f further = let here = find_line_here k l id f in let same : k ≡ n = cc in rw same at p
      by_name l false f further = by_pass l f (walk_goes_on (line k).pass) refl further

      by_place : (b : Bool) → ltb k line_count ≡ b → (P (suc k) → find_line (suc k) id ≡ Some n → P n) → P n
      by_place true l further = by_name (ltb-true _ _ l) (named (line k).identifiers id) refl further
      by_place false l further = let past = find_line_past k (ltb-false _ _ l) id in let z : ◌≡◌ {A = ℕ} 0 1 = cc in absurd (omega arith)

  pub found_kept : (k : ℕ) → P k → find_line k id ≡ Some n → P n
  found_kept k = kept_from line_count k (omega arith)
