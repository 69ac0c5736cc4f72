-- What is met with an element, by the code of its mark, which holds an edition and a difference below 8. Assumes nothing.
use Prim.Native.Nat.{ℕ, ◌+◌, ◌/◌, ◌%◌, ◌<◌}
use mathlib.Core.Path.{◌≡◌, refl, sym, ap, ap₂, ◌∙◌}
use mathlib.Core.Bool.{Bool, true, false, not, false≢true, ◌&&◌}
use mathlib.Core.List.{List}
use native.Mathlib.Omega.{arith}
use borrow.Author.Tests.{eqb-true, ltb-true, ne_eqb}
use lib.Dec.{ltb, eqb}
use Rattle.std.specs.Prelude.{Option, Some, None, is_some}
use Rattle.crmf.specs.declared.explain.first.Difference.{Difference as Form}
use Rattle.crmf.specs.declared.explain.first.LongId.{LongId as Long}
use Rattle.crmf.specs.steps.explain.Tally.{Tally, difference_of, long_id_of}
use Rattle.crmf.specs.steps.grammar.Codes as codes
use Rattle.crmf.specs.meaning.Notation.{Mark, both, alone, mark_of, detail_of}
use Rattle.crmf.specs.steps.grammar.Lines.{Line}
use Rattle.crmf.specs.steps.grammar.Packed.{mark_code}
use Rattle.crmf.specs.steps.explain.Walk.{line, with_form, with_long_id, rows_of_kind, with_element}
use Rattle.crmf.proofs.theorems.lines.WordFields.{computed, at_mark}

-- a difference's number is below 8
abbrev small : Mark → Bool
small both = true
small (alone e d detail) = ltb d 8

-- at every element in a line's form
small_at : (k : ℕ) (c : List ℕ) → small (mark_of (line k).marking c) ≡ true
unfolding computed
small_at = at_mark small refl refl

-- a mark is noted by the edition and the difference of its code
marked : (m : Mark) (code p : ℕ) (s : Tally) → small m ≡ true → mark_code m ≡ code → with_form m p s ≡ with_form (alone (code / codes.edition) (code % codes.edition) (detail_of m)) p s
unfolding mark_code with_form
marked both code p s h coded = rw (sym coded)
marked (alone e d detail) code p s h coded =
    let l : d < 8 = ltb-true d 8 h in
    let high : e ≡ code / codes.edition = omega arith in
    let low : d ≡ code % codes.edition = omega arith in
    ap₂ (λ (e' d' : ℕ). with_form (alone e' d' detail) p s) high low

-- a difference's number is above 0
abbrev numbered : Mark → Bool
numbered both = true
numbered (alone e d detail) = ltb 0 d

-- at every element in a line's form
numbered_at : (k : ℕ) (c : List ℕ) → numbered (mark_of (line k).marking c) ≡ true
unfolding computed
numbered_at = at_mark numbered refl refl

-- the code of an edition's own form holds a difference's number
pub own_number : (k code e : ℕ) (c : List ℕ) (b : Bool) → mark_code (mark_of (line k).marking c) ≡ code → 0 < e → (eqb (code / codes.edition) e && b) ≡ true
    → 0 < code % codes.edition
unfolding mark_code
own_number k code e c b coded some test = go (mark_of (line k).marking c) (numbered_at k c) (small_at k c) coded
  where
    holds : (x y : Bool) → (x && y) ≡ true → x ≡ true
    holds true y t = refl
    holds false y t = absurd (false≢true t)

    own : code / codes.edition ≡ e
    own = eqb-true _ e (holds (eqb (code / codes.edition) e) b test)

    go : (m : Mark) → numbered m ≡ true → small m ≡ true → mark_code m ≡ code → 0 < code % codes.edition
    go both n h z = absurd (omega (arith, own, some, z))
    go (alone edition d detail) n h z =
        let low : 0 < d = ltb-true 0 d n in
        let high : d < 8 = ltb-true d 8 h in
        omega (arith, low, high, z)

-- a test of the definition is the code's, where one part of it is
pub tested : (x y b t : Bool) → y ≡ b → (x && b) ≡ t → (x && y) ≡ t
tested x y b t same test = ap (λ (z : Bool). x && z) same ∙ test

-- no form was met, and no long certReqId, where the number is 0
pub no_form : (o : Option Form) (b : Bool) → is_some o ≡ not b → eqb (difference_of o).number 0 ≡ b
no_form None true e = refl
no_form None false e = absurd (cc)
no_form (Some d) true e = absurd (cc)
no_form (Some d) false e = ne_eqb d.number 0 (λ z. omega (arith, d.some, z))

pub no_long : (o : Option Long) (b : Bool) → is_some o ≡ not b → eqb (long_id_of o).whole 0 ≡ b
no_long None true e = refl
no_long None false e = absurd (cc)
no_long (Some d) true e = absurd (cc)
no_long (Some d) false e = ne_eqb d.whole 0 (λ z. omega (arith, d.some, z))

-- what is noted, by the tests of the edition and of what was met before
module _ (k code p : ℕ) (c : List ℕ) (s : Tally) (coded : mark_code (mark_of (line k).marking c) ≡ code) where
  by_code : with_form (mark_of (line k).marking c) p s ≡ with_form (alone (code / codes.edition) (code % codes.edition) (detail_of (mark_of (line k).marking c))) p s
  by_code = marked (mark_of (line k).marking c) code p s (small_at k c) coded

  pub met_one : (eqb (code / codes.edition) 1 && eqb s.one.number 0) ≡ true
      → with_form (mark_of (line k).marking c) p s ≡ record { count = s.count; one = record { number = code % codes.edition; place = p }; two = s.two; long = s.long }
  unfolding with_form
  met_one t = by_code ∙ rw (with_form, t)

  pub met_two : (eqb (code / codes.edition) 1 && eqb s.one.number 0) ≡ false → (eqb (code / codes.edition) 2 && eqb s.two.number 0) ≡ true
      → with_form (mark_of (line k).marking c) p s ≡ record { count = s.count; one = s.one; two = record { number = code % codes.edition; place = p }; long = s.long }
  unfolding with_form
  met_two f t = by_code ∙ rw (with_form, f) (rw t)

  pub met_none : (eqb (code / codes.edition) 1 && eqb s.one.number 0) ≡ false → (eqb (code / codes.edition) 2 && eqb s.two.number 0) ≡ false
      → with_form (mark_of (line k).marking c) p s ≡ s
  unfolding with_form
  met_none f t = by_code ∙ rw (with_form, f) (rw t)

-- what is met with an element: what is noted, with a long certReqId and the sum of the rows
pub met_with : (x : Line) (c : List ℕ) (p w : ℕ) (s m r : Tally) (n a b : ℕ) → m ≡ with_form (mark_of x.marking c) p s → r ≡ with_long_id x.kind p w m → n ≡ r.count + a + b
    → a ≡ rows_of_kind x.item → b ≡ rows_of_kind x.kind → record { count = n; one = r.one; two = r.two; long = r.long } ≡ with_element x c p w s
unfolding with_element
met_with x c p w s m r n a b noting longer sum item kind =
    let total : n ≡ r.count + (rows_of_kind x.item + rows_of_kind x.kind) = omega arith in
    let is : r ≡ with_long_id x.kind p w (with_form (mark_of x.marking c) p s) = longer ∙ ap (with_long_id x.kind p w) noting in
    rw (total) (rw is)
