-- Elements between two places, one by one: what reading the next says of those that are searched for an identifier. Assumes nothing.
use Prim.Native.Nat.{ℕ, ◌-◌, ◌≤◌, ◌<◌}
use native.Mathlib.Omega.{arith}
use mathlib.Core.Path.{◌≡◌, refl, sym, ap, ◌∙◌}
use mathlib.Core.List.{List, [], ◌∷◌}
use Rattle.std.specs.Prelude.{Some, None}
use Rattle.der.specs.declared.element.reading.Element.{Element}
use Rattle.der.specs.steps.Reading.{reading_at}
use Rattle.crmf.specs.meaning.Fields.{Field, first_with}
use Rattle.crmf.specs.steps.Fields.{fields_between, Places}
use Rattle.crmf.proofs.Laws.{field_at, fields_end, next_in_order, next_fields, first_with_none, first_with_here, first_with_next}
use Rattle.verdict.specs.declared.elements.Elements.{Elements}
use Rattle.verdict.specs.steps.Judging.{part_found}

-- what some elements are read as, and the first of them
abbrev pub fields_of : Elements → List Field
fields_of e = fields_between e.bytes.now e.at e.end

abbrev pub first_of : Elements → Element
first_of e = reading_at e.bytes.now e.at e.end

-- they lie in order
pub lie : (e : Elements) → Places e.bytes.now e.at e.end
lie e = record { order = e.order; within = e.within; short = e.short }

-- Some elements are those inside the first of others, or those after it.
abbrev pub InsideFirst : (e i : Elements) → Type 0
InsideFirst e i = (i.bytes.now ≡ e.bytes.now) × (i.at ≡ (first_of e).content) × (i.end ≡ (first_of e).end)

abbrev pub AfterFirst : (e a : Elements) → Type 0
AfterFirst e a = (a.bytes.now ≡ e.bytes.now) × (a.at ≡ (first_of e).end) × (a.end ≡ e.end)

pub fields_inside : (e i : Elements) → InsideFirst e i → fields_of i ≡ fields_between e.bytes.now (first_of e).content (first_of e).end
fields_inside e i is = rw (is.0, is.1, is.2)

pub fields_after : (e a : Elements) → AfterFirst e a → fields_of a ≡ fields_between e.bytes.now (first_of e).end e.end
fields_after e a is = rw (is.0, is.1, is.2)

module _ (e : Elements) where
  -- from the end on nothing is found
  pub find_end : (id : ℕ) → e.end ≤ e.at → None ≡ part_found (first_with (id ∷ []) (fields_of e))
  find_end id past = ap part_found (sym (ap (first_with (id ∷ [])) (fields_end e.bytes.now e.at e.end past) ∙ first_with_none (id ∷ [])))

  module _ (room : e.at < e.end) (a : Elements) (is : AfterFirst e a) where
    here : fields_of e ≡ field_at e.bytes.now e.at (first_of e) ∷ fields_of a
    here =
        next_fields e.bytes.now e.at e.end (lie e) room (first_of e) refl
        ∙ ap (λ (fs : List Field). field_at e.bytes.now e.at (first_of e) ∷ fs) (sym (fields_after e a is))

    -- what is after the first element begins after its first place
    pub find_onward : e.at < a.at
    find_onward = omega (arith, next_in_order e.bytes.now e.at e.end (lie e) room (first_of e) refl, is.1)

    -- the first element is the one that is searched for
    pub find_here : (id : ℕ) → (first_of e).identifier ≡ id
        → Some (record { from = e.at; length = a.at - e.at }) ≡ part_found (first_with (id ∷ []) (fields_of e))
    find_here id same =
        rw is.1
        (ap part_found
        (sym (ap (first_with (id ∷ [])) here ∙ first_with_here id (field_at e.bytes.now e.at (first_of e)) (fields_of a) same)))

    -- or the search goes on after it
    pub find_next : (id : ℕ) → ((first_of e).identifier ≡ id → ⊥) → first_with (id ∷ []) (fields_of a) ≡ first_with (id ∷ []) (fields_of e)
    find_next id other = sym (ap (first_with (id ∷ [])) here ∙ first_with_next id (field_at e.bytes.now e.at (first_of e)) (fields_of a) other)
