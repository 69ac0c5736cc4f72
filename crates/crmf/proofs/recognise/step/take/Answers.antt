-- `crmf::recognise::step::take` meets its contract: an action says what its line is, and each way out is what such a line says. Assumes nothing.
use Prim.Native.Nat.{ℕ, ◌+◌, ◌≤◌, ◌<◌}
use mathlib.Core.Path.{◌≡◌, refl, sym, ap, subst, ◌∙◌}
use mathlib.Core.Bool.{Bool, true, false, ◌&&◌, false≢true}
use mathlib.Core.List.{List}
use native.Mathlib.Omega.{arith}
use lib.Arith.{lt_of_le-ne}
use lib.Dec.{eqb, ltb, lit≤}
use lib.ListN.{get_or}
use Rattle.der.specs.steps.Order.{closes}
use Rattle.der.proofs.Laws.{holds_integer, holds_bit_string, holds_object_identifier, holds_utf8}
use Rattle.std.specs.Prelude.{Option, Some}
use Rattle.crmf.specs.declared.recognise.step.Visit.{Visit}
use Rattle.crmf.specs.declared.recognise.step.Visit.TheVariants.{Skip, Descend}
use Rattle.crmf.specs.steps.grammar.Codes as codes
use Rattle.crmf.specs.meaning.Value.{keeps}
use Rattle.crmf.specs.meaning.Notation.{Identifiers, named, Name, AlgId, Attribute, Rdn, Spki, OneName}
use Rattle.crmf.specs.steps.grammar.Lines.{start}
use Rattle.crmf.specs.steps.grammar.Packed.{packed, next_field, action_of}
use Rattle.crmf.specs.steps.explain.Walk.{line}
use Rattle.crmf.specs.steps.recognise.Inner.{VisitJustified, RowlessFrom}
use Rattle.crmf.proofs.theorems.lines.WordFields.{next_at, action_small}
use Rattle.crmf.proofs.theorems.recognise.Actions.{nothing_line, free_line, object_line, integer_line, id_line, id_kind, bits_line, text_line, any_line, inside_line_lem, inside_closes}
use Rattle.crmf.proofs.theorems.recognise.Actions.{Opens, algorithm_line, attribute_line, part_line, key_line, name_line}
use Rattle.crmf.proofs.theorems.recognise.StepWays.{asked_marking, stands_at, skip_untyped, skip_typed, skip_asked, skip_id, skip_any, descend_lines, skip_small, skip_set}
use Rattle.crmf.proofs.recognise.step.take.Goals as goal
use Rattle.crmf.proofs.recognise.step.take.Goals.{After-action_of, In_default}

-- after the reading of the action
module _ (c : After-action_of) where
  abbrev word : ℕ
  word = c.args.word

  abbrev left : ℕ
  left = c.args.left

  abbrev content : List ℕ
  content = c.args.content.now

  -- it is the line's, and so is the line to go on with
  action : (k a : ℕ) → word ≡ get_or packed k 0 → c.action_of.result ≡ a → action_of (line k) ≡ a
  action k a e is = sym (c.action_of.ensures k e) ∙ is

  next : (k : ℕ) → word ≡ get_or packed k 0 → c.next_of-next.result ≡ (line k).next
  next k e = c.next_of-next.ensures ∙ ap next_field e ∙ next_at k

  -- the element's identifier
  abbrev id : ℕ
  id = c.args.id

  -- unless its action is a SET's, an element with lines inside has no rule at its end
  unasked : (k a : ℕ) → word ≡ get_or packed k 0 → c.action_of.result ≡ a → eqb a codes.take_rdn ≡ false → named (line k).identifiers id ≡ true
      → eqb (line k).inside 0 ≡ false → closes id content ≡ true
  unasked k a e is other fits lined =
      inside_closes k id fits lined (ap (λ (x : ℕ). eqb x codes.take_rdn) (action k a e is) ∙ other) content

  -- an element that is a container, whose content may have been checked
  passed : (k whole a : ℕ) → word ≡ get_or packed k 0 → c.action_of.result ≡ a → eqb a codes.take_cert_req_id ≡ false → eqb a codes.take_rdn ≡ false
      → named (line k).identifiers id ≡ true → (n : Name) → (action_of (line k) ≡ a → Opens k n) → (levels least : ℕ) → levels ≤ least + 1 → (r : Bool) → (r ≡ true → RowlessFrom (start n) levels content)
      → (s : Option Visit) → s ≡ elim (ltb least left && r) [ true ↦ Some (Skip c.next_of-next.result) | false ↦ Some (Descend c.next_of-next.result) ]
      → VisitJustified c.args.edition k whole left id content s
  passed k whole a e is other plain fits n line-opens levels least enough r checked s same =
      let acts = action k a e is in
      let x = line-opens acts in
      subst (VisitJustified _ k whole left _ content) (sym same)
      (skip_small _ k whole left _ content (stands_at _ k whole a _ x.1.marking acts other) _ (next k e) n levels least x enough r checked
      (unasked k a e is plain fits x.1.free))

pub returns-in-1 : goal.returns-in-1
returns-in-1 c k whole e fits sized =
    let a = action (goal.at.returns-in-1 c).After-action_of k codes.take_unseen e c.in-1.is in
    let (i, x, free) = free_line k a in
    skip_untyped _ k whole _ _ _ (stands_at _ k whole codes.take_unseen _ x.marking a refl) _ (next (goal.at.returns-in-1 c).After-action_of k e) fits x free

pub returns-in-2 : goal.returns-in-2
returns-in-2 c k whole e fits sized =
    let d = (goal.at.returns-in-2 c).After-action_of in
    let a = action d k codes.take_object_identifier e c.in-2.is in
    let x = object_line k a in
    subst (VisitJustified _ k whole _ _ _) (sym c.skip_or_refuse.ensures)
    (skip_typed _ k whole _ _ _ (stands_at _ k whole codes.take_object_identifier _ x.marking a refl) _ (next d k e) fits x _ (holds_object_identifier _ ∙ sym c.object_identifier.ensures))

pub returns-in-3 : goal.returns-in-3
unfolding keeps
returns-in-3 c k whole e fits sized =
    let d = (goal.at.returns-in-3 c).After-action_of in
    let a = action d k codes.take_integer e c.in-3.is in
    let x = integer_line k a in
    let kept = sym c.integer.ensures in
    subst (VisitJustified _ k whole _ _ _) (sym c.skip_or_refuse-in-3.ensures)
    (skip_asked _ k whole _ _ _ (stands_at _ k whole codes.take_integer _ (asked_marking x) a refl) _ (next d k e) fits x _ (holds_integer _ ∙ kept) kept)

pub returns-in-4 : goal.returns-in-4
returns-in-4 c k whole e fits sized =
    let d = (goal.at.returns-in-4 c).After-action_of in
    let a = action d k codes.take_cert_req_id e c.in-4.is in
    subst (VisitJustified _ k whole _ _ _) (sym c.skip_or_refuse-in-4.ensures)
    (skip_id _ k whole _ _ _ _ (next d k e) a (id_line k a) fits sized _ _ refl (sym c.integer-in-4.ensures))

pub returns-in-5 : goal.returns-in-5
unfolding keeps
returns-in-5 c k whole e fits sized =
    let d = (goal.at.returns-in-5 c).After-action_of in
    let a = action d k codes.take_bit_string e c.in-5.is in
    let x = bits_line k a in
    let kept = sym c.bit_string.ensures in
    subst (VisitJustified _ k whole _ _ _) (sym c.skip_or_refuse-in-5.ensures)
    (skip_asked _ k whole _ _ _ (stands_at _ k whole codes.take_bit_string _ (asked_marking x) a refl) _ (next d k e) fits x _ (holds_bit_string _ ∙ kept) kept)

pub returns-in-6 : goal.returns-in-6
returns-in-6 c k whole e fits sized =
    let d = (goal.at.returns-in-6 c).After-action_of in
    let a = action d k codes.take_utf8_string e c.in-6.is in
    let x = text_line k a in
    subst (VisitJustified _ k whole _ _ _) (sym c.skip_or_refuse-in-6.ensures)
    (skip_typed _ k whole _ _ _ (stands_at _ k whole codes.take_utf8_string _ x.marking a refl) _ (next d k e) fits x _ (holds_utf8 _ ∙ sym c.is_text.ensures))

pub returns-in-7 : goal.returns-in-7
returns-in-7 c k whole e fits sized =
    let d = (goal.at.returns-in-7 c).After-action_of in
    let a = action d k codes.take_nest e c.in-7.is in
    let x = any_line k a in
    subst (VisitJustified _ k whole _ _ _) (sym c.skip_or_refuse-in-7.ensures)
    (skip_any _ k whole _ _ _ (stands_at _ k whole codes.take_nest _ x.marking a refl) _ (next d k e) x.judge x.free _ (sym c.is_element.ensures))

pub returns-in-8 : goal.returns-in-8
returns-in-8 c k whole e fits sized =
    let d = (goal.at.returns-in-8 c).After-action_of in
    let a = action d k codes.take_inside e c.in-8.is in
    let (i, x) = inside_line_lem k a in
    descend_lines _ k whole _ _ _ (stands_at _ k whole codes.take_inside _ x.marking a refl) _ (next d k e) x
    (unasked d k codes.take_inside e c.in-8.is refl fits x.free)

pub returns-in-9 : goal.returns-in-9
returns-in-9 c k whole e fits sized =
    passed (goal.at.returns-in-9 c).After-action_of k whole codes.take_alg_id e c.in-9.is refl refl fits AlgId (algorithm_line k) 1 1 (lit≤ tt) _
    (λ t. (c.type_and_value.ensures t).0 refl) _ c.skip_or_descend.ensures

pub returns-in-10 : goal.returns-in-10
returns-in-10 c k whole e fits sized =
    passed (goal.at.returns-in-10 c).After-action_of k whole codes.take_attribute e c.in-10.is refl refl fits Attribute (attribute_line k) 1 1 (lit≤ tt) _
    (λ t. (c.type_and_value-in-10.ensures t).1 refl) _ c.skip_or_descend-in-10.ensures

pub returns-in-11 : goal.returns-in-11
returns-in-11 c k whole e fits sized =
    let d = (goal.at.returns-in-11 c).After-action_of in
    let a = action d k codes.take_rdn e c.in-11.is in
    let x = part_line k a in
    let edition = d.args.edition in
    subst (VisitJustified edition k whole (left d) (id d) (content d)) (sym c.take_set.ensures)
    (skip_set edition k whole (left d) (id d) (content d) (stands_at edition k whole codes.take_rdn _ x.1.marking a refl) _ (next d k e) Rdn 2 1 x (lit≤ tt) _
    (λ t. let (inner, ends) = c.rdn.ensures t in (inner, ends (id d))))

pub returns-in-12 : goal.returns-in-12
returns-in-12 c k whole e fits sized =
    let d = (goal.at.returns-in-12 c).After-action_of in
    let a = action d k codes.take_by_line e c.in-12.is in
    c.take_by_fields.ensures k whole e (id_kind k ∙ ap (λ (x : ℕ). eqb x codes.take_cert_req_id) a)
    (unasked d k codes.take_by_line e c.in-12.is refl fits)

pub returns-in-13 : goal.returns-in-13
returns-in-13 c k whole e fits sized =
    passed (goal.at.returns-in-13 c).After-action_of k whole codes.take_spki e c.in-13.is refl refl fits Spki (key_line k) 2 1 (lit≤ tt) _
    c.subject_public_key_info.ensures _ c.skip_or_descend-in-13.ensures

pub returns-in-14 : goal.returns-in-14
returns-in-14 c k whole e fits sized =
    passed (goal.at.returns-in-14 c).After-action_of k whole codes.take_name e c.in-14.is refl refl fits OneName (name_line k) 4 3 (lit≤ tt) _
    c.name.ensures _ c.skip_or_descend-in-14.ensures

-- what is below n + 1 and not n is below n
down : (n : ℕ) {a : ℕ} → a < n + 1 → (a ≡ n → ⊥) → a < n
down n {a} h f = lt_of_le-ne (omega (arith, h)) f

-- no action above 0 is left, from the top down
none_left : (c : In_default) → c.action_of.result < codes.take_name + 1 → c.action_of.result ≡ codes.take_nothing
none_left c h =
    let r = c.in_default.in_default-own.rest in
    let s = r.0.0.0.0.0.0.0 in
    let low = down codes.take_inside (down codes.take_alg_id (down codes.take_attribute (down codes.take_rdn (down codes.take_by_line (down codes.take_spki (down codes.take_name h r.1) r.0.1) r.0.0.1) r.0.0.0.1) r.0.0.0.0.1) r.0.0.0.0.0.1) r.0.0.0.0.0.0.1 in
    let least = down codes.take_unseen (down codes.take_object_identifier (down codes.take_integer (down codes.take_cert_req_id (down codes.take_bit_string (down codes.take_utf8_string (down codes.take_nest low s.1) s.0.1) s.0.0.1) s.0.0.0.1) s.0.0.0.0.1) s.0.0.0.0.0.1) s.0.0.0.0.0.0.1 in
    omega (arith, least)

pub returns-in_default : goal.returns-in_default
unfolding named
returns-in_default c k whole e fits sized =
    let acts = c.action_of.ensures k e in
    let zero : action_of (line k) ≡ codes.take_nothing = sym acts ∙ none_left c (rw acts (action_small k)) in
    absurd (false≢true (sym (ap (λ (i : Identifiers). named i c.args.id) (nothing_line k zero)) ∙ fits))
