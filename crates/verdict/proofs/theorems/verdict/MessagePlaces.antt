-- A message read from place to place: what the code reads as its certReq, its template and its proof are the message's own. Assumes nothing.
use Prim.Native.Nat.{ℕ, ◌-◌, ◌<◌}
use native.Mathlib.Nat.{eq-or-lt_of_le}
use native.Mathlib.Omega.{arith}
use mathlib.Core.Path.{◌≡◌, refl, sym, ap, ap₂, subst, ◌∙◌}
use mathlib.Core.Logic.{◌⊎◌, inl, inr}
use mathlib.Core.Bool.{true}
use mathlib.Core.List.{List, [], ◌∷◌, ◌++◌}
use mathlib.Core.Option.{Option, some, none as absent}
use lib.ListN.{length}
use Rattle.der.specs.declared.element.reading.Element.{Element}
use Rattle.der.specs.meaning.Identifier.{constructed}
use Rattle.der.specs.steps.Reading.{reading_at}
use Rattle.der.proofs.Laws.{read_at_end, sequence_constructed, nothing_identifier}
use Rattle.crmf.specs.meaning.Fields.{Field, fields, listed}
use Rattle.crmf.specs.steps.Fields.{fields_between, Places}
use Rattle.crmf.specs.meaning.Notation.{among}
use Rattle.crmf.specs.meaning.Messages.{proofs, Message}
use Rattle.crmf.proofs.Laws.{field_at, fields_at, fields_begin, inside_fields, IfAny, MessageParts, listed_none, listed_some}
use Rattle.verdict.specs.declared.elements.Elements.{Elements}
use Rattle.verdict.specs.declared.verdict.Extent.{Extent}
use Rattle.verdict.specs.steps.Answer.{Verdict}
use Rattle.verdict.specs.meaning.Verdict.{has_subject_and_key}
use Rattle.verdict.specs.steps.JudgeAnswer.{verdict_on}
use Rattle.verdict.specs.steps.Judging.{part_of, proof_answer}
use Rattle.verdict.proofs.theorems.verdict.Elements.{fields_of, first_of, lie, InsideFirst, AfterFirst, fields_inside, fields_after}
use Rattle.verdict.proofs.theorems.verdict.Judging.{judged_none, judged_proof}

-- the fields inside the constructed one that is read at a place
pub inside_read : (s : List ℕ) (p : ℕ) (x : Element) (f : Field) → field_at s p x ≡ f → constructed f.identifier ≡ true
    → fields_between s x.content x.end ≡ fields f.inside
inside_read s p x f here made =
    let own : constructed x.identifier ≡ true = ap (λ (g : Field). constructed g.identifier) here ∙ made in
    sym (inside_fields s p x own) ∙ ap (λ (g : Field). fields g.inside) here

-- an element 30 is constructed
pub thirty_made : (f : Field) → f.identifier ≡ 0x30 → constructed f.identifier ≡ true
thirty_made f is = ap constructed is ∙ sequence_constructed

module _ (s : List ℕ) (at end : ℕ) (lent : Places s at end) (x : Element) (read : x ≡ reading_at s at end) where
  -- if there is a first field, it is the one that is read, and the others come after it
  pub first_read : {f : Field} {fs : List Field} → fields_between s at end ≡ f ∷ fs → (field_at s at x ≡ f) × (fields_between s x.end end ≡ fs)
  first_read same =
      let b = fields_begin s at end lent.within lent.short lent.order same in
      (ap (field_at s at) read ∙ b.here, ap (λ (y : Element). fields_between s y.end end) read ∙ b.after)

  -- if there is none, nothing is read
  pub none_read : fields_between s at end ≡ [] → x.identifier ≡ 0
  none_read none = by_room (eq-or-lt_of_le lent.order)
    where
      by_room : (at ≡ end) ⊎ (at < end) → x.identifier ≡ 0
      by_room (inl past) = ap (λ (y : Element). y.identifier) (read ∙ read_at_end s at end (omega arith)) ∙ nothing_identifier at
      by_room (inr room) =
          absurd (omega (arith, ap length (sym (fields_at s at end lent.within lent.short room) ∙ none)))

-- The verdict by the element after the certReq is the message's.
module _ (s : List ℕ) (m : Message) (parts : MessageParts m) (at end : ℕ) (lent : Places s at end) (x : Element) (read : x ≡ reading_at s at end) where
  -- what it is by an identifier
  abbrev judged_by : ℕ → Verdict
  judged_by id = proof_answer id (fields_between s x.content x.end) (has_subject_and_key m) (part_of (some m.cert_req))

  by_fields : (p q : Option Field) → m.proof ≡ p → m.reg_info ≡ q → fields_between s at end ≡ listed p ++ listed q → judged_by x.identifier ≡ verdict_on m
  unfolding proof_answer
  by_fields (some p) q proven also same =
      let here = (first_read s at end lent x read (same ∙ ap (λ (fs : List Field). fs ++ listed q) (listed_some p))).0 in
      let one : among proofs p.identifier ≡ true = subst (IfAny (λ f. among proofs f.identifier ≡ true)) proven parts.proof in
      ap (λ (f : Field). judged_by f.identifier) here
      ∙ judged_proof m p proven one (fields_between s x.content x.end) (λ made. sym (inside_read s at x p here made))
  by_fields absent (some q) lacks also same =
      let here = (first_read s at end lent x read (same ∙ ap₂ (λ (fs gs : List Field). fs ++ gs) listed_none (listed_some q))).0 in
      let thirty : q.identifier ≡ 0x30 = subst (IfAny (λ f. f.identifier ≡ 0x30)) also parts.reg_info in
      ap judged_by (ap (λ (f : Field). f.identifier) here ∙ thirty) ∙ judged_none m lacks
  by_fields absent absent lacks also same =
      let none = same ∙ ap₂ (λ (fs gs : List Field). fs ++ gs) listed_none listed_none in
      ap judged_by (none_read s at end lent x read none) ∙ judged_none m lacks

  pub proof_read : fields_between s at end ≡ listed m.proof ++ listed m.reg_info → judged_by x.identifier ≡ verdict_on m
  proof_read same = by_fields m.proof m.reg_info refl refl same

-- What is said of the first of some elements, by the fields that these are read as.
module _ (e : Elements) {f : Field} {fs : List Field} (same : fields_of e ≡ f ∷ fs) where
  first_here : (field_at e.bytes.now e.at (first_of e) ≡ f) × (fields_between e.bytes.now (first_of e).end e.end ≡ fs)
  first_here = first_read e.bytes.now e.at e.end (lie e) (first_of e) refl same

  -- the elements inside it, if it is constructed
  pub inside_first : (i : Elements) → InsideFirst e i → constructed f.identifier ≡ true → fields_of i ≡ fields f.inside
  inside_first i is made = fields_inside e i is ∙ inside_read e.bytes.now e.at (first_of e) f first_here.0 made

  module _ (a : Elements) (is : AfterFirst e a) where
    -- the elements after it
    pub after_first : fields_of a ≡ fs
    after_first = fields_after e a is ∙ first_here.1

    -- its own part of the bytes
    pub first_part : ◌≡◌ {A = Extent} (record { from = e.at; length = a.at - e.at }) (part_of (some f))
    first_part = rw is.1 (ap (λ (g : Field). part_of (some g)) first_here.0)

-- The verdict by the element after the certReq is the message's.
pub proof_split : (m : Message) → MessageParts m → (e i : Elements) → InsideFirst e i → fields_of e ≡ listed m.proof ++ listed m.reg_info
    → (id : ℕ) → id ≡ (first_of e).identifier → proof_answer id (fields_of i) (has_subject_and_key m) (part_of (some m.cert_req)) ≡ verdict_on m
proof_split m parts e i inside same id is =
    ap₂ (λ (n : ℕ) (fs : List Field). proof_answer n fs (has_subject_and_key m) (part_of (some m.cert_req))) is (fields_inside e i inside)
    ∙ proof_read e.bytes.now m parts e.at e.end (lie e) (first_of e) refl same
