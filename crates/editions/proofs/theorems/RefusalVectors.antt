-- Worked refusals as vectors of `Answers` and, with request A9's detail, of `Reason`. What is computed is what the relations say. Assumes nothing.
use Prim.Native.Nat.{ℕ}
use mathlib.Core.Path.{◌≡◌, refl, ap}
use mathlib.Core.Bool.{true}
use mathlib.Core.List.{List}
use mathlib.Core.Option.{bind}
use lib.Dec.{ltb, leb}
use lib.ListN.{length}
use borrow.Author.Tests.{ltb-true, leb-true}
use Rattle.der.specs.examples.Each.{Each, ◌&◌}
use Rattle.der.specs.meaning.Identifier.{tag_number, constructed, allowed}
use Rattle.der.specs.meaning.Length.{value_from, shortest, long_form, length_of, base256}
use Rattle.der.specs.steps.Header.{sized_by, head_of}
use Rattle.der.specs.steps.Utf8Classes.{class_of, leads, tails, lowest, highest, utf8_from, utf8}
use Rattle.der.specs.meaning.Content.{boolean, null, integer, bit_string, last_of, unpadded, object_identifier}
use Rattle.der.specs.steps.ContentTest.{holds}
use Rattle.der.specs.steps.Span.{span_by, span_of}
use Rattle.der.specs.steps.Order.{descends, ascends_from, ascends, closes}
use Rattle.der.specs.steps.Explain.{list_of, by_rule, after_inside, element_of, walk_at}
use Rattle.der.specs.steps.Reading.{given, read, tree_of, tree, nothing_at}
use Rattle.time.specs.meaning.Calendar.{leap, month_days, days_in, total, days_before_year, days_before_month, is_day, is_real, days_before, seconds, moment}
use Rattle.time.specs.meaning.Time.{digit, pair_at, date_at, century, utc_date, generalized_date, utc_moment, generalized_moment, time_moment}
use Rattle.time.specs.meaning.Validity.{is_short, element_moment, shown_moment, first_element, further_elements, in_order, forwards}
use Rattle.crmf.specs.meaning.Value.{is_empty, is_up_to, number, is_two, is_shown, keeps, type_number, selected}
use Rattle.crmf.specs.meaning.Lists.{same}
use Rattle.crmf.specs.meaning.Notation.{among, named, order}
use Rattle.crmf.specs.meaning.Grammar.{content}
use Rattle.crmf.specs.steps.grammar.Lines.{part_size, size, starts_from, start, inside_line, pass_of, form_lines, next_line, way_line, part_lines, container_lines, lines_from, lines}
use Rattle.crmf.specs.steps.explain.Walk.{line, find_line_in, find_line, closed_in, closed, judged, with_form, with_long_id, with_element, walk, empty_tally}
use Rattle.crmf.specs.steps.explain.LongIds.{first_long}
use Rattle.crmf.specs.steps.rows.Fill.{goes, rows_from, rows_of_input}
use Rattle.editions.specs.meaning.Answer.{Answer}
use Rattle.editions.specs.meaning.Answers.{Answers, Reason}
use Rattle.editions.specs.steps.Reading.{batch_answer, answer}
use Rattle.editions.specs.examples.Refusals.{Refusal, Refused, Answered, explained, templates, validities, told}
use Rattle.editions.proofs.theorems.AnswersExactly.{answers_exactly, reason_of, reason_related}
use Rattle.editions.proofs.theorems.OctetVectors.{are_octets, test_octets, each_of}

-- the octets of a batch that is written as a number
abbrev octets_of : Refused → List ℕ
octets_of x = base256 130 x.octets

-- what is answered, by number and place
abbrev Told : ℕ → List ℕ → Refusal → Type 0
Told e s r = Answers e s r.number r.place 0

-- and why, with the detail
abbrev Explained : ℕ → List ℕ → Refusal → Type 0
Explained e s r = Told e s r × Reason e s r.number r.place r.detail

-- the octets are octets, and the answer is computed
abbrev Computed : ℕ → List ℕ → Refusal → Type 0
Computed e s r = (are_octets s ≡ true) × (answer e s ≡ record { number = r.number; place = r.place; count = 0 })

-- and so is the reason
abbrev Reasoned : ℕ → List ℕ → Refusal → Type 0
Reasoned e s r = (leb (length s) 65535 ≡ true) × (ltb 0 r.number ≡ true) × (reason_of e s ≡ (r.number, r.place, r.detail))

abbrev Both : (ℕ → List ℕ → Refusal → Type 0) → Refused → Type 0
Both P x = P 1 (octets_of x) x.one × P 2 (octets_of x) x.two

told_computed : (e : ℕ) (s : List ℕ) (r : Refusal) → Computed e s r → Told e s r
told_computed e s r (octets, is) = (answers_exactly e s (test_octets s octets) r.number r.place 0).1 is

explained_computed : (e : ℕ) (s : List ℕ) (r : Refusal) → Computed e s r × Reasoned e s r → Explained e s r
explained_computed e s r ((octets, is), (short, some, reason)) = (
  told_computed e s r (octets, is),
  reason_related e s (test_octets s octets) (leb-true _ _ short) r.number r.place r.detail (ap (λ (a : Answer). a.number) is) (ltb-true 0 r.number some) reason,
)

computed_told : Each (Both Computed) told
unfolding tag_number constructed allowed value_from shortest long_form length_of sized_by head_of
    class_of leads tails lowest highest utf8_from utf8 boolean null integer bit_string last_of unpadded object_identifier holds list_of by_rule closes after_inside element_of walk_at
    nothing_at given read tree_of tree same is_empty is_up_to number is_two keeps type_number selected among named order content
    part_size size starts_from start inside_line pass_of form_lines next_line way_line part_lines container_lines lines_from lines
    line find_line_in find_line closed_in closed judged with_form with_long_id with_element walk empty_tally first_long goes rows_from rows_of_input
    batch_answer answer are_octets base256
computed_told = ((refl, refl), (refl, refl)) & ((refl, refl), (refl, refl)) & ((refl, refl), (refl, refl)) & ((refl, refl), (refl, refl)) & ((refl, refl), (refl, refl)) & ((refl, refl), (refl, refl)) & tt

computed_explained : Each (Both (λ e s r. Computed e s r × Reasoned e s r)) explained
unfolding tag_number constructed allowed value_from shortest long_form length_of sized_by head_of
    class_of leads tails lowest highest utf8_from utf8 boolean null integer bit_string last_of unpadded object_identifier holds list_of by_rule span_by span_of descends ascends_from ascends closes after_inside element_of walk_at
    nothing_at given read tree_of tree same is_empty is_up_to number is_two keeps leap month_days days_in total days_before_year days_before_month is_day is_real days_before seconds moment
    digit pair_at date_at century utc_date generalized_date utc_moment generalized_moment time_moment is_short element_moment shown_moment first_element further_elements in_order forwards is_shown bind type_number selected among named order content
    part_size size starts_from start inside_line pass_of form_lines next_line way_line part_lines container_lines lines_from lines
    line find_line_in find_line closed_in closed judged with_form with_long_id with_element walk empty_tally first_long goes rows_from rows_of_input
    batch_answer answer are_octets base256 reason_of
computed_explained =
    (((refl, refl), (refl, refl, refl)), ((refl, refl), (refl, refl, refl))) & (((refl, refl), (refl, refl, refl)), ((refl, refl), (refl, refl, refl)))
    & (((refl, refl), (refl, refl, refl)), ((refl, refl), (refl, refl, refl))) & (((refl, refl), (refl, refl, refl)), ((refl, refl), (refl, refl, refl)))
    & (((refl, refl), (refl, refl, refl)), ((refl, refl), (refl, refl, refl))) & (((refl, refl), (refl, refl, refl)), ((refl, refl), (refl, refl, refl)))
    & (((refl, refl), (refl, refl, refl)), ((refl, refl), (refl, refl, refl))) & (((refl, refl), (refl, refl, refl)), ((refl, refl), (refl, refl, refl)))
    & (((refl, refl), (refl, refl, refl)), ((refl, refl), (refl, refl, refl))) & (((refl, refl), (refl, refl, refl)), ((refl, refl), (refl, refl, refl)))
    & (((refl, refl), (refl, refl, refl)), ((refl, refl), (refl, refl, refl))) & (((refl, refl), (refl, refl, refl)), ((refl, refl), (refl, refl, refl)))
    & (((refl, refl), (refl, refl, refl)), ((refl, refl), (refl, refl, refl))) & (((refl, refl), (refl, refl, refl)), ((refl, refl), (refl, refl, refl)))
    & (((refl, refl), (refl, refl, refl)), ((refl, refl), (refl, refl, refl))) & (((refl, refl), (refl, refl, refl)), ((refl, refl), (refl, refl, refl)))
    & (((refl, refl), (refl, refl, refl)), ((refl, refl), (refl, refl, refl))) & (((refl, refl), (refl, refl, refl)), ((refl, refl), (refl, refl, refl)))
    & (((refl, refl), (refl, refl, refl)), ((refl, refl), (refl, refl, refl))) & (((refl, refl), (refl, refl, refl)), ((refl, refl), (refl, refl, refl)))
    & (((refl, refl), (refl, refl, refl)), ((refl, refl), (refl, refl, refl))) & (((refl, refl), (refl, refl, refl)), ((refl, refl), (refl, refl, refl)))
    & (((refl, refl), (refl, refl, refl)), ((refl, refl), (refl, refl, refl))) & (((refl, refl), (refl, refl, refl)), ((refl, refl), (refl, refl, refl)))
    & (((refl, refl), (refl, refl, refl)), ((refl, refl), (refl, refl, refl))) & (((refl, refl), (refl, refl, refl)), ((refl, refl), (refl, refl, refl)))
    & (((refl, refl), (refl, refl, refl)), ((refl, refl), (refl, refl, refl))) & (((refl, refl), (refl, refl, refl)), ((refl, refl), (refl, refl, refl)))
    & (((refl, refl), (refl, refl, refl)), ((refl, refl), (refl, refl, refl))) & (((refl, refl), (refl, refl, refl)), ((refl, refl), (refl, refl, refl)))
    & (((refl, refl), (refl, refl, refl)), ((refl, refl), (refl, refl, refl))) & (((refl, refl), (refl, refl, refl)), ((refl, refl), (refl, refl, refl)))
    & (((refl, refl), (refl, refl, refl)), ((refl, refl), (refl, refl, refl))) & (((refl, refl), (refl, refl, refl)), ((refl, refl), (refl, refl, refl)))
    & (((refl, refl), (refl, refl, refl)), ((refl, refl), (refl, refl, refl))) & (((refl, refl), (refl, refl, refl)), ((refl, refl), (refl, refl, refl)))
    & (((refl, refl), (refl, refl, refl)), ((refl, refl), (refl, refl, refl))) & (((refl, refl), (refl, refl, refl)), ((refl, refl), (refl, refl, refl)))
    & (((refl, refl), (refl, refl, refl)), ((refl, refl), (refl, refl, refl))) & (((refl, refl), (refl, refl, refl)), ((refl, refl), (refl, refl, refl)))
    & (((refl, refl), (refl, refl, refl)), ((refl, refl), (refl, refl, refl))) & (((refl, refl), (refl, refl, refl)), ((refl, refl), (refl, refl, refl)))
    & tt

-- Every refusal of the list is answered by its number and place, for the reason that its detail names.
pub refusals_explained : Each (Both Explained) explained
refusals_explained =
    each_of (Both (λ e s r. Computed e s r × Reasoned e s r)) (Both Explained)
    (λ x (one, two). (explained_computed 1 (octets_of x) x.one one, explained_computed 2 (octets_of x) x.two two)) explained computed_explained

-- And so is every other.
pub refusals_told : Each (Both Told) told
refusals_told =
    each_of (Both Computed) (Both Told) (λ x (one, two). (told_computed 1 (octets_of x) x.one one, told_computed 2 (octets_of x) x.two two)) told computed_told

-- what both editions answer to a batch that edition 1 accepts
abbrev AnsweredSo : Answered → Type 0
AnsweredSo x = let s = base256 130 x.octets in Answers 1 s 0 0 x.rows × Answers 2 s x.number x.place x.count

-- the octets are octets, and the answers are computed
abbrev AnsweredComputed : Answered → Type 0
AnsweredComputed x =
    let s = base256 130 x.octets in
    (are_octets s ≡ true)
    × (answer 1 s ≡ record { number = 0; place = 0; count = x.rows })
    × (answer 2 s ≡ record { number = x.number; place = x.place; count = x.count })

computed_templates : Each AnsweredComputed templates
unfolding tag_number constructed allowed value_from shortest long_form length_of sized_by head_of
    boolean null integer bit_string last_of unpadded object_identifier holds list_of by_rule closes after_inside element_of walk_at
    nothing_at given read tree_of tree same is_empty is_up_to number is_two keeps type_number selected among named order content
    part_size size starts_from start inside_line pass_of form_lines next_line way_line part_lines container_lines lines_from lines
    line find_line_in find_line closed_in closed judged with_form with_long_id with_element walk empty_tally first_long goes rows_from rows_of_input
    batch_answer answer are_octets base256
computed_templates =
    (refl, refl, refl) & (refl, refl, refl) & (refl, refl, refl) & (refl, refl, refl) & (refl, refl, refl) & (refl, refl, refl) & (refl, refl, refl)
    & (refl, refl, refl)
    & tt

computed_validities : Each AnsweredComputed validities
unfolding tag_number constructed allowed value_from shortest long_form length_of sized_by head_of
    boolean null integer bit_string last_of unpadded object_identifier holds list_of by_rule closes after_inside element_of walk_at
    nothing_at given read tree_of tree same is_empty is_up_to number is_two keeps leap month_days days_in total days_before_year days_before_month is_day is_real days_before seconds moment
    digit pair_at date_at century utc_date generalized_date utc_moment generalized_moment time_moment is_short element_moment shown_moment first_element further_elements in_order forwards is_shown bind type_number selected among named order content
    part_size size starts_from start inside_line pass_of form_lines next_line way_line part_lines container_lines lines_from lines
    line find_line_in find_line closed_in closed judged with_form with_long_id with_element walk empty_tally first_long goes rows_from rows_of_input
    batch_answer answer are_octets base256
computed_validities = (refl, refl, refl) & (refl, refl, refl) & (refl, refl, refl) & (refl, refl, refl) & tt

answered_computed : (x : Answered) → AnsweredComputed x → AnsweredSo x
answered_computed x (octets, one, two) =
    let s = base256 130 x.octets in
    ((answers_exactly 1 s (test_octets s octets) 0 0 x.rows).1 one, (answers_exactly 2 s (test_octets s octets) x.number x.place x.count).1 two)

-- Each batch of the lists that edition 1 accepts is answered so in both editions.
pub templates_answered : Each AnsweredSo templates
templates_answered = each_of AnsweredComputed AnsweredSo answered_computed templates computed_templates

pub validities_answered : Each AnsweredSo validities
validities_answered = each_of AnsweredComputed AnsweredSo answered_computed validities computed_validities
