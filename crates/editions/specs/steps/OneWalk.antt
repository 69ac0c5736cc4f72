-- The answer by one walk that reads every form: the forms of the opposite edition alone that it has met decide. Assumes nothing.
use Rattle.std.specs.Prelude.{ℕ, ◌*◌, true, false, Option, Some, None, eqb, leb}
use Rattle.der.specs.meaning.Refusal.{not_in_grammar, no_room_number}
use Rattle.crmf.specs.steps.explain.Tally.{Tally}
use Rattle.crmf.specs.meaning.Rows.{width}
use Rattle.editions.specs.meaning.Answer.{Answer}
use Rattle.editions.specs.meaning.Edition.{rfc2511, opposite}
use Rattle.editions.specs.steps.Reading.{refusal, accepted, eight_or_nine, long_id_or_accepted}

-- the first form of an edition alone that was met: its difference's number, 0 if there is none, and its place
abbrev pub form_of : ℕ → Tally → ℕ × ℕ
form_of e s = elim (eqb e rfc2511) [ true ↦ (s.one.number, s.one.place) | false ↦ (s.two.number, s.two.place) ]

-- the place of the first form of an edition alone that was met, if any was
abbrev pub first_form : ℕ → Tally → Option ℕ
first_form e s = let f = form_of e s in elim (eqb f.0 0) [ true ↦ None | false ↦ Some f.1 ]

-- 9 if no form of this edition alone was met, otherwise 8
abbrev pub stop_number : ℕ → ℕ
stop_number own = eight_or_nine (eqb own 0)

-- the walk passes: 9 or 8 at the opposite edition's first form, 10, or acceptance
unfoldable pub passed_answer : ℕ → Tally → Answer
passed_answer e s =
    let foreign = form_of (opposite e) s in
    elim (eqb foreign.0 0) [
      | false ↦ refusal (stop_number (form_of e s).0) foreign.1
      | true ↦ long_id_or_accepted (s.long.whole, s.long.place) s.count
    ]

-- the walk breaks: 8, at the opposite edition's first form before the break, or at the break
unfoldable pub broken_answer : ℕ → ℕ → Tally → Answer
broken_answer e p s =
    let foreign = form_of (opposite e) s in
    refusal not_in_grammar (elim (eqb foreign.0 0) [ true ↦ p | false ↦ foreign.1 ])

-- n rows in a table of `room` numbers: acceptance, or 11 if it is too short
abbrev pub shown_answer : ℕ → ℕ → Answer
shown_answer n room = elim (leb (width * n) room) [ true ↦ accepted n | false ↦ refusal no_room_number 0 ]
