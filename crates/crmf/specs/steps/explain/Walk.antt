-- The walk of document 01 over an element tree (SPECIFICATION 3.1): parts left to right, insides first, a part chosen by identifier alone.
-- Assumes nothing.
use Rattle.std.specs.Prelude.{ℕ, suc, ◌+◌, Bool, true, false, ◌&&◌, List, [], ◌∷◌, ◌++◌, leb, eqb, length, get_or, drop, Option, Some, None, Result, Ok, Err}
use Rattle.std.proofs.Math.Option.{some as present, none as absent}
use Rattle.der.specs.meaning.Tree.{Tree, none, element}
use Rattle.der.specs.meaning.Bounds.{longest}
use Rattle.der.specs.steps.Reading.{tree}
use Rattle.crmf.specs.declared.explain.Break.{Break}
use Rattle.crmf.specs.declared.explain.tally.Tally.{Tally as Kept}
use Rattle.crmf.specs.steps.explain.Tally.{Tally, tally_of}
use Rattle.crmf.specs.meaning.Kinds as kinds
use Rattle.crmf.specs.meaning.Value.{keeps, Selector, action, method, control_type, info_type, selected}
use Rattle.crmf.specs.meaning.Notation.{named, Mark, both, alone, mark_of, detail_of, Top}
use Rattle.crmf.specs.meaning.Language.{readable, Occurrence, occurs}
pub use Rattle.crmf.specs.meaning.Value.{rule_detail}
use Rattle.crmf.specs.meaning.Rows.{long_id}
use Rattle.crmf.specs.steps.grammar.Lines.{Judge, keep, choose, Pass, ends, needed, another, over, Line, end_line, lines, start}

-- What a walk over a container answers: all of it is in the grammar; or the place of the first break, request A9's detail, and the tally before it.
pub data Walked : Type 0 where
  Passed : Tally → Walked
  Broken : (place detail : ℕ) → Tally → Walked

-- what the code's result answers
abbrev pub walked_of : Result Kept Break → Walked
walked_of (Ok s) = Passed (tally_of s)
walked_of (Err b) = Broken b.place b.detail (tally_of b.tally)

-- the line of a number
unfoldable pub line : ℕ → Line
line k = get_or lines k end_line

-- whether the search goes on after a line whose form the element isn't in
abbrev pub walk_goes_on : Pass → Bool
walk_goes_on ends = false
walk_goes_on needed = false
walk_goes_on another = true
walk_goes_on over = true

-- what the search for an element's line finds: the line's number, if there is one
abbrev pub FoundLine : Type 0
FoundLine = Option ℕ

-- what judging a value comes to: the line to go on with, or the detail of the rule that it breaks
abbrev pub Onward : Type 0
Onward = Result ℕ ℕ

-- "the element that fits no part it can reach, a needed part never being passed over": the first line from k on that has the identifier
unfoldable pub find_line_in : List Line → ℕ → ℕ → FoundLine
find_line_in [] k id = None
find_line_in (x ∷ xs) k id =
    elim (named x.identifiers id) [ true ↦ Some k | false ↦ elim (walk_goes_on x.pass) [ true ↦ find_line_in xs (suc k) id | false ↦ None ] ]

unfoldable pub find_line : ℕ → ℕ → FoundLine
find_line k id = find_line_in (drop k lines) k id

-- "the container where a needed part is missing at its end": whether a container may end at a line
unfoldable pub closed_in : List Line → Bool
closed_in [] = true
closed_in (x ∷ xs) = elim x.pass [ ends ↦ true | needed ↦ false | another ↦ false | over ↦ closed_in xs ]

unfoldable pub closed : ℕ → Bool
closed k = closed_in (drop k lines)

-- how many ways a selector has
abbrev pub ways : Selector → ℕ
ways action = 2
ways method = 4
ways control_type = 7
ways info_type = 3

-- what is judged after an element's inside: the line to go on with, or the detail of the rule that its value breaks
unfoldable pub judged : Judge → ℕ → List ℕ → Onward
judged (keep r) next c = elim (keeps r c) [ true ↦ Ok next | false ↦ Err (rule_detail r c) ]
judged (choose s) next c = elim (selected s c) [ present w ↦ Ok (line (next + w)).next | absent ↦ Err 3 ]

-- how many rows a kind gives: 0 for none, 1 for any other
abbrev pub rows_of_kind : ℕ → ℕ
rows_of_kind k = elim (eqb k kinds.none) [ true ↦ 0 | false ↦ 1 ]

-- how many rows an element in a line's form gives by itself: its item's and its own
abbrev pub rows_by : Line → ℕ
rows_by x = rows_of_kind x.item + rows_of_kind x.kind

-- the tally after an element at a place in a form with a mark: the first of each edition stays
unfoldable pub with_form : Mark → ℕ → Tally → Tally
with_form both p s = s
with_form (alone e d detail) p s =
    elim (eqb e 1 && eqb s.one.number 0) [
      | true ↦ record { count = s.count; one = record { number = d; place = p }; two = s.two; long = s.long }
      | false ↦ elim (eqb e 2 && eqb s.two.number 0) [
        | true ↦ record { count = s.count; one = s.one; two = record { number = d; place = p }; long = s.long }
        | false ↦ s
      ]
    ]

-- the tally after an element with a kind, a place and a whole length: the first long certReqId stays
unfoldable pub with_long_id : ℕ → ℕ → ℕ → Tally → Tally
with_long_id kind p whole s =
    elim (long_id kind whole && eqb s.long.whole 0) [
      | true ↦ record { count = s.count; one = s.one; two = s.two; long = record { whole = whole; place = p } }
      | false ↦ s
    ]

-- the tally with n more rows
abbrev pub with_rows : ℕ → Tally → Tally
with_rows n s = record { count = s.count + n; one = s.one; two = s.two; long = s.long }

-- the tally after an element with its content octets, a place and a whole length, in a line's form
unfoldable pub with_element : Line → List ℕ → ℕ → ℕ → Tally → Tally
with_element x c p whole s = with_rows (rows_by x) (with_long_id x.kind p whole (with_form (mark_of x.marking c) p s))

-- The walk over the elements of a container from a line on (SPECIFICATION 3.1). The container's own place is `around`, and R says which
-- editions' own forms may be read. An element's line is chosen by its identifier alone, its inside is walked first, then its value is judged.
unfoldable pub walk : (ℕ → Bool) → Tally → ℕ → ℕ → Tree → Walked
walk R s k around none = elim (closed k) [ true ↦ Passed s | false ↦ Broken around 2 s ]
walk R s k around (element id first whole c inside rest) =
    elim (find_line k id) [
      | None ↦ Broken first 1 s
      | Some n ↦
          let x = line n in
          let m = with_element x c first whole s in
          elim (readable R (mark_of x.marking c)) [
            | false ↦ Broken first (detail_of (mark_of x.marking c)) s
            | true ↦
                let within : Walked = elim (eqb x.inside 0) [ true ↦ Passed m | false ↦ walk R m x.inside first inside ] in
                elim within [
                  | Broken q d r ↦ Broken q d r
                  | Passed r ↦ elim (judged x.judge x.next c) [ Err d ↦ Broken first d r | Ok next ↦ walk R r next around rest ]
                ]
          ]
    ]

-- whether the walk that reads every form passes
unfoldable pub passes : ℕ → Tree → Bool
passes k none = closed k
passes k (element id first whole c inside rest) =
    elim (find_line k id) [
      | None ↦ false
      | Some n ↦
          let x = line n in
          let within : Bool = elim (eqb x.inside 0) [ true ↦ true | false ↦ passes x.inside inside ] in
          elim within [ false ↦ false | true ↦ elim (judged x.judge x.next c) [ Err d ↦ false | Ok next ↦ passes next rest ] ]
    ]

-- the elements in a form of one edition alone that the walk that reads every form meets, up to its first break
unfoldable pub trail : ℕ → Tree → List Occurrence
trail k none = []
trail k (element id first whole c inside rest) =
    elim (find_line k id) [
      | None ↦ []
      | Some n ↦
          let x = line n in
          let within : List Occurrence = elim (eqb x.inside 0) [ true ↦ [] | false ↦ trail x.inside inside ] in
          let whole : Bool = elim (eqb x.inside 0) [ true ↦ true | false ↦ passes x.inside inside ] in
          let onward : List Occurrence = elim (judged x.judge x.next c) [ Err d ↦ [] | Ok next ↦ trail next rest ] in
          occurs (mark_of x.marking c) first ++ (within ++ (elim whole [ false ↦ [] | true ↦ onward ]))
    ]

-- every form may be read
abbrev pub every : ℕ → Bool
every e = true

-- the tally before the first element
unfoldable pub empty_tally : Tally
empty_tally =
    record { count = 0; one = record { number = 0; place = 0 }; two = record { number = 0; place = 0 }; long = record { whole = 0; place = 0 } }

-- The walk over a whole input as one batch, in which every form is read. An input that is too long breaks at 0.
unfoldable pub count_of : List ℕ → Walked
count_of s = elim (leb (length s) longest) [ true ↦ walk every empty_tally (start Top) 0 (tree 0 s) | false ↦ Broken 0 1 empty_tally ]
