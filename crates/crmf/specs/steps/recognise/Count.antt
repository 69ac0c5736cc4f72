-- What the recogniser answers: how many rows a batch has, if its nest has no fault, it is in an edition's grammar, and its certReqIds are
-- short. Assumes nothing.
use Rattle.std.specs.Prelude.{ℕ, ◌+◌, Bool, true, false, ◌&&◌, not, List, eqb, Err, None, Ok, Some, Option}
use Rattle.der.specs.meaning.Tree.{Tree, none, element}
use Rattle.der.specs.meaning.Bounds.{depth}
use Rattle.der.specs.steps.Recognise.{is_list}
use Rattle.der.specs.steps.Reading.{tree}
use Rattle.crmf.specs.meaning.Notation.{mark_of, Top}
use Rattle.crmf.specs.meaning.Language.{readable}
use Rattle.crmf.specs.meaning.Rows.{long_id}
use Rattle.crmf.specs.steps.grammar.Lines.{Line, start}
use Rattle.crmf.specs.steps.rows.Agree.{draft_rows, agree}
use Rattle.crmf.specs.steps.rows.Fill.{rows_of_input, filled}
use Rattle.crmf.specs.steps.explain.Walk.{line, find_line, closed, judged, rows_by}

-- the number of no edition, for which only forms that both editions read are recognised
abbrev pub neither : ℕ
neither = 0

-- whether an edition allows an element with its content octets and a whole length in a line's form: its mark is this edition's, and it is no
-- certReqId that is too long
abbrev pub may_stand : ℕ → Line → List ℕ → ℕ → Bool
may_stand e x c whole = readable (λ y. eqb y e) (mark_of x.marking c) && not (long_id x.kind whole)

-- The elements of a container from a line on, after n rows: how many rows there are up to their end, if the elements are what the lines say. A
-- free inside has no rows.
unfoldable pub counts : ℕ → ℕ → ℕ → Tree → Option ℕ
counts e k n none = elim (closed k) [ true ↦ Some n | false ↦ None ]
counts e k n (element id first whole c inside rest) =
    elim (find_line k id) [
      | None ↦ None
      | Some j ↦
          let x = line j in
          let own = n + rows_by x in
          let within : Option ℕ = elim (eqb x.inside 0) [ true ↦ Some own | false ↦ counts e x.inside own inside ] in
          elim (may_stand e x c whole) [
            | false ↦ None
            | true ↦ elim (judged x.judge x.next c) [
              | Err d ↦ None
              | Ok next ↦ elim within [ None ↦ None | Some m ↦ counts e next m rest ]
            ]
          ]
    ]

-- The same for octets at a place, with `left` levels of depth left. Octets that are no list of elements are not recognised.
unfoldable pub counts_at : ℕ → ℕ → ℕ → ℕ → ℕ → List ℕ → Option ℕ
counts_at e left k n p bs = elim (is_list left bs) [ true ↦ counts e k n (tree p bs) | false ↦ None ]

-- how many rows an input has that is a batch of an edition, without a certReqId that is too long; any other input is not recognised
unfoldable pub recognised : ℕ → List ℕ → Option ℕ
recognised e s = counts_at e depth (start Top) 0 0 s

-- a table with the rows of such a batch written into it, if it has room for them; without room, and for any other input, it stays as it is
unfoldable pub recognised_table : ℕ → List ℕ → List ℕ → List ℕ
recognised_table e s old = elim (recognised e s) [ Some n ↦ filled s n old | None ↦ old ]

-- whether an input is such a batch and its rows agree with a draft's
abbrev pub is_recognised : Option ℕ → Bool
is_recognised (Some n) = true
is_recognised None = false

unfoldable pub agreed : ℕ → List ℕ → List ℕ → Bool → Bool
agreed e s draft inPlace = agree inPlace (draft_rows draft) (rows_of_input s) && is_recognised (recognised e s)
