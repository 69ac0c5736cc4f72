-- `crmf::rows::if_any` meets its contract: the kind 0 is none. Assumes nothing.
use mathlib.Core.Path.{◌≡◌, refl, ap, ◌∙◌}
use mathlib.Core.Bool.{Bool, true, false, not}
use lib.Dec.{eqb}
use Rattle.std.specs.Bool.{then_some}
use Rattle.crmf.specs.declared.rows.Entry.{Entry}
use Rattle.crmf.specs.meaning.Rows.{row_if}
use Rattle.crmf.specs.steps.rows.Fill.{entry_extent, row_of}
use Rattle.crmf.proofs.rows.if_any.Goals as goal

-- an entry of a kind has its row, and one of none has none
of_kind : (new : Entry) → row_of (then_some (not (eqb new.kind 0)) new) ≡ row_if new.kind (entry_extent new) new.parent
unfolding row_if
of_kind new = go (eqb new.kind 0) refl
  where
    go : (b : Bool) → eqb new.kind 0 ≡ b → row_of (then_some (not (eqb new.kind 0)) new) ≡ row_if new.kind (entry_extent new) new.parent
    go true e = rw (row_if, e)
    go false e = rw (row_if, e)

pub returns : goal.returns
returns c = ap row_of c.then_some.ensures ∙ of_kind c.args.new
