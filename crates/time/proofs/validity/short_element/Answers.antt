-- `time::validity::short_element` meets its contract: its tests are the definition's. Assumes nothing.
use mathlib.Core.Path.{refl, sym, ap, ◌∙◌}
use borrow.Author.Tests.{le-leb, lt-leb, eq-eqb, ne_eqb}
use lib.ListN.{length}
use Rattle.der.proofs.Laws.{take_from}
use Rattle.time.specs.meaning.Validity.{is_short}
use Rattle.time.proofs.validity.short_element.Goals as goal
use Rattle.time.proofs.validity.short_element.Goals.{Else-from-content}

pub returns-in_default : goal.returns-in_default
unfolding is_short
returns-in_default c = rw (is_short, lt-leb 2 _ c.in_default.len_below)

pub returns-then-from-content : goal.returns-then-from-content
unfolding is_short
returns-then-from-content c =
    let s = c.args.element.now in
    rw (is_short, le-leb 2 (length s) c.in-len2-up.len_at_least, ne_eqb _ _ (λ same. c.if-from-content.true (c.from.ensures ∙ same ∙ sym (ap length (take_from 2 s)))))

pub returns : goal.returns
unfolding is_short
returns c =
    let s = c.args.element.now in
    let rest = take_from 2 s in
    (rw (is_short, le-leb 2 (length s) c.in-len2-up.len_at_least, eq-eqb _ _ (sym c.from.ensures ∙ c.if-from-content.false ∙ ap length rest)), refl, rest)
