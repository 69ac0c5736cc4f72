-- `der::content::utf8::lead` meets its contract: each arm is what the definitions say of its class. Assumes nothing.
use mathlib.Core.Path.{refl, sym, ◌∙◌}
use native.Mathlib.Nat.{not-le_of_lt}
use lib.Arith.{le_of_le-suc-ne as down}
use Rattle.der.specs.meaning.Utf8.{InRange}
use Rattle.der.specs.steps.Utf8Classes.{leads, tails, lowest, highest}
use Rattle.der.proofs.theorems.content.Utf8Steps.{begin, no_lead, none_leads}
use Rattle.der.proofs.content.utf8.lead.Goals as goal
use Rattle.der.proofs.content.utf8.lead.Goals.{In_default}

pub returns-in-0 : goal.returns-in-0
unfolding leads tails lowest highest
returns-in-0 c b bs e = rw c.new-tails.ensures (sym (begin b (e ∙ c.in-0.is) refl 1 3 bs))

pub returns-in-4 : goal.returns-in-4
unfolding leads tails lowest highest
returns-in-4 c b bs e = rw c.new-tails-in-4.ensures (sym (begin b (e ∙ c.in-4.is) refl 1 3 bs))

pub returns-in-5 : goal.returns-in-5
unfolding leads tails lowest highest
returns-in-5 c b bs e = rw c.new-tails-in-5.ensures (sym (begin b (e ∙ c.in-5.is) refl 1 3 bs))

pub returns-in-6 : goal.returns-in-6
unfolding leads tails lowest highest
returns-in-6 c b bs e = rw c.new-tails-in-6.ensures (sym (begin b (e ∙ c.in-6.is) refl 1 3 bs))

pub returns-in-7 : goal.returns-in-7
unfolding leads tails lowest highest
returns-in-7 c b bs e = rw c.new-tails-in-7.ensures (sym (begin b (e ∙ c.in-7.is) refl 1 3 bs))

pub returns-in-8 : goal.returns-in-8
unfolding leads tails lowest highest
returns-in-8 c b bs e = rw c.new-tails-in-8.ensures (sym (begin b (e ∙ c.in-8.is) refl 1 3 bs))

pub returns-in-9 : goal.returns-in-9
unfolding leads tails lowest highest
returns-in-9 c b bs e = rw c.new-tails-in-9.ensures (sym (begin b (e ∙ c.in-9.is) refl 1 3 bs))

pub returns-in-10 : goal.returns-in-10
unfolding leads tails lowest highest
returns-in-10 c b bs e = rw c.new-tails-in-10.ensures (sym (begin b (e ∙ c.in-10.is) refl 1 3 bs))

-- no class from 4 to 10 is left, from the top down
none : (c : In_default) → InRange 4 10 c.args.class → ⊥
none c w =
    let r = c.in_default.in_default-own.rest in
    let s = r.0.0.0 in
    let top = down (down (down w.1 r.1) r.0.1) r.0.0.1 in
    not-le_of_lt w.0 (down (down (down (down top s.1) s.0.1) s.0.0.1) s.0.0.0.1)

pub returns-in_default : goal.returns-in_default
returns-in_default c b bs e = sym (no_lead b e (none_leads _ c.in_default.in_default-own.rest.0.0.0.0.0.0.0.1 (none c)) 1 3 bs)
