-- `lines::heading::Heading::in_editions` meets its contract: the second of two editions is judged after the first. Assumes nothing.
use Rattle.std.specs.Prelude.{◌≡◌, ℕ, Option, None, Result, Ok, Err, OnOk, refl}
use Rattle.std.specs.List.{FoldsTo}
use Rattle.std.specs.Fn.{Mut, Called}
use Rattle.lines.specs.Editions.{editions_of}
use Rattle.lines.proofs.heading.Heading.in_editions.Goals as goal

-- the judge is called twice, and its second answer is the whole answer
both : {F E : Type 0} (g : Mut F (ℕ × Unit {0}) (Result (Unit {0}) E)) (f next last : F) (one other : ℕ) (named : Option ℕ) (r : Result (Unit {0}) E)
    → named ≡ None → Called g f (one, tt) (Ok tt) next → Called g next (other, tt) r last
    → OnOk r ((end : F) × FoldsTo (λ p edition q. Called g p (edition, tt) (Ok tt) q) f (editions_of named one other) end)
both g f next last one other named (Ok tt) none first second = rw none (last, (next, first, (last, second, refl)))
both g f next last one other named (Err e) none first second = tt

pub returns : goal.returns
returns g c = both g.F.FnMut _ _ _ _ _ _ _ c.in-None.is c.in_ok-judge-in-None.ensures c.judge-in-None-2.ensures
