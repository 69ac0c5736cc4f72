-- `compare::part::entry_part` meets its contract: the part always lies within the file that it is of. Assumes nothing.
use Prim.Native.Nat.{ℕ, ◌+◌}
use native.Mathlib.Nat.{add-sub_cancel_left}
use native.Mathlib.Omega.{arith}
use mathlib.Core.Path.{◌≡◌, refl, ap}
use mathlib.Core.List.{List}
use mathlib.Core.Logic.{inl, inr}
use mir.Syntax.{w64}
use mir.Val.{Fits}
use Rattle.der.proofs.Laws.{take_drop}
use Rattle.std.specs.Prelude.{◌⊎◌, Result, Ok, Err, MatchResult}
use Rattle.editions.specs.declared.pair.File.{File}
use Rattle.editions.specs.declared.pair.File.TheVariants.{Neither, First}
use Rattle.editions.specs.declared.pair.PairRefused.{PairRefused}
use Rattle.editions.specs.steps.Results.{file_number}
use Rattle.compare.specs.declared.part.Part.{Part}
use Rattle.compare.specs.meaning.Parts.{Finds}
use Rattle.compare.specs.steps.Judging.{part_answer_of}
use Rattle.compare.proofs.theorems.RowOrder.{same_or_not}
use Rattle.compare.proofs.theorems.Comparing.{Within, part_within}
use Rattle.compare.proofs.part.entry_part.Goals as goal
use Rattle.compare.proofs.part.entry_part.Goals.{After-unwrap_or_else-part}

-- the part that is handed back is the answer's
answered : {e n : ℕ} {first second : List ℕ} (r : Result Part PairRefused) (p : Part)
    → MatchResult r (λ x. p ≡ x) (λ why. p ≡ record { file = why.file; from = 0; length = 0 })
    → (let a = part_answer_of r in Finds e first second n a.number a.place a.file a.from a.length)
    → (let a = part_answer_of r in Finds e first second n a.number a.place (file_number p.file) p.from p.length)
answered (Ok x) p is answer = rw is answer
answered (Err why) p is answer = rw is answer

-- so it lies within its file
within : (c : After-unwrap_or_else-part) → let p = c.unwrap_or_else-part.result in Within c.args.first.now c.args.second.now (file_number p.file) p.from p.length
within c = part_within (answered c.find_part.result _ c.unwrap_or_else-part.ensures c.find_part.ensures)

-- the end of the part is a place in a file
end_fits : (c : After-unwrap_or_else-part) → let p = c.unwrap_or_else-part.result in Dec (file_number p.file ≡ 2) → Fits w64 (p.from + p.length)
end_fits c (yes second) = omega (arith, (within c).in_second second)
end_fits c (no other-file) = omega (arith, (within c).in_first other-file)

pub overflow_add-end : goal.overflow_add-end
overflow_add-end c =
    let told = (goal.at.overflow_add-end c).After-unwrap_or_else-part in
    end_fits told (same_or_not (file_number told.unwrap_or_else-part.result.file) 2)

-- a file that isn't the second has another number
other : (f : File) → (f ≡ First) ⊎ (f ≡ Neither) → file_number f ≡ 2 → ⊥
other f (inl is) two = omega (arith, two, ap file_number is)
other f (inr is) two = omega (arith, two, ap file_number is)

pub slice_bounds-result-end : goal.slice_bounds-result-end
slice_bounds-result-end c =
    let told = (goal.at.slice_bounds-result-end c).After-unwrap_or_else-part in
    omega (arith, (within told).in_second (ap file_number c.in-Second.is))

pub slice_bounds-result-end-in-First : goal.slice_bounds-result-end-in-First
slice_bounds-result-end-in-First c =
    let told = (goal.at.slice_bounds-result-end-in-First c).After-unwrap_or_else-part in
    omega (arith, (within told).in_first (other _ c.in-First.is))

pub returns-in-Second : goal.returns-in-Second
returns-in-Second c =
    let told = c.unwrap_or_else-part in
    let a = part_answer_of c.find_part.result in
    let v = told.result in
    let s = c.args.second.now in
    record {
      number = a.number;
      place = a.place;
      file = file_number v.file;
      from = v.from;
      size = v.length;
      answer = answered c.find_part.result v told.ensures c.find_part.ensures;
      of_first = λ e. absurd (e (ap file_number c.in-Second.is));
      of_second = λ e. record {
        octets = rw (add-sub_cancel_left v.from v.length) (take_drop v.length v.from s);
        block = refl;
        offset = omega arith;
      };
    }

pub returns-in-First : goal.returns-in-First
returns-in-First c =
    let told = c.unwrap_or_else-part in
    let a = part_answer_of c.find_part.result in
    let v = told.result in
    let s = c.args.first.now in
    record {
      number = a.number;
      place = a.place;
      file = file_number v.file;
      from = v.from;
      size = v.length;
      answer = answered c.find_part.result v told.ensures c.find_part.ensures;
      of_second = λ e. absurd (other _ c.in-First.is e);
      of_first = λ e. record {
        octets = rw (add-sub_cancel_left v.from v.length) (take_drop v.length v.from s);
        block = refl;
        offset = omega arith;
      };
    }
