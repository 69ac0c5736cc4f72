-- What a merge of two batches finds: the changes, counted and listed, and the part that an entry speaks of. Assumes nothing.
use Prim.Native.Nat.{ℕ, zero, suc, ◌*◌, ◌/◌, ◌≤◌, ◌<◌}
use native.Mathlib.Omega.{arith}
use mathlib.Core.Path.{◌≡◌, refl, sym, ap, ap₂, subst, ◌∙◌}
use Rattle.std.specs.Prelude.{Some, None}
use Rattle.std.proofs.lemmas.Option.{none-some, same_Some}
use mathlib.Core.List.{List, [], ◌∷◌, ◌++◌, Memᴰ, append-nil}
use mathlib.Core.Option.{Option, some, none as absent, some-injective}
use lib.IntN.{ℤ}
use lib.ListN.{length, get_or, get_elem?, take, drop, drop_of_length-le}
use lib.Seq.{drop-cons, take-nil}
use borrow.Author.Tests.{le-leb, lt-leb}
use Rattle.crmf.specs.steps.rows.Fill.{rows_of_input}
use Rattle.crmf.specs.steps.rows.Packing.{first_of, whole_of}
use Rattle.compare.specs.declared.merge.Cursor.{Cursor}
use Rattle.compare.specs.declared.part.Part.{Part}
use Rattle.compare.specs.meaning.Changes.{Change, only_first, only_second, leaves_differ, Later, entry_numbers, entry, entries, Changed, in_first, in_second, in_both}
use Rattle.compare.specs.steps.Finding.{Counted, Gathered, gathered, file_of, PartFound, PartThere, InTables, Begins, row_of, Spoken}
use Rattle.compare.specs.steps.Lists.{kept, window, later_between}
use Rattle.compare.specs.steps.Tables.{Tabled}
use Rattle.compare.specs.steps.Walking.{Gone}
use Rattle.compare.proofs.theorems.Existing.{merged_changes}
use Rattle.compare.proofs.theorems.OneCounterpart.{counterpart_there}
use Rattle.compare.proofs.theorems.OneList.{changes_once}

-- a list stays if there are no entries from its first on
pub window_beyond : (later : Later) (from : ℕ) (cs : List Change) (old : List ℤ) → length cs ≤ from → window later from cs old ≡ old
unfolding entries
window_beyond later from cs old few =
    ap (λ (ds : List Change). entries later (take (length old / entry_numbers) ds) ++ drop (entry_numbers * length (take (length old / entry_numbers) ds)) old) (drop_of_length-le cs {i = from} few)
    ∙ ap (λ (ds : List Change). entries later ds ++ drop (entry_numbers * length ds) old) (take-nil (length old / entry_numbers))

module _ {s t one two : List ℕ} (x : Tabled s one) (y : Tabled t two) where
  -- The walk from the batches on counts the changes.
  pub merged_counted : {r : Cursor} {from : ℕ} {old new : List ℤ}
      → Gone s t (record { first = 0; second = 0 }) (record { first = 1; second = 1; count = 0 }) from old r new → Counted s t from old r.count new
  merged_counted {from = from} {old = old} gone =
      record {
        listed = gone.listed;
        changes = merged_changes x.arranged y.arranged gone.merge;
        counted = omega (arith, gone.counted);
        written = gone.added [] old refl (sym (window_beyond (later_between s t) from [] old (omega arith)));
        few = omega (arith, gone.few, gone.in_first, gone.in_second);
      }

  -- the rows that a change speaks of are in the tables
  in_tables : (c : Change) → Changed s t (rows_of_input s) (rows_of_input t) c → InTables one two c
  in_tables (only_first i) (in_first pair c lone) = omega (arith, c.there, x.sized)
  in_tables (only_second j) (in_second pair c lone) = omega (arith, c.there, y.sized)
  in_tables (leaves_differ i j) (in_both pair leaf octets) =
      let there = counterpart_there x.arranged y.arranged pair in
      (omega (arith, there.0, x.sized), omega (arith, there.1, y.sized))

  -- and have its part
  part_found : (c : Change) → InTables one two c → {r : Part}
      → r ≡ record { file = file_of c; from = first_of (row_of one two c); length = whole_of (row_of one two c) } → PartFound s t c r
  part_found (only_first i) there is =
      record {
        file = ap (λ (p : Part). p.file) is;
        from = ap (λ (p : Part). p.from) is ∙ x.firsts i there;
        size = ap (λ (p : Part). p.length) is ∙ x.wholes i there;
      }
  part_found (only_second j) there is =
      record {
        file = ap (λ (p : Part). p.file) is;
        from = ap (λ (p : Part). p.from) is ∙ y.firsts j there;
        size = ap (λ (p : Part). p.length) is ∙ y.wholes j there;
      }
  part_found (leaves_differ i j) there is =
      record {
        file = ap (λ (p : Part). p.file) is;
        from = ap (λ (p : Part). p.from) is ∙ x.firsts i there.0;
        size = ap (λ (p : Part). p.length) is ∙ x.wholes i there.0;
      }

-- the entry with a number
abbrev no_change : Change
no_change = only_first 0

abbrev pub change_at : List Change → ℕ → Change
change_at cs n = get_or cs n no_change

-- is a member,
pub member_at : (cs : List Change) (n : ℕ) → n < length cs → Memᴰ (change_at cs n) cs
member_at [] n l = absurd (omega arith)
member_at (c ∷ cs) zero l = Memᴰ.head refl
member_at (c ∷ cs) (suc n) l = Memᴰ.tail (member_at cs n (omega arith))

-- and what is there,
pub entry_at : (cs : List Change) (n : ℕ) → n < length cs → get_elem? cs n ≡ some (change_at cs n)
entry_at [] n l = absurd (omega arith)
entry_at (c ∷ cs) zero l = refl
entry_at (c ∷ cs) (suc n) l = entry_at cs n (omega arith)

-- there is only one,
pub the_entry : (cs : List Change) (n : ℕ) (c : Change) → get_elem? cs n ≡ some c → (n < length cs) × (change_at cs n ≡ c)
the_entry [] n c is = absurd (nothing is)
  where
    told : Option Change → ℕ
    told absent = 0
    told (some c) = 1

    nothing : get_elem? [] n ≡ some c → ⊥
    nothing e = absurd (omega (arith, ap told e))
the_entry (d ∷ cs) zero c is = (omega arith, some-injective d c is)
the_entry (d ∷ cs) (suc n) c is = let more = the_entry cs n c is in (omega (arith, more.0), more.1)

-- and a list with room for it alone has it alone
alone_listed : (later : Later) (from : ℕ) (cs : List Change) (old : List ℤ) → from < length cs → length old ≡ entry_numbers
    → window later from cs old ≡ entry later (change_at cs from)
unfolding entries
alone_listed later from cs old there room =
    let one : length old / entry_numbers ≡ 1 = omega arith in
    let c = change_at cs from in
    let first : kept from cs old ≡ c ∷ [] =
    ap₂ (λ (n : ℕ) (ds : List Change). take n ds) one (drop-cons cs from no_change there) ∙ ap (λ (ds : List Change). c ∷ ds) refl in
    ap (λ (ds : List Change). entries later ds ++ drop (entry_numbers * length ds) old) first
    ∙ ap₂ (λ (l r : List ℤ). l ++ r) (append-nil (entry later c)) (drop_of_length-le old {i = entry_numbers} (omega arith)) ∙ append-nil (entry later c)

module _ {s t : List ℕ} {old new : List ℤ} {count : ℕ} where
  -- all are listed if there is room for them,
  pub all_listed : Counted s t 0 old count new → entry_numbers * count ≤ length old → Gathered s t None old (record { count = count; part = None }) new
  unfolding gathered
  all_listed c room =
      record {
        listed = c.listed;
        changes = c.changes;
        counted = c.counted;
        written = c.written ∙ sym (rw (gathered, le-leb (entry_numbers * length c.listed) (length old) (omega (arith, c.counted))));
        part = λ n e. absurd (none-some n e);
      }

  -- and otherwise none.
  pub none_listed : (beyond : ℕ) → Counted s t beyond old count new → length old < entry_numbers * count → count ≤ beyond
      → Gathered s t None old (record { count = count; part = None }) new
  unfolding gathered
  none_listed beyond c full few =
      record {
        listed = c.listed;
        changes = c.changes;
        counted = c.counted;
        written = c.written ∙ window_beyond (later_between s t) beyond c.listed old (omega (arith, c.counted))
            ∙ sym (rw (gathered, lt-leb (entry_numbers * length c.listed) (length old) (omega (arith, c.counted))));
        part = λ n e. absurd (none-some n e);
      }

  -- They may be counted first.
  pub listed_again : {mid : List ℤ} {n : ℕ} (beyond : ℕ) → Counted s t beyond old n mid → n ≤ beyond → entry_numbers * n ≤ length old
      → Counted s t 0 mid count new → Gathered s t None old (record { count = count; part = None }) new
  listed_again {mid} beyond first few room again =
      let stays : mid ≡ old = first.written ∙ window_beyond (later_between s t) beyond first.listed old (omega (arith, first.counted)) in
      let as_many = ap length (changes_once again.changes first.changes) in
      all_listed (subst (λ (l : List ℤ). Counted s t 0 l count new) stays again) (omega (arith, first.counted, again.counted, as_many))

  -- If one is wanted that there isn't, it has no part.
  pub one_past : {from : ℕ} → Counted s t from old count new → count ≤ from → Gathered s t (Some from) old (record { count = count; part = None }) new
  unfolding gathered
  one_past {from} c past =
      record {
        listed = c.listed;
        changes = c.changes;
        counted = c.counted;
        written = c.written;
        part = λ n e. omega (arith, c.counted, past, same_Some from n e);
      }

module _ {s t one two : List ℕ} (x : Tabled s one) (y : Tabled t two) {old new : List ℤ} {count from : ℕ} (c : Counted s t from old count new)
    (there : from < count) (room : length old ≡ entry_numbers) where
  -- Otherwise the list is that entry,
  entry_there : from < length c.listed
  entry_there = omega (arith, c.counted)

  rows_there : InTables one two (change_at c.listed from)
  rows_there = in_tables x y (change_at c.listed from) (c.changes.only (change_at c.listed from) (member_at c.listed from entry_there))

  its_numbers : new ≡ entry (later_between s t) (change_at c.listed from)
  its_numbers = c.written ∙ alone_listed (later_between s t) from c.listed old entry_there room

  pub begins : Begins one two new
  begins = record { change = change_at c.listed from; later = later_between s t; numbers = its_numbers; within = rows_there; few = (x.few, y.few) }

  -- and its part is found.
  pub one_found : {r : Part} → Spoken one two new r → Gathered s t (Some from) old (record { count = count; part = Some r }) new
  unfolding gathered
  one_found {r} spoken =
      let d = change_at c.listed from in
      let of_it : PartThere s t c.listed from r = record {
        change = d;
        here = entry_at c.listed from entry_there;
        found = part_found x y d rows_there (spoken (later_between s t) d its_numbers);
      } in
      record {
        listed = c.listed;
        changes = c.changes;
        counted = c.counted;
        written = c.written;
        part = λ n e. subst (λ (k : ℕ). PartThere s t c.listed k r) (same_Some from n e) of_it;
      }
