-- What the fields of the packed table's words say of the grammar's lines. A test that is computed at every line holds at the line of any
-- number, since any number past the end has the end line, which is also the first. So each field is one computed test. Assumes nothing.
use Prim.Native.Nat.{ℕ, ◌+◌, ◌<◌}
use mathlib.Core.Bool.{Bool, true, false}
use mathlib.Core.List.{List}
use mathlib.Core.Path.{◌≡◌, refl, ap, ◌∙◌}
use borrow.Author.Tests.{eqb-true, ltb-true}
use lib.Dec.{eqb, ltb}
use lib.ListN.{length, get_or, get_or-map}
use Rattle.crmf.specs.steps.grammar.Codes as codes
use Rattle.crmf.specs.meaning.Notation.{Mark, both, Marking, whatever, unless_two, mark_of, order, names}
use Rattle.crmf.specs.meaning.Value.{is_two}
use Rattle.crmf.specs.meaning.Grammar.{content}
use Rattle.crmf.specs.steps.grammar.Lines.{Line, end_line, lines, lines_from, container_lines, part_lines, way_line, next_line, form_lines, pass_of, inside_line, start, starts_from, size, part_size}
use Rattle.crmf.specs.steps.grammar.Packed.{pack, packed, pass_code, identifiers_code, judge_code, mark_code, marking_code, beside, action_of}
use Rattle.crmf.specs.steps.grammar.Packed.{pass_field, identifiers_field, inside_field, judge_field, kind_field, item_field, marking_field, next_field, action_field, rows_field}
use Rattle.crmf.specs.steps.explain.Walk.{line, rows_by}
use Rattle.crmf.proofs.theorems.lists.Tests.{all, all_first}

-- the table, for computing: to unfold it is to unfold all that the lines and their words are made of
unfoldable pub computed : List ℕ
unfolding packed pack beside action_of pass_code identifiers_code judge_code mark_code marking_code lines lines_from container_lines part_lines way_line next_line form_lines pass_of inside_line start starts_from size part_size order content
computed = packed

-- a test that passes at every line of the table passes at the line of any number
pub at_line : (f : Line → Bool) → all f lines ≡ true → (k : ℕ) → f (line k) ≡ true
unfolding line lines
at_line f = all_first f end_line (lines_from 1 names)

-- the mark that a marking gives, if it gives one
abbrev pub given_mark : Marking → Mark
given_mark (whatever m) = m
given_mark (unless_two m) = m

-- a test that both editions' mark passes, and the mark that the marking gives, is passed by the mark of any value
mark_passes : (f : Mark → Bool) (m : Marking) (c : List ℕ) → f both ≡ true → f (given_mark m) ≡ true → f (mark_of m c) ≡ true
mark_passes f (whatever m) c none own = own
mark_passes f (unless_two m) c none own = go (is_two c)
  where
    go : (b : Bool) → f (elim b [ true ↦ both | false ↦ m ]) ≡ true
    go true = none
    go false = own

-- so one that passes at every line of the table is passed by the mark of any element in the form of any line
pub at_mark : (f : Mark → Bool) → f both ≡ true → all (λ x. f (given_mark x.marking)) lines ≡ true → (k : ℕ) (c : List ℕ) → f (mark_of (line k).marking c) ≡ true
at_mark f none e k c = mark_passes f (line k).marking c none (at_line (λ x. f (given_mark x.marking)) e k)

-- the word of any number is its line, packed
pub word_at : (k : ℕ) → get_or packed k 0 ≡ pack (line k)
unfolding line computed
word_at k = get_or-map pack lines k end_line

-- a field of a word is what the line says, if it is so at every line
field_at : (f : ℕ → ℕ) (g : Line → ℕ) → all (λ x. eqb (f (pack x)) (g x)) lines ≡ true → (k : ℕ) → f (get_or packed k 0) ≡ g (line k)
field_at f g e k = ap f (word_at k) ∙ eqb-true _ _ (at_line (λ x. eqb (f (pack x)) (g x)) e k)

pub pass_at : (k : ℕ) → pass_field (get_or packed k 0) ≡ pass_code (line k).pass
unfolding computed
pass_at = field_at pass_field (λ x. pass_code x.pass) refl

pub identifiers_at : (k : ℕ) → identifiers_field (get_or packed k 0) ≡ identifiers_code (line k).identifiers
unfolding computed
identifiers_at = field_at identifiers_field (λ x. identifiers_code x.identifiers) refl

pub inside_at : (k : ℕ) → inside_field (get_or packed k 0) ≡ (line k).inside
unfolding computed
inside_at = field_at inside_field (λ x. x.inside) refl

pub judge_at : (k : ℕ) → judge_field (get_or packed k 0) ≡ judge_code (line k).judge
unfolding computed
judge_at = field_at judge_field (λ x. judge_code x.judge) refl

pub kind_at : (k : ℕ) → kind_field (get_or packed k 0) ≡ (line k).kind
unfolding computed
kind_at = field_at kind_field (λ x. x.kind) refl

pub item_at : (k : ℕ) → item_field (get_or packed k 0) ≡ (line k).item
unfolding computed
item_at = field_at item_field (λ x. x.item) refl

pub marking_at : (k : ℕ) → marking_field (get_or packed k 0) ≡ marking_code (line k).marking
unfolding computed
marking_at = field_at marking_field (λ x. marking_code x.marking) refl

pub next_at : (k : ℕ) → next_field (get_or packed k 0) ≡ (line k).next
unfolding computed
next_at = field_at next_field (λ x. x.next) refl

pub action_at : (k : ℕ) → action_field (get_or packed k 0) ≡ action_of (line k)
unfolding computed
action_at = field_at action_field action_of refl

pub rows_at : (k : ℕ) → rows_field (get_or packed k 0) ≡ rows_by (line k)
unfolding computed
rows_at = field_at rows_field rows_by refl

-- a number of a line is below a bound, if it is so at every line
small_at : (f : Line → ℕ) (n : ℕ) → all (λ x. ltb (f x) n) lines ≡ true → (k : ℕ) → f (line k) < n
small_at f n e k = ltb-true _ _ (at_line (λ x. ltb (f x) n) e k)

-- How many lines the table has. The code has it as a constant: if a proof meets the constant's value, it equals this by computing.
unfoldable pub line_count : ℕ
unfolding computed
line_count = length lines

pub next_small : (k : ℕ) → (line k).next < line_count
unfolding computed line_count
next_small = small_at (λ x. x.next) line_count refl

pub rows_few : (k : ℕ) → rows_by (line k) < 3
unfolding computed
rows_few = small_at rows_by 3 refl

pub action_small : (k : ℕ) → action_of (line k) < codes.take_name + 1
unfolding computed
action_small = small_at action_of (codes.take_name + 1) refl

-- there are as many words
pub lines_count : length lines ≡ line_count
unfolding line_count
lines_count = refl

pub words_count : length packed ≡ line_count
unfolding computed line_count
words_count = refl
