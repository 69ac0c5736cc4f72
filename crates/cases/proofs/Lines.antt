-- A line that is read character by character. Assumes nothing.
use Rattle.std.specs.Prelude.{ℕ, ◌+◌, ◌-◌, ◌≤◌, ◌<◌, ◌≡◌, List, [], ◌∷◌, ◌++◌, length, get_or, take, drop}
use Rattle.std.specs.List.{All, between, fold}
use Rattle.std.proofs.Common.{sym, ap, ◌∙◌, arith}
use Rattle.std.proofs.lemmas.List.{get_or-take, get_or-drop, get_or_default, length-take, length-drop}
use Rattle.std.proofs.lemmas.List.Elements.{All-append}
use Rattle.std.proofs.lemmas.List.Sums.{fold_push, fold-append}
use Rattle.cases.specs.declared.input.Input.{Input}
use Rattle.cases.specs.Input.{ReadsRun}
use Rattle.cases.specs.Lines.{ReadsOn}

-- nothing is read
pub reads_none : {S : Type 0} (after : S → ℕ → S) (start end : S) → end ≡ start → ReadsOn after start end
reads_none after start end is = ([], λ k d none. absurd (omega arith), is)

-- one character more, which ends no line
pub reads_more : {S : Type 0} (after : S → ℕ → S) (start before end : S) (c : ℕ)
    → ReadsOn after start before → (c ≡ 0x0A → ⊥) → end ≡ after before c → ReadsOn after start end
reads_more {S} after start before end c read no_end is =
    let one : All (λ b. b ≡ 0x0A → ⊥) (c ∷ []) = λ k d low. let first : k ≡ 0 = omega arith in rw first no_end in (
      read.0 ++ (c ∷ []),
      All-append (λ b. b ≡ 0x0A → ⊥) read.0 (c ∷ []) read.1 one,
      is ∙ ap (λ (s : S). after s c) read.2 ∙ sym (fold_push after start read.0 c),
    )

-- none of the characters from one place up to another ends a line
part_plain : (text : List ℕ) (from to : ℕ) → ((i : ℕ) → from ≤ i → i < to → get_or text i 0 ≡ 0x0A → ⊥) → All (λ b. b ≡ 0x0A → ⊥) (between from to text)
part_plain text from to none = λ k d low.
    let fits = simp (length-take, length-drop) at low in
    let within : k < to - from = omega arith in
    let first : get_or text (from + k) d ≡ get_or text (from + k) 0 = get_or_default text (from + k) d 0 (omega arith) in
    rw (get_or-take (to - from) (drop from text) k d within, get_or-drop from text k d, first) (none (from + k) (omega arith) (omega arith))

-- characters more, none of which ends a line
pub reads_run : {S : Type 0} (after : S → ℕ → S) (start before end : S) (input next : Input)
    → ReadsOn after start before → ReadsRun after input before next end → ReadsOn after start end
reads_run after start before end input next read run =
    let text = between input.at next.at input.text in (
      read.0 ++ text,
      All-append (λ b. b ≡ 0x0A → ⊥) read.0 text read.1 (part_plain input.text input.at next.at run.run.0.no_end),
      run.read ∙ ap (λ s. fold after s text) read.2 ∙ sym (fold-append after start read.0 text),
    )
