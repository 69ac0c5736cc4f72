-- Whether a draft describes a batch, test by test. Assumes nothing.
use Prim.Native.Nat.{ℕ, ◌≤◌}
use mathlib.Core.Path.{◌≡◌, sym, ap, ap₂, ◌∙◌}
use mathlib.Core.Bool.{Bool, true, false, ◌&&◌, and-eq-true_iff, and_assoc}
use mathlib.Core.List.{List}
use lib.Dec.{leb}
use lib.ListN.{length}
use borrow.Author.Tests.{leb-true}
use Rattle.der.specs.meaning.Bounds.{longest}
use Rattle.crmf.specs.steps.rows.Agree.{draft_rows}
use Rattle.crmf.specs.steps.rows.Assembly.{none_longer}
use Rattle.writer.specs.meaning.Draft.{inside}
use Rattle.writer.specs.steps.Writing.{shaped, drafted, candidate, shows, described}
use Rattle.writer.specs.steps.Inner.{sound}

module _ (e : ℕ) (draft bytes : List ℕ) where
  -- the tests in the code's order
  in_order : described e draft bytes
      ≡ (shaped draft && (sound bytes 0 (draft_rows draft) && (leb (length (candidate draft bytes)) longest && shows e draft bytes)))
  unfolding described
  in_order =
      ap (λ (b : Bool). shaped draft && b)
      (ap (λ (b : Bool). b && shows e draft bytes)
      (sym (and_assoc (inside bytes (draft_rows draft)) (none_longer longest 0 (drafted draft bytes)) (leb (length (candidate draft bytes)) longest)))
      ∙ and_assoc (sound bytes 0 (draft_rows draft)) (leb (length (candidate draft bytes)) longest) (shows e draft bytes))

  pub shapeless : shaped draft ≡ false → described e draft bytes ≡ false
  shapeless fails = in_order ∙ ap (λ (b : Bool). b && (sound bytes 0 (draft_rows draft) && (leb (length (candidate draft bytes)) longest && shows e draft bytes))) fails

  module _ (shape : shaped draft ≡ true) where
    -- a draft that isn't sound
    pub unsound : sound bytes 0 (draft_rows draft) ≡ false → described e draft bytes ≡ false
    unsound fails =
        in_order
        ∙ ap₂ (λ (a b : Bool). a && (b && (leb (length (candidate draft bytes)) longest && shows e draft bytes))) shape fails

    module _ (sounds : sound bytes 0 (draft_rows draft) ≡ true) where
      -- one whose candidate is too long
      pub too_long : leb (length (candidate draft bytes)) longest ≡ false → described e draft bytes ≡ false
      too_long fails =
          in_order ∙ ap₂ (λ (a b : Bool). a && (b && (leb (length (candidate draft bytes)) longest && shows e draft bytes))) shape sounds
          ∙ ap (λ (b : Bool). b && shows e draft bytes) fails

      -- and any other, by what reading the candidate shows
      pub by_showing : leb (length (candidate draft bytes)) longest ≡ true → described e draft bytes ≡ shows e draft bytes
      by_showing short =
          in_order ∙ ap₂ (λ (a b : Bool). a && (b && (leb (length (candidate draft bytes)) longest && shows e draft bytes))) shape sounds
          ∙ ap (λ (b : Bool). b && shows e draft bytes) short

  -- the candidate of a draft that describes a batch isn't too long
  pub described_short : described e draft bytes ≡ true → length (candidate draft bytes) ≤ longest
  described_short is =
      let after = ((and-eq-true_iff (shaped draft) _).0 (sym in_order ∙ is)).1 in
      let last = ((and-eq-true_iff (sound bytes 0 (draft_rows draft)) _).0 after).1 in
      leb-true (length (candidate draft bytes)) longest ((and-eq-true_iff (leb (length (candidate draft bytes)) longest) (shows e draft bytes)).0 last).0
