-- Document 02's A12 by the rows of a batch: each row of notBefore or notAfter shows a moment, and each row of a validity runs forwards. A test of the
-- grammar that computes says which forms have these kinds. Assumes nothing.
use Prim.Native.Nat.{ℕ, ◌+◌}
use mathlib.Core.Path.{◌≡◌, refl, sym, ap, subst, ◌∙◌}
use mathlib.Core.Logic.{◌⊎◌, inl, inr, ⊎_elim}
use mathlib.Core.Bool.{Bool, true, false, not, ◌&&◌, ◌||◌}
use mathlib.Core.List.Memᴰ
use mathlib.Core.List.{List, [], ◌∷◌, Memᴰ}
use mathlib.Core.Option.{some, some-injective}
use lib.Dec.{T, eqb}
use lib.ListN.{length, get_elem?}
use lib.Seq.{slice}
use borrow.Author.Tests.{eqb-true, eq-eqb}
use Rattle.der.specs.meaning.Tree.{Tree, header, encode, WellFormed}
use Rattle.time.specs.meaning.Validity.{shown_moment, forwards}
use Rattle.crmf.specs.meaning.Kinds as kinds
use Rattle.crmf.specs.meaning.Value.{some_forwards, is_empty, keeps}
use Rattle.crmf.specs.meaning.Notation.{Identifiers, octet, general_name, anything, nothing, among, named, names, order, Top, Time, Inside, free, holds, Form, Parts}
use Rattle.crmf.specs.meaning.Grammar.{content}
use Rattle.crmf.specs.meaning.Language.{Matches, end, pass, take, choose, Within, unseen, parts}
use Rattle.crmf.specs.meaning.Rows.{Row, no_extent, batch_rows, container}
use Rattle.crmf.specs.meaning.Fields.{StandsAt}
use Rattle.crmf.specs.meaning.LeftOut.{row_content}
use Rattle.crmf.specs.steps.grammar.Lines.{keep}
use Rattle.crmf.specs.steps.grammar.Packed.{judge_code}
use Rattle.crmf.proofs.theorems.lists.Tests.{all, either}
use Rattle.crmf.proofs.theorems.lines.JudgeCodes.{same_rule}
use Rattle.crmf.proofs.theorems.values.ValueRules.{both}
use Rattle.crmf.proofs.theorems.values.ValidityOrder.{time_held, made, either_one, field_shows}
use Rattle.crmf.proofs.theorems.grammar.Names.{in_order}
use Rattle.crmf.proofs.theorems.grammar.Choices.{never_both}
use Rattle.crmf.proofs.theorems.grammar.Containers.{all_forms}
use Rattle.crmf.proofs.theorems.grammar.ChoicesMatch.{holds-true}
use Rattle.crmf.proofs.theorems.rows.RowLaws.{standing}
use Rattle.crmf.proofs.theorems.pieces.ShownPieces.{shown}
use Rattle.crmf.proofs.theorems.rows.TakenElements.{encoded_stands, TakenElement, takes, takes_in, forms_pass, content_passes, ShownBy, row_taken, taken_content}

-- the kinds of notBefore and notAfter
abbrev timed : ℕ → Bool
timed = among (kinds.not_before ∷ kinds.not_after ∷ [])

-- they are leaves
pub time_leaf : (kind : ℕ) → (kind ≡ kinds.not_before) ⊎ (kind ≡ kinds.not_after) → container kind ≡ false
unfolding container among
time_leaf kind = ⊎_elim (λ first. rw first refl) (λ second. rw second refl)

-- whether an element's form is that of notBefore or notAfter: its identifier, and a Time inside
abbrev holds_time : Inside → Bool
holds_time free = false
holds_time (holds n) = eqb (order n) (order Time)

abbrev field_octet : Identifiers → Bool
field_octet (octet a) = eqb a 0xA0 || eqb a 0xA1
field_octet general_name = false
field_octet anything = false
field_octet nothing = false

-- whether a form has these kinds rightly: notBefore and notAfter hold a Time, a validity has its rule, and none of them is an item's
abbrev rightly : Form → Bool
rightly f =
    (not (timed f.kind) || (holds_time f.inside && field_octet f.identifiers))
    && (not (eqb f.kind kinds.validity) || eqb (judge_code (keep f.rule)) (judge_code (keep some_forwards)))
    && not (timed f.item || eqb f.item kinds.validity)

-- every form of the grammar does: a test that computes
all_rightly : all (λ n. forms_pass rightly (content n)) names ≡ true
unfolding forms_pass all_forms content among order judge_code
all_rightly = refl

-- what the tests of a form say: the inside is a Time's, and the identifier is one of the two
time_inside : (i : Inside) → holds_time i ≡ true → i ≡ holds Time
time_inside free is = never_both false is refl
time_inside (holds n) is =
    ap holds (some-injective n Time (sym (in_order n) ∙ ap (get_elem? names) (eqb-true (order n) (order Time) is) ∙ in_order Time))

field_identifier : (ids : Identifiers) (id : ℕ) → field_octet ids ≡ true → T (named ids id) → (id ≡ 0xA0) ⊎ (id ≡ 0xA1)
unfolding named
field_identifier general_name id one fits = never_both false one refl
field_identifier anything id one fits = never_both false one refl
field_identifier nothing id one fits = never_both false one refl
field_identifier (octet a) id one fits =
    let is = eqb-true id a (holds-true (eqb id a) fits) in
    ⊎_elim (λ first. inl (is ∙ eqb-true a 0xA0 first)) (λ second. inr (is ∙ eqb-true a 0xA1 second)) (either (eqb a 0xA0) (eqb a 0xA1) one)

-- The elements that a derivation takes keep their forms' rules,
mutual
  unfolding takes

  taken_kept : {R : ℕ → Bool} {ps : Parts} {t : Tree} (m : Matches R ps t) (x : TakenElement) → Memᴰ x (takes m) → T (keeps x.form.rule x.octets)
  taken_kept end x at = absurd (Memᴰ.not-nil at)
  taken_kept (pass ok m) x at = taken_kept m x at
  taken_kept (take f one_of_lem fits read kept within m) x at =
      ⊎_elim (λ same. subst (λ (y : TakenElement). T (keeps y.form.rule y.octets)) (sym same) kept)
      (λ more. ⊎_elim (λ inner. inside_kept within x inner) (λ after. taken_kept m x after) (Memᴰ.append_cases (takes_in within) more))
      (Memᴰ.cases_cons at)
  taken_kept (choose n way m) x at = taken_kept m x at

  inside_kept : {R : ℕ → Bool} {i : Inside} {t : Tree} (w : Within R i t) (x : TakenElement) → Memᴰ x (takes_in w) → T (keeps x.form.rule x.octets)
  inside_kept unseen x at = absurd (Memᴰ.not-nil at)
  inside_kept (parts m) x at = taken_kept m x at

-- and those in the form of notBefore or notAfter show a moment, if they stand in some octets.
module _ (s : List ℕ) where
  abbrev ShowsMoment : TakenElement → Type 0
  ShowsMoment x =
      holds_time x.form.inside ≡ true → field_octet x.form.identifiers ≡ true → (n : ℕ) × (shown_moment (slice x.first (x.first + x.whole) s) ≡ some n)

  mutual
    unfolding takes

    taken_shows : {R : ℕ → Bool} {ps : Parts} {t : Tree} (m : Matches R ps t) (left q : ℕ) → WellFormed left q t → StandsAt s q (encode t)
        → (x : TakenElement) → Memᴰ x (takes m) → ShowsMoment x
    taken_shows end left q wf there x at = absurd (Memᴰ.not-nil at)
    taken_shows (pass ok m) left q wf there x at = taken_shows m left q wf there x at
    taken_shows {R} (take {id = id} {first = p} {whole = w} {c = c} {inside = inside} {rest = rest} f one_of_lem fits read kept within m) left q wf there x at =
        let stand = standing q id p w c inside rest left wf in
        let show = shown s left q id p w c inside rest stand there in
        let own : ShowsMoment (record { form = f; first = p; whole = w; octets = c }) = λ holding one.
        let time = time_held (subst (λ (i : Inside). Within R i inside) (time_inside f.inside holding) within) in
        let which = field_identifier f.identifiers id one fits in
        (time.moment, ap shown_moment show.own ∙ field_shows left q id p w c inside rest wf (made id which) time (either_one id which)) in
        ⊎_elim (λ same. subst ShowsMoment (sym same) own)
        (λ more.
        ⊎_elim (λ inner. inside_shows within stand.deeper (p + length (header id c)) stand.within show.within x inner)
        (λ after. taken_shows m left (p + w) stand.further show.further x after) (Memᴰ.append_cases (takes_in within) more))
        (Memᴰ.cases_cons at)
    taken_shows (choose {id = id} {first = p} {whole = w} {c = c} {inside = inside} {rest = rest} n way m) left q wf there x at =
        let stand = standing q id p w c inside rest left wf in
        taken_shows m left (p + w) stand.further (shown s left q id p w c inside rest stand there).further x at

    inside_shows : {R : ℕ → Bool} {i : Inside} {t : Tree} (w : Within R i t) (left q : ℕ) → WellFormed left q t → StandsAt s q (encode t)
        → (x : TakenElement) → Memᴰ x (takes_in w) → ShowsMoment x
    inside_shows unseen left q wf there x at = absurd (Memᴰ.not-nil at)
    inside_shows (parts m) left q wf there x at = taken_shows m left q wf there x at

-- an implication by tests
implied : (a b : Bool) → (not a || b) ≡ true → a ≡ true → b ≡ true
implied true b so is = so
implied false b so is = never_both false is refl

-- neither of two tests passes
neither : (a b : Bool) → not (a || b) ≡ true → (a ≡ false) × (b ≡ false)
neither true b so = never_both false so refl
neither false true so = never_both false so refl
neither false false so = (refl, refl)

-- a validity that keeps its rule runs forwards
kept_forwards : (c : List ℕ) → T (keeps some_forwards c) → forwards c ≡ true
unfolding keeps
kept_forwards c kept = (both (not (is_empty c)) (forwards c) (holds-true (not (is_empty c) && forwards c) kept)).1

module _ {R : ℕ → Bool} {t : Tree} (m : Matches R (content Top) t) (left : ℕ) (formed : WellFormed left 0 t) (s : List ℕ) (encoded : encode t ≡ s) where
  -- what the test says of the form of an element that is taken
  tested : (x : TakenElement) → Memᴰ x (takes m)
      → ((timed x.form.kind ≡ true → (holds_time x.form.inside ≡ true) × (field_octet x.form.identifiers ≡ true))
      × (eqb x.form.kind kinds.validity ≡ true → x.form.rule ≡ some_forwards))
      × ((timed x.form.item ≡ false) × (eqb x.form.item kinds.validity ≡ false))
  tested x at =
      let f = x.form in
      let (front, item) = both _ (not (timed f.item || eqb f.item kinds.validity)) (content_passes rightly all_rightly Top m x at) in
      let (times, validity) = both _ (not (eqb f.kind kinds.validity) || eqb (judge_code (keep f.rule)) (judge_code (keep some_forwards))) front in (
        (λ is. both _ (field_octet f.identifiers) (implied (timed f.kind) _ times is), λ is. same_rule _ _ (eqb-true _ _ (implied (eqb f.kind kinds.validity) _ validity is))),
        neither (timed f.item) (eqb f.item kinds.validity) item,
      )

  -- Each row of notBefore or notAfter shows a moment.
  pub times_shown : (r : Row) → Memᴰ r (batch_rows m) → (r.kind ≡ kinds.not_before) ⊎ (r.kind ≡ kinds.not_after)
      → (n : ℕ) × (shown_moment (slice r.first (r.first + r.whole) s) ≡ some n)
  unfolding batch_rows among
  times_shown r in_rows kind = by (row_taken m 0 0 no_extent r in_rows)
    where
      is : timed r.kind ≡ true
      is = ⊎_elim (λ first. rw first refl) (λ second. rw second refl) kind

      by : (x : TakenElement) × Memᴰ x (takes m) × (ShownBy x r ⊎ (r.kind ≡ x.form.item)) → (n : ℕ) × (shown_moment (slice r.first (r.first + r.whole) s) ≡ some n)
      by (x, at, inl shows) =
          let (inside, identifiers) = (tested x at).0.0 (ap timed (sym shows.kind) ∙ is) in
          let (n, shown-it) = taken_shows s m left 0 formed (encoded_stands s t encoded) x at inside identifiers in
          (n, rw (shows.first, shows.whole) shown-it)
      by (x, at, inr item) = never_both (timed x.form.item) (ap timed (sym item) ∙ is) (tested x at).1.0

  -- "notAfter isn't earlier than notBefore": each row of a validity runs forwards.
  pub validities_forwards : (r : Row) → Memᴰ r (batch_rows m) → r.kind ≡ kinds.validity → forwards (row_content s r) ≡ true
  unfolding batch_rows
  validities_forwards r in_rows kind = by (row_taken m 0 0 no_extent r in_rows)
    where
      by : (x : TakenElement) × Memᴰ x (takes m) × (ShownBy x r ⊎ (r.kind ≡ x.form.item)) → forwards (row_content s r) ≡ true
      by (x, at, inl shows) =
          let rule = (tested x at).0.1 (eq-eqb _ _ (sym shows.kind ∙ kind)) in
          let octets : row_content s r ≡ x.octets = rw (shows.content, shows.first, shows.whole) (taken_content s m left 0 formed (encoded_stands s t encoded) x at) in
          ap forwards octets ∙ kept_forwards x.octets (subst (λ y. T (keeps y x.octets)) rule (taken_kept m x at))
      by (x, at, inr item) = never_both (eqb x.form.item kinds.validity) (eq-eqb _ _ (sym item ∙ kind)) (tested x at).1.1
