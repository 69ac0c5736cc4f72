-- A validity's elements and its octets say the same of the order of its times: each of notBefore and notAfter has one length octet, and so has the Time
-- inside it. Assumes nothing.
use Prim.Native.Nat.{ℕ, zero, suc, ◌+◌}
use mathlib.Core.Path.{◌≡◌, refl, sym, ap, ap₂, subst, ◌∙◌}
use mathlib.Core.Logic.{◌↔◌, ◌⊎◌, inl, inr, ⊎_elim}
use mathlib.Core.Bool.{Bool, true, ◌||◌}
use mathlib.Core.List.{List, [], ◌∷◌, ◌++◌}
use mathlib.Core.Option.{Option, some, none as absent, some-injective}
use native.Mathlib.Omega.{arith}
use borrow.Author.Tests.{eqb-true, leb-true, le-leb}
use lib.Dec.{T, eqb, leb}
use lib.ListN.{length}
use mathlib.Core.List.{append-nil}
use Rattle.der.specs.meaning.Tree.{Tree, none, element, header, encode, WellFormed}
use Rattle.der.specs.meaning.Identifier.{constructed}
use Rattle.der.proofs.Laws.{constructed_bit_lem, header_octets, shortest_small, encode_none, encode_element, well_formed_deep, well_formed_element}
use Rattle.time.specs.meaning.Time.{utc_moment, generalized_moment, time_moment}
use Rattle.time.specs.meaning.Validity.{shown_moment, forwards}
use Rattle.time.proofs.Laws.{time_utc, time_generalized, time_few, shown_parts, forwards_none, forwards_alone, forwards_two}
use Rattle.crmf.specs.meaning.Value.{is_shown, utc_time, generalized_time_from2050, keeps}
use Rattle.crmf.specs.meaning.Kinds as kinds
use Rattle.crmf.specs.meaning.Notation.{named, holds, done, ◌then◌, plain, holding, ruled, row, maybe, Validity, Time}
use Rattle.crmf.specs.meaning.Grammar.{content}
use Rattle.crmf.specs.meaning.Language.{Matches, end, pass, take, Within, parts}
use Rattle.crmf.specs.meaning.Validity.{Shows, here, later, Forwards}
use Rattle.crmf.specs.meaning.Fields.{Field}
use Rattle.crmf.proofs.theorems.grammar.ChoicesMatch.{holds-true}
use Rattle.crmf.proofs.theorems.messages.FieldsMatch.{Fits, FitsOne, fits_holding, fits_only, fits_cons}
use Rattle.crmf.proofs.theorems.rows.RowLaws.{standing}

-- Some elements are a single Time, which shows a moment.
pub record TimeShown (t : Tree) : Type 0 where
  pub identifier : ℕ
  pub first : ℕ
  pub whole : ℕ
  pub octets : List ℕ
  pub inside : Tree
  pub moment : ℕ
  pub alone : t ≡ element identifier first whole octets inside none
  pub shows : time_moment identifier octets ≡ some moment

-- a moment that is shown
shown_some : (o : Option ℕ) → T (is_shown o) → (n : ℕ) × (o ≡ some n)
unfolding is_shown
shown_some (some n) is = (n, refl)
shown_some absent is = elim is [ ]

-- what comes after the last part
done_none : {R : ℕ → Bool} {t : Tree} → Matches R done t → t ≡ none
done_none end = refl

-- a Time of the grammar shows a moment
pub time_shown : {R : ℕ → Bool} {t : Tree} → Matches R (content Time) t → TimeShown t
unfolding content keeps named
time_shown (pass ok m) = absurd ok
time_shown {R} (take {id = id} {first = p} {whole = w} {c = c} {inside = i} {rest = r} f among fits read kept within m) =
    ⊎_elim utc (λ other. generalized (fits_only other))
    (fits_cons (record { form = f; one = among; keeping = record { fits = fits; read = read; kept = kept; within = within } }))
  where
    time : Field
    time = record { identifier = id; place = p; whole = w; content = c; inside = i }

    shown : (n : ℕ) → time_moment id c ≡ some n → TimeShown (element id p w c i r)
    shown n shows = record { identifier = id; first = p; whole = w; octets = c; inside = i; moment = n; alone = ap (element id p w c i) (done_none m); shows = shows }

    utc : Fits R (ruled utc_time (plain 0x17)) time → TimeShown (element id p w c i r)
    utc fit =
        let (n, shows) = shown_some (utc_moment c) fit.kept in
        shown n (ap (λ (x : ℕ). time_moment x c) (eqb-true id 0x17 (holds-true (eqb id 0x17) fit.fits)) ∙ time_utc c ∙ shows)

    generalized : Fits R (ruled generalized_time_from2050 (plain 0x18)) time → TimeShown (element id p w c i r)
    generalized fit =
        let (n, shows) = shown_some (generalized_moment c) fit.kept in
        shown n (ap (λ (x : ℕ). time_moment x c) (eqb-true id 0x18 (holds-true (eqb id 0x18) fit.fits)) ∙ time_generalized c ∙ shows)

-- the octets of a Time's element
time_octets : {t : Tree} (x : TimeShown t) → encode t ≡ x.identifier ∷ length x.octets ∷ x.octets
time_octets x =
    ap encode x.alone
    ∙ encode_element _ _ _ _ _ none
    ∙ ap₂ ◌++◌ (ap (λ (h : List ℕ). h ++ x.octets) (header_octets _ _ ∙ ap (λ (l : List ℕ). x.identifier ∷ l) (shortest_small (length x.octets) (omega (arith, time_few _ _ _ x.shows))))) encode_none
    ∙ append-nil _

-- what a constructed element holds is its content
filled : (left q id p w : ℕ) (c : List ℕ) (inside rest : Tree) → WellFormed left q (element id p w c inside rest) → constructed id ≡ true → c ≡ encode inside
filled zero q id p w c inside rest formed made = absurd (well_formed_deep q id p w c inside rest formed)
filled (suc left) q id p w c inside rest formed made = (((well_formed_element left q id p w c inside rest).0 formed).0.filled made).0

-- An element that holds a Time, as notBefore and notAfter do: its octets, and the moment that they show.
module _ (left q id p w : ℕ) (c : List ℕ) (inside rest : Tree) (formed : WellFormed left q (element id p w c inside rest)) (made : constructed id ≡ true)
    (x : TimeShown inside) where
  abbrev body : List ℕ
  body = x.identifier ∷ length x.octets ∷ x.octets

  held : c ≡ body
  held = filled left q id p w c inside rest formed made ∙ time_octets x

  own : header id c ++ c ≡ id ∷ length body ∷ body
  own =
      ap (λ (l : List ℕ). header id l ++ l) held
      ∙ ap (λ (h : List ℕ). h ++ body) (header_octets id body ∙ ap (λ (l : List ℕ). id ∷ l) (shortest_small (length body) (omega (arith, time_few _ _ _ x.shows))))

  pub field_shows : (eqb id 0xA0 || eqb id 0xA1) ≡ true → shown_moment (header id c ++ c) ≡ some x.moment
  field_shows one = ap shown_moment own ∙ shown_parts id x.identifier x.octets x.moment one x.shows

  field_octets : encode (element id p w c inside rest) ≡ id ∷ length body ∷ (body ++ encode rest)
  field_octets = encode_element id p w c inside rest ∙ ap (λ (l : List ℕ). l ++ encode rest) own

-- What is shown among no elements, and by an element that holds a Time.
shows_some : {id n : ℕ} {t : Tree} → Shows id n t → t ≡ none → ⊥
shows_some (here is shows) e = let z : ◌≡◌ {A = ℕ} 0 1 = cc in absurd (omega arith)
shows_some (later more) e = let z : ◌≡◌ {A = ℕ} 0 1 = cc in absurd (omega arith)

-- the moment of the first of some elements
abbrev first_moment : Tree → Option ℕ
first_moment none = absent
first_moment (element id first whole c inside rest) = time_moment id c

module _ (id n other p w : ℕ) (c : List ℕ) (inside rest : Tree) (x : TimeShown inside) where
  shows_held : other ≡ id → Shows id x.moment (element other p w c inside rest)
  shows_held is = rw x.alone (here is x.shows)

  shows_ways : {t : Tree} → Shows id n t → t ≡ element other p w c inside rest → ((other ≡ id) × (n ≡ x.moment)) ⊎ Shows id n rest
  shows_ways (here {time = time} {place = place} {size = size} {c = d} {inner = inner} is shows) e =
      let held : inside ≡ element time place size d inner none = cc in
      let same : first_moment inside ≡ some n = ap first_moment held ∙ shows in
      inl (cc, some-injective _ _ (sym same ∙ ap first_moment x.alone ∙ x.shows))
  shows_ways (later {rest = more} shows) e = let same : more ≡ rest = cc in inr (rw (sym same) shows)

-- the identifiers of notBefore and notAfter are constructed
pub made : (id : ℕ) → (id ≡ 0xA0) ⊎ (id ≡ 0xA1) → constructed id ≡ true
made id = ⊎_elim (λ is. constructed_bit_lem id (rw is refl)) (λ is. constructed_bit_lem id (rw is refl))

pub either_one : (id : ℕ) → (id ≡ 0xA0) ⊎ (id ≡ 0xA1) → (eqb id 0xA0 || eqb id 0xA1) ≡ true
either_one id = ⊎_elim (λ is. rw is refl) (λ is. rw is refl)

-- One of them alone runs forwards, by its octets and by its elements.
module _ (left q id p w : ℕ) (c : List ℕ) (inside : Tree) (formed : WellFormed left q (element id p w c inside none)) (one : (id ≡ 0xA0) ⊎ (id ≡ 0xA1))
    (x : TimeShown inside) where
  alone_forwards : forwards (encode (element id p w c inside none)) ≡ true
  alone_forwards =
      let held = x.identifier ∷ length x.octets ∷ x.octets in
      ap forwards (field_octets left q id p w c inside none formed (made id one) x ∙ ap (λ (l : List ℕ). id ∷ length held ∷ l) (ap (λ (l : List ℕ). held ++ l) encode_none ∙ append-nil held))
      ∙ forwards_alone id held

  alone_ordered : Forwards (element id p w c inside none)
  alone_ordered before after first second =
      ⊎_elim
      (λ a. ⊎_elim (λ b. absurd (omega (arith, a.0, b.0))) (λ more. absurd (shows_some more refl)) (shows_ways 0xA1 after id p w c inside none x second refl))
      (λ more. absurd (shows_some more refl))
      (shows_ways 0xA0 before id p w c inside none x first refl)

-- Both run forwards if the moment of the first isn't later than that of the second, by their octets
module _ (left q p w v u : ℕ) (c d : List ℕ) (inside within : Tree) where
  abbrev two : ℕ → ℕ → Tree
  two i j = element i p w c inside (element j v u d within none)

  module _ (i j : ℕ) (formed : WellFormed left q (two i j)) (first : i ≡ 0xA0) (second : j ≡ 0xA1) (x : TimeShown inside) (y : TimeShown within) where
    both_forwards : forwards (encode (two i j)) ≡ leb x.moment y.moment
    both_forwards =
        let rest = element j v u d within none in
        let held = x.identifier ∷ length x.octets ∷ x.octets in
        let further = (standing q i p w c inside rest left formed).further in
        ap forwards (field_octets left q i p w c inside rest formed (made i (inl first)) x)
        ∙ forwards_two i held (encode rest) x.moment y.moment
        (shown_parts i x.identifier x.octets x.moment (either_one i (inl first)) x.shows)
        (ap shown_moment (encode_element j v u d within none ∙ ap (λ (l : List ℕ). (header j d ++ d) ++ l) encode_none ∙ append-nil _)
        ∙ field_shows left (p + w) j v u d within none further (made j (inr second)) y (either_one j (inr second)))

    abbrev rest : Tree
    rest = element j v u d within none

    first_shown : (n : ℕ) → Shows 0xA0 n (two i j) → n ≡ x.moment
    first_shown n shows =
        ⊎_elim (λ own. own.1)
        (λ more. ⊎_elim (λ other. absurd (omega (arith, other.0, second))) (λ no_more. absurd (shows_some no_more refl)) (shows_ways 0xA0 n j v u d within none y more refl))
        (shows_ways 0xA0 n i p w c inside rest x shows refl)

    second_shown : (n : ℕ) → Shows 0xA1 n (two i j) → n ≡ y.moment
    second_shown n shows =
        ⊎_elim (λ other. absurd (omega (arith, other.0, first)))
        (λ more. ⊎_elim (λ own. own.1) (λ no_more. absurd (shows_some no_more refl)) (shows_ways 0xA1 n j v u d within none y more refl))
        (shows_ways 0xA1 n i p w c inside rest x shows refl)

    -- and by their elements
    both_ordered : (leb x.moment y.moment ≡ true) ↔ Forwards (two i j)
    both_ordered = (
      λ le before after shows also. omega (arith, leb-true x.moment y.moment le, first_shown before shows, second_shown after also),
      λ all. le-leb _ _ (all x.moment y.moment (shows_held 0xA0 0 i p w c inside rest x first) (later (shows_held 0xA1 0 j v u d within none y second))),
    )

-- what holds a Time shows a moment
pub time_held : {R : ℕ → Bool} {t : Tree} → Within R (holds Time) t → TimeShown t
time_held (parts m) = time_shown m

-- an element in the form of notBefore or notAfter has its identifier and holds a Time
held_time : {R : ℕ → Bool} (kind a : ℕ) (f : Field) → FitsOne R (row kind (holding a Time) ∷ []) f → (f.identifier ≡ a) × TimeShown f.inside
held_time kind a f fit = let (is, m) = fits_holding a Time kind f (fits_only fit) in (is, time_shown m)

-- the order by octets and by elements, if both hold, or if both are the same test
both_hold : {A B : Type 0} → A → B → A ↔ B
both_hold a b = (λ _. b, λ _. a)

-- "notAfter isn't earlier than notBefore": the octets of a validity that the grammar describes run forwards exactly if its elements do.
module _ {R : ℕ → Bool} (left q : ℕ) where
  -- without notBefore
  forwards_after : {t : Tree} → Matches R (maybe (row kinds.not_after (holding 0xA1 Time)) then done) t → WellFormed left q t → (forwards (encode t) ≡ true) ↔ Forwards t
  forwards_after (pass ok end) formed = both_hold (ap forwards encode_none ∙ forwards_none) (λ before after shows. absurd (shows_some shows refl))
  forwards_after (take {id = id} {first = p} {whole = w} {c = c} {inside = i} f among fits read kept within m) formed =
      let (is, x) = held_time kinds.not_after 0xA1 (record { identifier = id; place = p; whole = w; content = c; inside = i })
      (record { form = f; one = among; keeping = record { fits = fits; read = read; kept = kept; within = within } }) in
      subst (λ (r : Tree). WellFormed left q (element id p w c i r) → (forwards (encode (element id p w c i r)) ≡ true) ↔ Forwards (element id p w c i r)) (sym (done_none m))
      (λ own. both_hold (alone_forwards left q id p w c i own (inr is) x) (alone_ordered left q id p w c i own (inr is) x))
      formed

  -- with it
  forwards_before : (id p w : ℕ) (c : List ℕ) (i : Tree) → id ≡ 0xA0 → TimeShown i → {t : Tree} → Matches R (maybe (row kinds.not_after (holding 0xA1 Time)) then done) t
      → WellFormed left q (element id p w c i t) → (forwards (encode (element id p w c i t)) ≡ true) ↔ Forwards (element id p w c i t)
  forwards_before id p w c i is x (pass ok end) formed =
      both_hold (alone_forwards left q id p w c i formed (inl is) x) (alone_ordered left q id p w c i formed (inl is) x)
  forwards_before id p w c i is x (take {id = j} {first = v} {whole = u} {c = d} {inside = k} f among fits read kept within m) formed =
      let (also, y) = held_time kinds.not_after 0xA1 (record { identifier = j; place = v; whole = u; content = d; inside = k })
      (record { form = f; one = among; keeping = record { fits = fits; read = read; kept = kept; within = within } }) in
      let both : Tree → Tree = λ r. element id p w c i (element j v u d k r) in
      subst (λ (r : Tree). WellFormed left q (both r) → (forwards (encode (both r)) ≡ true) ↔ Forwards (both r)) (sym (done_none m))
      (λ own.
      let same = both_forwards left q p w v u c d i k id j own is also x y in
      let ordered = both_ordered left q p w v u c d i k id j own is also x y in
      (λ runs. ordered.0 (sym same ∙ runs), λ all. same ∙ ordered.1 all))
      formed

  pub forwards_exactly : {t : Tree} → WellFormed left q t → Matches R (content Validity) t → (forwards (encode t) ≡ true) ↔ Forwards t
  unfolding content
  forwards_exactly formed (pass ok m) = forwards_after m formed
  forwards_exactly formed (take {id = id} {first = p} {whole = w} {c = c} {inside = i} f among fits read kept within m) =
      let (is, x) = held_time kinds.not_before 0xA0 (record { identifier = id; place = p; whole = w; content = c; inside = i })
      (record { form = f; one = among; keeping = record { fits = fits; read = read; kept = kept; within = within } }) in
      forwards_before id p w c i is x m formed
