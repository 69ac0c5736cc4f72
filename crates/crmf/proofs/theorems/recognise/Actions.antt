-- What the action of a line says of it, for the recogniser: each law is one computed test of the table's lines. Assumes nothing.
use Prim.Native.Nat.{ℕ}
use mathlib.Core.Bool.{Bool, true, false, not, ◌&&◌, ◌||◌, and-eq-true_iff, false≢true}
use mathlib.Core.Logic.{◌⊎◌, inl, inr, ⊎_elim}
use mathlib.Core.Path.{◌≡◌, refl, sym, ap, ◌∙◌}
use mathlib.Core.List.{List}
use native.Mathlib.Omega.{arith}
use borrow.Author.Tests.{eqb-true, eqb-false, not-true}
use lib.Dec.{eqb}
use Rattle.der.specs.meaning.Identifier.{allowed, constructed}
use Rattle.der.specs.steps.Order.{closes}
use Rattle.der.proofs.Laws.{ruled, closes_free, constructed_octet, known, known_allowed}
use Rattle.crmf.specs.steps.grammar.Codes as codes
use Rattle.crmf.specs.meaning.Kinds as kinds
use Rattle.crmf.specs.meaning.Value.{Rule, always, integer, bit_string}
use Rattle.crmf.specs.meaning.Notation.{Identifiers, octet, general_name, anything, nothing, named, both, alone, Marking, whatever, unless_two, Name, AlgId, Spki, OneName, Rdn, Attribute}
use Rattle.crmf.specs.steps.grammar.Lines.{Judge, keep, choose, Line, lines, start}
use Rattle.crmf.specs.steps.grammar.Packed.{judge_code, constructed_bit, action_of}
use Rattle.crmf.specs.steps.explain.Walk.{line}
use Rattle.crmf.proofs.theorems.lists.Tests.{all, either}
use Rattle.crmf.proofs.theorems.lines.JudgeCodes.{same_rule, rule_range, selector_range}
use Rattle.crmf.proofs.theorems.lines.WordFields.{computed, at_line}

-- a test of the one octet that identifiers are
abbrev one : (ℕ → Bool) → Identifiers → Bool
one f (octet a) = f a
one f general_name = false
one f anything = false
one f nothing = false

one_octet : (f : ℕ → Bool) (i : Identifiers) → one f i ≡ true → (a : ℕ) × (i ≡ octet a) × (f a ≡ true)
one_octet f (octet a) e = (a, refl, e)
one_octet f general_name e = absurd (false≢true e)
one_octet f anything e = absurd (false≢true e)
one_octet f nothing e = absurd (false≢true e)

-- Each identifier of a line that has an inside is a list's.
pub inside_constructed : (k id : ℕ) → named (line k).identifiers id ≡ true → ((line k).inside ≡ 0 → ⊥) → (allowed id ≡ true) × (constructed id ≡ true)
unfolding computed named
inside_constructed k id e some =
    ⊎_elim (λ p. absurd (some (eqb-true _ _ p)))
    (λ p.
    let (a, is, fits) = one_octet (λ i. known i && constructed_bit i) (line k).identifiers p in
    let (may, made) = (and-eq-true_iff _ _).0 fits in
    let same : id ≡ a = eqb-true _ _ (ap (λ i. named i id) (sym is) ∙ e) in
    rw same (known_allowed a may, constructed_octet a ∙ made))
    (either _ _ (at_line (λ x. eqb x.inside 0 || one (λ i. known i && constructed_bit i) x.identifiers) refl k))

-- Of the lines that have an inside only a RelativeDistinguishedName's is of a SET, so elements of all others keep the rule at their end.
pub inside_closes : (k id : ℕ) → named (line k).identifiers id ≡ true → eqb (line k).inside 0 ≡ false → eqb (action_of (line k)) codes.take_rdn ≡ false
    → (c : List ℕ) → closes id c ≡ true
unfolding computed named
inside_closes k id e some other c =
    let unlike : (eqb (line k).inside 0 || eqb (action_of (line k)) codes.take_rdn) ≡ false = rw (some, other) in
    ⊎_elim (λ p. absurd (false≢true (sym unlike ∙ p)))
    (λ p.
    let (a, is, fits) = one_octet (λ i. not (eqb i 0x31)) (line k).identifiers p in
    let same : id ≡ a = eqb-true _ _ (ap (λ i. named i id) (sym is) ∙ e) in
    closes_free id c (rw same (not-true (eqb a 0x31) fits)))
    (either _ _ (at_line (λ x. (eqb x.inside 0 || eqb (action_of x) codes.take_rdn) || one (λ i. not (eqb i 0x31)) x.identifiers) refl k))

-- A line of both editions for elements of one identifier, a list's or not, whose value keeps a rule; lists have lines inside, others none.
pub record Plain (k i : ℕ) (r : Rule) (list : Bool) : Type 0 where
  pub identifier : (line k).identifiers ≡ octet i
  pub may : allowed i ≡ true
  pub lists : constructed i ≡ list
  pub free : eqb (line k).inside 0 ≡ not list
  pub judge : (line k).judge ≡ keep r
  pub marking : (line k).marking ≡ whatever both

-- The identifier that such a line is found for is its own.
pub plain_names : {k i : ℕ} {r : Rule} {list : Bool} → Plain k i r list → (id : ℕ) → named (line k).identifiers id ≡ true → id ≡ i
unfolding named
plain_names p id e = eqb-true _ _ (ap (λ i. named i id) (sym p.identifier) ∙ e)

-- tests of two booleans, of a marking and of a judge
abbrev alike : Bool → Bool → Bool
alike true b = b
alike false b = not b

alike_same : (a b : Bool) → alike a b ≡ true → a ≡ b
alike_same true b e = sym e
alike_same false b e = sym (not-true b e)

abbrev common : Marking → Bool
common (whatever both) = true
common (whatever (alone e d detail)) = false
common (unless_two m) = false

common_both : (m : Marking) → common m ≡ true → m ≡ whatever both
common_both (whatever both) e = refl
common_both (whatever (alone e d detail)) t = absurd (false≢true t)
common_both (unless_two m) t = absurd (false≢true t)

by_rule_lem : (j : Judge) (r : Rule) → judge_code j ≡ judge_code (keep r) → j ≡ keep r
by_rule_lem (keep x) r e = ap keep (same_rule x r e)
by_rule_lem (choose s) r e = absurd (omega (arith, rule_range r, selector_range s))

-- the test of a line's judge and marking, and of such a line
abbrev judged_by_lem : Rule → Line → Bool
judged_by_lem r x = eqb (judge_code x.judge) (judge_code (keep r)) && common x.marking

abbrev plainly : (ℕ → Bool) → Rule → Bool → Line → Bool
plainly f r list x =
    (one (λ i. known i && (alike (constructed_bit i) list && f i)) x.identifiers && alike (eqb x.inside 0) (not list)) && judged_by_lem r x

judged_right : (r : Rule) (x : Line) → judged_by_lem r x ≡ true → (x.judge ≡ keep r) × (x.marking ≡ whatever both)
judged_right r x e =
    let (j, m) = (and-eq-true_iff _ _).0 e in
    (by_rule_lem x.judge r (eqb-true _ _ j), common_both x.marking m)

plain : (f : ℕ → Bool) (r : Rule) (list : Bool) (k : ℕ) → plainly f r list (line k) ≡ true → (i : ℕ) × Plain k i r list × (f i ≡ true)
plain f r list k e =
    let (head, tail) = (and-eq-true_iff _ _).0 e in
    let (o, inner) = (and-eq-true_iff _ _).0 head in
    let (j, m) = judged_right r (line k) tail in
    let (i, is, fits) = one_octet (λ i. known i && (alike (constructed_bit i) list && f i)) (line k).identifiers o in
    let (a, more) = (and-eq-true_iff _ _).0 fits in
    let (c, t) = (and-eq-true_iff _ _).0 more in
    (i, record { identifier = is; may = known_allowed i a; lists = constructed_octet i ∙ alike_same _ _ c; free = alike_same _ _ inner; judge = j; marking = m }, t)

-- a test that passes at all lines of an action
at_action : (a : ℕ) (f : Line → Bool) → all (λ x. not (eqb (action_of x) a) || f x) lines ≡ true → (k : ℕ) → action_of (line k) ≡ a → f (line k) ≡ true
at_action a f e k is =
    ⊎_elim (λ p. absurd (eqb-false _ _ (not-true _ p) is)) (λ p. p) (either _ _ (at_line (λ x. not (eqb (action_of x) a) || f x) e k))

-- the line's identifier is one, and its value keeps no further rule
typed : (i k : ℕ) → plainly (λ j. eqb j i) always false (line k) ≡ true → Plain k i always false
typed i k e =
    let (j, p, same) = plain (λ j. eqb j i) always false k e in
    rw (eqb-true j i same) at p

-- the line's identifier is one whose content has no rule
untyped : (r : Rule) (k : ℕ) → plainly (λ j. not (ruled j)) r false (line k) ≡ true → (i : ℕ) × Plain k i r false × (ruled i ≡ false)
untyped r k e =
    let (i, p, free) = plain (λ j. not (ruled j)) r false k e in
    (i, p, not-true (ruled i) free)

-- a value under an identifier that has a type's rule, or under one that has none with the rule on the line
abbrev pub Asked : ℕ → ℕ → Rule → Type 0
Asked k i r = Plain k i always false ⊎ ((j : ℕ) × Plain k j r false × (ruled j ≡ false))

abbrev asked : ℕ → Rule → Line → Bool
asked i r x = plainly (λ j. eqb j i) always false x || plainly (λ j. not (ruled j)) r false x

asked_right : (i : ℕ) (r : Rule) (k : ℕ) → asked i r (line k) ≡ true → Asked k i r
asked_right i r k e = ⊎_elim (λ p. inl (typed i k p)) (λ p. inr (untyped r k p)) (either _ _ e)

-- the line has no identifier
pub nothing_line : (k : ℕ) → action_of (line k) ≡ codes.take_nothing → (line k).identifiers ≡ nothing
unfolding computed
nothing_line k a = go (line k).identifiers (at_action codes.take_nothing (λ x. none x.identifiers) refl k a)
  where
    none : Identifiers → Bool
    none nothing = true
    none (octet a) = false
    none general_name = false
    none anything = false

    go : (i : Identifiers) → none i ≡ true → i ≡ nothing
    go nothing e = refl
    go (octet a) e = absurd (false≢true e)
    go general_name e = absurd (false≢true e)
    go anything e = absurd (false≢true e)

-- a primitive value without a rule
pub free_line : (k : ℕ) → action_of (line k) ≡ codes.take_unseen → (i : ℕ) × Plain k i always false × (ruled i ≡ false)
unfolding computed
free_line k a = untyped always k (at_action codes.take_unseen (plainly (λ j. not (ruled j)) always false) refl k a)

-- an OBJECT IDENTIFIER, a UTF8String
pub object_line : (k : ℕ) → action_of (line k) ≡ codes.take_object_identifier → Plain k 0x06 always false
unfolding computed
object_line k a = typed 0x06 k (at_action codes.take_object_identifier (plainly (λ j. eqb j 0x06) always false) refl k a)

pub text_line : (k : ℕ) → action_of (line k) ≡ codes.take_utf8_string → Plain k 0x0C always false
unfolding computed
text_line k a = typed 0x0C k (at_action codes.take_utf8_string (plainly (λ j. eqb j 0x0C) always false) refl k a)

-- an INTEGER, a BIT STRING
pub integer_line : (k : ℕ) → action_of (line k) ≡ codes.take_integer → Asked k 0x02 integer
unfolding computed
integer_line k a = asked_right 0x02 integer k (at_action codes.take_integer (asked 0x02 integer) refl k a)

pub bits_line : (k : ℕ) → action_of (line k) ≡ codes.take_bit_string → Asked k 0x03 bit_string
unfolding computed
bits_line k a = asked_right 0x03 bit_string k (at_action codes.take_bit_string (asked 0x03 bit_string) refl k a)

-- a certReqId, and no other line has their kind
pub id_line : (k : ℕ) → action_of (line k) ≡ codes.take_cert_req_id → Plain k 0x02 always false
unfolding computed
id_line k a = typed 0x02 k (at_action codes.take_cert_req_id (plainly (λ j. eqb j 0x02) always false) refl k a)

pub id_kind : (k : ℕ) → eqb (line k).kind kinds.cert_req_id ≡ eqb (action_of (line k)) codes.take_cert_req_id
unfolding computed
id_kind k = alike_same _ _ (at_line (λ x. alike (eqb x.kind kinds.cert_req_id) (eqb (action_of x) codes.take_cert_req_id)) refl k)

-- any element, whose inside is free
pub record Free (k : ℕ) : Type 0 where
  pub identifiers : (line k).identifiers ≡ anything
  pub free : eqb (line k).inside 0 ≡ true
  pub judge : (line k).judge ≡ keep always
  pub marking : (line k).marking ≡ whatever both

pub any_line : (k : ℕ) → action_of (line k) ≡ codes.take_nest → Free k
unfolding computed
any_line k a =
    let (head, tail) = (and-eq-true_iff _ _).0 (at_action codes.take_nest (λ x. (any x.identifiers && eqb x.inside 0) && judged_by_lem always x) refl k a) in
    let (i, f) = (and-eq-true_iff _ _).0 head in
    let (j, m) = judged_right always (line k) tail in
    record { identifiers = go (line k).identifiers i; free = f; judge = j; marking = m }
  where
    any : Identifiers → Bool
    any anything = true
    any nothing = false
    any (octet a) = false
    any general_name = false

    go : (i : Identifiers) → any i ≡ true → i ≡ anything
    go anything e = refl
    go nothing e = absurd (false≢true e)
    go (octet a) e = absurd (false≢true e)
    go general_name e = absurd (false≢true e)

-- a list with lines inside
pub inside_line_lem : (k : ℕ) → action_of (line k) ≡ codes.take_inside → (i : ℕ) × Plain k i always true
unfolding computed
inside_line_lem k a = let (i, p, t) = plain (λ j. true) always true k (at_action codes.take_inside (plainly (λ j. true) always true) refl k a) in (i, p)

-- the lines of a container of the name are inside
abbrev pub Opens : ℕ → Name → Type 0
Opens k n = (i : ℕ) × Plain k i always true × ((line k).inside ≡ start n)

abbrev opens : Name → Line → Bool
opens n x = plainly (λ j. true) always true x && eqb x.inside (start n)

opens_right : (n : Name) (k : ℕ) → opens n (line k) ≡ true → Opens k n
opens_right n k e =
    let (h, s) = (and-eq-true_iff _ _).0 e in
    let (i, p, t) = plain (λ j. true) always true k h in
    (i, p, eqb-true _ _ s)

pub algorithm_line : (k : ℕ) → action_of (line k) ≡ codes.take_alg_id → Opens k AlgId
unfolding computed
algorithm_line k a = opens_right AlgId k (at_action codes.take_alg_id (opens AlgId) refl k a)

pub attribute_line : (k : ℕ) → action_of (line k) ≡ codes.take_attribute → Opens k Attribute
unfolding computed
attribute_line k a = opens_right Attribute k (at_action codes.take_attribute (opens Attribute) refl k a)

pub part_line : (k : ℕ) → action_of (line k) ≡ codes.take_rdn → Opens k Rdn
unfolding computed
part_line k a = opens_right Rdn k (at_action codes.take_rdn (opens Rdn) refl k a)

pub key_line : (k : ℕ) → action_of (line k) ≡ codes.take_spki → Opens k Spki
unfolding computed
key_line k a = opens_right Spki k (at_action codes.take_spki (opens Spki) refl k a)

pub name_line : (k : ℕ) → action_of (line k) ≡ codes.take_name → Opens k OneName
unfolding computed
name_line k a = opens_right OneName k (at_action codes.take_name (opens OneName) refl k a)
