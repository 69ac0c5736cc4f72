-- `compare::merge::children`, `spot` and `both` meet their contracts, by one induction on the rows that are left: below two containers there are
-- fewer. The loop always went from its start to its cursor. Assumes nothing.
use Prim.Native.Nat.{ℕ, ◌+◌, ◌≤◌, ◌<◌}
use native.Mathlib.Decide.{dec_le}
use native.Mathlib.Omega.{arith}
use mathlib.Core.Path.{◌≡◌, refl, sym, ap, ap₂, subst, ◌∙◌}
use mathlib.Core.Bool.{Bool, true, false, ◌||◌, false≢true}
use mathlib.Core.List.{List, [], ◌∷◌}
use lib.IntN.{ℤ, pos}
use lib.ListN.{length}
use lib.Seq.{slice}
use mir.Facts.{to_z-of_z}
use mir.Syntax.{w64}
use mir.Val.{to_z, of_z}
use Rattle.crmf.specs.meaning.Rows.{container}
use Rattle.crmf.specs.steps.rows.Fill.{rows_of_input}
use Rattle.compare.specs.meaning.Counterparts.{row_at, Child, by_position}
use Rattle.compare.specs.meaning.Changes.{row_octets, leaves_differ, entry}
use Rattle.compare.specs.meaning.Times.{leaf_seconds}
use Rattle.compare.specs.steps.Lists.{Tells, later_between}
use Rattle.compare.specs.steps.Tables.{child_at}
use Rattle.compare.specs.steps.Walking.{Standing}
use Rattle.compare.proofs.theorems.TableRows.{table_no_child, table_next}
use Rattle.compare.proofs.theorems.WalkSteps.{child_first, child_second, one_position, kinds_first, kinds_second, alike, step_first, step_second, step_unlike, step_same, step_differing, step_inside, went_on, gone}
use Rattle.compare.proofs.merge.+both_children_spot.Goals as goal
use Rattle.compare.proofs.merge.+both_children_spot.Goals.{both-After-container, both-After-equal, both-After-seconds_later-seconds, both-Start, children-At-loop-above, children-Start, spot-After-by_position, spot-After-kind-other, spot-Else-not-is_child, spot-Else-not-is_child-2, spot-Start, spot-Then-not-is_child}

-- what two tests say together
neither : (x y : Bool) → (x || y) ≡ false → (x ≡ false) × (y ≡ false)
neither true y e = absurd (false≢true (sym e))
neither false y e = (refl, e)

other_one : (x y : Bool) → (x || y) ≡ true → y ≡ false → x ≡ true
other_one true y e f = refl
other_one false y e f = absurd (false≢true (sym f ∙ e))

-- no less, and not the same
different : {x y : ℕ} → y ≤ x → (x ≡ y → ⊥) → y < x
different {x} {y} l apart = go (dec_le x y)
  where
    go : Dec (x ≤ y) → y < x
    go (yes m) = absurd (apart (omega arith))
    go (no m) = omega arith

-- With the measure t: what holds before a call of that measure, and before one of a lower.
module _ (t : ℕ) where
  module _ (c : both-Start t) where
    -- what `both` is lent: the walk stands before two rows that are alike
    standing_of : (let a = c.args in Standing a.first.bytes.now a.second.bytes.now a.first.rows.now a.second.rows.now a.above a.at)
    standing_of = c.requires.0

    facing_of : (let a = c.args in (a.at.first < length a.first.rows.now) × (a.at.second < length a.second.rows.now))
    facing_of =
        let e = c.requires.1 in
        (omega (arith, e.one.there, standing_of.first.sized), omega (arith, e.two.there, standing_of.second.sized))

  module _ (c : both-After-container t) where
    -- the kind that is read is the next row's,
    kind_read : (let a = c.args in c.kind-kind.result ≡ (row_at (rows_of_input a.first.bytes.now) a.at.first).kind)
    kind_read =
        let start = (goal.at.both-After-container t c).Start in
        c.kind-kind.ensures ∙ (standing_of start).first.kinds start.args.at.first (facing_of start).0

    -- and is asked for
    kind_of_next : (let a = c.args in c.container.result ≡ container (row_at (rows_of_input a.first.bytes.now) a.at.first).kind)
    kind_of_next = c.container.ensures ∙ ap container kind_read

  module _ (c : both-After-equal t) where
    abbrev entered : both-Start t
    entered = (goal.at.both-After-equal t c).Start

    -- the octets of the next rows,
    abbrev mine : List ℕ
    mine = row_octets entered.args.first.bytes.now (row_at (rows_of_input entered.args.first.bytes.now) entered.args.at.first)

    abbrev yours : List ℕ
    yours = row_octets entered.args.second.bytes.now (row_at (rows_of_input entered.args.second.bytes.now) entered.args.at.second)

    -- as they are lent,
    mine_lent : c.element-here.result.now ≡ mine
    mine_lent =
        let start = entered in
        let i = entered.args.at.first in
        let x = (standing_of start).first in
        let there = (facing_of start).0 in
        c.element-here.ensures ∙ ap₂ (λ (f w : ℕ). slice f (f + w) entered.args.first.bytes.now) (x.firsts i there) (x.wholes i there)

    yours_lent : c.element-there.result.now ≡ yours
    yours_lent =
        let start = entered in
        let j = entered.args.at.second in
        let x = (standing_of start).second in
        let there = (facing_of start).1 in
        c.element-there.ensures ∙ ap₂ (λ (f w : ℕ). slice f (f + w) entered.args.second.bytes.now) (x.firsts j there) (x.wholes j there)

    -- which are compared
    octets_told : Tells c.equal.result mine yours
    octets_told = subst (λ (l : List ℕ). Tells c.equal.result l yours) mine_lent (subst (Tells c.equal.result _) yours_lent c.equal.ensures)

    told_same : c.equal.result ≡ true → mine ≡ yours
    told_same e = subst (λ (b : Bool). Tells b mine yours) e octets_told

    told_apart : c.equal.result ≡ false → mine ≡ yours → ⊥
    told_apart e = subst (λ (b : Bool). Tells b mine yours) e octets_told

  -- the seconds that are told are the next rows'
  seconds_told : (c : both-After-seconds_later-seconds t) → (let a = (entered (goal.at.both-After-seconds_later-seconds t c).After-equal).args in later_between a.first.bytes.now a.second.bytes.now a.at.first a.at.second ≡ to_z w64 (of_z w64 c.seconds_later-seconds.result))
  seconds_told c =
      let compared = (goal.at.both-After-seconds_later-seconds t c).After-equal in
      sym
      (to_z-of_z {w = w64} (record { sfits = c.seconds_later-seconds.type_inv })
      ∙ c.seconds_later-seconds.ensures
      ∙ ap₂ (leaf_seconds _) (mine_lent compared) (yours_lent compared)
      ∙ ap (λ (kind : ℕ). leaf_seconds kind (mine compared) (yours compared)) (kind_read (goal.at.both-After-equal t compared).After-container))

  module _ (c : spot-Start t) where
    -- what `spot` is lent: the walk stands before a child
    stands : (let a = c.args in Standing a.first.bytes.now a.second.bytes.now a.first.rows.now a.second.rows.now a.above a.at)
    stands = c.requires.0

    -- a row that is one is in the batch
    in_one : (let a = c.args in Child (rows_of_input a.first.bytes.now) a.above.first a.at.first → (a.at.first < length a.first.rows.now) × (a.at.second ≤ 32767) × (a.at.count ≤ a.at.first + a.at.second))
    in_one d =
        (omega (arith, d.there, stands.first.sized), omega (arith, stands.in_second, stands.second.few), stands.few)

    in_two : (let a = c.args in Child (rows_of_input a.second.bytes.now) a.above.second a.at.second → (a.at.second < length a.second.rows.now) × (a.at.first ≤ 32767) × (a.at.count ≤ a.at.first + a.at.second))
    in_two d =
        (omega (arith, d.there, stands.second.sized), omega (arith, stands.in_first, stands.first.few), stands.few)

  module _ (c : spot-Then-not-is_child t) where
    -- there is none of the second, so one of the first
    none_of_second : (let a = c.args in child_at a.second.rows.now a.above.second a.at.second ≡ false)
    none_of_second = sym c.is_child.ensures ∙ c.if-not-is_child.true

    one_of_first : (let a = c.args in Child (rows_of_input a.first.bytes.now) a.above.first a.at.first)
    one_of_first = child_first (stands (goal.at.spot-Then-not-is_child t c).Start) (other_one _ _ c.requires.1 none_of_second)

  module _ (c : spot-Else-not-is_child t) where
    -- there is one of the second
    one_of_second : (let a = c.args in Child (rows_of_input a.second.bytes.now) a.above.second a.at.second)
    one_of_second = child_second (stands (goal.at.spot-Else-not-is_child t c).Start) (sym c.is_child.ensures ∙ c.if-not-is_child.false)

  module _ (c : spot-Else-not-is_child-2 t) where
    abbrev begins : spot-Start t
    begins = (goal.at.spot-Else-not-is_child-2 t c).Start

    -- there is one of each
    first_here : (let a = begins.args in Child (rows_of_input a.first.bytes.now) a.above.first a.at.first)
    first_here = child_first (stands begins) (sym c.is_child-2.ensures ∙ c.if-not-is_child-2.false)

    second_here : (let a = begins.args in Child (rows_of_input a.second.bytes.now) a.above.second a.at.second)
    second_here = one_of_second (goal.at.spot-Else-not-is_child-2 t c).Else-not-is_child

  module _ (c : spot-After-kind-other t) where
    abbrev met : spot-Else-not-is_child-2 t
    met = (goal.at.spot-After-kind-other t c).Else-not-is_child-2

    -- their kinds
    first_kind : (let a = (begins met).args in c.kind-kind.result ≡ (row_at (rows_of_input a.first.bytes.now) a.at.first).kind)
    first_kind = let start = begins met in c.kind-kind.ensures ∙ (stands start).first.kinds start.args.at.first (in_one start (first_here met)).0

    second_kind : (let a = (begins met).args in c.kind-other.result ≡ (row_at (rows_of_input a.second.bytes.now) a.at.second).kind)
    second_kind = let start = begins met in c.kind-other.ensures ∙ (stands start).second.kinds start.args.at.second (in_two start (second_here met)).0

  module _ (c : spot-After-by_position t) where
    abbrev asked_kinds : spot-After-kind-other t
    asked_kinds = (goal.at.spot-After-by_position t c).After-kind-other

    -- whether the parents' children are matched by position
    position_told : (let a = (begins (met asked_kinds)).args in by_position (row_at (rows_of_input a.first.bytes.now) a.above.first).kind ≡ c.by_position.result)
    position_told =
        let start = begins (met asked_kinds) in
        let x = stands start in
        sym (c.by_position.ensures ∙ ap by_position (c.kind.ensures ∙ x.first.kinds start.args.above.first (omega (arith, x.past_first, x.in_first))))

    -- their kinds aren't the same
    unlike_kinds : (let a = (begins (met asked_kinds)).args in (row_at (rows_of_input a.first.bytes.now) a.at.first).kind ≡ (row_at (rows_of_input a.second.bytes.now) a.at.second).kind → ⊥)
    unlike_kinds same = c.if-kind-other.false (first_kind asked_kinds ∙ same ∙ sym (second_kind asked_kinds))

pub both-returns-then-container : goal.both-returns-then-container
both-returns-then-container t c =
    let start = (goal.at.both-returns-then-container t c).Start in
    let asked = (goal.at.both-returns-then-container t c).After-container in
    step_inside ((standing_of t) start) start.requires.1 (sym ((kind_of_next t) asked) ∙ c.if-container.true) refl refl refl c.children.ensures

pub both-returns-then-equal : goal.both-returns-then-equal
both-returns-then-equal t c =
    let start = (goal.at.both-returns-then-equal t c).Start in
    step_same ((standing_of t) start) start.requires.1 (sym ((kind_of_next t) (goal.at.both-returns-then-equal t c).After-container) ∙ c.if-container.false)
    ((told_same t) (goal.at.both-returns-then-equal t c).After-equal c.if-equal.true) refl refl refl refl

pub both-returns : goal.both-returns
unfolding entry
both-returns t c =
    let compared = (goal.at.both-returns t c).After-equal in
    let start = (entered t) compared in
    let asked = (goal.at.both-After-equal t compared).After-container in
    step_differing ((standing_of t) start) start.requires.1 (sym ((kind_of_next t) asked) ∙ compared.if-container.false)
    ((told_apart t) compared c.if-equal.false) refl refl (omega arith) (c.put.ensures (later_between start.args.first.bytes.now start.args.second.bytes.now) (leaves_differ start.args.at.first start.args.at.second) (ap (λ (z : ℤ). pos 3 ∷ pos start.args.at.first ∷ pos start.args.at.second ∷ z ∷ []) ((seconds_told t) (goal.at.both-returns t c).After-seconds_later-seconds)))

pub children-loop-above-preserved : goal.children-loop-above-preserved
children-loop-above-preserved t c =
    let looping = (goal.at.children-loop-above-preserved t c).At-loop-above in
    (went_on looping.loop-above.invariant.0 c.spot-at.ensures, c.spot-at.auto.list ∙ looping.loop-above.invariant.1)

pub children-returns : goal.children-returns
children-returns t c =
    let looping = (goal.at.children-returns t c).At-loop-above in
    let begun = (goal.at.children-At-loop-above t looping).Start in
    let none = neither (child_at begun.args.first.rows.now begun.args.above.first looping.loop-above.at.first) _ (ap₂ ◌||◌ (sym c.is_child.ensures) (sym c.is_child-in-loop-above.ensures) ∙ c.loop-above-test.false) in
    gone looping.loop-above.invariant.0 begun.requires none.0 none.1

pub spot-pass_first-requires : goal.spot-pass_first-requires
spot-pass_first-requires t c = (in_one t) (goal.at.spot-pass_first-requires t c).Start ((one_of_first t) (goal.at.spot-pass_first-requires t c).Then-not-is_child)

pub spot-returns-then-not-is_child : goal.spot-returns-then-not-is_child
spot-returns-then-not-is_child t c =
    let found = (goal.at.spot-returns-then-not-is_child t c).Then-not-is_child in
    let x = (stands t) (goal.at.spot-returns-then-not-is_child t c).Start in
    let passed = c.pass_first.ensures in
    step_first x ((one_of_first t) found) (λ d. absurd (table_no_child x.second ((none_of_second t) found) d)) passed.0 passed.1 passed.2 passed.3

pub spot-pass_second-requires : goal.spot-pass_second-requires
spot-pass_second-requires t c = (in_two t) (goal.at.spot-pass_second-requires t c).Start ((one_of_second t) (goal.at.spot-pass_second-requires t c).Else-not-is_child)

pub spot-returns-then-not-is_child-2 : goal.spot-returns-then-not-is_child-2
spot-returns-then-not-is_child-2 t c =
    let x = (stands t) (goal.at.spot-returns-then-not-is_child-2 t c).Start in
    let passed = c.pass_second.ensures in
    let none-of-first = sym c.is_child-2.ensures ∙ c.if-not-is_child-2.true in
    step_second x ((one_of_second t) (goal.at.spot-returns-then-not-is_child-2 t c).Else-not-is_child) (λ d. absurd (table_no_child x.first none-of-first d)) passed.0 passed.1 passed.2 passed.3

pub spot-kind-kind-requires : goal.spot-kind-kind-requires
spot-kind-kind-requires t c = ((in_one t) (goal.at.spot-kind-kind-requires t c).Start ((first_here t) c)).0

pub spot-kind-other-requires : goal.spot-kind-other-requires
spot-kind-other-requires t c = ((in_two t) (goal.at.spot-kind-other-requires t c).Start ((second_here t) (goal.at.spot-kind-other-requires t c).Else-not-is_child-2)).0

pub spot-both-requires : goal.spot-both-requires
spot-both-requires t c =
    let asked = (goal.at.spot-both-requires t c).After-kind-other in
    let start = (begins t) ((met t) asked) in
    (omega (arith, start.decreases), ((stands t) start, alike ((stands t) start) ((first_here t) ((met t) asked)) ((second_here t) ((met t) asked)) (sym ((first_kind t) asked) ∙ c.if-kind-other.true ∙ (second_kind t) asked)))

pub spot-pass_first-half-requires : goal.spot-pass_first-half-requires
spot-pass_first-half-requires t c =
    let m = (met t) ((asked_kinds t) (goal.at.spot-pass_first-half-requires t c).After-by_position) in
    (in_one t) ((begins t) m) ((first_here t) m)

pub spot-pass_second-requires-then-by_position : goal.spot-pass_second-requires-then-by_position
spot-pass_second-requires-then-by_position t c =
    let half = c.pass_first-half in
    let m = (met t) ((asked_kinds t) (goal.at.spot-pass_second-requires-then-by_position t c).After-by_position) in
    let x = (stands t) ((begins t) m) in
    let two = (in_two t) ((begins t) m) ((second_here t) m) in
    let ended = table_next x.first half.ensures.0 in
    (omega (arith, half.ensures.1, two.0), omega (arith, ended.there, x.first.sized, x.first.few), omega (arith, half.ensures.1, half.ensures.2, ended.past, x.few))

pub spot-returns-then-by_position : goal.spot-returns-then-by_position
spot-returns-then-by_position t c =
    let told = (goal.at.spot-returns-then-by_position t c).After-by_position in
    let m = (met t) ((asked_kinds t) told) in
    let x = (stands t) ((begins t) m) in
    let half = c.pass_first-half.ensures in
    let passed = c.pass_second-then-by_position.ensures in
    step_unlike x ((first_here t) m) ((second_here t) m) (one_position x ((first_here t) m) ((second_here t) m) ((position_told t) told ∙ c.if-by_position.true)) ((unlike_kinds t) told)
    half.0 half.1 half.2 half.3 passed.0 passed.1 passed.2 passed.3

pub spot-pass_first-requires-then-kind-other-2 : goal.spot-pass_first-requires-then-kind-other-2
spot-pass_first-requires-then-kind-other-2 t c =
    let m = (met t) ((asked_kinds t) (goal.at.spot-pass_first-requires-then-kind-other-2 t c).After-by_position) in
    (in_one t) ((begins t) m) ((first_here t) m)

pub spot-returns-then-kind-other-2 : goal.spot-returns-then-kind-other-2
spot-returns-then-kind-other-2 t c =
    let told = (goal.at.spot-returns-then-kind-other-2 t c).After-by_position in
    let asked = (asked_kinds t) told in
    let m = (met t) asked in
    let x = (stands t) ((begins t) m) in
    let passed = c.pass_first-then-kind-other-2.ensures in
    step_first x ((first_here t) m)
    (λ d. kinds_first x ((first_here t) m) d ((position_told t) told ∙ c.if-by_position.false) (omega (arith, c.if-kind-other-2.true, (first_kind t) asked, (second_kind t) asked)))
    passed.0 passed.1 passed.2 passed.3

pub spot-pass_second-requires-2 : goal.spot-pass_second-requires-2
spot-pass_second-requires-2 t c =
    let m = (met t) ((asked_kinds t) (goal.at.spot-pass_second-requires-2 t c).After-by_position) in
    (in_two t) ((begins t) m) ((second_here t) m)

pub spot-returns : goal.spot-returns
spot-returns t c =
    let told = (goal.at.spot-returns t c).After-by_position in
    let asked = (asked_kinds t) told in
    let m = (met t) asked in
    let x = (stands t) ((begins t) m) in
    let passed = c.pass_second-2.ensures in
    step_second x ((second_here t) m)
    (λ d. kinds_second x d ((second_here t) m) ((position_told t) told ∙ c.if-by_position.false) (different (omega (arith, c.if-kind-other-2.false, (first_kind t) asked, (second_kind t) asked)) ((unlike_kinds t) told)))
    passed.0 passed.1 passed.2 passed.3
