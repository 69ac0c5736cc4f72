-- An accepted batch is put together from its pieces: by induction on the meaning of the grammar, the pieces of a container's elements are
-- together its content. Assumes nothing.
use Prim.Native.Nat.{ℕ, zero, suc, ◌+◌, ◌*◌, ◌≤◌, ◌<◌}
use native.Mathlib.Omega.{arith}
use mathlib.Core.Path.{◌≡◌, refl, sym, ap, ap₂, subst, ◌∙◌}
use mathlib.Core.Bool.{Bool, true, false, ◌&&◌, and-eq-true_iff}
use mathlib.Core.List.{List, [], ◌∷◌, ◌++◌, append-nil, append_assoc}
use mathlib.Core.Option
use mathlib.Core.Option.{Option, some, none as absent, some-injective}
use lib.Dec.{T, eqb, leb}
use lib.ListN.{length, get_or, length-append}
use Rattle.der.specs.meaning.Identifier.{constructed}
use Rattle.der.specs.meaning.Length.{length_octets}
use Rattle.der.specs.meaning.Tree.{Tree, none, element, header, encode, WellFormed}
use Rattle.der.proofs.Laws.{constructed_bit_lem, header_octets, length_some, shortest_small, encode_none, encode_element, well_formed_deep, well_formed_element}
use Rattle.crmf.specs.meaning.Kinds as kinds
use Rattle.crmf.specs.meaning.Value.{Selector, info_type, type_number, selected}
use Rattle.crmf.specs.meaning.Lists.{same}
use Rattle.crmf.specs.meaning.Notation.{among, named, Name, Top, Inside, Form, Occurs, once, optional, repeated, part, Parts, done, ◌then◌, select}
use Rattle.crmf.specs.meaning.Grammar.{content}
use Rattle.crmf.specs.meaning.Language.{passable, parts_after, Matches, end, pass, take, choose, Within, unseen, parts}
use Rattle.crmf.specs.meaning.Rows.{container, parent_if, batch_rows}
use Rattle.crmf.specs.meaning.Pieces.{Piece, pieces_of}
use Rattle.crmf.specs.steps.rows.Assembly.{identifier_of, implied, assembled, none_longer}
use Rattle.crmf.proofs.theorems.values.ValueRules.{way_selected, same_octets}
use Rattle.crmf.proofs.theorems.grammar.Choices.{never_both}
use Rattle.crmf.proofs.theorems.lists.Tests.{all_get_elem}
use Rattle.crmf.proofs.theorems.grammar.ChoicesMatch.{holds-true}
use Rattle.crmf.proofs.theorems.grammar.Containers.{all_forms, forms_at, quiet_in, quiet_parts, quiet_to, quiet}
use Rattle.crmf.proofs.theorems.rows.RowLaws.{batch_form, only_form}
use Rattle.crmf.proofs.theorems.pieces.PiecesOf.{piece_if, pieces, pieces_in}
use Rattle.crmf.proofs.theorems.pieces.ShownParts.{is_octet, only_octet, batch_shown, Shown, an_item, a_container, a_leaf, showing_parts, showing_in, item_in, item_parts, shows, shown_part, value_parts, value_form, Valued, a_value, carried_request, form_valued, item_says}
use Rattle.crmf.proofs.theorems.pieces.Tiled.{Tiled, tiled_none, tiled_both, tiled_leaf, front, front_octets, front_few, front_short, tiled_container}
use Rattle.crmf.proofs.theorems.pieces.ShownPieces.{pieces_length, batch_pieces}

-- a kind of 0 gives no piece and leaves the piece above; another gives one, which is above what is inside
piece_none : (kind up : ℕ) (os : List ℕ) → eqb kind 0 ≡ true → piece_if kind up os ≡ []
piece_none kind up os is = rw (piece_if, is)

parent_none : (kind n up : ℕ) → eqb kind 0 ≡ true → parent_if kind n up ≡ up
parent_none kind n up is = rw (parent_if, is)

abbrev piece_at : (kind up : ℕ) (os : List ℕ) → Piece
piece_at kind up os = record { kind = kind; parent = up; octets = elim (container kind) [ true ↦ [] | false ↦ os ] }

piece_some : (kind up : ℕ) (os : List ℕ) → eqb kind 0 ≡ false → piece_if kind up os ≡ piece_at kind up os ∷ []
piece_some kind up os is = rw (piece_if, is)

parent_some : (kind n up : ℕ) → eqb kind 0 ≡ false → parent_if kind n up ≡ n
parent_some kind n up is = rw (parent_if, is)

-- the pieces that an element gives, those inside it and those after it
module _ (inner : ℕ → ℕ → List Piece) (more : ℕ → List Piece) (n : ℕ) where
  abbrev joined : (item shown : List Piece) (above : ℕ) → List Piece
  joined item shown above =
      let below = inner (n + length item + length shown) above in
      item ++ (shown ++ (below ++ more (n + length item + length shown + length below)))

  -- by the number after the element's own
  joined_at : (item shown : List Piece) (above j : ℕ) → n + length item + length shown ≡ j
      → joined item shown above ≡ item ++ (shown ++ (inner j above ++ more (j + length (inner j above))))
  joined_at item shown above j at =
      ap (λ (i : ℕ). item ++ (shown ++ (inner i above ++ more (i + length (inner i above))))) at

  joined_alike : {item item' shown shown' : List Piece} {above above' : ℕ} → item ≡ item' → shown ≡ shown' → above ≡ above'
      → joined item shown above ≡ joined item' shown' above'
  joined_alike {item} {item'} {shown} {shown'} {above} {above'} a b c =
      ap (λ (l : List Piece). joined l shown above) a ∙ ap (λ (l : List Piece). joined item' l above) b ∙ ap (joined item' shown') c

module _ (kind given : ℕ) (os : List ℕ) (inner : ℕ → ℕ → List Piece) (more : ℕ → List Piece) (n up : ℕ) (around : List ℕ) where
  -- the pieces of a derivation's first element and of those after it
  abbrev one_pieces : List Piece
  one_pieces = joined inner more n (piece_if given up around) (piece_if kind (parent_if given n up) os) (parent_if kind (n + length (piece_if given up around)) (parent_if given n up))

  -- without a row: those inside it, below the same piece
  one_bare : eqb given 0 ≡ true → eqb kind 0 ≡ true → one_pieces ≡ inner n up ++ more (n + length (inner n up))
  one_bare no_item no_kind =
      joined_alike inner more n (piece_none given up around no_item) (piece_none kind _ os no_kind)
      (parent_none kind _ _ no_kind ∙ parent_none given n up no_item)
      ∙ joined_at inner more n [] [] up n (omega arith)

  -- with a row of its own
  one_shown : eqb given 0 ≡ true → eqb kind 0 ≡ false
      → one_pieces ≡ piece_at kind up os ∷ (inner (suc n) n ++ more (suc n + length (inner (suc n) n)))
  one_shown no_item is-kind =
      let none = piece_none given up around no_item in
      let same : n + length (piece_if given up around) ≡ n = omega (arith, ap length none) in
      joined_alike inner more n none (piece_some kind _ os is-kind ∙ ap (λ (u : ℕ). piece_at kind u os ∷ []) (parent_none given n up no_item))
      (parent_some kind _ _ is-kind ∙ same)
      ∙ joined_at inner more n [] (piece_at kind up os ∷ []) n (suc n) (omega arith)

  -- with a row that it gives the element around it, and none of its own
  one_given : eqb given 0 ≡ false → eqb kind 0 ≡ true
      → one_pieces ≡ piece_at given up around ∷ (inner (suc n) n ++ more (suc n + length (inner (suc n) n)))
  one_given is-item no_kind =
      joined_alike inner more n (piece_some given up around is-item) (piece_none kind _ os no_kind)
      (parent_none kind _ _ no_kind ∙ parent_some given n up is-item)
      ∙ joined_at inner more n (piece_at given up around ∷ []) [] n (suc n) (omega arith)

  -- with both
  one_carried : eqb given 0 ≡ false → eqb kind 0 ≡ false
      → one_pieces ≡ piece_at given up around ∷ (piece_at kind n os ∷ (inner (suc (suc n)) (suc n) ++ more (suc (suc n) + length (inner (suc (suc n)) (suc n)))))
  one_carried is-item is-kind =
      let one = piece_some given up around is-item in
      let next : n + length (piece_if given up around) ≡ suc n = omega (arith, ap length one) in
      joined_alike inner more n one (piece_some kind _ os is-kind ∙ ap (λ (u : ℕ). piece_at kind u os ∷ []) (parent_some given n up is-item))
      (parent_some kind _ _ is-kind ∙ next)
      ∙ joined_at inner more n (piece_at given up around ∷ []) (piece_at kind n os ∷ []) (suc n) (suc (suc n)) (omega arith)

-- what is quiet has quiet parts
quiet_name : (d : ℕ) (name : Name) → quiet_to d name ≡ true → (e : ℕ) × (quiet_parts (quiet_to e) (content name) ≡ true)
unfolding quiet_to
quiet_name zero name test = never_both false test refl
quiet_name (suc d) name test = (d, test)

-- no piece is shown inside it
mutual
  unfolding pieces pieces_in quiet_parts quiet_in quiet_to

  quiet_pieces : {R : ℕ → Bool} {ps : Parts} {t : Tree} (d : ℕ) (m : Matches R ps t) (n up : ℕ) (around : List ℕ) → quiet_parts (quiet_to d) ps ≡ true
      → pieces m n up around ≡ []
  quiet_pieces d end n up around ok = refl
  quiet_pieces d (pass {o = o} {fs = fs} {ps = ps} ok m) n up around test =
      quiet_pieces d m n up around ((and-eq-true_iff (all_forms _ fs) (quiet_parts (quiet_to d) ps)).0 test).1
  quiet_pieces d (take {o = o} {fs = fs} {ps = ps} {id = id} {c = c} f among fits read kept w m) n up around test =
      let both = (and-eq-true_iff (all_forms (λ g. eqb g.kind 0 && (eqb g.item 0 && quiet_in (quiet_to d) g.inside)) fs) (quiet_parts (quiet_to d) ps)).0 test in
      let form = forms_at (λ g. eqb g.kind 0 && (eqb g.item 0 && quiet_in (quiet_to d) g.inside)) among both.0 in
      let one = (and-eq-true_iff (eqb f.kind 0) (eqb f.item 0 && quiet_in (quiet_to d) f.inside)).0 form in
      let two = (and-eq-true_iff (eqb f.item 0) (quiet_in (quiet_to d) f.inside)).0 one.1 in
      one_bare f.kind f.item (header id c ++ c) (λ j u. pieces_in w j u (header id c ++ c)) (λ j. pieces m j up around) n up around two.0 one.0
      ∙ ap₂ (λ (a b : List Piece). a ++ b) (quiet_inside d w n up (header id c ++ c) two.1)
      (quiet_pieces d m _ up around (again o test both.1))
    where
      again : (p : Occurs) → quiet_parts (quiet_to d) (part p fs then ps) ≡ true → quiet_parts (quiet_to d) ps ≡ true → quiet_parts (quiet_to d) (parts_after p fs ps) ≡ true
      again once whole past = past
      again optional whole past = past
      again repeated whole past = whole
  quiet_pieces d (choose {s = s} {names = ns} {c = c} name way m) n up around test =
      let (i, is, there) = (way_selected s c ns name).0 way in
      let (e, deeper) = quiet_name d name (all_get_elem (quiet_to d) name ns test i there) in
      quiet_pieces e m n up around deeper

  quiet_inside : {R : ℕ → Bool} {i : Inside} {t : Tree} (d : ℕ) (w : Within R i t) (n up : ℕ) (around : List ℕ) → quiet_in (quiet_to d) i ≡ true
      → pieces_in w n up around ≡ []
  quiet_inside d unseen n up around test = refl
  quiet_inside d (parts {n = name} m) n up around test = let (e, deeper) = quiet_name d name test in quiet_pieces e m n up around deeper

-- the octets of a container, if no type is implied
container_octets : (kind id : ℕ) (c : List ℕ) → id ≡ identifier_of kind → eqb kind kinds.reg_info_cert_req ≡ false → front kind (length c) ++ c ≡ header id c ++ c
unfolding implied
container_octets kind id c is no-type =
    let none : implied kind ≡ [] = rw (implied, no-type) in
    let sum : 0 + length c ≡ length c = omega arith in
    ap (λ (l : List ℕ). (identifier_of kind ∷ (length_octets (length l + length c) ++ l)) ++ c) none
    ∙ ap (λ (l : List ℕ). (identifier_of kind ∷ l) ++ c) (append-nil (length_octets (0 + length c)) ∙ ap length_octets sum)
    ∙ ap (λ (l : List ℕ). l ++ c) (ap (λ (i : ℕ). i ∷ length_octets (length c)) (sym is) ∙ sym (header_octets id c))

-- a certReq and an item that carries one are containers
three_bears : container kinds.cert_req ≡ true
unfolding container among
three_bears = refl

carried_bears : container kinds.reg_info_cert_req ≡ true
unfolding container among
carried_bears = refl

-- an element has at least two octets
element_two : (id : ℕ) (c : List ℕ) → 2 ≤ length (header id c ++ c)
element_two id c = omega (arith, length-append (header id c) c, ap length (header_octets id c), length_some (length c))

-- a container's piece, and a leaf's
piece_container : (kind up : ℕ) (os : List ℕ) → container kind ≡ true → piece_at kind up os ≡ record { kind = kind; parent = up; octets = [] }
piece_container kind up os is = ap (λ (b : Bool). record { kind = kind; parent = up; octets = elim b as (λ x. List ℕ) [ true ↦ [] | false ↦ os ] }) is

piece_leaf : (kind up : ℕ) (os : List ℕ) → container kind ≡ false → piece_at kind up os ≡ record { kind = kind; parent = up; octets = os }
piece_leaf kind up os is = ap (λ (b : Bool). record { kind = kind; parent = up; octets = elim b as (λ x. List ℕ) [ true ↦ [] | false ↦ os ] }) is

-- a container's element, from what is inside it
bearing_tiled : (kind id : ℕ) (c : List ℕ) (inside : Tree) (xs : List Piece) (n up : ℕ) → up < n → container kind ≡ true → eqb kind kinds.reg_info_cert_req ≡ false
    → id ≡ identifier_of kind → c ≡ encode inside → Tiled (suc n) n xs (encode inside) → Tiled n up (piece_at kind up (header id c ++ c) ∷ xs) (header id c ++ c)
bearing_tiled kind id c inside xs n up below is no-type octet filled none_longer =
    let whole : front kind (length (encode inside)) ++ encode inside ≡ header id c ++ c =
    ap (λ (l : List ℕ). front kind (length l) ++ l) (sym filled) ∙ container_octets kind id c octet no-type in
    subst (λ (x : Piece). Tiled n up (x ∷ xs) (header id c ++ c)) (sym (piece_container kind up (header id c ++ c) is))
    (subst (Tiled n up (record { kind = kind; parent = up; octets = [] } ∷ xs)) whole (tiled_container n up kind xs (encode inside) is none_longer below))

-- An element of a container whose elements are all shown, with those after it.
module _ (f : Form) (id : ℕ) (c : List ℕ) (inside : Tree) (inner : ℕ → ℕ → List Piece) (n up : ℕ) (around : List ℕ)
    (fits : T (named f.identifiers id))
    (filled : constructed id ≡ true → c ≡ encode inside)
    (shown : showing_in f.inside ≡ true → constructed id ≡ true → Tiled (suc n) n (inner (suc n) n) (encode inside))
    (quieted : quiet_in quiet f.inside ≡ true → inner (suc n) n ≡ [])
    (itemed : item_in f.inside ≡ true → constructed id ≡ true → id ≡ 0x30 → Tiled n up (inner n up) (header id c ++ c))
    (more : ℕ → List Piece) (os : List ℕ) (later : (j : ℕ) → up < j → Tiled j up (more j) os) (below : up < n) where
  -- the pieces of the element, from number n to j
  joined_tiled : (xs : List Piece) (j : ℕ) → j ≡ n + length xs → Tiled n up xs (header id c ++ c) → Tiled n up (xs ++ more j) ((header id c ++ c) ++ os)
  joined_tiled xs j ends first = tiled_both n up j xs (more j) (header id c ++ c) os below ends first (later j (omega arith))

  element_tiled : Shown f → Tiled n up (one_pieces f.kind f.item (header id c ++ c) inner more n up around) ((header id c ++ c) ++ os)
  element_tiled (an_item no_item no_kind octet inside-item) =
      let same = only_octet f.identifiers 0x30 id octet fits in
      let con : constructed id ≡ true = rw same (constructed_bit_lem 0x30 refl) in
      rw (one_bare f.kind f.item (header id c ++ c) inner more n up around no_item no_kind)
      (joined_tiled (inner n up) (n + length (inner n up)) refl (itemed inside-item con same))
  element_tiled (a_container no_item is-kind is no-type b) =
      let same = only_octet f.identifiers (identifier_of f.kind) id b.octet fits in
      let con : constructed id ≡ true = rw same (constructed_bit_lem (identifier_of f.kind) b.bit) in
      let first = bearing_tiled f.kind id c inside (inner (suc n) n) n up below is no-type same (filled con) (shown b.inside con) in
      rw (one_shown f.kind f.item (header id c ++ c) inner more n up around no_item is-kind)
      (joined_tiled (piece_at f.kind up (header id c ++ c) ∷ inner (suc n) n) (suc n + length (inner (suc n) n)) (omega arith) first)
  element_tiled (a_leaf no_item is-kind is silent) =
      let none = quieted silent in
      let octets = header id c ++ c in
      let first : Tiled n up (piece_at f.kind up octets ∷ inner (suc n) n) octets =
      rw (none, piece_leaf f.kind up octets is) (tiled_leaf n up f.kind octets below is (element_two id c)) in
      rw (one_shown f.kind f.item octets inner more n up around no_item is-kind)
      (joined_tiled (piece_at f.kind up octets ∷ inner (suc n) n) (suc n + length (inner (suc n) n)) (omega arith) first)

-- after the last part there is nothing
nothing_left : {R : ℕ → Bool} {ps : Parts} {t : Tree} (m : Matches R ps t) → ps ≡ done → (t ≡ none) × ((n up : ℕ) (around : List ℕ) → pieces m n up around ≡ [])
unfolding pieces
nothing_left end is = (refl, λ n up around. refl)
nothing_left (pass ok m) is = let z : ◌≡◌ {A = ℕ} 0 1 = cc in absurd (omega arith)
nothing_left (take f among fits read kept w m) is = let z : ◌≡◌ {A = ℕ} 0 1 = cc in absurd (omega arith)
nothing_left (choose name way m) is = let z : ◌≡◌ {A = ℕ} 0 1 = cc in absurd (omega arith)

-- an item has one value
value_alone : (s : Selector) (i : ℕ) (o : Occurs) (fs : List Form) (ps : Parts) → value_parts s i (part o fs then ps) ≡ true
    → (passable o ≡ false) × (parts_after o fs ps ≡ done) × (all_forms (value_form s i) fs ≡ true)
unfolding value_parts
value_alone s i once fs done test = (refl, refl, test)
value_alone s i once fs (p then ps) test = never_both false test refl
value_alone s i once fs (select id u ns) test = never_both false test refl
value_alone s i optional fs ps test = never_both false test refl
value_alone s i repeated fs ps test = never_both false test refl

-- The pieces of an item's value are together the item: a leaf's, or the carried certReq's with its implied type.
module _ (f : Form) (id : ℕ) (c : List ℕ) (inside rest : Tree) (inner : ℕ → ℕ → List Piece) (more : ℕ → List Piece) (n up : ℕ) (around : List ℕ)
    (s : Selector) (i p size : ℕ) (below : up < n) (two : 2 ≤ length around) (fits : T (named f.identifiers id)) (last : rest ≡ none)
    (no_more : (j : ℕ) → more j ≡ []) (filled : constructed id ≡ true → c ≡ encode inside)
    (shown : showing_in f.inside ≡ true → constructed id ≡ true → Tiled (suc (suc n)) (suc n) (inner (suc (suc n)) (suc n)) (encode inside))
    (quieted : quiet_in quiet f.inside ≡ true → inner (suc n) n ≡ [])
    (carries : s ≡ info_type → i ≡ 2
    → around ≡ front kinds.reg_info_cert_req (length (encode (element id p size c inside rest))) ++ encode (element id p size c inside rest)) where
  value_form_lem : Valued s i f → Tiled n up (one_pieces f.kind f.item (header id c ++ c) inner more n up around) around
  value_form_lem (a_value is-item is no_kind silent) =
      rw (
        one_given f.kind f.item (header id c ++ c) inner more n up around is-item no_kind,
        quieted silent,
        no_more (suc n + length {A = Piece} []),
        piece_leaf f.item up around is,
      )
      (tiled_leaf n up f.item around below is two)
  value_form_lem (carried_request info way is-item is-kind b) =
      let octets = header id c ++ c in
      let same = only_octet f.identifiers (identifier_of kinds.cert_req) id b.octet fits in
      let con : constructed id ≡ true = rw same (constructed_bit_lem (identifier_of kinds.cert_req) b.bit) in
      let xs = inner (suc (suc n)) (suc n) in
      let value = bearing_tiled kinds.cert_req id c inside xs (suc n) n (omega arith) three_bears refl same (filled con) (shown b.inside con) in
      let whole : encode (element id p size c inside rest) ≡ octets =
      encode_element id p size c inside rest ∙ ap (λ (l : List ℕ). octets ++ l) (ap encode last ∙ encode_none) ∙ append-nil octets in
      let item = tiled_container n up kinds.reg_info_cert_req (piece_at kinds.cert_req n octets ∷ xs) octets carried_bears value below in
      let all : around ≡ front kinds.reg_info_cert_req (length octets) ++ octets = rw whole at (carries info way) in
      rw (
        is-kind,
        is-item,
        one_carried kinds.cert_req kinds.reg_info_cert_req octets inner more n up around refl refl,
        no_more (suc (suc n) + length xs),
        append-nil xs,
        piece_container kinds.reg_info_cert_req up around carried_bears,
      ) (subst (Tiled n up (record { kind = kinds.reg_info_cert_req; parent = up; octets = [] } ∷ (piece_at kinds.cert_req n octets ∷ xs))) (sym all) item)

-- the nine octets of the carried certReq's type
abbrev carried_type : List ℕ
carried_type = 0x2B ∷ 0x06 ∷ 0x01 ∷ 0x05 ∷ 0x05 ∷ 0x07 ∷ 0x05 ∷ 0x02 ∷ 0x02 ∷ []

-- the way 2 of an item's type in regInfo
carried_type_lem : (c : List ℕ) → selected info_type c ≡ some 2 → c ≡ carried_type
unfolding selected type_number
carried_type_lem c is = go (same c (known n) && leb 1 n && leb n 2) refl (some-injective _ _ is)
  where
    n : ℕ
    n = get_or c 8 0

    known : ℕ → List ℕ
    known m = 0x2B ∷ 0x06 ∷ 0x01 ∷ 0x05 ∷ 0x05 ∷ 0x07 ∷ 0x05 ∷ 0x02 ∷ m ∷ []

    go : (b : Bool) → (same c (known n) && leb 1 n && leb n 2) ≡ b
        → ◌≡◌ {A = ℕ} (Option.get_or (elim b as (λ x. Option ℕ) [ true ↦ some n | false ↦ absent ]) 0) 2 → c ≡ carried_type
    go true test two =
        let front = ((and-eq-true_iff (same c (known n) && leb 1 n) (leb n 2)).0 test).0 in
        same_octets c (known n) ((and-eq-true_iff (same c (known n)) (leb 1 n)).0 front).0 ∙ ap known two
    go false test two = absurd (omega arith)

-- the octets of an item that carries a certReq
carried_octets : (c d : List ℕ) (p w : ℕ) (i rest : Tree) → selected info_type c ≡ some 2 → d ≡ encode (element 0x06 p w c i rest)
    → header 0x30 d ++ d ≡ front kinds.reg_info_cert_req (length (encode rest)) ++ encode rest
unfolding implied identifier_of
carried_octets c d p w i rest is filled =
    let e = encode rest in
    let type : header 0x06 c ++ c ≡ implied kinds.reg_info_cert_req =
    ap (λ (l : List ℕ). header 0x06 l ++ l) (carried_type_lem c is)
    ∙ ap (λ (l : List ℕ). l ++ carried_type) (header_octets 0x06 carried_type ∙ ap (λ (l : List ℕ). 0x06 ∷ l) (shortest_small 9 (omega arith))) in
    let octets : d ≡ implied kinds.reg_info_cert_req ++ e = filled ∙ encode_element 0x06 p w c i rest ∙ ap (λ (l : List ℕ). l ++ e) type in
    let size : length d ≡ length (implied kinds.reg_info_cert_req) + length e = ap length octets ∙ length-append (implied kinds.reg_info_cert_req) e in
    ap (λ (l : List ℕ). l ++ d) (header_octets 0x30 d) ∙ ap₂ (λ (k : ℕ) (l : List ℕ). (0x30 ∷ length_octets k) ++ l) size octets
    ∙ sym (append_assoc (0x30 ∷ length_octets (length (implied kinds.reg_info_cert_req) + length e)) (implied kinds.reg_info_cert_req) e)

mutual
  unfolding pieces pieces_in item_parts item_in showing_in shows value_parts quiet

  -- The pieces of a container's elements are together its content.
  tiled : {R : ℕ → Bool} {ps : Parts} {t : Tree} (m : Matches R ps t) (left q : ℕ) → WellFormed left q t → (n up : ℕ) (around : List ℕ)
      → shows ps ≡ true → up < n → Tiled n up (pieces m n up around) (encode t)
  tiled end left q wf n up around test below = rw encode_none (tiled_none n up)
  tiled (pass {o = o} {fs = fs} {ps = ps} ok m) left q wf n up around test below = tiled m left q wf n up around (shown_part o fs ps test).past below
  tiled (take f among fits read kept w m) zero q wf n up around test below = absurd (well_formed_deep _ _ _ _ _ _ _ wf)
  tiled (take {o = o} {fs = fs} {ps = ps} {id = id} {first = p} {whole = size} {c = c} {inside = inside} {rest = rest} f among fits read kept w m)
      (suc left) q wf n up around test below =
      let shown = shown_part o fs ps test in
      let formed = (well_formed_element left q id p size c inside rest).0 wf in
      let octets = header id c ++ c in
      let deeper = q + length (header id c) in
      rw (encode_element id p size c inside rest) (element_tiled f id c inside (λ j u. pieces_in w j u octets) n up around fits (λ con. (formed.0.filled con).0)
      (λ on con. tiled_in w left deeper (formed.0.filled con).1 (suc n) n octets on (omega arith))
      (λ silent. quiet_inside 8 w (suc n) n octets silent)
      (λ on con same. rw same (items_in w left deeper (formed.0.filled con).1 n up c on (formed.0.filled con).0 below))
      (λ j. pieces m j up around) (encode rest)
      (λ j low. tiled m (suc left) (q + size) formed.1 j up around shown.after_form low) below (shown.form among))
  tiled (choose name way m) left q wf n up around test below = never_both false test refl

  tiled_in : {R : ℕ → Bool} {i : Inside} {t : Tree} (w : Within R i t) (left q : ℕ) → WellFormed left q t → (n up : ℕ) (around : List ℕ)
      → showing_in i ≡ true → up < n → Tiled n up (pieces_in w n up around) (encode t)
  tiled_in unseen left q wf n up around test below = never_both false test refl
  tiled_in (parts {n = name} m) left q wf n up around test below = tiled m left q wf n up around (showing_parts name test) below

  -- The pieces of an item's elements are together the item.
  items_in : {R : ℕ → Bool} {i : Inside} {t : Tree} (w : Within R i t) (left q : ℕ) → WellFormed left q t → (n up : ℕ) (c : List ℕ)
      → item_in i ≡ true → c ≡ encode t → up < n → Tiled n up (pieces_in w n up (header 0x30 c ++ c)) (header 0x30 c ++ c)
  items_in unseen left q wf n up c test filled below = never_both false test refl
  items_in (parts {n = name} m) left q wf n up c test filled below = item_tiled m left q wf n up c test filled below

  item_tiled : {R : ℕ → Bool} {ps : Parts} {t : Tree} (m : Matches R ps t) (left q : ℕ) → WellFormed left q t → (n up : ℕ) (c : List ℕ)
      → item_parts ps ≡ true → c ≡ encode t → up < n → Tiled n up (pieces m n up (header 0x30 c ++ c)) (header 0x30 c ++ c)
  item_tiled end left q wf n up c test filled below = never_both false test refl
  item_tiled (pass ok m) left q wf n up c test filled below = never_both false test refl
  item_tiled (take f among fits read kept w m) left q wf n up c test filled below = never_both false test refl
  item_tiled (choose name way m) zero q wf n up c test filled below = absurd (well_formed_deep _ _ _ _ _ _ _ wf)
  item_tiled (choose {s = s} {names = ns} {id = id} {first = p} {whole = w} {c = d} {inside = i} {rest = rest} name way m) (suc left) q wf n up c test filled below =
      let (j, is, there) = (way_selected s d ns name).0 way in
      let (six, valued) = item_says id j s ns name test there in
      value_tiled m (suc left) (q + w) ((well_formed_element left q id p w d i rest).0 wf).1 n up (header 0x30 c ++ c) s j valued below (element_two 0x30 c)
      (λ info two. carried_octets d c p w i rest (ap (λ (t : Selector). selected t d) (sym info) ∙ is ∙ ap some two) (rw six at filled))

  value_tiled : {R : ℕ → Bool} {ps : Parts} {t : Tree} (m : Matches R ps t) (left q : ℕ) → WellFormed left q t → (n up : ℕ) (around : List ℕ)
      (s : Selector) (i : ℕ) → value_parts s i ps ≡ true → up < n → 2 ≤ length around
      → (s ≡ info_type → i ≡ 2 → around ≡ front kinds.reg_info_cert_req (length (encode t)) ++ encode t) → Tiled n up (pieces m n up around) around
  value_tiled end left q wf n up around s i test below two carries = never_both false test refl
  value_tiled (pass {o = o} {fs = fs} {ps = ps} ok m) left q wf n up around s i test below two carries =
      let no_pass : passable o ≡ false = (value_alone s i o fs ps test).0 in
      never_both (passable o) (holds-true (passable o) ok) no_pass
  value_tiled (take f among fits read kept w m) zero q wf n up around s i test below two carries = absurd (well_formed_deep _ _ _ _ _ _ _ wf)
  value_tiled (take {o = o} {fs = fs} {ps = ps} {id = id} {first = p} {whole = size} {c = c} {inside = inside} {rest = rest} f among fits read kept w m)
      (suc left) q wf n up around s i test below two carries =
      let alone = value_alone s i o fs ps test in
      let one = ((well_formed_element left q id p size c inside rest).0 wf).0 in
      let last = nothing_left m alone.1 in
      value_form_lem f id c inside rest (λ j u. pieces_in w j u (header id c ++ c)) (λ j. pieces m j up around) n up around s i p size below two fits
      last.0 (λ j. last.1 j up around) (λ con. (one.filled con).0)
      (λ on con. tiled_in w left (q + length (header id c)) (one.filled con).1 (suc (suc n)) (suc n) (header id c ++ c) on (omega arith))
      (λ silent. quiet_inside 8 w (suc n) n (header id c ++ c) silent) carries
      (form_valued s i f (forms_at (value_form s i) among alone.2))
  value_tiled (choose name way m) left q wf n up around s i test below two carries = never_both false test refl

-- What a whole batch's pieces are together.
pub record Together (xs : List Piece) (s : List ℕ) : Type 0 where
  pub octets : assembled 0 xs ≡ s
  pub few : 2 * length xs ≤ length s
  pub short : (limit : ℕ) → length s ≤ limit → none_longer limit 0 xs ≡ true

-- The batch's own piece, number 0, stands before its messages'.
one_together : (id : ℕ) (c : List ℕ) (inside : Tree) (inner : ℕ → ℕ → List Piece) (more : ℕ → List Piece) → id ≡ 0x30 → c ≡ encode inside
    → Tiled 1 0 (inner 1 0) (encode inside) → ((j : ℕ) → more j ≡ []) → Together (one_pieces 1 0 (header id c ++ c) inner more 0 0 []) (header id c ++ c)
unfolding container among identifier_of
one_together id c inside inner more is filled below nothing =
    let os = header id c ++ c in
    let e = encode inside in
    let xs = inner 1 0 in
    let whole : front kinds.batch (length e) ++ e ≡ os = ap (λ (l : List ℕ). front kinds.batch (length l) ++ l) (sym filled) ∙ container_octets kinds.batch id c is refl in
    let size = ap length whole in
    rw (one_shown kinds.batch 0 os inner more 0 0 [] refl refl, nothing (1 + length xs), append-nil xs, piece_container kinds.batch 0 os refl) (record {
      octets = front_octets 0 0 1 xs e refl below ∙ whole;
      few = omega (arith, front_few 0 0 1 xs e refl below);
      short = λ limit fits. front_short 0 0 1 xs e refl below limit (omega arith);
    })

batch_together : {R : ℕ → Bool} {t : Tree} (m : Matches R (part once (batch_form ∷ []) then done) t) (left : ℕ) → WellFormed left 0 t
    → Together (pieces m 0 0 []) (encode t)
unfolding pieces is_octet
batch_together (pass ok m) left wf = absurd ok
batch_together (take f among fits read kept w m) zero wf = absurd (well_formed_deep _ _ _ _ _ _ _ wf)
batch_together (take {id = id} {first = p} {whole = size} {c = c} {inside = inside} {rest = rest} f among fits read kept w m) (suc left) wf =
    let one = ((well_formed_element left 0 id p size c inside rest).0 wf).0 in
    let os = header id c ++ c in
    let same = only_form among in
    let is = only_octet f.identifiers 0x30 id (ap (λ (g : Form). is_octet g.identifiers 0x30) same) fits in
    let con : constructed id ≡ true = rw is (constructed_bit_lem 0x30 refl) in
    let last = nothing_left m refl in
    let on : showing_in f.inside ≡ true = ap (λ (g : Form). showing_in g.inside) same ∙ batch_shown in
    let below = tiled_in w left (0 + length (header id c)) (one.filled con).1 1 0 os on (omega arith) in
    let octets : encode (element id p size c inside rest) ≡ os =
    encode_element id p size c inside rest ∙ ap (λ (l : List ℕ). os ++ l) (ap encode last.0 ∙ encode_none) ∙ append-nil os in
    rw octets (subst (λ (g : Form). Together (one_pieces g.kind g.item os (λ j u. pieces_in w j u os) (λ j. pieces m j 0 []) 0 0 []) os) (sym same)
    (one_together id c inside (λ j u. pieces_in w j u os) (λ j. pieces m j 0 []) is (one.filled con).0 below (λ j. last.1 j 0 [])))

-- An accepted batch is the assembly of its pieces; each has two octets of its own, and none is longer than the batch.
pub together : {R : ℕ → Bool} {t : Tree} (m : Matches R (content Top) t) (left : ℕ) → WellFormed left 0 t → Together (pieces m 0 0 []) (encode t)
unfolding content
together m left wf = batch_together m left wf

module _ {R : ℕ → Bool} {t : Tree} (m : Matches R (content Top) t) (left : ℕ) (wf : WellFormed left 0 t) (s : List ℕ) (encoded : encode t ≡ s) where
  all_together : Together (pieces_of s (batch_rows m)) s
  all_together = rw (batch_pieces m left wf s encoded) (subst (Together (pieces m 0 0 [])) encoded (together m left wf))

  -- A batch is the assembly of the pieces that its rows show of it.
  pub assembly : assembled 0 (pieces_of s (batch_rows m)) ≡ s
  assembly = all_together.octets

  -- Its rows are at most half as many as its octets.
  pub rows_few : 2 * length (batch_rows m) ≤ length s
  rows_few = omega (arith, all_together.few, pieces_length s (batch_rows m))

  -- None of its pieces is longer than it.
  pub pieces_short : (limit : ℕ) → length s ≤ limit → none_longer limit 0 (pieces_of s (batch_rows m)) ≡ true
  pieces_short = all_together.short
