-- An accepted batch: its tree, and its messages as the code reads them from place to place. Assumes nothing.
use Prim.Native.Nat.{ℕ, zero, suc, ◌≤◌, ◌<◌}
use native.Mathlib.Omega.{arith}
use mathlib.Core.Path.{◌≡◌, refl, sym, ap, subst, ◌∙◌}
use mathlib.Core.List.{List, [], ◌∷◌, Memᴰ}
use mathlib.Core.Option.{some, none-ne-some, some-injective}
use lib.Dec.{eqb}
use lib.ListN.{length, get_or, get_elem?}
use Rattle.der.specs.meaning.Refusal.{accepted}
use Rattle.der.specs.meaning.Octets.{Octets}
use Rattle.der.specs.meaning.Tree.{WellFormed, Single, encode}
use Rattle.der.specs.meaning.Bounds.{depth, longest}
use Rattle.der.specs.steps.Reading.{tree}
use Rattle.crmf.specs.meaning.Notation.{Top}
use Rattle.crmf.specs.meaning.Grammar.{content}
use Rattle.crmf.specs.meaning.Language.{Matches}
use Rattle.crmf.specs.meaning.Fields.{Field}
use Rattle.crmf.specs.steps.Fields.{fields_between}
use Rattle.crmf.specs.meaning.Messages.{Message, messages}
use Rattle.crmf.proofs.Laws.{MessageParts, BatchContent, StandsThere, batch_content, message_parts, at_position, position_within}
use Rattle.editions.specs.meaning.Membership.{InGrammar}
use Rattle.editions.specs.steps.Reading.{answer}
use Rattle.editions.proofs.Laws.{accepted_in_lem, nest_read}
use Rattle.verdict.specs.steps.JudgeAnswer.{no_message, message_at}

-- What is known of an accepted batch by the tree that its bytes are read as.
pub record Accepted (e : ℕ) (s : List ℕ) : Type 0 where
  pub short : length s ≤ longest
  pub top : Matches (λ x. eqb x e) (content Top) (tree 0 s)
  pub formed : WellFormed depth 0 (tree 0 s)
  pub single : Single (tree 0 s)
  pub encoded : encode (tree 0 s) ≡ s

-- it is known of bytes in the grammar,
pub in_tree : {e : ℕ} {s : List ℕ} → InGrammar e s → Accepted e s
in_tree {e} {s} g =
    let same : g.nest ≡ tree 0 s = sym (nest_read s g) in
    record {
      short = g.short;
      top = subst (Matches (λ x. eqb x e) (content Top)) same g.batch;
      formed = subst (WellFormed depth 0) same g.formed;
      single = subst Single same g.single;
      encoded = ap encode (sym same) ∙ g.encoded;
    }

-- and so of an accepted batch
pub accepted_tree : (e : ℕ) (s : List ℕ) → Octets s → (answer e s).number ≡ accepted → Accepted e s
accepted_tree e s octets none = in_tree (accepted_in_lem e s octets none).0

-- what a batch consists of
pub accepted_content : {e : ℕ} {s : List ℕ} → Accepted e s → BatchContent (tree 0 s)
accepted_content {e} {s} a = batch_content (tree 0 s) a.top a.formed a.single

-- the message at a position is the one that is found there
message_found : (l : List Message) (n : ℕ) (m d : Message) → get_elem? l n ≡ some m → get_or l n d ≡ m
message_found [] n m d found = absurd (none-ne-some m found)
message_found (x ∷ l) zero m d found = some-injective x m found
message_found (x ∷ l) (suc n) m d found = message_found l n m d found

-- and one of the messages
pub position_member : (s : List ℕ) (position : ℕ) → position < length (messages (tree 0 s)) → Memᴰ (message_at s position) (messages (tree 0 s))
position_member s position within = member (messages (tree 0 s)) position within
  where
    member : (l : List Message) (n : ℕ) → n < length l → Memᴰ (get_or l n (no_message s)) l
    member [] n w = absurd (omega arith)
    member (x ∷ l) zero w = Memᴰ.head refl
    member (x ∷ l) (suc n) w = Memᴰ.tail (member l n (omega arith))

-- The message at a position is the first of the fields from one place to another.
pub record MessageThere (s : List ℕ) (position at : ℕ) : Type 0 where
  pub within : position < length (messages (tree 0 s))
  pub more : List Field
  pub own : fields_between s at (length s) ≡ (message_at s position).own ∷ more
  pub parts : MessageParts (message_at s position)

-- it stands where it is found
pub message_there : {e : ℕ} (s : List ℕ) → Accepted e s → (position at : ℕ) → StandsThere s (tree 0 s) position at → MessageThere s position at
message_there s a position at found =
    let m = found.message in
    let here : message_at s position ≡ m = message_found (messages (tree 0 s)) position m (no_message s) found.there in
    let member = at_position (messages (tree 0 s)) position m found.there in
    record {
      within = position_within (messages (tree 0 s)) position found.there;
      more = found.more;
      own = found.first ∙ ap (λ (x : Message). x.own ∷ found.more) (sym here);
      parts = subst MessageParts (sym here) (message_parts (tree 0 s) a.top a.formed a.single m member);
    }
