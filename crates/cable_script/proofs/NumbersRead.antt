-- Each number is read exactly where it is spelled and lies in its range. Steps that may be refused.
use Rattle.std.proofs.Common.{◌≡◌, ℕ, ◌^◌, ◌<◌, List, Option, Some, None, Result, Ok, Err, refl, ap, subst, arith}
use Rattle.std.specs.Prelude.{decimal}
use Rattle.cable_base.specs.declared.numbers.ConnNo.{ConnNo}
use Rattle.cable_base.specs.declared.numbers.NodeNo.{NodeNo}
use Rattle.cable_base.specs.declared.numbers.Millis.{Millis}
use Rattle.cable_model.specs.Limits.{last_conn, last_moment, last_node}
use Rattle.cable_model.specs.Script.{IsWord, IsFrom, IsNode, IsConn, IsMoment}
use Rattle.cable_script.specs.declared.faults.LineFault.{LineFault}
use Rattle.cable_script.specs.Words.{number_in}
use Rattle.cable_script.specs.Reading.{◌>>=◌, or_fault, node_in, conn_in, millis_in, node_alone, conn_alone}
use Rattle.cable_script.proofs.Spellings.{number_is, number_of_decimal}
use Rattle.cable_script.proofs.WordsRead.{one_is, one_found, number_word}

-- ---- steps of a chain

-- a step that gave something, and what came of it
pub step_is : {A B : Type 0} (m : Result A LineFault) (f : A → Result B LineFault) (y : B) → (m >>= f) ≡ Ok y → (x : A) × ((m ≡ Ok x) × (f x ≡ Ok y))
step_is (Err e) f y h = absurd cc
step_is (Ok x) f y h = (x, (refl, h))

pub step_of : {A B : Type 0} (m : Result A LineFault) (f : A → Result B LineFault) (x : A) (y : B) → m ≡ Ok x → f x ≡ Ok y → (m >>= f) ≡ Ok y
step_of m f x y e h = rw e h

abbrev ok : {A : Type 0} → A → Result A LineFault
ok x = Ok x

pub same_Ok : {A : Type 0} (x y : A) → ok x ≡ ok y → x ≡ y
same_Ok x y e = cc

pub given_is : {A : Type 0} (f : LineFault) (o : Option A) (x : A) → or_fault f o ≡ Ok x → o ≡ Some x
given_is f None x e = absurd cc
given_is f (Some y) x e = ap (λ z. Some z) (same_Ok y x e)

pub given_of : {A : Type 0} (f : LineFault) (o : Option A) (x : A) → o ≡ Some x → or_fault f o ≡ Ok x
given_of f o x e = rw e refl

-- ---- numbers

pub count_is : (lo hi n : ℕ) (f : LineFault) (word : List ℕ) → hi < 2 ^ 64 → or_fault f (number_in lo hi word) ≡ Ok n → IsFrom lo hi n × (word ≡ decimal n)
count_is lo hi n f word fits e = let h = number_is lo hi n word fits (given_is f _ n e) in ((h.1, h.2), h.0)

pub count_found : (lo hi n : ℕ) (f : LineFault) → hi < 2 ^ 64 → IsFrom lo hi n → or_fault f (number_in lo hi (decimal n)) ≡ Ok n
count_found lo hi n f fits h = given_of f _ n (number_of_decimal lo hi n fits h.0 h.1)

pub node_is : (word : List ℕ) (node : NodeNo) → node_in word ≡ Ok node → IsNode node × (word ≡ decimal node.0)
unfolding node_in
node_is word node e =
    let n = step_is _ _ node e in
    subst (λ (m : NodeNo). IsNode m × (word ≡ decimal m.0)) (same_Ok _ node n.1.1) (count_is 1 last_node n.0 _ word (omega arith) n.1.0)

pub node_found : (node : NodeNo) → IsNode node → node_in (decimal node.0) ≡ Ok node
unfolding node_in
node_found node h = step_of _ _ node.0 node (count_found 1 last_node node.0 _ (omega arith) h) refl

pub conn_is : (word : List ℕ) (conn : ConnNo) → conn_in word ≡ Ok conn → IsConn conn × (word ≡ decimal conn.0)
unfolding conn_in
conn_is word conn e =
    let n = step_is _ _ conn e in
    subst (λ (m : ConnNo). IsConn m × (word ≡ decimal m.0)) (same_Ok _ conn n.1.1) (count_is 1 last_conn n.0 _ word (omega arith) n.1.0)

pub conn_found : (conn : ConnNo) → IsConn conn → conn_in (decimal conn.0) ≡ Ok conn
unfolding conn_in
conn_found conn h = step_of _ _ conn.0 conn (count_found 1 last_conn conn.0 _ (omega arith) h) refl

pub millis_is : (word : List ℕ) (at : Millis) → millis_in word ≡ Ok at → IsMoment at × (word ≡ decimal at.0)
unfolding millis_in
millis_is word at e =
    let n = step_is _ _ at e in
    subst (λ (m : Millis). IsMoment m × (word ≡ decimal m.0)) (same_Ok _ at n.1.1) (count_is 0 last_moment n.0 _ word (omega arith) n.1.0)

pub millis_found : (at : Millis) → IsMoment at → millis_in (decimal at.0) ≡ Ok at
unfolding millis_in
millis_found at h = step_of _ _ at.0 at (count_found 0 last_moment at.0 _ (omega arith) h) refl

-- ---- a number is a word, and stands alone

pub from_word : (lo hi n : ℕ) → hi < 2 ^ 64 → IsFrom lo hi n → IsWord (decimal n)
from_word lo hi n fits h = let high = h.1 in number_word n (omega arith)

pub node_word : (node : NodeNo) → IsNode node → IsWord (decimal node.0)
node_word node h = from_word 1 last_node node.0 (omega arith) h

pub conn_word : (conn : ConnNo) → IsConn conn → IsWord (decimal conn.0)
conn_word conn h = from_word 1 last_conn conn.0 (omega arith) h

pub millis_word : (at : Millis) → IsMoment at → IsWord (decimal at.0)
millis_word at h = from_word 0 last_moment at.0 (omega arith) h

pub node_alone_is : (text : List ℕ) (node : NodeNo) → node_alone text ≡ Ok node → IsNode node × (text ≡ decimal node.0)
unfolding node_alone
node_alone_is text node e =
    let word = step_is _ _ node e in
    let one = one_is text word.0 (given_is _ _ word.0 word.1.0) in
    let h = node_is word.0 node word.1.1 in
    (h.0, subst (λ (w : List ℕ). text ≡ w) h.1 one.1)

pub node_alone_found : (node : NodeNo) → IsNode node → node_alone (decimal node.0) ≡ Ok node
unfolding node_alone
node_alone_found node h = step_of _ _ (decimal node.0) node (given_of _ _ _ (one_found (decimal node.0) (node_word node h))) (node_found node h)

pub conn_alone_is : (text : List ℕ) (conn : ConnNo) → conn_alone text ≡ Ok conn → IsConn conn × (text ≡ decimal conn.0)
unfolding conn_alone
conn_alone_is text conn e =
    let word = step_is _ _ conn e in
    let one = one_is text word.0 (given_is _ _ word.0 word.1.0) in
    let h = conn_is word.0 conn word.1.1 in
    (h.0, subst (λ (w : List ℕ). text ≡ w) h.1 one.1)

pub conn_alone_found : (conn : ConnNo) → IsConn conn → conn_alone (decimal conn.0) ≡ Ok conn
unfolding conn_alone
conn_alone_found conn h = step_of _ _ (decimal conn.0) conn (given_of _ _ _ (one_found (decimal conn.0) (conn_word conn h))) (conn_found conn h)
