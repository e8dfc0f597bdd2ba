-- The key of a token: how it is read, and that it has the command's length and bytes in it. Assumes nothing.
use Prim.Native.Nat.{ℕ, zero, suc, min, ◌+◌, ◌-◌, ◌*◌, ◌/◌, ◌%◌, ◌^◌, ◌<◌, ◌≤◌}
use native.Mathlib.Omega.{arith}
use mathlib.Core.Path.{◌≡◌, refl, sym, ap, ◌∙◌}
use mathlib.Core.Bool.{true, false}
use mathlib.Core.List.{List, [], ◌∷◌}
use mathlib.Core.Option.{Option, none, some}
use lib.Bits.{bit_and}
use lib.Dec.{leb}
use lib.ListN.{length, get_or, take, drop, length-drop, length-take}
use lib.Seq.{take-take, drop-drop}
use borrow.Author.Tests.{leb-true, le-leb, lt-leb}
use Rattle.std.proofs.lemmas.Nat.{and_mask, mod-pow-add}
use Rattle.std.proofs.lemmas.List.{drop-take}
use Rattle.reference.specs.Control.{◌and◌, when◌then◌else◌}
use Rattle.reference.specs.Listing.{Token}
use Rattle.reference.specs.Tape.{to_le_bytes, from_le_bytes, new_token, text_length, write_command_by, write_command}
use Rattle.reference.proofs.Cases.{by-if, both, some_inj}
use Rattle.reference.proofs.LittleEndian.{Bytes, bytes_drop, bytes_take, from_at, to_take}
use Rattle.tables.specs.Memo.{TokenAt, key_of, EMPTY}

-- ---- numbers in bytes

-- the front of a number's bytes
pub from_take : (m : ℕ) (s : List ℕ) → Bytes s → from_le_bytes (take m s) ≡ from_le_bytes s % 2 ^ (8 * m)
unfolding from_le_bytes
from_take zero s h = omega arith
from_take (suc m) [] h = omega arith
from_take (suc m) (b ∷ bs) h =
    let n : ℕ = b + 256 * from_le_bytes bs in
    let e : 8 * suc m ≡ 8 * m + 8 = omega arith in
    let f = mod-pow-add n (8 * m) 8 in
    let low : n % 2 ^ 8 ≡ b = omega (arith, h 0) in
    let high : n / 2 ^ 8 ≡ from_le_bytes bs = omega (arith, h 0) in
    rw (e, f, low, high, from_take m bs (λ i. h (suc i))) (omega arith)

-- the length that a command has in its second and third byte
pub length_in : (m : ℕ) (rest : List ℕ) → Bytes rest → from_le_bytes (take (3 + m) rest) / 256 % 65536 ≡ text_length rest
unfolding from_le_bytes
length_in m rest h =
    let e : 3 + m ≡ suc (suc (suc m)) = omega arith in
    rw e
    (let a = from_at (suc (suc m)) 0 rest in
    let b = from_at (suc m) 1 rest in
    let c = from_at m 2 rest in
    let d = from_at 1 1 rest in
    let f = from_at 0 2 rest in
    omega (arith, h 0, h 1, h 2))

-- ---- the key of what stands at an offset

module _ (tape : List ℕ) (at : ℕ) where
  pub key-short : length tape < at + 8 → none ≡ key_of (drop at tape)
  unfolding key_of ◌and◌ when◌then◌else◌
  key-short h = let e : leb 8 (length (drop at tape)) ≡ false = lt-leb 8 _ (rw length-drop (omega arith)) in sym (rw e)

  module _ (b : Bytes tape) (h : at + 8 ≤ length tape) {v : ℕ} (ev : v ≡ from_le_bytes (take 8 (drop at tape))) where
    count_is : v / 256 % 65536 ≡ text_length (drop at tape)
    count_is = rw ev (length_in 5 (drop at tape) (bytes_drop at tape b))

    enough : leb 8 (length (drop at tape)) ≡ true
    enough = le-leb 8 _ (rw length-drop (omega arith))

    pub key-long : 5 < v / 256 % 65536 → none ≡ key_of (drop at tape)
    unfolding key_of ◌and◌ when◌then◌else◌
    key-long l = let e : leb (text_length (drop at tape)) 5 ≡ false = lt-leb _ 5 (rw count_is at l) in sym (rw (enough, e))

    pub key-found : (m : ℕ) → (v / 256 % 65536 ≤ 5) × (m + 1 ≡ 2 ^ (8 * (3 + v / 256 % 65536))) → some (bit_and v m) ≡ key_of (drop at tape)
    unfolding key_of ◌and◌ when◌then◌else◌
    key-found m (l, p) =
        let n = text_length (drop at tape) in
        let e : leb n 5 ≡ true = le-leb _ 5 (rw count_is at l) in
        let em : m ≡ 2 ^ (8 * (3 + n)) - 1 = omega (arith, rw count_is at p) in
        let f : take (3 + n) (take 8 (drop at tape)) ≡ take (3 + n) (drop at tape) = take-take (3 + n) 8 (drop at tape) (omega (arith, count_is)) in
        rw (enough, e)
        (ap some
        (ap (bit_and v) em ∙ and_mask v (8 * (3 + n)) ∙ ap (λ (x : ℕ). x % 2 ^ (8 * (3 + n))) ev
        ∙ sym (from_take (3 + n) (take 8 (drop at tape)) (bytes_take 8 (drop at tape) (bytes_drop at tape b)))
        ∙ ap from_le_bytes f))

-- ---- what a key tells

-- it has the length and the bytes of the command at the head of some bytes
pub record KeyIs (rest : List ℕ) (key : ℕ) : Type 0 where
  pub long : 8 ≤ length rest
  pub short : text_length rest ≤ 5
  pub length_is : key / 256 % 65536 ≡ text_length rest
  pub bytes : to_le_bytes (3 + text_length rest) key ≡ take (3 + text_length rest) rest

pub key_is : {key : ℕ} (rest : List ℕ) → Bytes rest → some key ≡ key_of rest → KeyIs rest key
unfolding key_of
key_is {key} rest b e =
    by-if (λ (o : Option ℕ). some key ≡ o → KeyIs rest key)
    (λ t e.
    let l = both t in
    let long : 8 ≤ length rest = leb-true _ _ l.0 in
    let short : text_length rest ≤ 5 = leb-true _ _ l.1 in
    let k : key ≡ from_le_bytes (take (3 + text_length rest) rest) = some_inj e in
    record {
      long = long;
      short = short;
      length_is = rw k (length_in (text_length rest) rest b);
      bytes = rw k (to_take (3 + text_length rest) rest b (omega arith));
    })
    (λ f e. absurd (cc))
    e

pub not_empty : {rest : List ℕ} {key : ℕ} → KeyIs rest key → key ≡ EMPTY → ⊥
not_empty k e = omega (arith, k.short, k.length_is)

-- ---- the bytes of a token's command

pub token_bytes : (t : Token) → write_command (new_token t) ≡ (16 + t.kind) ∷ (length t.text % 256) ∷ (length t.text / 256 % 256) ∷ t.text
unfolding write_command_by to_le_bytes
token_bytes t = refl

three : (n : ℕ) → 3 + n ≡ suc (suc (suc n))
three n = omega arith

-- a number whose bytes are those of a token's command has its length
pub token-length : (key : ℕ) (t : Token) → length t.text < 65536 → to_le_bytes (3 + length t.text) key ≡ write_command (new_token t) → key / 256 % 65536 ≡ length t.text
unfolding to_le_bytes
token-length key t l e =
    let f : to_le_bytes (suc (suc (suc (length t.text)))) key ≡ (16 + t.kind) ∷ (length t.text % 256) ∷ (length t.text / 256 % 256) ∷ t.text = rw (three (length t.text), token_bytes t) at e in
    let low : key / 256 % 256 ≡ length t.text % 256 = ap (λ (s : List ℕ). get_or s 1 0) f in
    let high : key / 256 / 256 % 256 ≡ length t.text / 256 % 256 = ap (λ (s : List ℕ). get_or s 2 0) f in
    omega arith

module _ {tape : List ℕ} {at : ℕ} {t : Token} (s : TokenAt tape at t) where
  stands_so : take (3 + length t.text) (drop at tape) ≡ (16 + t.kind) ∷ (length t.text % 256) ∷ (length t.text / 256 % 256) ∷ t.text
  stands_so = s.stands ∙ token_bytes t

  pub inside_tape : at + 3 + length t.text ≤ length tape
  inside_tape =
      let n : length (take (3 + length t.text) (drop at tape)) ≡ suc (suc (suc (length t.text))) = ap length stands_so in
      let m : length (take (3 + length t.text) (drop at tape)) ≡ min (3 + length t.text) (length tape - at) = rw (length-take, length-drop) in
      omega arith

  pub text_at : take (length t.text) (drop (at + 3) tape) ≡ t.text
  text_at =
      ap (take (length t.text)) (sym (drop-drop 3 at tape))
      ∙ sym (drop-take 3 (length t.text) (drop at tape))
      ∙ ap (drop 3) stands_so

  pub text_length_at : length t.text < 65536 → text_length (drop at tape) ≡ length t.text
  unfolding from_le_bytes
  text_length_at l =
      let e = take-take 3 (3 + length t.text) (drop at tape) (omega arith) in
      let f : take 3 (drop at tape) ≡ (16 + t.kind) ∷ (length t.text % 256) ∷ (length t.text / 256 % 256) ∷ [] = sym e ∙ ap (take 3) stands_so in
      let g : text_length (drop at tape) ≡ from_le_bytes (drop 1 (take 3 (drop at tape))) = ap from_le_bytes (sym (drop-take 1 2 (drop at tape))) in
      let h : from_le_bytes (drop 1 (take 3 (drop at tape))) ≡ from_le_bytes (drop 1 ((16 + t.kind) ∷ (length t.text % 256) ∷ (length t.text / 256 % 256) ∷ [])) =
      ap (λ (x : List ℕ). from_le_bytes (drop 1 x)) f in
      omega arith
