-- A token that is remembered, and a table with a token more. Assumes nothing.
use Prim.Native.Nat.{ℕ, ◌+◌, ◌-◌, ◌*◌, ◌/◌, ◌%◌, ◌<◌, ◌≤◌}
use native.Mathlib.Omega.{arith}
use native.Mathlib.Decide.{ℕ_discrete}
use mathlib.Core.Logic.{⊎_elim, inl, inr, by_cases}
use mathlib.Core.Path.{◌≡◌, refl, sym, ◌∙◌}
use mathlib.Core.List.{List, []}
use mathlib.Core.Option.{some}
use lib.ListN.{length, get_or, set, drop, replicate, length-set, length-replicate}
use lib.Seq.{get_or-set_same, get_or-set_other}
use Rattle.std.proofs.lemmas.List.{get_or-replicate}
use Rattle.reference.specs.Listing.{Token}
use Rattle.reference.specs.Tape.{text_length}
use Rattle.reference.proofs.LittleEndian.{Bytes, bytes_drop}
use Rattle.lines.specs.Words.{len_of, word, Recoded}
use Rattle.lines.proofs.words.Tokens.{word_kind, word_place, word_start, word_len, word-points, in_tape}
use Rattle.lines.proofs.codes.Elsewhere.{same_kind, same_buffer, same_start, same_len, recoded_elsewhere}
use Rattle.tables.specs.Memo.{TokenAt, plain_word, Recalled, Known, key_of, EMPTY, PLACES, Remembered, Memory}
use Rattle.tables.proofs.memo.Keys.{KeyIs, key_is, not_empty, token-length, inside_tape, text_at, text_length_at}

-- nothing is remembered yet
pub memory_empty : (words : List ℕ) → length words ≡ PLACES → Memory (replicate PLACES EMPTY) words
memory_empty words l = record { long_keys = length-replicate PLACES EMPTY; long_words = l; at = λ k h. inl (get_or-replicate PLACES k EMPTY 0 h) }

-- ---- a token that is remembered

module _ (tape : List ℕ) (at : ℕ) (bytes : Bytes tape) (near : at + 8 < 65536) {key : ℕ} (ek : some key ≡ key_of (drop at tape)) where
  known_key : KeyIs (drop at tape) key
  known_key = key_is (drop at tape) (bytes_drop at tape bytes) ek

  module _ {w : ℕ} (r : Remembered key w) where
    same_length : text_length (drop at tape) ≡ length r.token.text
    same_length = sym known_key.length_is ∙ token-length key r.token (omega (arith, r.short)) r.bytes

    pub stands_there : TokenAt tape at r.token
    stands_there = record { low = r.low; stands = rw same_length at (sym known_key.bytes) ∙ r.bytes }

    len_is : len_of (w + at * 16) ≡ length r.token.text
    unfolding len_of word
    len_is = let p = r.parts in let l = r.low in let s = r.short in omega arith

    pub room : w < 18446744073709551616 → w + at * 16 < 18446744073709551616
    unfolding word
    room h = let p = r.parts in let l = r.low in let s = r.short in omega arith

    pub recalled : Recalled tape at (w + at * 16)
    recalled = record { token = r.token; stands = stands_there; good = r.good; recoded = r.recoded tape at stands_there near; len = len_is; short = r.short }

  module _ {keys words : List ℕ} (m : Memory keys words) {place : ℕ} (h : place < PLACES) (same : get_or keys place 0 ≡ key) where
    pub remembered : Remembered key (get_or words place 0)
    remembered =
        ⊎_elim (λ e. absurd (not_empty known_key (sym same ∙ e))) (λ (r : Remembered (get_or keys place 0) (get_or words place 0)). rw same at r) (m.at place h)

-- ---- a table with a token more

-- the word of a token, moved to offset 0 and from there
module _ (tape : List ℕ) (at w : ℕ) (k : Known tape at w) where
  abbrev t : Token
  t = k.token

  few : w % 68719476736 ≡ t.kind + (at + 3) * 16 + length t.text * 1048576
  unfolding word
  few = let p = k.parts in let l = k.stands.low in let n = k.near in omega arith

  pub above_start : at * 16 ≤ w
  above_start = let f = few in omega arith

  module _ (short : length t.text ≤ 5) where
    left_parts : (w - at * 16) % 68719476736 ≡ plain_word 0 t
    unfolding word
    left_parts = let f = few in let l = k.stands.low in let n = k.near in omega arith

    module _ (tape' : List ℕ) (at' : ℕ) (s : TokenAt tape' at' t) (near' : at' + 8 < 65536) where
      abbrev r' : ℕ
      r' = w - at * 16 + at' * 16

      same_above : r' / 68719476736 ≡ w / 68719476736
      same_above = let f = few in let l = k.stands.low in let n = k.near in omega arith

      same_parts : r' % 68719476736 ≡ plain_word at' t % 68719476736
      unfolding word
      same_parts = let f = few in let l = k.stands.low in let n = k.near in omega arith

      elsewhere : Recoded tape' (plain_word at' t) r'
      elsewhere =
          let l = k.stands.low in
          let n = k.near in
          let lk : length t.text < 65536 = omega arith in
          let sk : at + 3 < 65536 = omega arith in
          let sk' : at' + 3 < 65536 = omega arith in
          let q = word-points t.kind 0 (at + 3) (length t.text) l (omega arith) sk lk tape [] (rw (in_tape tape [] {p = 0} refl) (inside_tape k.stands)) (omega arith) in
          recoded_elsewhere tape tape' w (plain_word at' t) r' same_above same_parts
          (same_buffer w (plain_word at t) k.parts ∙ word_place t.kind 0 (at + 3) (length t.text) l (omega arith) sk)
          (word_place t.kind 0 (at' + 3) (length t.text) l (omega arith) sk')
          (same_kind w (plain_word at t) k.parts ∙ word_kind t.kind 0 (at + 3) (length t.text) l (omega arith) sk ∙ sym (word_kind t.kind 0 (at' + 3) (length t.text) l (omega arith) sk'))
          (rw (
            word_start t.kind 0 (at' + 3) (length t.text) l (omega arith) sk',
            word_len t.kind 0 (at' + 3) (length t.text) l (omega arith) sk' lk,
            same_start w (plain_word at t) k.parts,
            same_len w (plain_word at t) k.parts,
            word_start t.kind 0 (at + 3) (length t.text) l (omega arith) sk,
            word_len t.kind 0 (at + 3) (length t.text) l (omega arith) sk lk,
          )
          (text_at s ∙ sym (text_at k.stands)))
          (k.recoded.points [] q)

  module _ (bytes : Bytes tape) {key : ℕ} (ek : some key ≡ key_of (drop at tape)) where
    key_known : KeyIs (drop at tape) key
    key_known = key_is (drop at tape) (bytes_drop at tape bytes) ek

    length_is : text_length (drop at tape) ≡ length t.text
    length_is = let n = k.near in text_length_at k.stands (omega arith)

    is_short : length t.text ≤ 5
    is_short = rw length_is at key_known.short

    learnt : Remembered key (w - at * 16)
    learnt = record {
      token = t;
      low = k.stands.low;
      good = k.good;
      short = is_short;
      bytes = rw length_is at key_known.bytes ∙ k.stands.stands;
      parts = left_parts is_short;
      recoded = elsewhere is_short;
    }

    module _ {keys words : List ℕ} (m : Memory keys words) {place : ℕ} (h : place < PLACES) where
      pub remembers : Memory (set keys place key) (set words place (w - at * 16))
      remembers = record {
        long_keys = length-set keys place key ∙ m.long_keys;
        long_words = length-set words place _ ∙ m.long_words;
        at = λ i b. by_cases (ℕ_discrete i place)
            (λ e. rw (e, get_or-set_same keys place key 0 (omega (arith, m.long_keys)), get_or-set_same words place (w - at * 16) 0 (omega (arith, m.long_words))) (inr learnt))
            (λ n. rw (get_or-set_other keys place i key 0 n, get_or-set_other words place i (w - at * 16) 0 n) (m.at i b));
      }
