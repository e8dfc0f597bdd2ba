-- Laws of line words: bounds, what a word that was made means, lists of lines, and that nothing matters but the used parts of the area and
-- of the token words. Assumes nothing.
use Prim.Native.Nat.{ℕ, zero, suc, ◌+◌, ◌%◌, ◌^◌, ◌≤◌, ◌<◌}
use native.Mathlib.Omega.{arith}
use native.Mathlib.Nat.{zero-div}
use mathlib.Core.Path.{◌≡◌, refl, sym, ap, ◌∙◌}
use mathlib.Core.List.{List, [], ◌∷◌, ◌++◌, map, map-map}
use mathlib.Core.Option.{none, some}
use lib.Dec.{eqb}
use lib.ListN.{length, take, drop, get_or, set, length-take}
use lib.Seq.{take-append_seam}
use Rattle.reference.specs.Control.{when◌then◌else◌}
use Rattle.reference.specs.Lists.{remove}
use Rattle.reference.specs.Text.{Text}
use Rattle.reference.specs.Listing.{Token, ◌at◌, with_tokens}
use Rattle.laws.proofs.Parts.{part-below}
use Rattle.lines.specs.Words.{tokens_of, Holds}
use Rattle.lines.specs.Facts.{bit, Tells}
use Rattle.lines.specs.Lines.{first_of, count_of, indent_of, addressed_of, origin_of, facts_of, with_facts, flag, line_word, with_part, part_of}
use Rattle.lines.specs.Lines.{address_in, Reading, own, numbered, read_as, line_read, listing_read, line_in, bare, bare_in, bare_listing, Lined, Listed}
use Rattle.lines.proofs.words.Each.{each_none, each_one, each_append, each_set, each-remove, map_at, map_same}
use Rattle.lines.proofs.words.Tokens.{holds-take, holds-drop, holds-prefix, tokens-prefix}

pub first_below : (l : ℕ) → first_of l < 65536
unfolding first_of
first_below l = omega arith

pub count-below : (l : ℕ) → count_of l < 2048
unfolding count_of
count-below l = omega arith

pub indent-below : (l : ℕ) → indent_of l < 64
unfolding indent_of
indent-below l = omega arith

pub addressed-below : (l : ℕ) → addressed_of l < 2
unfolding addressed_of
addressed-below l = omega arith

-- the flag that `addressed` reads is the one that the word has
pub flag_addressed : (l : ℕ) → flag (eqb (addressed_of l) 1) ≡ addressed_of l
flag_addressed l = flag_of (addressed_of l) (addressed-below l)
  where
    flag_of : (a : ℕ) → a < 2 → flag (eqb a 1) ≡ a
    flag_of zero h = refl
    flag_of (suc zero) h = refl
    flag_of (suc (suc a)) h = absurd (omega arith)

pub origin_below : (l : ℕ) → origin_of l < 256
unfolding origin_of
origin_below l = omega arith

-- ---- reading back what was made

module _ (f c i a o : ℕ) (hf : f < 65536) (hc : c < 2048) where
  pub word_first : first_of (line_word f c i a o) ≡ f
  unfolding line_word first_of
  word_first = omega arith

  pub word_count : count_of (line_word f c i a o) ≡ c
  unfolding line_word count_of
  word_count = omega arith

  module _ (hi : i < 64) where
    pub word-indent : indent_of (line_word f c i a o) ≡ i
    unfolding line_word indent_of
    word-indent = omega arith

    module _ (ha : a < 2) where
      pub word-addressed : addressed_of (line_word f c i a o) ≡ a
      unfolding line_word addressed_of
      word-addressed = omega arith

      module _ (ho : o < 256) where
        pub word_origin : origin_of (line_word f c i a o) ≡ o
        unfolding line_word origin_of
        word_origin = omega arith

        pub word-facts : facts_of (line_word f c i a o) ≡ 0
        unfolding line_word facts_of
        word-facts = omega arith

        pub line_word-means : (tape area : Text) (tokens addresses : List ℕ)
            → line_in tape area tokens addresses (line_word f c i a o)
            ≡ record { address = when eqb a 1 then some (get_or addresses o 0) else none; indent = i; tokens = tokens_of tape area (take c (drop f tokens)) }
        unfolding address_in
        line_word-means tape area tokens addresses = rw (word_first, word_count, word-indent, word-addressed, word_origin)

-- the same line with other tokens
module _ (l f c : ℕ) (hf : f < 65536) (hc : c < 2048) where
  pub with_first : first_of (with_part l f c) ≡ f
  unfolding with_part
  with_first = word_first f c (indent_of l) (addressed_of l) (origin_of l) hf hc

  pub with_count : count_of (with_part l f c) ≡ c
  unfolding with_part
  with_count = word_count f c (indent_of l) (addressed_of l) (origin_of l) hf hc

  pub with_factless : facts_of (with_part l f c) ≡ 0
  unfolding with_part
  with_factless = word-facts f c (indent_of l) (addressed_of l) (origin_of l) hf hc (indent-below l) (addressed-below l) (origin_below l)

  pub with_part_of : (tokens : List ℕ) → part_of tokens (with_part l f c) ≡ take c (drop f tokens)
  with_part_of tokens = rw (with_first, with_count)

  pub with_means : (tape area : Text) (tokens addresses : List ℕ)
      → line_in tape area tokens addresses (with_part l f c) ≡ with_tokens (tokens_of tape area (take c (drop f tokens))) (line_in tape area tokens addresses l)
  unfolding with_part address_in
  with_means tape area tokens addresses =
      line_word-means f c (indent_of l) (addressed_of l) (origin_of l) hf hc (indent-below l) (addressed-below l) (origin_below l) tape area tokens addresses

  with_indent : indent_of (with_part l f c) ≡ indent_of l
  unfolding with_part
  with_indent = word-indent f c (indent_of l) (addressed_of l) (origin_of l) hf hc (indent-below l)

  with_addressed : addressed_of (with_part l f c) ≡ addressed_of l
  unfolding with_part
  with_addressed = word-addressed f c (indent_of l) (addressed_of l) (origin_of l) hf hc (indent-below l) (addressed-below l)

  with_origin : origin_of (with_part l f c) ≡ origin_of l
  unfolding with_part
  with_origin = word_origin f c (indent_of l) (addressed_of l) (origin_of l) hf hc (indent-below l) (addressed-below l) (origin_below l)

  with_address : (addresses : Reading) → read_as addresses (with_part l f c) ≡ read_as addresses l
  unfolding address_in
  with_address (own addresses) = rw (with_addressed, with_origin)
  with_address numbered = rw with_origin

  pub with_read : (tape area : Text) (tokens : List ℕ) (addresses : Reading)
      → line_read tape area tokens addresses (with_part l f c)
      ≡ with_tokens (tokens_of tape area (take c (drop f tokens))) (line_read tape area tokens addresses l)
  with_read tape area tokens addresses =
      let a = with_address addresses in
      let i : indent_of (with_part l f c) ≡ indent_of l = with_indent in
      let t : tokens_of tape area (part_of tokens (with_part l f c)) ≡ tokens_of tape area (take c (drop f tokens)) = ap (tokens_of tape area) (with_part_of tokens) in
      λ j. record { address = a j; indent = i j; tokens = t j }

-- facts change nothing else
module _ (l m : ℕ) where
  pub noted-first : first_of (with_facts l m) ≡ first_of l
  unfolding with_facts first_of
  noted-first = omega arith

  pub noted-count : count_of (with_facts l m) ≡ count_of l
  unfolding with_facts count_of
  noted-count = omega arith

  pub noted-indent : indent_of (with_facts l m) ≡ indent_of l
  unfolding with_facts indent_of
  noted-indent = omega arith

  pub noted-addressed : addressed_of (with_facts l m) ≡ addressed_of l
  unfolding with_facts addressed_of
  noted-addressed = omega arith

  pub noted_origin : origin_of (with_facts l m) ≡ origin_of l
  unfolding with_facts origin_of
  noted_origin = omega arith

  pub noted_read : (addresses : Reading) → read_as addresses (with_facts l m) ≡ read_as addresses l
  unfolding address_in
  noted_read (own addresses) = rw (noted-addressed, noted_origin)
  noted_read numbered = rw noted_origin

  pub noted-facts : facts_of (with_facts l m) ≡ m
  unfolding with_facts facts_of
  noted-facts = omega arith

-- no facts say nothing
not_set : (i : ℕ) {X : Type 0} → bit 0 i ≡ 1 → X
unfolding bit
not_set i e = absurd (omega (arith, ap (λ (x : ℕ). x % 2) (zero-div (2 ^ i))))

pub no_facts : {m : ℕ} (ts : List Token) → m ≡ 0 → Tells 1 m ts
no_facts ts z = rw z (record { lacks = λ i h e. not_set i e; no_call = λ e. not_set 16 e; calling = λ e. not_set 17 e })

-- ---- one line

pub lined_of : {tape area : Text} {tokens : List ℕ} (l : ℕ) → Holds tape area tokens → first_of l + count_of l ≤ length tokens → facts_of l ≡ 0 → Lined tape area tokens l
lined_of {tape} {area} {tokens} l h i z = record { inside = i; holds = holds-take (holds-drop h (first_of l)) (count_of l); facts = no_facts (tokens_of tape area (part_of tokens l)) z }

module _ (tape area : Text) (tokens : List ℕ) (addresses : Reading) (lines : List ℕ) where
  pub listing_at : (k : ℕ) → k < length lines → listing_read tape area tokens addresses lines at k ≡ line_read tape area tokens addresses (get_or lines k 0)
  listing_at k h = map_at (line_read tape area tokens addresses) lines k _ h

  -- what only reads the listing says nothing of addresses
  pub bare-means : bare_listing tape area tokens lines ≡ map bare (listing_read tape area tokens addresses lines)
  bare-means = sym (map-map bare (line_read tape area tokens addresses) lines)

module _ (tape area : Text) (tokens addresses lines : List ℕ) where
  pub bare_at : (k : ℕ) → k < length lines → bare_listing tape area tokens lines at k ≡ bare_in tape area tokens (get_or lines k 0)
  bare_at k h = map_at (bare_in tape area tokens) lines k _ h

-- ---- lists of lines

pub listed_none : (tape area : Text) (tokens : List ℕ) → Listed tape area tokens []
listed_none tape area tokens = record { at = each_none (Lined tape area tokens) }

module _ {tape area : Text} {tokens lines : List ℕ} (h : Listed tape area tokens lines) where
  pub listed_snoc : {l : ℕ} → Lined tape area tokens l → Listed tape area tokens (lines ++ (l ∷ []))
  listed_snoc p = record { at = each_append (Lined tape area tokens) lines h.at _ (each_one (Lined tape area tokens) p) }

  pub listed-set : {l : ℕ} (i : ℕ) → Lined tape area tokens l → Listed tape area tokens (set lines i l)
  listed-set i p = record { at = each_set (Lined tape area tokens) lines h.at i p }

  pub listed-remove : (i : ℕ) → Listed tape area tokens (remove i lines)
  listed-remove i = record { at = each-remove (Lined tape area tokens) i lines h.at }

-- ---- the used parts

-- a line of the first n token words, whose texts are in the first m bytes of the area, is the same line of them all
module _ {tape : Text} (m : ℕ) (area : Text) (n : ℕ) (tokens : List ℕ) {l : ℕ} (h : Lined tape (take m area) (take n tokens) l) where
  part-prefix : part_of (take n tokens) l ≡ part_of tokens l
  part-prefix = part-below (first_of l) (count_of l) n tokens (omega (arith, h.inside, length-take n tokens))

  line_tokens : tokens_of tape (take m area) (part_of (take n tokens) l) ≡ tokens_of tape area (part_of tokens l)
  line_tokens = tokens-prefix m area h.holds ∙ ap (tokens_of tape area) part-prefix

  pub lined-prefix : Lined tape area tokens l
  lined-prefix = record { inside = omega (arith, h.inside, length-take n tokens); holds = rw part-prefix at (holds-prefix m area h.holds); facts = rw line_tokens at h.facts }

  pub line_prefix : (addresses : Reading) → line_read tape (take m area) (take n tokens) addresses l ≡ line_read tape area tokens addresses l
  line_prefix addresses = let e = line_tokens in cc

module _ {tape : Text} (m : ℕ) (area : Text) (n : ℕ) (tokens : List ℕ) {lines : List ℕ} where
  pub listed-prefix : Listed tape (take m area) (take n tokens) lines → Listed tape area tokens lines
  listed-prefix h = record { at = λ k b. lined-prefix m area n tokens (h.at k b) }

  pub read-prefix : (addresses : Reading) → Listed tape (take m area) (take n tokens) lines
      → listing_read tape (take m area) (take n tokens) addresses lines ≡ listing_read tape area tokens addresses lines
  read-prefix addresses h =
      map_same (line_read tape (take m area) (take n tokens) addresses) (line_read tape area tokens addresses) lines
      (λ k b. line_prefix m area n tokens (h.at k b) addresses)

-- the area and the token words grow beyond their used parts
module _ {tape used : Text} {tokens : List ℕ} (more : Text) (next : List ℕ) {lines : List ℕ} (h : Listed tape used tokens lines) where
  in_front : Listed tape (take (length used) (used ++ more)) (take (length tokens) (tokens ++ next)) lines
  in_front = rw (take-append_seam, take-append_seam) h

  pub listed-grows : Listed tape (used ++ more) (tokens ++ next) lines
  listed-grows = listed-prefix (length used) (used ++ more) (length tokens) (tokens ++ next) in_front

  pub listing-grows : (addresses : Reading) → listing_read tape (used ++ more) (tokens ++ next) addresses lines ≡ listing_read tape used tokens addresses lines
  listing-grows addresses =
      sym (read-prefix (length used) (used ++ more) (length tokens) (tokens ++ next) addresses in_front) ∙ rw (take-append_seam, take-append_seam)
