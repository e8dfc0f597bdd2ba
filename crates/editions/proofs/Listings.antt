-- A listing whose tokens are changed one by one: within the limits as before, with a tape no longer than before; and the same listing where
-- each token is kept. Assumes nothing.
use Prim.Native.Nat.{◌≤◌}
use native.Mathlib.Omega.{arith}
use native.Mathlib.Nat.{le_refl, le_trans}
use mathlib.Core.Path.{◌≡◌, refl, ap}
use mathlib.Core.Bool.{Bool, true, false}
use mathlib.Core.List.{List, [], ◌∷◌, map, flat_map}
use lib.ListN.{length, drop, length-map, length-append}
use Rattle.reference.specs.Control.{◌and◌, ◌or◌}
use Rattle.reference.specs.Lists.{any}
use Rattle.reference.specs.Listing.{Token, token, is, Number, Listing}
use Rattle.reference.specs.Spans.{Marks}
use Rattle.reference.specs.Tape.{new_token, write_command, write_lines, write, write_by, write_command_by, write_line_by, write_lines_by}
use Rattle.reference.specs.Claim.{size, token_count, text_in, text}
use Rattle.reference.proofs.Cases.{by-if, neither, pair, fails, true-false, both}
use Rattle.reference.proofs.Commands.{AddressFits}
use Rattle.reference.proofs.LittleEndian.{to_length}
use Rattle.reference.proofs.Limits.{All, TokenFits, LineFits, TapeFits}
use Rattle.editions.specs.Numbers.{is_newer, has_no_older}
use Rattle.editions.specs.Conversion.{down_token, is_newer_number, earns_13, change, holds}
use Rattle.editions.proofs.Lowering.{no_longer, kept, none_newer, still_printable, still_some}

pub or_both : {a b : Bool} → a ≡ false → b ≡ false → (a or b) ≡ false
unfolding ◌or◌
or_both {a = true} e f = e
or_both {a = false} e f = f

-- ---- any change of tokens

module _ (f : Token → Token) where
  pub change-length : (lines : Listing) → length (change f lines) ≡ length lines
  unfolding change
  change-length lines = length-map lines _

  pub change-count : (lines : Listing) → token_count (change f lines) ≡ token_count lines
  unfolding change
  change-count [] = refl
  change-count (l ∷ ls) = omega (arith, length-map l.tokens f, change-count ls)

  change-addresses : (lines : Listing) → All (λ l. AddressFits l.address) lines → All (λ l. AddressFits l.address) (change f lines)
  unfolding change
  change-addresses [] h = tt
  change-addresses (l ∷ ls) h = (h.0, change-addresses ls h.1)

  -- one that lengthens no text
  module _ (short : (t : Token) → size (f t) ≤ size t) where
    change-text_in : (ts : List Token) → text_in (map f ts) ≤ text_in ts
    change-text_in [] = omega arith
    change-text_in (t ∷ ts) = omega (arith, short t, change-text_in ts)

    pub change_text : (lines : Listing) → text (change f lines) ≤ text lines
    unfolding change
    change_text [] = omega arith
    change_text (l ∷ ls) = omega (arith, change-text_in l.tokens, change_text ls)

    tokens-shorter : (ts : List Token)
        → length (flat_map (λ t. write_command (new_token t)) (map f ts)) ≤ length (flat_map (λ t. write_command (new_token t)) ts)
    unfolding flat_map write_command_by
    tokens-shorter [] = omega arith
    tokens-shorter (t ∷ ts) = simp (length-append, to_length) (omega (arith, short t, tokens-shorter ts))

    lines-shorter : (lines : Listing) (marks : List Marks) → length (write_lines (change f lines) marks) ≤ length (write_lines lines marks)
    unfolding change write_lines_by write_line_by flat_map
    lines-shorter [] marks = omega arith
    lines-shorter (l ∷ ls) marks = simp length-append (omega (arith, tokens-shorter l.tokens, lines-shorter ls (drop 1 marks)))

    pub write-shorter : (lines : Listing) (marks : List Marks) → length (write (change f lines) marks) ≤ length (write lines marks)
    unfolding write_by
    write-shorter lines marks = simp length-append (omega (arith, lines-shorter lines marks))

    -- one that keeps tokens within the limits
    module _ (fit : (t : Token) → TokenFits t → TokenFits (f t)) where
      tokens_fit : (ts : List Token) → All TokenFits ts → All TokenFits (map f ts)
      tokens_fit [] h = tt
      tokens_fit (t ∷ ts) h = (fit t h.0, tokens_fit ts h.1)

      lines_fit : (lines : Listing) → All LineFits lines → All LineFits (change f lines)
      unfolding change
      lines_fit [] h = tt
      lines_fit (l ∷ ls) h = (record { indent = h.0.indent; tokens = tokens_fit l.tokens h.0.tokens }, lines_fit ls h.1)

      pub change-fits : (lines : Listing) → TapeFits lines → TapeFits (change f lines)
      change-fits lines h =
          record {
            limits =
                record {
                  few_lines = omega (arith, change-length lines, h.limits.few_lines);
                  few_tokens = omega (arith, change-count lines, h.limits.few_tokens);
                  short_text = le_trans (change_text lines) h.limits.short_text;
                  each = lines_fit lines h.limits.each;
                };
            addresses = change-addresses lines h.addresses;
          }

  -- what is kept where a test fails
  module _ (p : Token → Bool) (same : (t : Token) → p t ≡ false → f t ≡ t) where
    tokens_same : (ts : List Token) → any p ts ≡ false → map f ts ≡ ts
    tokens_same [] h = refl
    tokens_same (t ∷ ts) h = rw (same t (neither h).0, tokens_same ts (neither h).1) refl

    pub change_same : (lines : Listing) → holds p lines ≡ false → change f lines ≡ lines
    unfolding change holds
    change_same [] h = refl
    change_same (l ∷ ls) h = rw (tokens_same l.tokens (neither h).0, change_same ls (neither h).1) refl

  -- what fails of the new token where another test fails of the old one
  module _ (p q : Token → Bool) (clears : (t : Token) → p t ≡ false → q (f t) ≡ false) where
    tokens_clear : (ts : List Token) → any p ts ≡ false → any q (map f ts) ≡ false
    tokens_clear [] h = refl
    tokens_clear (t ∷ ts) h = or_both (clears t (neither h).0) (tokens_clear ts (neither h).1)

    pub change_clear : (lines : Listing) → holds p lines ≡ false → holds q (change f lines) ≡ false
    unfolding change holds
    change_clear [] h = refl
    change_clear (l ∷ ls) h = or_both (tokens_clear l.tokens (neither h).0) (change_clear ls (neither h).1)

-- a test that implies another
module _ (p q : Token → Bool) (implies : (t : Token) → p t ≡ false → q t ≡ false) where
  any_implies : (ts : List Token) → any p ts ≡ false → any q ts ≡ false
  any_implies [] h = refl
  any_implies (t ∷ ts) h = or_both (implies t (neither h).0) (any_implies ts (neither h).1)

  pub holds_implies : (lines : Listing) → holds p lines ≡ false → holds q lines ≡ false
  unfolding holds
  holds_implies [] h = refl
  holds_implies (l ∷ ls) h = or_both (any_implies l.tokens (neither h).0) (holds_implies ls (neither h).1)

-- ---- going down

pub down-short : (t : Token) → size (down_token t) ≤ size t
unfolding down_token
down-short t = by-if (λ (u : Token). size u ≤ size t) (λ e. no_longer t.text) (λ e. le_refl _)

pub down_fit : (t : Token) → TokenFits t → TokenFits (down_token t)
unfolding down_token
down_fit t h =
    by-if TokenFits
    (λ e.
    record {
      kind = h.kind;
      some_text = still_some t.text h.some_text;
      number = λ k. le_trans (no_longer t.text) (h.number e);
      printable = still_printable t.text h.printable;
    })
    (λ e. h)

pub down_same : (t : Token) → is_newer_number t ≡ false → down_token t ≡ t
unfolding down_token is_newer_number
down_same t h = by-if (λ (u : Token). u ≡ t) (λ e. ap (token t.kind) (kept t.text (fails (λ k. true-false (pair e k) h)))) (λ e. refl)

pub down_clear : (t : Token) → earns_13 t ≡ false → is_newer_number (down_token t) ≡ false
unfolding down_token is_newer_number earns_13 is
down_clear t h =
    by-if (λ (u : Token). (is Number u and is_newer u.text) ≡ false)
    (λ e. fails (λ k. true-false (both k).1 (none_newer t.text (fails (λ m. true-false (pair e m) h)))))
    (λ e. fails (λ k. true-false (both k).0 e))

pub newer_earns : (t : Token) → is_newer_number t ≡ false → earns_13 t ≡ false
unfolding is_newer_number earns_13 has_no_older
newer_earns t h = fails (λ k. true-false (pair (both k).0 (both (both k).1).0) h)
