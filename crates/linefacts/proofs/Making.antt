-- The numbers of families, the bits of tokens and of lines, and the facts that are made of them. Assumes nothing.
use Prim.Native.Nat.{ℕ, ◌+◌, ◌-◌, ◌/◌, ◌%◌, ◌≤◌, ◌<◌}
use native.Mathlib.Omega.{arith}
use mathlib.Core.Path.{◌≡◌, refl, sym, ap, ◌∙◌}
use mathlib.Core.Bool.{Bool, true, false}
use mathlib.Core.List.{List}
use lib.Bits.{bit_or, bit_xor, or_lt, xor_lt}
use lib.ListN.{length, take, get_or}
use Rattle.std.proofs.lemmas.List.{take_more, map-append}
use Rattle.laws.proofs.Scans.{any_append}
use Rattle.reference.specs.Control.{◌or◌}
use Rattle.reference.specs.Lists.{any, is_some}
use Rattle.reference.specs.Text.{Text}
use Rattle.reference.specs.Listing.{Token, is, Symbol}
use Rattle.reference.specs.Shapes.{call_in}
use Rattle.names.specs.Families.{is_row}
use Rattle.lines.specs.Codes.{bucket, family_number, Says}
use Rattle.lines.specs.Words.{text_of, token_of, tokens_of}
use Rattle.lines.specs.Facts.{bit, is_control, concerns, Tells}
use Rattle.lines.specs.Lines.{with_facts, part_of, Lined}
use Rattle.lines.specs.Fams.{Fam, fam_text}
use Rattle.lines.proofs.fams.Families.{fam-row, fam-name}
use Rattle.lines.proofs.words.Lines.{noted-first, noted-count, noted-indent, noted_read, noted-facts}
use Rattle.lines.proofs.codes.Coding.{name-whole, row-numbered, text_numbered}
use Rattle.linefacts.specs.Gathering.{seen_by, Bits, CallFacts, Noted, AllNoted}
use Rattle.linefacts.proofs.Bits.{or_left, or_right, low_bit, turn_bit}
use Rattle.linefacts.proofs.Tokens.{control_fact, symbol_seen, fact_seen}
use Rattle.linefacts.proofs.Lacking.{any-less, plain-call}

-- ---- the number of a family

pub code_number : {c : ℕ} {s : Text} → Says c s → 36 ≤ c → c % 4 ≡ 0 → c / 4 - 1 ≡ family_number s
code_number {c} {s} q h z = q.number_is ∙ ap family_number (name-whole c s h z)

pub name_number : (tape area : Text) (w : ℕ) {b : ℕ} {s : Text} → is_row (text_of tape area w) ≡ false → s ≡ text_of tape area w → b ≡ bucket s → 8 + b ≡ family_number (text_of tape area w)
name_number tape area w n es eb = sym (text_numbered (text_of tape area w) n ∙ ap (λ (x : ℕ). 8 + x) (sym (eb ∙ ap bucket es)))

pub row_is : (tape area : Text) {f : Fam} → f < 8 → f ≡ family_number (fam_text tape area f)
row_is tape area {f} h = sym (ap family_number (fam-row tape area h) ∙ row-numbered f h)

pub text_is : (tape area : Text) {f : Fam} {x : ℕ} → 8 ≤ f → x ≡ family_number (text_of tape area f) → x ≡ family_number (fam_text tape area f)
text_is tape area h e = e ∙ sym (ap family_number (fam-name tape area h))

-- ---- the bits of a line: one more token

module _ (tape area : Text) (ws : List ℕ) {has b k : ℕ}
    (g : Bits has (λ i. any (seen_by i) (tokens_of tape area (take k ws)))) (h : k < length ws) (t : Bits b (λ i. seen_by i (token_of tape area (get_or ws k 0)))) where
  pub more_bits : Bits (bit_or has b) (λ i. any (seen_by i) (tokens_of tape area (take (k + 1) ws)))
  unfolding ◌or◌
  more_bits = record {
    small = or_lt 17 has b g.small t.small;
    fails = λ i l z.
        rw (
          take_more ws k 0 h,
          map-append (token_of tape area) (take k ws),
          any_append (seen_by i) (tokens_of tape area (take k ws)),
          g.fails i l (or_left has b i z),
          t.fails i l (or_right has b i z),
        );
  }

-- ---- the facts of whether a line calls: x is whether it does

pub unasked_facts : (x : Bool) → CallFacts 0 x
unfolding bit
unasked_facts x = record { small = omega arith; above = refl; no_call = λ z. absurd (omega arith); calling = λ z. absurd (omega arith) }

pub calls_facts : {x y : Bool} → y ≡ x → y ≡ true → CallFacts 131072 x
unfolding bit
calls_facts e t = record { small = omega arith; above = refl; no_call = λ z. absurd (omega arith); calling = λ z. sym e ∙ t }

pub callless_facts : {x y : Bool} → y ≡ x → y ≡ false → CallFacts 65536 x
unfolding bit
callless_facts e f = record { small = omega arith; above = refl; no_call = λ z. sym e ∙ f; calling = λ z. absurd (omega arith) }

module _ (ts : List Token) {has : ℕ} (b : Bits has (λ i. any (seen_by i) ts)) where
  -- neither control flow nor a Symbol
  pub plain_facts : has % 65536 < 32768 → has < 65536 → CallFacts 65536 (is_some (call_in ts))
  unfolding bit
  plain_facts h s = callless_facts refl (plain-call ts
      (any-less is_control _ (λ t e. fact_seen t 15 (λ q. omega arith) ∙ control_fact t 15 refl ∙ e) ts (b.fails 15 (omega arith) (omega arith)))
      (any-less (is Symbol) _ (λ t e. symbol_seen t 16 refl ∙ e) ts (b.fails 16 (omega arith) (omega arith))))

  -- ---- the facts that are made: the bits turned, and those

  module _ {k : ℕ} (g : CallFacts k (is_some (call_in ts))) where
    abbrev turned : ℕ
    turned = bit_xor (has % 65536) 65535

    turned_small : turned < 65536
    turned_small = xor_lt 16 (has % 65536) 65535 (omega arith) (omega arith)

    pub made_small : turned + k < 4194304
    made_small = omega (arith, turned_small, g.small)

    low : turned ≡ (turned + k) % 65536
    low = omega (arith, turned_small, g.above)

    pub made_tells : Tells 1 (turned + k) ts
    unfolding bit
    made_tells = record {
      lacks = λ i h e.
          any-less (concerns i) _ (λ t q. fact_seen t i (λ z. omega arith) ∙ q) ts
          (b.fails i (omega arith) (sym (low_bit has i h) ∙ turn_bit (has % 65536) i h (rw low (low_bit (turned + k) i h ∙ e))));
      no_call = λ e. g.no_call (omega (arith, turned_small, g.above, e));
      calling = λ e. g.calling (omega (arith, turned_small, g.above, e));
    }

-- the part of the tokens is the same with any facts
noted-part : (tokens : List ℕ) (l m : ℕ) → part_of tokens (with_facts l m) ≡ part_of tokens l
noted-part tokens l m = rw (noted-first l m, noted-count l m)

module _ {tape area : Text} {tokens : List ℕ} {l m : ℕ} (h : Lined tape area tokens l) where
  lined_with : Tells 1 m (tokens_of tape area (part_of tokens l)) → Lined tape area tokens (with_facts l m)
  lined_with t = record {
    inside = rw (noted-first l m, noted-count l m) h.inside;
    holds = rw (noted-part tokens l m) h.holds;
    facts = rw (noted-facts l m, noted-part tokens l m) t;
  }

pub noted_with : {tape area : Text} {tokens ws : List ℕ} {l m r : ℕ} → Lined tape area tokens l → ws ≡ part_of tokens l
    → Tells 1 m (tokens_of tape area ws) → r ≡ with_facts l m → Noted tape area tokens l r
noted_with {tape} {area} {tokens} {ws} {l} {m} h ew s er = rw er (record {
  first_is = noted-first l m;
  count_is = noted-count l m;
  means = λ addresses.
      (let ts = ap (tokens_of tape area) (noted-part tokens l m) in
      λ j. record { address = noted_read l m addresses j; indent = noted-indent l m j; tokens = ts j });
  lined = lined_with h (rw ew at s);
})

-- ---- lists of lines

pub all-noted-lined : {tape area : Text} {tokens lines after : List ℕ} → AllNoted tape area tokens lines after → (k : ℕ) → k < length after → Lined tape area tokens (get_or after k 0)
all-noted-lined r k b = (r.at k (omega (arith, r.long))).lined
