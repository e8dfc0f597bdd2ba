-- The token that uses a definition: its width, whether it is written, the texts beside it. Assumes nothing.
use Rattle.std.proofs.Common.{◌≡◌, ℕ, suc, ◌+◌, ◌-◌, ◌<◌, Bool, true, false, ◌&&◌, List, length, get_or, eqb, ltb, leb, refl, sym, ap, ◌∙◌, arith, add-one, eq-eqb, ne_eqb, lt-ltb, le-ltb, le-leb}
use borrow.Author.Tests.{lt-leb}
use lib.ListN.{length-map, get_or-map}
use Rattle.std.proofs.Common.{not as flip, Some, None}
use Rattle.std.specs.Option.{MatchOption}
use Rattle.std.specs.Prelude as std
use native.Mathlib.Decide.{dec_le}
use mathlib.Core.Logic.{by_cases}
use Rattle.reference.specs.Control.{not, ◌and◌, ◌or◌, when◌then◌else◌, let_some◌else◌then◌}
use Rattle.reference.specs.Text.{Text, bytes, starts_with, ends_with, trim_start}
use Rattle.reference.specs.Listing.{Token, is, Punct}
use Rattle.reference.specs.Names.{family}
use Rattle.reference.specs.Rules.{Rules}
use Rattle.reference.specs.Shapes.{is_operator_expr}
use Rattle.reference.specs.Join.{written_from, starts_with_operator, text_before, text_after, standalone, is_bracketed, use_width, use_lowest, is_compound, replaceable}
use Rattle.reference.proofs.Parts.{without_parts, adds-lowest}
use Rattle.laws.proofs.Scans.{and_true, and_false}
use Rattle.laws.proofs.Std.{and-std, not-std}
use Rattle.joining.proofs.Fitting.{before_at, after_at, first-not-standalone, last-not-standalone}
use Rattle.lines.specs.Words.{kind_of, text_of, token_of, tokens_of}
use Rattle.lines.specs.Fams.{Names}
use Rattle.lines.specs.declared.fams.Named.{Named}
use Rattle.lines.proofs.fams.Families.{named_as, named-not}
use Rattle.lines.specs.Shapes.{expr_words, Expression}
use Rattle.lines.specs.declared.shapes.Expr.{Expr}
use Rattle.lines.proofs.shapes.Right.{expr-length}
use Rattle.lines.proofs.shapes.Places.{get_at, get_past}

-- ---- the name of the token at `pos`

-- n is the name of the token at `pos`
module _ (tape area : Text) (ws : List ℕ) (pos : ℕ) (h : pos < length ws) where
  pub width_is : {n : std.Option Named} → Names tape area (family (text_of tape area (get_or ws pos 0))) n
      → {r : ℕ} → MatchOption n (r ≡ 64) (λ m. r ≡ m.width) → r ≡ use_width (tokens_of tape area ws) pos
  unfolding use_width let_some◌else◌then◌
  width_is {n = None} hn e = rw (get_at (token_of tape area) ws pos h, named-not hn refl) e
  width_is {n = Some m} hn e = rw (get_at (token_of tape area) ws pos h, named_as hn refl) e

  -- another lowest bit, below 32 bits
  pub elsewhere_is : (lowest : ℕ) {n : std.Option Named} → Names tape area (family (text_of tape area (get_or ws pos 0))) n
      → {r : Bool} → MatchOption n (r ≡ false) (λ m. r ≡ (ltb m.width 32 && flip (eqb m.lowest lowest)))
      → r ≡ (ltb (use_width (tokens_of tape area ws) pos) 32 and not (eqb (use_lowest (tokens_of tape area ws) pos) lowest))
  unfolding use_width use_lowest let_some◌else◌then◌
  elsewhere_is lowest {n = None} hn e = rw (get_at (token_of tape area) ws pos h, named-not hn refl) (e ∙ sym (and_false _ refl))
  elsewhere_is lowest {n = Some m} hn e =
      rw (get_at (token_of tape area) ws pos h, named_as hn refl)
      (e ∙ and-std (ltb m.width 32) (flip (eqb m.lowest lowest)) ∙ ap (λ b. ltb m.width 32 and b) (not-std (eqb m.lowest lowest)))

-- ---- a compound operator after it

pub compound_is : (tape area : Text) (ws : List ℕ) (pos : ℕ)
    → is_compound (tokens_of tape area ws) pos
    ≡ (eqb pos 0
    and leb 2 (length ws)
    and eqb (kind_of (get_or ws 1 0)) Punct
    and starts_with_operator (trim_start (text_of tape area (get_or ws 1 0)))
    and not (starts_with (text_of tape area (get_or ws 1 0)) (bytes " = ")))
unfolding is_compound let_some◌else◌then◌ is ◌and◌
compound_is tape area ws pos =
    by_cases (dec_le 2 (length ws))
    (λ h. rw (get_at (token_of tape area) ws 1 h, le-leb 2 (length ws) h))
    (λ h. (let b : length ws < 2 = omega (arith, h) in rw (get_past (token_of tape area) ws 1 (omega arith), lt-leb 2 (length ws) b)))

-- ---- the whole test

module _ (fam : Text) (width : ℕ) (toks : List Token) (pos : ℕ) where
  pub fits_is : replaceable false (record { name = fam; width = width; lowest = 0 }) toks pos
      ≡ (not ((ltb (use_width toks pos) 32 or ltb width 32) and not (eqb (use_width toks pos) width)) and not (is_compound toks pos) and not (written_from fam toks))
  fits_is = without_parts (record { name = fam; width = width; lowest = 0 }) toks pos

  -- and the part: without the setting the lowest bit does not matter
  pub part_is : (lowest : ℕ) (parts : Bool)
      → replaceable parts (record { name = fam; width = width; lowest = lowest }) toks pos
      ≡ (replaceable false (record { name = fam; width = width; lowest = 0 }) toks pos
      and not (parts and ltb (use_width toks pos) 32 and not (eqb (use_lowest toks pos) lowest)))
  unfolding ◌and◌ not
  part_is lowest parts = by parts
    where
      off_is : replaceable false (record { name = fam; width = width; lowest = lowest }) toks pos ≡ replaceable false (record { name = fam; width = width; lowest = 0 }) toks pos
      off_is =
          without_parts (record { name = fam; width = width; lowest = lowest }) toks pos
          ∙ sym (without_parts (record { name = fam; width = width; lowest = 0 }) toks pos)

      by : (parts : Bool) → replaceable parts (record { name = fam; width = width; lowest = lowest }) toks pos
          ≡ (replaceable false (record { name = fam; width = width; lowest = 0 }) toks pos
          and not (parts and ltb (use_width toks pos) 32 and not (eqb (use_lowest toks pos) lowest)))
      by true =
          adds-lowest (record { name = fam; width = width; lowest = lowest }) toks pos
          ∙ ap (λ (b : Bool). b and not (ltb (use_width toks pos) 32 and not (eqb (use_lowest toks pos) lowest))) off_is
      by false = off_is ∙ last (replaceable false (record { name = fam; width = width; lowest = 0 }) toks pos)
        where
          last : (b : Bool) → b ≡ (b and true)
          last true = refl
          last false = refl

-- ---- the texts beside it

module _ (tape area : Text) (ws : List ℕ) (pos : ℕ) where
  module _ (n : pos ≡ 0 → ⊥) (h : pos + 1 < length ws) where
    before_is : text_before (tokens_of tape area ws) pos ≡ text_of tape area (get_or ws (pos - 1) 0)
    before_is =
        before_at (tokens_of tape area ws) pos (token_of tape area 0) (omega arith) (rw length-map (omega arith))
        ∙ ap (λ (t : Token). t.text) (get_or-map (token_of tape area) ws (pos - 1) 0)

    after_is : text_after (tokens_of tape area ws) pos ≡ text_of tape area (get_or ws (pos + 1) 0)
    after_is =
        after_at (tokens_of tape area ws) pos (token_of tape area 0) (rw length-map (omega arith))
        ∙ ap (λ (t : Token). t.text) (get_or-map (token_of tape area) ws (suc pos) 0)
        ∙ ap (λ (k : ℕ). text_of tape area (get_or ws k 0)) (sym (add-one pos))

  pub alone_is : standalone (text_before (tokens_of tape area ws) pos) (text_after (tokens_of tape area ws) pos)
      ≡ (flip (eqb pos 0)
      and ltb (pos + 1) (length ws)
      and (ends_with (text_of tape area (get_or ws (pos - 1) 0)) (bytes "(") or ends_with (text_of tape area (get_or ws (pos - 1) 0)) (bytes ", ")
      or ends_with (text_of tape area (get_or ws (pos - 1) 0)) (bytes " = "))
      and (starts_with (text_of tape area (get_or ws (pos + 1) 0)) (bytes ")") or starts_with (text_of tape area (get_or ws (pos + 1) 0)) (bytes ",")
      or starts_with (text_of tape area (get_or ws (pos + 1) 0)) (bytes ";")))
  unfolding standalone
  alone_is =
      by_cases (dec_le 1 pos)
      (λ k. (let n : pos ≡ 0 → ⊥ = λ e. omega (arith, k, e) in
      by_cases (dec_le (length ws) (pos + 1))
      (λ b. last-not-standalone (tokens_of tape area ws) pos (rw length-map (omega arith)) ∙ sym (and_true _ (rw (ne_eqb pos 0 n)) ∙ and_false _ (le-ltb (pos + 1) (length ws) b)))
      (λ b. (let h : pos + 1 < length ws = omega (arith, b) in
      rw (before_is n h, after_is n h) (sym (and_true _ (rw (ne_eqb pos 0 n)) ∙ and_true _ (lt-ltb (pos + 1) (length ws) h)))))))
      (λ k. (let e : pos ≡ 0 = omega (arith, k) in first-not-standalone (tokens_of tape area ws) pos e ∙ sym (and_false _ (rw (eq-eqb pos 0 e)))))

-- whether an expression gets brackets, with the profile and without
pub bracketed_is : (rules : Rules) (tape area : Text) (ws : List ℕ) (x : Expr) → Expression ws x
    → is_bracketed rules (tokens_of tape area (expr_words ws x))
    ≡ (when rules.profile then ltb 1 x.count else is_operator_expr (tokens_of tape area (expr_words ws x)))
unfolding is_bracketed
bracketed_is rules tape area ws x h = rw (length-map, expr-length h) refl
