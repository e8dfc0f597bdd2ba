-- Which tokens are worth something: the cases of `is_wide`, `is_tidy` and `is_number`. Assumes nothing.
use Rattle.std.proofs.Common.{◌≡◌, ℕ, ◌<◌, ◌≤◌, Bool, true, false, not as flip, eqb, List, [], ◌∷◌, get_or, drop, ℤ, sym, refl, ap, ◌∙◌}
use Rattle.std.proofs.Common.{eq-eqb, ne_eqb, le-leb}
use mathlib.Core.Option.{some}
use borrow.Author.Tests.{lt-leb}
use Rattle.reference.specs.Control.{not, ◌and◌, ◌or◌, when◌then◌else◌, let_some◌else◌then◌}
use Rattle.reference.specs.Lists.{any, count, is_some}
use Rattle.reference.specs.Text.{Text, bytes, starts_with, strip_prefix, contains}
use Rattle.reference.specs.Listing.{Token, is, Number, Punct}
use Rattle.reference.specs.Names.{fam_of}
use Rattle.reference.specs.Numbers.{parse_c_number}
use Rattle.reference.specs.Evaluators.{wide, is_tidy, number_of}
use Rattle.reference.specs.Straight.{puncts_apart}
use Rattle.laws.proofs.Scans.{and_true, and_false}
use Rattle.std.specs.Prelude as std
use Rattle.lines.specs.Words.{kind_of, text_of, token_of, tokens_of}
use Rattle.lines.specs.Fams.{fam_text, named, Names}
use Rattle.lines.specs.declared.fams.Named.{Named}
use Rattle.formula.specs.Terms.{is_plain}
use Rattle.lines.proofs.words.Chains.{twos}
use Rattle.std.specs.Prelude.{Some, None}
use Rattle.reference.specs.Options.{option_of}
use Rattle.std.specs.Option as Option

-- ---- registers

module _ (tape area : Text) (w : ℕ) {r : std.Option Named} (n : Names tape area (fam_of (token_of tape area w)) r) where
  pub wide-nothing : r ≡ None → false ≡ is_some (wide (token_of tape area w))
  unfolding wide let_some◌else◌then◌
  wide-nothing e = rw (sym n.is ∙ ap (named tape area) e) refl

  module _ (f k lowest : ℕ) (e : r ≡ Some (record { family = f; width = k; lowest = lowest })) where
    known : fam_of (token_of tape area w) ≡ some (record { name = fam_text tape area f; width = k; lowest = lowest })
    known = sym n.is ∙ ap (named tape area) e

    pub wide-narrow : (k ≡ 64 → ⊥) → false ≡ is_some (wide (token_of tape area w))
    unfolding wide let_some◌else◌then◌ ◌and◌ when◌then◌else◌
    wide-narrow h = rw (known, ne_eqb k 64 h) refl

    pub wide_by : {x : Bool} {s : Text} → (k ≡ 64) → s ≡ text_of tape area w → x ≡ starts_with s (bytes "var_") → flip x ≡ is_some (wide (token_of tape area w))
    wide_by {x} {s} h es ex = sym (by (starts_with (text_of tape area w) (bytes "var_")) refl x (ex ∙ ap (λ (u : Text). starts_with u (bytes "var_")) es))
      where
        by : (b : Bool) → starts_with (text_of tape area w) (bytes "var_") ≡ b → (x : Bool) → x ≡ starts_with (text_of tape area w) (bytes "var_")
            → is_some (wide (token_of tape area w)) ≡ flip x
        by true q x p = unfold wide let_some◌else◌then◌ ◌and◌ not when◌then◌else◌ in rw (known, eq-eqb k 64 h, p, q) refl
        by false q x p = unfold wide let_some◌else◌then◌ ◌and◌ not when◌then◌else◌ in rw (known, eq-eqb k 64 h, p, q) refl

-- ---- tidy numbers

module _ (s : Text) where
  pub tidy_plus : {x : Bool} → x ≡ contains s 43 → x ≡ true → false ≡ is_tidy s
  unfolding is_tidy not
  tidy_plus e h = sym (and_false _ (rw (sym e ∙ h) refl))

  module _ {x : Bool} (e : x ≡ contains s 43) (h : x ≡ false) {n : ℕ} (en : n ≡ count (eqb 45) s) where
    pub tidy_minuses : 1 < n → false ≡ is_tidy s
    unfolding is_tidy not
    tidy_minuses l = sym (and_true _ (rw (sym e ∙ h) refl) ∙ and_false _ (lt-leb _ _ (rw en at l)))

    rest : n ≤ 1 → is_tidy s ≡ is_plain (let_some (strip_prefix (bytes "-") s) else s then λ r. r)
    unfolding is_tidy is_plain not
    rest l = and_true _ (rw (sym e ∙ h) refl) ∙ and_true _ (le-leb _ _ (rw en at l))

    pub tidy_minus : {m y : Bool} {r : Text} → n ≤ 1 → m ≡ starts_with s (bytes "-") → m ≡ true → r ≡ drop 1 s → y ≡ is_plain r → y ≡ is_tidy s
    tidy_minus l em hm er ey = ey ∙ ap is_plain er ∙ sym (rest l ∙ ap is_plain (stripped (sym em ∙ hm)))
      where
        stripped : starts_with s (bytes "-") ≡ true → (let_some (strip_prefix (bytes "-") s) else s then λ r. r) ≡ drop 1 s
        stripped q = unfold strip_prefix let_some◌else◌then◌ when◌then◌else◌ in rw q refl

    pub tidy_plain : {m y : Bool} → n ≤ 1 → m ≡ starts_with s (bytes "-") → m ≡ false → y ≡ is_plain s → y ≡ is_tidy s
    tidy_plain l em hm ey = ey ∙ sym (rest l ∙ ap is_plain (whole (sym em ∙ hm)))
      where
        whole : starts_with s (bytes "-") ≡ false → (let_some (strip_prefix (bytes "-") s) else s then λ r. r) ≡ s
        whole q = unfold strip_prefix let_some◌else◌then◌ when◌then◌else◌ in rw q refl

-- ---- numbers

module _ (tape area : Text) (w : ℕ) {k : ℕ} (ek : k ≡ kind_of w) where
  pub number_kind : (k ≡ Number → ⊥) → false ≡ is_some (number_of (token_of tape area w))
  unfolding number_of is ◌and◌ when◌then◌else◌
  number_kind h = rw (ne_eqb (kind_of w) Number (λ e. h (ek ∙ e))) refl

  module _ (hk : k ≡ Number) {s : Text} (es : s ≡ text_of tape area w) {x : Bool} (ex : x ≡ is_tidy s) where
    same_kind : is Number (token_of tape area w) ≡ true
    unfolding is
    same_kind = eq-eqb _ _ (sym ek ∙ hk)

    pub number_untidy : x ≡ false → false ≡ is_some (number_of (token_of tape area w))
    unfolding number_of ◌and◌ when◌then◌else◌
    number_untidy h = rw (same_kind, ← es, ← ex, h) refl

    module _ (h : x ≡ true) (r : std.Option ℤ) (er : option_of r ≡ parse_c_number s) where
      parsed : number_of (token_of tape area w) ≡ option_of r
      unfolding number_of ◌and◌ when◌then◌else◌
      parsed = rw (same_kind, ← es, ← ex, h, er) refl

      pub number_parsed : Option.is_some r ≡ is_some (number_of (token_of tape area w))
      number_parsed = either r ∙ sym (ap is_some parsed)
        where
          either : (r : std.Option ℤ) → Option.is_some r ≡ is_some (option_of r)
          either (Some v) = refl
          either None = refl

-- ---- Puncts

-- whether both words of a pair are Puncts
abbrev pub both_puncts : List ℕ → Bool
both_puncts q = eqb (kind_of (get_or q 0 0)) Punct and eqb (kind_of (get_or q 1 0)) Punct

flip_or : (a b : Bool) → flip (a or b) ≡ (not a and flip b)
unfolding ◌or◌ ◌and◌ not
flip_or true b = refl
flip_or false b = refl

apart_from : (behind : Bool) (t : Token) (ts : List Token) → puncts_apart behind (t ∷ ts) ≡ (not (behind and is Punct t) and puncts_apart false (t ∷ ts))
unfolding puncts_apart ◌and◌ not
apart_from true t ts = refl
apart_from false t ts = refl

module _ (tape area : Text) where
  -- no pair of neighbours, where no Punct stands behind one
  pub apart_pairs : (ws : List ℕ) → flip (any both_puncts (twos ws)) ≡ puncts_apart false (tokens_of tape area ws)
  unfolding puncts_apart ◌and◌ not is
  apart_pairs [] = refl
  apart_pairs (a ∷ []) = refl
  apart_pairs (a ∷ b ∷ ws) =
      flip_or (both_puncts (a ∷ b ∷ [])) (any both_puncts (twos (b ∷ ws)))
      ∙ ap (λ (r : Bool). not (both_puncts (a ∷ b ∷ [])) and r) (apart_pairs (b ∷ ws))
      ∙ sym (apart_from (is Punct (token_of tape area a)) (token_of tape area b) (tokens_of tape area ws))
