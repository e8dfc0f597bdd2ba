-- A line with a right side for each token of a family, token by token, and the line that it makes. Assumes nothing.
use Prim.Native.Nat.{ℕ, ◌+◌, ◌<◌}
use mathlib.Core.Path.{◌≡◌, refl, sym, ap, ◌∙◌}
use mathlib.Core.Bool.{Bool, true, false}
use mathlib.Core.List.{List, [], ◌∷◌, ◌++◌, append_assoc, append-nil}
use lib.ListN.{length, get_or, take, drop}
use lib.Seq.{slice_empty}
use native.Mathlib.Nat.{le_refl}
use native.Mathlib.Omega.{arith}
use Rattle.reference.specs.Control.{when◌then◌else◌}
use Rattle.reference.specs.Text.{Text}
use Rattle.reference.specs.Listing.{Token}
use Rattle.reference.specs.Names.{of_family}
use Rattle.reference.specs.Numbers.{merge}
use Rattle.reference.specs.Join.{substitute}
use Rattle.reference.specs.Claim.{text_in}
use Rattle.laws.proofs.Scans.{if-true, if-false}
use Rattle.lines.specs.Words.{token_of, tokens_of}
use Rattle.lines.specs.Shapes.{expr_words}
use Rattle.lines.specs.Fams.{fam_text}
use Rattle.lines.proofs.words.Tokens.{holds_none}
use Rattle.lines.specs.declared.texts.Size.{Size}
use Rattle.build.specs.declared.merge.Substitution.{Substitution}
use Rattle.build.specs.State.{used, Room, Ready, Pushed, LineAdded}
use Rattle.build.specs.Substitution.{bracketed, right_of, used_as, substituted}
use Rattle.build.proofs.Merging.{pushes-merge}
use Rattle.build.proofs.Pushes.{pushed_none, tokens_more, tokens-split}

module _ (tape area : Text) (source : List ℕ) (j : Substitution) where
  -- what a call answered of the token
  module _ (w : ℕ) {x : Bool} (e : x ≡ of_family (fam_text tape area j.family) (token_of tape area w)) where
    abbrev t : Token
    t = token_of tape area w

    pub used-kept : x ≡ false → used_as tape area source j t ≡ t ∷ []
    unfolding used_as
    used-kept h = if-false _ _ (sym e ∙ h)

    pub used-bracketed : x ≡ true → j.brackets ≡ true → used_as tape area source j t ≡ bracketed (tokens_of tape area (expr_words source j.expr))
    unfolding used_as right_of
    used-bracketed h b = if-true _ _ (sym e ∙ h) ∙ if-true _ _ b

    pub used-plain : x ≡ true → j.brackets ≡ false → used_as tape area source j t ≡ tokens_of tape area (expr_words source j.expr)
    unfolding used_as right_of
    used-plain h b = if-true _ _ (sym e ∙ h) ∙ if-false _ _ b

  abbrev name : Text
  name = fam_text tape area j.family

  abbrev right : List Token
  right = right_of tape area source j

  one : (t : Token) (us : List Token) → substitute name right (t ∷ us) ≡ used_as tape area source j t ++ substitute name right us
  unfolding substitute used_as when◌then◌else◌
  one t us = choose (of_family name t) right (substitute name right us)
    where
      choose : (b : Bool) (r s : List Token) → (when b then r ++ s else t ∷ s) ≡ (when b then r else t ∷ []) ++ s
      choose true r s = refl
      choose false r s = refl

  split : (ts : List Token) (t : Token) (us : List Token)
      → substitute name right (ts ++ ((t ∷ []) ++ us)) ≡ substitute name right ts ++ (used_as tape area source j t ++ substitute name right us)
  unfolding substitute
  split [] t us = one t us
  split (x ∷ ts) t us = one x (ts ++ (t ∷ us)) ∙ rw (split ts t us, one x ts) (sym (append_assoc (used_as tape area source j x) (substitute name right ts) _))

  -- the words of a line, one by one
  module _ (line : List ℕ) (k : ℕ) (h : k < length line) where
    abbrev here : List Token
    here = used_as tape area source j (token_of tape area (get_or line k 0))

    pub substituted-split : substituted tape area source j line ≡ substituted tape area source j (take k line) ++ (here ++ substituted tape area source j (drop (k + 1) line))
    substituted-split = ap (substitute name right) (tokens-split tape area line k h) ∙ split (tokens_of tape area (take k line)) (token_of tape area (get_or line k 0))
        (tokens_of tape area (drop (k + 1) line))

    pub substituted_more : substituted tape area source j (take (k + 1) line) ≡ substituted tape area source j (take k line) ++ here
    unfolding substitute
    substituted_more =
        ap (substitute name right) (tokens_more tape area line k h) ∙ split (tokens_of tape area (take k line)) (token_of tape area (get_or line k 0)) []
        ∙ ap (λ (l : List Token). substituted tape area source j (take k line) ++ l) (append-nil here)

-- ---- a new line

-- nothing stands in it yet
ready_new : {area : Text} {tokens : List ℕ} {at : Size} (tape : Text) (ts : List Token) → Room area tokens at (text_in ts) (length ts) → Ready tape area tokens at.tokens at ts
ready_new {area} {tokens} {at} tape ts r = record {
  built = record {
    text_fits = omega (arith, r.text_fits);
    words_fit = omega (arith, r.words_fit);
    after = le_refl _;
    holds = rw (slice_empty at.tokens tokens) (holds_none tape (used area at));
  };
  extendable = record { in_area = λ h. absurd (omega arith); at_end = λ h. absurd (omega arith) };
  room = r;
}

pub merge_begin : (tape old : Text) (source : List ℕ) (j : Substitution) (line : List ℕ) {area : Text} {tokens : List ℕ} {at : Size}
    → Room area tokens at (text_in (substituted tape old source j line)) (length (substituted tape old source j line))
    → Pushed tape area tokens at.tokens at (substituted tape old source j []) area tokens at
unfolding substitute
merge_begin tape old source j line r = pushed_none (ready_new tape (substituted tape old source j line) r)

pub line_added_merged : {tape area : Text} {tokens : List ℕ} {at : Size} {ts : List Token} {area' : Text} {tokens' : List ℕ} {at' : Size}
    → Pushed tape area tokens at.tokens at ts area' tokens' at' → LineAdded tape area tokens at (merge ts) (text_in ts) (length ts) area' tokens' at'
line_added_merged {tokens = tokens} {at} {ts} p = record {
  built = p.built;
  line_is = p.line_is ∙ rw (slice_empty at.tokens tokens) (pushes-merge ts);
  grows = p.grows;
  text_most = p.text_most;
  words_most = p.words_most;
}
