-- What a push comes to, whether the token is joined to the last one or not, and pushes one after another. Assumes nothing.
use Prim.Native.Nat.{ℕ, ◌+◌, ◌-◌, ◌≤◌, ◌<◌}
use native.Mathlib.Omega.{arith}
use native.Mathlib.Nat.{le_refl}
use native.Mathlib.Decide.{dec_lt}
use mathlib.Core.Logic.{by_cases}
use mathlib.Core.Path.{◌≡◌, refl, sym, ap, ◌∙◌}
use mathlib.Core.Bool.{true, false}
use mathlib.Core.List.{List, [], ◌∷◌, ◌++◌}
use lib.Dec.{eqb}
use lib.ListN.{length, get_or}
use lib.Seq.{slice, slice_empty}
use borrow.Author.Tests.{eq-eqb, ltb-true, eqb-true, lt-ltb}
use Rattle.reference.specs.Control.{◌and◌, ◌or◌}
use Rattle.reference.specs.Text.{Text}
use Rattle.reference.specs.Listing.{Token, token, Punct}
use Rattle.reference.specs.Numbers.{joins}
use Rattle.reference.specs.Claim.{size}
use Rattle.reference.proofs.Cases.{both, true-false}
use Rattle.lines.specs.Words.{kind_of, buffer_of, start_of, len_of, text_of, token_of, tokens_of}
use Rattle.lines.specs.declared.texts.Size.{Size}
use Rattle.build.specs.State.{joinable, used, line_now, push_token, Built, Extendable, extends, Appends, Pushed}
use Rattle.build.proofs.Growing.{built_appended, line_appended, grows_appended, line_last}
use Rattle.build.proofs.Merging.{push_joined, push_added, push_first, pushes_one}

-- ---- the tests

module _ (kind : ℕ) (tokens : List ℕ) (from : ℕ) (at : Size) where
  extends_is : {k : ℕ} → from < at.tokens → k ≡ kind_of (get_or tokens (at.tokens - 1) 0) → eqb k kind ≡ extends kind tokens from at
  unfolding extends ◌and◌
  extends_is h e = rw (lt-ltb from at.tokens h, e)

  extends-true : extends kind tokens from at ≡ true → (from < at.tokens) × (kind_of (get_or tokens (at.tokens - 1) 0) ≡ kind)
  unfolding extends
  extends-true e = (ltb-true _ _ (both e).0, eqb-true _ _ (both e).1)

  pub extends-false : extends kind tokens from at ≡ false → from < at.tokens → kind_of (get_or tokens (at.tokens - 1) 0) ≡ kind → ⊥
  extends-false e h k = true-false (sym (extends_is {k = kind} h (sym k)) ∙ eq-eqb kind kind refl) e

-- ---- one push

module _ {tape area : Text} {tokens : List ℕ} {from : ℕ} {at : Size} (b : Built tape area tokens from at)
    {keep : ℕ} {u : Token} {n : ℕ} {area' : Text} {tokens' : List ℕ} {at' : Size} (a : Appends tape area tokens at keep u n area' tokens' at')
    (low : from ≤ keep) (high : keep ≤ at.tokens) (la : length area' ≡ length area) (lt : length tokens' ≡ length tokens)
    (more : at.text + n ≤ length area) (room : keep < length tokens) (j : joinable u.kind ≡ true → buffer_of (get_or tokens' keep 0) ≡ 1) where
  extendable_appended : Extendable tokens' from at'
  extendable_appended =
      let last : at'.tokens - 1 ≡ keep = omega (arith, a.words_are) in
      let kinds : kind_of (get_or tokens' keep 0) ≡ u.kind = ap (λ (t : Token). t.kind) a.means in
      record { in_area = rw last (λ h k. j (rw kinds at k)); at_end = rw last (λ h p. a.at_end p) }

  pushed : {t : Token} → n ≤ size t → tokens_of tape (used area at) (slice from keep tokens) ++ (u ∷ []) ≡ push_token (line_now tape area tokens from at) t
      → Pushed tape area tokens from at (t ∷ []) area' tokens' at'
  pushed {t} hn e = record {
    built = built_appended b a low high la lt more room;
    extendable = extendable_appended;
    line_is = line_appended b a low high la lt more room ∙ e ∙ sym (pushes_one (line_now tape area tokens from at) t);
    grows = grows_appended b a low high la lt more room;
    text_most = omega (arith, a.text_most);
    words_most = omega (arith, a.words_are);
  }

-- a token that is not joined to the last one
module _ {tape area : Text} {tokens : List ℕ} {from : ℕ} {at : Size} (b : Built tape area tokens from at) (t : Token) where
  unjoined : (from < at.tokens → joins (token_of tape (used area at) (get_or tokens (at.tokens - 1) 0)) t ≡ false)
      → line_now tape area tokens from at ++ (t ∷ []) ≡ push_token (line_now tape area tokens from at) t
  unjoined j =
      by_cases (dec_lt from at.tokens)
      (λ h. rw (line_last b h) (sym (push_added (tokens_of tape (used area at) (slice from (at.tokens - 1) tokens)) (token_of tape (used area at) (get_or tokens (at.tokens - 1) 0)) t (j h))))
      (λ h.
      let e : from ≡ at.tokens = omega (arith, b.after, h) in
      rw (e, slice_empty at.tokens tokens) (sym (push_first t)))

module _ {tape area : Text} {tokens : List ℕ} {from : ℕ} {at : Size} (b : Built tape area tokens from at)
    {t : Token} {n : ℕ} {area' : Text} {tokens' : List ℕ} {at' : Size}
    (la : length area' ≡ length area) (lt : length tokens' ≡ length tokens) (more : at.text + n ≤ length area) (hn : n ≤ size t) where
  pub pushed_added : Appends tape area tokens at at.tokens t n area' tokens' at' → at.tokens < length tokens
      → (joinable t.kind ≡ true → buffer_of (get_or tokens' at.tokens 0) ≡ 1)
      → (from < at.tokens → joins (token_of tape (used area at) (get_or tokens (at.tokens - 1) 0)) t ≡ false)
      → Pushed tape area tokens from at (t ∷ []) area' tokens' at'
  pushed_added a room p j = pushed b a b.after (le_refl _) la lt more room p hn (unjoined b t j)

  pub pushed_joined : Appends tape area tokens at (at.tokens - 1) (token (kind_of (get_or tokens (at.tokens - 1) 0)) (text_of tape (used area at) (get_or tokens (at.tokens - 1) 0) ++ t.text))
      n area' tokens' at'
      → from < at.tokens → buffer_of (get_or tokens' (at.tokens - 1) 0) ≡ 1
      → joins (token_of tape (used area at) (get_or tokens (at.tokens - 1) 0)) t ≡ true
      → Pushed tape area tokens from at (t ∷ []) area' tokens' at'
  pushed_joined a h p j =
      pushed b a (omega arith) (omega arith) la lt more (omega (arith, b.words_fit)) (λ _. p) hn
      (rw (line_last b h) (sym (push_joined (tokens_of tape (used area at) (slice from (at.tokens - 1) tokens)) (token_of tape (used area at) (get_or tokens (at.tokens - 1) 0)) t j)))

-- the last token can be extended
pub extendable-last : {kind : ℕ} {tokens : List ℕ} {from : ℕ} {at : Size} → joinable kind ≡ true → Extendable tokens from at → extends kind tokens from at ≡ true
    → (from < at.tokens) × (kind_of (get_or tokens (at.tokens - 1) 0) ≡ kind) × (buffer_of (get_or tokens (at.tokens - 1) 0) ≡ 1)
    × (start_of (get_or tokens (at.tokens - 1) 0) + len_of (get_or tokens (at.tokens - 1) 0) ≡ at.text)
extendable-last {kind} {tokens} {from} {at} j x e =
    let l = extends-true kind tokens from at e in
    let p = x.in_area l.0 (rw l.1 j) in
    (l.0, l.1, p, x.at_end l.0 p)

pub punct-joins : joinable Punct ≡ true
unfolding joinable ◌or◌
punct-joins = refl
