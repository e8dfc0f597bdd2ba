-- An append disturbs nothing that stands below: the line that began at `from` has one token more, or another last one. Assumes nothing.
use Prim.Native.Nat.{ℕ, ◌+◌, ◌-◌, ◌≤◌, ◌<◌}
use native.Mathlib.Omega.{arith}
use native.Mathlib.Numerals.{add-one}
use mathlib.Core.Path.{◌≡◌, sym, ap, ◌∙◌}
use mathlib.Core.List.{List, [], ◌∷◌, ◌++◌, map-append}
use lib.ListN.{length, get_or, take, drop}
use lib.Seq.{slice, take-take, take-add, take-suc, drop-append-le, get_or-take, get_or-drop, length-take-le, length-slice}
use Rattle.reference.specs.Text.{Text}
use Rattle.reference.specs.Listing.{Token}
use Rattle.laws.proofs.Parts.{drop-take}
use Rattle.lines.specs.Words.{buffer_of, start_of, token_of, tokens_of, Holds}
use Rattle.lines.proofs.words.Each.{each_one, each_take, each_append}
use Rattle.lines.proofs.words.Tokens.{holds-take, holds_snoc, holds-grows, tokens_grow}
use Rattle.lines.specs.declared.texts.Size.{Size}
use Rattle.build.specs.State.{used, words_from, line_now, Built, Fresh, Appends, Grows}

-- ---- parts of lists

module _ {ℓ} {A : Type ℓ} where
  pub slice_front : (f k n : ℕ) (l : List A) → k ≤ n → slice f k l ≡ take (k - f) (slice f n l)
  slice_front f k n l h = rw (drop-take f k l, drop-take f n l) (sym (take-take (k - f) (n - f) (drop f l) (omega arith)))

  pub slice_snoc : (f k : ℕ) (l : List A) (d : A) → f ≤ k → k < length l → slice f (k + 1) l ≡ slice f k l ++ (get_or l k d ∷ [])
  slice_snoc f k l d h b =
      let n : length (take k l) ≡ k = length-take-le k l (omega arith) in
      rw (add-one, take-suc l k d b) (drop-append-le f (take k l) (get_or l k d ∷ []) (rw n h))

-- what is in use grows
pub grown : (area area' : Text) (m n : ℕ) → m ≤ n → take m area' ≡ take m area → take n area' ≡ take m area ++ take (n - m) (drop m area')
grown area area' m n h e = let q : n ≡ m + (n - m) = omega arith in ap (λ (k : ℕ). take k area') q ∙ take-add m (n - m) area' ∙ rw e

-- ---- an append

module _ {tape area : Text} {tokens : List ℕ} {from : ℕ} {at : Size} (b : Built tape area tokens from at)
    {keep : ℕ} {t : Token} {n : ℕ} {area' : Text} {tokens' : List ℕ} {at' : Size} (a : Appends tape area tokens at keep t n area' tokens' at')
    (low : from ≤ keep) (high : keep ≤ at.tokens) (la : length area' ≡ length area) (lt : length tokens' ≡ length tokens)
    (more : at.text + n ≤ length area) (room : keep < length tokens) where
  words-now : words_from from tokens' at' ≡ slice from keep tokens ++ (get_or tokens' keep 0 ∷ [])
  words-now =
      ap (λ (k : ℕ). slice from k tokens') a.words_are
      ∙ slice_snoc from keep tokens' 0 low (omega arith)
      ∙ ap (λ (ws : List ℕ). drop from ws ++ (get_or tokens' keep 0 ∷ [])) a.words_below

  front-holds : Holds tape (used area at) (slice from keep tokens)
  front-holds = rw (slice_front from keep at.tokens tokens high) (holds-take b.holds (keep - from))

  extra : Text
  extra = take (at'.text - at.text) (drop at.text area')

  used-now : used area' at' ≡ used area at ++ extra
  unfolding extra
  used-now = grown area area' at.text at'.text a.text_grows a.text_below

  front-now : Holds tape (used area' at') (slice from keep tokens)
  front-now = rw used-now (holds-grows extra front-holds)

  pub built_appended : Built tape area' tokens' from at'
  built_appended = record {
    text_fits = omega (arith, a.text_most);
    words_fit = omega (arith, a.words_are);
    after = omega (arith, a.words_are);
    holds = rw words-now (holds_snoc front-now a.points);
  }

  pub line_appended : line_now tape area' tokens' from at' ≡ tokens_of tape (used area at) (slice from keep tokens) ++ (t ∷ [])
  line_appended =
      ap (tokens_of tape (used area' at')) words-now
      ∙ map-append (token_of tape (used area' at')) (slice from keep tokens) (get_or tokens' keep 0 ∷ [])
      ∙ rw (a.means, used-now, tokens_grow extra front-holds)

  fresh_appended : (m : ℕ) → m ≤ at.text → Fresh m (words_from from tokens at) → Fresh m (words_from from tokens' at')
  fresh_appended m h f =
      let P : ℕ → Type 0 = λ w. buffer_of w ≡ 1 → m ≤ start_of w in
      let last : keep < at.tokens → P (get_or tokens keep 0) =
      λ i.
      let here : get_or (words_from from tokens at) (keep - from) 0 ≡ get_or tokens keep 0 =
      get_or-drop from (take at.tokens tokens) (keep - from) 0 ∙ get_or-take at.tokens tokens (from + (keep - from)) 0 (omega arith)
      ∙ ap (λ (k : ℕ). get_or tokens k 0) (omega arith) in
      rw here at (f.from_m (keep - from) (rw (length-slice from at.tokens tokens b.words_fit) (omega arith))) in
      record {
        from_m = rw words-now (each_append P (slice from keep tokens)
            (rw (slice_front from keep at.tokens tokens high) (each_take P (words_from from tokens at) f.from_m (keep - from)))
            (get_or tokens' keep 0 ∷ []) (each_one P (a.fresh m h last)));
      }

  pub grows_appended : Grows area tokens from at area' tokens' at'
  grows_appended = record {
    lines_are = a.lines_are;
    words_below = sym (take-take from keep tokens' low) ∙ ap (take from) a.words_below ∙ take-take from keep tokens low;
    text_grows = a.text_grows;
    text_below = a.text_below;
    fresh = fresh_appended;
  }

-- the line by its last token
module _ {tape area : Text} {tokens : List ℕ} {from : ℕ} {at : Size} (b : Built tape area tokens from at) where
  pub line_last : from < at.tokens
      → line_now tape area tokens from at ≡ tokens_of tape (used area at) (slice from (at.tokens - 1) tokens) ++ (token_of tape (used area at) (get_or tokens (at.tokens - 1) 0) ∷ [])
  line_last h =
      let e : at.tokens ≡ at.tokens - 1 + 1 = omega arith in
      ap (λ (k : ℕ). tokens_of tape (used area at) (slice from k tokens)) e
      ∙ ap (tokens_of tape (used area at)) (slice_snoc from (at.tokens - 1) tokens 0 (omega arith) (omega (arith, b.words_fit)))
      ∙ map-append (token_of tape (used area at)) (slice from (at.tokens - 1) tokens) (get_or tokens (at.tokens - 1) 0 ∷ [])
