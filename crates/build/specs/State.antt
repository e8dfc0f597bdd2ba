-- A set that is being built: the text and the words in use, what the line that began at `from` means so far, and what an append leaves.
-- Nothing is said of what stands below: a set may be begun at any marks. Assumes nothing.
use Rattle.std.specs.Prelude.{ℕ, ◌+◌, ◌-◌, ◌≤◌, ◌<◌, ◌≡◌, Bool, true, List, [], ◌∷◌, ◌++◌, eqb, ltb, length, get_or, take}
use Rattle.std.proofs.Math.Seq.{slice}
use Rattle.reference.specs.Control.{◌and◌, ◌or◌, when◌then◌else◌}
use Rattle.reference.specs.Text.{Text}
use Rattle.reference.specs.Listing.{Token, token, Plain, Punct}
use Rattle.reference.specs.Numbers.{joins}
use Rattle.reference.specs.Claim.{text_in}
use Rattle.lines.specs.Words.{kind_of, buffer_of, start_of, len_of, word, known_word, token_of, tokens_of, Points, Holds}
use Rattle.lines.specs.declared.texts.Size.{Size}

-- ---- what a push does to the tokens of a line

unfoldable pub push_token : List Token → Token → List Token
push_token [] t = t ∷ []
push_token (a ∷ []) t = when joins a t then token a.kind (a.text ++ t.text) ∷ [] else a ∷ t ∷ []
push_token (a ∷ b ∷ rest) t = a ∷ push_token (b ∷ rest) t

unfoldable pub pushes : List Token → List Token → List Token
pushes out [] = out
pushes out (t ∷ ts) = pushes (push_token out t) ts

-- the kinds that are joined
unfoldable pub joinable : ℕ → Bool
joinable k = eqb k Punct or eqb k Plain

-- so much text and so many words more can be appended
pub record Room (area : Text) (tokens : List ℕ) (at : Size) (text count : ℕ) : Type 0 where
  pub text_fits : at.text + text ≤ length area
  pub short : at.text + text < 65536
  pub words_fit : at.tokens + count ≤ length tokens

-- ---- the state, in the two slices

-- the text in use
abbrev pub used : List ℕ → Size → List ℕ
used area at = take at.text area

-- the words of the line that began at `from`, and its tokens
abbrev pub words_from : ℕ → List ℕ → Size → List ℕ
words_from from tokens at = slice from at.tokens tokens

abbrev pub line_now : Text → List ℕ → List ℕ → ℕ → Size → List Token
line_now tape area tokens from at = tokens_of tape (used area at) (words_from from tokens at)

-- the line can be read
pub record Built (tape area : Text) (tokens : List ℕ) (from : ℕ) (at : Size) : Type 0 where
  pub text_fits : at.text ≤ length area
  pub words_fit : at.tokens ≤ length tokens
  pub after : from ≤ at.tokens
  pub holds : Holds tape (used area at) (words_from from tokens at)

-- the word of a token of this kind with the text s, which stands at `start` of the area: with its traits, or of a long text without
abbrev pub word_behind : ℕ → ℕ → Text → ℕ
word_behind kind start s = when ltb 16 (length s) then word kind 1 start (length s) else known_word kind 1 start s

-- the last word in use
abbrev pub last_word : List ℕ → Size → ℕ
last_word tokens at = get_or tokens (at.tokens - 1) 0

-- the last token of the line that began at `from` can be joined to: what may be extended stands at the end of the text
pub record Extendable (tokens : List ℕ) (from : ℕ) (at : Size) : Type 0 where
  pub in_area : from < at.tokens → joinable (kind_of (last_word tokens at)) ≡ true → buffer_of (last_word tokens at) ≡ 1
  pub at_end : from < at.tokens → buffer_of (last_word tokens at) ≡ 1 → start_of (last_word tokens at) + len_of (last_word tokens at)
      ≡ at.text

-- no word points into the area below m
pub record Fresh (m : ℕ) (ws : List ℕ) : Type 0 where
  pub from_m : (k : ℕ) → k < length ws → buffer_of (get_or ws k 0) ≡ 1 → m ≤ start_of (get_or ws k 0)

-- the tokens ts can be pushed
pub record Ready (tape area : Text) (tokens : List ℕ) (from : ℕ) (at : Size) (ts : List Token) : Type 0 where
  pub built : Built tape area tokens from at
  pub extendable : Extendable tokens from at
  pub room : Room area tokens at (text_in ts) (length ts)

-- whether a token of this kind is joined to the last token of the line that began at `from`
unfoldable pub extends : ℕ → List ℕ → ℕ → Size → Bool
extends kind tokens from at = ltb from at.tokens and eqb (kind_of (last_word tokens at)) kind

-- ---- what is left

-- the words before `keep` are as they were, and after them stands one that means t, of at most n bytes more
pub record Appends (tape area : Text) (tokens : List ℕ) (at : Size) (keep : ℕ) (t : Token) (n : ℕ) (area' : Text) (tokens' : List ℕ)
    (at' : Size) : Type 0 where
  pub lines_are : at'.lines ≡ at.lines
  pub words_are : at'.tokens ≡ keep + 1
  pub words_below : take keep tokens' ≡ take keep tokens
  pub text_grows : at.text ≤ at'.text
  pub text_most : at'.text ≤ at.text + n
  pub text_below : take at.text area' ≡ take at.text area
  pub points : Points tape (used area' at') (get_or tokens' keep 0)
  pub means : token_of tape (used area' at') (get_or tokens' keep 0) ≡ t
  pub at_end : buffer_of (get_or tokens' keep 0) ≡ 1 → start_of (get_or tokens' keep 0) + len_of (get_or tokens' keep 0) ≡ at'.text
  pub fresh : (m : ℕ) → m ≤ at.text → (keep < at.tokens → buffer_of (get_or tokens keep 0) ≡ 1 → m ≤ start_of (get_or tokens keep 0))
      → buffer_of (get_or tokens' keep 0) ≡ 1 → m ≤ start_of (get_or tokens' keep 0)

-- nothing below is disturbed: the words before `from`, and the text in use
pub record Grows (area : Text) (tokens : List ℕ) (from : ℕ) (at : Size) (area' : Text) (tokens' : List ℕ) (at' : Size) : Type 0 where
  pub lines_are : at'.lines ≡ at.lines
  pub words_below : take from tokens' ≡ take from tokens
  pub text_grows : at.text ≤ at'.text
  pub text_below : take at.text area' ≡ take at.text area
  pub fresh : (m : ℕ) → m ≤ at.text → Fresh m (words_from from tokens at) → Fresh m (words_from from tokens' at')

-- what pushing the tokens ts leaves of the line that began at `from`
pub record Pushed (tape area : Text) (tokens : List ℕ) (from : ℕ) (at : Size) (ts : List Token) (area' : Text) (tokens' : List ℕ)
    (at' : Size) : Type 0 where
  pub built : Built tape area' tokens' from at'
  pub extendable : Extendable tokens' from at'
  pub line_is : line_now tape area' tokens' from at' ≡ pushes (line_now tape area tokens from at) ts
  pub grows : Grows area tokens from at area' tokens' at'
  pub text_most : at'.text ≤ at.text + text_in ts
  pub words_most : at'.tokens ≤ at.tokens + length ts

-- what a new line leaves that means `out`, of at most n bytes and k words
pub record LineAdded (tape area : Text) (tokens : List ℕ) (at : Size) (out : List Token) (n k : ℕ) (area' : Text) (tokens' : List ℕ)
    (at' : Size) : Type 0 where
  pub built : Built tape area' tokens' at.tokens at'
  pub line_is : line_now tape area' tokens' at.tokens at' ≡ out
  pub grows : Grows area tokens at.tokens at area' tokens' at'
  pub text_most : at'.text ≤ at.text + n
  pub words_most : at'.tokens ≤ at.tokens + k
