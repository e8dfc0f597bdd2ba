-- A line that is folded in place: its first `kept` words are done, those from `next` on are still to be seen. Assumes nothing.
use Rattle.std.specs.Prelude.{ℕ, ◌+◌, ◌*◌, ◌≤◌, ◌<◌, ◌≡◌, Bool, List, [], ◌∷◌, ◌++◌, ℤ, ◌+ℤ◌, ◌-ℤ◌, length, take, drop}
use Rattle.std.proofs.Math.Option.{Option, none, some}
use Rattle.reference.specs.Control.{◌and◌, when◌then◌else◌, let_some◌else◌then◌}
use Rattle.reference.specs.Text.{Text, bytes, ◌≟◌}
use Rattle.reference.specs.Listing.{Token, token, is, Number}
use Rattle.reference.specs.Numbers.{read_number, wrap, show, folded, fold_at, fold}
use Rattle.joining.proofs.Room.{is_sign, signs}
use Rattle.lines.specs.Words.{tokens_of, Holds}
use Rattle.build.specs.declared.fold.Folding.{Folding}
use Rattle.lines.specs.declared.texts.Size.{Size}
use Rattle.build.specs.State.{line_now, Fresh, Built, Grows}

-- ---- what a fold makes

unfoldable pub operated : Bool → Option ℤ → Option ℤ → Option ℤ
operated plus o p = let_some o else none then λ x. let_some p else none then λ y. some (wrap (when plus then x +ℤ y else x -ℤ y))

unfoldable pub sum_of : ℕ → Token → Token → Token → Option ℤ
sum_of edition a b c =
    when is Number a and is Number c and is_sign b
    then operated (b.text ≟ bytes " + ") (read_number edition a.text) (read_number edition c.text)
    else none

abbrev pub number_token : Option ℤ → Option Token
number_token o = let_some o else none then λ v. some (token Number (show v))

abbrev pub last_of : List Token → Option Token
last_of [] = none
last_of (t ∷ []) = some t
last_of (t ∷ u ∷ us) = last_of (u ∷ us)

-- what the first three tokens fold to, behind the token `before`
abbrev pub fold_next : ℕ → Option Token → List Token → Option Token
fold_next edition before [] = none
fold_next edition before (a ∷ []) = none
fold_next edition before (a ∷ b ∷ []) = none
fold_next edition before (a ∷ b ∷ c ∷ rest) = folded edition before a b c rest

-- the tokens behind the token `before`, folded
abbrev pub fold_behind : ℕ → Option Token → List Token → List Token
fold_behind edition before [] = []
fold_behind edition before (a ∷ rest) = fold_at edition before a rest

-- ---- the state

abbrev pub done_now : Text → Text → List ℕ → Folding → List Token
done_now tape area line f = tokens_of tape (take f.text area) (take f.kept line)

abbrev pub left_now : Text → Text → List ℕ → Folding → List Token
left_now tape area line f = tokens_of tape (take f.text area) (drop f.next line)

-- what the line is in the end
abbrev pub folds_to : ℕ → Text → Text → List ℕ → Folding → List Token
folds_to edition tape area line f = done_now tape area line f ++ fold_behind edition (last_of (done_now tape area line f))
    (left_now tape area line f)

-- how many bytes the folds of the tokens ts make at most: each makes at most 19, and takes away a sign behind the token at which it is made
unfoldable pub signs_room : List Token → ℕ
signs_room ts = 19 * signs (drop 1 ts)

-- how far the text may come
abbrev pub text_limit : Text → Text → List ℕ → Folding → ℕ
text_limit tape area line f = f.text + signs_room (left_now tape area line f)

pub record Foldable (tape area : Text) (line : List ℕ) (f : Folding) : Type 0 where
  pub kept_first : f.kept ≤ f.next
  pub inside : f.next ≤ length line
  pub done : Holds tape (take f.text area) (take f.kept line)
  pub left : Holds tape (take f.text area) (drop f.next line)
  pub text_fits : text_limit tape area line f ≤ length area
  pub short : text_limit tape area line f < 65536

-- what a step leaves
pub record Stepped (edition : ℕ) (tape area : Text) (line : List ℕ) (f : Folding) (area' : Text) (line' : List ℕ) (f' : Folding) : Type 0
  where
    pub foldable : Foldable tape area' line' f'
    pub further : f.next < f'.next
    pub same : folds_to edition tape area' line' f' ≡ folds_to edition tape area line f
    pub text_grows : f.text ≤ f'.text
    pub text_below : take f.text area' ≡ take f.text area
    pub limit : text_limit tape area' line' f' ≤ text_limit tape area line f
    pub fresh : (m : ℕ) → m ≤ f.text → Fresh m (take f.kept line) → Fresh m (drop f.next line)
        → Fresh m (take f'.kept line') × Fresh m (drop f'.next line')

-- what folding leaves of a line, with `n` bytes of text in use before it
pub record Folded (edition : ℕ) (tape area : Text) (line : List ℕ) (n : ℕ) (area' : Text) (line' : List ℕ) (f : Folding) : Type 0 where
  pub kept_inside : f.kept ≤ length line
  pub holds : Holds tape (take f.text area') (take f.kept line')
  pub line_is : tokens_of tape (take f.text area') (take f.kept line') ≡ fold edition (tokens_of tape (take n area) line)
  pub text_grows : n ≤ f.text
  pub text_below : take n area' ≡ take n area
  pub text_most : f.text ≤ n + signs_room (tokens_of tape (take n area) line)
  pub fresh : (m : ℕ) → m ≤ n → Fresh m line → Fresh m (take f.kept line')

-- what folding leaves of the line that began at `from`
pub record FoldedLast (edition : ℕ) (tape area : Text) (tokens : List ℕ) (from : ℕ) (at : Size) (area' : Text) (tokens' : List ℕ)
    (at' : Size) : Type 0 where
  pub built : Built tape area' tokens' from at'
  pub line_is : line_now tape area' tokens' from at' ≡ fold edition (line_now tape area tokens from at)
  pub grows : Grows area tokens from at area' tokens' at'
  pub text_most : at'.text ≤ at.text + signs_room (line_now tape area tokens from at)
  pub words_most : at'.tokens ≤ at.tokens
