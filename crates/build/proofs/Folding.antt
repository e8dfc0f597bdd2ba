-- Folding on lists of tokens: what three tokens fold to, and a step at a time. Assumes nothing.
use Prim.Native.Nat.{ℕ, suc, ◌+◌, ◌-◌, ◌≤◌, ◌<◌}
use native.Mathlib.Omega.{arith}
use mathlib.Core.Path.{◌≡◌, refl, sym, ap, ◌∙◌}
use mathlib.Core.Bool.{Bool, true, false}
use mathlib.Core.List.{List, [], ◌∷◌, ◌++◌, map-append}
use mathlib.Core.Option.{Option, none, some}
use lib.IntN.{ℤ, ◌+ℤ◌, ◌-ℤ◌}
use lib.ListN.{length, get_or, take, drop, length-map}
use lib.Seq.{take-suc, take_all, drop-cons}
use Rattle.std.proofs.lemmas.List.{take_rest}
use Rattle.reference.specs.Control.{◌and◌, ◌or◌, when◌then◌else◌, let_some◌else◌then◌}
use Rattle.reference.specs.Text.{Text, bytes, ◌≟◌}
use Rattle.reference.specs.Listing.{Token, token, is, Number}
use Rattle.reference.specs.Numbers.{read_number, wrap, show, delim_before, delim_after, folded, fold_at, fold}
use Rattle.reference.specs.Claim.{size}
use Rattle.reference.proofs.Cases.{none-some}
use Rattle.reference.proofs.Shapes.{folds}
use Rattle.joining.proofs.Room.{is_sign, signs, keep-room}
use Rattle.laws.proofs.Scans.{if-true, if-false, and_true, and_false}
use Rattle.lines.specs.Words.{kind_of, token_of, tokens_of}
use Rattle.lines.specs.Traits.{delimits_before, delimits_after}
use Rattle.lines.proofs.shapes.Tests.{is_not}
use Rattle.build.specs.Folding.{operated, sum_of, number_token, last_of, fold_next, fold_behind}

-- ---- two numbers

module _ (plus : Bool) {o : Option ℤ} (p : Option ℤ) where
  pub unread_left : o ≡ none → none ≡ operated plus o p
  unfolding operated let_some◌else◌then◌
  unread_left e = rw e

  pub unread-right : {x : ℤ} → o ≡ some x → p ≡ none → none ≡ operated plus o p
  unfolding operated let_some◌else◌then◌
  unread-right e f = rw (e, f)

  -- the operands and the result as the machine reads them back
  module _ {x y x' y' r r' : ℤ} (e : o ≡ some x) (f : p ≡ some y) (ex : x' ≡ x) (ey : y' ≡ y) (er : r' ≡ r) where
    pub read-sum : plus ≡ true → r ≡ wrap (x' +ℤ y') → some r' ≡ operated plus o p
    unfolding operated let_some◌else◌then◌ when◌then◌else◌
    read-sum g h = rw (e, f, g, er, h, ex, ey)

    pub read-difference : plus ≡ false → r ≡ wrap (x' -ℤ y') → some r' ≡ operated plus o p
    unfolding operated let_some◌else◌then◌ when◌then◌else◌
    read-difference g h = rw (e, f, g, er, h, ex, ey)

-- ---- three tokens

-- the tests around the three first
folded-shape : (d e n m s plus : Bool) (o p : Option ℤ)
    → (when d and e and n and m and s
    then (let_some o else none then λ x. let_some p else none then λ y. some (token Number (show (wrap (when plus then x +ℤ y else x -ℤ y)))))
    else none)
    ≡ (when d and e
    then number_token (when n and m and s then (let_some o else none then λ x. let_some p else none then λ y. some (wrap (when plus then x +ℤ y else x -ℤ y))) else none)
    else none)
unfolding ◌and◌ when◌then◌else◌ let_some◌else◌then◌
folded-shape false e n m s plus o p = refl
folded-shape true false n m s plus o p = refl
folded-shape true true false m s plus o p = refl
folded-shape true true true false s plus o p = refl
folded-shape true true true true false plus o p = refl
folded-shape true true true true true plus none p = refl
folded-shape true true true true true plus (some x) none = refl
folded-shape true true true true true plus (some x) (some y) = refl

module _ (edition : ℕ) (a b c : Token) where
  pub sum_left : false ≡ is Number a → none ≡ sum_of edition a b c
  unfolding sum_of
  sum_left e = sym (if-false _ _ (and_false _ (sym e)))

  module _ (e : true ≡ is Number a) where
    pub sum-right : false ≡ is Number c → none ≡ sum_of edition a b c
    unfolding sum_of
    sum-right f = sym (if-false _ _ (and_true _ (sym e) ∙ and_false _ (sym f)))

    -- x is what a call answered of the sign
    module _ {x : Bool} (f : true ≡ is Number c) (g : x ≡ ((b.text ≟ bytes " + ") or (b.text ≟ bytes " - "))) where
      pub sum-sign : x ≡ false → none ≡ sum_of edition a b c
      unfolding sum_of is_sign
      sum-sign h = sym (if-false _ _ (and_true _ (sym e) ∙ and_true _ (sym f) ∙ sym g ∙ h))

      pub sum_is : x ≡ true → operated (b.text ≟ bytes " + ") (read_number edition a.text) (read_number edition c.text) ≡ sum_of edition a b c
      unfolding sum_of is_sign
      sum_is h = sym (if-true _ _ (and_true _ (sym e) ∙ and_true _ (sym f) ∙ sym g ∙ h))

  module _ (before : Option Token) (rest : List Token) where
    folded_is : folded edition before a b c rest ≡ (when delim_before before and delim_after rest then number_token (sum_of edition a b c) else none)
    unfolding folded sum_of operated is_sign
    folded_is =
        folded-shape (delim_before before) (delim_after rest) (is Number a) (is Number c) ((b.text ≟ bytes " + ") or (b.text ≟ bytes " - "))
        (b.text ≟ bytes " + ") (read_number edition a.text) (read_number edition c.text)

    -- none, whatever is asked
    none_both : (x : Bool) → none ≡ (when x then number_token none else none)
    unfolding when◌then◌else◌ let_some◌else◌then◌
    none_both true = refl
    none_both false = refl

    pub folded-none : none ≡ sum_of edition a b c → none ≡ folded edition before a b c rest
    folded-none e =
        none_both (delim_before before and delim_after rest)
        ∙ ap (λ (o : Option ℤ). when delim_before before and delim_after rest then number_token o else none) e ∙ sym folded_is

    pub folded_open : delim_before before ≡ false → none ≡ folded edition before a b c rest
    folded_open e = sym (folded_is ∙ if-false _ _ (and_false _ e))

    pub folded_shut : delim_before before ≡ true → delim_after rest ≡ false → none ≡ folded edition before a b c rest
    folded_shut e f = sym (folded_is ∙ if-false _ _ (and_true _ e ∙ f))

    pub folded-sum : delim_before before ≡ true → delim_after rest ≡ true → number_token (sum_of edition a b c) ≡ folded edition before a b c rest
    folded-sum e f = sym (folded_is ∙ if-true _ _ (and_true _ e ∙ f))

-- ---- a step

pub fold-few : (edition : ℕ) (before : Option Token) (ts : List Token) → length ts < 3 → none ≡ fold_next edition before ts
fold-few edition before [] h = refl
fold-few edition before (a ∷ []) h = refl
fold-few edition before (a ∷ b ∷ []) h = refl
fold-few edition before (a ∷ b ∷ c ∷ rest) h = absurd (omega arith)

pub fold-kept : (edition : ℕ) (before : Option Token) (a : Token) (rest : List Token)
    → fold_next edition before (a ∷ rest) ≡ none → fold_behind edition before (a ∷ rest) ≡ a ∷ fold_behind edition (some a) rest
unfolding fold_at let_some◌else◌then◌
fold-kept edition before a [] e = refl
fold-kept edition before a (b ∷ []) e = refl
fold-kept edition before a (b ∷ c ∷ rest) e = rw e

module _ (edition : ℕ) (before : Option Token) (n : Token) where
  pub fold-made : (ts : List Token) → fold_next edition before ts ≡ some n → fold_behind edition before ts ≡ fold_behind edition before (n ∷ drop 3 ts)
  unfolding fold_at let_some◌else◌then◌
  fold-made [] e = absurd (none-some e)
  fold-made (a ∷ []) e = absurd (none-some e)
  fold-made (a ∷ b ∷ []) e = absurd (none-some e)
  fold-made (a ∷ b ∷ c ∷ rest) e = rw e

  -- three tokens, the one in the middle a sign; and what they make is short
  pub fold-long : (ts : List Token) → fold_next edition before ts ≡ some n → (3 ≤ length ts) × (size n ≤ 19) × (1 + signs (drop 3 ts) ≤ signs (drop 1 ts))
  unfolding is_sign
  fold-long [] e = absurd (none-some e)
  fold-long (a ∷ []) e = absurd (none-some e)
  fold-long (a ∷ b ∷ []) e = absurd (none-some e)
  fold-long (a ∷ b ∷ c ∷ rest) e =
      let f = folds edition before a b c rest n e in
      let one : signs (b ∷ c ∷ rest) ≡ suc (signs (c ∷ rest)) = if-true _ _ f.sign in
      (omega arith, f.small, omega (arith, keep-room c rest))

pub fold_begin : (edition : ℕ) (ts : List Token) → fold edition ts ≡ fold_behind edition none ts
unfolding fold
fold_begin edition [] = refl
fold_begin edition (a ∷ rest) = refl

pub last_snoc : (ts : List Token) (t : Token) → last_of (ts ++ (t ∷ [])) ≡ some t
last_snoc [] t = refl
last_snoc (a ∷ []) t = refl
last_snoc (a ∷ b ∷ ts) t = last_snoc (b ∷ ts) t

pub signs_drop : (ts : List Token) → signs (drop 1 ts) ≤ signs ts
signs_drop [] = omega arith
signs_drop (t ∷ ts) = keep-room t ts

-- ---- in a line of words

module _ (tape area : Text) (line : List ℕ) where
  last_at : (k : ℕ) → length line ≡ suc k → last_of (tokens_of tape area line) ≡ some (token_of tape area (get_or line k 0))
  last_at k h =
      let split : tokens_of tape area line ≡ tokens_of tape area (take k line) ++ (token_of tape area (get_or line k 0) ∷ []) =
      ap (tokens_of tape area) (sym (take_all (suc k) line (omega arith)) ∙ take-suc line k 0 (omega arith))
      ∙ map-append (token_of tape area) (take k line) (get_or line k 0 ∷ []) in
      ap last_of split ∙ last_snoc (tokens_of tape area (take k line)) (token_of tape area (get_or line k 0))

  pub before_none : length line ≡ 0 → true ≡ delim_before (last_of (tokens_of tape area line))
  unfolding delim_before
  before_none h = rw (sym (take_all 0 line (omega arith)))

  pub before_at : {x : Bool} → 0 < length line → x ≡ delimits_before (token_of tape area (get_or line (length line - 1) 0))
      → x ≡ delim_before (last_of (tokens_of tape area line))
  unfolding delim_before delimits_before
  before_at h e = rw (last_at (length line - 1) (omega arith)) e

  pub after_none : length line ≡ 0 → true ≡ delim_after (tokens_of tape area line)
  unfolding delim_after
  after_none h = rw (sym (take_all 0 line (omega arith)))

  pub after_at : {x : Bool} → 0 < length line → x ≡ delimits_after (token_of tape area (get_or line 0 0)) → x ≡ delim_after (tokens_of tape area line)
  unfolding delim_after delimits_after
  after_at h e = rw (drop-cons line 0 0 h) e

  -- three words
  three : 3 ≤ length line → line ≡ get_or line 0 0 ∷ get_or line 1 0 ∷ get_or line 2 0 ∷ drop 3 line
  three h =
      let one : line ≡ get_or line 0 0 ∷ drop 1 line = drop-cons line 0 0 (omega arith) in
      let two : drop 1 line ≡ get_or line 1 0 ∷ drop 2 line = drop-cons line 1 0 (omega arith) in
      let last : drop 2 line ≡ get_or line 2 0 ∷ drop 3 line = drop-cons line 2 0 (omega arith) in
      cc

  -- what a call answered, at the first three words
  module _ (edition : ℕ) (before : Option Token) where
    pub next_few : length line < 3 → number_token none ≡ fold_next edition before (tokens_of tape area line)
    unfolding let_some◌else◌then◌
    next_few h = fold-few edition before (tokens_of tape area line) (rw length-map h)

    module _ {x : Bool} (h : 3 ≤ length line) (ex : x ≡ delim_before before) where
      folded-words : {o : Option Token}
          → o ≡ folded edition before (token_of tape area (get_or line 0 0)) (token_of tape area (get_or line 1 0)) (token_of tape area (get_or line 2 0)) (tokens_of tape area (drop 3 line))
          → o ≡ fold_next edition before (tokens_of tape area line)
      folded-words e = e ∙ sym (ap (λ (l : List ℕ). fold_next edition before (tokens_of tape area l)) (three h))

      pub next_open : x ≡ false → number_token none ≡ fold_next edition before (tokens_of tape area line)
      unfolding let_some◌else◌then◌
      next_open e = folded-words (folded_open edition _ _ _ before _ (sym ex ∙ e))

      module _ {y : Bool} (e : x ≡ true) (ey : y ≡ delim_after (tokens_of tape area (take (length line - 3) (drop 3 line)))) where
        after_is : y ≡ delim_after (tokens_of tape area (drop 3 line))
        after_is = rw take_rest at ey

        pub next_shut : y ≡ false → number_token none ≡ fold_next edition before (tokens_of tape area line)
        unfolding let_some◌else◌then◌
        next_shut f = folded-words (folded_shut edition _ _ _ before _ (sym ex ∙ e) (sym after_is ∙ f))

        pub next_sum : {o : Option ℤ} → y ≡ true
            → o ≡ sum_of edition (token_of tape area (get_or line 0 0)) (token_of tape area (get_or line 1 0)) (token_of tape area (get_or line 2 0))
            → number_token o ≡ fold_next edition before (tokens_of tape area line)
        next_sum f g = folded-words (ap number_token g ∙ folded-sum edition _ _ _ before _ (sym ex ∙ e) (sym after_is ∙ f))

    pub next_none : 3 ≤ length line → {k : ℕ} → k ≡ kind_of (get_or line 0 0) → (k ≡ Number → ⊥)
        → number_token none ≡ fold_next edition before (tokens_of tape area line)
    unfolding let_some◌else◌then◌
    next_none h ek n = folded-words h refl (folded-none edition _ _ _ before _ (sum_left edition _ _ _ (is_not (token_of tape area (get_or line 0 0)) Number ek n)))

-- the cases of what a call answered
pub ruleset what_next = (next_few, next_none, next_open, next_shut, next_sum)
