-- Weights of tokens that no step raises. Demand 3's tokens and text follow from three: the count of tokens, the text outside numbers, the text of
-- numbers past 24 bytes. Each is a rule for the size of a number's text and one for that of any other; the laws here hold for every such pair.
-- Assumes nothing.
use Prim.Native.Nat.{ℕ, suc, ◌+◌, ◌*◌, ◌-◌, ◌≤◌}
use native.Mathlib.Omega.{arith}
use native.Mathlib.Nat.{le_trans}
use mathlib.Core.Path.{◌≡◌, refl, ap, ◌∙◌}
use mathlib.Core.Bool.{Bool, true, false, false≢true}
use mathlib.Core.List.{List, [], ◌∷◌, ◌++◌, drop_last}
use mathlib.Core.Option.{Option, none, some}
use lib.ListN.{length, take, drop, length-append, length-drop}
use Rattle.reference.specs.Control.{when◌then◌else◌}
use Rattle.reference.specs.Lists.{position}
use Rattle.reference.specs.Text.{Text, bytes}
use Rattle.reference.specs.Listing.{Token, token, is, Register, Number, Punct, Listing}
use Rattle.reference.specs.Names.{of_family}
use Rattle.reference.specs.Numbers.{merge_into, merge, fold_at, fold}
use Rattle.reference.specs.Rules.{Rules}
use Rattle.reference.specs.Shapes.{Assignment, right_side}
use Rattle.reference.specs.Join.{substitute, replacement, text_before, text_after, replace_at, lone_number}
use Rattle.reference.specs.Claim.{sum, size, text_in, text, token_count}
use Rattle.reference.proofs.Cases.{by-if, by-some}
use Rattle.reference.proofs.Shapes.{other_kind, joins-other, family-register, starts_with_length, folds, Cut, gone, short, later, Assigning, assigning, split_at}

record Laws (number other : ℕ → ℕ) : Type 0 where
  join : (m n : ℕ) → other (m + n) ≤ other m + other n
  fold : (a c n : ℕ) → n ≤ 19 → number n ≤ number a + number c
  shorter_number : (m n : ℕ) → m ≤ n → number m ≤ number n
  shorter_other : (m n : ℕ) → m ≤ n → other m ≤ other n
  -- two brackets, and what is left of ` = ..`, for a register, ` = ..` and another register
  brackets : (l h n r : ℕ) → h + 3 ≤ n → other 1 + other 1 + other h ≤ other l + other n + other r

pub record Weight : Type 0 where
  pub number : ℕ → ℕ
  pub other : ℕ → ℕ
  laws : Laws number other

unfoldable pub weigh : Weight → Token → ℕ
weigh w t = when is Number t then w.number (size t) else w.other (size t)

abbrev pub weight : Weight → List Token → ℕ
weight w = sum (weigh w)

abbrev pub total : Weight → Listing → ℕ
total w = sum (λ l. weight w l.tokens)

-- an expression that, if it is a lone number, weighs no more than a register that it stands for
abbrev pub Light : Weight → List Token → Type 0
Light w expr = lone_number expr ≡ true → (n : ℕ) → weight w expr ≤ w.other n

pub sum-append {ℓ} : {A : Type ℓ} (f : A → ℕ) (xs ys : List A) → sum f (xs ++ ys) ≡ sum f xs + sum f ys
sum-append f [] ys = omega arith
sum-append f (x ∷ xs) ys = omega (arith, sum-append f xs ys)

dropLast_length : (s : Text) → length (drop_last s) ≤ length s
dropLast_length [] = omega arith
dropLast_length (x ∷ []) = omega arith
dropLast_length (x ∷ y ∷ ys) = omega (arith, dropLast_length (y ∷ ys))

if_le : (b : Bool) {m m' n n' : ℕ} → m ≤ n → m' ≤ n' → (when b then m else m') ≤ (when b then n else n')
unfolding when◌then◌else◌
if_le true h k = h
if_le false h k = k

module _ (w : Weight) where
  pub weigh_number : (t : Token) → is Number t ≡ true → weigh w t ≡ w.number (size t)
  unfolding weigh when◌then◌else◌
  weigh_number t e = rw (e, when◌then◌else◌)

  pub weigh_other : (t : Token) → is Number t ≡ false → weigh w t ≡ w.other (size t)
  unfolding weigh when◌then◌else◌
  weigh_other t e = rw (e, when◌then◌else◌)

  weigh_register : (t : Token) → is Register t ≡ true → weigh w t ≡ w.other (size t)
  weigh_register t e = weigh_other t (other_kind Register Number t refl e)

  weigh_punct : (s : Text) → weigh w (token Punct s) ≡ w.other (length s)
  unfolding is
  weigh_punct s = weigh_other (token Punct s) refl

  -- ---- merging and folding

  into_le : (last : Token) (ts : List Token) → weight w (merge_into last ts) ≤ weigh w last + weight w ts
  unfolding merge_into is
  into_le last [] = omega arith
  into_le last (t ∷ ts) =
      by-if (λ (r : List Token). weight w r ≤ weigh w last + (weigh w t + weight w ts))
      (λ e.
      (let k = joins-other Number last t refl refl e in
      let both_texts : Token = token last.kind (last.text ++ t.text) in
      omega (
        arith,
        into_le both_texts ts,
        weigh_other last k.0,
        weigh_other t k.1,
        weigh_other both_texts k.0,
        ap w.other (length-append last.text t.text),
        w.laws.join (size last) (size t),
      )))
      (λ e. omega (arith, into_le t ts))

  pub merge_le : (ts : List Token) → weight w (merge ts) ≤ weight w ts
  unfolding merge
  merge_le [] = omega arith
  merge_le (t ∷ ts) = into_le t ts

  fold_at_le : (edition : ℕ) (before : Option Token) (a : Token) (ts : List Token) → weight w (fold_at edition before a ts) ≤ weigh w a + weight w ts
  unfolding fold_at
  fold_at_le edition before a [] = omega arith
  fold_at_le edition before a (b ∷ []) = omega arith
  fold_at_le edition before a (b ∷ c ∷ rest) =
      by-some (λ (r : List Token). weight w r ≤ weigh w a + (weigh w b + (weigh w c + weight w rest)))
      (λ e. omega (arith, fold_at_le edition (some a) b (c ∷ rest)))
      (λ n e.
      (let h = folds edition before a b c rest n e in
      omega (
        arith,
        fold_at_le edition before n rest,
        weigh_number a h.first,
        weigh_number c h.last,
        weigh_number n h.made,
        w.laws.fold (size a) (size c) (size n) h.small,
      )))

  pub fold-merge_le : (edition : ℕ) (ts : List Token) → weight w (fold edition (merge ts)) ≤ weight w ts
  unfolding fold
  fold-merge_le edition ts = le_trans (go (merge ts)) (merge_le ts)
    where
      go : (ts : List Token) → weight w (fold edition ts) ≤ weight w ts
      go [] = omega arith
      go (a ∷ rest) = fold_at_le edition none a rest

  -- ---- an assignment's expression, with the brackets that may come around it, weighs no more than its line and one register

  cut_le : {ts r : List Token} → Cut ts r → weight w r ≤ weight w ts
  unfolding weigh is
  cut_le (gone e h) = omega arith
  cut_le (short {t = t} e) =
      omega (
        arith,
        if_le (is Number t) (w.laws.shorter_number _ _ (dropLast_length t.text)) (w.laws.shorter_other _ _ (dropLast_length t.text)),
      )
  cut_le (later t c) = omega (arith, cut_le c)

  pub assigned_le : {ts : List Token} {a : Assignment} → Assigning ts a → (n : ℕ) → w.other 1 + w.other 1 + weight w a.expr ≤ weight w ts + w.other n
  unfolding right_side
  assigned_le (assigning {lhs = lhs} {eq = eq} {rest = rest} r p s c) n =
      let head : ℕ = length (drop 3 eq.text) in
      let sign : 3 ≤ size eq = starts_with_length eq.text (bytes " = ") s in
      let right : weight w (right_side eq rest) ≤ w.other head + weight w rest =
      by-if (λ (h : List Token). weight w (h ++ rest) ≤ w.other head + weight w rest)
      (λ u. omega arith)
      (λ u. omega (arith, weigh_punct (drop 3 eq.text))) in
      omega (
        arith,
        cut_le c,
        weigh_register lhs r,
        weigh_other eq (other_kind Punct Number eq refl p),
        w.laws.brackets (size lhs) head (size eq) n (omega (arith, length-drop 3 eq.text)),
      )

  -- ---- uses replaced

  replacement_le : (rules : Rules) (expr : List Token) (before after : Text) → weight w (replacement rules expr before after) ≤ w.other 1 + w.other 1 + weight w expr
  unfolding replacement
  replacement_le rules expr before after =
      by-if (λ (r : List Token). weight w r ≤ w.other 1 + w.other 1 + weight w expr)
      (λ e. omega (arith, sum-append (weigh w) expr (token Punct (bytes ")") ∷ []), weigh_punct (bytes "("), weigh_punct (bytes ")")))
      (λ e. omega arith)

  pub replaced_le : (rules : Rules) (fam : Text) (toks : List Token) (pos : ℕ) {ts : List Token} {a : Assignment} → Assigning ts a
      → position (of_family fam) toks ≡ some pos → weight w (replace_at rules toks pos a.expr) ≤ weight w toks + weight w ts
  unfolding replace_at
  replaced_le rules fam toks pos {a = a} h at =
      let s = split_at (of_family fam) toks pos at in
      let old : weight w toks ≡ weight w (take pos toks) + (weigh w s.0 + weight w (drop (suc pos) toks)) =
      ap (weight w) s.2 ∙ sum-append (weigh w) (take pos toks) (s.0 ∷ drop (suc pos) toks) in
      let new : List Token = replacement rules a.expr (text_before toks pos) (text_after toks pos) in
      omega (
        arith,
        sum-append (weigh w) (take pos toks ++ new) (drop (suc pos) toks),
        sum-append (weigh w) (take pos toks) new,
        replacement_le rules a.expr (text_before toks pos) (text_after toks pos),
        assigned_le h (size s.0),
        weigh_register s.0 (family-register fam s.0 s.1),
      )

  pub substitute_le : (fam : Text) (expr : List Token) → ((n : ℕ) → weight w expr ≤ w.other n)
      → (ts : List Token) → weight w (substitute fam expr ts) ≤ weight w ts
  unfolding substitute
  substitute_le fam expr h [] = omega arith
  substitute_le fam expr h (t ∷ ts) =
      by-if (λ (r : List Token). weight w r ≤ weigh w t + weight w ts)
      (λ e.
      omega (
        arith,
        h (size t),
        weigh_register t (family-register fam t e),
        sum-append (weigh w) expr (substitute fam expr ts),
        substitute_le fam expr h ts,
      ))
      (λ e. omega (arith, substitute_le fam expr h ts))

-- ---- the three weights

abbrev pub count : Weight
count = record { number = λ n. 1; other = λ n. 1; laws = omega arith }

-- the text outside numbers
abbrev pub plain : Weight
plain = record { number = λ n. 0; other = λ n. n; laws = omega arith }

-- what numbers' texts have past 24 bytes
abbrev pub excess : Weight
excess = record { number = λ n. n - 24; other = λ n. 0; laws = omega arith }

pub count_is : (lines : Listing) → total count lines ≡ token_count lines
unfolding weigh
count_is [] = refl
count_is (l ∷ ls) = omega (arith, count_is ls, tokens l.tokens)
  where
    tokens : (ts : List Token) → weight count ts ≡ length ts
    tokens [] = refl
    tokens (t ∷ ts) = by-if (λ (n : ℕ). n + weight count ts ≡ suc (length ts)) (λ e. omega (arith, tokens ts)) (λ e. omega (arith, tokens ts))

sum-le {ℓ} : {A : Type ℓ} {f g : A → ℕ} → ((x : A) → f x ≤ g x) → (xs : List A) → sum f xs ≤ sum g xs
sum-le h [] = omega arith
sum-le h (x ∷ xs) = omega (arith, h x, sum-le h xs)

pub plain_text : (lines : Listing) → total plain lines ≤ text lines
unfolding weigh
plain_text = sum-le (λ l. sum-le (λ t. by-if (λ (n : ℕ). n ≤ size t) (λ h. omega arith) (λ h. omega arith)) l.tokens)

-- text by the weights
pub text_le : (lines : Listing) → text lines ≤ total plain lines + total excess lines + 24 * token_count lines
unfolding weigh when◌then◌else◌
text_le [] = omega arith
text_le (l ∷ ls) = omega (arith, text_le ls, tokens l.tokens)
  where
    one : (n : ℕ) (b : Bool) → n ≤ (when b then 0 else n) + (when b then n - 24 else 0) + 24
    one n true = omega arith
    one n false = omega arith

    tokens : (ts : List Token) → text_in ts ≤ weight plain ts + weight excess ts + 24 * length ts
    tokens [] = omega arith
    tokens (t ∷ ts) = omega (arith, tokens ts, one (size t) (is Number t))

-- ---- lone numbers

pub light : (w : Weight) → ((m n : ℕ) → w.number m ≤ w.other n) → (expr : List Token) → Light w expr
unfolding lone_number
light w h [] e n = absurd (false≢true e)
light w h (x ∷ []) e n = omega (arith, weigh_number w x e, h (size x) n)
light w h (x ∷ y ∷ ys) e n = absurd (false≢true e)

pub light_nothing : (w : Weight) → Light w []
unfolding lone_number
light_nothing w e n = absurd (false≢true e)

pub light_excess : {ts : List Token} {a : Assignment} → Assigning ts a → weight excess ts ≡ 0 → Light excess a.expr
light_excess h z e n = omega (arith, assigned_le excess h n)
