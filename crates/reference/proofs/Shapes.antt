-- What the definitions know of tokens where they succeed: kinds, families, a fold, a semicolon cut, an assignment, a token found. Each is read off its
-- definition once, here; the other proofs go by these records. Assumes nothing.
use Prim.Native.Nat.{ℕ, zero, suc, ◌+◌, ◌/◌, ◌%◌, ◌≤◌, ◌<◌, suc-le-suc}
use native.Mathlib.Omega.{arith}
use mathlib.Core.Path.{◌≡◌, refl, ap, subst, subst⁻¹}
use mathlib.Core.Bool.{Bool, true, false, false≢true}
use mathlib.Core.List.{List, [], ◌∷◌, ◌++◌, drop_last}
use mathlib.Core.Option.{Option, some}
use lib.Dec.{eqb}
use lib.IntN.{ℤ, pos, negsuc}
use lib.ListN.{length, take, drop}
use Rattle.reference.specs.Control.{◌and◌, ◌or◌}
use Rattle.reference.specs.Lists.{position, is_empty}
use Rattle.reference.specs.Text.{Text, bytes, ◌≟◌, starts_with, ends_with}
use Rattle.reference.specs.Listing.{Token, token, is, Register, Number, Punct, Plain, Listing, ◌at◌}
use Rattle.reference.specs.Names.{fam_of, of_family}
use Rattle.reference.specs.Numbers.{joins, folded, digits, digit_byte, show, show_natural}
use Rattle.reference.specs.Shapes.{Assignment, cut_semicolon, begins_assignment, right_side, assignment_of, assignment, label_tokens}
use Rattle.reference.specs.Claim.{size}
use Rattle.reference.proofs.Cases.{by-if, both, either, fails, true-false, same_number, some_inj, none-some, if_some, unless-some, bind-some, some-true}

-- ---- kinds

kind_is : (k : ℕ) (t : Token) → is k t ≡ true → t.kind ≡ k
unfolding is
kind_is k t e = same_number e

-- a token of one kind is none of another
pub other_kind : (j k : ℕ) (t : Token) → eqb j k ≡ false → is j t ≡ true → is k t ≡ false
unfolding is
other_kind j k t h e = rw (kind_is j t e) h

-- tokens that join are of no kind but Punct and Text
pub joins-other : (k : ℕ) (a b : Token) → eqb Punct k ≡ false → eqb Plain k ≡ false → joins a b ≡ true → (is k a ≡ false) × (is k b ≡ false)
unfolding joins is
joins-other k a b hp ht e =
    let h = both e in
    let same : a.kind ≡ b.kind = same_number h.0 in
    let second : is k b ≡ false = either (is k b ≡ false) h.1 (other_kind Punct k b hp) (other_kind Plain k b ht) in
    (subst⁻¹ (λ (n : ℕ). eqb n k ≡ false) same second, second)

pub family-register : (fam : Text) (t : Token) → of_family fam t ≡ true → is Register t ≡ true
unfolding of_family fam_of
family-register fam t e = (if_some (some-true e).1).0

-- ---- texts

pub same_text : (s t : Text) → (s ≟ t) ≡ true → s ≡ t
same_text [] [] e = refl
same_text [] (y ∷ ys) e = absurd (false≢true e)
same_text (x ∷ xs) [] e = absurd (false≢true e)
same_text (x ∷ xs) (y ∷ ys) e = let h = both e in λ i. same_number {m = x} {n = y} h.0 i ∷ same_text xs ys h.1 i

-- how a text begins that is a known one
pub starts_as : (s t p : Text) (b : Bool) → starts_with t p ≡ b → (s ≟ t) ≡ true → starts_with s p ≡ b
starts_as s t p b h e = rw (same_text s t e) h

pub starts_with_length : (s t : Text) → starts_with s t ≡ true → length t ≤ length s
starts_with_length s [] e = omega arith
starts_with_length [] (y ∷ ys) e = absurd (false≢true e)
starts_with_length (x ∷ xs) (y ∷ ys) e = suc-le-suc (starts_with_length xs ys (both e).1)

-- ---- a fold

digits-length : (fuel base n : ℕ) (rest : Text) → length (digits fuel base n rest) ≤ fuel + length rest
unfolding digits
digits-length zero base n rest = omega arith
digits-length (suc fuel) base n rest =
    by-if (λ (r : Text). length r ≤ suc fuel + length rest)
    (λ e. omega arith)
    (λ e. omega (arith, digits-length fuel base (n / base) (digit_byte (n % base) ∷ rest)))

natural_length : (n : ℕ) → length (show_natural n) ≤ 18
unfolding show_natural
natural_length n =
    by-if (λ (r : Text). length r ≤ 18) (λ e. omega (arith, digits-length 16 10 n [])) (λ e. omega (arith, digits-length 16 16 n []))

pub show-length : (z : ℤ) → length (show z) ≤ 19
unfolding show
show-length (pos n) = omega (arith, natural_length n)
show-length (negsuc n) = omega (arith, natural_length (suc n))

-- three tokens fold to a fourth
pub record Folds (a b c n : Token) : Type 0 where
  pub first : is Number a ≡ true
  pub last : is Number c ≡ true
  pub sign : ((b.text ≟ bytes " + ") or (b.text ≟ bytes " - ")) ≡ true
  pub made : is Number n ≡ true
  pub small : size n ≤ 19

pub folds : (edition : ℕ) (before : Option Token) (a b c : Token) (rest : List Token) (n : Token) → folded edition before a b c rest ≡ some n → Folds a b c n
unfolding folded is
folds edition before a b c rest n e =
    let f = if_some e in
    let tests = both (both (both f.0).1).1 in
    let x = bind-some f.1 in
    let y = bind-some x.2 in
    record {
      first = tests.0;
      last = (both tests.1).0;
      sign = (both tests.1).1;
      made = subst (λ (t : Token). is Number t ≡ true) (some_inj y.2) refl;
      small = subst (λ (t : Token). size t ≤ 19) (some_inj y.2) (show-length _);
    }

-- ---- the semicolon of a line's last token, cut

pub data Cut : List Token → List Token → Type 0 where
  gone : {t : Token} → ends_with t.text (bytes ";") ≡ true → drop_last t.text ≡ [] → Cut (t ∷ []) []
  short : {t : Token} → ends_with t.text (bytes ";") ≡ true → Cut (t ∷ []) (token t.kind (drop_last t.text) ∷ [])
  later : (t : Token) {ts r : List Token} → Cut ts r → Cut (t ∷ ts) (t ∷ r)

empty_is : (s : Text) → is_empty s ≡ true → s ≡ []
empty_is [] e = refl
empty_is (x ∷ xs) e = absurd (false≢true e)

cuts : (ts r : List Token) → cut_semicolon ts ≡ some r → Cut ts r
unfolding cut_semicolon
cuts [] r e = absurd (none-some e)
cuts (t ∷ []) r e =
    let f = if_some e in
    subst (λ (l : List Token). Cut (t ∷ []) l) (some_inj f.1) (by-if (λ (l : List Token). Cut (t ∷ []) l) (λ h. gone f.0 (empty_is _ h)) (λ h. short f.0))
cuts (t ∷ u ∷ us) r e =
    let b = bind-some e in
    subst (λ (l : List Token). Cut (t ∷ u ∷ us) l) (some_inj b.2) (later t (cuts (u ∷ us) b.0 b.1))

-- ---- an assignment

pub data Assigning : List Token → Assignment → Type 0 where
  assigning : {lhs eq : Token} {rest expr : List Token} → is Register lhs ≡ true → is Punct eq ≡ true → starts_with eq.text (bytes " = ") ≡ true
      → Cut (right_side eq rest) expr → Assigning (lhs ∷ eq ∷ rest) (record { lhs = lhs; expr = expr })

pub assigns : (ts : List Token) (a : Assignment) → assignment_of ts ≡ some a → Assigning ts a
unfolding assignment_of begins_assignment
assigns [] a e = absurd (none-some e)
assigns (lhs ∷ []) a e = absurd (none-some e)
assigns (lhs ∷ eq ∷ rest) a e =
    let f = if_some e in
    let b = bind-some f.1 in
    subst (λ (x : Assignment). Assigning (lhs ∷ eq ∷ rest) x) (some_inj (unless-some b.2).1)
    (assigning (both f.0).0 (both (both f.0).1).0 (both (both f.0).1).1 (cuts (right_side eq rest) b.0 b.1))

pub assigning-register : {ts : List Token} {a : Assignment} → Assigning ts a → is Register a.lhs ≡ true
assigning-register (assigning r p s c) = r

-- an assignment is no label: its second token is no `:`
pub assigning-plain : {ts : List Token} {a : Assignment} → Assigning ts a → label_tokens ts ≡ false
unfolding label_tokens
assigning-plain (assigning {lhs = x} {eq = y} {rest = rest} r p s c) = go rest
  where
    go : (rest : List Token) → label_tokens (x ∷ y ∷ rest) ≡ false
    go [] = fails (λ h. true-false s (starts_as y.text (bytes ":") (bytes " = ") false (unfold ◌and◌ in refl) (both h).0))
    go (z ∷ zs) = refl

-- it stands inside the listing
pub inside : (lines : Listing) (i : ℕ) {a : Assignment} → assignment (lines at i) ≡ some a → i < length lines
unfolding assignment_of
inside [] i e = absurd (none-some e)
inside (l ∷ ls) zero e = omega arith
inside (l ∷ ls) (suc i) e = omega (arith, inside ls i e)

-- ---- a token found

pub split_at : (p : Token → Bool) (ts : List Token) (i : ℕ) → position p ts ≡ some i
    → (r : Token) × (p r ≡ true) × (ts ≡ take i ts ++ r ∷ drop (suc i) ts)
split_at p [] i e = absurd (none-some e)
split_at p (t ∷ ts) i e =
    by-if (λ (o : Option ℕ). o ≡ some i → Found i)
    (λ h e. subst Found (some_inj e) (t, h, refl))
    (λ h e.
    (let b = bind-some e in
    let s = split_at p ts b.0 b.1 in
    subst Found (some_inj b.2) (s.0, s.1, ap (λ (l : List Token). t ∷ l) s.2)))
    e
  where
    Found : ℕ → Type 0
    Found n = (r : Token) × (p r ≡ true) × (t ∷ ts ≡ take n (t ∷ ts) ++ r ∷ drop (suc n) (t ∷ ts))
