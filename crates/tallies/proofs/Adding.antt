-- A number of each line's tokens, added up over the lines: what is counted so far, with what is to come, is the tape's. Then what is counted of a
-- token: of a cast, of a name, of a label. Assumes nothing.
use Prim.Native.Nat.{ℕ, ◌+◌, ◌≤◌}
use native.Mathlib.Omega.{arith}
use mathlib.Core.Path.{◌≡◌, refl, sym, ap, ◌∙◌}
use mathlib.Core.Bool.{Bool, true, false}
use mathlib.Core.List.{List, [], ◌∷◌}
use mathlib.Core.Option.{none, some}
use lib.ListN.{length}
use borrow.Author.Tests.{eq-eqb, ne_eqb}
use Rattle.reference.specs.Control.{◌and◌, when◌then◌else◌}
use Rattle.reference.specs.Text.{Text, bytes, ◌≟◌}
use Rattle.reference.specs.Listing.{Token, token, is, Symbol, Listing}
use Rattle.reference.specs.Shapes.{label_tokens}
use Rattle.reference.specs.Claim.{sum, one_if, opens, is_call_mark, calls_in, label_lines}
use Rattle.reference.specs.Tape as Tape
use Rattle.reference.proofs.Cases.{by-if, zero_if}
use Rattle.laws.proofs.Scans.{if-true, if-false, and_true, and_false, and_last}
use lib.Dec.{eqb}
use mir.Val.{bool_byte}
use Rattle.tape.specs.Held.{tokens_of}
use Rattle.tallies.specs.declared.casts.Casts.{Casts}
use Rattle.tallies.specs.declared.calls.Calls.{Calls}
use Rattle.tallies.specs.declared.labels.Shape.{Shape}
use Rattle.tallies.specs.declared.labels.Shape.TheVariants.{Empty, Name, Label, Other}
use Rattle.tallies.specs.declared.labels.Labels.{Labels}
use Rattle.tallies.specs.Counting.{Counts, CountsLine, with_commands, casts_with, is_name, calls_with, is_label_with, Shaped, label_in, labels_with}

-- ---- one command

pub if-same {ℓ} : {A : Type ℓ} (b : Bool) (x : A) → (when b then x else x) ≡ x
unfolding when◌then◌else◌
if-same true x = refl
if-same false x = refl

module _ {S : Type 0} (with_tokens : S → List Token → ℕ) (of-line : List Token → ℕ) {s r : S} where
  -- the beginning of a line is counted, whatever tokens it has
  pub counts_line : ((ts : List Token) → with_tokens r ts ≡ with_tokens s [] + of-line ts) → CountsLine (with_commands with_tokens of-line) s r
  counts_line h = record { line = λ address indent. record { adds = λ more. (let e = h (tokens_of more) in omega arith) } }

  -- a token is counted, whatever comes behind it in its line
  pub counts_token : (t : Token) → ((ts : List Token) → with_tokens r ts ≡ with_tokens s (t ∷ ts)) → Counts (with_commands with_tokens of-line) (Tape.new_token t) s r
  counts_token t h = record { adds = λ more. (let e = h (tokens_of more) in omega arith) }

-- ---- tests of a kind, as the code makes them

module _ (k kind : ℕ) (s : Text) where
  kind_no : (b : Bool) → (kind ≡ k → ⊥) → false ≡ (is k (token kind s) and b)
  unfolding is
  kind_no b n = sym (and_false b (ne_eqb kind k n))

  pub kind_else : (b : Bool) → (kind ≡ k → ⊥) → eqb kind k ≡ (is k (token kind s) and b)
  kind_else b n = ne_eqb kind k n ∙ kind_no b n

  pub kind_yes : {x b : Bool} → kind ≡ k → x ≡ b → x ≡ (is k (token kind s) and b)
  unfolding is
  kind_yes {b = b} e h = h ∙ sym (and_true b (eq-eqb kind k e))

-- a number with one more where a test holds, as the code adds it
pub byte_if : (n : ℕ) (b : Bool) {m : ℕ} → m ≡ bool_byte b → n + m ≡ n + one_if b
byte_if n b e = ap (λ (k : ℕ). n + k) (e ∙ go b)
  where
    go : (x : Bool) → bool_byte x ≡ one_if x
    go true = sym (if-true {A = ℕ} 1 0 refl)
    go false = sym (if-false {A = ℕ} 1 0 refl)

pub at_most : (b : Bool) → one_if b ≤ 1
at_most b = by-if (λ (n : ℕ). n ≤ 1) (λ e. omega arith) (λ e. omega arith)

-- ---- calls through a cast pointer

abbrev casts_total : Casts → List Tape.Command → ℕ
casts_total = with_commands casts_with (calls_in none)

module _ (s : Casts) (ts : List Token) where
  casts_open : s.begun ≡ true → casts_with s ts ≡ s.count + calls_in none ts
  unfolding casts_with
  casts_open e = ap (λ (n : ℕ). s.count + n) (if-true _ _ e)

  casts_shut : s.begun ≡ false → casts_with s ts ≡ s.count
  unfolding casts_with
  casts_shut e = let z = if-false (calls_in none ts) 0 e in omega arith

module _ (t : Token) (s : Casts) where
  cast_in : (ts : List Token) → calls_in none (t ∷ ts) ≡ one_if (is_call_mark none t false) + calls_in none ts
  unfolding calls_in is_call_mark
  cast_in ts = refl

  pub casts_token : {called : Bool} {r : Casts} → called ≡ (s.begun and is_call_mark none t false) → r.count ≡ s.count + one_if called → r.begun ≡ s.begun
      → Counts casts_total (Tape.new_token t) s r
  casts_token {called} {r} e c b = counts_token casts_with (calls_in none) t (by-eq s.begun refl)
    where
      by-eq : (x : Bool) → s.begun ≡ x → (ts : List Token) → casts_with r ts ≡ casts_with s (t ∷ ts)
      by-eq true o ts =
          let same : one_if called ≡ one_if (is_call_mark none t false) = ap one_if (e ∙ and_true (is_call_mark none t false) o) in
          omega (arith, casts_open r ts (b ∙ o), casts_open s (t ∷ ts) o, cast_in ts)
      by-eq false o ts =
          let no : one_if called ≡ 0 = zero_if (e ∙ and_false (is_call_mark none t false) o) in
          omega (arith, casts_shut r ts (b ∙ o), casts_shut s (t ∷ ts) o)

-- before the first command
pub casts_zero : (ts : List Token) → casts_with (record { count = 0; begun = false }) ts ≡ 0
casts_zero ts = casts_shut _ ts refl

pub casts_none : (s : Casts) → casts_with s [] ≡ s.count
unfolding casts_with calls_in
casts_none s = let z = if-same {A = ℕ} s.begun 0 in omega arith

pub casts_line : (s : Casts) {r : Casts} → r.count ≡ s.count → r.begun ≡ true → CountsLine casts_total s r
casts_line s {r} c b = counts_line casts_with (calls_in none) (λ ts. omega (arith, casts_open r ts b, casts_none s))

-- ---- calls of a name

abbrev calls_total : Text → Calls → List Tape.Command → ℕ
calls_total name = with_commands (calls_with name) (calls_in (some name))

module _ (name : Text) (s : Calls) (ts : List Token) where
  calls_open : s.begun ≡ true → calls_with name s ts ≡ s.count + (one_if (s.named and opens ts) + calls_in (some name) ts)
  unfolding calls_with
  calls_open e = ap (λ (n : ℕ). s.count + n) (if-true _ _ e)

  calls_shut : s.begun ≡ false → calls_with name s ts ≡ s.count
  unfolding calls_with
  calls_shut e = let z = if-false (one_if (s.named and opens ts) + calls_in (some name) ts) 0 e in omega arith

and_assoc : (a b c : Bool) → ((a and b) and c) ≡ (a and (b and c))
unfolding ◌and◌
and_assoc true b c = refl
and_assoc false b c = refl

pub call_in : (name : Text) (t : Token) (ts : List Token) → calls_in (some name) (t ∷ ts) ≡ one_if (is_name name t and opens ts) + calls_in (some name) ts
unfolding calls_in is_call_mark
call_in name t ts = ap (λ (b : Bool). one_if b + calls_in (some name) ts) (sym (and_assoc (is Symbol t) (t.text ≟ name) (opens ts)))

pub opens-first : (t : Token) (ts : List Token) → opens (t ∷ ts) ≡ opens (t ∷ [])
unfolding opens
opens-first t ts = refl

module _ (name : Text) (t : Token) (s : Calls) where
  pub calls-before : s.begun ≡ false → Counts (calls_total name) (Tape.new_token t) s s
  calls-before e = counts_token (calls_with name) (calls_in (some name)) t (λ ts. calls_shut name s ts e ∙ sym (calls_shut name s (t ∷ ts) e))

  pub calls_more : {r : Calls} → s.begun ≡ true → r.count ≡ s.count + one_if (s.named and opens (t ∷ [])) → r.begun ≡ true
      → r.named ≡ is_name name t → Counts (calls_total name) (Tape.new_token t) s r
  calls_more {r} e c b n = counts_token (calls_with name) (calls_in (some name)) t adds
    where
      adds : (ts : List Token) → calls_with name r ts ≡ calls_with name s (t ∷ ts)
      adds ts =
          let same : one_if (r.named and opens ts) ≡ one_if (is_name name t and opens ts) = ap (λ (x : Bool). one_if (x and opens ts)) n in
          let first : one_if (s.named and opens (t ∷ ts)) ≡ one_if (s.named and opens (t ∷ [])) = ap (λ (x : Bool). one_if (s.named and x)) (opens-first t ts) in
          omega (arith, calls_open name r ts b, calls_open name s (t ∷ ts) e, call_in name t ts)

pub calls-zero : (name : Text) (s : Calls) → s.begun ≡ false → s.count ≡ 0 → (ts : List Token) → calls_with name s ts ≡ 0
calls-zero name s e c ts = calls_shut name s ts e ∙ c

pub calls_none : (name : Text) (s : Calls) → calls_with name s [] ≡ s.count
unfolding calls_with calls_in opens
calls_none name s =
    let none : one_if (s.named and false) ≡ 0 = zero_if (and_last s.named) in
    by-if (λ (m : ℕ). s.count + m ≡ s.count) (λ e. omega arith) (λ e. omega arith)

pub calls_line : (name : Text) (s : Calls) {r : Calls} → r.count ≡ s.count → r.begun ≡ true → r.named ≡ false
    → CountsLine (calls_total name) s r
calls_line name s {r} c b n = counts_line (calls_with name) (calls_in (some name)) adds
  where
    adds : (ts : List Token) → calls_with name r ts ≡ calls_with name s [] + calls_in (some name) ts
    adds ts =
        let no : one_if (r.named and opens ts) ≡ 0 = zero_if (and_false (opens ts) n) in
        omega (arith, calls_open name r ts b, calls_none name s)

-- ---- labels

abbrev labels_total : Labels → List Tape.Command → ℕ
labels_total = with_commands labels_with label_in

pub labels_token : (t : Token) (s : Labels) {r : Labels} → Shaped s.shape t r.shape → r.count ≡ s.count → Counts labels_total (Tape.new_token t) s r
unfolding labels_with
labels_token t s {r} h c =
    counts_token labels_with label_in t
    (λ ts. (let same : one_if (is_label_with r.shape ts) ≡ one_if (is_label_with s.shape (t ∷ ts)) = ap one_if (h.goes_on ts) in omega arith))

pub labels_line : (s : Labels) {r : Labels} → r.count ≡ labels_with s [] → r.shape ≡ Empty → CountsLine labels_total s r
unfolding labels_with
labels_line s {r} c e =
    counts_line labels_with label_in
    (λ ts. (let same : one_if (is_label_with r.shape ts) ≡ label_in ts = ap (λ (x : Shape). one_if (is_label_with x ts)) e in omega arith))

pub labels_zero : (ts : List Token) → labels_with (record { count = 0; shape = Other }) ts ≡ 0
unfolding labels_with when◌then◌else◌
labels_zero ts = omega arith

-- where the last line is no label, or one
pub not_label : (x : Shape) → (x ≡ Label → ⊥) → is_label_with x [] ≡ false
unfolding label_tokens
not_label Empty n = refl
not_label Name n = refl
not_label Label n = absurd (n refl)
not_label Other n = refl

pub last-other : (s : Labels) {n : ℕ} → n ≡ 0 → is_label_with s.shape [] ≡ false → s.count + n ≡ labels_total s []
unfolding labels_with
last-other s z e = omega (arith, zero_if e)

pub last-label : (s : Labels) {n : ℕ} → n ≡ 1 → is_label_with s.shape [] ≡ true → s.count + n ≡ labels_total s []
unfolding labels_with
last-label s z e = omega (arith, if-true {A = ℕ} 1 0 e)

-- no command comes any more
pub labels_end : (s : Labels) {n : ℕ} → n ≡ labels_total s [] → n ≡ labels_with s []
labels_end s e = omega arith

pub last_most : (s : Labels) → labels_with s [] ≤ s.count + 1
unfolding labels_with
last_most s = omega (arith, at_most (is_label_with s.shape []))

-- the first token is a Symbol, or not
and_is : (a : Bool) {b : Bool} → b ≡ true → a ≡ (a and b)
unfolding ◌and◌
and_is true e = sym e
and_is false e = refl

and_not : (a : Bool) {b : Bool} → b ≡ false → false ≡ (a and b)
unfolding ◌and◌
and_not true e = sym e
and_not false e = refl

name-goes : (kind : ℕ) → kind ≡ Symbol → (s : Text) (ts : List Token) → is_label_with Name ts ≡ label_tokens (token kind s ∷ ts)
unfolding label_tokens is
name-goes kind e s [] = refl
name-goes kind e s (u ∷ []) = and_is (u.text ≟ bytes ":") (eq-eqb kind Symbol e)
name-goes kind e s (u ∷ v ∷ more) = refl

other_goes : (kind : ℕ) → (kind ≡ Symbol → ⊥) → (s : Text) (ts : List Token) → false ≡ label_tokens (token kind s ∷ ts)
unfolding label_tokens is
other_goes kind n s [] = refl
other_goes kind n s (u ∷ []) = and_not (u.text ≟ bytes ":") (ne_eqb kind Symbol n)
other_goes kind n s (u ∷ v ∷ more) = refl

pub first-name : (kind : ℕ) (s : Text) → kind ≡ Symbol → Shaped Empty (token kind s) Name
first-name kind s e = record { goes_on = name-goes kind e s }

pub first-other : (kind : ℕ) (s : Text) → (kind ≡ Symbol → ⊥) → Shaped Empty (token kind s) Other
first-other kind s n = record { goes_on = other_goes kind n s }

-- a label's shape is that of the whole line
pub label-sum : (lines : Listing) → sum (λ l. label_in l.tokens) lines ≡ length (label_lines lines)
unfolding label_lines when◌then◌else◌
label-sum [] = refl
label-sum (l ∷ ls) = go (label_tokens l.tokens) (label-sum ls)
  where
    go : (b : Bool) → sum (λ l. label_in l.tokens) ls ≡ length (label_lines ls)
        → one_if b + sum (λ l. label_in l.tokens) ls ≡ length (when b then l ∷ label_lines ls else label_lines ls)
    go true e = omega arith
    go false e = omega arith
