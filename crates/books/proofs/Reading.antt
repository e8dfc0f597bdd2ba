-- `parse_c_number`, on any text: a byte which is no hexadecimal digit, no sign and no x leaves it unread. Assumes nothing.
use Prim.Native.Nat.{ℕ, suc, ◌+◌, ◌*◌, ◌<◌, ◌^◌, ◌-◌}
use native.Mathlib.Nat.{mod-eq_of_lt}
use mathlib.Core.Path.{◌≡◌, refl, sym, ◌∙◌}
use mathlib.Core.Bool.{Bool, true, false, cond, false≢true}
use mathlib.Core.List.{[], ◌∷◌, map}
use mathlib.Core.Option.{Option, none, some}
use lib.Dec.{ltb}
use lib.ListN.{length, drop}
use lib.IntN.{pos, negsuc}
use borrow.Author.Tests.{eqb-true, lt-ltb}
use Rattle.reference.specs.Control.{not, ◌and◌, ◌or◌, when◌then◌else◌, let_some◌else◌then◌}
use Rattle.reference.specs.Lists.{any, is_some}
use Rattle.reference.specs.Text.{Text, bytes, starts_with, contains, strip_prefix}
use Rattle.reference.specs.Numbers.{to_digit, digits_value, unsigned, read_u64, read_i64, as_i64, parse_c_number}
use Rattle.reference.proofs.Opened.{opened}
use Rattle.reference.proofs.Cases.{by-if, both, neither}
use Rattle.laws.proofs.Scans.{or_false}
use Rattle.books.specs.Tables.{words, ◌∈◌}
use Rattle.books.specs.Constants.{twos_complement}
use Rattle.books.proofs.Entries.{at_each}

-- `n as i64` is two's complement
pub as_i64_is : (n : ℕ) → n < 2 ^ 64 → as_i64 n ≡ twos_complement n
unfolding as_i64 when◌then◌else◌
as_i64_is n h = rw (mod-eq_of_lt h, lt-ltb n (2 ^ 64) h) (step (ltb n (2 ^ 63)))
  where
    step : (b : Bool) → (when b then pos n else negsuc (2 ^ 64 - suc n)) ≡ cond b (pos n) (negsuc (2 ^ 64 - suc n))
    step true = refl
    step false = refl

-- ---- what is not read

-- a byte that is no digit, no sign and no x
abbrev pub stranger : ℕ → Bool
stranger c = not (is_some (to_digit 10 c)) and not (is_some (to_digit 16 c)) and not (contains (bytes "+-x") c)

-- a stranger behind a prefix that holds none is there without it
behind : (p s : Text) → any stranger p ≡ false → starts_with s p ≡ true → any stranger s ≡ true → any stranger (drop (length p) s) ≡ true
behind [] s f e h = h
behind (b ∷ p) [] f e h = h
behind (b ∷ p) (x ∷ s) f e h =
    let same : stranger x ≡ false = rw (eqb-true x b (both e).0) (neither f).0 in
    behind p s (neither f).1 (both e).1 (rw (or_false (any stranger s) same) at h)

-- what holds of the text itself, and of what follows the prefix
by-prefix {ℓ} : {B : Type ℓ} (P : B → Type 0) (p s : Text) (d : B) (k : Text → B) → any stranger p ≡ false → any stranger s ≡ true
    → P d → ((r : Text) → any stranger r ≡ true → P (k r)) → P (let_some (strip_prefix p s) else d then k)
unfolding strip_prefix let_some◌else◌then◌
by-prefix P p s d k f h itself after =
    by-if (λ o. P (let_some o else d then k)) (λ e. after (drop (length p) s) (behind p s f e h)) (λ e. itself)

none_there : {o : Option ℕ} → not (is_some o) ≡ true → o ≡ none
unfolding not
none_there {o = none} e = refl
none_there {o = some v} e = absurd (false≢true e)

module _ (radix : ℕ) (strange : (c : ℕ) → stranger c ≡ true → to_digit radix c ≡ none) where
  digits-unread : (a : ℕ) (s : Text) → any stranger s ≡ true → digits_value radix a s ≡ none
  unfolding digits_value let_some◌else◌then◌ ◌or◌
  digits-unread a [] h = absurd (false≢true h)
  digits-unread a (x ∷ xs) h = step (stranger x) refl h (to_digit radix x) refl (λ b. digits-unread b xs)
    where
      step : (t : Bool) → stranger x ≡ t → (t or any stranger xs) ≡ true → (o : Option ℕ) → to_digit radix x ≡ o
          → ((b : ℕ) → any stranger xs ≡ true → digits_value radix b xs ≡ none)
          → (let_some o else none then λ v. digits_value radix (a * radix + v) xs) ≡ none
      step t q w none r more = refl
      step true q w (some v) r more = let z : some v ≡ none = sym r ∙ strange x q in cc
      step false q w (some v) r more = more (a * radix + v) w

  unsigned-unread : (s : Text) → any stranger s ≡ true → unsigned radix s ≡ none
  unfolding unsigned when◌then◌else◌
  unsigned-unread [] h = refl
  unsigned-unread (x ∷ xs) h = digits-unread 0 (x ∷ xs) h

strange_10 : (c : ℕ) → stranger c ≡ true → to_digit 10 c ≡ none
strange_10 c e = none_there (both e).0

strange_16 : (c : ℕ) → stranger c ≡ true → to_digit 16 c ≡ none
strange_16 c e = none_there (both (both e).1).0

-- a sign and `0x` hold no stranger
no_strangers : map (any stranger) (words "+ - 0x") ≡ map (λ p. false) (words "+ - 0x")
unfolding opened
no_strangers = refl

-- without a prefix of these
module _ (p : Text) (known : p ∈ words "+ - 0x") where
  known_is : any stranger p ≡ false
  known_is = at_each (any stranger) (λ q. false) (words "+ - 0x") no_strangers known

  without : (s : Text) → any stranger s ≡ true → any stranger (let_some (strip_prefix p s) else s then λ r. r) ≡ true
  without s h = by-prefix (λ r. any stranger r ≡ true) p s s (λ r. r) known_is h h (λ r q. q)

read-u64-unread : (s : Text) → any stranger s ≡ true → read_u64 16 s ≡ none
unfolding read_u64 let_some◌else◌then◌
read-u64-unread s h = rw (unsigned-unread 16 strange_16 _ (without (bytes "+") (0, refl) s h))

read_i64-unread : (s : Text) → any stranger s ≡ true → read_i64 s ≡ none
unfolding read_i64 let_some◌else◌then◌
read_i64-unread s h =
    by-prefix (λ o. o ≡ none) (bytes "-") s _ _ (known_is (bytes "-") (1, refl)) h
    (rw (unsigned-unread 10 strange_10 _ (without (bytes "+") (0, refl) s h)))
    (λ r q. rw (unsigned-unread 10 strange_10 r q))

-- a text with a stranger is not read
pub unread : (s : Text) → any stranger s ≡ true → parse_c_number s ≡ none
unfolding parse_c_number let_some◌else◌then◌
unread s h = rw (behind-minus (let_some (strip_prefix (bytes "-") s) else s then λ r. r) (without (bytes "-") (1, refl) s h))
  where
    behind-minus : (r : Text) → any stranger r ≡ true
        → (let_some (strip_prefix (bytes "0x") r) else read_i64 r then λ h. let_some (read_u64 16 h) else none then λ n. some (as_i64 n)) ≡ none
    behind-minus r q =
        by-prefix (λ o. o ≡ none) (bytes "0x") r _ _ (known_is (bytes "0x") (2, refl)) q (read_i64-unread r q) (λ h w. rw (read-u64-unread h w))
