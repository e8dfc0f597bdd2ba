-- Prefixes, signs and bases: each way that a function of whole numbers returns, from the facts of that place. Assumes nothing.
use Rattle.std.proofs.Common.{◌≡◌, ℕ, suc, Bool, true, false, ltb, leb, length, drop, ℤ, neg_ℤ, sym, refl, ap, ◌∙◌}
use mathlib.Core.Option.{Option, none, some}
use lib.Dec.{leb-suc-suc}
use Rattle.reference.specs.Control.{when◌then◌else◌, let_some◌else◌then◌}
use Rattle.reference.specs.Text.{Text, bytes, starts_with, strip_prefix}
use Rattle.reference.specs.Numbers.{read_u64, read_i64, as_i64, wrap, parse_c_number}
use Rattle.laws.proofs.Scans.{if-true, if-false}
use Rattle.numbers.specs.Reading.{at_most, hexadecimal, unnegated}

-- ---- a prefix, where a call answered whether it is there

module _ (p s : Text) {r : Bool} (e : r ≡ starts_with s p) where
  module _ {ℓ} {B : Type ℓ} (d : B) (k : Text → B) where
    pub stripped : r ≡ true → (let_some (strip_prefix p s) else d then k) ≡ k (drop (length p) s)
    unfolding strip_prefix let_some◌else◌then◌
    stripped t = rw (sym e ∙ t) (ap (λ (o : Option Text). let_some o else d then k) (if-true _ _ refl))

    pub unstripped : r ≡ false → (let_some (strip_prefix p s) else d then k) ≡ d
    unfolding strip_prefix let_some◌else◌then◌
    unstripped t = rw (sym e ∙ t) (ap (λ (o : Option Text). let_some o else d then k) (if-false _ _ refl))

-- ---- a definition that tests the bound itself

module _ {A : Type 0} (f : ℕ → A) (most : ℕ) where
  up_to : (o : Option ℕ) → (let_some o else none then λ n. when leb n most then some (f n) else none) ≡ (let_some (at_most most o) else none then λ n. some (f n))
  unfolding at_most let_some◌else◌then◌ when◌then◌else◌
  up_to none = refl
  up_to (some n) = by (leb n most)
    where
      by : (b : Bool) → (when b then some (f n) else none) ≡ (let_some (when b then some n else none) else none then λ n. some (f n))
      by true = refl
      by false = refl

  pub below : (o : Option ℕ) → (let_some o else none then λ n. when ltb n (suc most) then some (f n) else none) ≡ (let_some (at_most most o) else none then λ n. some (f n))
  below o = simp leb-suc-suc (up_to o)

same_some : {A : Type 0} (o : Option A) → (let_some o else none then λ a. some a) ≡ o
unfolding let_some◌else◌then◌
same_some none = refl
same_some (some a) = refl

-- ---- a number, and what is made of it

module _ {A B : Type 0} (f : A → B) {o : Option A} where
  pub then_some : {a : A} → some a ≡ o → some (f a) ≡ (let_some o else none then λ x. some (f x))
  unfolding let_some◌else◌then◌
  then_some e = rw (← e)

  pub then_none : none ≡ o → none ≡ (let_some o else none then λ x. some (f x))
  unfolding let_some◌else◌then◌
  then_none e = rw (← e)

module _ (s : Text) where
  pub hexadecimal_read : {n : ℕ} → some n ≡ read_u64 16 s → some (as_i64 n) ≡ hexadecimal s
  unfolding hexadecimal
  hexadecimal_read e = then_some as_i64 e

  pub hexadecimal-unread : none ≡ read_u64 16 s → none ≡ hexadecimal s
  unfolding hexadecimal
  hexadecimal-unread e = then_none as_i64 e

-- ---- with it

-- `parse_c_number`, where b tells whether there is a minus
parse_by : Text → Bool → Option ℤ
parse_by s b =
    let_some (unnegated (let_some (when b then some (drop 1 s) else none) else s then λ r. r)) else none then λ n.
    when b then some (wrap (neg_ℤ n)) else some n

-- r is what a call answered of the prefix
module _ (s : Text) {r : Bool} where
  module _ (e : r ≡ starts_with s (bytes "0x")) where
    pub after_0x : {d : Text} → r ≡ true → d ≡ drop 2 s → hexadecimal d ≡ unnegated s
    unfolding unnegated
    after_0x t u = ap hexadecimal u ∙ sym (stripped (bytes "0x") s e (read_i64 s) hexadecimal t)

    pub without_0x : r ≡ false → read_i64 s ≡ unnegated s
    unfolding unnegated
    without_0x t = sym (unstripped (bytes "0x") s e (read_i64 s) hexadecimal t)

  module _ (e : r ≡ starts_with s (bytes "-")) where
    parse_is : parse_c_number s ≡ parse_by s r
    unfolding parse_c_number parse_by unnegated hexadecimal strip_prefix
    parse_is = rw e refl

    pub parse_plain : r ≡ false → unnegated s ≡ parse_c_number s
    unfolding parse_by let_some◌else◌then◌ when◌then◌else◌
    parse_plain t = sym (parse_is ∙ ap (parse_by s) t ∙ same_some (unnegated s))

    parse_minus : r ≡ true → (let_some (unnegated (drop 1 s)) else none then λ n. some (wrap (neg_ℤ n))) ≡ parse_c_number s
    unfolding parse_by let_some◌else◌then◌ when◌then◌else◌
    parse_minus t = sym (parse_is ∙ ap (parse_by s) t)

    module _ {d : Text} (t : r ≡ true) (u : d ≡ drop 1 s) where
      pub parse_read : {v : ℤ} → some v ≡ unnegated d → some (wrap (neg_ℤ v)) ≡ parse_c_number s
      parse_read h = then_some (λ n. wrap (neg_ℤ n)) (h ∙ ap unnegated u) ∙ parse_minus t

      pub parse_unread : none ≡ unnegated d → none ≡ parse_c_number s
      parse_unread h = then_none (λ n. wrap (neg_ℤ n)) (h ∙ ap unnegated u) ∙ parse_minus t
