-- The table of pairs: what one entry says, how it is filled, and what an assignment does to it. Assumes nothing.
use Prim.Native.Nat.{ℕ, zero, suc, ◌+◌, ◌-◌, ◌%◌, ◌^◌, ◌≤◌, ◌<◌}
use native.Mathlib.Omega.{arith}
use native.Mathlib.Decide.{ℕ_discrete}
use mathlib.Core.Path.{◌≡◌, refl, sym, ap, ◌∙◌, subst⁻¹}
use mathlib.Core.Bool.{Bool, true, false}
use mathlib.Core.Logic.{by_cases}
use mathlib.Core.List.{List, [], ◌∷◌}
use mathlib.Core.Option.{Option, some}
use lib.IntN.{ℤ, pos, negsuc}
use lib.Signed.{mag}
use mir.Syntax.{w64}
use mir.Val.{of_z}
use lib.ListN.{length, take, drop, get_or, set, length-drop, length-set}
use lib.Seq.{get_or-set_same, get_or-set_other, get_or-take, get_or-drop, drop-drop, length-take-le}
use borrow.Author.Tests.{eq-eqb, ne_eqb}
use Rattle.reference.specs.Control.{when◌then◌else◌, let_some◌else◌then◌}
use Rattle.reference.specs.Text.{Text, bytes, ◌≟◌}
use Rattle.reference.specs.Listing.{Token, is, Number, Register}
use Rattle.reference.specs.Numbers.{parse_c_number}
use Rattle.reference.specs.Names.{fam_of}
use Rattle.reference.specs.Evaluators.{of_integer, wide, number_of, lexemes, evaluate}
use Rattle.reference.specs.Straight.{assign, assigned_value, returned_value}
use Rattle.reference.proofs.Cases.{some_inj, none-some, if_some, bind-some, both, same_number}
use Rattle.laws.proofs.Scans.{if-true, if-false, and_true, and_false}
use Rattle.laws.proofs.Parts.{to_end, drop-take}
use Rattle.std.specs.Prelude as std
use Rattle.std.specs.Option.{unwrap_or}
use Rattle.lines.specs.Words.{kind_of, text_of, token_of, tokens_of, Points, Holds}
use Rattle.lines.specs.Lines.{first_of, count_of, part_of}
use Rattle.formula.specs.Places.{Readable}
use Rattle.formula.specs.Values.{Pair, numbers_of, zero_pair, pair_at, no_token, Consistent, value_of, Evaluates}
use Rattle.formula.specs.declared.evaluators.Pair.{Pair as Numbers}
use Rattle.formula.proofs.Profiled.{readable_same, readable-rest}
use Rattle.start.specs.Pairs.{affine}
use Rattle.start.specs.Reckoning.{number_pair, Prices, Priced, IsPriced, same_register, Overwritten, Begun, Assigned, Returned}
use Rattle.start.proofs.Registers.{wide_text}
use Rattle.std.specs.Prelude.{Some, None}
use Rattle.reference.specs.Options.{option_of}

-- a token of a table of words
pub at_token : (tape area : Text) (tokens : List ℕ) (k : ℕ) → k < length tokens → get_or (tokens_of tape area tokens) k no_token ≡ token_of tape area (get_or tokens k 0)
at_token tape area [] k h = absurd (omega arith)
at_token tape area (w ∷ ws) zero h = refl
at_token tape area (w ∷ ws) (suc k) h = at_token tape area ws k (omega arith)

pub map-length : (tape area : Text) (ws : List ℕ) → length (tokens_of tape area ws) ≡ length ws
map-length tape area [] = refl
map-length tape area (w ∷ ws) = ap suc (map-length tape area ws)

pub length-take-most : (n : ℕ) (xs : List ℕ) → length (take n xs) ≤ n
length-take-most zero [] = omega arith
length-take-most zero (x ∷ xs) = omega arith
length-take-most (suc n) [] = omega arith
length-take-most (suc n) (x ∷ xs) = let r = length-take-most n xs in omega arith

-- ---- numbers

-- the 64 bits of a signed number are the number modulo 2^64
pub bits_are : (z : ℤ) → mag z < 2 ^ 63 → of_z w64 z ≡ of_integer z
unfolding of_integer
bits_are (pos n) h = omega arith
bits_are (negsuc n) h = let e : n % 2 ^ 64 ≡ n = omega arith in rw e

pub number_read : (n : std.Option ℤ) {o : Option ℤ} → option_of n ≡ o → (z : ℤ) → o ≡ some z → unwrap_or n (pos 0) ≡ z
number_read (Some v) m z e = some_inj (m ∙ e)
number_read None m z e = absurd (none-some (m ∙ e))

-- ---- pairs of the table

module _ (values : List Numbers) (k : ℕ) (u : Numbers) where
  pub pair_same : k < length values → pair_at (set values k u) k ≡ numbers_of u
  pair_same h = ap numbers_of (get_or-set_same values k u zero_pair h)

  pub pair-other : (j : ℕ) → (j ≡ k → ⊥) → pair_at (set values k u) j ≡ pair_at values j
  pair-other j h = ap numbers_of (get_or-set_other values k j u zero_pair (λ e. h e))

-- ---- one token

-- the kind that a token has
kind_number : (t : Token) (z : ℤ) → number_of t ≡ some z → t.kind ≡ Number
unfolding number_of is
kind_number t z e = same_number (both (if_some e).0).0

pub kind_register : (t : Token) (x : Text) → wide t ≡ some x → t.kind ≡ Register
unfolding wide fam_of is
kind_register t x e = same_number (if_some (bind-some e).1).0

number_reads : (t : Token) (z : ℤ) → number_of t ≡ some z → parse_c_number t.text ≡ some z
unfolding number_of
number_reads t z e = (if_some e).1

module _ (σ : Text → Pair) (tape area : Text) (w : ℕ) where
  pub prices_number : kind_of w ≡ Number → (v : ℕ) → ((z : ℤ) → parse_c_number (text_of tape area w) ≡ some z → v ≡ of_integer z)
      → Prices σ (token_of tape area w) (0, v)
  prices_number e v h =
      record {
        register = λ x q. absurd (let z : kind_of w ≡ Register = kind_register (token_of tape area w) x q in omega arith);
        number = λ z q. ap (λ (n : ℕ). (0, n)) (h z (number_reads (token_of tape area w) z q));
      }

  pub prices_other : (kind_of w ≡ Number → ⊥) → (p : Pair) → p ≡ σ (text_of tape area w) → Prices σ (token_of tape area w) p
  prices_other e p h =
      record {
        register = λ x q. h ∙ ap σ (sym (wide_text (token_of tape area w) x q));
        number = λ z q. absurd (e (kind_number (token_of tape area w) z q));
      }

-- ---- filling

pub record FilledTo (σ : Text → Pair) (ts : List Token) (k : ℕ) (values : List Numbers) : Type 0 where
  pub priced : (j : ℕ) → j < k → j < length ts → Prices σ (get_or ts j no_token) (pair_at values j)

pub filled-first : (σ : Text → Pair) (ts : List Token) (values : List Numbers) → FilledTo σ ts 0 values
filled-first σ ts values = record { priced = λ j l m. absurd (omega arith) }

pub filled_next : (σ : Text → Pair) (tape area : Text) (tokens : List ℕ) (k : ℕ) (values : List Numbers) → FilledTo σ (tokens_of tape area tokens) k values
    → k < length tokens → length tokens ≤ length values → (u : Numbers) → Prices σ (token_of tape area (get_or tokens k 0)) (numbers_of u)
    → (values' : List Numbers) → values' ≡ set values k u → FilledTo σ (tokens_of tape area tokens) (k + 1) values'
filled_next σ tape area tokens k values f l room u q values' e =
    record {
      priced = λ j lj m.
          by_cases (ℕ_discrete j k)
          (λ s.
          subst⁻¹ (λ (i : ℕ). Prices σ (get_or (tokens_of tape area tokens) i no_token) (pair_at values' i)) s
          (subst⁻¹ (λ (t : Token). Prices σ t (pair_at values' k)) (at_token tape area tokens k l)
          (subst⁻¹ (Prices σ (token_of tape area (get_or tokens k 0))) (ap (λ (v : List Numbers). pair_at v k) e ∙ pair_same values k u (omega arith)) q)))
          (λ s.
          subst⁻¹ (Prices σ (get_or (tokens_of tape area tokens) j no_token)) (ap (λ (v : List Numbers). pair_at v j) e ∙ pair-other values k u j s)
          (f.priced j (omega arith) m));
    }

pub filled-all : (σ : Text → Pair) (ts : List Token) (k : ℕ) (values : List Numbers) → FilledTo σ ts k values → length ts ≤ k → Priced σ ts values
filled-all σ ts k values f l =
    record {
      register = λ j x m e. (f.priced j (omega arith) m).register x e;
      number_is = λ j z m e. (f.priced j (omega arith) m).number z e;
    }

-- ---- an assignment

-- before the token k is asked: those before it are as they are to be, those from it on as they were
pub record Overwriting (target : Token) (u : Numbers) (tape area : Text) (tokens : List ℕ) (values₀ : List Numbers) (k : ℕ) (values : List Numbers) : Type 0 where
  pub done : (j : ℕ) → j < k → j < length tokens
      → pair_at values j ≡ (when same_register target (get_or (tokens_of tape area tokens) j no_token) then numbers_of u else pair_at values₀ j)
  pub left : (j : ℕ) → k ≤ j → pair_at values j ≡ pair_at values₀ j
  pub long : length values ≡ length values₀
  pub room : length tokens ≤ length values

pub over_first : (target : Token) (u : Numbers) (tape area : Text) (tokens : List ℕ) (values : List Numbers) → length tokens ≤ length values → Overwriting target u tape area tokens values 0 values
over_first target u tape area tokens values h = record { done = λ j l m. absurd (omega arith); left = λ j l. refl; long = refl; room = h }

module _ (target : Token) (u : Numbers) (tape area : Text) (tokens : List ℕ) (values₀ : List Numbers) (k : ℕ) (values : List Numbers)
    (o : Overwriting target u tape area tokens values₀ k values) (l : k < length tokens) {x : Bool}
    (ex : x ≡ same_register target (token_of tape area (get_or tokens k 0))) where
  told : same_register target (get_or (tokens_of tape area tokens) k no_token) ≡ x
  told = ap (same_register target) (at_token tape area tokens k l) ∙ sym ex

  abbrev AsIs : List Numbers → ℕ → Type 0
  AsIs values' i = pair_at values' i ≡ (when same_register target (get_or (tokens_of tape area tokens) i no_token) then numbers_of u else pair_at values₀ i)

  pub over_hit : x ≡ true → (values' : List Numbers) → values' ≡ set values k u → Overwriting target u tape area tokens values₀ (k + 1) values'
  over_hit h values' e =
      record {
        done = λ j lj m.
            by_cases (ℕ_discrete j k)
            (λ s.
            subst⁻¹ (AsIs values') s
            (ap (λ (v : List Numbers). pair_at v k) e ∙ pair_same values k u (omega (arith, o.room)) ∙ sym (if-true (numbers_of u) (pair_at values₀ k) (told ∙ h))))
            (λ s. ap (λ (v : List Numbers). pair_at v j) e ∙ pair-other values k u j s ∙ o.done j (omega arith) m);
        left = λ j lj. ap (λ (v : List Numbers). pair_at v j) e ∙ pair-other values k u j (λ s. omega arith) ∙ o.left j (omega arith);
        long = ap length e ∙ length-set values k u ∙ o.long;
        room = omega (arith, o.room, ap length e ∙ length-set values k u);
      }

  pub over_miss : x ≡ false → (values' : List Numbers) → values' ≡ values → Overwriting target u tape area tokens values₀ (k + 1) values'
  over_miss h values' e =
      subst⁻¹ (Overwriting target u tape area tokens values₀ (k + 1)) e
      (record {
        done = λ j lj m.
            by_cases (ℕ_discrete j k)
            (λ s. subst⁻¹ (AsIs values) s (o.left k (omega arith) ∙ sym (if-false (numbers_of u) (pair_at values₀ k) (told ∙ h))))
            (λ s. o.done j (omega arith) m);
        left = λ j lj. o.left j (omega arith);
        long = o.long;
        room = o.room;
      })

pub over-all : (target : Token) (u : Numbers) (tape area : Text) (tokens : List ℕ) (values₀ : List Numbers) (k : ℕ) (values : List Numbers) → Overwriting target u tape area tokens values₀ k values
    → length tokens ≤ k → Overwritten target (numbers_of u) (tokens_of tape area tokens) values₀ values
over-all target u tape area tokens values₀ k values o l = λ j m. (let n : length (tokens_of tape area tokens) ≡ length tokens = map-length tape area tokens in o.done j (omega arith) (omega arith))

-- an assignment to the register x: all its tokens, and no other, have the new pair
module _ (σ : Text → Pair) (target : Token) (x : Text) (v : Pair) (w : wide target ≡ some x) (ts : List Token) (values values' : List Numbers)
    (o : Overwritten target v ts values values') (h : Priced σ ts values) where
  same_is : (t : Token) (y : Text) → wide t ≡ some y → same_register target t ≡ (y ≟ x)
  unfolding same_register is
  same_is t y e =
      and_true _ (eq-eqb _ _ (kind_register t y e))
      ∙ ap (λ (s : Text). s ≟ target.text) (sym (wide_text t y e)) ∙ ap (λ (s : Text). y ≟ s) (sym (wide_text target x w))

  not_number : (t : Token) (z : ℤ) → number_of t ≡ some z → same_register target t ≡ false
  unfolding same_register is
  not_number t z e = and_false _ (ne_eqb t.kind Register (λ q. (let n : t.kind ≡ Number = kind_number t z e in omega (arith, q))))

  pub assigned_prices : Priced (assign x v σ) ts values'
  assigned_prices =
      record {
        register = λ k y l e.
            o k l ∙ ap (λ (b : Bool). when b then v else pair_at values k) (same_is _ y e) ∙ ap (λ (p : Pair). when y ≟ x then v else p) (h.register k y l e);
        number_is = λ k z l e. o k l ∙ if-false v (pair_at values k) (not_number _ z e) ∙ h.number_is k z l e;
      }

-- ---- what the code answers

module _ (tape area : Text) (w target : ℕ) where
  pub other_kind : {k : ℕ} → k ≡ kind_of w → (k ≡ Register → ⊥) → false ≡ same_register (token_of tape area target) (token_of tape area w)
  unfolding same_register is
  other_kind e h = sym (and_false _ (ne_eqb (kind_of w) Register (λ q. h (e ∙ q))))

  pub same_kind : {k : ℕ} → k ≡ kind_of w → k ≡ Register → {s t : Text} → s ≡ text_of tape area w → t ≡ text_of tape area target → {x : Bool} → x ≡ (s ≟ t)
      → x ≡ same_register (token_of tape area target) (token_of tape area w)
  unfolding same_register is
  same_kind e h {s} {t} es et ex = ex ∙ ap (λ (u : Text). u ≟ t) es ∙ ap (λ (u : Text). text_of tape area w ≟ u) et ∙ sym (and_true _ (eq-eqb (kind_of w) Register (sym e ∙ h)))

-- ---- a part of the table

tokens-behind : (tape area : Text) (ws : List ℕ) → tokens_of tape area (drop 1 ws) ≡ drop 1 (tokens_of tape area ws)
tokens-behind tape area [] = refl
tokens-behind tape area (w ∷ ws) = refl

-- the words behind the first one of a line, as the code takes them out
module _ (tokens : List ℕ) (l : ℕ) where
  pub behind_is : 1 ≤ count_of l → take (first_of l + count_of l - (first_of l + 1)) (drop (first_of l + 1) tokens) ≡ drop 1 (part_of tokens l)
  behind_is h =
      ap (λ (n : ℕ). take n (drop (first_of l + 1) tokens)) less ∙ ap (take (count_of l - 1)) (sym (drop-drop 1 (first_of l) tokens))
      ∙ sym (drop-take 1 (count_of l) (drop (first_of l) tokens))
    where
      less : first_of l + count_of l - (first_of l + 1) ≡ count_of l - 1
      less = omega arith

  pub readable-behind : (tape area : Text) → Begun tape area tokens l → Readable tape area (take (first_of l + count_of l - (first_of l + 1)) (drop (first_of l + 1) tokens))
  readable-behind tape area b =
      readable_same tape area (behind_is b.some_token ∙ sym (to_end 1 (part_of tokens l))) (readable-rest tape area (part_of tokens l) b.readable)

  pub tokens-behind-first : (tape area : Text) → 1 ≤ count_of l
      → tokens_of tape area (take (first_of l + count_of l - (first_of l + 1)) (drop (first_of l + 1) tokens)) ≡ drop 1 (tokens_of tape area (part_of tokens l))
  tokens-behind-first tape area h = ap (tokens_of tape area) (behind_is h) ∙ tokens-behind tape area (part_of tokens l)

module _ (σ : Text → Pair) (tape area : Text) (tokens : List ℕ) (values : List Numbers) (h : Priced σ (tokens_of tape area tokens) values) (f n : ℕ) (l : f + n ≤ length tokens) where
  abbrev part : List ℕ
  part = take n (drop f tokens)

  abbrev pairs-part : List Numbers
  pairs-part = take n (drop f values)

  same_token : (k : ℕ) → k < length (tokens_of tape area part) → (k < n) × (get_or (tokens_of tape area part) k no_token ≡ get_or (tokens_of tape area tokens) (f + k) no_token)
  same_token k q =
      let few : k < length part = omega (arith, map-length tape area part) in
      let small : k < n = omega (arith, length_part) in (
        small,
        at_token tape area part k few
            ∙ ap (token_of tape area) (get_or-take n (drop f tokens) k 0 small ∙ get_or-drop f tokens k 0)
            ∙ sym (at_token tape area tokens (f + k) (omega arith)),
      )
    where
      length_part : length part ≤ n
      length_part = length-take-most n (drop f tokens)

  same_pair : (k : ℕ) → k < n → pair_at pairs-part k ≡ pair_at values (f + k)
  same_pair k q = ap numbers_of (get_or-take n (drop f values) k zero_pair q ∙ get_or-drop f values k zero_pair)

  pub priced-part : Priced σ (tokens_of tape area part) pairs-part
  priced-part =
      record {
        register = λ k x q e.
            (let s = same_token k q in
            same_pair k s.0 ∙ h.register (f + k) x (omega (arith, map-length tape area tokens, s.0)) (ap wide (sym s.1) ∙ e));
        number_is = λ k z q e.
            (let s = same_token k q in
            same_pair k s.0 ∙ h.number_is (f + k) z (omega (arith, map-length tape area tokens, s.0)) (ap number_of (sym s.1) ∙ e));
      }

-- ---- what a line's tokens behind its first one are worth

module _ (tape area : Text) (tokens : List ℕ) (l f n : ℕ) (ef : f ≡ first_of l) (en : n ≡ count_of l) (b : Begun tape area tokens l) where
  pub line_readable : Readable tape area (take (f + n - (f + 1)) (drop (f + 1) tokens))
  line_readable = rw (ef, en) (readable-behind tokens l tape area b)

  inside : f + 1 + (f + n - (f + 1)) ≤ length tokens
  inside = omega (arith, b.inside, b.some_token, ef, en)

  pub line-consistent : (values : List Numbers) → IsPriced (tokens_of tape area tokens) values
      → Consistent (tokens_of tape area (take (f + n - (f + 1)) (drop (f + 1) tokens))) (take (f + n - (f + 1)) (drop (f + 1) values))
  line-consistent values p =
      record { number = number_pair; register = p.store; valued = priced-part p.store tape area tokens values p.priced (f + 1) (f + n - (f + 1)) inside }

  pub line_value : (values : List Numbers) (before : List ℕ) (r : std.Option Numbers)
      → Evaluates tape area (take (f + n - (f + 1)) (drop (f + 1) tokens)) (take (f + n - (f + 1)) (drop (f + 1) values)) before r
      → (σ : Text → Pair) → Priced σ (tokens_of tape area tokens) values
      → value_of r ≡ evaluate affine σ before (lexemes (drop 1 (tokens_of tape area (part_of tokens l))))
  line_value values before r e σ h =
      e number_pair σ (priced-part σ tape area tokens values h (f + 1) (f + n - (f + 1)) inside)
      ∙ ap (λ (ts : List Token). evaluate affine σ before (lexemes ts)) same
    where
      same : tokens_of tape area (take (f + n - (f + 1)) (drop (f + 1) tokens)) ≡ drop 1 (tokens_of tape area (part_of tokens l))
      same = rw (ef, en) (tokens-behind-first tokens l tape area b.some_token)

-- the answer, and what the definition says of the line
module _ {r : std.Option Numbers} {o : Option Pair} {v : Pair} (e : value_of r ≡ o) (q : o ≡ some v) where
  returned_is : {u : Numbers} → r ≡ Some u → v ≡ numbers_of u
  returned_is f = sym (some_inj (sym (ap value_of f) ∙ e ∙ q))

  returned_none : r ≡ None → ⊥
  returned_none f = none-some (sym (ap value_of f) ∙ e ∙ q)

-- ---- a line that assigns

module _ (tape area : Text) (tokens : List ℕ) (l f : ℕ) (ef : f ≡ first_of l) (b : Begun tape area tokens l) where
  first-inside : f < length tokens
  first-inside = omega (arith, b.inside, b.some_token, ef)

  pub target-points : Holds tape area tokens → Points tape area (get_or tokens f 0)
  target-points h = h.at f first-inside

  first_is : get_or (tokens_of tape area (part_of tokens l)) 0 no_token ≡ token_of tape area (get_or tokens f 0)
  first_is =
      at_token tape area (part_of tokens l) 0 (omega (arith, long, b.some_token))
      ∙ ap (token_of tape area) (get_or-take (count_of l) (drop (first_of l) tokens) 0 0 b.some_token ∙ get_or-drop (first_of l) tokens 0 0 ∙ ap (λ (i : ℕ). get_or tokens i 0) here)
    where
      long : length (part_of tokens l) ≡ count_of l
      long = length-take-le (count_of l) (drop (first_of l) tokens) (omega (arith, b.inside, length-drop (first_of l) tokens))

      here : first_of l + 0 ≡ f
      here = omega (arith, ef)

  module _ (values values' : List Numbers) {r : std.Option Numbers}
      (e : (σ : Text → Pair) → Priced σ (tokens_of tape area tokens) values
      → value_of r ≡ evaluate affine σ (bytes " = ") (lexemes (drop 1 (tokens_of tape area (part_of tokens l))))) where
    pub line_assigned : (u : Numbers) → r ≡ Some u → Overwritten (token_of tape area (get_or tokens f 0)) (numbers_of u) (tokens_of tape area tokens) values values'
        → Assigned (tokens_of tape area (part_of tokens l)) (tokens_of tape area tokens) values values'
    unfolding assigned_value
    line_assigned u q o = λ σ x v h w a.
        (let same : v ≡ numbers_of u = returned_is (e σ h) a q in
        subst⁻¹ (λ (p : Pair). Priced (assign x p σ) (tokens_of tape area tokens) values') same
        (assigned_prices σ (token_of tape area (get_or tokens f 0)) x (numbers_of u) (ap wide (sym first_is) ∙ w) (tokens_of tape area tokens) values values' o h))

    pub line_unassigned : r ≡ None → Assigned (tokens_of tape area (part_of tokens l)) (tokens_of tape area tokens) values values'
    unfolding assigned_value
    line_unassigned q = λ σ x v h w a. absurd (returned_none (e σ h) a q)

pub broken : (r : std.Option Numbers) → ((u : Numbers) → r ≡ Some u → ⊥) → r ≡ None
broken (Some u) h = absurd (h u refl)
broken None h = refl

-- ---- a line that returns

module _ (tape area : Text) (tokens : List ℕ) (l : ℕ) (values : List Numbers) {r : std.Option Numbers}
    (e : (σ : Text → Pair) → Priced σ (tokens_of tape area tokens) values
    → value_of r ≡ evaluate affine σ (bytes " ") (lexemes (drop 1 (tokens_of tape area (part_of tokens l))))) where
  line_returned : (u : Numbers) → r ≡ Some u → Returned (tokens_of tape area (part_of tokens l)) (tokens_of tape area tokens) values (numbers_of u)
  unfolding returned_value
  line_returned u q = λ σ v h a. returned_is (e σ h) a q

  line_unreturned : (p : Pair) → r ≡ None → Returned (tokens_of tape area (part_of tokens l)) (tokens_of tape area tokens) values p
  unfolding returned_value
  line_unreturned p q = λ σ v h a. absurd (returned_none (e σ h) a q)

-- the answer, or the pair p where there is none
pub line_worth : (tape area : Text) (tokens : List ℕ) (l : ℕ) (values : List Numbers) (r : std.Option Numbers)
    → ((σ : Text → Pair) → Priced σ (tokens_of tape area tokens) values → value_of r ≡ evaluate affine σ (bytes " ") (lexemes (drop 1 (tokens_of tape area (part_of tokens l)))))
    → (p : Numbers) → Returned (tokens_of tape area (part_of tokens l)) (tokens_of tape area tokens) values (numbers_of (unwrap_or r p))
line_worth tape area tokens l values (Some u) e p = line_returned tape area tokens l values e u refl
line_worth tape area tokens l values None e p = line_unreturned tape area tokens l values e (numbers_of p) refl
