-- The answers of `behind_byte`, `behind` and `operator`. Assumes nothing.
use Rattle.std.proofs.Common.{◌≡◌, ℕ, suc, ◌+◌, ◌<◌, ◌≤◌, Bool, true, false, eqb, List, [], ◌∷◌, ◌++◌, length, get_or, drop, sym, refl, ap, ◌∙◌, add-one, arith, drop-cons, eq-eqb, ne_eqb}
use Rattle.std.specs.Prelude as std
use mathlib.Core.Option.{Option, none, some}
use Rattle.reference.specs.Control.{when◌then◌else◌, let_some◌else◌then◌}
use Rattle.reference.specs.Text.{Text, bytes}
use Rattle.reference.specs.Listing.{Token, Punct}
use Rattle.reference.specs.Evaluators.{Lexeme, sign, reg, num, junk, lexemes_of, behind, operator}
use Rattle.laws.proofs.Scans.{if-true, if-false}
use Rattle.lines.specs.Words.{kind_of, len_of, text_of, token_of, tokens_of, Points}
use Rattle.lines.proofs.words.Tokens.{len_below, text_length}
use Rattle.formula.specs.Places.{left, Placed, InLine, Readable, ahead_of, operator_of, Leads, Operates}
use Rattle.formula.specs.declared.places.Place.{Place}
use Rattle.formula.specs.declared.places.Operation.{Operation}
use Rattle.formula.specs.declared.places.Sign.{Sign}
use Rattle.formula.specs.declared.places.Sign.TheVariants.{Plus, Minus}
use Rattle.formula.proofs.Left.{drop_past, left_end, left_sign, left_over, size_punct, left_other, no_punct, One, a_register, a_number, a_junk, one_of, placed, inside, whole-token}

-- ---- one byte

behind-sign : (c d : ℕ) (xs : List Lexeme) → behind (c ∷ []) (sign d ∷ xs) ≡ (when eqb d c then some xs else none)
unfolding behind
behind-sign c d xs = refl

behind_one : (c : ℕ) (t : Token) (xs : List Lexeme) → One t → behind (c ∷ []) (lexemes_of t ++ xs) ≡ none
unfolding behind
behind_one c t xs (a_register x w e) = rw e
behind_one c t xs (a_number z w n e) = rw e
behind_one c t xs (a_junk w n e) = rw e

module _ (tape area : Text) (line : List ℕ) {o : Option (List Lexeme)} where
  pub leads_nowhere : o ≡ none → Leads tape area line o std.None
  leads_nowhere e = record { is = sym e; in_line = λ p q. cc }

  pub leads_to : (p : Place) → o ≡ some (left (tokens_of tape area line) p.token p.byte) → InLine line p.token p.byte → Leads tape area line o (std.Some p)
  leads_to p e h = record { is = sym e; in_line = same }
    where
      same : (u : Place) → std.Some p ≡ std.Some u → InLine line u.token u.byte
      same u q = let x : p ≡ u = cc in rw (← x) h

module _ (tape area : Text) (line : List ℕ) (h : Readable tape area line) (k b : ℕ) (p : Placed line k b) where
  pub byte_past : (c : ℕ) → length line ≤ k → Leads tape area line (behind (c ∷ []) (left (tokens_of tape area line) k b)) std.None
  unfolding behind
  byte_past c l = leads_nowhere tape area line (ap (behind (c ∷ [])) (left_end tape area line k b l))

  module _ (l : k < length line) {x : ℕ} (ex : x ≡ kind_of (get_or line k 0)) where
    pub byte_other : (c : ℕ) → (x ≡ Punct → ⊥) → Leads tape area line (behind (c ∷ []) (left (tokens_of tape area line) k b)) std.None
    byte_other c n =
        let m : kind_of (get_or line k 0) ≡ Punct → ⊥ = λ e. n (ex ∙ e) in
        leads_nowhere tape area line
        (ap (behind (c ∷ [])) (left_other tape area line k l m b (p l)) ∙ behind_one c (token_of tape area (get_or line k 0)) _ (one_of _ (no_punct tape area line k l m)))

    module _ (ep : x ≡ Punct) {s : Text} (es : s ≡ text_of tape area (get_or line k 0)) where
      points : Points tape area (get_or line k 0)
      points = h.holds.at k l

      kind : kind_of (get_or line k 0) ≡ Punct
      kind = sym ex ∙ ep

      within : b < len_of (get_or line k 0)
      within = omega (arith, p l, size_punct tape area line k l points kind)

      pub byte_inside : b < length s
      byte_inside = rw es (omega (arith, within, text_length points))

      pub byte_short : b < 65536
      byte_short = omega (arith, within, len_below (get_or line k 0))

      found : (c : ℕ) → behind (c ∷ []) (left (tokens_of tape area line) k b) ≡ (when eqb (get_or s b 0) c then some (left (tokens_of tape area line) k (b + 1)) else none)
      found c = ap (behind (c ∷ [])) (left_sign tape area line k l points kind b within) ∙ behind-sign c _ _ ∙ rw es refl

      pub byte_differs : (c : ℕ) → (get_or s b 0 ≡ c → ⊥) → Leads tape area line (behind (c ∷ []) (left (tokens_of tape area line) k b)) std.None
      byte_differs c n = leads_nowhere tape area line (found c ∙ if-false _ _ (ne_eqb _ _ n))

      pub byte_more : (c : ℕ) → get_or s b 0 ≡ c → b + 1 < length s → Leads tape area line (behind (c ∷ []) (left (tokens_of tape area line) k b)) (std.Some (record { token = k; byte = b + 1 }))
      byte_more c e m =
          leads_to tape area line (record { token = k; byte = b + 1 }) (found c ∙ if-true _ _ (eq-eqb _ _ e))
          (inside line k (b + 1) l (λ q. omega (arith, size_punct tape area line k l points kind, text_length points, rw es at m)))

      pub byte_last : (c : ℕ) → get_or s b 0 ≡ c → length s ≤ b + 1 → Leads tape area line (behind (c ∷ []) (left (tokens_of tape area line) k b)) (std.Some (record { token = k + 1; byte = 0 }))
      byte_last c e m =
          leads_to tape area line (record { token = k + 1; byte = 0 })
          (found c ∙ if-true _ _ (eq-eqb _ _ e)
          ∙ ap (λ (r : List Lexeme). some r) (left_over tape area line k l points kind (b + 1) (omega (arith, text_length points, rw es at m))))
          (whole-token tape area line h (k + 1) (omega arith))

-- ---- a text

pub behind_two : (c : ℕ) (cs : Text) (xs : List Lexeme) → behind (c ∷ cs) xs ≡ (let_some (behind (c ∷ []) xs) else none then λ r. behind cs r)
unfolding behind let_some◌else◌then◌
behind_two c cs [] = refl
behind_two c cs (reg x ∷ xs) = refl
behind_two c cs (num z ∷ xs) = refl
behind_two c cs (junk ∷ xs) = refl
behind_two c cs (sign b ∷ xs) = go (eqb b c)
  where
    go : (t : Bool) → (when t then behind cs xs else none) ≡ (let_some (when t then some xs else none) else none then λ r. behind cs r)
    go true = unfold when◌then◌else◌ in refl
    go false = unfold when◌then◌else◌ in refl

module _ (tape area : Text) (line t : List ℕ) (p : Place) (i : ℕ) {o : Option (List Lexeme)} (inv : o ≡ behind (drop i t) (left (tokens_of tape area line) p.token p.byte)) where
  pub text_over : length t ≤ i → InLine line p.token p.byte → Leads tape area line o (std.Some p)
  unfolding behind
  text_over l h = leads_to tape area line p (inv ∙ ap (λ (r : Text). behind r (left (tokens_of tape area line) p.token p.byte)) (drop_past i t l)) h

  module _ (l : i < length t) {r : std.Option Place} (q : Leads tape area line (behind (get_or t i 0 ∷ []) (left (tokens_of tape area line) p.token p.byte)) r) where
    here : o ≡ (let_some (ahead_of (tokens_of tape area line) r) else none then λ xs. behind (drop (i + 1) t) xs)
    here =
        inv
        ∙ ap (λ (s : Text). behind s (left (tokens_of tape area line) p.token p.byte)) (drop-cons t i 0 l)
        ∙ behind_two (get_or t i 0) (drop (suc i) t) (left (tokens_of tape area line) p.token p.byte)
        ∙ rw (← q.is, add-one i) refl

    pub text_fails : r ≡ std.None → Leads tape area line o std.None
    unfolding let_some◌else◌then◌
    text_fails e = leads_nowhere tape area line (here ∙ rw e refl)

    pub text_goes : (u : Place) → r ≡ std.Some u → o ≡ behind (drop (i + 1) t) (left (tokens_of tape area line) u.token u.byte)
    unfolding let_some◌else◌then◌
    text_goes u e = here ∙ rw e refl

pub leads-in-line : {tape area : Text} {line : List ℕ} {o : Option (List Lexeme)} {r : std.Option Place} (p : Place) → Leads tape area line o r → r ≡ std.Some p → InLine line p.token p.byte
leads-in-line p q e = q.in_line p e

pub leads_placed : {tape area : Text} {line : List ℕ} {o : Option (List Lexeme)} {r : std.Option Place} (p : Place) → Leads tape area line o r → r ≡ std.Some p → Placed line p.token p.byte
leads_placed p q e = placed _ _ _ (q.in_line p e)

-- what an answer leads to
pub leads_some : {tape area : Text} {line : List ℕ} {o : Option (List Lexeme)} {r : std.Option Place} (p : Place) → Leads tape area line o r → r ≡ std.Some p
    → o ≡ some (left (tokens_of tape area line) p.token p.byte)
leads_some {tape} {area} {line} p q e = sym q.is ∙ ap (ahead_of (tokens_of tape area line)) e

pub leads_none : {tape area : Text} {line : List ℕ} {o : Option (List Lexeme)} {r : std.Option Place} → Leads tape area line o r → r ≡ std.None → o ≡ none
leads_none {tape} {area} {line} q e = sym q.is ∙ ap (ahead_of (tokens_of tape area line)) e

-- ---- operators

module _ (tape area : Text) (line : List ℕ) (xs : List Lexeme) {r : std.Option Place} (q : Leads tape area line (behind (bytes " + ") xs) r) where
  operates : (s : Sign) (p : Place) → operator xs ≡ some (operator_of s, left (tokens_of tape area line) p.token p.byte) → InLine line p.token p.byte
      → Operates tape area line (operator xs) (std.Some (record { sign = s; place = p }))
  operates s p e h = record { is = sym e; in_line = same }
    where
      same : (u : Operation) → std.Some (record { sign = s; place = p }) ≡ std.Some u → InLine line u.place.token u.place.byte
      same u f = let x : record { sign = s; place = p } ≡ u = cc in rw (← x) h

  pub operator-adds : (p : Place) → r ≡ std.Some p → Operates tape area line (operator xs) (std.Some (record { sign = Plus; place = p }))
  unfolding operator let_some◌else◌then◌
  operator-adds p e = operates Plus p (rw (leads_some p q e) refl) (q.in_line p e)

  module _ (e : r ≡ std.None) {s : std.Option Place} (z : Leads tape area line (behind (bytes " - ") xs) s) where
    pub operator-takes : (p : Place) → s ≡ std.Some p → Operates tape area line (operator xs) (std.Some (record { sign = Minus; place = p }))
    unfolding operator let_some◌else◌then◌
    operator-takes p f = operates Minus p (rw (leads_none q e, leads_some p z f) refl) (z.in_line p f)

    pub operator_none : s ≡ std.None → Operates tape area line (operator xs) std.None
    unfolding operator let_some◌else◌then◌
    operator_none f = record { is = sym (rw (leads_none q e, leads_none z f) refl); in_line = λ p g. cc }
