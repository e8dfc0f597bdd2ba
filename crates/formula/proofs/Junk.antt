-- A lexeme that no expression has breaks the profile wherever it stands, since no evaluator reads past it; and the scan for one. Assumes nothing.
use Rattle.std.proofs.Common.{◌≡◌, ℕ, zero, suc, ◌<◌, Bool, true, false, not as flip, List, [], ◌∷◌, map, length, get_or, sym, refl, ap, ◌∙◌, arith, eq-eqb, ne_eqb}
use mathlib.Core.Bool.{false≢true}
use mathlib.Core.Option.{Option, none, some}
use Rattle.reference.specs.Control.{◌or◌}
use Rattle.reference.specs.Lists.{any, is_some, is_empty}
use Rattle.reference.specs.Text.{Text, bytes}
use Rattle.reference.specs.Listing.{is, Punct}
use Rattle.reference.specs.Evaluators.{Arithmetic, wide, number_of, Lexeme, sign, reg, num, junk, lexemes_of, lexemes, behind, Operator, operator, combine, expression, term, further, evaluate}
use Rattle.reference.proofs.Cases.{by-some, neither, some_inj, none-some, if_some, bind-some}
use Rattle.laws.proofs.Scans.{any_append}
use Rattle.lines.specs.Words.{kind_of, text_of, token_of, tokens_of}
use Rattle.formula.specs.Terms.{is_junk, has_junk}
use Rattle.formula.specs.Values.{pairs, Evaluates}
use Rattle.formula.specs.declared.evaluators.Pair.{Pair as Held}
use Rattle.std.specs.Prelude as std
use Rattle.formula.proofs.Left.{punct-lexemes, One, a_register, a_number, a_junk, one_of}

-- ---- what is read has none

behind-junk : (t : Text) (xs rest : List Lexeme) → behind t xs ≡ some rest → any is_junk xs ≡ any is_junk rest
unfolding behind is_junk ◌or◌
behind-junk [] xs rest e = ap (any is_junk) (some_inj e)
behind-junk (c ∷ cs) [] rest e = absurd (none-some e)
behind-junk (c ∷ cs) (sign b ∷ xs) rest e = behind-junk cs xs rest (if_some e).1
behind-junk (c ∷ cs) (reg x ∷ xs) rest e = absurd (none-some e)
behind-junk (c ∷ cs) (num z ∷ xs) rest e = absurd (none-some e)
behind-junk (c ∷ cs) (junk ∷ xs) rest e = absurd (none-some e)

operator-junk : (xs : List Lexeme) (o : Operator × List Lexeme) → operator xs ≡ some o → any is_junk xs ≡ any is_junk o.1
unfolding operator
operator-junk xs o =
    by-some (λ (r : Option (Operator × List Lexeme)). r ≡ some o → any is_junk xs ≡ any is_junk o.1)
    (λ n. by-some (λ (r : Option (Operator × List Lexeme)). r ≡ some o → any is_junk xs ≡ any is_junk o.1)
    (λ m e. absurd (none-some e))
    (λ rest b e. behind-junk (bytes " - ") xs rest b ∙ ap (λ (q : Operator × List Lexeme). any is_junk q.1) (some_inj e)))
    (λ rest b e. behind-junk (bytes " + ") xs rest b ∙ ap (λ (q : Operator × List Lexeme). any is_junk q.1) (some_inj e))

module _ {X : Type 0} (a : Arithmetic X) (σ : Text → X) where
  same_rest : (r s : X × List Lexeme) → ◌≡◌ {A = Option (X × List Lexeme)} (some r) (some s) → any is_junk r.1 ≡ any is_junk s.1
  same_rest r s e = ap (λ (q : X × List Lexeme). any is_junk q.1) (some_inj e)

  mutual
    unfolding expression is_junk ◌or◌

    expression-junk : (fuel : ℕ) (xs : List Lexeme) (r : X × List Lexeme) → expression a σ fuel xs ≡ some r → any is_junk xs ≡ any is_junk r.1
    expression-junk zero xs r e = absurd (none-some e)
    expression-junk (suc fuel) xs r e = let t = bind-some e in term-junk fuel xs t.0 t.1 ∙ further-junk fuel t.0.0 t.0.1 r t.2

    term-junk : (fuel : ℕ) (xs : List Lexeme) (r : X × List Lexeme) → term a σ fuel xs ≡ some r → any is_junk xs ≡ any is_junk r.1
    term-junk zero xs r e = absurd (none-some e)
    term-junk (suc fuel) [] r e = absurd (none-some e)
    term-junk (suc fuel) (reg x ∷ xs) r e = same_rest (σ x, xs) r e
    term-junk (suc fuel) (num z ∷ xs) r e = same_rest (a.number z, xs) r e
    term-junk (suc fuel) (junk ∷ xs) r e = absurd (none-some e)
    term-junk (suc fuel) (sign c ∷ xs) r e =
        let t = bind-some (if_some e).1 in
        let q = bind-some t.2 in
        expression-junk fuel xs t.0 t.1 ∙ behind-junk (bytes ")") t.0.1 q.0 q.1 ∙ same_rest (t.0.0, q.0) r q.2

    further-junk : (fuel : ℕ) (v : X) (xs : List Lexeme) (r : X × List Lexeme) → further a σ fuel v xs ≡ some r → any is_junk xs ≡ any is_junk r.1
    further-junk zero v xs r = λ e. absurd (none-some e)
    further-junk (suc fuel) v xs r =
        by-some (λ (o : Option (X × List Lexeme)). o ≡ some r → any is_junk xs ≡ any is_junk r.1)
        (λ n e. same_rest (v, xs) r e)
        (λ o h e. (let t = bind-some e in operator-junk xs o h ∙ term-junk fuel o.1 t.0 t.1 ∙ further-junk fuel (combine a o.0 v t.0.0) t.0.1 r t.2))

  pub evaluated : (before : Text) (xs : List Lexeme) (v : X) → evaluate a σ before xs ≡ some v → any is_junk xs ≡ false
  unfolding evaluate
  evaluated before xs v e =
      let ys = bind-some e in
      let r = bind-some ys.2 in
      let rest = bind-some r.2 in
      behind-junk before xs ys.0 ys.1 ∙ expression-junk _ ys.0 r.0 r.1 ∙ behind-junk (bytes ";") r.0.1 rest.0 rest.1
      ∙ over rest.0 (if_some rest.2).0
    where
      over : (zs : List Lexeme) → is_empty zs ≡ true → any is_junk zs ≡ false
      over [] h = refl
      over (z ∷ zs) h = absurd (false≢true h)

  evaluate-junk : (before : Text) (xs : List Lexeme) → any is_junk xs ≡ true → evaluate a σ before xs ≡ none
  evaluate-junk before xs h = go (evaluate a σ before xs) refl
    where
      go : (o : Option X) → evaluate a σ before xs ≡ o → o ≡ none
      go none e = refl
      go (some v) e = absurd (false≢true (sym (evaluated before xs v e) ∙ h))

pub whole-junk : (tape area : Text) (line : List ℕ) (values : List Held) (before : List ℕ) {x : Bool} → x ≡ has_junk tape area line → x ≡ true → Evaluates tape area line values before std.None
whole-junk tape area line values before e h number σ v = sym (evaluate-junk (pairs number) σ before (lexemes (tokens_of tape area line)) (sym e ∙ h))

pub no_junk : (tape area : Text) (line : List ℕ) {x : Bool} → x ≡ has_junk tape area line → x ≡ false → has_junk tape area line ≡ false
no_junk tape area line e h = sym e ∙ h

-- ---- a token

signs_clean : (s : Text) → any is_junk (map sign s) ≡ false
unfolding is_junk ◌or◌
signs_clean [] = refl
signs_clean (c ∷ cs) = signs_clean cs

module _ (tape area : Text) (w : ℕ) {x : ℕ} (ex : x ≡ kind_of w) where
  pub junk-punct : x ≡ Punct → false ≡ any is_junk (lexemes_of (token_of tape area w))
  junk-punct ep = sym (ap (any is_junk) (punct-lexemes (token_of tape area w) (unfold is in eq-eqb _ _ (sym ex ∙ ep))) ∙ signs_clean (text_of tape area w))

  pub junk-other : (x ≡ Punct → ⊥) → {y : Bool} → y ≡ (is_some (wide (token_of tape area w)) or is_some (number_of (token_of tape area w)))
      → flip y ≡ any is_junk (lexemes_of (token_of tape area w))
  unfolding is_junk ◌or◌
  junk-other n {y} ey = ap flip ey ∙ sym (go (one_of (token_of tape area w) (unfold is in ne_eqb _ _ (λ e. n (ex ∙ e)))))
    where
      go : One (token_of tape area w)
          → any is_junk (lexemes_of (token_of tape area w)) ≡ flip (is_some (wide (token_of tape area w)) or is_some (number_of (token_of tape area w)))
      go (a_register z p e) = rw (e, p) refl
      go (a_number z p q e) = rw (e, p, q) refl
      go (a_junk p q e) = rw (e, p, q) refl

-- ---- the scan of a line

module _ (tape area : Text) where
  first-junk : (w : ℕ) (ws : List ℕ) → has_junk tape area (w ∷ ws) ≡ (any is_junk (lexemes_of (token_of tape area w)) or has_junk tape area ws)
  unfolding lexemes
  first-junk w ws = any_append is_junk (lexemes_of (token_of tape area w)) (lexemes (tokens_of tape area ws))

  -- in a line that has none no token is one
  pub no_junk_at : (line : List ℕ) → has_junk tape area line ≡ false → (k : ℕ) → k < length line
      → any is_junk (lexemes_of (token_of tape area (get_or line k 0))) ≡ false
  no_junk_at [] h k l = absurd (omega arith)
  no_junk_at (w ∷ ws) h zero l = (neither (sym (first-junk w ws) ∙ h)).0
  no_junk_at (w ∷ ws) h (suc k) l = no_junk_at ws (neither (sym (first-junk w ws) ∙ h)).1 k (omega arith)

  -- the scan of its words
  pub scan_is : (line : List ℕ) → any (λ (w : ℕ). any is_junk (lexemes_of (token_of tape area w))) line ≡ has_junk tape area line
  unfolding lexemes
  scan_is [] = refl
  scan_is (w ∷ ws) = ap (λ (b : Bool). any is_junk (lexemes_of (token_of tape area w)) or b) (scan_is ws) ∙ sym (first-junk w ws)
