-- Whether a call or a read moves with a joined expression. Assumes nothing.
use Prim.Native.Nat.{ℕ}
use native.Mathlib.Omega.{arith}
use mathlib.Core.Path.{◌≡◌, refl, sym, ap, ◌∙◌}
use mathlib.Core.Bool.{Bool, true, false, not as flip}
use mathlib.Core.List.{List, [], ◌∷◌}
use lib.ListN.{length, get_or, take}
use borrow.Author.Tests.{ne_eqb}
use Rattle.reference.specs.Control.{not, ◌and◌, ◌or◌}
use Rattle.reference.specs.Lists.{any, is_some}
use Rattle.reference.specs.Text.{Text, bytes, ends_with}
use Rattle.reference.specs.Listing.{Token, is, Address, Punct, Listing}
use Rattle.reference.specs.Names as N
use Rattle.reference.specs.Rules.{Rules, volatile}
use Rattle.reference.specs.Shapes.{call_in}
use Rattle.laws.proofs.Scans.{or_last}
use Rattle.cautions.specs.Forms.{is_guarded}
use Rattle.reference.specs.Control.{when◌then◌else◌}
use Rattle.reference.specs.Text.{contains}
use Rattle.reference.specs.Join.{is_bracketed, text_before, text_after}
use Rattle.cautions.specs.Texts.{frame, loose, outside}
use Rattle.cautions.specs.Uses.{moves_call, moves_read, is_address, groups}
use Rattle.cautions.specs.Values.{world, changeable, rest, acts_beside, is_spared, is_whole}
use Rattle.lines.specs.Words.{kind_of, text_of, token_of, tokens_of}
use Rattle.lines.specs.declared.texts.Texts.{Texts}
use Rattle.usefacts.specs.Rest.{tokens_in, Held, RestOf}
use Rattle.usefacts.specs.declared.rest.Rest.{Rest}

module _ {t : Texts} {ws : List ℕ} {u : ℕ} {r : Rest} (h : RestOf t ws u r) where
  pub rest_held : Held t r
  rest_held = h.held

  pub rest_changes : (vs : List Text) {x : Bool} → x ≡ changeable vs (tokens_in t r) → x ≡ changeable vs (rest (tokens_of t.tape.now t.area.now ws) u)
  rest_changes vs e = e ∙ ap (changeable vs) h.is

  pub rest_world : {x : Bool} → x ≡ world (tokens_in t r) → x ≡ world (rest (tokens_of t.tape.now t.area.now ws) u)
  rest_world e = e ∙ ap (λ (l : List Token). world l) h.is

pub ruleset rested = (rest_held, rest_changes, rest_world)

module _ (rules : Rules) (f : N.Fam) (expr ts : List Token) (u : ℕ) where
  module _ {c : Bool} (ec : c ≡ is_some (call_in expr)) where
    pub call_none : c ≡ false → false ≡ moves_call rules f expr ts u
    unfolding moves_call ◌and◌
    call_none h = rw (← ec, h) refl

    module _ (t : c ≡ true) {a : Bool} (ea : a ≡ acts_beside ts u) where
      pub call_beside : a ≡ true → true ≡ moves_call rules f expr ts u
      unfolding moves_call ◌and◌ ◌or◌
      call_beside h = rw (← ec, t, ← ea, h) refl

      module _ (n : a ≡ false) {g : Bool} (eg : g ≡ is_guarded ts) where
        pub call_guarded : g ≡ true → true ≡ moves_call rules f expr ts u
        unfolding moves_call ◌and◌ ◌or◌
        call_guarded h = rw (← ec, t, ← ea, n, ← eg, h) refl

        pub call_read : g ≡ false → {x : Bool} → x ≡ changeable (volatile rules) (rest ts u) → x ≡ moves_call rules f expr ts u
        unfolding moves_call ◌and◌ ◌or◌
        call_read h e = rw (← ec, t, ← ea, n, ← eg, h) e

pub ruleset calling = (call_none, call_beside, call_guarded, call_read)

module _ (rules : Rules) (f : N.Fam) (tape area : Text) (ws : List ℕ) (ts : List Token) (u : ℕ) where
  pub address_none : length ws ≡ 0 → false ≡ is_address rules f (tokens_of tape area ws) ts u
  unfolding is_address
  address_none h = by ws h
    where
      by : (ws : List ℕ) → length ws ≡ 0 → false ≡ any (λ t. is Address t or (is Punct t and ends_with t.text (bytes "&"))) (take 1 (tokens_of tape area ws))
      by [] h = refl
      by (w ∷ ws) h = absurd (omega arith)

  module _ (h : length ws ≡ 0 → ⊥) where
    address_first : is_address rules f (tokens_of tape area ws) ts u
        ≡ (is Address (token_of tape area (get_or ws 0 0)) or (is Punct (token_of tape area (get_or ws 0 0)) and ends_with (text_of tape area (get_or ws 0 0)) (bytes "&")))
    unfolding is_address
    address_first = by ws h
      where
        by : (ws : List ℕ) → (length ws ≡ 0 → ⊥) → any (λ t. is Address t or (is Punct t and ends_with t.text (bytes "&"))) (take 1 (tokens_of tape area ws))
            ≡ (is Address (token_of tape area (get_or ws 0 0)) or (is Punct (token_of tape area (get_or ws 0 0)) and ends_with (text_of tape area (get_or ws 0 0)) (bytes "&")))
        by [] h = absurd (h refl)
        by (w ∷ ws) h = or_last _

    module _ {k : ℕ} (ek : k ≡ kind_of (get_or ws 0 0)) where
      pub address_kind : k ≡ Address → true ≡ is_address rules f (tokens_of tape area ws) ts u
      unfolding is ◌or◌
      address_kind e = sym (address_first ∙ rw (← ek, e) refl)

      pub address_taken : k ≡ Punct → {s : Text} {x : Bool} → s ≡ text_of tape area (get_or ws 0 0) → x ≡ ends_with s (bytes "&") → x ≡ is_address rules f (tokens_of tape area ws) ts u
      unfolding is ◌or◌ ◌and◌
      address_taken e es ex = ex ∙ ap (λ m. ends_with m (bytes "&")) es ∙ sym (address_first ∙ rw (← ek, e) refl)

      pub address_other : (k ≡ Address → ⊥) → (k ≡ Punct → ⊥) → false ≡ is_address rules f (tokens_of tape area ws) ts u
      unfolding is ◌or◌ ◌and◌
      address_other a b = sym (address_first ∙ rw (← ek, ne_eqb k Address a, ne_eqb k Punct b) refl)

pub ruleset addresses = (address_none, address_kind, address_taken, address_other)

-- ---- reads

module _ (rules : Rules) (f : N.Fam) (expr ts : List Token) (u : ℕ) (lines : Listing) where
  abbrev read_beside : Bool
  read_beside = changeable (volatile rules) expr and acts_beside ts u

  module _ {b : Bool} (eb : b ≡ read_beside) where
    pub read_here : b ≡ true → true ≡ moves_read rules f expr ts u lines
    unfolding moves_read ◌or◌
    read_here h = rw (← eb, h) refl

    module _ (n : b ≡ false) {w : Bool} (ew : w ≡ world expr) where
      pub read_none : w ≡ false → false ≡ moves_read rules f expr ts u lines
      unfolding moves_read ◌or◌ ◌and◌
      read_none h = rw (← eb, n, ← ew, h) refl

      module _ (t : w ≡ true) {g : Bool} (eg : g ≡ is_guarded ts) where
        pub read_guarded : g ≡ true → true ≡ moves_read rules f expr ts u lines
        unfolding moves_read ◌or◌ ◌and◌
        read_guarded h = rw (← eb, n, ← ew, t, ← eg, h) refl

        module _ (m : g ≡ false) {r : Bool} (er : r ≡ world (rest ts u)) where
          pub read_rest : r ≡ true → true ≡ moves_read rules f expr ts u lines
          unfolding moves_read ◌or◌ ◌and◌
          read_rest h = rw (← eb, n, ← ew, t, ← eg, m, ← er, h) refl

          pub read_passed : r ≡ false → {p : Bool} → p ≡ any (λ l. world l.tokens) lines → p ≡ moves_read rules f expr ts u lines
          unfolding moves_read ◌or◌ ◌and◌
          read_passed h e = rw (← eb, n, ← ew, t, ← eg, m, ← er, h) e

pub ruleset reading = (read_here, read_none, read_guarded, read_rest, read_passed)

-- ---- groups

not_flip : (b : Bool) → flip b ≡ not b
unfolding not
not_flip true = refl
not_flip false = refl

module _ {b : Bool} (rules : Rules) (expr : List Token) (eb : b ≡ is_bracketed rules expr) where
  pub bound_by : b ≡ true → true ≡ (is_bracketed rules expr or not (loose expr))
  unfolding ◌or◌
  bound_by h = rw (← eb, h) refl

  pub bound_plain : b ≡ false → {x : Bool} → x ≡ loose expr → flip x ≡ (is_bracketed rules expr or not (loose expr))
  unfolding ◌or◌
  bound_plain h {x} ex = rw (← eb, h, ← ex) (not_flip x)

pub ruleset binding = (bound_by, bound_plain)

module _ (rules : Rules) (f : N.Fam) (expr ts : List Token) (u : ℕ) {s : Bool} (es : s ≡ is_spared (text_before ts u) (text_after ts u)) where
  module _ (h : s ≡ false) {a : Bool} (ea : a ≡ is_address rules f expr ts u) where
    pub bare_address : a ≡ true → false ≡ groups rules f expr ts u
    unfolding groups when◌then◌else◌ ◌and◌ not
    bare_address t = rw (← es, h, ← ea, t) refl

    pub bare_bound : a ≡ false → {x : Bool} → x ≡ (is_bracketed rules expr or not (loose expr)) → x ≡ groups rules f expr ts u
    unfolding groups when◌then◌else◌ ◌and◌ not
    bare_bound n e = rw (← es, h, ← ea, n) e

  module _ (h : s ≡ true) {c : Bool} (ec : c ≡ contains (outside 0 (frame expr)) 44) where
    pub spared_comma : c ≡ true → false ≡ groups rules f expr ts u
    unfolding groups when◌then◌else◌ ◌and◌ not
    spared_comma t = rw (← es, h, ← ec, t) refl

    module _ (n : c ≡ false) {w : Bool} (ew : w ≡ is_whole (text_before ts u) (text_after ts u)) where
      pub spared_whole : w ≡ true → true ≡ groups rules f expr ts u
      unfolding groups when◌then◌else◌ ◌and◌ ◌or◌ not
      spared_whole t = rw (← es, h, ← ec, n, ← ew, t) refl

      pub spared_address : w ≡ false → {a : Bool} → a ≡ is_address rules f expr ts u → flip a ≡ groups rules f expr ts u
      unfolding groups when◌then◌else◌ ◌and◌ ◌or◌ not
      spared_address m {a} ea = rw (← es, h, ← ec, n, ← ew, m, ← ea) (by a)
        where
          by : (b : Bool) → flip b ≡ not b
          by true = refl
          by false = refl

pub ruleset grouping = (bare_address, bare_bound, spared_comma, spared_whole, spared_address)
