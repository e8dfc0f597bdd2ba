-- What a touch, as crate life has it, says of reading and overwriting. Assumes nothing.
use Prim.Native.Nat.{ℕ, suc}
use native.Mathlib.Omega.{arith}
use mathlib.Core.Path.{◌≡◌, refl, sym, ◌∙◌}
use mathlib.Core.Bool.{Bool, true, false, false≢true}
use mathlib.Core.List.{List, [], ◌∷◌}
use lib.Dec.{ltb}
use borrow.Author.Tests.{lt-ltb}
use Rattle.reference.specs.Control.{not, ◌and◌, ◌or◌, when◌then◌else◌}
use Rattle.reference.specs.Lists.{any, count, is_some}
use Rattle.reference.specs.Text.{Text, has, bytes}
use Rattle.reference.specs.Listing.{Token}
use Rattle.reference.specs.Names.{of_family}
use Rattle.reference.specs.Shapes.{call_in}
use Rattle.reference.specs.Life.{None, Kill, Use, kills, touch_of, match_touch, is_use, is_kill}
use Rattle.cautions.specs.Forms.{form, reads, ends, is_guarded}
use Rattle.flow.specs.declared.lineforms.Form.{Form}
use Rattle.flow.specs.declared.lineforms.Form.TheVariants.{Empty, Statement, Label, Opening, Block, Guarded, Do, Goto, IfGoto, Return, IfReturn, While, Closing, If, ElseIf, Else, Switch, Other}
use Rattle.flow.specs.LineForms.{Classed, KNOWN}
use Rattle.flow.proofs.Classes.{none_of}
use Rattle.flow.specs.Values.{overwrites, guards}

counted : {A : Type 0} (p : A → Bool) (xs : List A) → ltb 0 (count p xs) ≡ any p xs
unfolding when◌then◌else◌ ◌or◌
counted p [] = refl
counted p (x ∷ xs) = go (p x) (counted p xs)
  where
    go : (b : Bool) → ltb 0 (count p xs) ≡ any p xs → ltb 0 (when b then suc (count p xs) else count p xs) ≡ (b or any p xs)
    go true h = lt-ltb 0 (suc (count p xs)) (omega arith)
    go false h = h

module _ (fam : Text) (vs : List Text) (ts : List Token) {x : Bool} where
  pub reads_by : x ≡ is_use (touch_of ts fam vs) → x ≡ reads fam ts
  unfolding reads touch_of match_touch when◌then◌else◌ ◌and◌ not
  reads_by e = e ∙ rw (← counted (of_family fam) ts) (go (kills ts fam) (ltb 0 (count (of_family fam) ts)) (is_some (call_in ts) and has vs fam) (count (of_family fam) ts))
    where
      go : (k u c : Bool) (n : ℕ) → match_touch (when k then Kill else when u then Use n else when c then Kill else None) false false (λ n. true) ≡ (u and not k)
      go true true c n = refl
      go true false c n = refl
      go false true c n = refl
      go false false true n = refl
      go false false false n = refl

  pub overwrites_here : x ≡ is_kill (touch_of ts fam vs) → x ≡ true → true ≡ overwrites fam vs ts
  unfolding overwrites touch_of match_touch when◌then◌else◌ ◌and◌ ◌or◌
  overwrites_here e t = go (kills ts fam) (ltb 0 (count (of_family fam) ts)) (is_some (call_in ts)) (has vs fam) (count (of_family fam) ts) (sym e ∙ t)
    where
      go : (k u c v : Bool) (n : ℕ) → match_touch (when k then Kill else when u then Use n else when c and v then Kill else None) false true (λ n. false) ≡ true → true ≡ (k or (v and c))
      go true u c v n h = refl
      go false true c v n h = absurd (false≢true h)
      go false false true true n h = refl
      go false false true false n h = absurd (false≢true h)
      go false false false v n h = absurd (false≢true h)

  module _ {y : Bool} where
    pub overwrites_by : x ≡ is_kill (touch_of ts fam vs) → x ≡ false → y ≡ (has vs fam and is_some (call_in ts)) → y ≡ overwrites fam vs ts
    unfolding overwrites touch_of match_touch when◌then◌else◌ ◌and◌ ◌or◌
    overwrites_by e f h = h ∙ go (kills ts fam) (ltb 0 (count (of_family fam) ts)) (is_some (call_in ts)) (has vs fam) (count (of_family fam) ts) (sym e ∙ f)
      where
        go : (k u c v : Bool) (n : ℕ) → match_touch (when k then Kill else when u then Use n else when c and v then Kill else None) false true (λ n. false) ≡ false → (v and c) ≡ (k or (v and c))
        go true u c v n h = absurd (false≢true (sym h))
        go false u c v n h = refl

pub ruleset overwrites_all = (overwrites_here, overwrites_by)

-- ---- guards

pub unguarded : (f : Form) → (f ≡ Guarded → ⊥) → (f ≡ IfReturn → ⊥) → (f ≡ ElseIf → ⊥) → false ≡ guards f
unguarded Empty a b c = refl
unguarded Statement a b c = refl
unguarded Label a b c = refl
unguarded Opening a b c = refl
unguarded Block a b c = refl
unguarded Guarded a b c = absurd (a refl)
unguarded Do a b c = refl
unguarded Goto a b c = refl
unguarded IfGoto a b c = refl
unguarded Return a b c = refl
unguarded IfReturn a b c = absurd (b refl)
unguarded While a b c = refl
unguarded Closing a b c = refl
unguarded If a b c = refl
unguarded ElseIf a b c = absurd (c refl)
unguarded Else a b c = refl
unguarded Switch a b c = refl
unguarded Other a b c = refl

other_unguarded : (s : Text) → has KNOWN s ≡ false → false ≡ has (bytes "if;" ∷ bytes "ifreturn;" ∷ bytes "elseif}{" ∷ []) s
unfolding ◌or◌
other_unguarded s h = let n = none_of s h in rw (n.guarded, n.if_return, n.else_if) refl

pub guarded_by : (s : Text) (f : Form) → Classed s f → guards f ≡ has (bytes "if;" ∷ bytes "ifreturn;" ∷ bytes "elseif}{" ∷ []) s
unfolding ◌or◌ ◌and◌
guarded_by s Empty h = rw (h.known refl) refl
guarded_by s Statement h = rw (h.known refl) refl
guarded_by s Label h = rw (h.known refl) refl
guarded_by s Opening h = rw (h.known refl) refl
guarded_by s Block h = rw (h.known refl) refl
guarded_by s Guarded h = rw (h.known refl) refl
guarded_by s Do h = rw (h.known refl) refl
guarded_by s Goto h = rw (h.known refl) refl
guarded_by s IfGoto h = rw (h.known refl) refl
guarded_by s Return h = rw (h.known refl) refl
guarded_by s IfReturn h = rw (h.known refl) refl
guarded_by s While h = rw (h.known refl) refl
guarded_by s Closing h = rw (h.known refl) refl
guarded_by s If h = rw (h.known refl) refl
guarded_by s ElseIf h = rw (h.known refl) refl
guarded_by s Else h = rw (h.known refl) refl
guarded_by s Switch h = rw (h.known refl) refl
guarded_by s Other h = other_unguarded s (h.other refl)

module _ (fam : Text) (vs : List Text) (ts : List Token) (f : Form) (h : Classed (form ts) f) {x : Bool} (e : x ≡ guards f) where
  pub ended_not : x ≡ true → false ≡ ends fam vs ts
  unfolding ends is_guarded ◌and◌ not
  ended_not t = rw (← guarded_by (form ts) f h, ← e, t) refl

  pub ended_by : x ≡ false → {y : Bool} → y ≡ overwrites fam vs ts → y ≡ ends fam vs ts
  unfolding ends is_guarded overwrites ◌and◌ not
  ended_by g k = rw (← guarded_by (form ts) f h, ← e, g) k

pub ruleset ended = (ended_not, ended_by)
