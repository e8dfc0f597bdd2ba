-- One byte more of a scan for changes, and its end. Assumes nothing.
use Prim.Native.Nat.{ℕ, suc, ◌+◌, ◌≤◌, ◌<◌}
use native.Mathlib.Omega.{arith}
use mathlib.Core.Path.{◌≡◌, refl}
use mathlib.Core.Bool.{Bool, true, false}
use mathlib.Core.List.{[], ◌∷◌}
use lib.Dec.{eqb}
use lib.ListN.{get_or, length}
use Rattle.reference.specs.Control.{◌and◌, ◌or◌, when◌then◌else◌}
use Rattle.reference.specs.Text.{Text, bytes, contains}
use Rattle.reference.specs.Listing.{is, Punct}
use Rattle.lines.proofs.shapes.Tests.{is_it, is_not}
use Rattle.cautions.specs.Texts.{is_mark, marks_after, marks}
use Rattle.flow.specs.Marking.{marking}
use Rattle.lines.specs.Words.{kind_of, text_of, token_of, Points}
use Rattle.lines.proofs.words.Tokens.{text_length, len_below}
use mir.Val.{bool_byte}

-- one byte more: b is whether the last one ends a change, n how many that makes
pub marked : (p c x k n : ℕ) (s : Text) (b : Bool) → b ≡ is_mark p c x → n ≡ bool_byte b
    → (k + n) + marks_after (when eqb c p and contains (bytes "<>") c then 0 else c) (x ∷ s) ≡ k + marks_after p (c ∷ x ∷ s)
unfolding marks_after when◌then◌else◌
marked p c x k n s true e en = rw (← e, en) (omega arith)
marked p c x k n s false e en = rw (← e, en) (omega arith)

-- none more
pub marked_last : (p c k n : ℕ) (b : Bool) → b ≡ is_mark p c 0 → n ≡ bool_byte b → k + n ≡ k + marks_after p (c ∷ [])
unfolding marks_after when◌then◌else◌
marked_last p c k n true e en = rw (← e, en) (omega arith)
marked_last p c k n false e en = rw (← e, en) (omega arith)

-- nothing read yet
unmarked : (s : Text) → marks_after 0 (0 ∷ s) ≡ marks_after 0 s
unfolding marks_after is_mark when◌then◌else◌ ◌and◌ ◌or◌
unmarked s = refl

pub none_marked : (s : Text) → marking (record { before = 0; last = 0; count = 0 }) s ≡ marks_after 0 s
unfolding marking
none_marked s = rw (unmarked s) (omega arith)

-- a text that a word names is short
pub text_short : {tape area : Text} {w : ℕ} → Points tape area w → {s : Text} → s ≡ text_of tape area w → length s < 65536
text_short {w = w} h e = rw e (omega (arith, text_length h, len_below w))

-- by kind
pub changes_not : (tape area : Text) (w : ℕ) {k : ℕ} → k ≡ kind_of w → (k ≡ Punct → ⊥) → 0 ≡ marks (token_of tape area w)
unfolding marks when◌then◌else◌
changes_not tape area w e h = rw (← is_not (token_of tape area w) Punct e h)

pub changes_are : (tape area : Text) (w : ℕ) {k n : ℕ} {s : Text} → k ≡ kind_of w → k ≡ Punct → s ≡ text_of tape area w → n ≡ marks_after 0 s → n ≡ marks (token_of tape area w)
unfolding marks when◌then◌else◌
changes_are tape area w e h es en = rw (← is_it (token_of tape area w) Punct e h, ← es) en

few : (p : ℕ) (s : Text) → marks_after p s ≤ length s
unfolding marks_after when◌then◌else◌
few p [] = omega arith
few p (c ∷ cs) = go (is_mark p c (get_or cs 0 0)) (few (when eqb c p and contains (bytes "<>") c then 0 else c) cs)
  where
    go : (b : Bool) {n : ℕ} → n ≤ length cs → (when b then suc n else n) ≤ suc (length cs)
    go true h = omega arith
    go false h = omega arith

pub marks_few : {tape area : Text} {w : ℕ} → Points tape area w → marks (token_of tape area w) < 65536
unfolding marks when◌then◌else◌
marks_few {tape} {area} {w} h = go (is Punct (token_of tape area w))
  where
    go : (b : Bool) → (when b then marks_after 0 (text_of tape area w) else 0) < 65536
    go true = let f = few 0 (text_of tape area w) in let g = text_short h refl in omega arith
    go false = omega arith

pub ruleset changes = (text_short, changes_not, changes_are)
