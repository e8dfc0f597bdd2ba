-- No reader of a value's life looks at an address: `killed_first` and `dead_after` say the same of the lines without theirs. Assumes nothing.
use Prim.Native.Nat.{ℕ, suc, ◌+◌}
use mathlib.Core.Path.{◌≡◌, refl, ap, ◌∙◌}
use mathlib.Core.Bool.{Bool}
use mathlib.Core.List.{List, [], ◌∷◌, map}
use lib.ListN.{take, drop, get_or-map}
use lib.Seq.{slice}
use Rattle.reference.specs.Lists.{last_position}
use Rattle.reference.specs.Text.{Text}
use Rattle.reference.specs.Listing.{Line, Listing, blank, ◌at◌}
use Rattle.reference.specs.Life.{Labels, killed_first, is_do, rerun_kills, while_passes, goto_passes, scan, dead_from, dead_after}
use Rattle.std.proofs.lemmas.List.{take-map, drop-map}
use Rattle.joining.specs.Bare.{bare, bare_lines}

module _ {A B : Type 0} (f : A → B) where
  pub slice-map : (a b : ℕ) (xs : List A) → slice a b (map f xs) ≡ map f (slice a b xs)
  slice-map a b xs = ap (drop a) (take-map f b xs) ∙ drop-map f a (take b xs)

  last-position-map : (p : B → Bool) (xs : List A) → last_position p (map f xs) ≡ last_position (λ x. p (f x)) xs
  last-position-map p [] = refl
  last-position-map p (x ∷ xs) = rw (last-position-map p xs)

pub at_bare : (lines : Listing) (i : ℕ) → bare_lines lines at i ≡ bare (lines at i)
at_bare lines i = get_or-map bare lines i blank

pub killed_first-bare : (ls : Listing) (fam : Text) (indent : ℕ) (volatile : List Text)
    → killed_first (bare_lines ls) fam indent volatile ≡ killed_first ls fam indent volatile
unfolding killed_first
killed_first-bare [] fam indent volatile = refl
killed_first-bare (l ∷ ls) fam indent volatile = rw (killed_first-bare ls fam indent volatile)

module _ (lines : Listing) (fam : Text) (start : ℕ) (volatile : List Text) where
  rerun_bare : (to indent : ℕ) → rerun_kills (bare_lines lines) fam start volatile to indent ≡ rerun_kills lines fam start volatile to indent
  unfolding rerun_kills
  rerun_bare to indent = rw (slice-map bare (suc to) (suc start) lines) (killed_first-bare (slice (suc to) (suc start) lines) fam (indent + 1) volatile)

  while_bare : (w : ℕ) (l : Line) → while_passes (bare_lines lines) fam start volatile w (bare l) ≡ while_passes lines fam start volatile w l
  unfolding while_passes is_do
  while_bare w l = rw (take-map bare w lines, last-position-map bare (is_do l.indent) (take w lines)) (simp rerun_bare)

  goto_bare : (labels : Labels) (l : Line) → goto_passes (bare_lines lines) fam start volatile labels (bare l) ≡ goto_passes lines fam start volatile labels l
  unfolding goto_passes
  goto_bare labels l = simp (rerun_bare, at_bare lines)

module _ (lines : Listing) (fam : Text) (base-indent : ℕ) (labels : Labels) (start : ℕ) (volatile : List Text) where
  dead-from-bare : (w : ℕ) (ls : Listing)
      → dead_from (bare_lines lines) fam base-indent labels start volatile w (bare_lines ls) ≡ dead_from lines fam base-indent labels start volatile w ls
  unfolding dead_from scan
  dead-from-bare w [] = refl
  dead-from-bare w (l ∷ ls) = rw (dead-from-bare (suc w) ls, while_bare lines fam start volatile w l, goto_bare lines fam start volatile labels l)

  pub dead-after-bare : (from : ℕ)
      → dead_after (bare_lines lines) from fam base-indent labels start volatile ≡ dead_after lines from fam base-indent labels start volatile
  unfolding dead_after
  dead-after-bare from = rw (drop-map bare (suc from) lines) (dead-from-bare (suc from) (drop (suc from) lines))
