-- No caution looks at an address: a join and a cut put the same kinds on the lines without theirs. Assumes nothing.
use Prim.Native.Nat.{ℕ, suc}
use mathlib.Core.Path.{◌≡◌, refl, ap}
use mathlib.Core.Bool.{Bool, false}
use mathlib.Core.List.{List, [], ◌∷◌, map}
use lib.ListN.{length-map, get_or}
use Rattle.std.specs.Prelude.{reverse}
use lib.Seq.{slice}
use Rattle.reference.specs.Control.{not, ◌and◌}
use Rattle.reference.specs.Lists.{is_some}
use Rattle.reference.specs.Text.{Text, bytes}
use Rattle.reference.specs.Listing.{Token, Listing, ◌at◌}
use Rattle.reference.specs.Names.{Fam}
use Rattle.reference.specs.Rules.{Rules, volatile}
use Rattle.reference.specs.Shapes.{call_in}
use Rattle.reference.specs.Run.{success}
use Rattle.reference.specs.Marks.{moved}
use Rattle.laws.proofs.Scans.{any-map}
use Rattle.joining.specs.Bare.{bare, bare_lines}
use Rattle.joining.proofs.Bare.{labels_bare}
use Rattle.joining.proofs.BareLife.{at_bare, slice-map}
use Rattle.cautions.specs.Forms.{form, places_from, jump, returns_to, behind, opener, opened_by, closer, is_case, BLOCKS, next_in, next, Ways, ways, hangs, is_dark, onward, reached, reads, is_entered}
use Rattle.cautions.specs.Uses.{moves_read, use_cautions}
use Rattle.cautions.specs.Values.{world}
use Rattle.cautions.specs.Joins.{takes_unspelt, is_void, for_caller, is_handed, is_odd, past_call, line_cautions, uses_cautions, none_yet, dark_in, stale_in, spread}
use Rattle.cautions.specs.Joins.{join_cautions, cut_cautions}

-- ---- next lines

pub places_bare : (i : ℕ) (ls : Listing) → places_from i (bare_lines ls) ≡ places_from i ls
unfolding places_from
places_bare i [] = refl
places_bare i (l ∷ ls) = rw (places_bare (suc i) ls)

forms_bare : (ls : Listing) → map (λ l. form l.tokens) (bare_lines ls) ≡ map (λ l. form l.tokens) ls
forms_bare [] = refl
forms_bare (l ∷ ls) = ap {B = List Text} (λ r. form l.tokens ∷ r) (forms_bare ls)

module _ (lines : Listing) (forms : List Text) where
  jump_bare : (ts : List Token) → jump (bare_lines lines) forms ts ≡ jump lines forms ts
  unfolding jump
  jump_bare ts = rw (labels_bare 0 lines)

  returns_bare : (ts : List Token) → returns_to (bare_lines lines) forms ts ≡ returns_to lines forms ts
  unfolding returns_to
  returns_bare ts = rw (length-map lines bare)

  behind_bare : (c : ℕ) → behind (bare_lines lines) forms c ≡ behind lines forms c
  unfolding behind
  behind_bare c = refl

  opener_bare : (k : ℕ) → opener (bare_lines lines) forms k ≡ opener lines forms k
  unfolding opener
  opener_bare k = refl

  opened_bare : (fs : List Text) (k : ℕ) → opened_by (bare_lines lines) forms fs k ≡ opened_by lines forms fs k
  unfolding opened_by
  opened_bare fs k = rw (opener_bare k)

  closer_bare : (k : ℕ) → closer (bare_lines lines) forms k ≡ closer lines forms k
  unfolding closer
  closer_bare k = refl

  cases_bare : (m : ℕ) → is_case (bare_lines lines at m).tokens ≡ is_case (lines at m).tokens
  cases_bare m = rw (at_bare lines m)

  next_in-bare : (k : ℕ) (f : Text) (c : ℕ) → next_in (bare_lines lines) forms k f c ≡ next_in lines forms k f c
  unfolding next_in
  next_in-bare k f c = rw (places_bare 0 lines, behind_bare c) (simp cases_bare)

  next_in-same : (k : ℕ) → next_in (bare_lines lines) forms k ≡ next_in lines forms k
  next_in-same k = λ t f c. next_in-bare k f c t

  next_bare : (k : ℕ) → next (bare_lines lines) forms k ≡ next lines forms k
  unfolding next
  next_bare k =
      rw (at_bare lines k, jump_bare (lines at k).tokens, returns_bare (lines at k).tokens, opener_bare k, opened_bare BLOCKS k, closer_bare k, next_in-same k)

  next_same : next (bare_lines lines) forms ≡ next lines forms
  next_same = λ t k. next_bare k t

pub ways_bare : (lines : Listing) → ways (bare_lines lines) ≡ ways lines
unfolding ways
ways_bare lines = rw (forms_bare lines, places_bare 0 lines, next_same lines (map (λ l. form l.tokens) lines))

-- ---- how far a value goes

module _ (lines : Listing) (ways : Ways) where
  formed_bare : (k : ℕ) → form (bare_lines lines at k).tokens ≡ form (lines at k).tokens
  formed_bare k = rw (at_bare lines k)

  dark_bare : (k : ℕ) → is_dark (bare_lines lines) ways k ≡ is_dark lines ways k
  unfolding is_dark
  dark_bare k = rw (at_bare lines k)

  dark_same : is_dark (bare_lines lines) ways ≡ is_dark lines ways
  dark_same = λ t k. dark_bare k t

  hangs_bare : (i : ℕ) → hangs (bare_lines lines) ways i ≡ hangs lines ways i
  unfolding hangs
  hangs_bare i = rw (places_bare 0 lines) (simp formed_bare)

  module _ (i : ℕ) (fam : Text) (volatile : List Text) where
    onward_bare : (k : ℕ) → onward (bare_lines lines) ways i fam volatile k ≡ onward lines ways i fam volatile k
    unfolding onward
    onward_bare k = rw (at_bare lines k, dark_bare k)

    onward_same : onward (bare_lines lines) ways i fam volatile ≡ onward lines ways i fam volatile
    onward_same = λ t k. onward_bare k t

    reached_bare : reached (bare_lines lines) ways i fam volatile ≡ reached lines ways i fam volatile
    unfolding reached
    reached_bare = rw (length-map lines bare, places_bare 0 lines, onward_same)

-- ---- a register's value that is no longer put there

module _ (rules : Rules) (lines : Listing) (fam : Text) where
  void_bare : is_void (bare_lines lines) ≡ is_void lines
  unfolding is_void
  void_bare = rw (at_bare lines 0)

  caller_bare : for_caller rules (bare_lines lines) fam ≡ for_caller rules lines fam
  unfolding for_caller
  caller_bare = rw void_bare

  unspelt_bare : (k : ℕ) → takes_unspelt rules fam (bare_lines lines at k).tokens ≡ takes_unspelt rules fam (lines at k).tokens
  unspelt_bare k = rw (at_bare lines k)

  handed_bare : (far : List ℕ) → is_handed rules (bare_lines lines) fam far ≡ is_handed rules lines fam far
  unfolding is_handed
  handed_bare far = rw (length-map lines bare, caller_bare) (simp unspelt_bare)

-- ---- one join

module _ (rules : Rules) (lines : Listing) (ways : Ways) (i : ℕ) (f : Fam) (expr : List Token) where
  odd_bare : (last : ℕ) → is_odd rules (bare_lines lines) ways i f expr last ≡ is_odd rules lines ways i f expr last
  unfolding is_odd
  odd_bare last =
      rw (
        hangs_bare lines ways i,
        dark_same lines ways,
        places_bare 0 lines,
        slice-map bare (suc i) (suc last) lines,
        any-map (λ l. is_entered l.tokens) bare (slice (suc i) (suc last) lines),
      )

  call_bare : (last : ℕ) → past_call rules (bare_lines lines) ways i f expr last ≡ past_call rules lines ways i f expr last
  unfolding past_call
  call_bare last =
      rw (slice-map bare (suc i) last lines, any-map (λ l. is_some (call_in l.tokens)) bare (slice (suc i) last lines))

  reads_bare : (ts : List Token) (u : ℕ) (passed : Listing) → moves_read rules f expr ts u (bare_lines passed) ≡ moves_read rules f expr ts u passed
  unfolding moves_read
  reads_bare ts u passed = rw (any-map (λ l. world l.tokens) bare passed)

  use_bare : (ts : List Token) (passed : Listing) (new : List Token) (u : ℕ)
      → use_cautions rules f expr ts u (bare_lines passed) new ≡ use_cautions rules f expr ts u passed new
  unfolding use_cautions
  use_bare ts passed new u = rw (reads_bare ts u passed)

  line_bare : (j : ℕ) (new : List Token) → line_cautions rules (bare_lines lines) ways i f expr j new ≡ line_cautions rules lines ways i f expr j new
  unfolding line_cautions
  line_bare j new = rw (at_bare lines j, slice-map bare (suc i) j lines) (simp use_bare)

  line_left : (left : Listing) (j : ℕ) → line_cautions rules (bare_lines lines) ways i f expr j (bare_lines left at moved i j).tokens
      ≡ line_cautions rules lines ways i f expr j (left at moved i j).tokens
  line_left left j = rw (at_bare left (moved i j)) (line_bare j (left at moved i j).tokens)

  uses_bare : (into : List ℕ) (left : Listing)
      → uses_cautions rules (bare_lines lines) ways i f expr into (bare_lines left) ≡ uses_cautions rules lines ways i f expr into left
  unfolding uses_cautions
  uses_bare into left = rw (odd_bare (get_or (reverse into) 0 i), call_bare (get_or (reverse into) 0 i)) (simp (line_left left))

-- ---- on which lines they stand

pub none_bare : (lines : Listing) → none_yet (bare_lines lines) ≡ none_yet lines
none_bare [] = refl
none_bare (l ∷ ls) = ap {B = List ℕ} (λ r. 0 ∷ r) (none_bare ls)

module _ (rules : Rules) (lines : Listing) (ways : Ways) (i : ℕ) (fam : Text) (far : List ℕ) where
  stays_bare : (others : List ℕ) → dark_in rules (bare_lines lines) ways i fam far others ≡ dark_in rules lines ways i fam far others
  unfolding dark_in
  stays_bare others = rw (dark_same lines ways)

  read_bare : (k : ℕ) → (not (is_dark (bare_lines lines) ways k) and reads fam (bare_lines lines at k).tokens) ≡ (not (is_dark lines ways k) and reads fam (lines at k).tokens)
  read_bare k = rw (dark_bare lines ways k, at_bare lines k)

  stale_bare : (others : List ℕ) → stale_in rules (bare_lines lines) ways i fam far others ≡ stale_in rules lines ways i fam far others
  unfolding stale_in
  stale_bare others = simp read_bare

  spread_bare : (s : ℕ) (into : List ℕ) (again : Bool)
      → spread rules (bare_lines lines) ways i fam far s into again ≡ spread rules lines ways i fam far s into again
  unfolding spread
  spread_bare s into again =
      rw (length-map lines bare, none_bare lines, dark_bare lines ways i, handed_bare rules lines fam far) (simp (stays_bare, stale_bare))

-- ---- a join and a cut

module _ (rules : Rules) (lines left : Listing) (i : ℕ) (into : List ℕ) where
  each_bare : (ways : Ways) (expr : List Token) (f : Fam)
      → spread rules (bare_lines lines) ways i f.name (reached (bare_lines lines) ways i f.name (volatile rules))
      (uses_cautions rules (bare_lines lines) ways i f expr into (bare_lines left)) into false
      ≡ spread rules lines ways i f.name (reached lines ways i f.name (volatile rules)) (uses_cautions rules lines ways i f expr into left) into false
  each_bare ways expr f =
      rw (reached_bare lines ways i f.name (volatile rules), uses_bare rules lines ways i f expr into left)
      (spread_bare rules lines ways i f.name (reached lines ways i f.name (volatile rules)) (uses_cautions rules lines ways i f expr into left) into false)

  -- A JOIN PUTS THE SAME KINDS ON THE LINES WITHOUT THEIR ADDRESSES
  pub join-cautions-bare : join_cautions rules (bare_lines lines) (success i into (bare_lines left)) ≡ join_cautions rules lines (success i into left)
  unfolding join_cautions
  join-cautions-bare = rw (at_bare lines i, ways_bare lines) (simp (each_bare (ways lines)))

-- A CUT PUTS THE SAME KINDS ON THE LINES WITHOUT THEIR ADDRESSES
pub cut-cautions-bare : (rules : Rules) (lines : Listing) (i : ℕ) → cut_cautions rules (bare_lines lines) i ≡ cut_cautions rules lines i
unfolding cut_cautions
cut-cautions-bare rules lines i =
    rw (at_bare lines i, ways_bare lines, reached_bare lines (ways lines) i (bytes "rax") (volatile rules))
    (spread_bare rules lines (ways lines) i (bytes "rax") _ 0 (i ∷ []) _)
