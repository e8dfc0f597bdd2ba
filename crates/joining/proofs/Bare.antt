-- No attempt and no cut looks at an address: each decides the same of the lines without theirs, and leaves the same lines without theirs; the
-- addresses go beside, the removed line's with it. Assumes nothing.
use Prim.Native.Nat.{ℕ, zero, suc}
use mathlib.Core.Path.{◌≡◌, refl, sym, ap, ◌∙◌}
use mathlib.Core.Bool.{Bool, true, false}
use mathlib.Core.List.{List, [], ◌∷◌, map}
use mathlib.Core.Option.{Option, none, some}
use lib.ListN.{drop}
use lib.Seq.{slice}
use Rattle.reference.specs.Control.{when◌then◌else◌, let_some◌else◌then◌}
use Rattle.reference.specs.Lists.{get, remove, modify}
use Rattle.reference.specs.Text.{Text}
use Rattle.reference.specs.Listing.{Token, Line, Listing, ◌at◌}
use Rattle.reference.specs.Rules.{Rules, volatile}
use Rattle.reference.specs.Life.{Labels}
use Rattle.reference.specs.Join.{ends_run, harmless, use_from, rewrite_use, text_or_empty, try_at, targets}
use Rattle.reference.specs.Run.{labels_from, addressed_in, dead_result}
use Rattle.reference.proofs.Cases.{by-if}
use Rattle.laws.proofs.Scans.{any-map}
use Rattle.std.proofs.lemmas.List.{drop-map}
use Rattle.joining.specs.Bare.{bare, bare_lines}
use Rattle.joining.specs.Places.{labels_at}
use Rattle.joining.specs.Rounds.{cut_at}
use Rattle.joining.specs.Plan.{Definition, Plan, Reach, reach_at, reach_from, reach_of, refuses, all_take, ends_at, plan_reach, plan_constant, use_of, plan_use, plan_single, plan_for, decide}
use Rattle.joining.specs.Plan.{map_from, right_side_of, changes, where_used, acted_line, act}
use Rattle.joining.proofs.BareLife.{at_bare, slice-map, dead-after-bare}
use Rattle.joining.proofs.Uses.{uses_upto}
use Rattle.joining.proofs.Deciding.{try_at_is, tried, targets-are}

-- ---- the decision

module _ (base-indent : ℕ) (fam : Text) (volatile : List Text) where
  pub reach-from-bare : (j : ℕ) (ls : Listing) (r : Reach) → reach_from base-indent fam volatile j (bare_lines ls) r ≡ reach_from base-indent fam volatile j ls r
  unfolding reach_from reach_at ends_run
  reach-from-bare j [] r = refl
  reach-from-bare j (l ∷ ls) r = rw (reach-from-bare (suc j) ls (reach_at base-indent fam volatile j l r))

  module _ (expr : List Token) (is_call : Bool) where
    pub use_from-bare : (j : ℕ) (ls : Listing) → use_from base-indent fam expr is_call volatile j (bare_lines ls) ≡ use_from base-indent fam expr is_call volatile j ls
    unfolding use_from harmless
    use_from-bare j [] = refl
    use_from-bare j (l ∷ ls) = rw (use_from-bare (suc j) ls)

module _ (lines : Listing) (i : ℕ) where
  pub reach_of-bare : (fam : Text) (volatile : List Text) → reach_of (bare_lines lines) i fam volatile ≡ reach_of lines i fam volatile
  unfolding reach_of
  reach_of-bare fam volatile =
      rw (at_bare lines i, drop-map bare (suc i) lines)
      (reach-from-bare (lines at i).indent fam volatile (suc i) (drop (suc i) lines) _)

  module _ (rules : Rules) (d : Definition) (labels : Labels) (volatile : List Text) where
    take_bare : (ls : Listing) → all_take d.fam.name volatile (bare_lines ls) ≡ all_take d.fam.name volatile ls
    unfolding all_take refuses
    take_bare ls = rw (any-map (refuses d.fam.name volatile) bare ls)

    plan_reach-bare : (r : Reach) → plan_reach (bare_lines lines) i d labels volatile r ≡ plan_reach lines i d labels volatile r
    unfolding plan_reach ends_at
    plan_reach-bare r =
        rw (
          at_bare lines i,
          at_bare lines r.last,
          slice-map bare (suc i) (suc r.last) lines,
          take_bare (slice (suc i) (suc r.last) lines),
          dead-after-bare lines d.fam.name (lines at i).indent labels i volatile r.last,
        )

    use_of-bare : use_of (bare_lines lines) i d volatile ≡ use_of lines i d volatile
    unfolding use_of
    use_of-bare =
        rw (at_bare lines i, drop-map bare (suc i) lines)
        (use_from-bare (lines at i).indent d.fam.name volatile d.expr d.calls (suc i) (drop (suc i) lines))

    plan_use-bare : (j : ℕ) → plan_use rules (bare_lines lines) i d labels volatile j ≡ plan_use rules lines i d labels volatile j
    unfolding plan_use
    plan_use-bare j = rw (at_bare lines i, at_bare lines j, dead-after-bare lines d.fam.name (lines at i).indent labels i volatile j)

    plan_for-bare : plan_for rules (bare_lines lines) i d labels volatile ≡ plan_for rules lines i d labels volatile
    unfolding plan_for plan_constant plan_single
    plan_for-bare = rw (reach_of-bare d.fam.name volatile, plan_reach-bare (reach_of lines i d.fam.name volatile), use_of-bare) (simp plan_use-bare)

pub decide-bare : (rules : Rules) (lines : Listing) (i : ℕ) (labels : Labels) (addressed : List Text)
    → decide rules (bare_lines lines) i labels addressed ≡ decide rules lines i labels addressed
unfolding decide
decide-bare rules lines i labels addressed = rw (at_bare lines i) (simp (plan_for-bare lines i rules))

-- ---- the change

module _ {ℓ κ} {A : Type ℓ} {B : Type κ} (f : A → B) where
  remove-map : (i : ℕ) (xs : List A) → remove i (map f xs) ≡ map f (remove i xs)
  remove-map i [] = refl
  remove-map zero (x ∷ xs) = refl
  remove-map (suc i) (x ∷ xs) = ap {B = List B} (λ r. f x ∷ r) (remove-map i xs)

  modify-map : (g : B → B) (h : A → A) → ((x : A) → g (f x) ≡ f (h x)) → (i : ℕ) (xs : List A) → modify i g (map f xs) ≡ map f (modify i h xs)
  modify-map g h e i [] = refl
  modify-map g h e zero (x ∷ xs) = ap {B = List B} (λ y. y ∷ map f xs) (e x)
  modify-map g h e (suc i) (x ∷ xs) = ap {B = List B} (λ r. f x ∷ r) (modify-map g h e i xs)

  map-from-map : (g : ℕ → B → B) (h : ℕ → A → A) → ((k : ℕ) (x : A) → g k (f x) ≡ f (h k x)) → (k : ℕ) (xs : List A)
      → map_from g k (map f xs) ≡ map f (map_from h k xs)
  map-from-map g h e k [] = refl
  map-from-map g h e k (x ∷ xs) = λ t. e k x t ∷ map-from-map g h e (suc k) xs t

same_map {ℓ κ} : {A : Type ℓ} {B : Type κ} (f : A → B) (g : ℕ → A → A) → ((k : ℕ) (x : A) → f (g k x) ≡ f x) → (k : ℕ) (xs : List A) → map f (map_from g k xs) ≡ map f xs
same_map f g e k [] = refl
same_map f g e k (x ∷ xs) = λ t. e k x t ∷ same_map f g e (suc k) xs t

line_bare : (rules : Rules) (i : ℕ) (p : Plan) (k : ℕ) (l : Line) → acted_line rules i p k (bare l) ≡ bare (acted_line rules i p k l)
unfolding where_used changes when◌then◌else◌ rewrite_use
line_bare rules i p k l = go (changes (volatile rules) i p k l)
  where
    go : (b : Bool) → (when b then rewrite_use rules.edition p.fam (right_side_of p) (bare l) else bare l) ≡ bare (when b then rewrite_use rules.edition p.fam (right_side_of p) l else l)
    go true = refl
    go false = refl

pub act-bare : (rules : Rules) (lines : Listing) (i : ℕ) (p : Plan) → act rules (bare_lines lines) i p ≡ bare_lines (act rules lines i p)
unfolding act
act-bare rules lines i p =
    ap (remove i) (map-from-map bare (acted_line rules i p) (acted_line rules i p) (line_bare rules i p) 0 lines)
    ∙ remove-map bare i (map_from (acted_line rules i p) 0 lines)

pub try_at-bare : (rules : Rules) (lines : Listing) (i : ℕ) (labels : Labels) (addressed : List Text)
    → try_at rules (bare_lines lines) i labels addressed ≡ (let_some (try_at rules lines i labels addressed) else none then λ lines'. some (bare_lines lines'))
unfolding let_some◌else◌then◌
try_at-bare rules lines i labels addressed =
    rw (try_at_is rules (bare_lines lines) i labels addressed, try_at_is rules lines i labels addressed, decide-bare rules lines i labels addressed)
    (go (decide rules lines i labels addressed))
  where
    go : (o : Option Plan) → (let_some o else none then λ p. some (act rules (bare_lines lines) i p))
        ≡ (let_some (let_some o else none then λ p. some (act rules lines i p)) else none then λ lines'. some (bare_lines lines'))
    go none = refl
    go (some p) = ap {B = Option Listing} some (act-bare rules lines i p)

-- ---- the round and the cuts

pub labels_bare : (i : ℕ) (ls : Listing) → labels_from i (bare_lines ls) ≡ labels_from i ls
unfolding labels_from
labels_bare i [] = refl
labels_bare i (l ∷ ls) = rw (labels_bare (suc i) ls)

pub labels_at-bare : (lines : Listing) (places : List ℕ) → labels_at (bare_lines lines) places ≡ labels_at lines places
labels_at-bare lines [] = refl
labels_at-bare lines (q ∷ qs) = λ t. record { name = text_or_empty (get (at_bare lines q t).tokens 0); place = q } ∷ labels_at-bare lines qs t

pub addressed-bare : (ls : Listing) → addressed_in (bare_lines ls) ≡ addressed_in ls
unfolding addressed_in
addressed-bare [] = refl
addressed-bare (l ∷ ls) = rw (addressed-bare ls)

pub dead_result-bare : (rules : Rules) (labels : Labels) (lines : Listing) (i : ℕ) → dead_result rules labels (bare_lines lines) i ≡ dead_result rules labels lines i
unfolding dead_result
dead_result-bare rules labels lines i = rw (at_bare lines i, dead-after-bare lines _ (lines at i).indent labels i (volatile rules) i)

pub cut-bare : (i : ℕ) (lines : Listing) → cut_at i (bare_lines lines) ≡ bare_lines (cut_at i lines)
cut-bare i lines = modify-map bare _ _ (λ l. refl) i lines

-- ---- the addresses, kept beside the lines

address_stays : (rules : Rules) (i : ℕ) (p : Plan) (k : ℕ) (l : Line) → (acted_line rules i p k l).address ≡ l.address
unfolding where_used rewrite_use
address_stays rules i p k l = by-if (λ (x : Line). x.address ≡ l.address) (λ e. refl) (λ e. refl)

pub act-addresses : (rules : Rules) (lines : Listing) (i : ℕ) (p : Plan) → map (λ l. l.address) (act rules lines i p) ≡ remove i (map (λ l. l.address) lines)
unfolding act
act-addresses rules lines i p =
    sym (remove-map (λ (l : Line). l.address) i (map_from (acted_line rules i p) 0 lines))
    ∙ ap (remove i) (same_map (λ (l : Line). l.address) (acted_line rules i p) (address_stays rules i p) 0 lines)

pub cut-addresses : (i : ℕ) (lines : Listing) → map (λ l. l.address) (cut_at i lines) ≡ map (λ l. l.address) lines
cut-addresses i [] = refl
cut-addresses zero (l ∷ ls) = refl
cut-addresses (suc i) (l ∷ ls) = ap {B = List (Option ℕ)} (λ r. l.address ∷ r) (cut-addresses i ls)

-- ---- what an attempt that succeeds is joined into, and whose address goes

uses_bare : (fam : Text) (vol : List Text) (last j : ℕ) (ls : Listing) → uses_upto fam vol last j (bare_lines ls) ≡ uses_upto fam vol last j ls
unfolding uses_upto
uses_bare fam vol last j [] = refl
uses_bare fam vol last j (l ∷ ls) = rw (uses_bare fam vol last (suc j) ls)

module _ (rules : Rules) (lines : Listing) (i : ℕ) (labels : Labels) (addressed : List Text) {lines' : Listing}
    (e : try_at rules lines i labels addressed ≡ some lines') where
  pub targets-bare : targets rules (bare_lines lines) i labels ≡ targets rules lines i labels
  targets-bare =
      let t = tried rules lines i labels addressed e in
      let p : Plan = t.0 in
      targets-are rules (bare_lines lines) i labels addressed p (decide-bare rules lines i labels addressed ∙ t.1)
      ∙ ap (uses_upto p.fam (volatile rules) p.last (suc i)) (drop-map bare (suc i) lines)
      ∙ uses_bare p.fam (volatile rules) p.last (suc i) (drop (suc i) lines)
      ∙ sym (targets-are rules lines i labels addressed p t.1)

  pub attempt_addresses : map (λ l. l.address) lines' ≡ remove i (map (λ l. l.address) lines)
  attempt_addresses =
      let t = tried rules lines i labels addressed e in
      ap (λ (ls : Listing). map (λ l. l.address) ls) (sym t.2) ∙ act-addresses rules lines i t.0
