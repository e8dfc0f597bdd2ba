-- The cautions of the cuts, line after line: the cuts to come make of the sets that stand what all of them make of the first. Assumes nothing.
use Prim.Native.Nat.{ℕ, zero, suc, ◌+◌, ◌-◌, ◌≤◌, ◌<◌}
use native.Mathlib.Omega.{arith}
use native.Mathlib.Numerals.{add-one}
use mathlib.Core.Path.{◌≡◌, refl, sym, ap, ◌∙◌}
use mathlib.Core.Bool.{Bool, true, false}
use mathlib.Core.List.{List}
use lib.ListN.{length, take, length-map}
use Rattle.reference.specs.Text.{Text}
use Rattle.reference.specs.Listing.{Listing}
use Rattle.reference.specs.Rules.{Rules}
use Rattle.reference.specs.Life.{Labels}
use Rattle.reference.specs.Run.{dead_result}
use Rattle.reference.proofs.Cases.{true-false}
use Rattle.joining.specs.Bare.{bare_lines}
use Rattle.joining.specs.Places.{label_places}
use Rattle.joining.specs.Rounds.{cut_at}
use Rattle.joining.proofs.Bare.{dead_result-bare, cut-bare}
use Rattle.cautions.specs.Joins.{cut_cautions}
use Rattle.cautions.specs.Cautions.{cuts_made, both, with_cuts}
use Rattle.cautions.proofs.Stepping.{cuts_pass, cuts_cut}
use Rattle.cautions.proofs.Bare.{cut-cautions-bare}
use Rattle.lines.specs.Lines.{Reading, numbered, listing_read, bare_listing}
use Rattle.lines.proofs.words.Lines.{bare-means}
use Rattle.life.specs.Labels.{Gathered}
use Rattle.raising.specs.declared.tables.Raising.{Raising}
use Rattle.raising.specs.Tables.{is_on, Kept, SameLent, sets_now}
use Rattle.raising.specs.Steps.{Cautioned}
use Rattle.raising.proofs.Lending.{same_tables, tables_then, on_as_before}
use Rattle.cuts.specs.Cuts.{labels_now, dead_at, Dropped}
use Rattle.cuts.specs.Cautions.{cuts_with, dead_cuts, DropRaised, CutsRaised}
use Rattle.cuts.proofs.Cutting.{Cutting, bare_cut, gathered_labels}

-- ---- the cuts of a listing

-- those of its lines without their addresses put the same kinds on them
module _ (rules : Rules) (labels : Labels) (n i : ℕ) (lines : Listing) (sets : List ℕ) where
  bare_step : ((ls : Listing) (ts : List ℕ) → with_cuts rules (cuts_made rules labels n (suc i) (bare_lines ls)) ts ≡ with_cuts rules (cuts_made rules labels n (suc i) ls) ts)
      → with_cuts rules (cuts_made rules labels (suc n) i (bare_lines lines)) sets ≡ with_cuts rules (cuts_made rules labels (suc n) i lines) sets
  bare_step rest = go (dead_result rules labels lines i) refl
    where
      go : (b : Bool) → dead_result rules labels lines i ≡ b
          → with_cuts rules (cuts_made rules labels (suc n) i (bare_lines lines)) sets ≡ with_cuts rules (cuts_made rules labels (suc n) i lines) sets
      go true e =
          cuts_cut rules labels n i (bare_lines lines) sets (dead_result-bare rules labels lines i ∙ e)
          ∙ ap (λ (ls : Listing). with_cuts rules (cuts_made rules labels n (suc i) ls) (both sets (cut_cautions rules (bare_lines lines) i))) (cut-bare i lines)
          ∙ rest (cut_at i lines) (both sets (cut_cautions rules (bare_lines lines) i))
          ∙ ap (λ (ts : List ℕ). with_cuts rules (cuts_made rules labels n (suc i) (cut_at i lines)) (both sets ts)) (cut-cautions-bare rules lines i)
          ∙ sym (cuts_cut rules labels n i lines sets e)
      go false e =
          cuts_pass rules labels n i (bare_lines lines) sets (dead_result-bare rules labels lines i ∙ e)
          ∙ rest lines sets
          ∙ sym (cuts_pass rules labels n i lines sets e)

made_bare : (rules : Rules) (labels : Labels) (n i : ℕ) (lines : Listing) (sets : List ℕ)
    → with_cuts rules (cuts_made rules labels n i (bare_lines lines)) sets ≡ with_cuts rules (cuts_made rules labels n i lines) sets
unfolding cuts_made with_cuts
made_bare rules labels zero i lines sets = refl
made_bare rules labels (suc n) i lines sets = bare_step rules labels n i lines sets (made_bare rules labels n (suc i))

-- those of lines that are read with addresses, too
with_bare : (rules : Rules) (labels : Labels) (tape area : Text) (tokens lines : List ℕ) (addresses : Reading) (sets : List ℕ)
    → with_cuts rules (cuts_with rules labels (bare_listing tape area tokens lines)) sets
    ≡ with_cuts rules (cuts_with rules labels (listing_read tape area tokens addresses lines)) sets
with_bare rules labels tape area tokens lines addresses sets =
    let full : Listing = listing_read tape area tokens addresses lines in
    ap (λ (ls : Listing). with_cuts rules (cuts_with rules labels ls) sets) (bare-means tape area tokens addresses lines)
    ∙ ap (λ (n : ℕ). with_cuts rules (cuts_made rules labels n 0 (bare_lines full)) sets) (length-map full _)
    ∙ made_bare rules labels (length full) 0 full sets

module _ (rules : Rules) (labels : Labels) (k i : ℕ) (lines : Listing) (sets : List ℕ) where
  line_passed : i < k → dead_result rules labels lines i ≡ false
      → with_cuts rules (cuts_made rules labels (k - i) i lines) sets ≡ with_cuts rules (cuts_made rules labels (k - (i + 1)) (i + 1) lines) sets
  line_passed h e =
      let more : k - i ≡ suc (k - suc i) = omega arith in
      rw (more, add-one i) (cuts_pass rules labels (k - suc i) i lines sets e)

  line_cut : i < k → dead_result rules labels lines i ≡ true
      → with_cuts rules (cuts_made rules labels (k - i) i lines) sets
      ≡ with_cuts rules (cuts_made rules labels (k - (i + 1)) (i + 1) (cut_at i lines)) (both sets (cut_cautions rules lines i))
  line_cut h e =
      let more : k - i ≡ suc (k - suc i) = omega arith in
      rw (more, add-one i) (cuts_cut rules labels (k - suc i) i lines sets e)

  none_left : k ≤ i → with_cuts rules (cuts_made rules labels (k - i) i lines) sets ≡ sets
  unfolding cuts_made with_cuts
  none_left h = let none : k - i ≡ 0 = omega arith in rw none refl

-- ---- one line

module _ (rules : Rules) (tape area : Text) (tokens lines labels : List ℕ) (i : ℕ) {r : Raising} (kept : Kept (bare_listing tape area tokens lines) r) where
  pub line_stays : {x : Bool} → x ≡ dead_at rules tape area tokens lines labels i → x ≡ false → DropRaised rules tape area tokens lines labels i r lines r
  line_stays ex f = record { kept = kept; passed = λ e. refl; cut = λ on e. absurd (true-false e (sym ex ∙ f)) }

  module _ {lines' : List ℕ} (d : Dropped rules tape area tokens lines labels i lines' true) where
    pub line_goes : bare_listing tape area tokens lines' ≡ cut_at i (bare_listing tape area tokens lines)
    line_goes = bare_cut tape area tokens lines i lines' ((d.cut (sym d.told)).1 numbered)

    pub line_drops : {r₁ r₂ : Raising} → Cautioned rules (bare_listing tape area tokens lines) i r r₁
        → Kept (bare_listing tape area tokens lines') r₂
        × (sets_now (bare_listing tape area tokens lines') r₂ ≡ sets_now (bare_listing tape area tokens lines) r₁)
        → DropRaised rules tape area tokens lines labels i r lines' r₂
    line_drops c a =
        record {
          kept = a.0;
          passed = λ e. absurd (true-false (sym d.told) e);
          cut = λ on e. a.1 ∙ c.sets on;
        }

-- ---- line after line

-- the cuts of the lines before line i were made: what was `start` with the tables r₀ is now `lines` with the tables r
pub record Cautioning (rules : Rules) (tape area : Text) (tokens start labels : List ℕ) (r₀ : Raising) (lines : List ℕ) (r : Raising) (i : ℕ) :
    Type 0 where
  pub kept : Kept (bare_listing tape area tokens lines) r
  pub lent : SameLent r₀ r
  pub few : length lines ≤ 256
  pub sets : is_on r₀ ≡ true
      → with_cuts rules (cuts_with rules (labels_now tape area tokens start labels) (bare_listing tape area tokens start))
      (sets_now (bare_listing tape area tokens start) r₀)
      ≡ with_cuts rules (cuts_made rules (labels_now tape area tokens start labels) (length lines - i) i (bare_listing tape area tokens lines))
      (sets_now (bare_listing tape area tokens lines) r)

module _ {rules : Rules} {tape area : Text} {tokens start labels : List ℕ} {r₀ : Raising} where
  pub cautioning_begin : Kept (bare_listing tape area tokens start) r₀ → length start ≤ 256 → Cautioning rules tape area tokens start labels r₀ start r₀ 0
  cautioning_begin k f =
      let all : length start - 0 ≡ length start = omega arith in
      record {
        kept = k;
        lent = same_tables r₀;
        few = f;
        sets = λ on.
            ap (λ (n : ℕ). with_cuts rules (cuts_made rules (labels_now tape area tokens start labels) n 0 (bare_listing tape area tokens start)) (sets_now (bare_listing tape area tokens start) r₀))
            (length-map start _ ∙ sym all);
      }

  module _ {lines : List ℕ} {r : Raising} {i n : ℕ} (s : Cautioning rules tape area tokens start labels r₀ lines r i)
      (t : Cutting rules tape area tokens start labels lines n i) where
    module _ (h : i < length lines) {lines' : List ℕ} {r' : Raising} {x : Bool} (d : Dropped rules tape area tokens lines labels i lines' x)
        (long : length lines' ≡ length lines) (a : DropRaised rules tape area tokens lines labels i r lines' r') (l : SameLent r r') where
      abbrev first_labels : Labels
      first_labels = labels_now tape area tokens start labels

      abbrev now : Listing
      now = bare_listing tape area tokens lines

      dead_by : {b : Bool} → dead_at rules tape area tokens lines labels i ≡ b → dead_result rules first_labels now i ≡ b
      dead_by e = rw (← t.labels_same) e

      passes : dead_at rules tape area tokens lines labels i ≡ false → is_on r₀ ≡ true
          → with_cuts rules (cuts_made rules first_labels (length lines - i) i now) (sets_now now r)
          ≡ with_cuts rules (cuts_made rules first_labels (length lines' - (i + 1)) (i + 1) (bare_listing tape area tokens lines'))
          (sets_now (bare_listing tape area tokens lines') r')
      passes e on = line_passed rules first_labels (length lines) i now (sets_now now r) h (dead_by e) ∙ rw (long, a.passed e, d.kept e) refl

      goes : dead_at rules tape area tokens lines labels i ≡ true → is_on r₀ ≡ true
          → with_cuts rules (cuts_made rules first_labels (length lines - i) i now) (sets_now now r)
          ≡ with_cuts rules (cuts_made rules first_labels (length lines' - (i + 1)) (i + 1) (bare_listing tape area tokens lines'))
          (sets_now (bare_listing tape area tokens lines') r')
      goes e on =
          let cut : bare_listing tape area tokens lines' ≡ cut_at i now = bare_cut tape area tokens lines i lines' ((d.cut e).1 numbered) in
          line_cut rules first_labels (length lines) i now (sets_now now r) h (dead_by e)
          ∙ rw (long, a.cut (on_as_before s.lent ∙ on) e, cut) refl

      pub cautioning_next : Cautioning rules tape area tokens start labels r₀ lines' r' (i + 1)
      cautioning_next =
          record {
            kept = a.kept;
            lent = tables_then s.lent l;
            few = rw long s.few;
            sets = λ on. s.sets on ∙ go on (dead_at rules tape area tokens lines labels i) refl;
          }
        where
          go : is_on r₀ ≡ true → (b : Bool) → dead_at rules tape area tokens lines labels i ≡ b
              → with_cuts rules (cuts_made rules first_labels (length lines - i) i now) (sets_now now r)
              ≡ with_cuts rules (cuts_made rules first_labels (length lines' - (i + 1)) (i + 1) (bare_listing tape area tokens lines'))
              (sets_now (bare_listing tape area tokens lines') r')
          go on true e = goes e on
          go on false e = passes e on

    pub cautioning_end : length lines ≤ i → CutsRaised rules (cuts_with rules (labels_now tape area tokens start labels)) tape area tokens start r₀ lines r
    cautioning_end h =
        record {
          kept = s.kept;
          sets = λ on addresses.
              sym (s.sets on ∙ none_left rules (labels_now tape area tokens start labels) (length lines) i (bare_listing tape area tokens lines) _ h)
              ∙ with_bare rules (labels_now tape area tokens start labels) tape area tokens start addresses (sets_now (bare_listing tape area tokens start) r₀);
        }

-- ---- the labels, gathered before the cuts

module _ (tape area : Text) (tokens lines : List ℕ) {before after : List ℕ} {n : ℕ}
    (g : Gathered (label_places 0 (bare_listing tape area tokens lines)) before after n) where
  pub raised-whole : (rules : Rules) {lines' : List ℕ} {r r' : Raising}
      → CutsRaised rules (cuts_with rules (labels_now tape area tokens lines (take n after))) tape area tokens lines r lines' r'
      → CutsRaised rules (dead_cuts rules) tape area tokens lines r lines' r'
  raised-whole rules {r = r} c =
      record {
        kept = c.kept;
        sets = λ on addresses.
            c.sets on addresses
            ∙ ap (λ (ls : Labels). with_cuts rules (cuts_with rules ls (listing_read tape area tokens addresses lines)) (sets_now (bare_listing tape area tokens lines) r))
            (sym (gathered_labels tape area tokens lines g addresses));
      }
