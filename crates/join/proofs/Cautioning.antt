-- The cautions of an attempt: what the two halves of the raising ask of the listing, and what they leave. Assumes nothing.
use Prim.Native.Nat.{ℕ, zero, suc, ◌≤◌, ◌<◌}
use native.Mathlib.Omega.{arith}
use mathlib.Core.Path.{◌≡◌, refl}
use mathlib.Core.List.{List, [], ◌∷◌}
use lib.ListN.{length, get_or, length-map, length-take}
use Rattle.reference.specs.Text.{Text}
use Rattle.reference.specs.Listing.{Listing, blank}
use Rattle.reference.specs.Rules.{Rules}
use Rattle.reference.specs.Claim.{token_count}
use Rattle.joining.specs.Limits.{RunLimits}
use Rattle.joining.specs.Plan.{Plan}
use Rattle.joining.proofs.Acting.{changes-later}
use Rattle.joining.proofs.Uses.{uses_upto}
use Rattle.lines.specs.Lines.{part_of}
use Rattle.lines.specs.declared.texts.Listing as held
use Rattle.lines.specs.declared.texts.Size.{Size}
use Rattle.lines.proofs.words.Lines.{bare_at}
use Rattle.plan.specs.declared.plans.Join.{Join}
use Rattle.build.specs.State.{used}
use Rattle.build.specs.Added.{used_words}
use Rattle.raising.specs.Steps.{changed_from, Joinable}
use Rattle.join.specs.declared.workspace.Workspace.{Workspace}
use Rattle.join.specs.Contents.{Contents, contents, used_lines, bare_now}
use Rattle.join.specs.Workspaces.{Current, Plannable, Stands}

-- ---- the lines that a plan changes are its uses

pub changed_uses : (vol : List Text) (i : ℕ) (p : Plan) (k : ℕ) (ls : Listing) → i < k → changed_from vol i p k ls ≡ uses_upto p.fam vol p.last k ls
unfolding changed_from uses_upto
changed_uses vol i p k [] h = refl
changed_uses vol i p k (l ∷ ls) h = rw (changes-later vol i p k l h, changed_uses vol i p (suc k) ls (omega arith))

-- ---- before the plan is carried out

-- no line has more tokens than the listing
few_at : (lines : Listing) (i : ℕ) → length (get_or lines i blank).tokens ≤ token_count lines
few_at [] i = omega arith
few_at (l ∷ lines) zero = omega arith
few_at (l ∷ lines) (suc i) = omega (arith, few_at lines i)

module _ (rules : Rules) (tape : Text) (w : Workspace) (size : Size) (j : Join) (p : Plannable rules tape w size j)
    (c : Current tape w size) (limits : RunLimits (bare_now (contents tape w size))) (short : length w.tokens.now ≤ 65536) where
  abbrev s : Contents
  s = contents tape w size

  few_lines : length (used_lines s) ≤ 256
  few_lines = rw length-map at limits.lines_fit

  few_tokens : length (used_words s.tokens size) ≤ 65536
  few_tokens = omega (arith, length-take size.tokens w.tokens.now, short)

  few_words : length (part_of (used_words s.tokens size) (get_or (used_lines s) j.line 0)) ≤ 1024
  few_words =
      let area : Text = used s.area size in
      let words : List ℕ = used_words s.tokens size in
      let here = few_at (bare_now s) j.line in
      omega (
        arith,
        rw (bare_at tape area words [] (used_lines s) j.line p.inside, length-map) at here,
        limits.fits.few,
      )

  pub joinable : {h : held.Listing} → Stands tape w size h → Joinable rules h j
  joinable e = record {
    listed = rw (e.tape_is, e.area_is, e.tokens_are, e.lines_are) c.listed;
    lines_few = rw e.lines_are few_lines;
    tokens_few = rw e.tokens_are few_tokens;
    line_few = rw (e.tokens_are, e.lines_are) few_words;
    inside = rw e.lines_are p.inside;
    joins = rw (e.tape_is, e.area_is, e.tokens_are, e.lines_are) p.joins;
    planned = rw (e.tape_is, e.area_is, e.tokens_are, e.lines_are) p.planned;
  }
