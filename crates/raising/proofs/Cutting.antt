-- What a cut puts on the lines: its own line gets what the spreading answers. Assumes nothing.
use Prim.Native.Nat.{ℕ, ◌-◌, ◌≤◌, ◌<◌}
use native.Mathlib.Omega.{arith}
use mathlib.Core.Path.{◌≡◌, refl, sym, ap, ◌∙◌}
use mathlib.Core.Bool.{Bool, true, false, false≢true}
use mathlib.Core.List.{List, [], ◌∷◌}
use lib.Dec.{eqb, ltb}
use lib.ListN.{length, get_or, set, take, drop, length-set}
use Rattle.std.specs.List.{drop-map}
use lib.Seq.{ext_get_or, get_or-set_same, get_or-set_other, get_or-take, length-take-le, take-set-lt}
use borrow.Author.Tests.{eq-eqb}
use Rattle.std.proofs.Common.{eqb-true}
use Rattle.std.specs.Int.Bits.{or_zero_r}
use Rattle.std.proofs.lemmas.Nat.{or_comm}
use Rattle.std.proofs.lemmas.List.{drop_all}
use Rattle.laws.proofs.Parts.{to_end}
use Rattle.laws.proofs.Scans.{by_test}
use Rattle.reference.specs.Control.{not, ◌and◌, ◌or◌, when◌then◌else◌}
use Rattle.reference.specs.Lists.{any}
use Rattle.reference.specs.Text.{Text, bytes}
use Rattle.reference.specs.Listing.{Token, Listing, ◌at◌}
use Rattle.reference.specs.Rules.{Rules, volatile}
use Rattle.cautions.specs.Kinds.{odd_form, still_read, ◌∪◌, ◌given◌}
use Rattle.cautions.specs.Forms.{ways, reads, reached_from}
use Rattle.cautions.specs.Joins.{put, dark_in, stale_in, cut_cautions}
use Rattle.cautions.specs.Cautions.{both}
use Rattle.cautions.proofs.Handed.{length-put}
use Rattle.lines.specs.Words.{Holds}
use Rattle.lines.specs.Texts.{fam_text, tokens_of}
use Rattle.lines.specs.declared.texts.Texts.{Texts}
use Rattle.lines.specs.Fams as Fams
use Rattle.lines.proofs.words.Tokens.{holds-drop}
use Rattle.flow.specs.Reaching.{reached_table}
use Rattle.flow.proofs.Spreading.{reached_is, reached_at}
use Rattle.raising.specs.Spread.{Notes, far, others, marked, far_kinds}
use Rattle.raising.proofs.Putting.{filter_same, put_here, both_spread}

abbrev pub RAX : Text
RAX = bytes "rax"

pub rax_is : (t : Texts) → fam_text t 0 ≡ RAX
unfolding Fams.fam_text when◌then◌else◌
rax_is t = refl

-- ---- whether the line itself reads it

module _ (t : Texts) (ws : List ℕ) {ts : List Token} (e : tokens_of t ws ≡ ts) {s : Bool} (seen : s ≡ true) where
  cut_is : tokens_of t (drop 2 ws) ≡ drop 2 ts
  cut_is = sym (drop-map _ 2 ws) ∙ ap (drop 2) e

  pub again_short : length ws < 2 → false ≡ (s and reads RAX (drop 2 ts))
  unfolding reads ◌and◌
  again_short h = rw (seen, ← cut_is, drop_all 2 ws (omega arith)) refl

  pub again_read : {x : Bool} → x ≡ reads (fam_text t 0) (tokens_of t (take (length ws - 2) (drop 2 ws))) → x ≡ (s and reads RAX (drop 2 ts))
  unfolding ◌and◌
  again_read ex = rw (seen, ← cut_is) (ex ∙ rw (to_end 2 ws, rax_is t) refl)

pub holds_cut : {tape area : Text} (ws : List ℕ) → Holds tape area ws → Holds tape area (take (length ws - 2) (drop 2 ws))
holds_cut ws h = rw (to_end 2 ws) (holds-drop h 2)

-- ---- the sets

-- one set
put_one : (s i : ℕ) (ts : List ℕ) → i < length ts → put s (i ∷ []) 0 ts ≡ set ts i (get_or ts i 0 ∪ s)
unfolding ◌given◌ ◌or◌ when◌then◌else◌
put_one s i ts h =
    ext_get_or 0 (put s (i ∷ []) 0 ts) (set ts i (get_or ts i 0 ∪ s)) (length-put s (i ∷ []) 0 ts ∙ sym (length-set ts i _))
    (λ k b.
    let l : k < length ts = omega (arith, length-put s (i ∷ []) 0 ts) in
    put_here s (i ∷ []) ts k l
    ∙ by_test (eqb k i)
    (λ t. let e = eqb-true k i t in rw (e, eq-eqb i i refl, get_or-set_same ts i (get_or ts i 0 ∪ s) 0 h) refl)
    (λ f. rw (f, get_or-set_other ts i k (get_or ts i 0 ∪ s) 0 (λ e. false≢true (sym f ∙ eq-eqb k i e))) (or_zero_r (get_or ts k 0))))

module _ (rules : Rules) (ls : Listing) (i : ℕ) (fam : Text) where
  -- line i is no other by itself
  others_alone : others rules ls i fam (i ∷ []) ≡ others rules ls i fam []
  unfolding ◌or◌
  others_alone = filter_same (λ k. ltb k (length ls) and not (any (eqb k) (i ∷ i ∷ []))) (λ k. ltb k (length ls) and not (any (eqb k) (i ∷ []))) (far rules ls i fam [])
      (λ k. by_test (eqb k i) (λ e. rw e refl) (λ f. rw f refl))

  marked_alone : (sets : List ℕ) → marked rules ls i fam (i ∷ []) sets ≡ marked rules ls i fam [] sets
  unfolding marked
  marked_alone sets =
      ap
      (λ (o : List ℕ). put odd_form (dark_in rules ls (ways ls) i fam (far rules ls i fam []) o) 0 (put still_read (stale_in rules ls (ways ls) i fam (far rules ls i fam []) o) 0 sets))
      others_alone

  kinds_alone : (again : Bool) → far_kinds rules ls i fam (i ∷ []) again ≡ far_kinds rules ls i fam [] again
  unfolding far_kinds
  kinds_alone again = rw others_alone refl

-- no line is rewritten
pub none_noted : (ls : Listing) → Notes ls [] []
none_noted ls = λ k e. refl

module _ (rules : Rules) (ls : Listing) (i : ℕ) (sets sets' : List ℕ) (n : ℕ) (long : length ls ≡ n) (inside : i < n) (room : n ≤ length sets) (same : length sets' ≡ length sets)
    (seen : List Bool) (table : seen ≡ reached_table ls i RAX (volatile rules)) {again : Bool} (ea : again ≡ (get_or seen i false and reads RAX (drop 2 (ls at i).tokens))) where
  far_at : any (eqb i) (far rules ls i RAX []) ≡ get_or seen i false
  far_at = ap (any (eqb i)) (reached_is ls i RAX (volatile rules) (omega (arith, long)) ∙ ap (reached_from 0) (sym table)) ∙ reached_at seen i

  pub cut_raised : {own : ℕ} → take n sets' ≡ marked rules ls i RAX [] (take n sets) → own ≡ far_kinds rules ls i RAX [] again
      → take n (set sets' i (get_or sets' i 0 ∪ own)) ≡ both (take n sets) (cut_cautions rules ls i)
  unfolding cut_cautions
  cut_raised {own} em eo =
      let front : List ℕ = take n sets' in
      let front_long : length front ≡ n = length-take-le n sets' (omega (arith, room, same)) in
      let old_long : length (take n sets) ≡ n = length-take-le n sets room in
      take-set-lt n sets' i (get_or sets' i 0 ∪ own) inside
      ∙ ap (λ (x : ℕ). set front i (x ∪ own)) (sym (get_or-take n sets' i 0 inside))
      ∙ sym (put_one own i front (omega (arith, front_long, inside)))
      ∙ rw (em, eo, ea, ← far_at)
      (rw (← marked_alone rules ls i RAX (take n sets), ← kinds_alone rules ls i RAX (any (eqb i) (far rules ls i RAX []) and reads RAX (drop 2 (ls at i).tokens)))
      (sym (both_spread rules ls i RAX 0 (i ∷ []) (any (eqb i) (far rules ls i RAX []) and reads RAX (drop 2 (ls at i).tokens)) (take n sets) (old_long ∙ sym long)
      ∙ ap (λ (x : ℕ). put x (i ∷ []) 0 (marked rules ls i RAX (i ∷ []) (take n sets))) (or_comm 0 _ ∙ or_zero_r _))))
