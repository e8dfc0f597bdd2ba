-- What a caller has of the tables that `load` filled: they are within the limits, words that were coded hold the same listing, and the numbers of
-- the input lines rise. Assumes nothing.
use Prim.Native.Nat.{ℕ, suc, ◌+◌, ◌≤◌, ◌<◌}
use native.Mathlib.Omega.{arith}
use mathlib.Core.Path.{◌≡◌, sym, ap, ◌∙◌}
use mathlib.Core.List.{List, [], ◌∷◌, map}
use lib.ListN.{length, take, get_or, length-map}
use lib.Seq.{get_or-take, length-take-le}
use Rattle.reference.specs.Text.{Text}
use Rattle.reference.specs.Questions.{Passed}
use Rattle.reference.proofs.Reading.{passed_inj, let_is}
use Rattle.reference.proofs.Tapes.{read-limits}
use Rattle.joining.specs.Carried.{Rising}
use Rattle.lines.specs.Lines.{origin_of, listing_of}
use Rattle.lines.specs.Words.{Holds, Recodes}
use Rattle.lines.proofs.words.Each.{map_at}
use Rattle.lines.proofs.codes.Recoding.{listed_recoded, listing_recoded}
use Rattle.tape.specs.Questions.{Sizes, sizes_of, sizes_in}
use Rattle.tables.specs.Tables.{Loaded, LoadedMarks}
use Rattle.tape.specs.declared.questions.Totals.{Totals}

module _ {tape tokens lines addresses : List ℕ} {r : Totals} (l : Loaded tape tokens lines addresses r) where
  pub loaded-limits : (r.lines ≤ 256) × (r.tokens ≤ 1024) × (r.text ≤ 24576)
  loaded-limits =
      let e = l.listing [] in
      let limits = read-limits tape _ e in
      let t : sizes_in (listing_of tape [] (take r.tokens tokens) addresses (take r.lines lines)) ≡ sizes_of r =
      passed_inj (sym (let_is (λ lines. Passed (sizes_in lines)) e) ∙ l.totals) in
      omega
      (arith, limits.few_lines, limits.few_tokens, limits.short_text, ap (λ (t : Sizes). t.lines) t, ap (λ (t : Sizes). t.tokens) t, ap (λ (t : Sizes). t.text) t)

holds_recoded : {tape ws us : List ℕ} → Recodes tape ws us → (area : Text) → Holds tape area ws → Holds tape area us
holds_recoded c area h = record { at = λ k b. (let e = c.long in (c.at k (omega arith)).points area (h.at k (omega arith))) }

-- the same listing, where the words in front were coded
pub loaded_recoded : {tape plain tokens lines addresses : List ℕ} {r : Totals} → Recodes tape (take r.tokens plain) (take r.tokens tokens)
    → Loaded tape plain lines addresses r → Loaded tape tokens lines addresses r
loaded_recoded {lines = lines} {addresses = addresses} {r = r} c l =
    record {
      listing = λ area. l.listing area ∙ ap Passed (sym (listing_recoded c area addresses (take r.lines lines)));
      listed = λ area. listed_recoded c (l.listed area);
      holds = λ area. holds_recoded c area (l.holds area);
      totals = l.totals;
    }

-- ---- the numbers of the input lines rise: no two lines have the same

rising-from : (k : ℕ) (os : List ℕ) → ((i : ℕ) → i < length os → get_or os i 0 ≡ k + i) → Rising k os
rising-from k [] h = tt
rising-from k (o ∷ os) h =
    let first : o ≡ k + 0 = h 0 (omega arith) in
    (omega arith, rising-from (suc o) os (λ i b. (let next : get_or os i 0 ≡ k + suc i = h (suc i) (omega arith) in omega arith)))

pub loaded-rising : {tape lines lows highs : List ℕ} {r : Totals} → r.lines ≤ length lines → LoadedMarks tape lines lows highs r
    → Rising 0 (map origin_of (take r.lines lines))
loaded-rising {lines = lines} {r = r} long m =
    let front : List ℕ = take r.lines lines in
    let n : length front ≡ r.lines = length-take-le r.lines lines long in
    let few : length (map origin_of front) ≡ length front = length-map front origin_of in
    rising-from 0 (map origin_of front)
    (λ i b.
    (let low : i < r.lines = omega arith in
    let here : i ≡ 0 + i = omega arith in
    map_at origin_of front i 0 (omega arith) ∙ ap origin_of (get_or-take r.lines lines i 0 low) ∙ m.origins i low ∙ here))
