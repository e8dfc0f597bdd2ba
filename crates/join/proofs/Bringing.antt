-- What the second set has, brought back to the first: it stands at the same places there, so it means the same. Assumes nothing.
use Prim.Native.Nat.{ℕ, ◌+◌, ◌-◌, ◌≤◌}
use native.Mathlib.Omega.{arith}
use mathlib.Core.Path.{◌≡◌, sym, ap, ◌∙◌}
use mathlib.Core.List.{List, ◌++◌}
use lib.ListN.{length, take, drop, length-append, length-take, length-drop}
use lib.Seq.{take-append-le, length-take-le}
use borrow.Rule.Slice.PartMut.{put_mid, same_len_mid}
use Rattle.std.proofs.lemmas.Slice.{take-put_mid}
use Rattle.reference.specs.Text.{Text}
use Rattle.reference.specs.Rules.{Rules}
use Rattle.laws.proofs.Parts.{drop-take}
use Rattle.joining.specs.Plan.{act}
use Rattle.lines.specs.Lines.{Reading, listing_read, Listed}
use Rattle.plan.specs.declared.plans.Join.{Join}
use Rattle.lines.specs.declared.texts.Size.{Size}
use Rattle.join.specs.Building.{plan_of, Acted}
use Rattle.join.specs.Patching.{need_from, Spare, mixed, Patched}

-- what was copied behind what was there before
moved : (to from : List ℕ) {ys : List ℕ} (m n : ℕ) → m ≤ n → n ≤ length to → n ≤ length from → ys ≡ take (n - m) (drop m from)
    → (take n (put_mid m (n - m) to ys) ≡ mixed (take m to) m n from) × (n ≤ length (put_mid m (n - m) to ys))
moved to from {ys} m n mn h b e =
    let size : length ys ≡ n - m = ap length e ∙ rw (length-take, length-drop) (omega arith) in (
      take-put_mid m (n - m) to ys n (omega arith) (omega arith) ∙ rw (drop-take m n from, e),
      rw (same_len_mid m (n - m) to ys (size ∙ sym (length-take-le (n - m) (drop m to) (rw length-drop (omega arith))))) h,
    )

-- a listing of the second set, whose texts and words are those of the first now
module _ {rules : Rules} {tape old : Text} {words lines : List ℕ} {j : Join} (text : Text) (tokens part rest : List ℕ) {size : Size} {area' : Text} {tokens' : List ℕ} where
  acted_in : Listed tape text tokens (take size.lines part)
      → ((addresses : Reading) → listing_read tape text tokens addresses (take size.lines part) ≡ act rules (listing_read tape old words addresses lines) j.line (plan_of tape old words lines j))
      → size.lines ≤ length part → size.text ≤ length area' → size.tokens ≤ length tokens' → take size.text area' ≡ text → take size.tokens tokens' ≡ tokens
      → Acted rules tape old words lines j area' tokens' (part ++ rest) size
  acted_in listed means hl ha ht et ew =
      let el : take size.lines (part ++ rest) ≡ take size.lines part = take-append-le size.lines part rest hl in
      record {
        current = record { text_fits = ha; words_fit = ht; lines_fit = omega (arith, length-append part rest); listed = rw (et, ew, el) listed };
        means = rw (et, ew, el) means;
      }

-- what was written behind the used marks
pub settled : {rules : Rules} {tape : Text} (area : Text) (tokens : List ℕ) {lines : List ℕ} {j : Join} {from : Size} {area2 : Text} {tokens2 part : List ℕ} {size : Size}
    → Patched rules tape (take from.text area) (take from.tokens tokens) lines j from area2 tokens2 part size
    → Spare area tokens from (need_from (take from.tokens tokens) lines j (j.line + 1)) → Spare area2 tokens2 from (need_from (take from.tokens tokens) lines j (j.line + 1))
    → (rest : List ℕ) {ys zs : List ℕ} → ys ≡ take (size.text - from.text) (drop from.text area2) → zs ≡ take (size.tokens - from.tokens) (drop from.tokens tokens2)
    → Acted rules tape (take from.text area) (take from.tokens tokens) lines j (put_mid from.text (size.text - from.text) area ys)
    (put_mid from.tokens (size.tokens - from.tokens) tokens zs) (part ++ rest) size
settled area tokens {from} {area2} {tokens2} {part} {size} p s s2 rest et ew =
    let text = moved area area2 from.text size.text p.text_from (omega (arith, p.text_few, s.text_fits)) (omega (arith, p.text_few, s2.text_fits)) et in
    let words = moved tokens tokens2 from.tokens size.tokens p.words_from (omega (arith, p.words_few, s.words_fit)) (omega (arith, p.words_few, s2.words_fit)) ew in
    acted_in (mixed (take from.text area) from.text size.text area2) (mixed (take from.tokens tokens) from.tokens size.tokens tokens2) part rest
    p.listed p.means p.lines_fit text.1 words.1 text.0 words.0
