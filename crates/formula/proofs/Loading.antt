-- What was loaded from a tape can be asked for the profile, and the answer is that of the tape's listing. Assumes nothing.
use Rattle.std.proofs.Common.{◌≡◌, ℕ, zero, suc, ◌<◌, ◌≤◌, List, [], ◌∷◌, map, length, get_or, take, sym, ap, ◌∙◌, arith}
use Rattle.reference.specs.Listing.{Listing}
use Rattle.reference.specs.Questions.{Passed, read}
use Rattle.reference.specs.Straight.{breaks}
use Rattle.reference.proofs.Limits.{All, TokenFits, LineFits}
use Rattle.reference.proofs.Reading.{passed_inj}
use Rattle.reference.proofs.Tapes.{read-limits}
use Rattle.lines.specs.Words.{token_of, Holds}
use Rattle.lines.specs.Lines.{part_of, Reading, own, line_read, listing_read}
use Rattle.lines.proofs.words.Tokens.{text_length}
use Rattle.tape.specs.declared.questions.Totals.{Totals}
use Rattle.tables.specs.Tables.{Loaded, LoadedIf}
use Rattle.formula.specs.Tabled.{TabledIf}
use Rattle.answers.specs.declared.Refusal.{Refusal}
use Rattle.tables.proofs.loading.Loaded.{loaded-limits}
use Rattle.formula.specs.Places.{Readable}
use Rattle.formula.specs.Profile.{Filled}
use Rattle.std.specs.Prelude as std
use Rattle.std.specs.Prelude.{Result, Ok, Err}
use Rattle.reference.specs.Options.{option_of}

mapped_at : {A B : Type 0} (P : B → Type 0) (f : A → B) (xs : List A) (d : A) → All P (map f xs) → (k : ℕ) → k < length xs → P (f (get_or xs k d))
mapped_at P f [] d h k l = absurd (omega arith)
mapped_at P f (x ∷ xs) d h zero l = h.0
mapped_at P f (x ∷ xs) d h (suc k) l = mapped_at P f xs d h.1 k (omega arith)

-- the tables of a tape, without the marks of its lines
pub tabled : (tape tokens lines addresses lows highs : List ℕ) (r : Result Totals Refusal) → LoadedIf tape tokens lines addresses lows highs r → TabledIf tape tokens lines r
tabled tape tokens lines addresses lows highs (Ok t) l = (addresses, l.0)
tabled tape tokens lines addresses lows highs (Err r) l = tt

module _ (tape tokens lines addresses : List ℕ) (t : Totals) (l : Loaded tape tokens lines addresses t) where
  pub filled : Filled tape (take t.tokens tokens) (take t.lines lines)
  filled = record { listed = l.listed tape; readable = readable }
    where
      words : List ℕ
      words = take t.tokens tokens

      readable : (k : ℕ) → k < length (take t.lines lines) → Readable tape tape (part_of (take t.tokens tokens) (get_or (take t.lines lines) k 0))
      readable k h =
          let here = (l.listed tape).at k h in
          let limits = read-limits tape _ (l.listing tape) in
          let line = mapped_at LineFits (line_read tape tape (take t.tokens tokens) (own addresses)) (take t.lines lines) 0 limits.each k h in
          let part : List ℕ = part_of (take t.tokens tokens) (get_or (take t.lines lines) k 0) in
          record {
            holds = here.holds;
            filled =
                λ j hj.
                (let token = mapped_at TokenFits (token_of tape tape) part 0 line.tokens j hj in
                omega (arith, token.some_text, text_length (here.holds.at j hj)));
          }

  pub pointing : Holds tape tape (take t.tokens tokens)
  pointing = l.holds tape

  pub words_fit : 1024 ≡ length tokens → t.tokens ≤ length tokens
  words_fit e = omega (arith, loaded-limits l)

  pub lines_fit : 256 ≡ length lines → t.lines ≤ length lines
  lines_fit e = omega (arith, loaded-limits l)

  pub breaks_is : (r : std.Option ℕ) → ((reading : Reading) → option_of r ≡ breaks (listing_read tape tape (take t.tokens tokens) reading (take t.lines lines)))
      → (input : Listing) → read tape ≡ Passed input → option_of r ≡ breaks input
  breaks_is r h input e = h (own addresses) ∙ ap breaks (passed_inj (sym (l.listing tape) ∙ e))
