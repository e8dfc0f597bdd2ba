-- Tables that hold records: one record more, and that what is loaded is in all tables that hold the same records. Assumes nothing.
use Prim.Native.Nat.{ℕ, zero, suc, ◌≤◌, ◌<◌}
use native.Mathlib.Omega.{arith}
use native.Mathlib.Decide.{ℕ_discrete}
use mathlib.Core.Logic.{by_cases}
use mathlib.Core.Path.{◌≡◌, refl, sym, ap, ◌∙◌}
use mathlib.Core.List.{List, [], ◌∷◌, ◌++◌, map}
use mathlib.Core.Option.{Option, none, some}
use lib.Dec.{eqb}
use Rattle.std.specs.Prelude as std
use lib.ListN.{length, take, drop, get_or, set, length-set}
use lib.Seq.{take-suc, get_or-take, get_or-set_same, get_or-set_other, length-take-le}
use Rattle.reference.specs.Control.{when◌then◌else◌}
use Rattle.reference.specs.Text.{Text}
use Rattle.reference.specs.Listing.{Line}
use Rattle.reference.specs.Questions.{Passed}
use Rattle.lines.specs.Words.{tokens_of}
use Rattle.lines.specs.Lines.{line_in}
use Rattle.lines.proofs.words.Each.{map_same}
use Rattle.lines.proofs.words.Lines.{line_word-means}
use Rattle.tables.specs.Records.{blank, flag_of, word_of, RecordFits, Held, Holding, Fitting}
use Rattle.tables.specs.Tables.{Loaded}
use Rattle.tape.specs.declared.questions.Totals.{Totals}
use Rattle.tables.specs.declared.records.LineRecord.{LineRecord}

pub holding_none : (records : List LineRecord) {lines addresses : List ℕ} → 256 ≤ length lines → 256 ≤ length addresses → Holding records 0 lines addresses
holding_none records a b = record { long_lines = a; long_addresses = b; at = λ k h. absurd (omega arith) }

pub flag_low : (o : std.Option ℕ) → flag_of o < 2
flag_low (std.Some a) = omega arith
flag_low std.None = omega arith

-- ---- another record at k: the others are as before

module _ (records : List LineRecord) {n : ℕ} (k n' : ℕ) (r : LineRecord) (here : get_or (set records k r) k blank ≡ r) (others : (j : ℕ) → j < n' → (j ≡ k → ⊥) → j < n) where
  pub fitting-set : Fitting records n → RecordFits r → Fitting (set records k r) n'
  fitting-set f fits j b =
      by_cases (ℕ_discrete j k)
      (λ e. rw (e, here) fits)
      (λ e. rw (get_or-set_other records k j r blank e) (f j (others j b e)))

  module _ {lines addresses : List ℕ} (addresses' : List ℕ) (low : k < 256) (long : length addresses' ≡ length addresses)
      (same : (j : ℕ) → (j ≡ k → ⊥) → get_or addresses' j 0 ≡ get_or addresses j 0) (its : (a : ℕ) → r.address ≡ std.Some a → get_or addresses' k 0 ≡ a)
      (h : Holding records n lines addresses) where
    held_here : Held (get_or (set records k r) k blank) k (set lines k (word_of k r)) addresses'
    held_here =
        rw here
        (record { word = get_or-set_same lines k (word_of k r) 0 (omega (arith, h.long_lines)); address = its })

    held-there : (j : ℕ) → j < n' → (j ≡ k → ⊥) → Held (get_or (set records k r) j blank) j (set lines k (word_of k r)) addresses'
    held-there j b e =
        let o = h.at j (others j b e) in
        rw (get_or-set_other records k j r blank e)
        (record { word = get_or-set_other lines k j (word_of k r) 0 e ∙ o.word; address = λ a f. same j e ∙ o.address a f })

    pub holding-set : Holding (set records k r) n' (set lines k (word_of k r)) addresses'
    holding-set =
        record {
          long_lines = rw length-set h.long_lines;
          long_addresses = omega (arith, h.long_addresses);
          at = λ j b. by_cases (ℕ_discrete j k) (λ e. rw e held_here) (held-there j b);
        }

-- the first records of them
module _ (records : List LineRecord) (n : ℕ) where
  pub holding-front : {lines addresses : List ℕ} → n ≤ length records → Holding (take n records) (length (take n records)) lines addresses → Holding records n lines addresses
  holding-front {lines} {addresses} few h =
      record {
        long_lines = h.long_lines;
        long_addresses = h.long_addresses;
        at = λ k b. rw (get_or-take n records k blank b) at (h.at k (omega (arith, length-take-le n records few)));
      }

-- ---- tables that hold the same records

take_same : (n : ℕ) (l l' : List ℕ) → n ≤ length l → n ≤ length l' → ((k : ℕ) → k < n → get_or l k 0 ≡ get_or l' k 0) → take n l ≡ take n l'
take_same zero l l' a b e = refl
take_same (suc n) l l' a b e =
    let front = take_same n l l' (omega arith) (omega arith) (λ k h. e k (omega arith)) in
    let same : (take n l ++ (get_or l n 0 ∷ [])) ≡ (take n l' ++ (get_or l' n 0 ∷ [])) = rw (front, e n (omega arith)) in
    take-suc l n 0 (omega arith) ∙ same ∙ sym (take-suc l' n 0 (omega arith))

module _ {records : List LineRecord} {n : ℕ} {lines addresses lines' addresses' : List ℕ} (few : n ≤ 256) (f : Fitting records n)
    (h : Holding records n lines addresses) (h' : Holding records n lines' addresses') where
  same_words : take n lines ≡ take n lines'
  same_words =
      take_same n lines lines' (omega (arith, h.long_lines)) (omega (arith, h'.long_lines)) (λ k b. (h.at k b).word ∙ sym (h'.at k b).word)

  same_address : (k : ℕ) → k < n
      → let f = flag_of (get_or records k blank).address in
      (when eqb f 1 then some (get_or addresses k 0) else none) ≡ (when eqb f 1 then some (get_or addresses' k 0) else none)
  unfolding when◌then◌else◌
  same_address k b = either (get_or records k blank).address (h.at k b).address (h'.at k b).address
    where
      either : (o : std.Option ℕ) {x y : ℕ} → ((a : ℕ) → o ≡ std.Some a → x ≡ a) → ((a : ℕ) → o ≡ std.Some a → y ≡ a)
          → (when eqb (flag_of o) 1 then some x else none) ≡ (when eqb (flag_of o) 1 then some y else none)
      either (std.Some a) f g = ap some (f a refl ∙ sym (g a refl))
      either std.None f g = refl

  module _ (tape area : Text) (tokens : List ℕ) where
    same_line : (k : ℕ) → k < n → line_in tape area tokens addresses (get_or lines k 0) ≡ line_in tape area tokens addresses' (get_or lines k 0)
    same_line k b =
        let r : LineRecord = get_or records k blank in
        let fits = f k b in
        let means = line_word-means r.first r.count r.indent (flag_of r.address) k fits.first fits.count fits.indent (flag_low r.address) (omega arith) tape area tokens in
        let line : Option ℕ → Line = λ a. record { address = a; indent = r.indent; tokens = tokens_of tape area (take r.count (drop r.first tokens)) } in
        rw (h.at k b).word (means addresses ∙ ap line (same_address k b) ∙ sym (means addresses'))

    pub same_listing : map (line_in tape area tokens addresses) (take n lines) ≡ map (line_in tape area tokens addresses') (take n lines')
    same_listing =
        let long : length (take n lines) ≡ n = length-take-le n lines (omega (arith, h.long_lines)) in
        map_same (line_in tape area tokens addresses) (line_in tape area tokens addresses') (take n lines)
        (λ k b. let b' : k < n = omega arith in rw (get_or-take n lines k 0 b') (same_line k b'))
        ∙ ap (map (line_in tape area tokens addresses')) same_words

-- what is loaded is loaded in all of them
pub loaded-held : {tape tokens : List ℕ} {records : List LineRecord} {r : Totals} {lines addresses lines' addresses' : List ℕ} → r.lines ≤ 256 → Fitting records r.lines
    → Holding records r.lines lines addresses → Holding records r.lines lines' addresses' → Loaded tape tokens lines addresses r → Loaded tape tokens lines' addresses' r
loaded-held {tape} {tokens} {r = r} few f h h' l =
    record {
      listing = λ area. l.listing area ∙ ap Passed (same_listing few f h h' tape area (take r.tokens tokens));
      listed = λ area. rw (same_words few f h h') at (l.listed area);
      holds = l.holds;
      totals = l.totals;
    }
