-- `killed_first` and `dead_from`, line by line: what one line decides, and the turns of the loops over the lines. Assumes nothing.
use Prim.Native.Nat.{ℕ, suc, ◌+◌, ◌-◌, ◌≤◌, ◌<◌}
use native.Mathlib.Numerals.{add-one}
use mathlib.Core.Path.{◌≡◌, refl, sym, ◌∙◌}
use mathlib.Core.Bool.{Bool, true, false}
use mathlib.Core.List.{List, ◌∷◌}
use lib.Dec.{leb}
use lib.ListN.{length, get_or, take, drop, drop_of_length-le}
use lib.Seq.{drop-cons}
use borrow.Author.Tests.{le-leb, lt-leb}
use Rattle.reference.specs.Control.{◌and◌, when◌then◌else◌, let_some◌else◌then◌}
use Rattle.reference.specs.Text.{Text, bytes, has}
use Rattle.reference.specs.Listing.{Line, Listing}
use Rattle.reference.specs.Shapes.{has_kw, kw_in}
use Rattle.reference.specs.Life.{Touch, None, Kill, Use, touch, touch_of, match_touch, Labels, killed_first, goto_target, rerun_kills, while_passes, goto_passes, scan, dead_from, dead_after}
use Rattle.laws.proofs.Parts.{drop-take}
use Rattle.lines.specs.Codes.{family_number}
use Rattle.lines.specs.Lines.{indent_of, part_of, bare_in, bare_listing, Lined}
use Rattle.lines.specs.Words.{tokens_of}
use Rattle.lines.proofs.words.Each.{map-take, map-drop}
use Rattle.linefacts.specs.Transparent.{is_transparent_save_calls, is_transparent, is_calling}
use Rattle.linefacts.proofs.Lacking.{save-calls_kw, save-calls_goto, transparent_save_calls, transparent_touch, calling-save-calls, calling-kills, calling_keeps}
use Rattle.life.specs.declared.touches.Touched.{Touched}
use Rattle.life.specs.declared.touches.Touched.TheVariants.{Nothing, Kill as Kills, Use as Uses}
use Rattle.life.specs.declared.liveness.Liveness.{Liveness}
use Rattle.life.specs.declared.liveness.Liveness.TheVariants.{Dead, Live, Open}
use Rattle.life.specs.Touches.{touched}
use Rattle.life.specs.Liveness.{decided, line_liveness, returns_at, or_returns, scan_liveness, liveness_after}

-- ---- one line

module _ (tape area : Text) (tokens : List ℕ) (l : ℕ) (fam : Text) (deep : ℕ) (vs : List Text) {ws : List ℕ} (ew : ws ≡ part_of tokens l)
    (t : Touched) (h : touched t ≡ touch_of (tokens_of tape area ws) fam vs) where
  by_touch : line_liveness fam deep vs (bare_in tape area tokens l) ≡ match_touch (touched t) Open (when leb (indent_of l) deep then Dead else Open) (λ n. Live)
  unfolding line_liveness
  by_touch = rw (← ew, ← h)

  pub liveness_use : {n : ℕ} → t ≡ Uses n → Live ≡ line_liveness fam deep vs (bare_in tape area tokens l)
  unfolding match_touch
  liveness_use e = sym (by_touch ∙ rw e)

  pub liveness_none : t ≡ Nothing → Open ≡ line_liveness fam deep vs (bare_in tape area tokens l)
  unfolding match_touch
  liveness_none e = sym (by_touch ∙ rw e)

  module _ (e : t ≡ Kills) {k : ℕ} (ek : k ≡ indent_of l) where
    pub liveness_kill : k ≤ deep → Dead ≡ line_liveness fam deep vs (bare_in tape area tokens l)
    unfolding match_touch when◌then◌else◌
    liveness_kill b = sym (by_touch ∙ rw (e, ← ek, le-leb k deep b))

    pub liveness_deep : deep < k → Open ≡ line_liveness fam deep vs (bare_in tape area tokens l)
    unfolding match_touch when◌then◌else◌
    liveness_deep b = sym (by_touch ∙ rw (e, ← ek, lt-leb k deep b))

-- ---- `killed_first`

module _ (fam : Text) (deep : ℕ) (vs : List Text) where
  killed_line : (l : Line) (ls : Listing) → killed_first (l ∷ ls) fam deep vs ≡ decided (line_liveness fam deep vs l) (killed_first ls fam deep vs)
  unfolding killed_first line_liveness match_touch when◌then◌else◌
  killed_line l ls = go (touch l fam vs) (leb l.indent deep)
    where
      next : Bool
      next = killed_first ls fam deep vs

      go : (t : Touch) (b : Bool) → match_touch t next (when b then true else next) (λ n. false) ≡ decided (match_touch t Open (when b then Dead else Open) (λ n. Live)) next
      go None b = refl
      go Kill true = refl
      go Kill false = refl
      go (Use n) b = refl

  -- x is what the definition says of all lines
  module _ (tape area : Text) (tokens lines : List ℕ) (k : ℕ) {x : Bool} (inv : x ≡ killed_first (bare_listing tape area tokens (drop k lines)) fam deep vs) where
    module _ (h : k < length lines) (r : Liveness) (e : r ≡ line_liveness fam deep vs (bare_in tape area tokens (get_or lines k 0))) where
      killed_step : x ≡ decided r (killed_first (bare_listing tape area tokens (drop (k + 1) lines)) fam deep vs)
      killed_step = inv ∙ rw (e, add-one k, drop-cons lines k 0 h) (killed_line _ _)

      pub killed_dead : r ≡ Dead → true ≡ x
      killed_dead f = sym (killed_step ∙ rw f)

      pub killed_live : r ≡ Live → false ≡ x
      killed_live f = sym (killed_step ∙ rw f)

      pub killed_open : r ≡ Open → x ≡ killed_first (bare_listing tape area tokens (drop (k + 1) lines)) fam deep vs
      killed_open f = killed_step ∙ rw f

    pub killed_end : length lines ≤ k → false ≡ x
    unfolding killed_first
    killed_end h = sym (inv ∙ rw (drop_of_length-le lines {i = k} h))

-- the lines that a jump back runs again
pub rerun_part : (tape area : Text) (tokens lines : List ℕ) (fam : Text) (start : ℕ) (vs : List Text) (to indent : ℕ) {x : Bool}
    → x ≡ killed_first (bare_listing tape area tokens (take (start + 1 - (to + 1)) (drop (to + 1) lines))) fam (indent + 1) vs
    → x ≡ rerun_kills (bare_listing tape area tokens lines) fam start vs to indent
unfolding rerun_kills
rerun_part tape area tokens lines fam start vs to indent e =
    e ∙ rw (← drop-take, map-drop, map-take, add-one to, add-one start)

-- ---- `dead_from`

-- a line that returns, where the indent is looked at first
module _ (tape area : Text) (tokens : List ℕ) (l base : ℕ) {k : ℕ} (ek : k ≡ indent_of l) where
  pub returns_deep : base < k → false ≡ returns_at base (bare_in tape area tokens l)
  unfolding returns_at ◌and◌
  returns_deep h = rw (← ek, lt-leb k base h) (last (kw_in (tokens_of tape area (part_of tokens l)) (bytes "return")))
    where
      last : (b : Bool) → false ≡ (b and false)
      last true = refl
      last false = refl

  pub returns_here : {x : Bool} {ws : List ℕ} → k ≤ base → ws ≡ part_of tokens l → x ≡ kw_in (tokens_of tape area ws) (bytes "return")
      → x ≡ returns_at base (bare_in tape area tokens l)
  unfolding returns_at ◌and◌
  returns_here {x} h ew e = rw (← ek, le-leb k base h, ← ew, ← e) (last x)
    where
      last : (b : Bool) → b ≡ (b and true)
      last true = refl
      last false = refl

module _ (fam : Text) (base : ℕ) (vs : List Text) (l : Line) {r : Liveness} (er : r ≡ line_liveness fam base vs l) where
  pub scan-dead : r ≡ Dead → Dead ≡ scan_liveness fam base vs l
  unfolding scan_liveness
  scan-dead e = rw (← er, e)

  pub scan-live : r ≡ Live → Live ≡ scan_liveness fam base vs l
  unfolding scan_liveness
  scan-live e = rw (← er, e)

  module _ (e : r ≡ Open) {x : Bool} (ex : x ≡ returns_at base l) where
    pub scan-returns : x ≡ true → Dead ≡ scan_liveness fam base vs l
    unfolding scan_liveness when◌then◌else◌
    scan-returns t = rw (← er, e, ← ex, t)

    pub scan_open : x ≡ false → Open ≡ scan_liveness fam base vs l
    unfolding scan_liveness when◌then◌else◌
    scan_open t = rw (← er, e, ← ex, t)

scan_is : (fam : Text) (base : ℕ) (vs : List Text) (l : Line) (next : Bool) → scan fam base vs l next ≡ decided (scan_liveness fam base vs l) next
unfolding scan scan_liveness line_liveness returns_at match_touch when◌then◌else◌
scan_is fam base vs l next = go (touch l fam vs) (leb l.indent base) (has_kw l "return" and leb l.indent base)
  where
    go : (t : Touch) (b c : Bool)
        → match_touch t (when c then true else next) (when b then true else (when c then true else next)) (λ n. false)
        ≡ decided (or_returns (match_touch t Open (when b then Dead else Open) (λ n. Live)) c) next
    go None b true = refl
    go None b false = refl
    go Kill true c = refl
    go Kill false true = refl
    go Kill false false = refl
    go (Use n) b c = refl

module _ (lines : Listing) (fam : Text) (base : ℕ) (labels : Labels) (start : ℕ) (vs : List Text) where
  dead_line : (w : ℕ) (l : Line) (ls : Listing)
      → dead_from lines fam base labels start vs w (l ∷ ls) ≡ decided (liveness_after lines fam base labels start vs w l) (dead_from lines fam base labels start vs (suc w) ls)
  unfolding dead_from liveness_after when◌then◌else◌
  dead_line w l ls = rw (scan_is fam base vs l next) (go (has_kw l "while") (while_passes lines fam start vs w l) (goto_passes lines fam start vs labels l))
    where
      next : Bool
      next = dead_from lines fam base labels start vs (suc w) ls

      go : (a b c : Bool)
          → (when a then (when b then next else false) else when c then decided (scan_liveness fam base vs l) next else false)
          ≡ decided (when a then (when b then Open else Live) else when c then scan_liveness fam base vs l else Live) next
      go true true c = refl
      go true false c = refl
      go false b true = refl
      go false b false = refl

module _ (tape area : Text) (tokens lines : List ℕ) (fam : Text) (base : ℕ) (labels : Labels) (start : ℕ) (vs : List Text) where
  -- the scan from the line w on
  abbrev pub dead-rest : ℕ → Bool
  dead-rest w = dead_from (bare_listing tape area tokens lines) fam base labels start vs w (bare_listing tape area tokens (drop w lines))

  pub dead_begin : (from : ℕ) → dead_after (bare_listing tape area tokens lines) from fam base labels start vs ≡ dead-rest (from + 1)
  unfolding dead_after
  dead_begin from = rw (add-one, map-drop)

  -- x is what the definition says of all lines
  module _ (w : ℕ) {x : Bool} (inv : x ≡ dead-rest w) where
    module _ (h : w < length lines) (r : Liveness)
        (e : r ≡ liveness_after (bare_listing tape area tokens lines) fam base labels start vs w (bare_in tape area tokens (get_or lines w 0))) where
      dead-step : x ≡ decided r (dead-rest (w + 1))
      dead-step = inv ∙ rw (e, add-one w, drop-cons lines w 0 h) (dead_line _ fam base labels start vs w _ _)

      pub dead-dead : r ≡ Dead → true ≡ x
      dead-dead f = sym (dead-step ∙ rw f)

      pub dead-live : r ≡ Live → false ≡ x
      dead-live f = sym (dead-step ∙ rw f)

      pub dead_open : r ≡ Open → x ≡ dead-rest (w + 1)
      dead_open f = dead-step ∙ rw f

    pub dead_end : length lines ≤ w → true ≡ x
    unfolding dead_from
    dead_end h = sym (inv ∙ rw (drop_of_length-le lines {i = w} h))

-- the line w of the scan, whose word is l
module _ (lines : List ℕ) (tape area : Text) (tokens : List ℕ) (fam : Text) (base : ℕ) (labels : Labels) (start : ℕ) (vs : List Text)
    (w l : ℕ) {ws : List ℕ} (ew : ws ≡ part_of tokens l) {x : Bool} (ex : x ≡ kw_in (tokens_of tape area ws) (bytes "while")) where
  loops : x ≡ kw_in (tokens_of tape area (part_of tokens l)) (bytes "while")
  loops = rw ew at ex

  abbrev after : Liveness
  after = liveness_after (bare_listing tape area tokens lines) fam base labels start vs w (bare_in tape area tokens l)

  module _ (t : x ≡ true) {y : Bool} (ey : y ≡ while_passes (bare_listing tape area tokens lines) fam start vs w (bare_in tape area tokens l)) where
    pub after_while : y ≡ true → Open ≡ after
    unfolding liveness_after when◌then◌else◌
    after_while u = rw (← loops, t, ← ey, u)

    pub after-loop : y ≡ false → Live ≡ after
    unfolding liveness_after when◌then◌else◌
    after-loop u = rw (← loops, t, ← ey, u)

  module _ (t : x ≡ false) {y : Bool} (ey : y ≡ goto_passes (bare_listing tape area tokens lines) fam start vs labels (bare_in tape area tokens l)) where
    pub after_goto : y ≡ false → Live ≡ after
    unfolding liveness_after when◌then◌else◌
    after_goto u = rw (← loops, t, ← ey, u)

    pub after-scan : {r : Liveness} → y ≡ true → r ≡ scan_liveness fam base vs (bare_in tape area tokens l) → r ≡ after
    unfolding liveness_after when◌then◌else◌
    after-scan u e = e ∙ rw (← loops, t, ← ey, u)

-- a line that lacks the family and control flow decides only by how it touches the family
module _ (lines : List ℕ) (tape area : Text) (tokens : List ℕ) (fam : Text) (base : ℕ) (labels : Labels) (start : ℕ) (vs : List Text) (w l : ℕ)
    (h : Lined tape area tokens l) {n : ℕ} (en : n ≡ family_number fam) where
  abbrev by_facts : Liveness
  by_facts = liveness_after (bare_listing tape area tokens lines) fam base labels start vs w (bare_in tape area tokens l)

  after-save-calls : is_transparent_save_calls l n ≡ true → {r : Liveness} → r ≡ line_liveness fam base vs (bare_in tape area tokens l) → r ≡ by_facts
  unfolding liveness_after goto_passes goto_target scan_liveness returns_at when◌then◌else◌ let_some◌else◌then◌ ◌and◌
  after-save-calls st {r} e =
      let kw = save-calls_kw fam h en st in
      rw (kw (bytes "while"), save-calls_goto fam h en st, kw (bytes "return"), ← e) (last r)
    where
      last : (r : Liveness) → r ≡ or_returns r false
      last Dead = refl
      last Live = refl
      last Open = refl

  -- a transparent line decides nothing: x is the answer of `is_transparent`
  pub after_transparent : {x : Bool} → x ≡ is_transparent l n → x ≡ true → Open ≡ by_facts
  after_transparent ex t =
      after-save-calls (transparent_save_calls fam h en ex t) (liveness_none tape area tokens l fam base vs refl Nothing (sym (transparent_touch fam h en ex t vs)) refl)

  -- a calling line: x is the answer of `is_calling`, v whether calls overwrite the family, k the indent
  module _ {x : Bool} (ex : x ≡ is_calling l n) (t : x ≡ true) {v : Bool} (ev : v ≡ has vs fam) where
    pub after_keeping : v ≡ false → Open ≡ by_facts
    after_keeping e =
        after-save-calls (calling-save-calls fam h en ex t) (liveness_none tape area tokens l fam base vs refl Nothing (sym (calling_keeps fam h en ex t vs ev e)) refl)

    module _ (e : v ≡ true) {k : ℕ} (ek : k ≡ indent_of l) where
      pub after-calling : k ≤ base → Dead ≡ by_facts
      after-calling b =
          after-save-calls (calling-save-calls fam h en ex t) (liveness_kill tape area tokens l fam base vs refl Kills (sym (calling-kills fam h en ex t vs ev e)) refl ek b)

      pub after_deep : base < k → Open ≡ by_facts
      after_deep b =
          after-save-calls (calling-save-calls fam h en ex t) (liveness_deep tape area tokens l fam base vs refl Kills (sym (calling-kills fam h en ex t vs ev e)) refl ek b)
