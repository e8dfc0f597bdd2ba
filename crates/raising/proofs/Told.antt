-- What the lines tell of a join, noted line by line, and which lines are noted. Assumes nothing.
use Prim.Native.Nat.{ℕ, zero, suc, ◌+◌, ◌≤◌, ◌<◌}
use native.Mathlib.Omega.{arith}
use native.Mathlib.Numerals.{add-one}
use native.Mathlib.Nat.{add-zero, add-suc, suc-add}
use native.Mathlib.Decide.{dec_lt}
use mathlib.Core.Logic.{by_cases}
use mathlib.Core.Path.{◌≡◌, refl, sym, ap, ◌∙◌, subst}
use mathlib.Core.Bool.{Bool, true, false}
use mathlib.Core.List.{List, [], ◌∷◌, ◌++◌, append-nil, reverse}
use mathlib.Core.Option.{some}
use lib.ListN.{length, get_or, set, take, drop, length-map}
use lib.Seq.{slice, slice_empty, length-slice, get_or-set_same, take_all}
use Rattle.std.specs.Prelude as std
use Rattle.std.specs.List.{slice_get}
use Rattle.std.proofs.lemmas.List.{take_more, length-take, get_or-set_other, get_or_past, get_or-take, drop-append-le, reverse-append}
use Rattle.laws.proofs.Scans.{if-true, if-false, any_append, or_last}
use Rattle.reference.specs.Control.{◌or◌, when◌then◌else◌}
use Rattle.reference.specs.Lists.{any}
use Rattle.reference.specs.Listing.{Token, Line, Listing, ◌at◌, blank}
use Rattle.reference.specs.Names.{Fam, family}
use Rattle.reference.specs.Rules.{Rules, volatile}
use Rattle.reference.specs.Shapes.{Assignment, assignment_of}
use Rattle.reference.proofs.Cases.{bind-some, if_some, unless-some, some_inj, none-some, true-false}
use Rattle.joining.specs.Plan.{Definition, definition_of, Plan, changes}
use Rattle.plan.proofs.Changed.{not-later, past_last}
use Rattle.cautions.specs.Values.{world}
use Rattle.cautions.specs.Forms.{is_guarded}
use Rattle.ground.specs.Rules.{rules_of}
use Rattle.lines.specs.Lines.{first_of, count_of, part_of}
use Rattle.lines.specs.Texts.{bare_in, bare_listing, text_of, token_of, tokens_of, words_at}
use Rattle.lines.specs.declared.texts.Texts.{Texts}
use Rattle.lines.specs.declared.texts.Listing as held
use Rattle.lines.proofs.words.Lines.{count-below, bare_at}
use Rattle.flow.specs.Blocks.{no_form}
use Rattle.flow.specs.LineForms.{Formed}
use Rattle.flow.specs.Values.{guards}
use Rattle.flow.specs.Ways.{Tabled}
use Rattle.flow.specs.declared.ways.FormedListing.{FormedListing}
use Rattle.flow.proofs.Touched.{guarded_by}
use Rattle.usefacts.specs.Split.{before_of}
use Rattle.usefacts.specs.declared.parts.Before.{Before}
use Rattle.raising.specs.declared.noting.Noting as code
use Rattle.raising.specs.Noting.{lines_of, plan_of, told, ToldBy, Forgotten, noted_from, last_noted}
use Rattle.raising.specs.Spread.{is_told, is_noted}
use Rattle.raising.specs.Tables.{Untold}

-- ---- what a line assigns

-- a definition's line is an assignment to its family
pub record Assigned (ts : List Token) (d : Definition) : Type 0 where
  pub side : Assignment
  pub assigns : assignment_of ts ≡ some side
  pub names : family side.lhs.text ≡ some d.fam
  pub expr_is : side.expr ≡ d.expr

pub assigned : (ts : List Token) (d : Definition) → definition_of ts ≡ some d → Assigned ts d
unfolding definition_of
assigned ts d e =
    let a = bind-some e in
    let f = bind-some a.2 in
    let same = some_inj (unless-some f.2).1 in
    record { side = a.0; assigns = a.1; names = f.1 ∙ ap (λ (d : Definition). some d.fam) same; expr_is = ap (λ (d : Definition). d.expr) same }

first_side : (t : Token) (ts : List Token) (a : Assignment) → assignment_of (t ∷ ts) ≡ some a → a.lhs ≡ t
unfolding assignment_of
first_side t [] a e = absurd (none-some e)
first_side t (u ∷ ts) a e =
    let s = bind-some (if_some e).1 in
    sym (ap (λ (a : Assignment). a.lhs) (some_inj (unless-some s.2).1))

pub first_named : (t : Token) (ts : List Token) (d : Definition) → definition_of (t ∷ ts) ≡ some d → family t.text ≡ some d.fam
first_named t ts d e = let a = assigned (t ∷ ts) d e in ap (λ (u : Token). family u.text) (sym (first_side t ts a.side a.assigns)) ∙ a.names

pub not_empty : (d : Definition) → definition_of [] ≡ some d → ⊥
unfolding definition_of assignment_of
not_empty d e = none-some (bind-some e).1

-- the same of words, of which w is the first, or there is none
module _ (t : Texts) (ws : List ℕ) (d : Definition) (e : definition_of (tokens_of t ws) ≡ some d) where
  pub named_first : (w : ℕ) → std.Some w ≡ slice_get ws 0 → family (text_of t w) ≡ some d.fam
  named_first w h = go ws e h
    where
      go : (ws : List ℕ) → definition_of (tokens_of t ws) ≡ some d → std.Some w ≡ slice_get ws 0 → family (text_of t w) ≡ some d.fam
      go [] e h = absurd (not_empty d e)
      go (u ∷ us) e h = let same : w ≡ u = cc in rw same (first_named (token_of t u) (tokens_of t us) d e)

  pub named_none : std.None ≡ slice_get ws 0 → ⊥
  named_none h = go ws e h
    where
      go : (ws : List ℕ) → definition_of (tokens_of t ws) ≡ some d → std.None ≡ slice_get ws 0 → ⊥
      go [] e h = not_empty d e
      go (u ∷ us) e h = cc

-- ---- a line of the listing

pub long : (h : held.Listing) → length (bare_listing h) ≡ length h.lines.now
long h = length-map h.lines.now (λ (l : ℕ). bare_in h.texts h.tokens.now l)

pub line_is : (h : held.Listing) (k : ℕ) → k < length h.lines.now → (bare_listing h at k).tokens ≡ tokens_of h.texts (words_at h k)
line_is h k b = ap (λ (l : Line). l.tokens) (bare_at h.texts.tape.now h.texts.area.now h.tokens.now [] h.lines.now k b)

pub line_few : (tokens : List ℕ) (l : ℕ) → length (part_of tokens l) < 65536
line_few tokens l = omega (arith, length-take (count_of l) (drop (first_of l) tokens), count-below l)

-- what its form says of a condition in front
pub guarded_at : {g : FormedListing} → Tabled g → (k : ℕ) → k < length g.listing.lines.now → {x : Bool} → x ≡ guards (get_or g.forms.now k no_form).form
    → x ≡ is_guarded (tokens_of g.listing.texts (words_at g.listing k))
unfolding is_guarded
guarded_at {g} t k h e =
    let s = g.listing in
    let is = line_is s k h in
    e ∙ guarded_by _ _ (subst (λ (ts : List Token). Formed ts (get_or g.forms.now k no_form)) is (t.table.each k h)).form_is

-- whether the plan changes it
pub changed_at : (n : code.Noting) (k : ℕ) → k < length n.g.listing.lines.now → {x : Bool}
    → x ≡ changes (volatile (rules_of n.rules)) n.plan.line (plan_of n) k (bare_in n.g.listing.texts n.g.listing.tokens.now (get_or n.g.listing.lines.now k 0))
    → {y : Bool} → x ≡ y → changes (volatile (rules_of n.rules)) n.plan.line (plan_of n) k (lines_of n at k) ≡ y
changed_at n k h e f =
    let s = n.g.listing in
    rw (bare_at s.texts.tape.now s.texts.area.now s.tokens.now [] s.lines.now k h) (sym e ∙ f)

-- ---- what each line tells

module _ (rules : Rules) (lines : Listing) (i : ℕ) (p : Plan) (f : Fam) where
  pub told_none : (k : ℕ) → changes (volatile rules) i p k (lines at k) ≡ false → told rules lines i p f k ≡ std.None
  unfolding told
  told_none k e = if-false _ _ e

  pub told_some : (k : ℕ) → changes (volatile rules) i p k (lines at k) ≡ true
      → told rules lines i p f k ≡ std.Some (before_of rules f p.expr (lines at k).tokens (slice (suc i) k lines))
  unfolding told
  told_some k e = if-true _ _ e

  pub told_early : (k : ℕ) → k ≤ i → told rules lines i p f k ≡ std.None
  told_early k h = told_none k (sym (not-later (volatile rules) i p k (lines at k) h))

  pub told_late : (k : ℕ) → i < k → p.last < k → told rules lines i p f k ≡ std.None
  told_late k h g = told_none k (sym (past_last (volatile rules) i p k (lines at k) h g))

  -- the lines before line k are noted, and no other
  pub record Noting (k : ℕ) (passed : Bool) (parts : List (std.Option Before)) : Type 0 where
    pub behind : i < k
    pub done : (q : ℕ) → q < k → get_or parts q std.None ≡ told rules lines i p f q
    pub rest : (q : ℕ) → k ≤ q → get_or parts q std.None ≡ std.None
    pub world_is : passed ≡ any (λ l. world l.tokens) (slice (suc i) k lines)

  pub noting_begun : (parts : List (std.Option Before)) → Untold parts → Noting (i + 1) false parts
  noting_begun parts e = record {
    behind = omega arith;
    done = λ q h. e q ∙ sym (told_early q (omega arith));
    rest = λ q h. e q;
    world_is = rw (add-one, slice_empty) refl;
  }

  slice_more : (k : ℕ) → i < k → k < length lines → slice (suc i) (k + 1) lines ≡ slice (suc i) k lines ++ ((lines at k) ∷ [])
  slice_more k h b =
      ap (drop (suc i)) (take_more lines k blank b)
      ∙ drop-append-le (suc i) (take k lines) ((lines at k) ∷ []) (omega (arith, length-take k lines))

  pub noting_more : (k : ℕ) (passed : Bool) (parts : List (std.Option Before)) {t : std.Option Before} {w : Bool} → k < length parts → k < length lines
      → t ≡ told rules lines i p f k → w ≡ (passed or world (lines at k).tokens) → Noting k passed parts → Noting (k + 1) w (set parts k t)
  noting_more k passed parts {t} {w} b c et ew h = record {
    behind = omega (arith, h.behind);
    done = λ q g. by_cases (dec_lt q k)
        (λ a. get_or-set_other parts k q t std.None (omega arith) ∙ h.done q a)
        (λ a. (let s : q ≡ k = omega arith in rw s (get_or-set_same parts k t std.None b ∙ et)));
    rest = λ q g. get_or-set_other parts k q t std.None (omega arith) ∙ h.rest q (omega arith);
    world_is =
        ew ∙ ap (λ (b : Bool). b or world (lines at k).tokens) h.world_is
        ∙ sym (ap (any (λ l. world l.tokens)) (slice_more k h.behind c)
        ∙ any_append (λ l. world l.tokens) (slice (suc i) k lines) ((lines at k) ∷ [])
        ∙ ap (λ (b : Bool). any (λ l. world l.tokens) (slice (suc i) k lines) or b) (or_last (world (lines at k).tokens)));
  }

  pub noted_all : (k : ℕ) (passed : Bool) (parts : List (std.Option Before)) → p.last < k → Noting k passed parts → ToldBy rules lines i p f parts
  noted_all k passed parts g h = record {
    each = λ q. by_cases (dec_lt q k) (λ a. h.done q a) (λ a. h.rest q (omega arith) ∙ sym (told_late q (omega (arith, h.behind)) (omega arith)));
  }

-- ---- what the lines told is forgotten

set_here : (parts : List (std.Option Before)) (k : ℕ) → get_or (set parts k std.None) k std.None ≡ std.None
set_here [] k = refl
set_here (t ∷ ts) zero = refl
set_here (t ∷ ts) (suc k) = set_here ts k

module _ (a : ℕ) (old : List (std.Option Before)) where
  pub forgetting_begun : Forgotten a a old old
  forgetting_begun = record { among = λ k g l. absurd (omega arith); before = λ k l. refl; behind = λ k l. refl }

  pub forgotten_more : (b : ℕ) (now : List (std.Option Before)) → a ≤ b → Forgotten a b old now → Forgotten a (b + 1) old (set now b std.None)
  forgotten_more b now h f = record {
    among = λ k g l. by_cases (dec_lt k b)
        (λ c. get_or-set_other now b k std.None std.None (omega arith) ∙ f.among k g c)
        (λ c. (let s : k ≡ b = omega arith in rw s (set_here now b)));
    before = λ k l. get_or-set_other now b k std.None std.None (omega arith) ∙ f.before k l;
    behind = λ k l. get_or-set_other now b k std.None std.None (omega arith) ∙ f.behind k (omega arith);
  }

-- all of it
pub forgotten_all : (old new : List (std.Option Before)) → length new ≡ length old → Forgotten 0 (length old) old new → Untold new
forgotten_all old new e f k = by_cases (dec_lt k (length old)) (λ b. f.among k (omega arith) b) (λ b. get_or_past new k std.None (omega arith))

-- or what was told of a join, of which no line behind line `last` is rewritten
module _ {rules : Rules} {lines : Listing} {i : ℕ} {p : Plan} {f : Fam} {parts : List (std.Option Before)} (t : ToldBy rules lines i p f parts)
    (inside : p.last < length lines) where
  pub told_past : (k : ℕ) → i < k → length lines ≤ k → get_or parts k std.None ≡ std.None
  told_past k h b = t.each k ∙ told_late rules lines i p f k h (omega arith)

  pub forgotten_join : (last : ℕ) {parts' : List (std.Option Before)} → i ≤ last → Forgotten (i + 1) (last + 1) parts parts'
      → ((k : ℕ) → last < k → k < length lines → get_or parts k std.None ≡ std.None) → Untold parts'
  forgotten_join last a g b k =
      by_cases (dec_lt k (i + 1))
      (λ c. g.before k c ∙ t.each k ∙ told_early rules lines i p f k (omega arith))
      (λ c.
      by_cases (dec_lt k (last + 1))
      (λ d. g.among k (omega arith) d)
      (λ d. g.behind k (omega arith) ∙ by_cases (dec_lt k (length lines)) (λ e. b k (omega arith) e) (λ e. told_past k (omega arith) (omega arith))))

  -- the table of the lines alone has it too
  pub told_front : (m : ℕ) → i < m → m ≡ length lines → ToldBy rules lines i p f (take m parts)
  told_front m h e = record {
    each = λ k. by_cases (dec_lt k m)
        (λ b. get_or-take m parts k std.None b ∙ t.each k)
        (λ b. get_or_past (take m parts) k std.None (omega (arith, length-take m parts)) ∙ sym (told_late rules lines i p f k (omega arith) (omega arith)));
  }

-- ---- which lines are noted

noted_append : (k : ℕ) (ts us : List (std.Option Before)) → noted_from k (ts ++ us) ≡ noted_from k ts ++ noted_from (k + length ts) us
unfolding noted_from when◌then◌else◌
noted_append k [] us = rw add-zero
noted_append k (std.Some b ∷ ts) us = ap (λ (ks : List ℕ). k ∷ ks) (noted_append (suc k) ts us ∙ rw (add-suc, suc-add))
noted_append k (std.None ∷ ts) us = noted_append (suc k) ts us ∙ rw (add-suc, suc-add)

noted_one : (k : ℕ) (t : std.Option Before) → is_told t ≡ true → noted_from k (t ∷ []) ≡ k ∷ []
unfolding noted_from
noted_one k t e = if-true _ _ e

noted_no : (k : ℕ) (t : std.Option Before) → is_told t ≡ false → noted_from k (t ∷ []) ≡ []
unfolding noted_from
noted_no k t e = if-false _ _ e

tells_none : (t : std.Option Before) → is_told t ≡ false → t ≡ std.None
tells_none (std.Some b) e = absurd (true-false refl e)
tells_none std.None e = refl

-- the last of them, line by line
module _ (parts : List (std.Option Before)) (i : ℕ) where
  pub record LastTo (k last : ℕ) : Type 0 where
    pub is : last ≡ get_or (reverse (noted_from (suc i) (slice (suc i) k parts))) 0 i
    pub behind : i < k
    pub above : i ≤ last
    pub below : last < k
    pub unnoted : (q : ℕ) → last < q → q < k → get_or parts q std.None ≡ std.None

  pub last_begun : LastTo (i + 1) i
  unfolding noted_from
  last_begun = record {
    is = rw (add-one, slice_empty) refl;
    behind = omega arith;
    above = omega arith;
    below = omega arith;
    unnoted = λ q h g. absurd (omega arith);
  }

  module _ (k : ℕ) (b : k < length parts) (h : i < k) where
    part_more : noted_from (suc i) (slice (suc i) (k + 1) parts) ≡ noted_from (suc i) (slice (suc i) k parts) ++ noted_from k (get_or parts k std.None ∷ [])
    part_more =
        let size : suc i + length (slice (suc i) k parts) ≡ k = omega (arith, length-slice (suc i) k parts (omega arith)) in
        ap (noted_from (suc i)) (ap (drop (suc i)) (take_more parts k std.None b)
        ∙ drop-append-le (suc i) (take k parts) (get_or parts k std.None ∷ []) (omega (arith, length-take k parts)))
        ∙ noted_append (suc i) (slice (suc i) k parts) (get_or parts k std.None ∷ [])
        ∙ ap (λ (n : ℕ). noted_from (suc i) (slice (suc i) k parts) ++ noted_from n (get_or parts k std.None ∷ [])) size

  pub last_kept : (k last : ℕ) → k < length parts → is_noted parts k ≡ false → LastTo k last → LastTo (k + 1) last
  last_kept k last b e h = record {
    is = h.is ∙ sym (ap (λ (ks : List ℕ). get_or (reverse ks) 0 i) (part_more k b h.behind ∙ ap (λ (ks : List ℕ). noted_from (suc i) (slice (suc i) k parts) ++ ks) (noted_no k _ e) ∙ append-nil _));
    behind = omega (arith, h.behind);
    above = h.above;
    below = omega (arith, h.below);
    unnoted = λ q a g. by_cases (dec_lt q k) (λ l. h.unnoted q a l) (λ l. (let s : q ≡ k = omega arith in rw s (tells_none _ e)));
  }

  pub last_here : (k last : ℕ) → k < length parts → is_noted parts k ≡ true → LastTo k last → LastTo (k + 1) k
  last_here k last b e h = record {
    is = sym (ap (λ (ks : List ℕ). get_or (reverse ks) 0 i) (part_more k b h.behind ∙ ap (λ (ks : List ℕ). noted_from (suc i) (slice (suc i) k parts) ++ ks) (noted_one k _ e))
        ∙ ap (λ (ks : List ℕ). get_or ks 0 i) (reverse-append (noted_from (suc i) (slice (suc i) k parts)) (k ∷ [])));
    behind = omega (arith, h.behind);
    above = omega (arith, h.behind);
    below = omega arith;
    unnoted = λ q a g. absurd (omega arith);
  }

  pub last_end : (k last : ℕ) → k ≡ length parts → LastTo k last → last ≡ last_noted parts i
  unfolding last_noted
  last_end k last e h = h.is ∙ ap (λ (ts : List (std.Option Before)). get_or (reverse (noted_from (suc i) (drop (suc i) ts))) 0 i) (rw e (take_all (length parts) parts (omega arith)))
