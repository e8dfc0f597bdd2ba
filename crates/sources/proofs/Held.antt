-- No step of a run makes a token of another kind or gives a line another address: what bytes can hold of the input, they can hold of the finished
-- listing (`finished-held`). So the finished tape can be walked, also where it is too long to be accepted. Assumes nothing.
use Prim.Native.Nat.{ℕ, zero, suc, ◌≤◌, ◌<◌}
use native.Mathlib.Omega.{arith}
use mathlib.Core.Path.{◌≡◌}
use mathlib.Core.Bool.{true}
use mathlib.Core.List.{List, [], ◌∷◌, ◌++◌, Sublistᴰ}
use mathlib.Core.Option.{Option, none, some}
use lib.ListN.{length, drop, length-map}
use borrow.Author.Tests.{eqb-true}
use Rattle.reference.specs.Control.{when◌then◌else◌}
use Rattle.reference.specs.Lists.{is_empty, remove, modify}
use Rattle.reference.specs.Text.{Text}
use Rattle.reference.specs.Listing.{Token, token, is, Number, Punct, Line, Listing, ◌at◌, with_tokens}
use Rattle.reference.specs.Numbers.{fold_at, fold, merge_into, merge}
use Rattle.reference.specs.Rules.{Rules}
use Rattle.reference.specs.Shapes.{Assignment, right_side}
use Rattle.reference.specs.Life.{Labels}
use Rattle.reference.specs.Join.{substitute, rewrite_use, try_at}
use Rattle.reference.specs.Claim.{text}
use Rattle.reference.specs.Run.{Attempt, after_attempts, after_rounds, last_of, run, steps, listings, finished}
use Rattle.reference.specs.Questions.{Passed, read}
use Rattle.reference.specs.Demand.{Attempts, over, failed, succeeded, Rounds, enough, ended, again, Cuts, done, kept, dropped, Within, Each}
use Rattle.reference.proofs.Cases.{by-if, by-some}
use Rattle.reference.proofs.Shapes.{folds, Cut, gone, short, later, Assigning, assigning, assigns}
use Rattle.reference.proofs.Commands.{AddressFits}
use Rattle.reference.proofs.Limits.{All, all_append}
use Rattle.reference.proofs.Marks.{finished_is}
use Rattle.reference.proofs.Rounds.{run-taken}
use Rattle.reference.proofs.Guarantee.{demand3-tape}
use Rattle.joining.specs.Plan.{Plan, right_side_of, map_from, where_used, acted_line, act}
use Rattle.joining.proofs.Deciding.{defined_by, tried}
use Rattle.joining.proofs.Planned.{planned}

-- a token of one of the eight kinds
abbrev pub Kind : Token → Type 0
Kind t = t.kind < 8

-- what bytes can hold of a line, but for the lengths of its texts
pub record Held (l : Line) : Type 0 where
  pub address : AddressFits l.address
  pub tokens : All Kind l.tokens

-- ---- an assignment's right side

cut-kinds : {ts r : List Token} → Cut ts r → All Kind ts → All Kind r
cut-kinds (gone h e) k = tt
cut-kinds (short h) k = (k.0, tt)
cut-kinds (later t c) k = (k.0, cut-kinds c k.1)

assigned-kinds : {ts : List Token} {a : Assignment} → Assigning ts a → All Kind ts → All Kind a.expr
unfolding right_side
assigned-kinds (assigning {eq = eq} {rest = rest} r p s c) k =
    cut-kinds c
    (all_append Kind (when is_empty (drop 3 eq.text) then [] else token Punct (drop 3 eq.text) ∷ []) rest
    (by-if (λ (ts : List Token). All Kind ts) (λ e. tt) (λ e. (omega arith, tt)))
    k.1.1)

-- ---- a use

substitute-kinds : (fam : Text) (expr ts : List Token) → All Kind expr → All Kind ts → All Kind (substitute fam expr ts)
unfolding substitute
substitute-kinds fam expr [] e k = tt
substitute-kinds fam expr (t ∷ ts) e k =
    let more = substitute-kinds fam expr ts e k.1 in
    by-if (λ (r : List Token). All Kind r) (λ h. all_append Kind expr (substitute fam expr ts) e more) (λ h. (k.0, more))

into-kinds : (last : Token) (ts : List Token) → Kind last → All Kind ts → All Kind (merge_into last ts)
unfolding merge_into
into-kinds last [] h k = (h, tt)
into-kinds last (t ∷ ts) h k =
    by-if (λ (r : List Token). All Kind r) (λ e. into-kinds (token last.kind (last.text ++ t.text)) ts h k.1) (λ e. (h, into-kinds t ts k.0 k.1))

merge-kinds : (ts : List Token) → All Kind ts → All Kind (merge ts)
unfolding merge
merge-kinds [] k = tt
merge-kinds (t ∷ ts) k = into-kinds t ts k.0 k.1

number_kind : (t : Token) → is Number t ≡ true → Kind t
unfolding is
number_kind t e = omega (arith, eqb-true t.kind Number e)

fold-kinds : (edition : ℕ) (before : Option Token) (a : Token) (ts : List Token) → Kind a → All Kind ts → All Kind (fold_at edition before a ts)
unfolding fold_at
fold-kinds edition before a [] h k = (h, tt)
fold-kinds edition before a (b ∷ []) h k = (h, k)
fold-kinds edition before a (b ∷ c ∷ rest) h k =
    by-some (λ (r : List Token). All Kind r)
    (λ e. (h, fold-kinds edition (some a) b (c ∷ rest) k.0 k.1))
    (λ n e. fold-kinds edition before n rest (number_kind n (folds edition before a b c rest n e).made) k.1.1)

all-folded : (edition : ℕ) (ts : List Token) → All Kind ts → All Kind (fold edition ts)
unfolding fold
all-folded edition [] k = tt
all-folded edition (t ∷ ts) k = fold-kinds edition none t ts k.0 k.1

-- ---- an attempt

at_kinds : (lines : Listing) (i : ℕ) → All Held lines → All Kind (lines at i).tokens
at_kinds [] i h = tt
at_kinds (l ∷ ls) zero h = h.0.tokens
at_kinds (l ∷ ls) (suc i) h = at_kinds ls i h.1

remove-held : (i : ℕ) (lines : Listing) → All Held lines → All Held (remove i lines)
remove-held i [] h = tt
remove-held zero (l ∷ ls) h = h.1
remove-held (suc i) (l ∷ ls) h = (h.0, remove-held i ls h.1)

map-held : (f : ℕ → Line → Line) → ((k : ℕ) (l : Line) → Held l → Held (f k l)) → (k : ℕ) (lines : Listing) → All Held lines → All Held (map_from f k lines)
map-held f h k [] g = tt
map-held f h k (l ∷ ls) g = (h k l g.0, map-held f h (suc k) ls g.1)

module _ (rules : Rules) (i : ℕ) (p : Plan) (e : All Kind p.expr) where
  right-kinds : All Kind (right_side_of p)
  unfolding right_side_of
  right-kinds =
      by-if (λ (r : List Token). All Kind r)
      (λ h. (omega arith, all_append Kind p.expr (token Punct _ ∷ []) e (omega arith, tt)))
      (λ h. e)

  acted-held : (k : ℕ) (l : Line) → Held l → Held (acted_line rules i p k l)
  unfolding where_used rewrite_use
  acted-held k l h =
      by-if Held
      (λ u.
      record {
        address = h.address;
        tokens = all-folded rules.edition _ (merge-kinds _ (substitute-kinds p.fam (right_side_of p) l.tokens right-kinds h.tokens));
      })
      (λ u. h)

  act-held : (lines : Listing) → All Held lines → All Held (act rules lines i p)
  unfolding act
  act-held lines h = remove-held i (map_from (acted_line rules i p) 0 lines) (map-held (acted_line rules i p) acted-held 0 lines h)

attempt_held : (rules : Rules) (lines : Listing) (i : ℕ) (labels : Labels) (addressed : List Text) {lines' : Listing}
    → try_at rules lines i labels addressed ≡ some lines' → All Held lines → All Held lines'
attempt_held rules lines i labels addressed e h =
    let t = tried rules lines i labels addressed e in
    let p : Plan = t.0 in
    let known = planned rules lines i labels p addressed t.1 in
    let d = defined_by (lines at i).tokens known.def known.known in
    let expr : All Kind p.expr = rw (known.same_expr, d.expr_is) (assigned-kinds (assigns (lines at i).tokens d.to d.assignment_is) (at_kinds lines i h)) in
    rw t.2 at (act-held rules i p expr lines h)

-- ---- the run

round_held : {rules : Rules} {addressed : List Text} {i : ℕ} {lines : Listing} {labels : Labels} {round : List Attempt}
    → Attempts rules addressed i lines labels round → All Held lines → All Held (after_attempts lines round)
unfolding after_attempts
round_held (over l) h = h
round_held (failed l e more) h = round_held more h
round_held {rules = rules} {addressed = addressed} (succeeded {i = i} {lines = lines} {labels = labels} l e more) h = round_held more (attempt_held rules lines i labels addressed e h)

rounds-held : {rules : Rules} {limit : ℕ} {lines : Listing} {rounds : List (List Attempt)} → Rounds rules limit lines rounds → All Held lines
    → All Held (after_rounds lines rounds)
unfolding after_rounds
rounds-held enough h = h
rounds-held (ended r e) h = round_held r h
rounds-held (again r e more) h = rounds-held more (round_held r h)

all-dropped : (n : ℕ) (ts : List Token) → All Kind ts → All Kind (drop n ts)
all-dropped zero ts k = k
all-dropped (suc n) [] k = tt
all-dropped (suc n) (t ∷ ts) k = all-dropped n ts k.1

modify-held : (f : Line → Line) → ((l : Line) → Held l → Held (f l)) → (i : ℕ) (lines : Listing) → All Held lines → All Held (modify i f lines)
modify-held f g i [] h = tt
modify-held f g zero (l ∷ ls) h = (g l h.0, h.1)
modify-held f g (suc i) (l ∷ ls) h = (h.0, modify-held f g i ls h.1)

cuts-held : {rules : Rules} {labels : Labels} {i : ℕ} {lines : Listing} {cuts : List Listing} → Cuts rules labels i lines cuts → All Held lines
    → All Held (last_of lines cuts)
unfolding last_of
cuts-held (done l) h = h
cuts-held (kept l e more) h = cuts-held more h
cuts-held (dropped {i = i} {lines = lines} l e same more) h =
    cuts-held more (rw same (modify-held (λ l. with_tokens (drop 2 l.tokens) l) (λ l g. record { address = g.address; tokens = all-dropped 2 l.tokens g.tokens }) i lines h))

-- WHAT BYTES CAN HOLD OF THE INPUT, THEY CAN HOLD OF THE FINISHED LISTING
pub finished-held : (rules : Rules) (input : Listing) → All Held input → All Held (finished rules input)
finished-held rules input h =
    let t = run-taken rules input in
    rw (finished_is rules input) (cuts-held t.cuts (rounds-held t.rounds h))

-- ---- how much it can be

pub each_last : (P : Listing → Type 0) (l : Listing) (ls : List Listing) → Each P (l ∷ ls) → P (last_of l ls)
unfolding last_of
each_last P l [] h = h.0
each_last P l (m ∷ ls) h = each_last P m ls h.1

sublist_length : {A : Type 0} {xs ys : List A} → Sublistᴰ xs ys → length xs ≤ length ys
sublist_length Sublistᴰ.slnil = omega arith
sublist_length (Sublistᴰ.cons s) = omega (arith, sublist_length s)
sublist_length (Sublistᴰ.cons-cons e s) = omega (arith, sublist_length s)

module _ (rules : Rules) (tape : List ℕ) (input : Listing) (reads : read tape ≡ Passed input) where
  last_within : Within input (finished rules input)
  unfolding listings finished
  last_within = each_last (Within input) input (steps (run rules input)) (demand3-tape rules tape input reads).each

  pub finished_text : text (finished rules input) ≤ 49152
  finished_text = last_within.text_bounded

  pub finished-few : length (finished rules input) ≤ length input
  finished-few = simp length-map at (sublist_length last_within.pairs_in_order)
