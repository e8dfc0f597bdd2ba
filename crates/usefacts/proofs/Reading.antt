-- What tokens read: families, and reads of memory in a part of a run. Assumes nothing.
use Prim.Native.Nat.{ℕ, zero, suc, ◌+◌, ◌≤◌, ◌<◌}
use mathlib.Core.Path.{◌≡◌, refl, sym, ◌∙◌}
use mathlib.Core.Bool.{Bool, true, false}
use mathlib.Core.List.{List, [], ◌∷◌, ◌++◌, map}
use lib.ListN.{length, drop, get_or}
use Rattle.std.proofs.lemmas.List.{drop_more, drop_all}
use Rattle.std.specs.Prelude as std
use Rattle.std.specs.Prelude.{Some, None}
use Rattle.reference.specs.Control.{not, ◌and◌, ◌or◌, let_some◌else◌then◌}
use Rattle.reference.specs.Lists.{is_some, get}
use Rattle.reference.specs.Text.{Text, has, bytes, starts_with, ends_with}
use Rattle.reference.specs.Listing.{Token, is, Keyword, Symbol}
use Rattle.reference.specs.Names.{fam_of}
use Rattle.reference.specs.Join.{text_or_empty}
use Rattle.laws.proofs.Scans.{or_true, or_false}
use Rattle.laws.proofs.Std.{tests_of_std}
use Rattle.lines.proofs.shapes.Tests.{token_tests}
use Rattle.cautions.specs.Values.{is_volatile, reads_world}
use Rattle.lines.specs.Words.{token_of, tokens_of, text_of}
use Rattle.lines.specs.Fams.{Names, fam_text}
use Rattle.lines.specs.declared.fams.Named.{Named}
use Rattle.lines.proofs.fams.Families.{named_as, named-not}
use Rattle.usefacts.specs.Reads.{reads_here, reads_between, first_text, last_text}

-- ---- families

-- r is what the token's name was found to be
module _ (tape area : Text) (w : ℕ) {r : std.Option Named} (h : Names tape area (fam_of (token_of tape area w)) r) where
  pub family_none : r ≡ None → false ≡ is_some (fam_of (token_of tape area w))
  family_none e = rw (named-not h e) refl

  pub family_some : {n : Named} → r ≡ Some n → true ≡ is_some (fam_of (token_of tape area w))
  family_some e = rw (named_as h e) refl

  module _ (vs : List Text) where
    pub volatile_none : r ≡ None → false ≡ is_volatile vs (token_of tape area w)
    unfolding is_volatile let_some◌else◌then◌
    volatile_none e = rw (named-not h e) refl

    pub volatile_some : {n : Named} {x : Bool} → r ≡ Some n → x ≡ has vs (fam_text tape area n.family) → x ≡ is_volatile vs (token_of tape area w)
    unfolding is_volatile let_some◌else◌then◌
    volatile_some e f = rw (named_as h e) f

-- what the tests of one token leave
pub ruleset here = (tests_of_std, token_tests)

pub ruleset families = (family_none, family_some, volatile_none, volatile_some)

-- ---- reads of memory

or_group : (x y z : Bool) → ((x or y) or z) ≡ (x or (y or z))
unfolding ◌or◌
or_group true y z = refl
or_group false y z = refl

first_or : (ts : List Token) → first_text ts [] ≡ text_or_empty (get ts 0)
unfolding let_some◌else◌then◌
first_or [] = refl
first_or (t ∷ ts) = refl

-- nothing before and behind
pub whole_from : (before : Text) (ts : List Token) → reads_between before ts [] ≡ reads_world before ts
unfolding reads_between reads_world reads_here
whole_from before [] = refl
whole_from before (t ∷ ts) =
    rw (first_or ts, whole_from t.text ts)
    (or_group (is Keyword t and starts_with t.text (bytes "*("))
    (is Symbol t and not (ends_with before (bytes "&")) and not (starts_with (text_or_empty (get ts 0)) (bytes "("))) (reads_world t.text ts))

pub whole : (ts : List Token) {x : Bool} → x ≡ reads_between [] ts [] → x ≡ reads_world [] ts
whole ts e = e ∙ whole_from [] ts

-- one run behind the other
pub between_append : (before : Text) (a b : List Token) (after : Text)
    → reads_between before (a ++ b) after ≡ (reads_between before a (first_text b after) or reads_between (last_text before a) b after)
unfolding reads_between ◌or◌
between_append before [] b after = refl
between_append before (t ∷ []) b after = regroup (reads_here before t (first_text b after))
  where
    regroup : (x : Bool) → (x or reads_between t.text b after) ≡ ((x or false) or reads_between t.text b after)
    regroup true = refl
    regroup false = refl
between_append before (t ∷ u ∷ a) b after =
    rw (between_append t.text (u ∷ a) b after) (regroup (reads_here before t u.text) (reads_between t.text (u ∷ a) (first_text b after)) _)
  where
    regroup : (x y z : Bool) → (x or (y or z)) ≡ ((x or y) or z)
    regroup true y z = refl
    regroup false y z = refl

-- a scan, at the place k
module _ (tape area : Text) (before : Text) (ws : List ℕ) (after : Text) (k : ℕ) where
  first_is : first_text (tokens_of tape area (drop (k + 1) ws)) after ≡ get_or (map (text_of tape area) ws) (k + 1) after
  first_is = go ws (k + 1)
    where
      go : (vs : List ℕ) (j : ℕ) → first_text (tokens_of tape area (drop j vs)) after ≡ get_or (map (text_of tape area) vs) j after
      go [] zero = refl
      go [] (suc j) = refl
      go (v ∷ vs) zero = refl
      go (v ∷ vs) (suc j) = go vs j

  module _ (h : k < length ws) {b : Bool} {n : Text} (en : n ≡ get_or (map (text_of tape area) ws) (k + 1) after)
      (eb : b ≡ reads_here before (token_of tape area (get_or ws k 0)) n) where
    step : reads_between before (tokens_of tape area (drop k ws)) after
        ≡ (b or reads_between (text_of tape area (get_or ws k 0)) (tokens_of tape area (drop (k + 1) ws)) after)
    unfolding reads_between
    step = rw (drop_more ws k 0 h, first_is, ← en, ← eb) refl

    pub read_here : {r : Bool} → b ≡ true → reads_between before (tokens_of tape area (drop k ws)) after ≡ r → true ≡ r
    read_here t i = sym (or_true _ t) ∙ sym step ∙ i

    pub read_further : {r : Bool} {s : Text} → b ≡ false → s ≡ text_of tape area (get_or ws k 0) → reads_between before (tokens_of tape area (drop k ws)) after ≡ r
        → reads_between s (tokens_of tape area (drop (k + 1) ws)) after ≡ r
    read_further f es i = rw es (sym (or_false _ f) ∙ sym step ∙ i)

  pub read_end : {r : Bool} → length ws ≤ k → reads_between before (tokens_of tape area (drop k ws)) after ≡ r → false ≡ r
  unfolding reads_between
  read_end h i = rw (drop_all k ws h) at i
