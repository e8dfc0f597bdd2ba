-- One byte more of a scan over a frame, one token more, and its end. Assumes nothing.
use Prim.Native.Nat.{ℕ, suc, pred, ◌+◌, ◌≤◌, ◌<◌}
use native.Mathlib.Omega.{arith}
use mathlib.Core.Path.{◌≡◌, refl, sym}
use mathlib.Core.Bool.{Bool, true, false, false≢true}
use mathlib.Core.List.{List, [], ◌∷◌, ◌++◌, flat_map}
use lib.Dec.{eqb}
use lib.ListN.{length, drop, get_or}
use Rattle.std.proofs.lemmas.List.{drop_more, drop_all}
use Rattle.reference.specs.Control.{not, ◌and◌, ◌or◌, when◌then◌else◌}
use Rattle.reference.specs.Lists.{any}
use Rattle.reference.specs.Text.{Text, bytes, contains, starts_with}
use Rattle.reference.specs.Listing.{is, Keyword, Punct}
use Rattle.laws.proofs.Std.{eqb_turn}
use Rattle.laws.proofs.Scans.{and_last, and_kept, or_last}
use borrow.Author.Tests.{ne_eqb}
use Rattle.cautions.specs.Texts.{frame, deeper, outside, depth, after_unary, all_words}
use Rattle.lines.specs.Words.{kind_of, text_of, token_of, tokens_of}
use Rattle.lines.proofs.shapes.Tests.{is_it, is_not}
use Rattle.flow.specs.declared.frames.Frame.{Frame}
use Rattle.flow.specs.declared.frames.FrameScan.{FrameScan}
use Rattle.flow.specs.Marking.{marking}
use Rattle.flow.specs.Compared.{compared}
use Rattle.flow.specs.Frames.{seen_of, framed_token, framed, Below, OuterByte}
use Rattle.flow.proofs.Changes.{none_marked}
use Rattle.flow.proofs.Truths.{none_compared}

last_loose : (l b : Bool) → l ≡ (l or not (all_words (when b then [] else after_unary [])))
unfolding ◌or◌ not all_words when◌then◌else◌ after_unary
last_loose true b = refl
last_loose false true = refl
last_loose false false = refl

-- ---- one byte

plain_step : (p : Bool) (c : ℕ) (s : Text) → ((p and eqb c 119) and all_words s) ≡ (p and all_words (c ∷ s))
unfolding ◌and◌ ◌or◌ not all_words
plain_step false c s = refl
plain_step true c s = go (eqb c 119)
  where
    go : (e : Bool) → (e and not (any (λ c. not (eqb c 119)) s)) ≡ not (not e or any (λ c. not (eqb c 119)) s)
    go true = refl
    go false = refl

comma_step : (b : Bool) (c : ℕ) (s : Text) → ((b or eqb c 44) or contains s 44) ≡ (b or contains (c ∷ s) 44)
unfolding ◌or◌
comma_step true c s = refl
comma_step false c s = rw (eqb_turn c 44) refl

loose_here : (c : ℕ) (s : Text) → (not (eqb c 119) or not (all_words s)) ≡ not (all_words (c ∷ s))
unfolding ◌or◌ not all_words
loose_here c s = go (eqb c 119) (any (λ c. not (eqb c 119)) s)
  where
    go : (e a : Bool) → (not e or not (not a)) ≡ not (not (not e or a))
    go true true = refl
    go true false = refl
    go false a = refl

loose_step : (l b u : Bool) (c : ℕ) (s : Text) → u ≡ contains (bytes "-~!&*") c
    → ((l or ((b or not u) and not (eqb c 119))) or not (all_words (when b or not u then s else after_unary s)))
    ≡ (l or not (all_words (when b then c ∷ s else after_unary (c ∷ s))))
unfolding ◌and◌ ◌or◌ not when◌then◌else◌ after_unary
loose_step true b u c s e = refl
loose_step false true u c s e = loose_here c s
loose_step false false true c s e = rw (← e) refl
loose_step false false false c s e = rw (← e) (loose_here c s)

-- a bracket, or a byte inside
pub inner_byte : (f : FrameScan) (c : ℕ) (s : Text) → (eqb f.depth 0 and not (contains (bytes "()") c)) ≡ false
    → framed (record { depth = deeper c f.depth; begun = f.begun; plain = f.plain; loose = f.loose; comma = f.comma; comparing = f.comparing; marking = f.marking }) s ≡ framed f (c ∷ s)
unfolding framed depth outside when◌then◌else◌
inner_byte f c s e = rw e refl

flat : (d c : ℕ) → contains (bytes "()") c ≡ false → deeper c d ≡ d
unfolding deeper when◌then◌else◌ ◌or◌
flat d c e = go (eqb c 40) (eqb c 41) e
  where
    go : (x y : Bool) → (x or (y or false)) ≡ false → (when x then suc d else when y then pred d else d) ≡ d
    go true y e = absurd (false≢true (sym e))
    go false true e = absurd (false≢true (sym e))
    go false false e = refl

-- the six answers one by one
frame_same : {d1 d2 m1 m2 : ℕ} {p1 p2 l1 l2 c1 c2 t1 t2 : Bool} → d1 ≡ d2 → p1 ≡ p2 → l1 ≡ l2 → c1 ≡ c2 → t1 ≡ t2 → m1 ≡ m2
    → ◌≡◌ {A = Frame} (record { depth = d1; plain = p1; loose = l1; comma = c1; truth = t1; marks = m1 })
    (record { depth = d2; plain = p2; loose = l2; comma = c2; truth = t2; marks = m2 })
frame_same a b d e t m = rw (a, b, d, e, t, m) refl

pub outer_byte : (f g : FrameScan) (c : ℕ) (s : Text) → f.depth ≡ 0 → contains (bytes "()") c ≡ false → OuterByte f c g → framed g s ≡ framed f (c ∷ s)
unfolding framed depth outside when◌then◌else◌ ◌and◌ not
outer_byte f g c s z e o =
    frame_same
    (rw (o.depth_is, z, flat 0 c e) refl)
    (rw (o.depth_is, z, e, flat 0 c e, o.plain_is) (plain_step f.plain c (outside 0 s)))
    (rw (o.depth_is, z, e, flat 0 c e, o.loose_is, o.begun_is) (loose_step f.loose f.begun (contains (bytes "-~!&*") c) c (outside 0 s) refl))
    (rw (o.depth_is, z, e, flat 0 c e, o.comma_is) (comma_step f.comma c (outside 0 s)))
    (rw (o.depth_is, z, e, flat 0 c e) (o.comparing_is (outside 0 s)))
    (rw (o.depth_is, z, e, flat 0 c e) (o.marking_is (outside 0 s)))

pub not_outer : (d c : ℕ) {x : Bool} → x ≡ contains (bytes "()") c → x ≡ true → (eqb d 0 and not (contains (bytes "()") c)) ≡ false
unfolding ◌and◌ not
not_outer d c e t = rw (← e, t) (and_last (eqb d 0))

pub too_deep : (d : ℕ) (b : Bool) → (d ≡ 0 → ⊥) → (eqb d 0 and b) ≡ false
unfolding ◌and◌
too_deep d b n = rw (ne_eqb d 0 n) refl

-- ---- one token

pub next_token : (tape area : Text) (ws : List ℕ) (i : ℕ) → i < length ws
    → framed_token (token_of tape area (get_or ws i 0)) ++ frame (tokens_of tape area (drop (i + 1) ws)) ≡ frame (tokens_of tape area (drop i ws))
unfolding frame framed_token flat_map
next_token tape area ws i h = rw (drop_more ws i 0 h) refl

pub no_token : (tape area : Text) (ws : List ℕ) (i : ℕ) → length ws ≤ i → frame (tokens_of tape area (drop i ws)) ≡ []
unfolding frame flat_map
no_token tape area ws i h = rw (drop_all i ws h) refl

pub punct_token : (tape area : Text) (w : ℕ) {k : ℕ} {s : Text} → k ≡ kind_of w → k ≡ Punct → s ≡ text_of tape area w → s ≡ framed_token (token_of tape area w)
unfolding framed_token when◌then◌else◌
punct_token tape area w e h es = rw (← is_it (token_of tape area w) Punct e h) es

module _ (tape area : Text) (w : ℕ) {k : ℕ} (e : k ≡ kind_of w) (n : k ≡ Punct → ⊥) {b : Bool}
    (eb : b ≡ (is Keyword (token_of tape area w) and starts_with (text_of tape area w) (bytes "((void"))) where
  pub cast_token : b ≡ true → framed_token (token_of tape area w) ≡ bytes "("
  unfolding framed_token when◌then◌else◌
  cast_token t = rw (← is_not (token_of tape area w) Punct e n, ← eb, t) refl

  pub other_token : b ≡ false → framed_token (token_of tape area w) ≡ bytes "w"
  unfolding framed_token when◌then◌else◌
  other_token f = rw (← is_not (token_of tape area w) Punct e n, ← eb, f) refl

-- ---- nothing read

abbrev no_scan : FrameScan
no_scan = record {
  depth = 0;
  begun = false;
  plain = true;
  loose = false;
  comma = false;
  comparing = record { first = 0; second = 0; third = 0; begun = false; found = false };
  marking = record { before = 0; last = 0; count = 0 };
}

-- ---- how much was read

pub below_more : {f : FrameScan} {m : ℕ} (n : ℕ) → Below f m → m ≤ n → Below f n
below_more n b h = record { deep = omega (arith, b.deep); many = omega (arith, b.many) }

pub none_below : Below no_scan 0
none_below = record { deep = omega arith; many = omega arith }

-- ---- the whole

pub none_framed : (s : Text) → framed no_scan s ≡ seen_of s
unfolding framed ◌and◌ ◌or◌ when◌then◌else◌
none_framed s = frame_same refl refl refl refl (none_compared (outside 0 s)) (none_marked (outside 0 s))

pub ended_framed : (f : FrameScan) {b : Bool} {n : ℕ} → b ≡ compared f.comparing [] → n ≡ marking f.marking []
    → record { depth = f.depth; plain = f.plain; loose = f.loose; comma = f.comma; truth = b; marks = n } ≡ framed f []
unfolding framed outside depth all_words not after_unary
ended_framed f t e = frame_same refl (sym (and_kept f.plain)) (last_loose f.loose f.begun) (sym (or_last f.comma)) t e
