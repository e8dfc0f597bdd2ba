-- What a token adds to the form of its line. Assumes nothing.
use Prim.Native.Nat.{ℕ, suc, ◌+◌, ◌-◌, ◌≤◌, ◌<◌}
use native.Mathlib.Omega.{arith}
use mathlib.Core.Path.{◌≡◌, refl, sym, ap, ◌∙◌}
use mathlib.Core.Bool.{Bool, true, false, cond}
use mathlib.Core.List.{List, [], ◌∷◌, ◌++◌, append_assoc, append-nil, flat_map}
use lib.ListN.{length, take, drop, get_or}
use Rattle.std.proofs.lemmas.List.{drop_more, drop_all}
use Rattle.std.specs.Prelude.{filter}
use lib.Dec.{eqb}
use lib.Seq.{take_all}
use Rattle.std.proofs.Common.{eqb-true}
use Rattle.std.proofs.lemmas.List.{length-take, length-take-le}
use Rattle.laws.proofs.Std.{eqb_turn}
use Rattle.reference.specs.Lists.{any, is_empty}
use Rattle.reference.specs.Control.{◌and◌, ◌or◌, when◌then◌else◌}
use Rattle.reference.specs.Text.{Text, bytes, has, contains}
use Rattle.reference.specs.Listing.{Token, is, Keyword, Punct}
use Rattle.cautions.specs.Forms.{words_in, signs_in, form}
use Rattle.lines.specs.Words.{kind_of, text_of, token_of, tokens_of}
use Rattle.lines.proofs.shapes.Tests.{is_it, is_not}
use Rattle.flow.specs.declared.spelling.Spelling.{Spelling}
use Rattle.flow.specs.Spelling.{spelled, Short, Spells, unmatched, in_front, joined}
use Rattle.flow.specs.Forms.{SIGNS, word_of, signs_of, token_signs, has_colon}
use Rattle.cautions.specs.Forms.{CONTROL}

-- ---- how much was read

pub short_more : {f : Spelling} {m : ℕ} (n : ℕ) → Short f m → m ≤ n → Short f n
short_more n b h = record { room = b.room; sized = b.sized; few = omega (arith, b.few) }

-- ---- one more in front of what follows

-- f has read what g had and the text s, which stands in front of t
pub further : (f g : Spelling) (s t : Text) {a : Text} → ((more : Text) → spelled f more ≡ spelled g (s ++ more)) → s ++ t ≡ a
    → (more : Text) → spelled f (t ++ more) ≡ spelled g (a ++ more)
further f g s t {a} r e more = r (t ++ more) ∙ ap (spelled g) (sym (append_assoc s t more) ∙ ap (λ (x : Text). x ++ more) e)

-- ---- words

module _ (tape area : Text) (w : ℕ) {k : ℕ} (e : k ≡ kind_of w) where
  pub no_word : (k ≡ Keyword → ⊥) → word_of (token_of tape area w) ≡ []
  unfolding word_of when◌then◌else◌ ◌and◌
  no_word n = rw (← is_not (token_of tape area w) Keyword e n) refl

  module _ (h : k ≡ Keyword) {s : Text} (es : s ≡ text_of tape area w) {b : Bool} (eb : b ≡ has CONTROL s) where
    pub other_word : b ≡ false → word_of (token_of tape area w) ≡ []
    unfolding word_of when◌then◌else◌ ◌and◌
    other_word f = rw (← is_it (token_of tape area w) Keyword e h, ← es, ← eb, f) refl

    pub control_word : b ≡ true → word_of (token_of tape area w) ≡ s
    unfolding word_of when◌then◌else◌ ◌and◌
    control_word t = rw (← is_it (token_of tape area w) Keyword e h, ← es, ← eb, t) refl

  pub no_signs : (k ≡ Punct → ⊥) → token_signs (token_of tape area w) ≡ []
  unfolding token_signs when◌then◌else◌
  no_signs n = rw (← is_not (token_of tape area w) Punct e n) refl

  pub punct_signs : k ≡ Punct → {s : Text} → s ≡ text_of tape area w → token_signs (token_of tape area w) ≡ signs_of s
  unfolding token_signs when◌then◌else◌
  punct_signs h es = rw (← is_it (token_of tape area w) Punct e h, ← es) refl

module _ (tape area : Text) (ws : List ℕ) (i : ℕ) where
  module _ (h : i < length ws) where
    pub words_more : word_of (token_of tape area (get_or ws i 0)) ++ words_in CONTROL (tokens_of tape area (drop (i + 1) ws)) ≡ words_in CONTROL (tokens_of tape area (drop i ws))
    unfolding words_in word_of flat_map
    words_more = rw (drop_more ws i 0 h) refl

    pub signs_more : token_signs (token_of tape area (get_or ws i 0)) ++ signs_in SIGNS (tokens_of tape area (drop (i + 1) ws)) ≡ signs_in SIGNS (tokens_of tape area (drop i ws))
    unfolding signs_in token_signs signs_of flat_map
    signs_more = rw (drop_more ws i 0 h) refl

  module _ (h : length ws ≤ i) where
    pub words_end : words_in CONTROL (tokens_of tape area (drop i ws)) ≡ []
    unfolding words_in flat_map
    words_end = rw (drop_all i ws h) refl

    pub signs_end : signs_in SIGNS (tokens_of tape area (drop i ws)) ≡ []
    unfolding signs_in flat_map
    signs_end = rw (drop_all i ws h) refl

-- ---- signs of a text

module _ (b : ℕ) {x : Bool} (e : x ≡ contains SIGNS b) where
  pub a_sign : x ≡ true → signs_of (b ∷ []) ≡ b ∷ []
  unfolding signs_of
  a_sign t = rw (← e, t) refl

  pub no_sign : x ≡ false → signs_of (b ∷ []) ≡ []
  unfolding signs_of
  no_sign f = rw (← e, f) refl

either : (b : Bool) (c : ℕ) (r : Text) → cond b (c ∷ []) [] ++ r ≡ cond b (c ∷ r) r
either true c r = refl
either false c r = refl

pub sign_more : (s : Text) (i : ℕ) → i < length s → signs_of (get_or s i 0 ∷ []) ++ signs_of (drop (i + 1) s) ≡ signs_of (drop i s)
unfolding signs_of
sign_more s i h = rw (drop_more s i 0 h) (either (contains SIGNS (get_or s i 0)) (get_or s i 0) (signs_of (drop (i + 1) s)))

pub sign_end : (s : Text) (i : ℕ) → length s ≤ i → signs_of (drop i s) ≡ []
unfolding signs_of
sign_end s i h = rw (drop_all i s h) refl

-- ---- the whole

-- nothing was read
pub none_spelled : (s : Text) → spelled (record { bytes = 0 ∷ 0 ∷ 0 ∷ 0 ∷ 0 ∷ 0 ∷ 0 ∷ 0 ∷ 0 ∷ 0 ∷ []; len = 0; closes = 0; opens = 0 }) s ≡ (take 10 s, unmatched s)
unfolding spelled joined
none_spelled s =
    let a : 0 + ((unmatched s).0 - 0) ≡ (unmatched s).0 = omega arith in
    let b : (unmatched s).1 + (0 - (unmatched s).0) ≡ (unmatched s).1 = omega arith in
    rw (a, b) refl

pub none_short : Short (record { bytes = 0 ∷ 0 ∷ 0 ∷ 0 ∷ 0 ∷ 0 ∷ 0 ∷ 0 ∷ 0 ∷ 0 ∷ []; len = 0; closes = 0; opens = 0 }) 0
none_short = record { room = omega arith; sized = refl; few = omega arith }

-- all was read
ended : (f : Spelling) → f.len ≤ 10 → spelled f [] ≡ (take f.len f.bytes, (f.closes, f.opens))
unfolding spelled joined unmatched
ended f h =
    let a : take 10 (take f.len f.bytes ++ []) ≡ take f.len f.bytes = rw (append-nil (take f.len f.bytes)) (take_all 10 (take f.len f.bytes) (omega (arith, length-take f.len f.bytes))) in
    let b : f.closes + (0 - f.opens) ≡ f.closes = omega arith in
    let d : 0 + (f.opens - 0) ≡ f.opens = omega arith in
    rw (a, b, d) refl

pub spells : (f : Spelling) (s : Text) → f.len ≤ 10 → spelled f [] ≡ (take 10 s, unmatched s) → Spells f s
spells f s h e =
    let g : ◌≡◌ {A = Text × (ℕ × ℕ)} (take f.len f.bytes, (f.closes, f.opens)) (take 10 s, unmatched s) = sym (ended f h) ∙ e in
    record { room = h; front = ap (λ (p : Text × (ℕ × ℕ)). p.0) g; braces = ap (λ (p : Text × (ℕ × ℕ)). p.1) g }

-- ---- a line with no statement

empty_take : (n : ℕ) (s : Text) → take (suc n) s ≡ [] → s ≡ []
empty_take n [] e = refl
empty_take n (x ∷ xs) e = absurd (cc)

pub no_statement : (f : Spelling) (s : Text) → Spells f s → f.len ≡ 0 → s ≡ []
no_statement f s p z = empty_take 9 s (sym p.front ∙ rw z refl)

colon_front : (s r : Text) → take 1 (filter (λ c. contains (bytes ":") c) s ++ r) ≡ (when contains s 58 then bytes ":" else take 1 r)
unfolding when◌then◌else◌ ◌or◌
colon_front [] r = refl
colon_front (c ∷ cs) r = rw (eqb_turn 58 c) (go (eqb c 58) refl (colon_front cs r))
  where
    go : (b : Bool) → eqb c 58 ≡ b
        → take 1 (filter (λ c. contains (bytes ":") c) cs ++ r) ≡ (when contains cs 58 then bytes ":" else take 1 r)
        → take 1 (cond (b or false) (c ∷ filter (λ c. contains (bytes ":") c) cs) (filter (λ c. contains (bytes ":") c) cs) ++ r) ≡ (when b or contains cs 58 then bytes ":" else take 1 r)
    go true e h = rw (eqb-true c 58 e) refl
    go false e h = h

colons : (ts : List Token) → take 1 (signs_in (bytes ":") ts) ≡ (when any has_colon ts then bytes ":" else [])
unfolding signs_in has_colon flat_map when◌then◌else◌ ◌or◌ ◌and◌
colons [] = refl
colons (t ∷ ts) = go (is Punct t) (colons ts)
  where
    after : (b q : Bool) {r : Text} → r ≡ (when q then bytes ":" else []) → (when b then bytes ":" else r) ≡ (when b or q then bytes ":" else [])
    after true q e = refl
    after false q e = e

    go : (b : Bool) → take 1 (signs_in (bytes ":") ts) ≡ (when any has_colon ts then bytes ":" else [])
        → take 1 ((when b then filter (λ c. contains (bytes ":") c) t.text else []) ++ signs_in (bytes ":") ts) ≡ (when (b and contains t.text 58) or any has_colon ts then bytes ":" else [])
    go true h = colon_front t.text (signs_in (bytes ":") ts) ∙ after (contains t.text 58) (any has_colon ts) h
    go false h = h

module _ (ts : List Token) {b : Bool} (eb : b ≡ any has_colon ts) where
  pub form_colon : words_in CONTROL ts ++ signs_in SIGNS ts ≡ [] → b ≡ true → form ts ≡ bytes ":"
  unfolding form when◌then◌else◌
  form_colon e t = rw (e, colons ts, ← eb, t) refl

  pub form_none : words_in CONTROL ts ++ signs_in SIGNS ts ≡ [] → b ≡ false → form ts ≡ words_in CONTROL ts ++ signs_in SIGNS ts
  unfolding form when◌then◌else◌
  form_none e f = rw (e, colons ts, ← eb, f) refl

pub form_statement : (ts : List Token) (f : Spelling) → Spells f (words_in CONTROL ts ++ signs_in SIGNS ts) → length f.bytes ≡ 10 → (f.len ≡ 0 → ⊥)
    → form ts ≡ words_in CONTROL ts ++ signs_in SIGNS ts
unfolding form when◌then◌else◌
form_statement ts f p z n = go (words_in CONTROL ts ++ signs_in SIGNS ts) p.room p.front
  where
    go : (s : Text) → f.len ≤ 10 → take f.len f.bytes ≡ take 10 s → (when is_empty s then take 1 (signs_in (bytes ":") ts) else s) ≡ s
    go [] h e = absurd (n (sym (length-take-le f.len f.bytes (omega arith)) ∙ ap length e))
    go (c ∷ cs) h e = refl

-- f has read nothing, and g the `:` behind it
pub colon_alone : (f g : Spelling) (s : Text) {n : ℕ} → Spells f s → f.len ≡ 0 → Short g n → spelled g [] ≡ spelled f (58 ∷ []) → Spells g (bytes ":")
unfolding spelled joined unmatched in_front when◌then◌else◌
colon_alone f g s p z h e =
    let b : ◌≡◌ {A = ℕ × ℕ} (f.closes, f.opens) (0, 0) = p.braces ∙ ap unmatched (no_statement f s p z) in
    let m : f.closes ≡ 0 = ap (λ (q : ℕ × ℕ). q.0) b in
    let n : f.opens ≡ 0 = ap (λ (q : ℕ × ℕ). q.1) b in
    spells g (bytes ":") h.room (e ∙ rw (z, m, n) refl)
