-- The walk: places, what is dark, one line of a sweep, and that sweeping on changes nothing once a sweep sets no place more. Assumes nothing.
use Prim.Native.Nat.{ℕ, zero, suc, ◌+◌, ◌-◌, ◌≤◌, ◌<◌}
use native.Mathlib.Omega.{arith}
use native.Mathlib.Numerals.{add-one}
use mathlib.Core.Path.{◌≡◌, refl, sym, ap, ◌∙◌}
use mathlib.Core.Bool.{Bool, true, false, false≢true, cond}
use mathlib.Core.List.{List, [], ◌∷◌, ◌++◌, map}
use mathlib.Core.Option.{none, some}
use lib.Dec.{eqb}
use lib.ListN.{length, take, drop, get_or, set, length-map, replicate}
use mir.Val.{bool_byte}
use borrow.Author.Tests.{eq-eqb, ne_eqb}
use Rattle.std.proofs.Math.Seq.{slice}
use Rattle.std.proofs.lemmas.List.{drop_more, drop_all, get_or-map, drop-map, drop-drop, length-set}
use Rattle.laws.proofs.Parts.{drop-take}
use Rattle.reference.specs.Control.{not, ◌or◌, when◌then◌else◌, let_some◌else◌then◌}
use Rattle.reference.specs.Lists.{count, is_some}
use Rattle.reference.specs.Text.{Text}
use Rattle.reference.specs.Listing.{Listing, ◌at◌}
use Rattle.cautions.specs.Texts.{is_opaque}
use Rattle.cautions.specs.Forms.{is_case, places, places_from, next, ways, is_dark, onward, ends, reach, sweep, sweeps}
use Rattle.flow.specs.Ways.{forms_of}
use Rattle.flow.specs.Reaching.{is_one, cases_in, after, stops_at, stepped, onward_of}

-- ---- places

long_from : (i : ℕ) (ls : Listing) → length (places_from i ls) ≡ length ls
unfolding places_from
long_from i [] = refl
long_from i (l ∷ ls) = ap suc (long_from (suc i) ls)

place_from : (i : ℕ) (ls : Listing) (k : ℕ) → k < length ls → get_or (places_from i ls) k 0 ≡ i + k
unfolding places_from
place_from i [] k h = absurd (omega arith)
place_from i (l ∷ ls) zero h = omega arith
place_from i (l ∷ ls) (suc k) h = place_from (suc i) ls k (omega arith) ∙ omega arith

pub places_long : (ls : Listing) → length (places ls) ≡ length ls
places_long ls = long_from 0 ls

pub place_at : (ls : Listing) (k : ℕ) → k < length ls → get_or (places ls) k 0 ≡ k
place_at ls k h = place_from 0 ls k h ∙ omega arith

place_more : (ls : Listing) (k : ℕ) → k < length ls → drop k (places ls) ≡ k ∷ drop (k + 1) (places ls)
place_more ls k h = drop_more (places ls) k 0 (omega (arith, places_long ls)) ∙ ap (λ (x : ℕ). x ∷ drop (k + 1) (places ls)) (place_at ls k h)

-- ---- cases

pub case_set : (ls : Listing) (m : ℕ) (s : List Bool) {b : Bool} → m < length ls → b ≡ is_case (ls at m).tokens → b ≡ true → set s m true ≡ reach (cases_in ls (take 1 (drop m (places ls)))) s
unfolding reach
case_set ls m s h e t = rw (place_more ls m h, ← e, t) refl

pub case_left : (ls : Listing) (m : ℕ) (s : List Bool) {b : Bool} → m < length ls → b ≡ is_case (ls at m).tokens → b ≡ false → s ≡ reach (cases_in ls (take 1 (drop m (places ls)))) s
unfolding reach
case_left ls m s h e t = rw (place_more ls m h, ← e, t) refl

pub case_past : (ls : Listing) (m : ℕ) (s : List Bool) → length ls ≤ m → s ≡ reach (cases_in ls (take 1 (drop m (places ls)))) s
unfolding reach
case_past ls m s h = rw (drop_all m (places ls) (omega (arith, places_long ls))) refl

reach_append : (xs ys : List ℕ) (s : List Bool) → reach (xs ++ ys) s ≡ reach ys (reach xs s)
unfolding reach
reach_append [] ys s = refl
reach_append (x ∷ xs) ys s = reach_append xs ys (set s x true)

cases_append : (ls : Listing) (xs ys : List ℕ) → cases_in ls (xs ++ ys) ≡ cases_in ls xs ++ cases_in ls ys
cases_append ls [] ys = refl
cases_append ls (x ∷ xs) ys = go (is_case (ls at x).tokens) (cases_append ls xs ys)
  where
    go : (b : Bool) → cases_in ls (xs ++ ys) ≡ cases_in ls xs ++ cases_in ls ys
        → cond b (x ∷ cases_in ls (xs ++ ys)) (cases_in ls (xs ++ ys))
        ≡ cond b (x ∷ cases_in ls xs) (cases_in ls xs) ++ cases_in ls ys
    go true h = ap (λ l. x ∷ l) h
    go false h = h

one_more : (n : ℕ) (xs : List ℕ) → take (suc n) xs ≡ take 1 xs ++ take n (drop 1 xs)
one_more zero [] = refl
one_more (suc n) [] = refl
one_more n (x ∷ xs) = refl

pub cases_more : (ls : Listing) (m c : ℕ) (s : List Bool) {t r : List Bool} → m < c → t ≡ reach (cases_in ls (take 1 (drop m (places ls)))) s
    → reach (cases_in ls (take (c - m) (drop m (places ls)))) s ≡ r → reach (cases_in ls (take (c - (m + 1)) (drop (m + 1) (places ls)))) t ≡ r
cases_more ls m c s h e i =
    let a : c - m ≡ suc (c - (m + 1)) = omega arith in
    let p : List ℕ = places ls in
    let b : take (c - m) (drop m p) ≡ take 1 (drop m p) ++ take (c - (m + 1)) (drop (m + 1) p) =
    rw a (one_more (c - (m + 1)) (drop m p) ∙ ap (λ l. take 1 (drop m p) ++ take (c - (m + 1)) l) (drop-drop 1 m p)) in
    rw e (sym (reach_append _ _ s) ∙ ap (λ l. reach l s) (sym (cases_append ls _ _)) ∙ ap (λ l. reach (cases_in ls l) s) (sym b) ∙ i)

-- ---- dark lines

pub ways_at : (ls : Listing) (k : ℕ) → k < length ls → get_or (ways ls) k none ≡ next ls (forms_of ls) k
unfolding ways
ways_at ls k h = get_or-map (next ls (forms_of ls)) (places ls) k 0 none (omega (arith, places_long ls)) ∙ ap (next ls (forms_of ls)) (place_at ls k h)

module _ (ls : Listing) (k : ℕ) (h : k < length ls) {b : Bool} (e : b ≡ is_some (next ls (forms_of ls) k)) where
  pub dark_unknown : b ≡ false → true ≡ is_dark ls (ways ls) k
  unfolding is_dark ◌or◌ not
  dark_unknown f = rw (ways_at ls k h, ← e, f) refl

  pub dark_known : b ≡ true → {x : Bool} → x ≡ is_opaque (ls at k).tokens → x ≡ is_dark ls (ways ls) k
  unfolding is_dark ◌or◌ not
  dark_known t ex = rw (ways_at ls k h, ← e, t) ex

-- ---- one line

module _ (ls : Listing) (i : ℕ) (fam : Text) (vs : List Text) (k : ℕ) where
  pub stops_here : k ≡ i → true ≡ stops_at ls i fam vs k
  unfolding stops_at ◌or◌
  stops_here e = rw (eq-eqb k i e) refl

  module _ (n : k ≡ i → ⊥) {b : Bool} (eb : b ≡ is_dark ls (ways ls) k) where
    pub stops_dark : b ≡ true → true ≡ stops_at ls i fam vs k
    unfolding stops_at ◌or◌
    stops_dark t = rw (ne_eqb k i n, ← eb, t) refl

    pub stops_ended : b ≡ false → {x : Bool} → x ≡ ends fam vs (ls at k).tokens → x ≡ stops_at ls i fam vs k
    unfolding stops_at ◌or◌
    stops_ended f ex = rw (ne_eqb k i n, ← eb, f) ex

  pub step_unseen : (s : List Bool) → get_or s k false ≡ false → s ≡ stepped ls i fam vs k s
  unfolding stepped when◌then◌else◌
  step_unseen s e = rw e refl

  pub step_stopped : (s : List Bool) {b : Bool} → b ≡ stops_at ls i fam vs k → b ≡ true → s ≡ stepped ls i fam vs k s
  unfolding stepped onward stops_at reach when◌then◌else◌
  step_stopped s e t = go (get_or s k false)
    where
      go : (x : Bool)
          → s ≡ (when x then reach (when eqb k i or is_dark ls (ways ls) k or ends fam vs (ls at k).tokens then [] else (let_some (get_or (ways ls) k none) else [] then λ ks. ks)) s else s)
      go true = rw (← e, t) refl
      go false = refl

  pub step_on : k < length ls → (s : List Bool) → get_or s k false ≡ true → {b : Bool} → b ≡ stops_at ls i fam vs k → b ≡ false
      → {t : List Bool} → t ≡ reach (after ls k) s → t ≡ stepped ls i fam vs k s
  unfolding stepped onward stops_at when◌then◌else◌
  step_on h s es e f et = rw (es, ← e, f, ways_at ls k h) et

  -- a sweep from line k on
  pub sweep_more : k < length ls → (s : List Bool) {t r : List Bool} → t ≡ stepped ls i fam vs k s
      → sweep k (drop k (onward_of ls i fam vs)) s ≡ r → sweep (k + 1) (drop (k + 1) (onward_of ls i fam vs)) t ≡ r
  unfolding sweep stepped
  sweep_more h s e v =
      let f : List ℕ → List (List ℕ) = map (onward ls (ways ls) i fam vs) in
      let d : drop k (onward_of ls i fam vs) ≡ onward ls (ways ls) i fam vs k ∷ drop (k + 1) (onward_of ls i fam vs) =
      drop-map (onward ls (ways ls) i fam vs) k (places ls) ∙ ap f (place_more ls k h)
      ∙ ap (λ l. onward ls (ways ls) i fam vs k ∷ l) (sym (drop-map (onward ls (ways ls) i fam vs) (k + 1) (places ls))) in
      rw (e, add-one k) (rw (d, add-one k) at v)

  pub sweep_end : length ls ≤ k → (s : List Bool) {r : List Bool} → sweep k (drop k (onward_of ls i fam vs)) s ≡ r → s ≡ r
  unfolding sweep
  sweep_end h s v = rw (drop_all k (onward_of ls i fam vs) (omega (arith, length-map (places ls) (onward ls (ways ls) i fam vs), places_long ls))) at v

-- ---- how many are set

pub counted_more : (s : List Bool) (k : ℕ) (n : ℕ) {x r : ℕ} → k < length s → x ≡ bool_byte (get_or s k false) → n + count is_one (drop k s) ≡ r → (n + x) + count is_one (drop (k + 1) s) ≡ r
unfolding when◌then◌else◌
counted_more s k n h e v = go (get_or s k false) e (rw (drop_more s k false h) at v)
  where
    go : (b : Bool) {x r : ℕ} → x ≡ bool_byte b → n + (when b then suc (count is_one (drop (k + 1) s)) else count is_one (drop (k + 1) s)) ≡ r → (n + x) + count is_one (drop (k + 1) s) ≡ r
    go true e v = omega arith
    go false e v = omega arith

pub counted_end : (s : List Bool) (k : ℕ) (n : ℕ) {r : ℕ} → length s ≤ k → n + count is_one (drop k s) ≡ r → n ≡ r
counted_end s k n {r} h v = let w : n + 0 ≡ r = rw (drop_all k s h) at v in omega arith

-- ---- the next lines, set one after the other

module _ (ls : Listing) (k : ℕ) (s : List Bool) where
  after_is : {ks : List ℕ} → some ks ≡ next ls (forms_of ls) k → reach ks s ≡ reach (after ls k) s
  unfolding let_some◌else◌then◌
  after_is e = rw (← e) refl

  pub after_unknown : none ≡ next ls (forms_of ls) k → s ≡ reach (after ls k) s
  unfolding let_some◌else◌then◌ reach
  after_unknown e = rw (← e) refl

  pub after_nowhere : some [] ≡ next ls (forms_of ls) k → s ≡ reach (after ls k) s
  unfolding reach
  after_nowhere e = after_is e

  pub after_one : {a : ℕ} → some (a ∷ []) ≡ next ls (forms_of ls) k → {t : List Bool} → t ≡ set s a true → t ≡ reach (after ls k) s
  unfolding reach
  after_one e p = p ∙ after_is e

  pub after_two : {a b : ℕ} → some (a ∷ b ∷ []) ≡ next ls (forms_of ls) k → {t u : List Bool} → t ≡ set s a true → u ≡ set t b true → u ≡ reach (after ls k) s
  unfolding reach
  after_two e p q = q ∙ rw p (after_is e)

  pub after_three : {a b c : ℕ} → some (a ∷ b ∷ c ∷ []) ≡ next ls (forms_of ls) k → {t u v : List Bool} → t ≡ set s a true → u ≡ set t b true → v ≡ set u c true → v ≡ reach (after ls k) s
  unfolding reach
  after_three e p q r = r ∙ rw (q, p) (after_is e)

  pub after_cases : (c : ℕ) (ks : List ℕ) → some (ks ++ (c ∷ [])) ≡ next ls (forms_of ls) k → {t u : List Bool} → t ≡ reach ks s → u ≡ set t c true → u ≡ reach (after ls k) s
  unfolding reach
  after_cases c ks e p q = q ∙ rw p (sym (reach_append ks (c ∷ []) s) ∙ after_is e)

-- ---- sweeps only set

set_keeps : (s : List Bool) (k j : ℕ) → get_or s j false ≡ true → get_or (set s k true) j false ≡ true
set_keeps [] k j e = e
set_keeps (x ∷ xs) zero zero e = refl
set_keeps (x ∷ xs) zero (suc j) e = e
set_keeps (x ∷ xs) (suc k) zero e = e
set_keeps (x ∷ xs) (suc k) (suc j) e = set_keeps xs k j e

reach_keeps : (ks : List ℕ) (s : List Bool) (j : ℕ) → get_or s j false ≡ true → get_or (reach ks s) j false ≡ true
unfolding reach
reach_keeps [] s j e = e
reach_keeps (k ∷ ks) s j e = reach_keeps ks (set s k true) j (set_keeps s k j e)

pub reach_long : (ks : List ℕ) (s : List Bool) → length (reach ks s) ≡ length s
unfolding reach
reach_long [] s = refl
reach_long (k ∷ ks) s = reach_long ks (set s k true) ∙ length-set s k true

sweep_keeps : (k : ℕ) (on : List (List ℕ)) (s : List Bool) (j : ℕ) → get_or s j false ≡ true → get_or (sweep k on s) j false ≡ true
unfolding sweep when◌then◌else◌
sweep_keeps k [] s j e = e
sweep_keeps k (ks ∷ on) s j e = go (get_or s k false) (λ t. sweep_keeps (suc k) on t j)
  where
    go : (b : Bool) → ((t : List Bool) → get_or t j false ≡ true → get_or (sweep (suc k) on t) j false ≡ true) → get_or (sweep (suc k) on (when b then reach ks s else s)) j false ≡ true
    go true h = h (reach ks s) (reach_keeps ks s j e)
    go false h = h s e

pub sweep_long : (k : ℕ) (on : List (List ℕ)) (s : List Bool) → length (sweep k on s) ≡ length s
unfolding sweep when◌then◌else◌
sweep_long k [] s = refl
sweep_long k (ks ∷ on) s = go (get_or s k false) (λ t. sweep_long (suc k) on t)
  where
    go : (b : Bool) → ((t : List Bool) → length (sweep (suc k) on t) ≡ length t) → length (sweep (suc k) on (when b then reach ks s else s)) ≡ length s
    go true h = h (reach ks s) ∙ reach_long ks s
    go false h = h s

fewer : (a b : List Bool) → length a ≡ length b → ((j : ℕ) → get_or a j false ≡ true → get_or b j false ≡ true) → count is_one a ≤ count is_one b
unfolding when◌then◌else◌
fewer [] [] e h = omega arith
fewer [] (y ∷ ys) e h = absurd (omega arith)
fewer (x ∷ xs) [] e h = absurd (omega arith)
fewer (true ∷ xs) (true ∷ ys) e h = let i = fewer xs ys (omega arith) (λ j. h (suc j)) in omega (arith, i)
fewer (true ∷ xs) (false ∷ ys) e h = absurd (false≢true (h 0 refl))
fewer (false ∷ xs) (true ∷ ys) e h = let i = fewer xs ys (omega arith) (λ j. h (suc j)) in omega (arith, i)
fewer (false ∷ xs) (false ∷ ys) e h = fewer xs ys (omega arith) (λ j. h (suc j))

unchanged : (a b : List Bool) → length a ≡ length b → ((j : ℕ) → get_or a j false ≡ true → get_or b j false ≡ true) → count is_one b ≡ count is_one a → b ≡ a
unfolding when◌then◌else◌
unchanged [] [] e h c = refl
unchanged [] (y ∷ ys) e h c = absurd (omega arith)
unchanged (x ∷ xs) [] e h c = absurd (omega arith)
unchanged (true ∷ xs) (true ∷ ys) e h c = ap (λ l. true ∷ l) (unchanged xs ys (omega arith) (λ j. h (suc j)) (omega arith))
unchanged (true ∷ xs) (false ∷ ys) e h c = absurd (false≢true (h 0 refl))
unchanged (false ∷ xs) (true ∷ ys) e h c = let i = fewer xs ys (omega arith) (λ j. h (suc j)) in absurd (omega (arith, i))
unchanged (false ∷ xs) (false ∷ ys) e h c = ap (λ l. false ∷ l) (unchanged xs ys (omega arith) (λ j. h (suc j)) c)

-- ---- sweeping on changes nothing once a sweep sets no place more

sweeps_stay : (n : ℕ) (on : List (List ℕ)) (s : List Bool) → sweep 0 on s ≡ s → sweeps n on s ≡ s
unfolding sweeps
sweeps_stay zero on s e = refl
sweeps_stay (suc n) on s e = rw e (sweeps_stay n on s e)

pub sweeps_done : (n : ℕ) (on : List (List ℕ)) (s : List Bool) {t r : List Bool} {a b : ℕ} → t ≡ sweep 0 on s → a ≡ count is_one s → b ≡ count is_one t → b ≡ a → sweeps n on s ≡ r → t ≡ r
sweeps_done n on s {t} {r} e p q c v =
    let u : sweep 0 on s ≡ s = unchanged s (sweep 0 on s) (sym (sweep_long 0 on s)) (sweep_keeps 0 on s) (ap (count is_one) (sym e) ∙ sym q ∙ c ∙ p) in
    e ∙ u ∙ sym (sweeps_stay n on s u) ∙ v

pub sweeps_more : (n j : ℕ) (on : List (List ℕ)) (s : List Bool) {t r : List Bool} → j < n → t ≡ sweep 0 on s → sweeps (n - j) on s ≡ r → sweeps (n - (j + 1)) on t ≡ r
unfolding sweeps
sweeps_more n j on s h e v = let a : n - j ≡ suc (n - (j + 1)) = omega arith in rw e (rw a at v)

pub sweeps_end : (n j : ℕ) (on : List (List ℕ)) (s : List Bool) {r : List Bool} → n ≤ j → sweeps (n - j) on s ≡ r → s ≡ r
unfolding sweeps
sweeps_end n j on s h v = let a : n - j ≡ 0 = omega arith in rw a at v

pub byte_one : {n : ℕ} (b : Bool) → n ≡ bool_byte b → n ≤ 1
byte_one true e = omega arith
byte_one false e = omega arith

pub cases_end : (ls : Listing) (m c : ℕ) (s : List Bool) {r : List Bool} → c ≤ m → reach (cases_in ls (take (c - m) (drop m (places ls)))) s ≡ r → s ≡ r
unfolding reach
cases_end ls m c s h v = let a : c - m ≡ 0 = omega arith in rw a at v

pub cases_begin : (ls : Listing) (a c : ℕ) (s : List Bool) → reach (cases_in ls (take (c - a) (drop a (places ls)))) s ≡ reach (cases_in ls (slice a c (places ls))) s
cases_begin ls a c s = ap (λ l. reach (cases_in ls l) s) (sym (drop-take a c (places ls)))

pub step_long : (ls : Listing) (i : ℕ) (fam : Text) (vs : List Text) (k : ℕ) (s : List Bool) → length (stepped ls i fam vs k s) ≡ length s
unfolding stepped when◌then◌else◌
step_long ls i fam vs k s = go (get_or s k false)
  where
    go : (b : Bool) → length (when b then reach (onward ls (ways ls) i fam vs k) s else s) ≡ length s
    go true = reach_long (onward ls (ways ls) i fam vs k) s
    go false = refl

pub walk_begin : (ls : Listing) (on : List (List ℕ)) (i n : ℕ) (s : List Bool) → length ls ≡ n → s ≡ reach (after ls i) (replicate (suc n) false)
    → sweeps (n - 0) on s ≡ sweeps (length ls) on (reach (after ls i) (replicate (suc (length ls)) false))
walk_begin ls on i n s e p = let a : n - 0 ≡ n = omega arith in rw (a, p, e) refl
