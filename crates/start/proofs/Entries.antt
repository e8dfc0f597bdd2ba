-- The list of names, entry by entry: what the head of a list says of the whole. Assumes nothing.
use Prim.Native.Nat.{ℕ, zero, suc, ◌+◌, ◌-◌, ◌≤◌, ◌<◌}
use native.Mathlib.Omega.{arith}
use mathlib.Core.Path.{◌≡◌, refl, sym, ap, ◌∙◌, subst}
use mathlib.Core.Bool.{Bool, true, false, not as flip}
use mathlib.Core.List.{List, [], ◌∷◌}
use mathlib.Core.Option.{Option, none, some}
use lib.Dec.{leb, eqb}
use lib.ListN.{length, take, drop, get_or, length-drop}
use borrow.Author.Tests.{ne_eqb, le-leb, lt-leb, not-true, not-false}
use Rattle.reference.specs.Control.{not, ◌or◌, when◌then◌else◌, let_some◌else◌then◌}
use Rattle.reference.specs.Lists.{any, is_some}
use Rattle.reference.specs.Text.{◌≟◌}
use Rattle.reference.specs.Tape.{from_le_bytes}
use Rattle.reference.proofs.Cases.{some_inj, none-some, bind-some}
use Rattle.laws.proofs.Scans.{if-true, if-false, or_true, or_false}
use Rattle.start.specs.Start.{Entry, entry_of, entries_from, entries, is_register, known_entries, listed}
use Rattle.laws.proofs.Parts.{to_end}
use mir.Syntax.{w8}
use mir.Val.{Fits}
use Rattle.start.specs.Items.{head_of}

-- ---- further fuel changes nothing

more_fuel : (f g : ℕ) (list : List ℕ) → length list ≤ f → length list ≤ g → entries_from f list ≡ entries_from g list
unfolding entries_from
more_fuel zero zero [] p q = refl
more_fuel zero (suc g) [] p q = refl
more_fuel (suc f) zero [] p q = refl
more_fuel (suc f) (suc g) [] p q = refl
more_fuel zero g (n ∷ rest) p q = absurd (omega arith)
more_fuel (suc f) zero (n ∷ rest) p q = absurd (omega arith)
more_fuel (suc f) (suc g) (n ∷ rest) p q =
    ap (λ (o : Option (List Entry)). when leb (n + 8) (length rest) then (let_some o else none then λ es. some (entry_of n rest ∷ es)) else none)
    (more_fuel f g (drop (n + 8) rest) (omega (arith, length-drop (n + 8) rest)) (omega (arith, length-drop (n + 8) rest)))

-- ---- one entry

pub entries-nil : entries [] ≡ some []
unfolding entries entries_from
entries-nil = refl

entries-cons : (n : ℕ) (rest : List ℕ)
    → entries (n ∷ rest) ≡ (when leb (n + 8) (length rest) then (let_some (entries (drop (n + 8) rest)) else none then λ es. some (entry_of n rest ∷ es)) else none)
unfolding entries entries_from
entries-cons n rest =
    ap (λ (o : Option (List Entry)). when leb (n + 8) (length rest) then (let_some o else none then λ es. some (entry_of n rest ∷ es)) else none)
    (more_fuel (length rest) (length (drop (n + 8) rest)) (drop (n + 8) rest) (omega (arith, length-drop (n + 8) rest)) (omega arith))

-- ---- the head of a list

pub no_head : (list : List ℕ) → length list ≡ 0 → none ≡ head_of list
unfolding head_of
no_head [] h = refl
no_head (n ∷ rest) h = absurd (omega arith)

-- of a list that has a byte n and the bytes `rest`
module _ (n : ℕ) (rest : List ℕ) where
  pub head-cut : length rest < n + 8 → none ≡ head_of (n ∷ rest)
  unfolding head_of
  head-cut h = sym (if-false _ _ (lt-leb (n + 8) (length rest) h))

  pub head_is : n + 8 ≤ length rest → some (entry_of n rest, drop (n + 8) rest) ≡ head_of (n ∷ rest)
  unfolding head_of
  head_is h = sym (if-true _ _ (le-leb (n + 8) (length rest) h))

-- ... as the code reads it
module _ {list : List ℕ} (n : ℕ) (rest : List ℕ) (e : list ≡ n ∷ rest) where
  pub byte-small : ((i : ℕ) → Fits w8 (get_or list i 0)) → n < 256
  byte-small f = let g : Fits w8 n = rw e at (f 0) in omega (arith, g.fits)

  module _ (m : ℕ) (em : m ≡ n) where
    pub cut_read : length rest < m + 8 → none ≡ head_of list
    cut_read h = rw e (head-cut n rest (rw em at h))

    pub entry_read : m + 8 ≤ length rest → (v : ℕ) → v ≡ from_le_bytes (take 8 (drop m rest))
        → ◌≡◌ {A = Option (Entry × List ℕ)} (some (record { name = take m rest; value = v }, take (length rest - (m + 8)) (drop (m + 8) rest))) (head_of list)
    entry_read h v ev = rw (e, ev, to_end (m + 8) rest, em) (head_is n rest (rw em at h))

-- ---- what it says of the entries

pub record Here (list : List ℕ) (e : Entry) (rest : List ℕ) : Type 0 where
  pub shorter : length rest < length list
  pub are : entries list ≡ (let_some (entries rest) else none then λ es. some (e ∷ es))

-- bytes that are no whole entry
pub cut-means : (list : List ℕ) → head_of list ≡ none → 0 < length list → entries list ≡ none
unfolding head_of when◌then◌else◌
cut-means [] e h = absurd (omega arith)
cut-means (n ∷ rest) e h = entries-cons n rest ∙ go (leb (n + 8) (length rest)) (entry_of n rest, drop (n + 8) rest) e
  where
    go : (b : Bool) (u : Entry × List ℕ) → (when b then some u else none) ≡ none
        → (when b then (let_some (entries (drop (n + 8) rest)) else none then λ es. some (entry_of n rest ∷ es)) else none) ≡ none
    go true u q = absurd (none-some (sym q))
    go false u q = refl

pub head-means : (list : List ℕ) (e : Entry) (rest : List ℕ) → head_of list ≡ some (e, rest) → Here list e rest
unfolding head_of when◌then◌else◌
head-means [] e rest q = absurd (none-some q)
head-means (n ∷ behind) e rest q = go (leb (n + 8) (length behind)) refl (entry_of n behind, drop (n + 8) behind) refl (e, rest) q
  where
    go : (b : Bool) → leb (n + 8) (length behind) ≡ b → (u : Entry × List ℕ) → u ≡ (entry_of n behind, drop (n + 8) behind) → (v : Entry × List ℕ)
        → (when b then some u else none) ≡ some v → Here (n ∷ behind) v.0 v.1
    go true p u eu v q =
        subst (λ (h : Entry × List ℕ). Here (n ∷ behind) h.0 h.1) (sym eu ∙ some_inj q)
        (record { shorter = omega (arith, length-drop (n + 8) behind); are = entries-cons n behind ∙ if-true _ _ p })
    go false p u eu v q = absurd (none-some q)

pub head-shorter : (list : List ℕ) {o : Option (Entry × List ℕ)} → o ≡ head_of list → {e : Entry} {rest : List ℕ} → o ≡ some (e, rest) → length rest < length list
head-shorter list eo {e} {rest} q = (head-means list e rest (sym eo ∙ q)).shorter

-- ---- names that are known

-- whether all entries are known, where there are any to tell
abbrev known : Option (List Entry) → Option (List Entry)
known o = let_some o else none then λ es. when any (λ e. not (is_register e.name)) es then none else some es

known_more : (e : Entry) (o : Option (List Entry)) → is_register e.name ≡ true
    → is_some (known (let_some o else none then λ es. some (e ∷ es))) ≡ is_some (known o)
unfolding let_some◌else◌then◌
known_more e none h = refl
known_more e (some es) h = go (any (λ e. not (is_register e.name)) es) refl
  where
    good : not (is_register e.name) ≡ false
    good = unfold not in rw h refl

    go : (b : Bool) → any (λ e. not (is_register e.name)) es ≡ b
        → is_some (when not (is_register e.name) or any (λ e. not (is_register e.name)) es then none else some (e ∷ es))
        ≡ is_some (when any (λ e. not (is_register e.name)) es then none else some es)
    go true p = ap is_some (if-true _ _ (or_false _ good ∙ p)) ∙ sym (ap is_some (if-true _ _ p))
    go false p = ap is_some (if-false _ _ (or_false _ good ∙ p)) ∙ sym (ap is_some (if-false _ _ p))

known-wrong : (e : Entry) (o : Option (List Entry)) → is_register e.name ≡ false
    → is_some (known (let_some o else none then λ es. some (e ∷ es))) ≡ false
unfolding let_some◌else◌then◌
known-wrong e none h = refl
known-wrong e (some es) h = ap is_some (if-true none (some (e ∷ es)) (or_true _ bad))
  where
    bad : not (is_register e.name) ≡ true
    bad = unfold not in rw h refl

known_is : (list : List ℕ) → known_entries list ≡ known (entries list)
unfolding known_entries
known_is list = refl

-- the scan of `are_known`: the rest of the list decides
pub record Knows (list rest : List ℕ) : Type 0 where
  pub same : is_some (known_entries list) ≡ is_some (known_entries rest)

pub knows_first : (list : List ℕ) → Knows list list
knows_first list = record { same = refl }

module _ (list rest : List ℕ) (k : Knows list rest) {o : Option (Entry × List ℕ)} (eo : o ≡ head_of rest) where
  -- no whole entry: the end, or one that is cut
  pub knows_end : o ≡ none → {x : Bool} → x ≡ eqb (length rest) 0 → x ≡ is_some (known_entries list)
  knows_end e ex = ex ∙ go rest (sym eo ∙ e) ∙ sym k.same
    where
      go : (ws : List ℕ) → head_of ws ≡ none → eqb (length ws) 0 ≡ is_some (known_entries ws)
      go [] q = sym (ap is_some (known_is []) ∙ ap (λ (o : Option (List Entry)). is_some (known o)) entries-nil ∙ unfold let_some◌else◌then◌ when◌then◌else◌ in refl)
      go (w ∷ ws) q =
          ne_eqb (length (w ∷ ws)) 0 (λ h. omega arith)
          ∙ sym (ap is_some (known_is (w ∷ ws)) ∙ ap (λ (o : Option (List Entry)). is_some (known o)) (cut-means (w ∷ ws) q (omega arith))
          ∙ unfold let_some◌else◌then◌ in refl)

  module _ (e : Entry) (more : List ℕ) (q : o ≡ some (e, more)) where
    here : Here rest e more
    here = head-means rest e more (sym eo ∙ q)

    told : is_some (known_entries rest) ≡ is_some (known (let_some (entries more) else none then λ es. some (e ∷ es)))
    told = ap is_some (known_is rest) ∙ ap (λ (o : Option (List Entry)). is_some (known o)) here.are

    module _ {x : Bool} (ex : x ≡ is_register e.name) where
      pub knows_wrong : flip x ≡ true → false ≡ is_some (known_entries list)
      knows_wrong h = sym (k.same ∙ told ∙ known-wrong e (entries more) (sym ex ∙ not-true _ h))

      pub knows_next : flip x ≡ false → Knows list more
      knows_next h = record { same = k.same ∙ told ∙ known_more e (entries more) (sym ex ∙ not-false _ h) ∙ sym (ap is_some (known_is more)) }

-- ---- the value of a name

-- the scan of `value_of`: what the rest of the list gives is what the list gives
pub record Seeks (list name rest : List ℕ) : Type 0 where
  pub same : (es : List Entry) → entries list ≡ some es → (more : List Entry) × (entries rest ≡ some more) × (listed es name ≡ listed more name)

pub seeks_first : (list name : List ℕ) → Seeks list name list
seeks_first list name = record { same = λ es e. (es, e, refl) }

module _ (list name rest : List ℕ) (k : Seeks list name rest) {o : Option (Entry × List ℕ)} (eo : o ≡ head_of rest) where
  pub seeks_end : o ≡ none → (es : List Entry) → entries list ≡ some es → 0 ≡ listed es name
  unfolding listed
  seeks_end e es q = sym ((k.same es q).2 ∙ go rest (sym eo ∙ e) (k.same es q).0 (k.same es q).1)
    where
      go : (ws : List ℕ) → head_of ws ≡ none → (more : List Entry) → entries ws ≡ some more → listed more name ≡ 0
      go [] p more r = let none_left : more ≡ [] = some_inj (sym r ∙ entries-nil) in ap (λ (l : List Entry). listed l name) none_left
      go (w ∷ ws) p more r = absurd (none-some (sym (cut-means (w ∷ ws) p (omega arith)) ∙ r))

  module _ (e : Entry) (more : List ℕ) (q : o ≡ some (e, more)) {x : Bool} (ex : x ≡ (name ≟ e.name)) where
    split : (es : List Entry) (p : entries list ≡ some es) → (others : List Entry) × (entries more ≡ some others) × ((k.same es p).0 ≡ e ∷ others)
    split es p = let b = bind-some (sym (head-means rest e more (sym eo ∙ q)).are ∙ (k.same es p).1) in (b.0, b.1, sym (some_inj b.2))

    pub seeks_here : x ≡ true → (es : List Entry) → entries list ≡ some es → e.value ≡ listed es name
    unfolding listed
    seeks_here h es p = let s = split es p in sym ((k.same es p).2 ∙ ap (λ (r : List Entry). listed r name) s.2 ∙ if-true _ _ (sym ex ∙ h))

    pub seeks_next : x ≡ false → Seeks list name more
    unfolding listed
    seeks_next h =
        record {
          same = λ es p.
              (let s = split es p in (s.0, s.1, (k.same es p).2 ∙ ap (λ (r : List Entry). listed r name) s.2 ∙ if-false _ _ (sym ex ∙ h)));
        }
