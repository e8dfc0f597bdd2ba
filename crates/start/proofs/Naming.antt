-- Which name 16 refuses: the scan for it, and that it is the one for which the call refuses. Assumes nothing.
use Rattle.std.proofs.Common.{◌≡◌, ℕ, zero, suc, ◌≤◌, Bool, true, false, List, [], ◌∷◌, map, length, sym, refl, ap, ◌∙◌, arith}
use mathlib.Core.Option.{Option, none, some}
use Rattle.reference.specs.Control.{not, ◌or◌, when◌then◌else◌, let_some◌else◌then◌}
use Rattle.reference.specs.Lists.{any, find}
use Rattle.reference.specs.Text.{Text}
use Rattle.reference.specs.Listing.{Listing}
use Rattle.reference.specs.Questions.{Refused}
use Rattle.reference.proofs.Cases.{not-true as shut-true, some_inj, none-some, bind-some}
use Rattle.laws.proofs.Scans.{if-true, if-false, or_true, or_false}
use Rattle.start.specs.Start.{Entry, entries, is_register, known_entries, solution, ask_names}
use Rattle.start.specs.Items.{head_of}
use Rattle.start.specs.Unknown.{whole_from, whole_entries, unknown_name, Names}
use Rattle.start.proofs.Entries.{head-means, cut-means, entries-nil}

-- ---- the entries in front of one that is cut

longer : (f g : ℕ) (list : List ℕ) → length list ≤ f → length list ≤ g → whole_from f list ≡ whole_from g list
unfolding whole_from
longer zero zero list p q = refl
longer zero (suc g) [] p q = unfold head_of let_some◌else◌then◌ in refl
longer (suc f) zero [] p q = unfold head_of let_some◌else◌then◌ in refl
longer zero (suc g) (n ∷ rest) p q = absurd (omega arith)
longer (suc f) zero (n ∷ rest) p q = absurd (omega arith)
longer (suc f) (suc g) list p q = go (longer f g) (head_of list) refl
  where
    go : ((rest : List ℕ) → length rest ≤ f → length rest ≤ g → whole_from f rest ≡ whole_from g rest) → (o : Option (Entry × List ℕ)) → head_of list ≡ o
        → (let_some o else [] then λ h. h.0 ∷ whole_from f h.1) ≡ (let_some o else [] then λ h. h.0 ∷ whole_from g h.1)
    go more none e = unfold let_some◌else◌then◌ in refl
    go more (some h) e =
        let s = (head-means list h.0 h.1 e).shorter in
        unfold let_some◌else◌then◌ in ap {B = List Entry} (λ (es : List Entry). h.0 ∷ es) (more h.1 (omega (arith, s)) (omega (arith, s)))

whole_none : (list : List ℕ) → head_of list ≡ none → whole_entries list ≡ []
unfolding whole_entries
whole_none list e = go (length list)
  where
    go : (fuel : ℕ) → whole_from fuel list ≡ []
    go zero = unfold whole_from in refl
    go (suc fuel) = unfold whole_from let_some◌else◌then◌ in rw e refl

no_entry : head_of [] ≡ none
unfolding head_of
no_entry = refl

whole_some : (list : List ℕ) (e : Entry) (rest : List ℕ) → head_of list ≡ some (e, rest) → whole_entries list ≡ e ∷ whole_entries rest
unfolding whole_entries whole_from let_some◌else◌then◌
whole_some [] e rest q = absurd (none-some (sym no_entry ∙ q))
whole_some (n ∷ behind) e rest q =
    let s = (head-means (n ∷ behind) e rest q).shorter in
    rw q (ap {B = List Entry} (λ (es : List Entry). e ∷ es) (longer (length behind) (length rest) rest (omega (arith, s)) (omega arith)))

-- a list of which no entry is cut
whole_is : (fuel : ℕ) (list : List ℕ) → length list ≤ fuel → (es : List Entry) → entries list ≡ some es → whole_entries list ≡ es
whole_is zero [] l es e = whole_none [] (unfold head_of in refl) ∙ some_inj (sym entries-nil ∙ e)
whole_is zero (n ∷ rest) l es e = absurd (omega arith)
whole_is (suc fuel) list l es e = go (whole_is fuel) (head_of list) refl
  where
    ended : (ws : List ℕ) → head_of ws ≡ none → entries ws ≡ some es → [] ≡ es
    ended [] p q = some_inj (sym entries-nil ∙ q)
    ended (w ∷ ws) p q = absurd (none-some (sym (cut-means (w ∷ ws) p (omega arith)) ∙ q))

    go : ((rest : List ℕ) → length rest ≤ fuel → (fs : List Entry) → entries rest ≡ some fs → whole_entries rest ≡ fs) → (o : Option (Entry × List ℕ))
        → head_of list ≡ o → whole_entries list ≡ es
    go more none p = whole_none list p ∙ ended list p e
    go more (some h) p =
        let m = head-means list h.0 h.1 p in
        let b = bind-some (sym m.are ∙ e) in
        whole_some list h.0 h.1 p ∙ ap {B = List Entry} (λ (fs : List Entry). h.0 ∷ fs) (more h.1 (omega (arith, m.shorter, l)) b.0 b.1) ∙ some_inj b.2

-- ---- the scan

abbrev wrong : Text → Bool
wrong = λ x. not (is_register x)

abbrev first_wrong : List ℕ → Option Text
first_wrong list = find wrong (map (λ (e : Entry). e.name) (whole_entries list))

-- the rest of the list decides
pub record Searches (list rest : List ℕ) : Type 0 where
  pub same : first_wrong list ≡ first_wrong rest

pub searches_first : (list : List ℕ) → Searches list list
searches_first list = record { same = refl }

module _ (chosen : Text) (list : List ℕ) {y : Bool} (ey : y ≡ is_register chosen) where
  pub chosen_wrong : y ≡ false → some chosen ≡ unknown_name chosen list
  unfolding unknown_name
  chosen_wrong h = sym (if-true _ _ (unfold not in rw (sym ey ∙ h) refl))

  module _ (h : y ≡ true) where
    passed : unknown_name chosen list ≡ first_wrong list
    unfolding unknown_name
    passed = if-false _ _ (unfold not in rw (sym ey ∙ h) refl)

    module _ (rest : List ℕ) (k : Searches list rest) {o : Option (Entry × List ℕ)} (eo : o ≡ head_of rest) where
      pub none_wrong : o ≡ none → none ≡ unknown_name chosen list
      none_wrong e = sym (passed ∙ k.same ∙ ap (λ (es : List Entry). find wrong (map (λ (e : Entry). e.name) es)) (whole_none rest (sym eo ∙ e)))

      module _ (e : Entry) (more : List ℕ) (q : o ≡ some (e, more)) {x : Bool} (ex : x ≡ is_register e.name) where
        here : first_wrong rest ≡ (when wrong e.name then some e.name else first_wrong more)
        here = ap (λ (es : List Entry). find wrong (map (λ (e : Entry). e.name) es)) (whole_some rest e more (sym eo ∙ q))

        pub entry_wrong : x ≡ false → some e.name ≡ unknown_name chosen list
        entry_wrong g = sym (passed ∙ k.same ∙ here ∙ if-true _ _ (unfold not in rw (sym ex ∙ g) refl))

        pub searches_next : x ≡ true → Searches list more
        searches_next g = record { same = k.same ∙ here ∙ if-false _ _ (unfold not in rw (sym ex ∙ g) refl) }

-- ---- the name for which the call refuses

found_wrong : (xs : List Text) (x : Text) → find wrong xs ≡ some x → is_register x ≡ false
found_wrong [] x e = absurd (none-some e)
found_wrong (y ∷ ys) x e = go (found_wrong ys x) (wrong y) refl e
  where
    go : (find wrong ys ≡ some x → is_register x ≡ false) → (b : Bool) → wrong y ≡ b → (when b then some y else find wrong ys) ≡ some x → is_register x ≡ false
    go more true p e = let z : y ≡ x = some_inj (sym (if-true _ _ refl) ∙ e) in rw (← z) (shut-true p)
    go more false p e = more (sym (if-false _ _ refl) ∙ e)

some_wrong : (es : List Entry) (o : Option Text) → find wrong (map (λ (e : Entry). e.name) es) ≡ o
    → any (λ e. not (is_register e.name)) es ≡ (let_some o else false then λ x. true)
unfolding let_some◌else◌then◌
some_wrong [] o e = rw (← e) refl
some_wrong (f ∷ es) o e = go (some_wrong es o) (wrong f.name) refl e
  where
    go : (find wrong (map (λ (e : Entry). e.name) es) ≡ o → any (λ e. not (is_register e.name)) es ≡ (let_some o else false then λ x. true)) → (b : Bool) → wrong f.name ≡ b
        → (when b then some f.name else find wrong (map (λ (e : Entry). e.name) es)) ≡ o
        → (not (is_register f.name) or any (λ e. not (is_register e.name)) es) ≡ (let_some o else false then λ x. true)
    go more true p e = or_true _ p ∙ rw (← (sym (if-true _ _ refl) ∙ e)) refl
    go more false p e = or_false _ p ∙ more (sym (if-false _ _ refl) ∙ e)

abbrev any_wrong : List Entry → Bool
any_wrong = any (λ e. not (is_register e.name))

known_none : (list : List ℕ) → any_wrong (whole_entries list) ≡ true → known_entries list ≡ none
unfolding known_entries let_some◌else◌then◌
known_none list h = go (entries list) refl
  where
    go : (o : Option (List Entry)) → entries list ≡ o → (let_some o else none then λ es. when any_wrong es then none else some es) ≡ none
    go none e = refl
    go (some es) e = if-true _ _ (ap any_wrong (sym (whole_is (length list) list (omega arith) es e)) ∙ h)

known_some : (list : List ℕ) (es : List Entry) → entries list ≡ some es → any_wrong (whole_entries list) ≡ false → known_entries list ≡ some es
unfolding known_entries let_some◌else◌then◌
known_some list es e h = rw e (if-false _ _ (ap any_wrong (sym (whole_is (length list) list (omega arith) es e)) ∙ h))

module _ (chosen : Text) (list : List ℕ) where
  refused : (x : Text) → unknown_name chosen list ≡ some x → (lines : Listing) (wanted : ℕ) → ask_names lines chosen list wanted ≡ Refused 16 0
  unfolding ask_names
  refused x e lines wanted = go (is_register chosen) refl
    where
      known : known_entries list ≡ none → (let_some (known_entries list) else Refused 16 0 then λ es. solution lines chosen es wanted) ≡ Refused 16 0
      known q = unfold let_some◌else◌then◌ in rw q refl

      go : (b : Bool) → is_register chosen ≡ b
          → (when b then (let_some (known_entries list) else Refused 16 0 then λ es. solution lines chosen es wanted) else Refused 16 0) ≡ Refused 16 0
      go false p = if-false _ _ refl
      go true p = if-true _ _ refl ∙ known (known_none list (some_wrong (whole_entries list) (some x) (sym (passed chosen list (sym p) refl) ∙ e) ∙ unfold let_some◌else◌then◌ in refl))

  solved : unknown_name chosen list ≡ none → (es : List Entry) → entries list ≡ some es → (lines : Listing) (wanted : ℕ)
      → ask_names lines chosen list wanted ≡ solution lines chosen es wanted
  unfolding ask_names
  solved e es q lines wanted = go (is_register chosen) refl
    where
      known : known_entries list ≡ some es → (let_some (known_entries list) else Refused 16 0 then λ es. solution lines chosen es wanted) ≡ solution lines chosen es wanted
      known q = unfold let_some◌else◌then◌ in rw q refl

      go : (b : Bool) → is_register chosen ≡ b
          → (when b then (let_some (known_entries list) else Refused 16 0 then λ es. solution lines chosen es wanted) else Refused 16 0) ≡ solution lines chosen es wanted
      go false p = absurd (none-some (sym e ∙ sym (chosen_wrong chosen list (sym p) refl)))
      go true p = if-true _ _ refl ∙ known (known_some list es q (some_wrong (whole_entries list) none (sym (passed chosen list (sym p) refl) ∙ e) ∙ unfold let_some◌else◌then◌ in refl))

  -- THE NAME IS THE ONE FOR WHICH 16 IS ANSWERED
  pub names : Names chosen list
  unfolding unknown_name
  names = record { refuses = λ x e. (found_wrong (chosen ∷ map (λ (e : Entry). e.name) (whole_entries list)) x e, refused x e); else_solves = solved }
