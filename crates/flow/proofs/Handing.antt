-- Stack slots, calls that do not spell their arguments, and what a caller finds, as the code asks. Assumes nothing.
use Prim.Native.Nat.{ℕ, suc, ◌+◌, ◌≤◌, ◌<◌}
use native.Mathlib.Omega.{arith}
use mathlib.Core.Path.{◌≡◌, refl, sym, ◌∙◌}
use mathlib.Core.Bool.{Bool, true, false, not as flip}
use mathlib.Core.List.{List, [], ◌∷◌, map}
use mathlib.Core.Logic.{inl}
use lib.Dec.{eqb}
use lib.ListN.{length, get_or, drop, take}
use Rattle.std.proofs.lemmas.List.{get_or_past, drop_all}
use borrow.Author.Tests.{eq-eqb, ne_eqb}
use Rattle.reference.proofs.Cases.{not-true}
use Rattle.laws.proofs.Std.{eqb_turn, same_turn}
use Rattle.laws.proofs.Scans.{and_last, or_last, not_same, by_test}
use Rattle.reference.specs.Control.{not, ◌and◌, ◌or◌, when◌then◌else◌}
use Rattle.reference.specs.Lists.{any, is_some}
use Rattle.reference.specs.Text.{Text, bytes, ◌≟◌, has, starts_with}
use Rattle.reference.specs.Rules.{Rules, volatile}
use Rattle.reference.specs.Listing.{Token, Listing, ◌at◌, blank}
use Rattle.reference.specs.Shapes.{is_kw, call_in}
use Rattle.names.proofs.Searches.{all-below, below_at}
use Rattle.names.specs.Families.{row_name}
use Rattle.lines.specs.Words.{text_of}
use Rattle.lines.specs.Fams.{Fam, fam_text, Known}
use Rattle.lines.proofs.fams.Families.{fam-row, fam-name, row-known, same_with_row}
use Rattle.cautions.specs.Forms.{reached_from}
use Rattle.cautions.specs.Joins.{first_arguments, takes_unspelt, is_void, for_caller, is_handed}
use Rattle.flow.specs.Handed.{is_pair, spells_none, unspelt_at, is_result}
use Rattle.flow.proofs.Spreading.{reached_at, reached_more}

-- ---- slots

row_other : (r : ℕ) → r < 8 → starts_with (row_name r) (bytes "var_") ≡ false
unfolding all-below ◌and◌ not
row_other r h = not-true (below_at 8 (λ k. not (starts_with (row_name k) (bytes "var_"))) r tested h)
  where
    tested : all-below 8 (λ k. not (starts_with (row_name k) (bytes "var_"))) ≡ true
    tested = refl

module _ (tape area : Text) {f : Fam} where
  pub slot_row : f < 8 → false ≡ starts_with (fam_text tape area f) (bytes "var_")
  slot_row h = rw (fam-row tape area {f = f} h) (sym (row_other f h))

  pub slot_name : 8 ≤ f → {s : Text} {x : Bool} → s ≡ text_of tape area f → x ≡ starts_with s (bytes "var_") → x ≡ starts_with (fam_text tape area f) (bytes "var_")
  slot_name h es ex = rw (fam-name tape area {f = f} h, ← es) ex

pub ruleset slots = (slot_row, slot_name)

-- ---- rows of the table by their names

module _ (tape area : Text) (f : Fam) (known : Known tape area f) where
  -- a row's number and its name tell the same
  named_row : (r : ℕ) → r < 8 → eqb r f ≡ (row_name r ≟ fam_text tape area f)
  named_row r h = rw (← fam-row tape area {f = r} h) (same_with_row tape area {f = r} {g = f} (row-known tape area {f = r} h) known (inl h))

  row_named : (r : ℕ) → r < 8 → eqb f r ≡ (fam_text tape area f ≟ row_name r)
  row_named r h = eqb_turn f r ∙ named_row r h ∙ same_turn (row_name r) (fam_text tape area f)

  module _ (c : ℕ) where
    pub args_first : c ≡ 0 → f ≡ 2 → eqb f 2 ≡ has (first_arguments c) (fam_text tape area f)
    unfolding ◌or◌ when◌then◌else◌
    args_first e p = rw (e, ← named_row 2 (omega arith), eqb_turn f 2, p) refl

    pub args_second : c ≡ 0 → (f ≡ 2 → ⊥) → eqb f 3 ≡ has (first_arguments c) (fam_text tape area f)
    unfolding ◌or◌ when◌then◌else◌
    args_second e n =
        rw (e, ← named_row 2 (omega arith), ← named_row 3 (omega arith), eqb_turn 2 f, ne_eqb f 2 n, eqb_turn f 3) (sym (or_last (eqb 3 f)))

    pub args_one : c ≡ 1 → eqb f 5 ≡ has (first_arguments c) (fam_text tape area f)
    unfolding ◌or◌ when◌then◌else◌
    args_one e = rw (e, ← named_row 5 (omega arith), eqb_turn f 5) (sym (or_last (eqb 5 f)))

    pub args_other : (c ≡ 0 → ⊥) → (c ≡ 1 → ⊥) → eqb f 2 ≡ has (first_arguments c) (fam_text tape area f)
    unfolding ◌or◌ when◌then◌else◌
    args_other m n = rw (ne_eqb c 0 m, ne_eqb c 1 n, ← named_row 2 (omega arith), eqb_turn f 2) (sym (or_last (eqb 2 f)))

  module _ (ls : Listing) where
    pub result_in : f ≡ 0 → {v : Bool} → v ≡ is_void ls → flip v ≡ is_result ls (fam_text tape area f)
    unfolding is_result ◌and◌
    result_in e {v} ev = rw (← row_named 0 (omega arith), eq-eqb f 0 e) (not_same ev)

    pub result_not : (f ≡ 0 → ⊥) → eqb f 0 ≡ is_result ls (fam_text tape area f)
    unfolding is_result ◌and◌
    result_not n = rw (← row_named 0 (omega arith), ne_eqb f 0 n) refl

-- ---- calls

module _ (rules : Rules) (ts : List Token) where
  pub unspelt_no : {b : Bool} → b ≡ is_some (call_in ts) → b ≡ false → false ≡ spells_none rules ts
  unfolding spells_none ◌and◌
  unspelt_no e f = rw (← e, f) refl

  pub unspelt_any : {b : Bool} → b ≡ is_some (call_in ts) → b ≡ true → rules.convention ≡ 0 → true ≡ spells_none rules ts
  unfolding spells_none ◌and◌ ◌or◌
  unspelt_any e t z = rw (← e, t, eq-eqb rules.convention 0 z) refl

  pub unspelt_pair : {b : Bool} → b ≡ is_some (call_in ts) → b ≡ true → (rules.convention ≡ 0 → ⊥) → {x : Bool} → x ≡ any is_pair ts → x ≡ spells_none rules ts
  unfolding spells_none ◌and◌ ◌or◌
  unspelt_pair e t n ex = rw (← e, t, ne_eqb rules.convention 0 n) ex

-- of the lines that are reached one hands it over to a call
module _ (rules : Rules) (ls : Listing) (fam : Text) where
  takes_at : (k : ℕ) → takes_unspelt rules fam (ls at k).tokens ≡ (has (first_arguments rules.convention) fam and unspelt_at rules ls k)
  unfolding takes_unspelt unspelt_at spells_none is_pair
  takes_at k = refl

  takes_all : (far : List ℕ) → any (λ k. takes_unspelt rules fam (ls at k).tokens) far ≡ (has (first_arguments rules.convention) fam and any (unspelt_at rules ls) far)
  unfolding ◌or◌ ◌and◌
  takes_all [] = sym (and_last (has (first_arguments rules.convention) fam))
  takes_all (k ∷ far) = rw (takes_at k, takes_all far) (go (has (first_arguments rules.convention) fam) (unspelt_at rules ls k) (any (unspelt_at rules ls) far))
    where
      go : (a x y : Bool) → ((a and x) or (a and y)) ≡ (a and (x or y))
      go true x y = refl
      go false x y = refl

  module _ (seen : List Bool) {a : Bool} (ea : a ≡ (has (first_arguments rules.convention) fam and any (unspelt_at rules ls) (reached_from 0 seen))) where
    pub handed_on : a ≡ true → true ≡ is_handed rules ls fam (reached_from 0 seen)
    unfolding is_handed ◌or◌
    handed_on t = rw (takes_all (reached_from 0 seen), ← ea, t) refl

    module _ (f : a ≡ false) {n : ℕ} (long : length ls ≡ n) where
      pub handed_back : get_or seen n false ≡ true → {x : Bool} → x ≡ for_caller rules ls fam → x ≡ is_handed rules ls fam (reached_from 0 seen)
      unfolding is_handed ◌or◌ ◌and◌
      handed_back s ex = rw (takes_all (reached_from 0 seen), ← ea, f, reached_at seen (length ls), long, s) ex

      pub handed_not : get_or seen n false ≡ false → get_or seen n false ≡ is_handed rules ls fam (reached_from 0 seen)
      unfolding is_handed ◌or◌ ◌and◌
      handed_not s = rw (takes_all (reached_from 0 seen), ← ea, f, reached_at seen (length ls), long, s) refl

pub ruleset unspelt = (unspelt_no, unspelt_any, unspelt_pair)

-- ---- a search of the lines that are reached

module _ (rules : Rules) (ls : Listing) (seen : List Bool) (long : length seen ≡ suc (length ls)) where
  -- those from line k on
  abbrev pub rest : ℕ → Bool
  rest k = any (unspelt_at rules ls) (reached_from k (drop k seen))

  module _ (k : ℕ) (h : k < length ls) {r : Bool} (v : rest k ≡ r) where
    pub passed_here : get_or seen k false ≡ true → {b : Bool} → b ≡ unspelt_at rules ls k → b ≡ true → true ≡ r
    unfolding ◌or◌ when◌then◌else◌
    passed_here s eb t = (let w = rw (reached_more seen k (omega (arith, long)), s, ← eb, t) at v in w)

    pub passed_not : get_or seen k false ≡ true → {b : Bool} → b ≡ unspelt_at rules ls k → b ≡ false → rest (k + 1) ≡ r
    unfolding ◌or◌ when◌then◌else◌
    passed_not s eb f = (let w = rw (reached_more seen k (omega (arith, long)), s, ← eb, f) at v in w)

    pub passed_over : get_or seen k false ≡ false → rest (k + 1) ≡ r
    unfolding when◌then◌else◌
    passed_over f = (let w = rw (reached_more seen k (omega (arith, long)), f) at v in w)

  none_behind : unspelt_at rules ls (length ls) ≡ false
  unfolding unspelt_at spells_none call_in ◌and◌
  none_behind = rw (get_or_past ls (length ls) blank (omega arith)) refl

  -- the last place is the caller's, and has no tokens
  pub passed_end : (k : ℕ) {r : Bool} → length ls ≤ k → k ≤ length ls → rest k ≡ r → false ≡ r
  unfolding reached_from ◌or◌ when◌then◌else◌
  passed_end k h i v =
      let e : k ≡ length ls = omega arith in
      let w = rw (e, reached_more seen (length ls) (omega (arith, long)), drop_all (length ls + 1) seen (omega (arith, long))) at v in
      by_test (get_or seen (length ls) false) (λ t. (let u = rw (t, none_behind) at w in u)) (λ f. (let u = rw f at w in u))

-- ---- the head, and the caller

module _ (ls : Listing) where
  pub void_none : length ls ≡ 0 → false ≡ is_void ls
  unfolding is_void
  void_none e = rw (get_or_past ls 0 blank (omega arith)) refl

  module _ (ws : List ℕ) (f : ℕ → Token) (e : map f ws ≡ (ls at 0).tokens) where
    pub void_empty : length ws ≡ 0 → false ≡ is_void ls
    unfolding is_void
    void_empty z = rw (← e) (go ws z)
      where
        go : (vs : List ℕ) → length vs ≡ 0 → false ≡ any (is_kw (bytes "void")) (take 1 (map f vs))
        go [] z = refl
        go (v ∷ vs) z = absurd (omega arith)

    pub void_first : (length ws ≡ 0 → ⊥) → {x : Bool} → x ≡ is_kw (bytes "void") (f (get_or ws 0 0)) → x ≡ is_void ls
    unfolding is_void
    void_first n ex = rw (← e) (go ws n ex)
      where
        go : (vs : List ℕ) → (length vs ≡ 0 → ⊥) → {x : Bool} → x ≡ is_kw (bytes "void") (f (get_or vs 0 0)) → x ≡ any (is_kw (bytes "void")) (take 1 (map f vs))
        go [] n ex = absurd (n refl)
        go (v ∷ vs) n {x} ex = ex ∙ sym (or_last (is_kw (bytes "void") (f v)))

module _ (rules : Rules) (ls : Listing) (fam : Text) {b : Bool} (eb : b ≡ is_result ls fam) where
  pub caller_result : b ≡ true → true ≡ for_caller rules ls fam
  unfolding for_caller is_result ◌or◌
  caller_result t = rw (← eb, t) refl

  module _ (f : b ≡ false) {v : Bool} (ev : v ≡ has (volatile rules) fam) where
    pub caller_slot : v ≡ false → {x : Bool} → x ≡ starts_with fam (bytes "var_") → flip x ≡ for_caller rules ls fam
    unfolding for_caller is_result ◌or◌ ◌and◌ not
    caller_slot w ex = rw (← eb, f, ← ev, w) (not_same ex)

    pub caller_none : v ≡ true → flip v ≡ for_caller rules ls fam
    unfolding for_caller is_result ◌or◌ ◌and◌ not
    caller_none w = rw (← eb, f, ← ev, w) refl
