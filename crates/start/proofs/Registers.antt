-- Names of 64-bit registers: what `is_register` answers, and that a 64-bit register is its own family. Assumes nothing.
use mathlib.Core.Logic.{◌⊎◌, inl, inr}
use Prim.Native.Nat.{ℕ, zero, suc}
use mathlib.Core.Path.{◌≡◌, refl, sym, ap, ◌∙◌}
use mathlib.Core.Bool.{Bool, true, false}
use mathlib.Core.List.{List, [], ◌∷◌, ◌++◌}
use mathlib.Core.Option.{Option, none, some}
use lib.Dec.{eqb}
use lib.ListN.{length, drop, get_or}
use native.Mathlib.Omega.{arith}
use Rattle.reference.specs.Control.{not, ◌and◌, when◌then◌else◌, let_some◌else◌then◌}
use Rattle.reference.specs.Lists.{is_some, position}
use Rattle.reference.specs.Text.{Text, bytes, ◌≟◌, starts_with, strip_prefix}
use Rattle.reference.specs.Listing.{Token, is}
use Rattle.reference.specs.Names.{Fam, LEGACY, legacy, digits_of, suffix, stack_slot, numbered, high_byte, family, fam_of}
use Rattle.reference.specs.Evaluators.{wide}
use Rattle.reference.proofs.Cases.{by-if, by-some, some_inj, none-some, if_some, bind-some, both, true-false, same_number}
use Rattle.reference.proofs.Shapes.{same_text}
use Rattle.laws.proofs.Scans.{if-true, if-false, and_true, and_false}
use Rattle.std.specs.Prelude as std
use Rattle.std.specs.Prelude.{Some, None}
use Rattle.names.specs.Families.{spelled, Spells}
use Rattle.names.specs.declared.families.Spelled.{Spelled}
use Rattle.names.specs.declared.families.Spelled.TheVariants.{Row, Front}
use Rattle.start.specs.Start.{is_register}

-- ---- `is_register`

by_family : (name : Text)
    → is_register name ≡ is_some (let_some (family name) else none then λ f. when eqb f.width 64 and not (starts_with name (bytes "var_")) then some f.name else none)
unfolding is_register wide fam_of is when◌then◌else◌
by_family name = refl

decided : (name : Text) (f : Fam) → family name ≡ some f → (x : Bool) → x ≡ starts_with name (bytes "var_") → x ≡ false → is_register name ≡ eqb f.width 64
unfolding let_some◌else◌then◌
decided name f e x ex h = by_family name ∙ rw e (go (eqb f.width 64) refl)
  where
    plain : not (starts_with name (bytes "var_")) ≡ true
    plain = unfold not in rw (sym ex ∙ h) refl

    go : (b : Bool) → eqb f.width 64 ≡ b → is_some (when eqb f.width 64 and not (starts_with name (bytes "var_")) then some f.name else none) ≡ eqb f.width 64
    go true p = ap is_some (if-true (some f.name) none (and_true _ p ∙ plain)) ∙ sym p
    go false p = ap is_some (if-false (some f.name) none (and_false _ p)) ∙ sym p

module _ (name : Text) (x : Bool) (ex : x ≡ starts_with name (bytes "var_")) where
  pub slot_is_none : x ≡ true → false ≡ is_register name
  slot_is_none h = sym (by_family name ∙ go (family name))
    where
      slot : not (starts_with name (bytes "var_")) ≡ false
      slot = unfold not in rw (sym ex ∙ h) refl

      both_false : (b : Bool) → (b and not (starts_with name (bytes "var_"))) ≡ false
      both_false true = and_true _ refl ∙ slot
      both_false false = and_false _ refl

      go : (o : Option Fam) → is_some (let_some o else none then λ f. when eqb f.width 64 and not (starts_with name (bytes "var_")) then some f.name else none) ≡ false
      go none = unfold let_some◌else◌then◌ in refl
      go (some f) = unfold let_some◌else◌then◌ in ap is_some (if-false (some f.name) none (both_false (eqb f.width 64)))

  module _ (h : x ≡ false) (r : std.Option Spelled) (s : Spells name (family name) r) where
    row_is : (i w l : ℕ) → r ≡ Some (Row i w l) → eqb w 64 ≡ is_register name
    row_is i w l e = sym (decided name _ (sym s.is ∙ ap (spelled name) e) x ex h)

    front_is : (n w : ℕ) → r ≡ Some (Front n w) → eqb w 64 ≡ is_register name
    front_is n w e = sym (decided name _ (sym s.is ∙ ap (spelled name) e) x ex h)

    pub width_is : (u : Spelled) → r ≡ Some u → (w : ℕ) → ((i : ℕ) × (l : ℕ) × (u ≡ Row i w l)) ⊎ ((n : ℕ) × (u ≡ Front n w)) → eqb w 64 ≡ is_register name
    width_is u q w (inl (i, l, e)) = row_is i w l (q ∙ ap (λ (v : Spelled). Some v) e)
    width_is u q w (inr (n, e)) = front_is n w (q ∙ ap (λ (v : Spelled). Some v) e)

    pub nothing_is : r ≡ None → false ≡ is_register name
    nothing_is e = sym (by_family name ∙ rw (sym s.is ∙ ap (spelled name) e) (unfold let_some◌else◌then◌ in refl))

-- ---- a 64-bit register is its own family

-- a first name that is found is the name
found_first : (names : List Text) (name : Text) → position (◌≟ name) names ≡ some 0 → get_or names 0 [] ≡ name
unfolding when◌then◌else◌ let_some◌else◌then◌
found_first [] name e = absurd (none-some e)
found_first (n ∷ names) name e = go (n ≟ name) refl (position (◌≟ name) names) e
  where
    go : (b : Bool) → (n ≟ name) ≡ b → (o : Option ℕ) → (when b then some 0 else (let_some o else none then λ i. some (suc i))) ≡ some 0 → n ≡ name
    go true p o q = same_text n name p
    go false p none q = absurd (none-some q)
    go false p (some i) q = absurd (let z : suc i ≡ 0 = some_inj q in omega arith)

-- only the first column has 64 bits
first_column : (i : ℕ) → (w : ℕ) → w ≡ get_or (64 ∷ 32 ∷ 16 ∷ 8 ∷ []) i 0 → w ≡ 64 → i ≡ 0
first_column zero w d e = refl
first_column (suc zero) w d e = absurd (omega (arith, d, e))
first_column (suc (suc zero)) w d e = absurd (omega (arith, d, e))
first_column (suc (suc (suc zero))) w d e = absurd (omega (arith, d, e))
first_column (suc (suc (suc (suc i)))) w d e = absurd (omega (arith, d, e))

abbrev of_row : List Text → ℕ → Fam
of_row names i = record { name = get_or names 0 []; width = get_or (64 ∷ 32 ∷ 16 ∷ 8 ∷ []) i 0; lowest = 0 }

row-own : (names : List Text) (name : Text) (f : Fam) (i : ℕ) → position (◌≟ name) names ≡ some i → of_row names i ≡ f → f.width ≡ 64 → f.name ≡ name
row-own names name f i p q w =
    let is-first : i ≡ 0 = first_column i f.width (sym (ap (λ (g : Fam). g.width) q)) w in
    sym (ap (λ (g : Fam). g.name) q) ∙ found_first names name (p ∙ ap (λ (k : ℕ). some k) is-first)

legacy-own : (table : List (List Text)) (name : Text) (f : Fam) → legacy table name ≡ some f → f.width ≡ 64 → f.name ≡ name
unfolding legacy
legacy-own [] name f e w = absurd (none-some e)
legacy-own (names ∷ rest) name f e w =
    by-some (λ (o : Option Fam). o ≡ some f → f.name ≡ name)
    (λ n q. legacy-own rest name f q w)
    (λ i p q. row-own names name f i p (some_inj q) w)
    e

-- only a numbered register without a suffix has 64 bits
no_suffix : (s : Text) → suffix s ≡ some 64 → s ≡ []
unfolding suffix
no_suffix s =
    by-if (λ (o : Option ℕ). o ≡ some 64 → s ≡ [])
    (λ p q. same_text s [] p)
    (λ p. by-if (λ (o : Option ℕ). o ≡ some 64 → s ≡ [])
    (λ p q. absurd (let z : 32 ≡ 64 = some_inj q in omega arith))
    (λ p. by-if (λ (o : Option ℕ). o ≡ some 64 → s ≡ [])
    (λ p q. absurd (let z : 16 ≡ 64 = some_inj q in omega arith))
    (λ p. by-if (λ (o : Option ℕ). o ≡ some 64 → s ≡ [])
    (λ p q. absurd (let z : 8 ≡ 64 = some_inj q in omega arith))
    (λ p q. absurd (none-some q)))))

all_digits : (s : Text) → drop (length (digits_of s)) s ≡ [] → digits_of s ≡ s
all_digits [] e = refl
all_digits (c ∷ cs) e =
    by-if (λ (l : Text). drop (length l) (c ∷ cs) ≡ [] → l ≡ c ∷ cs)
    (λ p q. ap {B = Text} (λ (r : Text). c ∷ r) (all_digits cs q))
    (λ p q. absurd (let z : ◌≡◌ {A = ℕ} 0 1 = cc in omega arith))
    e

restored : (name rest : Text) → strip_prefix (bytes "r") name ≡ some rest → bytes "r" ++ rest ≡ name
unfolding strip_prefix
restored [] rest p = absurd (true-false (if_some p).0 refl)
restored (c ∷ cs) rest p =
    let q = if_some p in
    let same : c ≡ 114 = same_number (both q.0).0 in
    rw (same, sym (some_inj q.1)) refl

slot-own : (name : Text) (f : Fam) → stack_slot name ≡ some f → f.name ≡ name
unfolding stack_slot
slot-own name f e = sym (ap (λ (g : Fam). g.name) (some_inj (if_some e).1))

numbered-own : (name : Text) (f : Fam) → numbered name ≡ some f → f.width ≡ 64 → f.name ≡ name
unfolding numbered
numbered-own name f e w =
    by-some (λ (o : Option Fam). o ≡ some f → f.name ≡ name)
    (λ n q. slot-own name f q)
    (λ rest p. by-if (λ (o : Option Fam). o ≡ some f → f.name ≡ name)
    (λ z q. slot-own name f q)
    (λ z q.
    (let b = bind-some q in
    let g : record { name : Text; width : ℕ; lowest : ℕ } = record { name = bytes "r" ++ digits_of rest; width = b.0; lowest = 0 } in
    let same : g ≡ f = some_inj b.2 in
    let wide : b.0 ≡ 64 = ap (λ (h : Fam). h.width) same ∙ w in
    let whole : digits_of rest ≡ rest = all_digits rest (no_suffix _ (b.1 ∙ ap (λ (k : ℕ). some k) wide)) in
    sym (ap (λ (h : Fam). h.name) same) ∙ ap (λ (r : Text). bytes "r" ++ r) whole ∙ restored name rest p)))
    e

high_own : (name : Text) (f : Fam) → high_byte name ≡ some f → f.width ≡ 64 → f.name ≡ name
unfolding high_byte
high_own name f e w =
    by-if (λ (o : Option Fam). o ≡ some f → f.name ≡ name)
    (λ p q. absurd (let z : 8 ≡ 64 = ap (λ (g : Fam). g.width) (some_inj q) ∙ w in omega arith))
    (λ p q. numbered-own name f q w)
    e

family-own : (name : Text) (f : Fam) → family name ≡ some f → f.width ≡ 64 → f.name ≡ name
unfolding family
family-own name f e w =
    by-some (λ (o : Option Fam). o ≡ some f → f.name ≡ name)
    (λ n q. high_own name f q w)
    (λ g p q. legacy-own LEGACY name f (p ∙ q) w)
    e

-- A 64-BIT REGISTER'S FAMILY IS ITS TEXT
pub wide_text : (t : Token) (x : Text) → wide t ≡ some x → x ≡ t.text
unfolding wide fam_of
wide_text t x e =
    let b = bind-some e in
    let c = if_some b.2 in
    sym (some_inj c.1) ∙ family-own t.text b.0 (if_some b.1).1 (same_number (both c.0).0)
