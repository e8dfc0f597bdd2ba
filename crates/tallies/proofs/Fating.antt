-- What became of a line: two lines token by token, and labels by their first tokens. Assumes nothing.
use Prim.Native.Nat.{ℕ, ◌+◌, ◌<◌, ◌≤◌}
use mathlib.Core.Path.{◌≡◌, refl, sym, ◌∙◌}
use mathlib.Core.Bool.{Bool, true, false, true≢false, not as flip}
use mathlib.Core.List.{List, [], ◌∷◌, map}
use mathlib.Core.Option.{Option, none, some}
use Rattle.std.specs.Prelude as std
use Rattle.std.specs.Option as std_option
use lib.Dec.{eqb}
use lib.ListN.{length, drop, get_or, drop_of_length-le}
use lib.Seq.{drop-cons}
use Rattle.std.proofs.Common.{eq-eqb, add-one}
use Rattle.std.proofs.lemmas.Bool.{ne_eqb}
use Rattle.reference.specs.Control.{not, ◌and◌, ◌or◌, when◌then◌else◌, let_some◌else◌then◌}
use Rattle.reference.specs.Lists.{is_empty, get}
use Rattle.reference.specs.Text.{bytes, ◌≟◌, starts_with}
use Rattle.reference.specs.Listing.{Token, is, Symbol, Line, Listing}
use Rattle.reference.specs.Shapes.{label_tokens}
use Rattle.reference.specs.Claim.{one_if}
use Rattle.reference.specs.Options.{option_of}
use Rattle.laws.proofs.Scans.{and_true, and_first}
use Rattle.tallies.specs.Fates.{same_token, same_tokens, same_line, begins_result, fate_as, fate_of, is_kept, label_stands, standing_from}
use Rattle.tallies.specs.declared.fates.Fate.TheVariants.{Gone, Rewritten, Cut}

-- ---- an iterator's next item, and whether there is one

pub none_shown : {A B : Type 0} (view : A → B) (xs more : List B) (r : std.Option A) (b : Bool)
    → std.MatchOption r ((xs ≡ []) × (more ≡ [])) (λ x. xs ≡ view x ∷ more) → std_option.is_some r ≡ flip b → b ≡ is_empty xs
none_shown view xs more (std.Some x) true h e = absurd (true≢false e)
none_shown view xs more (std.Some x) false h e = rw h refl
none_shown view xs more std.None true h e = rw h.0 refl
none_shown view xs more std.None false h e = absurd (true≢false (sym e))

-- ---- two numbers, and a test more

pub equal_and : {a b : ℕ} {x r : Bool} → a ≡ b → r ≡ x → r ≡ (eqb a b and x)
equal_and {a} {b} {x} e f = f ∙ sym (and_true x (eq-eqb a b e))

pub other_and : (a b : ℕ) (x : Bool) → (a ≡ b → ⊥) → eqb a b ≡ (eqb a b and x)
other_and a b x n = and_first x refl (ne_eqb a b n)

-- ---- the same tokens

pub none_more : {ts : List Token} (us : List Token) → ts ≡ [] → same_tokens ts us ≡ is_empty us
unfolding same_tokens
none_more us e = rw e (go us)
  where
    go : (us : List Token) → same_tokens [] us ≡ is_empty us
    go [] = refl
    go (u ∷ us) = refl

pub one_alone : {ts us more : List Token} {t : Token} → ts ≡ t ∷ more → us ≡ [] → same_tokens ts us ≡ false
unfolding same_tokens
one_alone e f = rw (e, f) refl

pub one_each : {ts us more rest : List Token} {t u : Token} → ts ≡ t ∷ more → us ≡ u ∷ rest → same_tokens ts us ≡ (same_token t u and same_tokens more rest)
unfolding same_tokens
one_each e f = rw (e, f) refl

-- ---- labels

pub label_of_none : {ts : List Token} → ts ≡ [] → label_tokens ts ≡ false
unfolding label_tokens
label_of_none e = rw e refl

pub label_of_one : {ts more : List Token} {a : Token} → ts ≡ a ∷ more → more ≡ [] → label_tokens ts ≡ false
unfolding label_tokens
label_of_one e f = rw (e, f) refl

pub label_of_two : {ts more : List Token} {a b : Token} (rest : List Token) → ts ≡ a ∷ more → more ≡ b ∷ rest
    → label_tokens ts ≡ (is_empty rest and ((b.text ≟ bytes ":") and is Symbol a))
unfolding label_tokens ◌and◌
label_of_two {a = a} {b} rest e f = rw (e, f) (go rest)
  where
    go : (rest : List Token) → label_tokens (a ∷ b ∷ rest) ≡ (is_empty rest and ((b.text ≟ bytes ":") and is Symbol a))
    go [] = refl
    go (c ∷ cs) = refl

-- ---- results

pub result_of_none : {ts : List Token} → ts ≡ [] → begins_result ts ≡ false
unfolding begins_result
result_of_none e = rw e refl

pub result_of_one : {ts more : List Token} {a : Token} → ts ≡ a ∷ more → more ≡ [] → begins_result ts ≡ false
unfolding begins_result
result_of_one e f = rw (e, f) refl

pub result_of_two : {ts more rest : List Token} {a b : Token} → ts ≡ a ∷ more → more ≡ b ∷ rest
    → begins_result ts ≡ (((a.text ≟ bytes "rax") or (a.text ≟ bytes "eax")) and starts_with b.text (bytes " = "))
unfolding begins_result
result_of_two e f = rw (e, f) refl

-- ---- what became of a line

module _ (l m : Line) (e : same_line l m ≡ false) where
  pub fate_cut : begins_result l.tokens ≡ true → begins_result m.tokens ≡ false → Cut ≡ fate_as l m
  unfolding fate_as when◌then◌else◌ ◌and◌ not
  fate_cut f g = rw (e, f, g) refl

  pub fate_still : begins_result l.tokens ≡ true → begins_result m.tokens ≡ true → Rewritten ≡ fate_as l m
  unfolding fate_as when◌then◌else◌ ◌and◌ not
  fate_still f g = rw (e, f, g) refl

  pub fate_other : begins_result l.tokens ≡ false → Rewritten ≡ fate_as l m
  unfolding fate_as when◌then◌else◌ ◌and◌
  fate_other f = rw (e, f) refl

module _ (raw : Listing) (k : ℕ) (finished : Listing) where
  pub no_raw : (p : Option ℕ) → get raw k ≡ none → Gone ≡ fate_of raw k finished p
  unfolding fate_of let_some◌else◌then◌
  no_raw p e = rw e refl

  pub no_place : {l : Line} → get raw k ≡ some l → Gone ≡ fate_of raw k finished none
  unfolding fate_of let_some◌else◌then◌
  no_place e = rw e refl

  pub no_finished : {l : Line} (q : ℕ) → get raw k ≡ some l → get finished q ≡ none → Gone ≡ fate_of raw k finished (some q)
  unfolding fate_of let_some◌else◌then◌
  no_finished q e f = rw (e, f) refl

  pub as_another : {l m : Line} (q : ℕ) → get raw k ≡ some l → get finished q ≡ some m → fate_as l m ≡ fate_of raw k finished (some q)
  unfolding fate_of let_some◌else◌then◌
  as_another q e f = rw (e, f) refl

  pub no_label : (p : Option ℕ) → get raw k ≡ none → false ≡ label_stands raw k finished p
  unfolding label_stands let_some◌else◌then◌ ◌and◌
  no_label p e = rw e refl

  pub label_at : {l : Line} (p : Option ℕ) → get raw k ≡ some l → label_stands raw k finished p ≡ (label_tokens l.tokens and is_kept (fate_of raw k finished p))
  unfolding label_stands let_some◌else◌then◌
  label_at p e = rw e refl

-- whether a name of a label was answered
pub label_told : {A : Type 0} (P : A → Type 0) (ts : List Token) (r : std.Option A) (b : Bool)
    → std.MatchOption r (label_tokens ts ≡ false) (λ s. (label_tokens ts ≡ true) × P s) → b ≡ std_option.is_some r → b ≡ label_tokens ts
label_told P ts (std.Some s) b h e = e ∙ sym h.0
label_told P ts std.None b h e = e ∙ sym h

-- ---- the labels that stand

module _ (raw finished : Listing) where
  abbrev pub standing : ℕ → List (std.Option ℕ) → ℕ
  standing k ps = standing_from raw finished k (map option_of ps)

  pub standing_next : (k : ℕ) (ps : List (std.Option ℕ)) → k < length ps
      → standing k (drop k ps) ≡ one_if (label_stands raw k finished (option_of (get_or ps k std.None))) + standing (k + 1) (drop (k + 1) ps)
  unfolding standing_from
  standing_next k ps h = rw (drop-cons ps k std.None h, add-one k) refl

  pub standing_ends : (k : ℕ) (ps : List (std.Option ℕ)) → length ps ≤ k → standing k (drop k ps) ≡ 0
  unfolding standing_from
  standing_ends k ps h = rw (drop_of_length-le ps h) refl
