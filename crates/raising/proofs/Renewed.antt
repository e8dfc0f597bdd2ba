-- The lines that a join rewrote, renewed one by one, and what their kinds are together. Assumes nothing.
use Prim.Native.Nat.{ℕ, suc, ◌+◌, ◌≤◌, ◌<◌}
use native.Mathlib.Omega.{arith}
use native.Mathlib.Decide.{dec_lt}
use mathlib.Core.Logic.{by_cases}
use mathlib.Core.Path.{◌≡◌, refl, sym, ap, ◌∙◌, subst}
use mathlib.Core.Bool.{Bool, true, false}
use mathlib.Core.List.{List, [], ◌∷◌}
use lib.ListN.{length, get_or, set, take, drop}
use lib.Seq.{get_or-set_same, drop-cons, length-take-le}
use Rattle.std.specs.Prelude as std
use Rattle.std.specs.Int.Bits.{or_zero_r, or_comm}
use Rattle.std.proofs.lemmas.List.{get_or-set_other, get_or-take, get_or-drop, length-drop}
use Rattle.reference.specs.Listing.{Listing, ◌at◌, blank}
use Rattle.reference.proofs.Cases.{true-false}
use Rattle.cautions.specs.Kinds.{◌∪◌, ◌given◌}
use Rattle.cautions.proofs.Sets.{or_assoc, given_true}
use Rattle.lines.specs.Texts.{bare_listing}
use Rattle.lines.specs.declared.texts.Listing as held
use Rattle.flow.specs.Blocks.{no_form}
use Rattle.flow.specs.LineForms.{Formed}
use Rattle.flow.specs.declared.lineforms.LineForm.{LineForm}
use Rattle.usefacts.specs.declared.parts.Before.{Before}
use Rattle.raising.specs.Spread.{is_told, is_noted}
use Rattle.raising.specs.Noting.{kinds_told, kinds_from}
use Rattle.raising.specs.Renewing.{NotedTo, Renewed, RenewedTo}
use Rattle.reference.specs.Control.{when◌then◌else◌}

given_false : (s : ℕ) {b : Bool} → b ≡ false → s given b ≡ 0
unfolding ◌given◌ when◌then◌else◌
given_false s e = rw e refl

-- ---- which lines may have told something

-- as the parts of the lines that were there say it, line i among them
pub noted_to : (h : held.Listing) (i last : ℕ) (parts : List (std.Option Before)) → length h.lines.now < length parts
    → (i ≤ last) × (last < length (take (length h.lines.now + 1) parts))
    → ((k : ℕ) → last < k → k < length (take (length h.lines.now + 1) parts) → get_or (take (length h.lines.now + 1) parts) k std.None ≡ std.None)
    → NotedTo h i last parts
noted_to h i last parts room within behind =
    let n = length h.lines.now + 1 in
    let long = length-take-le n parts (omega (arith, room)) in
    record {
      above = within.0;
      inside = omega (arith, within.1, long);
      room = room;
      behind = λ k a b. sym (get_or-take n parts k std.None (omega (arith, b))) ∙ behind k a (omega (arith, long, b));
    }

-- ---- one line

module _ (h : held.Listing) (q all : ℕ) (parts : List (std.Option Before)) (sets : List ℕ) (forms : List LineForm) where
  pub renewed_here : {f : LineForm} → q < length sets → q < length forms → is_noted parts (q + 1) ≡ true → Formed (bare_listing h at q).tokens f
      → Renewed h q all parts sets forms (set sets q (get_or sets q 0 ∪ all)) (set forms q f)
  renewed_here {f} a b e w = record {
    set_is = get_or-set_same sets q (get_or sets q 0 ∪ all) 0 a ∙ ap (λ (s : ℕ). get_or sets q 0 ∪ s) (sym (given_true all _ e));
    form_is = λ x. subst (λ (g : LineForm). Formed (bare_listing h at q).tokens g) (sym (get_or-set_same forms q f no_form b)) w;
    form_kept = λ x. absurd (true-false e x);
    sets_kept = λ k n. get_or-set_other sets q k _ 0 n;
    forms_kept = λ k n. get_or-set_other forms q k f no_form n;
  }

  pub renewed_not : is_noted parts (q + 1) ≡ false → Renewed h q all parts sets forms sets forms
  renewed_not e = record {
    set_is = sym (ap (λ (s : ℕ). get_or sets q 0 ∪ s) (given_false all e) ∙ or_zero_r (get_or sets q 0));
    form_is = λ x. absurd (true-false x e);
    form_kept = λ x. refl;
    sets_kept = λ k n. refl;
    forms_kept = λ k n. refl;
  }

-- ---- all of them

module _ (h : held.Listing) (i all : ℕ) (parts : List (std.Option Before)) (sets : List ℕ) (forms : List LineForm) where
  pub renewed_none : RenewedTo h i i all parts sets forms sets forms
  renewed_none = record {
    set_is = λ k a b. absurd (omega arith);
    form_is = λ k a b. absurd (omega arith);
    form_kept = λ k e. refl;
    before = λ k a. (refl, refl);
    behind = λ k a. (refl, refl);
  }

  pub renewed_more : (q : ℕ) {sets₁ sets₂ : List ℕ} {forms₁ forms₂ : List LineForm} → i ≤ q → Renewed h q all parts sets₁ forms₁ sets₂ forms₂
      → RenewedTo h i q all parts sets forms sets₁ forms₁ → RenewedTo h i (q + 1) all parts sets forms sets₂ forms₂
  renewed_more q {sets₁} {sets₂} {forms₁} {forms₂} b r t = record {
    set_is = λ k a c. by_cases (dec_lt k q) (λ l. r.sets_kept k (omega arith) ∙ t.set_is k a l)
        (λ l. (let s : k ≡ q = omega arith in rw s (r.set_is ∙ ap (λ (x : ℕ). x ∪ all given is_noted parts (q + 1)) (t.behind q (omega arith)).0)));
    form_is = λ k a c e. by_cases (dec_lt k q)
        (λ l. subst (λ (g : LineForm). Formed (bare_listing h at k).tokens g) (sym (r.forms_kept k (omega arith))) (t.form_is k a l e))
        (λ l. (let s : k ≡ q = omega arith in subst (λ (k : ℕ). is_noted parts (k + 1) ≡ true → Formed (bare_listing h at k).tokens (get_or forms₂ k no_form)) (sym s) r.form_is e));
    form_kept = λ k e. by_cases (dec_lt k q) (λ l. r.forms_kept k (omega arith) ∙ t.form_kept k e)
        (λ l. by_cases (dec_lt q k) (λ m. r.forms_kept k (omega arith) ∙ t.form_kept k e)
        (λ m. (let s : k ≡ q = omega arith in subst (λ (k : ℕ). is_noted parts (k + 1) ≡ false → get_or forms₂ k no_form ≡ get_or forms k no_form) (sym s)
        (λ e. r.form_kept e ∙ t.form_kept q e) e)));
    before = λ k a. (r.sets_kept k (omega arith) ∙ (t.before k a).0, r.forms_kept k (omega arith) ∙ (t.before k a).1);
    behind = λ k a. (r.sets_kept k (omega arith) ∙ (t.behind k (omega arith)).0, r.forms_kept k (omega arith) ∙ (t.behind k (omega arith)).1);
  }

  -- behind line n none was rewritten
  pub renewed_far : (n m : ℕ) {sets' : List ℕ} {forms' : List LineForm} → n ≤ m → ((k : ℕ) → n < k → k ≤ m → get_or parts k std.None ≡ std.None)
      → RenewedTo h i n all parts sets forms sets' forms' → RenewedTo h i m all parts sets forms sets' forms'
  renewed_far n m l none t = record {
    set_is = λ k a c. by_cases (dec_lt k n) (λ b. t.set_is k a b)
        (λ b. (t.behind k (omega arith)).0 ∙ sym (ap (λ (s : ℕ). get_or sets k 0 ∪ s) (given_false all (ap is_told (none (k + 1) (omega arith) (omega arith))))
        ∙ or_zero_r (get_or sets k 0)));
    form_is = λ k a c e. by_cases (dec_lt k n) (λ b. t.form_is k a b e)
        (λ b. absurd (true-false e (ap is_told (none (k + 1) (omega arith) (omega arith)))));
    form_kept = t.form_kept;
    before = t.before;
    behind = λ k a. t.behind k (omega arith);
  }

-- ---- their kinds

-- where no line tells anything
kinds_untold : (ts : List (std.Option Before)) (ls : Listing) → ((k : ℕ) → k < length ls → get_or ts k std.None ≡ std.None) → kinds_from ts ls ≡ 0
unfolding kinds_from
kinds_untold [] ls h = refl
kinds_untold (t ∷ ts) [] h = refl
kinds_untold (t ∷ ts) (l ∷ ls) h = rw (h 0 (omega arith)) (or_comm 0 (kinds_from ts ls) ∙ or_zero_r (kinds_from ts ls) ∙ kinds_untold ts ls (λ k b. h (suc k) (omega arith)))

module _ (parts : List (std.Option Before)) (new : Listing) where
  kinds_step : (q : ℕ) → q < length new → q + 1 < length parts
      → kinds_from (drop (q + 1) parts) (drop q new) ≡ kinds_told (get_or parts (q + 1) std.None) (new at q).tokens ∪ kinds_from (drop (q + 1 + 1) parts) (drop (q + 1) new)
  unfolding kinds_from
  kinds_step q a b =
      let t = get_or parts (q + 1) std.None in
      let e : suc (q + 1) ≡ q + 1 + 1 = omega arith in
      let f : suc q ≡ q + 1 = omega arith in
      ap (λ (ps : List (std.Option Before)). kinds_from ps (drop q new)) (drop-cons parts (q + 1) std.None b)
      ∙ ap (λ (ls : Listing). kinds_from (t ∷ drop (suc (q + 1)) parts) ls) (drop-cons new q blank a)
      ∙ ap (λ (m : ℕ). kinds_told t (new at q).tokens ∪ kinds_from (drop m parts) (drop (suc q) new)) e
      ∙ ap (λ (m : ℕ). kinds_told t (new at q).tokens ∪ kinds_from (drop (q + 1 + 1) parts) (drop m new)) f

  pub kinds_more : (kinds q : ℕ) {s all : ℕ} → q < length new → q + 1 < length parts → s ≡ kinds_told (get_or parts (q + 1) std.None) (new at q).tokens
      → kinds ∪ kinds_from (drop (q + 1) parts) (drop q new) ≡ all → (kinds ∪ s) ∪ kinds_from (drop (q + 1 + 1) parts) (drop (q + 1) new) ≡ all
  kinds_more kinds q {s} {all} a b e h =
      or_assoc kinds s (kinds_from (drop (q + 1 + 1) parts) (drop (q + 1) new))
      ∙ ap (λ (x : ℕ). kinds ∪ (x ∪ kinds_from (drop (q + 1 + 1) parts) (drop (q + 1) new))) e
      ∙ ap (λ (x : ℕ). kinds ∪ x) (sym (kinds_step q a b))
      ∙ h

  pub kinds_end : (kinds q : ℕ) {all : ℕ} → ((k : ℕ) → q < k → k ≤ length new → get_or parts k std.None ≡ std.None)
      → kinds ∪ kinds_from (drop (q + 1) parts) (drop q new) ≡ all → kinds ≡ all
  kinds_end kinds q h e =
      let none = kinds_untold (drop (q + 1) parts) (drop q new) (λ k b. get_or-drop (q + 1) parts k std.None ∙ h (q + 1 + k) (omega arith) (omega (arith, length-drop q new))) in
      sym (ap (λ (x : ℕ). kinds ∪ x) none ∙ or_zero_r kinds) ∙ e
