-- Between a definition and the last line that it reaches no line is a label, and that line stands inside the listing; what stands at a single
-- use. Assumes nothing.
use Prim.Native.Nat.{ℕ, suc, ◌≤◌, ◌<◌}
use native.Mathlib.Omega.{arith}
use native.Mathlib.Nat.{le_refl}
use native.Mathlib.Decide.{dec_le}
use mathlib.Core.Path.{◌≡◌, ap, ◌∙◌, subst}
use mathlib.Core.Logic.{by_cases}
use mathlib.Core.Bool.{Bool, false}
use mathlib.Core.List.{List, [], ◌∷◌}
use mathlib.Core.Option.{Option, some}
use lib.ListN.{length, drop}
use Rattle.reference.specs.Text.{Text}
use Rattle.reference.specs.Listing.{Token, Line, Listing, ◌at◌}
use Rattle.reference.specs.Shapes.{is_label}
use Rattle.reference.specs.Life.{Use, touch}
use Rattle.reference.specs.Join.{Uses, ends_run, gather, use_from}
use Rattle.reference.proofs.Cases.{by-if, by_touch, neither, same_number, some_inj, none-some, if_some, unless-some}
use Rattle.reference.proofs.Lines.{drop-step}

-- no line from j up to m is a label
abbrev pub Plain : Listing → ℕ → ℕ → Type 0
Plain lines j m = (k : ℕ) → j ≤ k → k ≤ m → is_label (lines at k) ≡ false

none_between : (lines : Listing) (j m : ℕ) → m < j → Plain lines j m
none_between lines j m h k a b = absurd (omega arith)

one_more : (lines : Listing) (j m : ℕ) → is_label (lines at j) ≡ false → Plain lines (suc j) m → Plain lines j m
one_more lines j m e p k a b =
    by_cases (dec_le (suc j) k) (λ h. p k h b) (λ h. (let s : j ≡ k = omega arith in subst (λ (n : ℕ). is_label (lines at n) ≡ false) s e))

-- the last line that was reached
abbrev pub Reached : Listing → ℕ → ℕ → Type 0
Reached lines j m = (m < length lines) × Plain lines j m

module _ (lines : Listing) (base-indent : ℕ) (fam : Text) (volatile : List Text) where
  pub gather-reached : (j : ℕ) (ls : Listing) (last : ℕ) → drop j lines ≡ ls → last < j → last < length lines
      → Reached lines j (gather base-indent fam volatile j ls last).last
  unfolding gather ends_run
  gather-reached j [] last e h inl = (inl, none_between lines j last h)
  gather-reached j (l ∷ ls) last e h inl =
      let d = drop-step j lines l ls e in
      let stays : Reached lines j last = (inl, none_between lines j last h) in
      by-if (λ (u : Uses). Reached lines j u.last)
      (λ b. stays)
      (λ b.
      (let plain : is_label (lines at j) ≡ false = ap is_label d.0 ∙ (neither b).0 in
      let here : Reached lines j j = (d.2, one_more lines j j plain (none_between lines (suc j) j (omega arith))) in
      by_touch (λ (u : Uses). Reached lines j u.last)
      (λ t. by-if (λ (u : Uses). Reached lines j u.last)
      (λ o. stays)
      (λ o. (let r = gather-reached (suc j) ls last d.1 (omega arith) inl in (r.0, one_more lines j _ plain r.1))))
      (λ t. here)
      (λ n t. by-if (λ (u : Uses). Reached lines j u.last)
      (λ o. here)
      (λ o. (let r = gather-reached (suc j) ls j d.1 (omega arith) d.2 in (r.0, one_more lines j _ plain r.1))))))

  -- what is known of the line that `use_from` finds
  pub record Used (j m : ℕ) : Type 0 where
    pub later : j ≤ m
    pub reached : Reached lines j m
    pub once : touch (lines at m) fam volatile ≡ Use 1

  module _ (expr : List Token) (is_call : Bool) where
    pub use_found : (j : ℕ) (ls : Listing) (m : ℕ) → drop j lines ≡ ls → use_from base-indent fam expr is_call volatile j ls ≡ some m → Used j m
    unfolding use_from
    use_found j [] m e u = absurd (none-some u)
    use_found j (l ∷ ls) m e u =
        let d = drop-step j lines l ls e in
        let b = unless-some u in
        let plain : is_label (lines at j) ≡ false = ap is_label d.0 ∙ b.0 in
        by_touch (λ (o : Option ℕ). o ≡ some m → Used j m)
        (λ t v.
        (let r = use_found (suc j) ls m d.1 (if_some v).1 in
        record { later = omega (arith, r.later); reached = (r.reached.0, one_more lines j m plain r.reached.1); once = r.once }))
        (λ t v. absurd (none-some v))
        (λ n t v.
        (let i = if_some v in
        subst (Used j) (some_inj i.1)
        (record {
          later = le_refl j;
          reached = (d.2, one_more lines j j plain (none_between lines (suc j) j (omega arith)));
          once = ap (λ (x : Line). touch x fam volatile) d.0 ∙ t ∙ ap Use (same_number i.0);
        })))
        b.1
