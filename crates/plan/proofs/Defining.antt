-- What a right side reads, and what a line defines: the cases of `reads_at`, `reads_memory` and `definition_of`. Assumes nothing.
use Prim.Native.Nat.{ℕ, zero, suc, ◌+◌, ◌-◌, ◌<◌}
use native.Mathlib.Omega.{arith}
use native.Mathlib.Nat.{add-zero, zero-add}
use mathlib.Core.Path.{◌≡◌, refl, sym, ap₂, ◌∙◌}
use mathlib.Core.Bool.{Bool, true, false, not as flip}
use mathlib.Core.List.{List, [], ◌∷◌}
use mathlib.Core.Option.{Option, none, some}
use lib.ListN.{length, get_or, length-map, get_or-map}
use borrow.Author.Tests.{ne_eqb}
use Rattle.reference.specs.Control.{not, ◌and◌, ◌or◌, when◌then◌else◌, let_some◌else◌then◌}
use Rattle.std.specs.List.{list_any, range_with_len}
use Rattle.reference.specs.Lists.{any, get, is_some}
use Rattle.reference.specs.Text.{Text, bytes, starts_with, ends_with}
use Rattle.reference.specs.Listing.{Token, is, Register, Keyword, Symbol}
use Rattle.reference.specs.Names.{family, of_family}
use Rattle.reference.specs.Shapes.{call_in}
use Rattle.reference.specs.Join.{reads_here, reads_after, reads_memory}
use Rattle.laws.proofs.Scans.{or_only, not_same}
use Rattle.laws.proofs.Std.{or-std}
use Rattle.joining.specs.Plan.{definition_of}
use Rattle.lines.specs.Words.{kind_of, text_of, token_of, tokens_of, Points, Holds}
use Rattle.lines.specs.Shapes.{expr_words, Expression, Assigns}
use Rattle.lines.specs.Fams.{fam_text, Names}
use Rattle.lines.specs.declared.fams.Named.{Named}
use Rattle.lines.specs.declared.shapes.Expr.{Expr}
use Rattle.lines.proofs.shapes.Places.{get_at}
use Rattle.lines.proofs.shapes.Right.{expr-long, expr-points}
use Rattle.lines.proofs.shapes.Sides.{assigned_to, assigned-not, assigned-side}
use Rattle.lines.proofs.fams.Families.{named_as, named-not, as_known}
use Rattle.plan.specs.declared.definitions.Definition.{Definition}
use Rattle.plan.specs.Definitions.{before_at, Defines}
use Rattle.std.specs.Prelude as std
use Rattle.std.specs.Prelude.{Some, None}

-- ---- one token of the right side

-- the word w with the kind k, behind the token b
module _ (tape area : Text) (b : Option Token) (v : ℕ) {w k : ℕ} (ew : w ≡ v) (ek : k ≡ kind_of w) where
  pub reads_other : (k ≡ Keyword → ⊥) → (k ≡ Register → ⊥) → (k ≡ Symbol → ⊥) → false ≡ reads_here b (token_of tape area v)
  unfolding reads_here is ◌and◌ ◌or◌
  reads_other p q r = rw (← ew, ← ek, ne_eqb k 3 p, ne_eqb k 1 q, ne_eqb k 4 r)

  module _ {x : Bool} where
    pub reads-keyword : k ≡ Keyword → x ≡ (is Keyword (token_of tape area w) and starts_with (text_of tape area w) (bytes "*(")) → x ≡ reads_here b (token_of tape area v)
    unfolding reads_here is ◌and◌ ◌or◌
    reads-keyword h e = rw (← ew, ← ek, h) (or_only (rw (← ek, h) at e))

    pub reads-register : k ≡ Register → x ≡ starts_with (text_of tape area w) (bytes "var_") → x ≡ reads_here b (token_of tape area v)
    unfolding reads_here is ◌and◌ ◌or◌
    reads-register h e = rw (← ew, ← ek, h) (or_only e)

  reads-symbol : k ≡ Symbol → reads_here b (token_of tape area v) ≡ not (let_some b else false then λ t. ends_with t.text (bytes "&"))
  unfolding reads_here is ◌and◌ ◌or◌
  reads-symbol h = rw (← ew, ← ek, h)

module _ (tape area : Text) (ws : List ℕ) (i : ℕ) {w k : ℕ} (ew : w ≡ get_or ws i 0) (ek : k ≡ kind_of w) (h : k ≡ Symbol) where
  pub reads_first : i ≡ 0 → true ≡ reads_here (before_at (tokens_of tape area ws) i) (token_of tape area (get_or ws i 0))
  unfolding before_at when◌then◌else◌ let_some◌else◌then◌ not
  reads_first e = sym (reads-symbol tape area (before_at (tokens_of tape area ws) i) (get_or ws i 0) ew ek h ∙ rw e)

  pub reads-behind : i < length ws → (i ≡ 0 → ⊥) → {u : ℕ} → u ≡ get_or ws (i - 1) 0 → {x : Bool} → x ≡ ends_with (text_of tape area u) (bytes "&")
      → flip x ≡ reads_here (before_at (tokens_of tape area ws) i) (token_of tape area (get_or ws i 0))
  unfolding before_at when◌then◌else◌ let_some◌else◌then◌
  reads-behind b n eu ex =
      not_same ex
      ∙ sym (reads-symbol tape area (before_at (tokens_of tape area ws) i) (get_or ws i 0) ew ek h
      ∙ rw (ne_eqb i 0 n, get_at (token_of tape area) ws (i - 1) (omega arith), ← eu))

-- the word before the token k points into its text
pub before-points : {tape area : Text} {ws : List ℕ} {x : Expr} (k : ℕ) → Holds tape area ws → Expression ws x → k < x.count
    → {w : ℕ} → w ≡ get_or (expr_words ws x) (k - 1) 0 → Points tape area w
before-points k h e b ew = expr-points h e (omega arith) ew

pub ruleset reading = (reads_other, reads-keyword, reads-register, reads_first, reads-behind)

-- ---- all of them, one after the other

-- the token behind which the token k stands, where b stands before them all
abbrev behind : Option Token → List Token → ℕ → Option Token
behind b ts zero = b
behind b ts (suc k) = get ts k

behind-next : (t : Token) (ts : List Token) (k : ℕ) → get (t ∷ ts) k ≡ behind (some t) ts k
behind-next t ts zero = refl
behind-next t ts (suc k) = refl

behind-none : (ts : List Token) (k : ℕ) → before_at ts k ≡ behind none ts k
unfolding before_at when◌then◌else◌
behind-none ts zero = refl
behind-none ts (suc k) = let e : suc k - 1 ≡ k = omega arith in rw (e, ne_eqb (suc k) 0 (λ z. omega arith))

-- t asks of the places of the right side, from a on, whether the token there reads memory
reads-places : (b : Option Token) (d : Token) (t : ℕ → Bool) (ts : List Token) (a : ℕ) → ((k : ℕ) → k < length ts → t (a + k) ≡ reads_here (behind b ts k) (get_or ts k d))
    → list_any t (range_with_len a (length ts)) ≡ reads_after b ts
unfolding reads_after
reads-places b d t [] a h = refl
reads-places b d t (x ∷ xs) a h =
    rw (
      sym (rw add-zero at (h 0 (omega arith))),
      reads-places (some x) d t xs (a + 1) (λ k l. let e : a + 1 + k ≡ a + suc k = omega arith in rw (e, ← behind-next x xs k) (h (suc k) (omega arith))),
    )
    (or-std (t a) (reads_after (some x) xs))

pub reads_any : (tape area : Text) (ws : List ℕ)
    → list_any (λ k. reads_here (before_at (tokens_of tape area ws) k) (token_of tape area (get_or ws k 0))) (range_with_len 0 (length ws)) ≡ reads_memory (tokens_of tape area ws)
unfolding reads_memory
reads_any tape area ws =
    rw (sym (length-map ws (token_of tape area)))
    (reads-places none (token_of tape area 0) _ (tokens_of tape area ws) 0
    (λ k b. rw zero-add (ap₂ reads_here (behind-none (tokens_of tape area ws) k) (sym (get_or-map (token_of tape area) ws k 0)))))

-- ---- the line

as_inj : {d e : Definition} → Some d ≡ Some e → d ≡ e
as_inj e = cc

never_as : {d : Definition} {X : Type 0} → None ≡ Some d → X
never_as e = absurd (let z : ◌≡◌ {A = ℕ} 0 1 = cc in omega arith)

-- a line that assigns has a first token and a right side
module _ {tape area : Text} {ws : List ℕ} {r : std.Option Expr} {x : Expr} (h : Assigns tape area ws r) (e : r ≡ Some x) where
  pub assigned-long : 0 < length ws
  assigned-long = omega (arith, expr-long (assigned-side h e))

  pub assigned-points : Holds tape area ws → Points tape area (get_or ws 0 0)
  assigned-points g = g.at 0 assigned-long

pub ruleset assigning = (assigned-side, assigned-long, assigned-points)

module _ (tape area : Text) (ws : List ℕ) where
  undefined : none ≡ definition_of (tokens_of tape area ws) → {p : std.Option Definition} → p ≡ None → Defines tape area ws p
  undefined e ep = rw ep (record { is = e; sound = λ d i. never_as i })

  -- r is what the line assigns, n the name of its first token
  module _ {r : std.Option Expr} (h : Assigns tape area ws r) where
    pub no_assignment : r ≡ None → {p : std.Option Definition} → p ≡ None → Defines tape area ws p
    unfolding definition_of let_some◌else◌then◌
    no_assignment e = undefined (rw (assigned-not h e))

    module _ {x : Expr} (e : r ≡ Some x) {n : std.Option Named} (hn : Names tape area (family (text_of tape area (get_or ws 0 0))) n) where
      pub no_name : n ≡ None → {p : std.Option Definition} → p ≡ None → Defines tape area ws p
      unfolding definition_of let_some◌else◌then◌
      no_name f = undefined (rw (assigned_to h e, named-not hn f))

      module _ {g : Named} (f : n ≡ Some g) {m : Bool} (em : m ≡ any (of_family (fam_text tape area g.family)) (tokens_of tape area (expr_words ws x))) where
        pub mentioned : m ≡ true → Defines tape area ws None
        unfolding definition_of let_some◌else◌then◌ when◌then◌else◌
        mentioned t = undefined (rw (assigned_to h e, named_as hn f, ← em, t)) refl

        pub defined_as : m ≡ false → {calls reads : Bool} → calls ≡ is_some (call_in (tokens_of tape area ws))
            → reads ≡ reads_memory (tokens_of tape area (expr_words ws x))
            → Defines tape area ws (Some (record { name = g; expr = x; calls = calls; reads = reads }))
        unfolding definition_of let_some◌else◌then◌ when◌then◌else◌
        defined_as t ec er =
            record {
              is = rw (assigned_to h e, named_as hn f, ← em, t, ← ec);
              sound = λ d i. rw (← as_inj i) (record { known = as_known hn f; side = assigned-side h e; reads_is = er });
            }

pub ruleset defining = (no_assignment, no_name, mentioned, defined_as)
