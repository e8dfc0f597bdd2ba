-- Which lines come next, test by test. Assumes nothing.
use Prim.Native.Nat.{ℕ, suc, pred, ◌+◌}
use native.Mathlib.Numerals.{add-one}
use mathlib.Core.Path.{◌≡◌, refl}
use mathlib.Core.Bool.{Bool, true, false}
use mathlib.Core.List.{List, [], ◌∷◌, ◌++◌}
use Rattle.std.specs.Prelude.{filter}
use mathlib.Core.Option.{Option, none, some}
use lib.Dec.{eqb}
use lib.ListN.{length, get_or}
use Rattle.laws.proofs.Scans.{and_last}
use Rattle.laws.proofs.Std.{same_turn}
use Rattle.reference.specs.Lists.{is_empty, get}
use Rattle.reference.specs.Shapes.{is_kw}
use Rattle.reference.specs.Control.{◌and◌, ◌or◌, when◌then◌else◌, let_some◌else◌then◌}
use Rattle.reference.specs.Text.{Text, bytes, ◌≟◌}
use Rattle.reference.specs.Listing.{Token, Listing, ◌at◌}
use Rattle.cautions.specs.Forms.{behind, next_in, next, is_case, places, jump, closer, opener, opened_by, returns_to}
use Rattle.std.proofs.Math.Seq.{slice}
use Rattle.flow.specs.Ways.{forms_of, jump_in, gives_back, goto_next, return_next, while_next, closing_next, block_next}

module _ (lines : Listing) (k : ℕ) (c : ℕ) where
  abbrev f : Text
  f = get_or (forms_of lines) k []

  pub behind_else : get_or (forms_of lines) c [] ≡ bytes "else}{" → c + 1 ≡ behind lines (forms_of lines) c
  unfolding behind when◌then◌else◌ ◌and◌
  behind_else e = rw (e, add-one c) refl

  pub behind_other : (get_or (forms_of lines) c [] ≟ bytes "else}{") ≡ false → c ≡ behind lines (forms_of lines) c
  unfolding behind when◌then◌else◌
  behind_other e = rw e refl

  pub in_if : f ≡ bytes "if{" → {b : ℕ} → b ≡ behind lines (forms_of lines) c → some ((k + 1) ∷ b ∷ []) ≡ next_in lines (forms_of lines) k f c
  unfolding next_in when◌then◌else◌ ◌and◌
  in_if e eb = rw (e, ← eb, add-one k) refl

  pub in_else_if : f ≡ bytes "elseif}{" → {b : ℕ} → b ≡ behind lines (forms_of lines) c → some ((k + 1) ∷ b ∷ c ∷ []) ≡ next_in lines (forms_of lines) k f c
  unfolding next_in when◌then◌else◌ ◌and◌
  in_else_if e eb = rw (e, ← eb, add-one k) refl

  pub in_else : f ≡ bytes "else}{" → some (c ∷ []) ≡ next_in lines (forms_of lines) k f c
  unfolding next_in when◌then◌else◌ ◌and◌
  in_else e = rw e refl

  pub in_switch : f ≡ bytes "switch{" → some (filter (λ m. is_case (lines at m).tokens) (slice (suc k) c (places lines)) ++ (c ∷ [])) ≡ next_in lines (forms_of lines) k f c
  unfolding next_in when◌then◌else◌ ◌and◌
  in_switch e = rw e refl

  pub in_other : (f ≟ bytes "if{") ≡ false → (f ≟ bytes "elseif}{") ≡ false → (f ≟ bytes "else}{") ≡ false → (f ≟ bytes "switch{") ≡ false
      → none ≡ next_in lines (forms_of lines) k f c
  unfolding next_in when◌then◌else◌
  in_other p q r s = rw (p, q, r, s) refl

not_empty : (s : Text) → (s ≟ []) ≡ false → is_empty s ≡ false
not_empty [] e = e
not_empty (x ∷ xs) e = refl

module _ (lines : Listing) (k : ℕ) where
  abbrev g : Text
  g = get_or (forms_of lines) k []

  abbrev ends_up : Option (List ℕ) → Type 0
  ends_up o = o ≡ next lines (forms_of lines) k

  pub next_statement : g ≡ bytes ";" → ends_up (some ((k + 1) ∷ []))
  unfolding next when◌then◌else◌ ◌and◌ ◌or◌
  next_statement e = rw (e, add-one k) refl

  pub next_label : g ≡ bytes ":" → ends_up (some ((k + 1) ∷ []))
  unfolding next when◌then◌else◌ ◌and◌ ◌or◌
  next_label e = rw (e, add-one k) refl

  pub next_opening : g ≡ bytes "{" → ends_up (some ((k + 1) ∷ []))
  unfolding next when◌then◌else◌ ◌and◌ ◌or◌
  next_opening e = rw (e, add-one k) refl

  pub next_brackets : g ≡ bytes "{}" → ends_up (some ((k + 1) ∷ []))
  unfolding next when◌then◌else◌ ◌and◌ ◌or◌
  next_brackets e = rw (e, add-one k) refl

  pub next_guarded : g ≡ bytes "if;" → ends_up (some ((k + 1) ∷ []))
  unfolding next when◌then◌else◌ ◌and◌ ◌or◌
  next_guarded e = rw (e, add-one k) refl

  pub next_do : g ≡ bytes "do{" → ends_up (some ((k + 1) ∷ []))
  unfolding next when◌then◌else◌ ◌and◌ ◌or◌
  next_do e = rw (e, add-one k) refl

  pub next_goto : g ≡ bytes "goto;" → ends_up (goto_next lines k false)
  unfolding next when◌then◌else◌ ◌and◌ ◌or◌ jump jump_in
  next_goto e = rw (e, and_last (eqb k 0)) refl

  pub next_if_goto : g ≡ bytes "ifgoto;" → ends_up (goto_next lines k true)
  unfolding next when◌then◌else◌ ◌and◌ ◌or◌ jump jump_in
  next_if_goto e = rw (e, and_last (eqb k 0)) refl

  pub next_return : g ≡ bytes "return;" → ends_up (return_next lines k false)
  unfolding next when◌then◌else◌ ◌and◌ ◌or◌
  next_return e = rw (e, and_last (eqb k 0)) refl

  pub next_if_return : g ≡ bytes "ifreturn;" → ends_up (return_next lines k true)
  unfolding next when◌then◌else◌ ◌and◌ ◌or◌
  next_if_return e = rw (e, and_last (eqb k 0)) refl

  pub next_while : g ≡ bytes "while};" → ends_up (while_next lines k)
  unfolding next when◌then◌else◌ ◌and◌ ◌or◌
  next_while e = rw (e, and_last (eqb k 0)) refl

  pub next_closing : g ≡ bytes "}" → ends_up (closing_next lines k)
  unfolding next when◌then◌else◌ ◌and◌ ◌or◌
  next_closing e = rw (e, and_last (eqb k 0)) refl

  nothing : (o : Option ℕ) → ◌≡◌ {A = Option (List ℕ)} none (let_some o else none then λ c. none)
  unfolding let_some◌else◌then◌
  nothing none = refl
  nothing (some c) = refl

  pub next_empty : g ≡ [] → ends_up (when eqb k 0 then some (suc k ∷ []) else none)
  unfolding next next_in ◌and◌ ◌or◌ when◌then◌else◌
  next_empty e = rw e (go (eqb k 0))
    where
      go : (b : Bool) → (when b then some (suc k ∷ []) else none)
          ≡ (when b and true then some (suc k ∷ []) else (let_some (closer lines (forms_of lines) k) else none then λ c. none))
      go true = refl
      go false = nothing (closer lines (forms_of lines) k)

  pub next_block : (g ≟ []) ≡ false → (g ≟ bytes ";") ≡ false → (g ≟ bytes ":") ≡ false → (g ≟ bytes "{") ≡ false → (g ≟ bytes "{}") ≡ false
      → (g ≟ bytes "if;") ≡ false → (g ≟ bytes "do{") ≡ false → (g ≟ bytes "goto;") ≡ false → (g ≟ bytes "ifgoto;") ≡ false
      → (g ≟ bytes "return;") ≡ false → (g ≟ bytes "ifreturn;") ≡ false → (g ≟ bytes "while};") ≡ false → (g ≟ bytes "}") ≡ false → ends_up (block_next lines k)
  unfolding next when◌then◌else◌ ◌or◌
  next_block e0 e1 e2 e3 e4 e5 e6 e7 e8 e9 f1 f2 f3 =
      rw (
        not_empty g e0,
        same_turn (bytes ";") g,
        same_turn (bytes ":") g,
        same_turn (bytes "{") g,
        same_turn (bytes "{}") g,
        same_turn (bytes "if;") g,
        same_turn (bytes "do{") g,
        e1,
        e2,
        e3,
        e4,
        e5,
        e6,
        e7,
        e8,
        e9,
        f1,
        f2,
        f3,
        and_last (eqb k 0),
      ) refl

-- ---- by what the code asks

module _ (lines : Listing) (k : ℕ) {o : Option ℕ} (e : o ≡ opener lines (forms_of lines) k) where
  pub while_none : o ≡ none → none ≡ while_next lines k
  unfolding let_some◌else◌then◌
  while_none n = rw (← e, n) refl

  pub closing_none : o ≡ none → none ≡ closing_next lines k
  unfolding opened_by let_some◌else◌then◌ when◌then◌else◌
  closing_none n = rw (← e, n) refl

  module _ {d : ℕ} (n : o ≡ some d) where
    pub while_do : get_or (forms_of lines) d [] ≡ bytes "do{" → some ((k + 1) ∷ d ∷ []) ≡ while_next lines k
    unfolding let_some◌else◌then◌ when◌then◌else◌ ◌and◌
    while_do f = rw (← e, n, f, add-one k) refl

    pub while_other : (get_or (forms_of lines) d [] ≟ bytes "do{") ≡ false → none ≡ while_next lines k
    unfolding let_some◌else◌then◌ when◌then◌else◌
    while_other f = rw (← e, n, f) refl

    pub closing_by : (get_or (forms_of lines) d [] ≡ bytes "{") → some ((k + 1) ∷ []) ≡ closing_next lines k
    unfolding opened_by let_some◌else◌then◌ when◌then◌else◌ ◌and◌ ◌or◌
    closing_by f = rw (← e, n, f, add-one k) refl

    pub closing_if : (get_or (forms_of lines) d [] ≡ bytes "if{") → some ((k + 1) ∷ []) ≡ closing_next lines k
    unfolding opened_by let_some◌else◌then◌ when◌then◌else◌ ◌and◌ ◌or◌
    closing_if f = rw (← e, n, f, add-one k) refl

    pub closing_switch : (get_or (forms_of lines) d [] ≡ bytes "switch{") → some ((k + 1) ∷ []) ≡ closing_next lines k
    unfolding opened_by let_some◌else◌then◌ when◌then◌else◌ ◌and◌ ◌or◌
    closing_switch f = rw (← e, n, f, add-one k) refl

    pub closing_else : (get_or (forms_of lines) d [] ≡ bytes "else}{") → some ((k + 1) ∷ []) ≡ closing_next lines k
    unfolding opened_by let_some◌else◌then◌ when◌then◌else◌ ◌and◌ ◌or◌
    closing_else f = rw (← e, n, f, add-one k) refl

    pub closing_else_if : (get_or (forms_of lines) d [] ≡ bytes "elseif}{") → some ((k + 1) ∷ []) ≡ closing_next lines k
    unfolding opened_by let_some◌else◌then◌ when◌then◌else◌ ◌and◌ ◌or◌
    closing_else_if f = rw (← e, n, f, add-one k) refl

    pub closing_other : (get_or (forms_of lines) d [] ≟ bytes "{") ≡ false → (get_or (forms_of lines) d [] ≟ bytes "if{") ≡ false → (get_or (forms_of lines) d [] ≟ bytes "switch{") ≡ false
        → (get_or (forms_of lines) d [] ≟ bytes "else}{") ≡ false → (get_or (forms_of lines) d [] ≟ bytes "elseif}{") ≡ false → none ≡ closing_next lines k
    unfolding opened_by let_some◌else◌then◌ when◌then◌else◌ ◌or◌
    closing_other f1 f2 f3 f4 f5 =
        let s : Text = get_or (forms_of lines) d [] in
        rw (← e, n, same_turn (bytes "{") s, same_turn (bytes "if{") s, same_turn (bytes "switch{") s, same_turn (bytes "else}{") s, same_turn (bytes "elseif}{") s, f1, f2, f3, f4, f5) refl

module _ (lines : Listing) (k : ℕ) {ts : List Token} (et : ts ≡ (lines at k).tokens) where
  module _ {o : Option ℕ} (e : o ≡ jump_in lines ts) where
    pub goto_none : (b : Bool) → o ≡ none → none ≡ goto_next lines k b
    unfolding let_some◌else◌then◌
    goto_none true n = rw (← et, ← e, n) refl
    goto_none false n = rw (← et, ← e, n) refl

    pub goto_guarded : {b : Bool} {p : ℕ} → o ≡ some p → b ≡ true → some ((k + 1) ∷ p ∷ []) ≡ goto_next lines k b
    unfolding let_some◌else◌then◌
    goto_guarded n t = rw (t, ← et, ← e, n, add-one k) refl

    pub goto_plain : {b : Bool} {p : ℕ} → o ≡ some p → b ≡ false → some (p ∷ []) ≡ goto_next lines k b
    unfolding let_some◌else◌then◌
    goto_plain n t = rw (t, ← et, ← e, n) refl

  returned : (o : Option Token) → (let_some o else [] then λ t. when is_kw (bytes "return") t then length lines ∷ [] else [])
      ≡ (when let_some o else false then is_kw (bytes "return") then length lines ∷ [] else [])
  unfolding let_some◌else◌then◌ when◌then◌else◌
  returned none = refl
  returned (some t) = refl

  returns_by : returns_to lines (forms_of lines) ts ≡ (when gives_back ts then length lines ∷ [] else [])
  unfolding returns_to gives_back
  returns_by = returned (get ts (pred (pred (length ts))))

  module _ {x : Bool} (e : x ≡ gives_back ts) {n : ℕ} (en : n ≡ length lines) where
    pub return_guarded : {b : Bool} → x ≡ true → b ≡ true → some ((k + 1) ∷ n ∷ []) ≡ return_next lines k b
    unfolding when◌then◌else◌
    return_guarded t g = rw (g, ← et, returns_by, ← e, t, en, add-one k) refl

    pub return_plain : {b : Bool} → x ≡ true → b ≡ false → some (n ∷ []) ≡ return_next lines k b
    unfolding when◌then◌else◌
    return_plain t g = rw (g, ← et, returns_by, ← e, t, en) refl

  module _ {x : Bool} (e : x ≡ gives_back ts) where
    pub value_guarded : {b : Bool} → x ≡ false → b ≡ true → some ((k + 1) ∷ []) ≡ return_next lines k b
    unfolding when◌then◌else◌
    value_guarded t g = rw (g, ← et, returns_by, ← e, t, add-one k) refl

    pub value_plain : {b : Bool} → x ≡ false → b ≡ false → some [] ≡ return_next lines k b
    unfolding when◌then◌else◌
    value_plain t g = rw (g, ← et, returns_by, ← e, t) refl
