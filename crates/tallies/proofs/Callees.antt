-- Each callee is called as often as before, command by command: what was asked so far, with what is to come. Assumes nothing.
use Prim.Native.Nat.{ℕ, ◌+◌, ◌≤◌}
use native.Mathlib.Omega.{arith}
use mathlib.Core.Path.{◌≡◌, refl, sym, ap, ◌∙◌}
use mathlib.Core.Bool.{Bool, true, false, true≢false, false≢true}
use mathlib.Core.List.{List, [], ◌∷◌}
use mathlib.Core.Option.{Option, none, some}
use lib.Dec.{leb, eqb}
use borrow.Author.Tests.{leb-true, le-leb}
use Rattle.std.specs.Prelude as std
use Rattle.std.specs.Bool.{Decides, then_some}
use Rattle.std.proofs.Common.{Bor}
use Rattle.reference.specs.Control.{◌and◌, let_some◌else◌then◌}
use Rattle.reference.specs.Text.{Text, ◌≟◌}
use Rattle.reference.specs.Listing.{Token, token, is, Symbol, Listing}
use Rattle.reference.specs.Claim.{Callee, one_if, opens, calls_in, calls}
use Rattle.reference.specs.Options.{option_of}
use Rattle.reference.specs.Tape as Tape
use Rattle.reference.proofs.Cases.{both, zero_if}
use Rattle.reference.proofs.Shapes.{same_text}
use Rattle.tape.specs.Held.{tokens_of, lines_of}
use Rattle.tallies.specs.Counting.{is_name}
use Rattle.tallies.specs.Ticks.{CallsStay}
use Rattle.laws.proofs.Scans.{and_last}
use Rattle.tallies.proofs.Adding.{call_in, opens-first}

-- the text of the last token, where it is a Symbol
abbrev pub Last : Type 0
Last = std.Option (Bor (List ℕ))

-- whether it is that name
abbrev pub named_by : Text → Last → Bool
named_by name std.None = false
named_by name (std.Some s) = s.now ≟ name

-- how many calls of a name are to come
abbrev pub to_come : Text → Last → List Tape.Command → ℕ
to_come name symbol more =
    one_if (named_by name symbol and opens (tokens_of more)) + calls_in (some name) (tokens_of more) + calls (some name) (lines_of more)

module _ (before after : Listing) where
  abbrev pub Stays : Callee → Type 0
  Stays c = calls c before ≤ calls c after

  -- whether a name, if there is one, stays
  abbrev pub name_stays : Last → Bool
  name_stays name = let_some option_of name else true then λ s. leb (calls (some s.now) before) (calls (some s.now) after)

  -- a name that is not called any more stays
  pub record Asked (symbol : Last) (more : List Tape.Command) : Type 0 where
    pub stays : (name : Text) → to_come name symbol more ≡ 0 → Stays (some name)

  -- a name whose call a token completes was asked
  pub record Passed (symbol : Last) (t : Token) : Type 0 where
    pub stays : (name : Text) → (named_by name symbol and opens (t ∷ [])) ≡ true → Stays (some name)

-- before the first command
pub asked_begins : (cs : List Tape.Command) (after : Listing) → Asked (lines_of cs) after std.None cs
asked_begins cs after = record { stays = λ name e. omega arith }

module _ {before after : Listing} where
  pub asked_line : {symbol : Last} (address : Option ℕ) (indent : ℕ) (more : List Tape.Command)
      → Asked before after symbol (Tape.new_line address indent ∷ more) → Asked before after std.None more
  unfolding calls_in opens
  asked_line {symbol} address indent more h = record {
    stays = λ name e.
        (let closed : one_if (named_by name symbol and false) ≡ 0 = zero_if (and_last (named_by name symbol)) in h.stays name (omega arith));
  }

  pub asked_token : {symbol now : Last} (t : Token) (more : List Tape.Command) → Passed before after symbol t
      → ((name : Text) → named_by name now ≡ is_name name t) → Asked before after symbol (Tape.new_token t ∷ more) → Asked before after now more
  asked_token {symbol} {now} t more p n h = record { stays = λ name e. go name e (named_by name symbol and opens (t ∷ [])) refl }
    where
      go : (name : Text) → to_come name now more ≡ 0 → (b : Bool) → (named_by name symbol and opens (t ∷ [])) ≡ b → Stays before after (some name)
      go name e true f = p.stays name f
      go name e false f =
          let first : one_if (named_by name symbol and opens (t ∷ tokens_of more)) ≡ 0
          = zero_if (ap (λ (x : Bool). named_by name symbol and x) (opens-first t (tokens_of more)) ∙ f) in
          let same : one_if (named_by name now and opens (tokens_of more)) ≡ one_if (is_name name t and opens (tokens_of more))
          = ap (λ (x : Bool). one_if (x and opens (tokens_of more))) (n name) in
          h.stays name (omega (arith, call_in name t (tokens_of more)))

  -- no bracket, or a name that stays
  pub passed-closed : {symbol : Last} (t : Token) → opens (t ∷ []) ≡ false → Passed before after symbol t
  passed-closed {symbol} t e = record {
    stays = λ name f. absurd (false≢true (sym (ap (λ (x : Bool). named_by name symbol and x) e ∙ and_last (named_by name symbol)) ∙ f));
  }

  pub passed-stays : (symbol : Last) (t : Token) → name_stays before after symbol ≡ true → Passed before after symbol t
  unfolding ◌and◌ let_some◌else◌then◌
  passed-stays std.None t e = record { stays = λ name f. absurd (false≢true f) }
  passed-stays (std.Some s) t e = record { stays = λ name f. rw (sym (same_text s.now name (both f).0)) (leb-true _ _ e) }

  -- a name that does not
  pub one_gone : (symbol : Last) → name_stays before after symbol ≡ false → Decides false (CallsStay before after)
  unfolding let_some◌else◌then◌
  one_gone std.None e = absurd (true≢false e)
  one_gone (std.Some s) e = ((λ f. absurd (false≢true f)), (λ h. absurd (true≢false (sym (le-leb _ _ (h.as_often (some s.now))) ∙ e))))

  -- no command comes any more, and the cast pointers are asked
  pub asked_ends : {symbol : Last} → Asked before after symbol [] → Decides (leb (calls none before) (calls none after)) (CallsStay before after)
  unfolding calls_in opens
  asked_ends {symbol} h = ((λ e. record { as_often = each e }), (λ s. le-leb _ _ (s.as_often none)))
    where
      each : leb (calls none before) (calls none after) ≡ true → (c : Callee) → Stays before after c
      each e none = leb-true _ _ e
      each e (some name) = let closed : one_if (named_by name symbol and false) ≡ 0 = zero_if (and_last (named_by name symbol)) in
          h.stays name (omega arith)

-- what the last token is, as the code keeps it
pub symbol_now : (kind : ℕ) (s : Bor (List ℕ)) (name : Text) → named_by name (then_some (eqb kind Symbol) s) ≡ is_name name (token kind s.now)
unfolding is ◌and◌
symbol_now kind s name = go (eqb kind Symbol)
  where
    go : (b : Bool) → named_by name (then_some b s) ≡ (b and (s.now ≟ name))
    go true = refl
    go false = refl
