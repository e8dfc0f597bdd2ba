-- The questions of the call, one after the other: what each answer of the code says of the definition's. Assumes nothing.
use Rattle.std.specs.Option.{ok_or}
use Rattle.answers.specs.declared.Reason.TheVariants.{NoStartValue}
use Rattle.answers.specs.declared.Refusal.{Refusal}
use Rattle.answers.specs.Answers.{answer_of}
use Prim.Native.Nat.{ℕ, ◌+◌, ◌*◌, ◌%◌, ◌^◌, ◌≤◌}
use native.Mathlib.Omega.{arith}
use mathlib.Core.Path.{◌≡◌, refl, sym, ap, ◌∙◌}
use mathlib.Core.Bool.{Bool, true, false, true≢false, not as flip}
use mathlib.Core.List.{List}
use mathlib.Core.Option.{Option, none, some}
use lib.ListN.{length, take}
use borrow.Author.Tests.{not-true, not-false}
use Rattle.reference.specs.Control.{when◌then◌else◌, let_some◌else◌then◌}
use Rattle.reference.specs.Lists.{is_some}
use Rattle.reference.specs.Text.{Text}
use Rattle.reference.specs.Listing.{Listing}
use Rattle.reference.specs.Questions.{Answer, Refused, Passed, let_passed◌then◌, read}
use Rattle.reference.specs.Straight.{breaks}
use Rattle.reference.proofs.Cases.{bind-some, unless-some, some_inj}
use Rattle.laws.proofs.Scans.{if-true, if-false}
use Rattle.lines.specs.Lines.{Reading, own, listing_read}
use Rattle.tape.specs.declared.questions.Totals.{Totals}
use Rattle.tables.specs.Tables.{Loaded}
use Rattle.tables.proofs.loading.Loaded.{loaded-limits}
use Rattle.formula.specs.Profile.{Filled}
use Rattle.lines.specs.Words.{Holds}
use Rattle.solving.specs.Solutions.{Answers}
use Rattle.start.specs.Start.{Entry, entries, is_register, known_entries, solution, ask_names, ask_formula, start_reply}
use Rattle.start.specs.Pairs.{returned_pair}
use Rattle.start.specs.Solved.{answered}
use Rattle.start.specs.Reckoning.{Profiled}
use Rattle.start.proofs.Solved.{solution_is}
use Rattle.start.proofs.Pricing.{length-take-most}
use Rattle.std.specs.Prelude as std
use Rattle.std.specs.Prelude.{Some, None}
use Rattle.reference.specs.Options.{option_of}

-- ---- 16 and 15

module _ (chosen : Text) (list : List ℕ) (wanted : ℕ) {x : Bool} (ex : x ≡ is_register chosen) where
  pub unknown_chosen : flip x ≡ true → (lines : Listing) → Refused 16 0 ≡ ask_names lines chosen list wanted
  unfolding ask_names
  unknown_chosen h lines = sym (if-false _ _ (sym ex ∙ not-true _ h))

  module _ (h : flip x ≡ false) {y : Bool} (ey : y ≡ is_some (known_entries list)) where
    to_list : (lines : Listing)
        → ask_names lines chosen list wanted ≡ (let_some (known_entries list) else Refused 16 0 then λ es. solution lines chosen es wanted)
    unfolding ask_names
    to_list lines = if-true _ _ (sym ex ∙ not-false _ h)

    pub unknown_list : flip y ≡ true → (lines : Listing) → Refused 16 0 ≡ ask_names lines chosen list wanted
    unknown_list q lines = sym (to_list lines ∙ go (known_entries list) (sym ey ∙ not-true _ q))
      where
        go : (o : Option (List Entry)) → is_some o ≡ false → (let_some o else Refused 16 0 then λ es. solution lines chosen es wanted) ≡ Refused 16 0
        go none e = unfold let_some◌else◌then◌ in refl
        go (some es) e = absurd (true≢false e)

    -- the entries of a list that is known
    known : flip y ≡ false → (es : List Entry) × (known_entries list ≡ some es) × (entries list ≡ some es)
    unfolding known_entries
    known q = go (known_entries list) refl (sym ey ∙ not-false _ q)
      where
        go : (o : Option (List Entry)) → known_entries list ≡ o → is_some o ≡ true → (es : List Entry) × (known_entries list ≡ some es) × (entries list ≡ some es)
        go none e k = absurd (true≢false (sym k))
        go (some es) e k =
            let b = bind-some e in
            (es, e, b.1 ∙ ap {B = Option (List Entry)} (λ (r : List Entry). some r) (some_inj (unless-some b.2).1))

    pub uncut : flip y ≡ false → is_some (entries list) ≡ true
    uncut q = ap is_some (known q).2

    pub asked_names : flip y ≡ false → (lines : Listing) (m c : ℕ) → ((es : List Entry) → entries list ≡ some es → returned_pair chosen es lines ≡ some (m, c))
        → (s : std.Option ℕ) → Answers (λ v. (m * v + c) % 2 ^ 64 ≡ wanted) s → answered s ≡ ask_names lines chosen list wanted
    asked_names q lines m c e s a =
        let k = known q in
        sym (to_list lines ∙ taken k.1 ∙ solution_is chosen k.0 lines m c wanted (e k.0 k.2) s a)
      where
        taken : {es : List Entry} → known_entries list ≡ some es
            → (let_some (known_entries list) else Refused 16 0 then λ es. solution lines chosen es wanted) ≡ solution lines chosen es wanted
        taken e = unfold let_some◌else◌then◌ in rw e refl

-- the answer of the code
pub solved_as : (s : std.Option ℕ) {e : Refusal} → e ≡ record { reason = NoStartValue; place = 0 } → answer_of (ok_or s e) ≡ answered s
solved_as (Some v) r = refl
solved_as None r = rw r

-- ---- 14

module _ (chosen : Text) (list : List ℕ) (wanted : ℕ) (lines : Listing) (r : std.Option ℕ) (e : option_of r ≡ breaks lines) where
  pub out_of_profile : (n : ℕ) → r ≡ Some n → Refused 14 n ≡ ask_formula lines chosen list wanted
  unfolding ask_formula let_some◌else◌then◌
  out_of_profile n q = rw (sym e ∙ ap option_of q) refl

  pub in_profile : r ≡ None → ask_formula lines chosen list wanted ≡ ask_names lines chosen list wanted
  unfolding ask_formula let_some◌else◌then◌
  in_profile q = rw (sym e ∙ ap option_of q) refl

-- ---- the tape's questions

module _ (tape : List ℕ) (chosen : Text) (list : List ℕ) (wanted : ℕ) where
  pub tape_refused : {number place : ℕ} → read tape ≡ Refused number place → Refused number place ≡ start_reply tape chosen list wanted
  unfolding start_reply let_passed◌then◌
  tape_refused e = rw e refl

  tape_passed : {lines : Listing} → read tape ≡ Passed lines → ask_formula lines chosen list wanted ≡ start_reply tape chosen list wanted
  unfolding start_reply let_passed◌then◌
  tape_passed e = rw e refl

-- ---- what was loaded

pub profiled : {tape tokens lines : List ℕ} → Filled tape tokens lines → Holds tape tape tokens → (r : std.Option ℕ)
    → ((reading : Reading) → option_of r ≡ breaks (listing_read tape tape tokens reading lines)) → r ≡ None → Profiled tape tape tokens lines
profiled f h r e q = record { filled = f; holds = h; in_profile = λ reading. sym (e reading) ∙ ap option_of q }

module _ (tape tokens lines addresses : List ℕ) (t : Totals) (l : Loaded tape tokens lines addresses t) where
  pub few_words : length (take t.tokens tokens) ≤ 1024
  few_words = omega (arith, length-take-most t.tokens tokens, loaded-limits l)

  -- the answer of the loaded listing is that of the tape
  pub loaded-answer : (chosen : Text) (list : List ℕ) (wanted : ℕ) {a : Answer ℕ}
      → ((reading : Reading) → a ≡ ask_formula (listing_read tape tape (take t.tokens tokens) reading (take t.lines lines)) chosen list wanted)
      → a ≡ start_reply tape chosen list wanted
  loaded-answer chosen list wanted h = h (own addresses) ∙ tape_passed tape chosen list wanted (l.listing tape)
