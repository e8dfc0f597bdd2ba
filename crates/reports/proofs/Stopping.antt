-- The words for a refusal by 3, 5, 6 or 10 say what is not met where the reading of the tape stops. Assumes nothing.
use Rattle.std.proofs.Common.{◌≡◌, ℕ, zero, suc, ◌+◌, ◌<◌, ◌≤◌, ◌&&◌, ◌||◌, Bool, true, false, not as flip, List, [], ◌∷◌, eqb, leb, ltb, length, drop, sym, refl, ap, ◌∙◌, arith, if◌then◌else◌}
use Rattle.std.proofs.Common.{eqb-true, eq-eqb}
use mathlib.Core.Bool.{false≢true, true≢false}
use Rattle.std.proofs.lemmas.Bool.{ltb-true, ltb-false, leb-true, leb-false, le-leb, eqb-false}
use Rattle.reference.specs.Control.{not, ◌or◌, when◌then◌else◌}
use Rattle.reference.specs.Lists.{any}
use Rattle.reference.specs.Text.{Text, bytes}
use Rattle.reference.specs.Listing.{Token, Listing, is, Number}
use Rattle.reference.specs.Tape.{old, Command, new_line, marked, new_token, end, command_by, command_size_by}
use Rattle.reference.specs.Questions.{Totals, Advance, no_commands, is_command, ends_inside, ends_inside_by, has_line, is_within, is_few}
use Rattle.reference.specs.Questions.{is_short, is_printable, is_over, add, place_at, ask}
use Rattle.reference.specs.Questions.{Answer, Refused, Passed, let_passed◌then◌, read_command, read_command_by, read_from, read_from_by, read, read_by}
use Rattle.reference.proofs.Cases.{by-if}
use Rattle.laws.proofs.Scans.{and_true, or_true, if-true, if-false}
use Rattle.reference.proofs.Reading.{refused_passed, ask-yes, by_passed, command_passed, advances, no_byte_by}
use Rattle.reference.proofs.Commands.{form_of, sized, Sized as SizedAs}
use mathlib.Core.Path.{subst}
use Rattle.formula.proofs.Breaking.{tells}
use Rattle.reports.specs.Profile.{words_of_breach, broken}
use Rattle.reports.proofs.Loading.{of_passed}
use Rattle.tape.specs.Commands.{Sized, standing, standing_by}
use Rattle.reports.specs.Why.{no_command as no_command_words, misplaced, unbounded, too_many, words_by, words_at, words}
use Rattle.reports.specs.Because.{Reaches, first, next, NoCommand, ends, unknown, Unmet, token_apart, marks_crossed, marks_apart, empty_text, long_number, deep_line, many_tokens, many_lines}
use Rattle.reports.specs.Because.{Because, no_command, unmet, Stops, has_several, OfProfile}

-- ---- where the reading stops

record Stop (tape : List ℕ) (n p : ℕ) : Type 0 where
  at : ℕ
  totals : Totals
  reached : Reaches tape at totals
  asked : read_command tape at totals ≡ Refused n p

same : {m q n p : ℕ} → ◌≡◌ {A = Answer Listing} (Refused m q) (Refused n p) → ◌≡◌ {A = Answer Advance} (Refused m q) (Refused n p)
same f = cc

module _ (tape : List ℕ) (n p : ℕ) where
  stop : (fuel at : ℕ) (t : Totals) (lines : Listing) → Reaches tape at t → length tape ≤ at + fuel → read_from fuel tape at t lines ≡ Refused n p → Stop tape n p
  unfolding read_from_by
  stop zero at t lines r l e = record { at = at; totals = t; reached = r; asked = no_byte_by old tape at t (omega arith) ∙ same e }
  stop (suc fuel) at t lines r l e =
      by_passed (λ (x : Answer Listing). x ≡ Refused n p → Stop tape n p)
      (λ m q d f. record { at = at; totals = t; reached = r; asked = d ∙ same f })
      (λ a d.
      by-if (λ (x : Answer Listing). x ≡ Refused n p → Stop tape n p)
      (λ y f. absurd (refused_passed (sym f)))
      (λ y f.
      (let w = command_passed tape at t a d in
      stop fuel a.next a.totals (add a.command lines) (next a r d y) (omega (arith, l, (advances tape at t w.0).0, ap (λ (b : Advance). b.next) w.1)) f)))
      e

  stopped : read tape ≡ Refused n p → Stop tape n p
  unfolding read_by
  stopped e = stop (length tape) 0 no_commands [] first (omega arith) e

-- ---- which question it is

-- a refusal's number, and its place
number_is : {A : Type 0} {m r n p : ℕ} → ◌≡◌ {A = Answer A} (Refused m r) (Refused n p) → m ≡ n
number_is f = cc

place_is : {A : Type 0} {m r n p : ℕ} → ◌≡◌ {A = Answer A} (Refused m r) (Refused n p) → r ≡ p
place_is f = cc

second_true : (a : Bool) {b : Bool} → b ≡ true → (a or b) ≡ true
unfolding ◌or◌
second_true true h = refl
second_true false h = h

abbrev answers_no : ℕ → List (ℕ × Bool) → Bool
answers_no n = any (λ (q : ℕ × Bool). eqb q.0 n && flip q.1)

module _ {A : Type 0} (place : ℕ → ℕ) (n p : ℕ) (x : A) where
  -- its number is of a question that is answered "no"
  no_answer : (qs : List (ℕ × Bool)) → ask place qs (Passed x) ≡ Refused n p → (answers_no n qs ≡ true) × (place n ≡ p)
  unfolding ask ◌or◌
  no_answer [] e = absurd (refused_passed (sym e))
  no_answer (q ∷ qs) e = go (no_answer qs) q.1 refl e
    where
      go : (ask place qs (Passed x) ≡ Refused n p → (answers_no n qs ≡ true) × (place n ≡ p)) → (b : Bool) → q.1 ≡ b
          → (when b then ask place qs (Passed x) else Refused q.0 (place q.0)) ≡ Refused n p
          → (((eqb q.0 n && flip q.1) or answers_no n qs) ≡ true) × (place n ≡ p)
      go more true d f = let m = more (sym (if-true _ _ refl) ∙ f) in (second_true _ m.0, m.1)
      go more false d f =
          let g = sym (if-false _ _ refl) ∙ f in
          let k : q.0 ≡ n = number_is g in
          let c : (eqb q.0 n && flip q.1) ≡ true = rw (d, k, eq-eqb n n refl) refl in
          (or_true _ c, ap place (sym k) ∙ place_is g)

  -- the questions 3 and 4 are answered "yes", where it is neither
  yes_before : (a b : Bool) (qs : List (ℕ × Bool)) → ask place ((3, a) ∷ (4, b) ∷ qs) (Passed x) ≡ Refused n p → (n ≡ 3 → ⊥) → (n ≡ 4 → ⊥) → (a ≡ true) × (b ≡ true)
  unfolding ask when◌then◌else◌
  yes_before true true qs e h k = (refl, refl)
  yes_before true false qs e h k = absurd (k (sym (number_is e)))
  yes_before false b qs e h k = absurd (h (sym (number_is e)))

alone : (b : Bool) → (flip b or false) ≡ true → b ≡ false
unfolding ◌or◌
alone true h = absurd (false≢true h)
alone false h = refl

-- ---- 5, 6 and 10: what a command does not meet

misplaced_unmet : (t : Totals) (c : Command) → has_line t c ≡ false → Unmet t 5 c (misplaced c)
unfolding has_line misplaced
misplaced_unmet t (new_line a i) e = absurd (true≢false e)
misplaced_unmet t end e = absurd (true≢false e)
misplaced_unmet t (new_token s) e = token_apart (let h = leb-false 1 t.lines e in omega (arith, h))
misplaced_unmet t (marked s) e = go (ltb s.highest s.lowest) refl
  where
    apart : s.lowest ≤ s.highest → t.fresh ≡ false
    apart l = go t.fresh refl
      where
        go : (b : Bool) → t.fresh ≡ b → t.fresh ≡ false
        go false p = p
        go true p = absurd (true≢false (sym (and_true _ p ∙ le-leb _ _ l) ∙ e))

    go : (b : Bool) → ltb s.highest s.lowest ≡ b
        → Unmet t 5 (marked s)
        (if b then bytes "the marks at this offset have their lowest above their highest" else bytes "the marks at this offset do not follow the command of a line")
    go true p = marks_crossed (ltb-true _ _ p)
    go false p = let l = ltb-false _ _ p in marks_apart l (apart l)

numbered : (s : Token) (a b : Bool) → eqb s.kind Number ≡ a → leb (length s.text) 24 ≡ b → (not a or b) ≡ false → (s.kind ≡ Number) × (24 < length s.text)
unfolding not ◌or◌
numbered s true false p q f = (eqb-true _ _ p, leb-false _ _ q)
numbered s true true p q f = absurd (true≢false f)
numbered s false b p q f = absurd (true≢false f)

unbounded_unmet : (t : Totals) (c : Command) (size : ℕ) → ((s : Token) → c ≡ new_token s → size ≡ 3 + length s.text) → is_within c ≡ false → Unmet t 6 c (unbounded c size)
unfolding is_within unbounded is
unbounded_unmet t (new_line a i) size h e = deep_line (leb-false i 63 e)
unbounded_unmet t (marked s) size h e = absurd (true≢false e)
unbounded_unmet t end size h e = absurd (true≢false e)
unbounded_unmet t (new_token s) size h e = go (eqb size 3) refl
  where
    long : (eqb size 3 ≡ false) → (s.kind ≡ Number) × (24 < length s.text)
    long p = numbered s (eqb s.kind Number) (leb (length s.text) 24) refl refl (sym (and_true _ (le-leb 1 (length s.text) some_byte)) ∙ e)
      where
        some_byte : 1 ≤ length s.text
        some_byte = let z = h s refl in let d = eqb-false size 3 p in grind (arith, z, d)

    go : (b : Bool) → eqb size 3 ≡ b
        → Unmet t 6 (new_token s) (if b then bytes "the token at this offset has a text with no byte" else bytes "the Number at this offset has more than 24 bytes")
    go true p = empty_text (let z = h s refl in let d : size ≡ 3 = eqb-true size 3 p in omega (arith, z, d))
    go false p = let l = long p in long_number l.0 l.1

too_many_unmet : (t : Totals) (c : Command) → is_few t c ≡ false → Unmet t 10 c (too_many c)
unfolding is_few too_many
too_many_unmet t (new_line a i) e = many_lines (leb-false (t.lines + 1) 256 e)
too_many_unmet t (marked s) e = absurd (true≢false e)
too_many_unmet t end e = absurd (true≢false e)
too_many_unmet t (new_token s) e = many_tokens (leb-false (t.tokens + 1) 1024 e)

-- ---- the words

module _ (tape : List ℕ) (at : ℕ) (t : Totals) (n p : ℕ) (e : read_command tape at t ≡ Refused n p) where
  abbrev here : Command
  here = command_by old (drop at tape)

  abbrev size : ℕ
  size = command_size_by old (drop at tape)

  abbrev asked : List (ℕ × Bool)
  asked =
      (3, is_command (drop at tape)) ∷ (4, ends_inside (drop at tape)) ∷ (5, has_line t here) ∷ (6, is_within here) ∷ (10, is_few t here)
      ∷ (11, is_short t here) ∷ (7, is_printable here) ∷ (8, is_over (drop at tape) here) ∷ []

  refused : (answers_no n asked ≡ true) × (place_at at here n ≡ p)
  unfolding read_command_by
  refused = no_answer (place_at at here) n p _ _ e

  module _ (h : n ≡ 3 → ⊥) (k : n ≡ 4 → ⊥) where
    whole : (is_command (drop at tape) ≡ true) × (ends_inside (drop at tape) ≡ true)
    unfolding read_command_by
    whole = yes_before (place_at at here) n p _ _ _ _ e h k

    stands : standing tape at ≡ Passed (here, size)
    unfolding standing_by
    stands = ask-yes (λ number. at) _ _ (whole.0, (whole.1, tt))

    token_size : (s : Token) → here ≡ new_token s → size ≡ 3 + length s.text
    unfolding ends_inside_by
    token_size s q = (subst (λ (c : Command). SizedAs c size) q (sized (drop at tape) (form_of (drop at tape) whole.0) (leb-true _ _ whole.1))).0

module _ (tape : List ℕ) (at : ℕ) (t : Totals) (p : ℕ) where
  no_3 : read_command tape at t ≡ Refused 3 p → (is_command (drop at tape) ≡ false) × (p ≡ at)
  unfolding ◌or◌ place_at when◌then◌else◌
  no_3 e = let r = refused tape at t 3 p e in (alone _ r.0, sym r.1)

  no_5 : read_command tape at t ≡ Refused 5 p → (has_line t (command_by old (drop at tape)) ≡ false) × (p ≡ at)
  unfolding ◌or◌ place_at when◌then◌else◌
  no_5 e = let r = refused tape at t 5 p e in (alone _ r.0, sym r.1)

  no_6 : read_command tape at t ≡ Refused 6 p → (is_within (command_by old (drop at tape)) ≡ false) × (p ≡ at)
  unfolding ◌or◌ place_at when◌then◌else◌
  no_6 e = let r = refused tape at t 6 p e in (alone _ r.0, sym r.1)

  no_10 : read_command tape at t ≡ Refused 10 p → (is_few t (command_by old (drop at tape)) ≡ false) × (p ≡ at)
  unfolding ◌or◌ place_at when◌then◌else◌
  no_10 e = let r = refused tape at t 10 p e in (alone _ r.0, sym r.1)

module _ (tape : List ℕ) (at : ℕ) where
  words_3 : words tape 3 at ≡ no_command_words tape at
  unfolding words
  words_3 = refl

  words_5 : (c : Sized) → standing tape at ≡ Passed c → words tape 5 at ≡ misplaced c.0
  unfolding words words_by
  words_5 c e = ap (words_at 5) e

  words_6 : (c : Sized) → standing tape at ≡ Passed c → words tape 6 at ≡ unbounded c.0 c.1
  unfolding words words_by
  words_6 c e = ap (words_at 6) e

  words_10 : (c : Sized) → standing tape at ≡ Passed c → words tape 10 at ≡ too_many c.0
  unfolding words words_by
  words_10 c e = ap (words_at 10) e

  none_there : is_command (drop at tape) ≡ false → NoCommand tape at (no_command_words tape at)
  unfolding no_command_words
  none_there e = go (ltb at (length tape)) refl
    where
      go : (b : Bool) → ltb at (length tape) ≡ b
          → NoCommand tape at (if b then bytes "the byte at this offset begins no command" else bytes "the tape ends here, and no end (FF) was read")
      go true p = unknown (ltb-true _ _ p) e
      go false p = ends (ltb-false _ _ p)

-- a refusal at the offset where the reading stops
module _ (tape : List ℕ) (n p : ℕ) (s : Stop tape n p) (q : p ≡ s.at) where
  told : (w : Text) → words tape n s.at ≡ w → Because tape s.at s.totals n w → Stops tape n p (words tape n p)
  told w e b =
      rw q (record {
        totals = s.totals;
        reached = s.reached;
        asked = s.asked ∙ ap (λ (r : ℕ). Refused n r) q;
        because = subst (λ (v : Text). Because tape s.at s.totals n v) (sym e) b;
      })

module _ (tape : List ℕ) (p : ℕ) where
  stops_3 : read tape ≡ Refused 3 p → Stops tape 3 p (words tape 3 p)
  stops_3 e =
      let s = stopped tape 3 p e in
      let r = no_3 tape s.at s.totals p s.asked in
      told tape 3 p s r.1 _ (words_3 tape s.at) (no_command (none_there tape s.at r.0))

  stops_5 : read tape ≡ Refused 5 p → Stops tape 5 p (words tape 5 p)
  stops_5 e =
      let s = stopped tape 5 p e in
      let r = no_5 tape s.at s.totals p s.asked in
      let c = stands tape s.at s.totals 5 p s.asked (λ z. omega (arith, z)) (λ z. omega (arith, z)) in
      told tape 5 p s r.1 _ (words_5 tape s.at _ c) (unmet _ c (misplaced_unmet s.totals _ r.0))

  stops_6 : read tape ≡ Refused 6 p → Stops tape 6 p (words tape 6 p)
  stops_6 e =
      let s = stopped tape 6 p e in
      let r = no_6 tape s.at s.totals p s.asked in
      let h = token_size tape s.at s.totals 6 p s.asked (λ z. omega (arith, z)) (λ z. omega (arith, z)) in
      let c = stands tape s.at s.totals 6 p s.asked (λ z. omega (arith, z)) (λ z. omega (arith, z)) in
      told tape 6 p s r.1 _ (words_6 tape s.at _ c) (unmet _ c (unbounded_unmet s.totals _ _ h r.0))

  stops_10 : read tape ≡ Refused 10 p → Stops tape 10 p (words tape 10 p)
  stops_10 e =
      let s = stopped tape 10 p e in
      let r = no_10 tape s.at s.totals p s.asked in
      let c = stands tape s.at s.totals 10 p s.asked (λ z. omega (arith, z)) (λ z. omega (arith, z)) in
      told tape 10 p s r.1 _ (words_10 tape s.at _ c) (unmet _ c (too_many_unmet s.totals _ r.0))

-- THE WORDS SAY WHY THE READING STOPS
pub stops : (tape : List ℕ) (n p : ℕ) → has_several n ≡ true → read tape ≡ Refused n p → Stops tape n p (words tape n p)
stops tape n p h e = go (eqb n 3) refl (eqb n 5) refl (eqb n 6) refl (eqb n 10) refl h
  where
    go : (a : Bool) → eqb n 3 ≡ a → (b : Bool) → eqb n 5 ≡ b → (c : Bool) → eqb n 6 ≡ c → (d : Bool) → eqb n 10 ≡ d → (a || b || c || d) ≡ true → Stops tape n p (words tape n p)
    go true i b j c k d l h = let z = eqb-true n 3 i in rw z (stops_3 tape p (rw z at e))
    go false i true j c k d l h = let z = eqb-true n 5 j in rw z (stops_5 tape p (rw z at e))
    go false i false j true k d l h = let z = eqb-true n 6 k in rw z (stops_6 tape p (rw z at e))
    go false i false j false k true l h = let z = eqb-true n 10 l in rw z (stops_10 tape p (rw z at e))
    go false i false j false k false l h = absurd (false≢true h)

-- ---- 14

pub told_broken : (tape : List ℕ) (n p : ℕ) → OfProfile tape n p (words tape n p)
told_broken tape n p lines z e b = rw z (let r = (tells lines).refused p b in (r.0, r.2, words_14 ∙ of_passed tape p e ∙ ap words_of_breach r.1))
  where
    words_14 : words tape 14 p ≡ broken tape p
    words_14 = unfold words in refl
