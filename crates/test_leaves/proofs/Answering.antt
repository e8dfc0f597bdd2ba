-- What each part of the code answers, as the definitions have it. Assumes nothing.
use Prim.Native.Nat.{ℕ, ◌+◌, ◌≤◌, ◌<◌}
use native.Mathlib.Omega.{arith}
use mathlib.Core.Path.{◌≡◌, refl, sym, ap, ◌∙◌}
use mathlib.Core.Bool.{Bool, true, false}
use mathlib.Core.List.{[], ◌∷◌, append_assoc}
use mathlib.Core.Option.{Option, none, some}
use lib.Dec.{eqb}
use lib.IntN.{ℤ, ◌+ℤ◌, ◌-ℤ◌}
use lib.ListN.{length, take, length-take}
use lib.Seq.{take-length, take-append_seam}
use Rattle.reference.specs.Control.{not, ◌and◌, ◌or◌, when◌then◌else◌, let_some◌else◌then◌}
use Rattle.reference.specs.Text.{Text, bytes, ◌≟◌, has}
use Rattle.reference.specs.Listing.{token, is, Number}
use Rattle.reference.specs.Names.{family, volatile_of}
use Rattle.reference.specs.Numbers.{parse_c_number, read_number, wrap, show, delim_before, delim_after, folded}
use Rattle.reference.proofs.Cases.{same_number}
use Rattle.laws.proofs.Scans.{if-true, if-false}
use Rattle.names.specs.Families.{row_name, Spells}
use Rattle.names.specs.Volatile.{name_numbered, number_of}
use Rattle.names.specs.declared.families.Spelled.{Spelled}
use Rattle.names.specs.declared.families.Spelled.TheVariants.{Row, Front}
use Rattle.names.proofs.Searches.{all-below, below_at}
use Rattle.names.proofs.Texts.{same_true}
use Rattle.names.proofs.Volatiles.{row_overwritten, number_in, text_overwritten}
use Rattle.std.specs.Prelude as std
use Rattle.text.specs.declared.cursor.Cursor.{Cursor}
use Rattle.text.specs.Cursor.{Written, Fits, Puts}
use Rattle.text.proofs.Cursors.{puts_as, then_puts, room_left}
use Rattle.printing.specs.Decimals.{decimal}
use Rattle.test_leaves.specs.Fields.{before, behind, behind_words, lines}
use Rattle.test_leaves.specs.Answers.{register, family_answer, value, combined, fold_answer, convention, overwrites, yes_no, answer_to, answer, expected, differing}
use Rattle.test_leaves.specs.Questions.{word_of, one_operand, Asks}
use Rattle.test_leaves.specs.declared.asking.Question.{Question}
use Rattle.test_leaves.specs.declared.asking.Question.TheVariants as question
use Rattle.replays.specs.declared.Counts.{Counts}
use Rattle.test_leaves.proofs.Separators.{before-length, behind-length, next_line}
use Rattle.std.specs.Prelude.{Some, None}
use Rattle.reference.specs.Options.{option_of}

-- ---- names

-- a register, put piece by piece
module _ (name : Text) {p p₁ : Cursor} (h : Fits p (length name + 21)) (w : Puts p name p₁) where
  pub mark_room : Fits p₁ 21
  mark_room = room_left w 21 h

  module _ {p₂ : Cursor} (x : Puts p₁ (bytes " ") p₂) where
    pub width_room : Fits p₂ 20
    width_room = room_left x 20 mark_room

    pub register-put : {p₃ : Cursor} (width : ℕ) → Puts p₂ (decimal width) p₃ → Puts p (register name width) p₃
    unfolding register
    register-put width y =
        puts_as (then_puts w (omega (arith, h)) (then_puts x (omega (arith, mark_room)) y)) (simp append_assoc)

three-bytes : ℕ → Bool
three-bytes row = eqb (length (row_name row)) 3

pub row-length : (row : ℕ) → row < 8 → length (row_name row) ≡ 3
unfolding three-bytes all-below ◌and◌
row-length row h = same_number (below_at 8 three-bytes row refl h)

module _ (s : Text) {r : std.Option Spelled} (h : Spells s (family s) r) where
  pub row_in : {row width lowest : ℕ} → r ≡ Some (Row row width lowest) → row < 8
  row_in e = rw e at h.sound

  pub front_in : {n width : ℕ} → r ≡ Some (Front n width) → n ≤ length s
  front_in e = (rw e at h.sound).0

  pub answers-row : {row width lowest : ℕ} → r ≡ Some (Row row width lowest) → family_answer s ≡ register (row_name row) width
  unfolding family_answer let_some◌else◌then◌
  answers-row e = rw (← h.is, e)

  pub answers-front : {n width : ℕ} → r ≡ Some (Front n width) → family_answer s ≡ register (take n s) width
  unfolding family_answer let_some◌else◌then◌
  answers-front e = rw (← h.is, e)

  pub answers_none : r ≡ None → family_answer s ≡ bytes "none"
  unfolding family_answer let_some◌else◌then◌
  answers_none e = rw (← h.is, e)

  module _ (c : ℕ) where
    pub overwrites-row : {row width lowest : ℕ} → r ≡ Some (Row row width lowest) → has (volatile_of c) (name_numbered row) ≡ overwrites c s
    unfolding overwrites let_some◌else◌then◌
    overwrites-row {row} e = row_overwritten c row (row_in e) ∙ rw (← h.is, e)

    -- a front, whose name has a number or none
    module _ {n width : ℕ} (e : r ≡ Some (Front n width)) where
      front_overwritten : number_in (volatile_of c) (take n s) ≡ overwrites c s
      unfolding overwrites let_some◌else◌then◌
      front_overwritten = text_overwritten c (take n s) (rw e at h.sound).1 ∙ rw (← h.is, e)

      pub overwrites-numbered : {k : ℕ} → some k ≡ number_of (take n s) → has (volatile_of c) (name_numbered k) ≡ overwrites c s
      unfolding let_some◌else◌then◌
      overwrites-numbered f = rw (← f) at front_overwritten

      pub overwrites_unnumbered : none ≡ number_of (take n s) → false ≡ overwrites c s
      unfolding let_some◌else◌then◌
      overwrites_unnumbered f = rw (← f) at front_overwritten

    pub overwrites_none : r ≡ None → false ≡ overwrites c s
    unfolding overwrites let_some◌else◌then◌
    overwrites_none e = rw (← h.is, e)

-- ---- numbers

module _ (a b : Text) where
  module _ (minus : Bool) where
    pub combined-first : parse_c_number a ≡ none → none ≡ combined minus a b
    unfolding combined let_some◌else◌then◌
    combined-first e = rw e

    pub combined-second : {x : ℤ} → parse_c_number a ≡ some x → parse_c_number b ≡ none → none ≡ combined minus a b
    unfolding combined let_some◌else◌then◌
    combined-second e f = rw (e, f)

    -- the operands and the result as the machine reads them back
    module _ {x y x' y' r r' : ℤ} (e : parse_c_number a ≡ some x) (f : parse_c_number b ≡ some y) (ex : x' ≡ x) (ey : y' ≡ y) (er : r' ≡ r) where
      pub combined-minus : minus ≡ true → r ≡ wrap (x' -ℤ y') → some r' ≡ combined minus a b
      unfolding combined let_some◌else◌then◌ when◌then◌else◌
      combined-minus g h = rw (e, f, g, er, h, ex, ey)

      pub combined-plus : minus ≡ false → r ≡ wrap (x' +ℤ y') → some r' ≡ combined minus a b
      unfolding combined let_some◌else◌then◌ when◌then◌else◌
      combined-plus g h = rw (e, f, g, er, h, ex, ey)

  -- a fold prints the combined value
  folds : (f : ℤ → ℤ → ℤ) (o p : Option ℤ)
      → value (let_some o else none then λ x. let_some p else none then λ y. some (wrap (f x y)))
      ≡ (let_some (let_some o else none then λ x. let_some p else none then λ y. some (token Number (show (wrap (f x y))))) else bytes "unread" then λ t. t.text)
  unfolding value let_some◌else◌then◌
  folds f none p = refl
  folds f (some x) none = refl
  folds f (some x) (some y) = refl

  pub sum_folds : value (combined false a b) ≡ fold_answer (bytes " + ") a b
  unfolding combined fold_answer folded read_number delim_before delim_after is ◌and◌ ◌or◌ when◌then◌else◌
  sum_folds = folds (λ x y. x +ℤ y) (parse_c_number a) (parse_c_number b)

  pub difference_folds : value (combined true a b) ≡ fold_answer (bytes " - ") a b
  unfolding combined fold_answer folded read_number delim_before delim_after is ◌and◌ ◌or◌ when◌then◌else◌
  difference_folds = folds (λ x y. x -ℤ y) (parse_c_number a) (parse_c_number b)

module _ {n : std.Option ℤ} where
  pub value_read : {v v' : ℤ} → n ≡ Some v → v' ≡ v → show v' ≡ value (option_of n)
  unfolding value let_some◌else◌then◌
  value_read e f = rw (e, f)

  pub value_unread : n ≡ None → bytes "unread" ≡ value (option_of n)
  unfolding value let_some◌else◌then◌
  value_unread e = rw e

-- ---- conventions, and yes or no

module _ (s : Text) where
  pub convention_0 : (s ≟ bytes "0") ≡ true → 0 ≡ convention s
  unfolding convention
  convention_0 e = sym (if-true _ _ e)

  module _ (n : (s ≟ bytes "0") ≡ false) where
    pub convention_1 : (s ≟ bytes "1") ≡ true → 1 ≡ convention s
    unfolding convention
    convention_1 e = sym (if-false _ _ n ∙ if-true _ _ e)

    pub convention_2 : (s ≟ bytes "1") ≡ false → 2 ≡ convention s
    unfolding convention
    convention_2 e = sym (if-false _ _ n ∙ if-false _ _ e)

pub says-yes : {b : Bool} → b ≡ true → bytes "yes" ≡ yes_no b
unfolding yes_no
says-yes e = sym (if-true _ _ e)

pub says_no : {b : Bool} → b ≡ false → bytes "no" ≡ yes_no b
unfolding yes_no
says_no e = sym (if-false _ _ e)

-- ---- which question a word asks

-- the answer that a question has
abbrev pub answer_of : Question → Text → Text → Text
answer_of question.Family a b = family_answer a
answer_of question.Number a b = value (parse_c_number a)
answer_of question.Sum a b = value (combined false a b)
answer_of question.Difference a b = value (combined true a b)
answer_of question.Volatile a b = yes_no (overwrites (convention a) b)
answer_of question.Constant a b = value (read_number 1 a)

module _ (word : Text) where
  module _ (a b : Text) where
    answers_by : (q : Question) → (word ≟ word_of q) ≡ true → answer_of q a b ≡ answer_to word a b
    unfolding answer_to when◌then◌else◌ ◌and◌
    answers_by question.Family e = rw (same_true word _ e)
    answers_by question.Number e = rw (same_true word _ e)
    answers_by question.Sum e = rw (same_true word _ e) (sum_folds a b)
    answers_by question.Difference e = rw (same_true word _ e) (difference_folds a b)
    answers_by question.Volatile e = rw (same_true word _ e)
    answers_by question.Constant e = rw (same_true word _ e)

  operands_by : (q : Question) → (word ≟ word_of q) ≡ true → one_operand q ≡ ((word ≟ bytes "family") or (word ≟ bytes "number") or (word ≟ bytes "constant"))
  unfolding ◌or◌ ◌and◌
  operands_by question.Family e = rw (same_true word _ e)
  operands_by question.Number e = rw (same_true word _ e)
  operands_by question.Sum e = rw (same_true word _ e)
  operands_by question.Difference e = rw (same_true word _ e)
  operands_by question.Volatile e = rw (same_true word _ e)
  operands_by question.Constant e = rw (same_true word _ e)

  module _ {r : std.Option Question} (h : Asks word r) where
    module _ (a b : Text) where
      pub answers_word : {q : Question} → r ≡ Some q → answer_of q a b ≡ answer_to word a b
      answers_word {q} e = answers_by a b q (rw e at h)

      pub answers_no_word : r ≡ None → bytes "no such question" ≡ answer_to word a b
      unfolding answer_to when◌then◌else◌
      answers_no_word e =
          let n : (q : Question) → (word ≟ word_of q) ≡ false = rw e at h in
          rw (n question.Family, n question.Number, n question.Sum, n question.Difference, n question.Volatile, n question.Constant)

    pub operands_word : {q : Question} → r ≡ Some q → one_operand q ≡ ((word ≟ bytes "family") or (word ≟ bytes "number") or (word ≟ bytes "constant"))
    operands_word {q} e = operands_by q (rw e at h)

    pub operands_no_word : r ≡ None → false ≡ ((word ≟ bytes "family") or (word ≟ bytes "number") or (word ≟ bytes "constant"))
    unfolding ◌or◌
    operands_no_word e =
        let n : (q : Question) → (word ≟ word_of q) ≡ false = rw e at h in
        rw (n question.Family, n question.Number, n question.Constant)

-- ---- the answer on a line: q, w and v are its question, and what stands behind the first word and the second

module _ (line : Text) {q w v : Text} (e : q ≡ before line 32) (f : w ≡ behind line 32) (g : v ≡ behind w 32) where
  second : v ≡ behind_words 2 line
  second = g ∙ ap (λ (t : Text). behind t 32) f

  -- where a call answered whether the question has one operand
  module _ {b : Bool} (o : b ≡ ((q ≟ bytes "family") or (q ≟ bytes "number") or (q ≟ bytes "constant"))) where
    pub expects-second : b ≡ true → v ≡ expected line
    unfolding expected
    expects-second h = second ∙ sym (if-true _ _ (rw e at (sym o ∙ h)))

    pub expects-third : b ≡ false → {u : Text} → u ≡ behind v 32 → u ≡ expected line
    unfolding expected
    expects-third h k = k ∙ ap (λ (t : Text). behind t 32) second ∙ sym (if-false _ _ (rw e at (sym o ∙ h)))

-- ---- a line's question: q, a and b are its first three words, w and v what stands behind the first and the second

module _ (line : Text) {w a : Text} (e : w ≡ behind line 32) (f : a ≡ before w 32) where
  pub operand_length : length a ≤ length line
  operand_length = omega (arith, ap length f, before-length 32 w, ap length e, behind-length 32 line)

  pub answers_line : {q v b : Text} → q ≡ before line 32 → v ≡ behind w 32 → b ≡ before v 32 → answer_to q a b ≡ answer line
  unfolding answer
  answers_line g h k = cc

-- ---- what stands at the front of the slice that was lent

module _ {out s out' : Text} {n : ℕ} (w : Written out 0 s out' n) where
  pub front_is : take n out' ≡ s
  front_is =
      let e : n ≡ length s = omega (arith, w.end_is) in
      rw (e, w.bytes_are, take-length) (take-append_seam s _)

  pub front_fits : n ≤ length out'
  front_fits = omega (arith, w.end_is, ap length front_is, length-take n out')

  -- what was said of it holds of the text
  pub compares : {t u : Text} {b : Bool} → t ≡ u → b ≡ (t ≟ take n out') → b ≡ (u ≟ s)
  compares e f = rw (e, front_is) at f

-- ---- the lines of an input, one by one

pub no_line : (s : Text) → length s ≡ 0 → (length (lines s) ≡ 0) × (differing s ≡ 0)
unfolding lines differing
no_line [] h = (refl, refl)
no_line (x ∷ xs) h = absurd (omega arith)

module _ (s : Text) (h : 0 < length s) {line rest : Text} (e : line ≡ before s 10) (f : rest ≡ behind s 10) where
  split : lines s ≡ line ∷ lines rest
  split = rw (e, f) (next_line s h)

  pub one_line : length (lines s) ≡ 1 + length (lines rest)
  one_line = ap length split ∙ omega arith

  module _ {b : Bool} (g : b ≡ (expected line ≟ answer line)) where
    line_agrees : b ≡ true → differing s ≡ differing rest
    unfolding differing not when◌then◌else◌
    line_agrees k = rw (split, sym g ∙ k)

    line_differs : b ≡ false → differing s ≡ 1 + differing rest
    unfolding differing not when◌then◌else◌
    line_differs k = rw (split, sym g ∙ k) (omega arith)

  -- the line in the counts
  pub line_counted : (b : Bool) → b ≡ (expected line ≟ answer line) → (n : Counts) → {m : Counts}
      → m ≡ (when b then record { calls = n.calls + 1; differ = n.differ } else record { calls = n.calls + 1; differ = n.differ + 1 })
      → m.differ + differing rest ≡ n.differ + differing s
  unfolding when◌then◌else◌
  line_counted true g n w = rw (ap (λ (m : Counts). m.differ) w, line_agrees g refl)
  line_counted false g n w = rw (ap (λ (m : Counts). m.differ) w, line_differs g refl) (omega arith)
