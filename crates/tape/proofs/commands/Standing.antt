-- What stands at an offset, by its first byte; and what is known of a command that stands there. Assumes nothing.
use Prim.Native.Nat.{ℕ, ◌+◌, ◌-◌, ◌<◌, ◌≤◌}
use native.Mathlib.Nat.{add-zero}
use native.Mathlib.Omega.{arith}
use mathlib.Core.Path.{◌≡◌, sym, ap, ◌∙◌}
use mathlib.Core.List.{List, [], ◌∷◌}
use mathlib.Core.Option.{none, some}
use lib.ListN.{length, get_or, take, drop, length-drop, drop_of_length-le}
use lib.Seq.{get_or-drop, drop-drop}
use borrow.Author.Tests.{leb-true, le-leb, lt-leb}
use Rattle.reference.specs.Listing.{token}
use Rattle.reference.specs.Tape.{from_le_bytes, TapeForm, old, line_byte, marks_byte, width, new_line, marked, new_token, end, command_size_by, command_by}
use Rattle.reference.specs.Questions.{is_command_by, ends_inside_by, Refused, Passed}
use Rattle.reference.proofs.Cases.{fails}
use Rattle.reference.proofs.Commands.{FormBy, is_address, is_plain, is_marks, is_token, is_ending, form_of, is_form, address_form_by, plain_form_by, marks_form_by, token_form_by, end_form_by}
use Rattle.reference.proofs.Reading.{ask-yes, ask_no, ask_passed, passed_inj, size_positive}
use Rattle.tape.specs.Commands.{command_in, size_of_by, Sized, found_in_by, standing_by}
use Rattle.tape.specs.declared.commands.Command.{Command}
use Rattle.std.specs.Prelude.{Ok}

module _ (form : TapeForm) (tape : List ℕ) (at : ℕ) where
  -- the command's bytes and what follows them
  abbrev pub here : List ℕ
  here = drop at tape

  head : get_or here 0 0 ≡ get_or tape at 0
  head = get_or-drop at tape 0 0 ∙ ap (λ (i : ℕ). get_or tape i 0) (add-zero at)

  -- ---- the answers

  pub no_byte : length tape ≤ at → Refused 3 at ≡ standing_by form tape at
  unfolding standing_by is_command_by
  no_byte h = sym (ask_no _ [] _ _ _ tt (rw (drop_of_length-le tape h)))

  unknown : (FormBy form here → ⊥) → Refused 3 at ≡ standing_by form tape at
  unfolding standing_by
  unknown n = sym (ask_no _ [] _ _ _ tt (fails (λ e. n (form_of here e))))

  cut_off : FormBy form here → length tape - at < command_size_by form here → Refused 4 at ≡ standing_by form tape at
  unfolding standing_by ends_inside_by
  cut_off f h =
      sym
      (ask_no _ ((3, is_command_by form here) ∷ []) (4, ends_inside_by form here) [] _ (is_form here f, tt) (lt-leb (command_size_by form here) (length here) (rw length-drop h)))

  whole : FormBy form here → command_size_by form here ≤ length tape - at → Passed (command_by form here, command_size_by form here) ≡ standing_by form tape at
  unfolding standing_by ends_inside_by
  whole f h = sym (ask-yes _ _ _ (is_form here f, (le-leb (command_size_by form here) (length here) (rw length-drop h), tt)))

  -- ---- by the first byte

  pub no_command : (get_or tape at 0 ≡ line_byte form → ⊥) → (get_or tape at 0 ≡ 0x02 → ⊥) → (get_or tape at 0 ≡ marks_byte form → ⊥) → (get_or tape at 0 ≡ 0xFF → ⊥)
      → (0x10 ≤ get_or tape at 0 → get_or tape at 0 ≤ 0x17 → ⊥) → Refused 3 at ≡ standing_by form tape at
  no_command n₁ n₂ n₃ n₄ n₅ = unknown none_of
    where
      none_of : FormBy form here → ⊥
      none_of (is_address e) = n₁ (sym head ∙ e)
      none_of (is_plain e) = n₂ (sym head ∙ e)
      none_of (is_marks e) = n₃ (sym head ∙ e)
      none_of (is_token low high) = n₅ (rw (← head) low) (rw (← head) high)
      none_of (is_ending e) = n₄ (sym head ∙ e)

  pub ending : at < length tape → get_or tape at 0 ≡ 0xFF → Passed (end, 1) ≡ standing_by form tape at
  ending h e =
      let f = end_form_by form here (head ∙ e) in
      let w = whole (is_ending (head ∙ e)) (omega (arith, f.0)) in
      rw (f.0, f.1) at w

  module _ (e : get_or tape at 0 ≡ line_byte form) where
    pub addressed-cut : length tape - at < 2 + width form → Refused 4 at ≡ standing_by form tape at
    addressed-cut h = cut_off (is_address (head ∙ e)) (omega (arith, (address_form_by form here (head ∙ e)).0))

    pub addressed-whole : {address indent : ℕ} → 2 + width form ≤ length tape - at → address ≡ from_le_bytes (take (width form) (drop (at + 1) tape))
        → indent ≡ get_or tape (at + (1 + width form)) 0 → Passed (new_line (some address) indent, 2 + width form) ≡ standing_by form tape at
    addressed-whole h ea ei =
        let f = address_form_by form here (head ∙ e) in
        let w = whole (is_address (head ∙ e)) (omega (arith, f.0)) in
        rw (ea, ei) (rw (f.0, f.1, drop-drop 1 at tape, get_or-drop at tape (1 + width form) 0) at w)

  module _ (e : get_or tape at 0 ≡ 0x02) where
    pub plain-cut : length tape - at < 2 → Refused 4 at ≡ standing_by form tape at
    plain-cut h = cut_off (is_plain (head ∙ e)) (omega (arith, (plain_form_by form here (head ∙ e)).0))

    pub plain-whole : {indent : ℕ} → 2 ≤ length tape - at → indent ≡ get_or tape (at + 1) 0 → Passed (new_line none indent, 2) ≡ standing_by form tape at
    plain-whole h ei =
        let f = plain_form_by form here (head ∙ e) in
        let w = whole (is_plain (head ∙ e)) (omega (arith, f.0)) in
        rw ei (rw (f.0, f.1, get_or-drop at tape 1 0) at w)

  module _ (e : get_or tape at 0 ≡ marks_byte form) where
    pub marked-cut : length tape - at < 1 + width form + width form → Refused 4 at ≡ standing_by form tape at
    marked-cut h = cut_off (is_marks (head ∙ e)) (omega (arith, (marks_form_by form here (head ∙ e)).0))

    pub marked-whole : {low high : ℕ} → 1 + width form + width form ≤ length tape - at → low ≡ from_le_bytes (take (width form) (drop (at + 1) tape))
        → high ≡ from_le_bytes (take (width form) (drop (at + (1 + width form)) tape))
        → Passed (marked (record { lowest = low; highest = high }), 1 + width form + width form) ≡ standing_by form tape at
    marked-whole h el eh =
        let f = marks_form_by form here (head ∙ e) in
        let w = whole (is_marks (head ∙ e)) (omega (arith, f.0)) in
        rw (el, eh) (rw (f.0, f.1, drop-drop 1 at tape, drop-drop (1 + width form) at tape) at w)

  module _ (low : 0x10 ≤ get_or tape at 0) (high : get_or tape at 0 ≤ 0x17) where
    low' : 0x10 ≤ get_or here 0 0
    low' = rw head low

    high' : get_or here 0 0 ≤ 0x17
    high' = rw head high

    size_at : command_size_by form here ≡ 3 + from_le_bytes (take 2 (drop (at + 1) tape))
    size_at = (token_form_by form here low' high').0 ∙ rw (drop-drop 1 at tape)

    pub token-short : length tape - at < 3 → Refused 4 at ≡ standing_by form tape at
    token-short h = cut_off (is_token low' high') (omega (arith, size_at))

    pub token-cut : {count : ℕ} → count ≡ from_le_bytes (take 2 (drop (at + 1) tape)) → length tape - at - 3 < count → Refused 4 at ≡ standing_by form tape at
    token-cut e h = cut_off (is_token low' high') (omega (arith, size_at))

    pub token-whole : {kind count : ℕ} → count ≡ from_le_bytes (take 2 (drop (at + 1) tape)) → kind ≡ get_or tape at 0 - 16 → 3 ≤ length tape - at
        → count ≤ length tape - at - 3 → Passed (new_token (token kind (take count (drop (at + 3) tape))), 3 + count) ≡ standing_by form tape at
    token-whole ec ek h k =
        let f = token_form_by form here low' high' in
        let w = whole (is_token low' high') (omega (arith, size_at)) in
        rw (ec, ek) (rw (f.0, f.1, drop-drop 1 at tape, drop-drop 3 at tape, head) at w)

-- ---- a command that stands at an offset

pub record StandsBy (form : TapeForm) (tape : List ℕ) (at : ℕ) (c : Command) : Type 0 where
  pub known : FormBy form (drop at tape)
  pub inside : command_size_by form (drop at tape) ≤ length (drop at tape)
  pub same : command_in tape at c ≡ command_by form (drop at tape)
  pub size : size_of_by form c ≡ command_size_by form (drop at tape)

abbrev pub Stands : List ℕ → ℕ → Command → Type 0
Stands = StandsBy old

module _ (form : TapeForm) {tape : List ℕ} {at : ℕ} where
  pub stands_by : {c : Command} → found_in_by form tape at (Ok c) ≡ standing_by form tape at → StandsBy form tape at c
  unfolding standing_by ends_inside_by
  stands_by {c} e =
      let r = ask_passed _ _ _ _ (sym e) in
      let p = passed_inj r.1 in
      record {
        known = form_of _ r.0.0;
        inside = leb-true _ _ r.0.1.0;
        same = sym (ap (λ (x : Sized). x.0) p);
        size = sym (ap (λ (x : Sized). x.1) p);
      }

module _ {form : TapeForm} {tape : List ℕ} {at : ℕ} where
  -- and back
  pub found_by : {c : Command} → StandsBy form tape at c → found_in_by form tape at (Ok c) ≡ standing_by form tape at
  found_by s = (λ i. Passed (s.same i, s.size i)) ∙ whole form tape at s.known (rw length-drop at s.inside)

  pub stands-inside : {c : Command} → StandsBy form tape at c → (1 ≤ size_of_by form c) × (at + size_of_by form c ≤ length tape)
  stands-inside s =
      let positive = size_positive (drop at tape) s.known in
      let inside = rw length-drop at s.inside in
      let size = s.size in
      omega arith

pub stands : {tape : List ℕ} {at : ℕ} {c : Command} → found_in_by old tape at (Ok c) ≡ standing_by old tape at → Stands tape at c
stands = stands_by old
