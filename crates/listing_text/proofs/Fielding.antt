-- What a field, a line and a text in the exact form read as: each turn of the code. Assumes nothing.
use Prim.Native.Nat.{ℕ, suc, ◌+◌, ◌≤◌, ◌<◌}
use native.Mathlib.Omega.{arith}
use native.Mathlib.Numerals.{add-one}
use mathlib.Core.Path.{◌≡◌, refl, sym, ap, ◌∙◌}
use mathlib.Core.Bool.{Bool, true, false, not, true≢false, false≢true}
use mathlib.Core.Logic.{by_cases}
use native.Mathlib.Decide.{dec_lt}
use lib.Seq.{take_all}
use mathlib.Core.List.{List, [], ◌∷◌, ◌++◌}
use mathlib.Core.Option.{Option, none, some}
use lib.Dec.{eqb, ltb}
use lib.ListN.{length, take, drop, get_or}
use borrow.Author.Tests.{eq-eqb, ne_eqb, lt-ltb, le-ltb}
use Rattle.reference.specs.Control.{when◌then◌else◌, let_some◌else◌then◌}
use Rattle.reference.specs.Lists.{position}
use Rattle.reference.specs.Text.{Text, bytes, ◌≟◌}
use Rattle.reference.specs.Tape.{Command, new_line, marked, write_command, write_command_by, to_le_bytes}
use Rattle.laws.proofs.Scans.{if-true, if-false}
use Rattle.words.specs.Numerals.{number_in}
use Rattle.listing_text.specs.Room.{laid, Page, page, puts, Adds, empty}
use Rattle.listing_text.specs.Forms.{letters}
use Rattle.listing_text.specs.Exact.{apart, address_in, indent_in, line_command, span_command, token_command, field_command}
use Rattle.listing_text.specs.Exact.{Read, nothing, then_read, fields_read, line_read, Tape, then_lines, lines_read, made_of, Makes}
use Rattle.listing_text.specs.Parsed.{read_of, Lies, lies, onto_page, Lays}
use Rattle.std.specs.Prelude.{Result, Ok, Err}
use Rattle.std.specs.Result.{OkIff, IsErr, is_err, result_ok}
use Rattle.listing_text.specs.declared.room.Clipped.{Clipped}
use Rattle.listing_text.specs.declared.fields.Malformed.{Malformed}
use Rattle.reference.specs.Options.{option_of}
use Rattle.listing_text.specs.declared.reading.Unmade.{Unmade}
use Rattle.listing_text.specs.declared.reading.Unmade.TheVariants.{Full, Wrong}
use Rattle.listing_text.proofs.Pages.{puts_append, all-put}
use Rattle.listing_text.proofs.Spelling.{tag, tag_some}

-- ---- the first two fields

module _ (f : Text) {x : Bool} (e : x ≡ (f ≟ bytes "-")) where
  pub address_missing : x ≡ true → some none ≡ address_in f
  unfolding address_in
  address_missing t = sym (if-true _ _ (sym e ∙ t))

  module _ (n : x ≡ false) where
    pub address_is : {v : ℕ} → some v ≡ number_in 16 f → some (some v) ≡ address_in f
    unfolding address_in let_some◌else◌then◌
    address_is i = sym (if-false _ _ (sym e ∙ n) ∙ rw (← i))

    pub address-wrong : none ≡ number_in 16 f → none ≡ address_in f
    unfolding address_in let_some◌else◌then◌
    address-wrong i = sym (if-false _ _ (sym e ∙ n) ∙ rw (← i))

module _ (i : Text) where
  pub indent_unread : none ≡ number_in 10 i → none ≡ indent_in i
  unfolding indent_in let_some◌else◌then◌
  indent_unread e = rw (← e)

  module _ {n : ℕ} (e : some n ≡ number_in 10 i) where
    pub indent_large : 255 < n → none ≡ indent_in i
    unfolding indent_in let_some◌else◌then◌ when◌then◌else◌
    indent_large h = rw (← e, lt-ltb 255 n h)

    pub indent_is : n ≤ 255 → some n ≡ indent_in i
    unfolding indent_in let_some◌else◌then◌ when◌then◌else◌
    indent_is h = rw (← e, le-ltb 255 n h)

pub indent-byte : {E : Type 0} (i : Text) {n : ℕ} (r : Result ℕ E) → some n ≡ number_in 10 i → OkIff r (n < 256) n → option_of (result_ok r) ≡ indent_in i
indent-byte i (Ok m) e h = let k : m ≤ 255 = omega (arith, h.0, h.1) in indent_is i (rw h.1 e) k
indent-byte i (Err x) e h = indent_large i e (omega (arith, h))

pub tag-byte : {E : Type 0} (l : ℕ) {kind : ℕ} (r : Result ℕ E) → some kind ≡ position (eqb l) letters → kind < 8 → OkIff r (16 + kind < 256) (16 + kind) → option_of (result_ok r) ≡ tag l
tag-byte l (Ok m) e k h = ap some h.1 ∙ tag_some l e
tag-byte l (Err x) e k h = absurd (h (omega arith))

module _ (a i : Text) where
  pub no_address : none ≡ address_in a → nothing false ≡ read_of (line_command a i)
  unfolding line_command let_some◌else◌then◌ read_of
  no_address e = rw (← e)

  module _ {address : Option ℕ} (f : some address ≡ address_in a) where
    pub no_indent : none ≡ indent_in i → nothing false ≡ read_of (line_command a i)
    unfolding line_command let_some◌else◌then◌ read_of
    no_indent e = rw (← f, ← e)

    pub line_known : {n : ℕ} → some n ≡ indent_in i → record { bytes = write_command (new_line address n); right = true } ≡ read_of (line_command a i)
    unfolding line_command let_some◌else◌then◌ read_of
    line_known e = rw (← f, ← e)

-- ---- the others

module _ (t : Text) where
  pub span_short : (length t ≡ 34 → ⊥) → nothing false ≡ read_of (span_command t)
  unfolding span_command read_of when◌then◌else◌
  span_short n = rw (ne_eqb (length t) 34 n)

  module _ (l : length t ≡ 34) {x : Bool} (e : x ≡ (take 2 (drop 16 t) ≟ bytes "..")) where
    pub span_undotted : x ≡ false → nothing false ≡ read_of (span_command t)
    unfolding span_command read_of when◌then◌else◌
    span_undotted n = rw (eq-eqb (length t) 34 l, sym e ∙ n)

    module _ (d : x ≡ true) where
      pub span_no_low : none ≡ number_in 16 (take 16 t) → nothing false ≡ read_of (span_command t)
      unfolding span_command read_of when◌then◌else◌ let_some◌else◌then◌
      span_no_low u = rw (eq-eqb (length t) 34 l, sym e ∙ d, ← u)

      module _ {low : ℕ} (u : some low ≡ number_in 16 (take 16 t)) where
        pub span_no_high : none ≡ number_in 16 (drop 18 t) → nothing false ≡ read_of (span_command t)
        unfolding span_command read_of when◌then◌else◌ let_some◌else◌then◌
        span_no_high v = rw (eq-eqb (length t) 34 l, sym e ∙ d, ← u, ← v)

        pub span_right : {high : ℕ} → some high ≡ number_in 16 (drop 18 t)
            → record { bytes = write_command (marked (record { lowest = low; highest = high })); right = true } ≡ read_of (span_command t)
        unfolding span_command read_of when◌then◌else◌ let_some◌else◌then◌
        span_right v = rw (eq-eqb (length t) 34 l, sym e ∙ d, ← u, ← v)

token-known : (l : ℕ) (t : Text) (k : ℕ) → position (eqb l) letters ≡ some k → length t ≤ 65535
    → record { bytes = (16 + k) ∷ to_le_bytes 2 (length t) ++ t; right = true } ≡ read_of (token_command l t)
unfolding token_command read_of let_some◌else◌then◌ when◌then◌else◌ write_command_by
token-known l t k e h = rw (e, le-ltb 65535 (length t) h)

module _ (l : ℕ) (t : Text) where
  pub token_unknown : none ≡ tag l → nothing false ≡ read_of (token_command l t)
  unfolding token_command read_of let_some◌else◌then◌
  token_unknown e = step (position (eqb l) letters) refl e
    where
      step : (o : Option ℕ) → position (eqb l) letters ≡ o → none ≡ (let_some o else none then λ kind. some (16 + kind)) → nothing false ≡ read_of (token_command l t)
      step none h e = rw h
      step (some k) h e = absurd cc

  module _ {r : ℕ} (e : some r ≡ tag l) where
    kind_of : (k : ℕ) × (position (eqb l) letters ≡ some k) × (r ≡ 16 + k)
    unfolding let_some◌else◌then◌
    kind_of = step (position (eqb l) letters) refl e
      where
        step : (o : Option ℕ) → position (eqb l) letters ≡ o → some r ≡ (let_some o else none then λ kind. some (16 + kind))
            → (k : ℕ) × (position (eqb l) letters ≡ some k) × (r ≡ 16 + k)
        step none h e = absurd cc
        step (some k) h e = (k, h, cc)

    pub token-long : 65535 < length t → nothing false ≡ read_of (token_command l t)
    unfolding token_command read_of let_some◌else◌then◌ when◌then◌else◌
    token-long h = rw (kind_of.1, lt-ltb 65535 (length t) h)

    pub token-right : length t ≤ 65535 → record { bytes = r ∷ to_le_bytes 2 (length t) ++ t; right = true } ≡ read_of (token_command l t)
    token-right h = (λ i. record { bytes = kind_of.2 i ∷ to_le_bytes 2 (length t) ++ t; right = true }) ∙ token-known l t kind_of.0 kind_of.1 h

module _ (f : Text) where
  pub field-short : length f < 2 → nothing false ≡ read_of (field_command f)
  unfolding field_command read_of when◌then◌else◌
  field-short h = rw (lt-ltb (length f) 2 h)

  module _ (h : 2 ≤ length f) where
    pub field_no_colon : (get_or f 1 0 ≡ 58 → ⊥) → nothing false ≡ read_of (field_command f)
    unfolding field_command read_of when◌then◌else◌
    field_no_colon n = rw (le-ltb (length f) 2 h, ne_eqb (get_or f 1 0) 58 n)

    module _ (c : get_or f 1 0 ≡ 58) where
      pub field-marks : get_or f 0 0 ≡ 109 → span_command (drop 2 f) ≡ field_command f
      unfolding field_command when◌then◌else◌
      field-marks m = rw (le-ltb (length f) 2 h, eq-eqb (get_or f 1 0) 58 c, eq-eqb (get_or f 0 0) 109 m)

      pub field-token : (get_or f 0 0 ≡ 109 → ⊥) → token_command (get_or f 0 0) (drop 2 f) ≡ field_command f
      unfolding field_command when◌then◌else◌
      field-token m = rw (le-ltb (length f) 2 h, eq-eqb (get_or f 1 0) 58 c, ne_eqb (get_or f 0 0) 109 m)

-- ---- put onto a page

pub lays_right : {g g₁ : Page} {b : List ℕ} → Adds g b g₁ → Lays g (record { bytes = b; right = true }) (record { where_to = g₁; right = true })
unfolding onto_page
lays_right a = record { same = λ i. record { where_to = a.same i; right = true } }

pub lays_nothing : {g : Page} {x : Bool} → Lays g (nothing x) (record { where_to = g; right = x })
unfolding onto_page puts
lays_nothing = record { same = refl }

pub lies_wrong : (p : Clipped) (r : Result (Unit {0}) Malformed) → IsErr r → lies p r ≡ record { where_to = page p; right = false }
lies_wrong p (Ok u) h = absurd (false≢true h)
lies_wrong p (Err e) h = refl

pub lies_by : (p : Clipped) (r : Result (Unit {0}) Malformed) {b : Bool} → is_err r ≡ b → lies p r ≡ record { where_to = page p; right = not b }
lies_by p (Ok u) h = ap (λ (b : Bool). record { where_to = page p; right = not b }) h
lies_by p (Err e) h = ap (λ (b : Bool). record { where_to = page p; right = not b }) h

-- a command, and what is read behind it
module _ (g : Page) (o : Option Command) {l : Lies} (a : Lays g (read_of o) l) (rest : Read) where
  pub read-wrong : l.right ≡ false → l ≡ onto_page g (then_read o rest)
  unfolding read_of then_read onto_page
  read-wrong = step o a
    where
      step : (o : Option Command) → Lays g (read_of o) l → l.right ≡ false → l ≡ onto_page g (then_read o rest)
      step none a f = a.same
      step (some c) a f = absurd (true≢false (sym (ap (λ (k : Lies). k.right) a.same) ∙ f))

  pub read-on : l.right ≡ true → onto_page l.where_to rest ≡ onto_page g (then_read o rest)
  unfolding read_of then_read onto_page
  read-on = step o a
    where
      step : (o : Option Command) → Lays g (read_of o) l → l.right ≡ true → onto_page l.where_to rest ≡ onto_page g (then_read o rest)
      step none a f = absurd (true≢false (sym f ∙ ap (λ (k : Lies). k.right) a.same))
      step (some c) a f =
          let e : l.where_to ≡ puts g (write_command c) = ap (λ (k : Lies). k.where_to) a.same in
          λ i. record { where_to = (ap (λ (h : Page). puts h rest.bytes) e ∙ sym (puts_append g (write_command c) rest.bytes)) i; right = rest.right }

-- ---- the fields of a line

module _ (g : Page) (f : Text) {l : Lies} (a : Lays g (read_of (field_command f)) l) (fs : List Text) where
  pub field-wrong : l.right ≡ false → l ≡ onto_page g (fields_read (f ∷ fs))
  unfolding fields_read
  field-wrong e = read-wrong g _ a (fields_read fs) e

  pub field-right : l.right ≡ true → onto_page l.where_to (fields_read fs) ≡ onto_page g (fields_read (f ∷ fs))
  unfolding fields_read
  field-right e = read-on g _ a (fields_read fs) e

pub fields_done : (g : Page) → record { where_to = g; right = true } ≡ onto_page g (fields_read [])
unfolding fields_read onto_page puts
fields_done g = refl

module _ (g : Page) where
  pub no_fields : (fs : List Text) → length fs ≤ 1 → record { where_to = g; right = false } ≡ onto_page g (line_read fs)
  unfolding line_read onto_page puts
  no_fields [] h = refl
  no_fields (a ∷ []) h = refl
  no_fields (a ∷ i ∷ fs) h = absurd (omega arith)

  module _ (a i : Text) {l : Lies} (laid-head : Lays g (read_of (line_command a i)) l) (fs : List Text) where
    pub head_wrong : l.right ≡ false → l ≡ onto_page g (line_read (a ∷ i ∷ fs))
    unfolding line_read
    head_wrong e = read-wrong g _ laid-head (fields_read fs) e

    pub head_right : l.right ≡ true → onto_page l.where_to (fields_read fs) ≡ onto_page g (line_read (a ∷ i ∷ fs))
    unfolding line_read
    head_right e = read-on g _ laid-head (fields_read fs) e

-- ---- the whole text

-- what is read put onto a page, and the first wrong line
pub record Ending : Type 0 where
  pub where_to : Page
  pub wrong : Option ℕ

unfoldable pub ending : Page → Tape → Ending
ending g t = record { where_to = puts g t.bytes; wrong = t.wrong }

module _ (g : Page) (n : ℕ) (line : Text) (ls : List Text) {l : Lies} (a : Lays g (line_read (apart 9 line)) l) where
  pub line_wrong : l.right ≡ false → record { where_to = l.where_to; wrong = some n } ≡ ending g (lines_read n (line ∷ ls))
  unfolding ending lines_read then_lines when◌then◌else◌ onto_page
  line_wrong f =
      let right : (line_read (apart 9 line)).right ≡ false = sym (ap (λ (k : Lies). k.right) a.same) ∙ f in
      rw right (λ i. record { where_to = (a.same i).where_to; wrong = some n })

  pub line_right : l.right ≡ true → ending l.where_to (lines_read (n + 1) ls) ≡ ending g (lines_read n (line ∷ ls))
  unfolding ending lines_read then_lines when◌then◌else◌ onto_page
  line_right f =
      let r : Read = line_read (apart 9 line) in
      let right : r.right ≡ true = sym (ap (λ (k : Lies). k.right) a.same) ∙ f in
      let rest : Tape = lines_read (suc n) ls in
      rw (right, add-one n)
      (λ i. record { where_to = (ap (λ (k : Lies). puts k.where_to rest.bytes) a.same ∙ sym (puts_append g r.bytes rest.bytes)) i; wrong = rest.wrong })

-- the answer where all is put
abbrev made_on : Page → Result ℕ Unmade
made_on g = when g.cut then Err Full else Ok g.at

-- what fits has its own length
all-fits : (room : ℕ) (b : List ℕ)
    → (when ltb room (length b) then Err Full else Ok (length (take room b))) ≡ (when ltb room (length b) then Err Full else Ok (length b))
all-fits room b =
    by_cases (dec_lt room (length b)) (λ h. if-true _ _ (lt-ltb room (length b) h) ∙ sym (if-true _ _ (lt-ltb room (length b) h)))
    (λ h.
    if-false _ _ (le-ltb room (length b) (omega arith)) ∙ ap (λ (s : List ℕ). Ok (length s)) (take_all room b (omega arith))
    ∙ sym (if-false _ _ (le-ltb room (length b) (omega arith))))

module _ (out : List ℕ) (t : Tape) where
  pub made-wrong : {g : Page} {n : ℕ} {out' : List ℕ} → record { where_to = g; wrong = some n } ≡ ending (empty out) t → out' ≡ g.bytes
      → Makes t out out' (Err (Wrong n))
  unfolding ending made_of let_some◌else◌then◌
  made-wrong e f =
      let w : some _ ≡ t.wrong = ap (λ (k : Ending). k.wrong) e in
      record {
        bytes_are = f ∙ ap (λ (k : Ending). k.where_to.bytes) e ∙ ap (λ (k : Page). k.bytes) (all-put out t.bytes);
        answer_is = rw (← w);
      }

  pub made-right : {g : Page} {out' : List ℕ} {r : Result ℕ Unmade} → record { where_to = g; wrong = none } ≡ ending (empty out) t → out' ≡ g.bytes → r ≡ made_on g
      → Makes t out out' r
  unfolding ending made_of let_some◌else◌then◌
  made-right {g} e f m =
      let w : none ≡ t.wrong = ap (λ (k : Ending). k.wrong) e in
      let k : g ≡ puts (empty out) t.bytes = ap (λ (k : Ending). k.where_to) e in
      let all : g ≡ record { bytes = laid out t.bytes; at = length (take (length out) t.bytes); cut = ltb (length out) (length t.bytes) } =
      k ∙ all-put out t.bytes in
      record {
        bytes_are = f ∙ ap (λ (k : Page). k.bytes) all;
        answer_is = m ∙ ap made_on all ∙ all-fits (length out) t.bytes ∙ rw (← w);
      }

-- the end is put behind the last line
module _ (out : List ℕ) (t : Tape) (g : Page) (n : ℕ) {g₁ : Page} {out' : List ℕ} (a : Adds g (255 ∷ []) g₁) (told : ending g (lines_read n []) ≡ ending (empty out) t) (same : out' ≡ g₁.bytes) where
  end_put : record { where_to = g₁; wrong = none } ≡ ending (empty out) t
  unfolding ending lines_read write_command_by puts
  end_put = (λ i. record { where_to = a.same i; wrong = none }) ∙ told

  pub made_cut : g₁.cut ≡ true → Makes t out out' (Err Full)
  made_cut c = made-right out t end_put same (sym (if-true _ _ c))

  pub made_whole : g₁.cut ≡ false → Makes t out out' (Ok g₁.at)
  made_whole c = made-right out t end_put same (sym (if-false _ _ c))
