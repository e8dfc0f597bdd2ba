-- What each answer of the functions that ask 12 and 13 says; and the leftmost place, as the loop over the commands finds it. Assumes nothing.
use Prim.Native.Nat.{ℕ}
use mathlib.Core.Path.{◌≡◌, refl, sym, ap, ◌∙◌}
use mathlib.Core.Bool.{Bool, true, false}
use mathlib.Core.List.{List, ◌++◌}
use lib.ListN.{drop}
use lib.IntN.{ℤ}
use Rattle.std.proofs.Common.{Bor}
use Rattle.std.specs.Prelude as Std
use Rattle.std.specs.Prelude.{Some, None}
use Rattle.std.specs.Option as std
use Rattle.reference.specs.Options.{option_of}
use borrow.Author.Tests.{ne_eqb}
use Rattle.reference.specs.Control.{not, ◌and◌, ◌or◌, when◌then◌else◌, let_some◌else◌then◌}
use Rattle.reference.specs.Text.{Text, bytes, starts_with, has, ◌≟◌, strip_prefix}
use Rattle.reference.specs.Numbers.{read_number}
use Rattle.reference.specs.Listing.{Token, token, is, Listing}
use Rattle.reference.specs.Tape as Tape
use Rattle.reference.specs.Questions.{Passed, read}
use Rattle.reference.proofs.LittleEndian.{Bytes}
use Rattle.reference.proofs.Numerals.{no_prefix}
use Rattle.laws.proofs.Scans.{any_append}
use Rattle.books.proofs.Grammar2024.{begins}
use Rattle.tape.specs.Held.{places, first_where}
use Rattle.tape.specs.Walk.{event_shown}
use Rattle.tape.specs.declared.walk.Event.{Event}
use Rattle.tape.specs.declared.walk.Event.TheVariants.{Line, Marks, Token as NewToken}
use Rattle.tape.proofs.walk.Places.{search-finds}
use Rattle.editions.specs.Numbers.{begins_binary, is_newer, has_no_older, new_keywords}
use Rattle.editions.specs.Conversion.{earns_12, earns_13, of_command, first_place}
use Rattle.editions.specs.Asking.{keywords_1, keywords_2, keywords_3, earns, leftmost}

-- ---- texts

pub by_rows : (s : Text) → has new_keywords s ≡ (has keywords_1 s or (has keywords_2 s or has keywords_3 s))
by_rows s =
    any_append (◌≟ s) keywords_1 (keywords_2 ++ keywords_3)
    ∙ ap (λ (b : Bool). has keywords_1 s or b) (any_append (◌≟ s) keywords_2 keywords_3)

behind-minus : (r : Text) → begins_binary (bytes "-" ++ r) ≡ (starts_with r (bytes "0b") or starts_with r (bytes "0B"))
unfolding begins_binary let_some◌else◌then◌ strip_prefix when◌then◌else◌ ◌and◌
behind-minus r = refl

module _ (s : Text) {m : Bool} (e : m ≡ starts_with s (bytes "-")) where
  pub binary-plain : {x : Bool} → m ≡ false → x ≡ (starts_with s (bytes "0b") or starts_with s (bytes "0B")) → x ≡ begins_binary s
  unfolding begins_binary let_some◌else◌then◌
  binary-plain f u = u ∙ sym (rw (no_prefix (bytes "-") s (sym e ∙ f)) refl)

  pub binary-minus : {x : Bool} {r : Text} → m ≡ true → r ≡ drop 1 s → x ≡ (starts_with r (bytes "0b") or starts_with r (bytes "0B"))
      → x ≡ begins_binary s
  binary-minus {r = r} t d u =
      let whole : s ≡ bytes "-" ++ r = begins s (bytes "-") (sym e ∙ t) ∙ ap (bytes "-" ++◌) (sym d) in
      u ∙ sym (ap begins_binary whole ∙ behind-minus r)

module _ (s : Text) {x : Bool} (e : x ≡ is_newer s) where
  pub older : x ≡ false → false ≡ has_no_older s
  unfolding has_no_older ◌and◌
  older f = rw (sym e ∙ f) refl

  -- a text that is newer has no older form just where it is not read
  pub unread-newer : {y : Bool} → x ≡ true → (o : Std.Option ℤ) → option_of o ≡ read_number 1 s → std.is_some o ≡ Std.not y → y ≡ has_no_older s
  unfolding has_no_older ◌and◌ not
  unread-newer {y = true} t None u v = rw (sym e ∙ t, ← u) refl
  unread-newer {y = false} t None u v = cc
  unread-newer {y = true} t (Some z) u v = cc
  unread-newer {y = false} t (Some z) u v = rw (sym e ∙ t, ← u) refl

-- ---- tokens

module _ (kind : ℕ) (s : Text) {up : Bool} where
  pub up-other : up ≡ true → (kind ≡ 4 → ⊥) → false ≡ earns up (token kind s)
  unfolding earns_12 is ◌and◌
  up-other t n = rw (t, ne_eqb kind 4 n) refl

  pub up-symbol : {x : Bool} → up ≡ true → kind ≡ 4 → x ≡ has new_keywords s → x ≡ earns up (token kind s)
  unfolding earns_12 is ◌and◌
  up-symbol t k e = rw (t, k) e

  pub down-other : up ≡ false → (kind ≡ 2 → ⊥) → false ≡ earns up (token kind s)
  unfolding earns_13 is ◌and◌
  down-other f n = rw (f, ne_eqb kind 2 n) refl

  pub down_number : {x : Bool} → up ≡ false → kind ≡ 2 → x ≡ has_no_older s → x ≡ earns up (token kind s)
  unfolding earns_13 is ◌and◌
  down_number f k e = rw (f, k) e

-- ---- commands

pub no_token : (p : Token → Bool) (e : Event) → ((kind : ℕ) (text : Bor Text) → e ≡ NewToken kind text → ⊥) → false ≡ of_command p (event_shown e)
unfolding of_command
no_token p (Line address indent) n = refl
no_token p (Marks low high) n = refl
no_token p (NewToken kind text) n = absurd (n kind text refl)

-- ---- the whole tape

-- 12 going up, 13 going down
abbrev pub earning : Bool → Tape.Command → Bool
earning up = of_command (earns up)

no_end : (up : Bool) → earning up Tape.end ≡ false
unfolding of_command
no_end up = refl

-- ON AN ACCEPTED TAPE THE LEFTMOST IS THE FIRST PLACE WHOSE COMMAND EARNS IT
pub leftmost_is : (up : Bool) (tape : List ℕ) (lines : Listing) → Bytes tape → read tape ≡ Passed lines
    → leftmost up tape ≡ first_where (earning up) (places tape)
unfolding first_place
leftmost_is up tape lines b reads =
    search-finds Tape.old (earning up) tape (λ fuel at. first_place (earning up) fuel tape at) (λ fuel at. refl) (no_end up) lines b reads
