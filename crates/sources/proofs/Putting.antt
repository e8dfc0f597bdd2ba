-- The loop that writes the copy: what its commands come to as bytes (`all_copied`), and that there is room. Assumes nothing.
use Prim.Native.Nat.{ℕ, zero, suc, ◌+◌, ◌≤◌, ◌<◌}
use native.Mathlib.Omega.{arith}
use mathlib.Core.Path.{◌≡◌, refl, sym, ap, ◌∙◌}
use mathlib.Core.Bool.{Bool, true, false}
use mathlib.Core.List.{List, [], ◌∷◌, ◌++◌, map, flat_map, append_assoc}
use mathlib.Core.Option.{none, some}
use lib.Dec.{eqb}
use lib.ListN.{length, get_or, drop}
use borrow.Author.Tests.{eq-eqb, ne_eqb}
use Rattle.std.specs.Bool.{then_some}
use Rattle.reference.specs.Control.{when◌then◌else◌}
use Rattle.reference.specs.Options.{option_of}
use Rattle.reference.specs.Listing.{Token, Line, Listing}
use Rattle.reference.specs.Spans.{Marks}
use Rattle.reference.specs.Tape.{old, Command, new_line, new_token, end, write_command, write_by}
use Rattle.reference.specs.Questions.{Passed, read, marks_in}
use Rattle.reference.proofs.LittleEndian.{Bytes}
use Rattle.reference.proofs.Tapes.{read-limits}
use Rattle.tape.specs.Held.{commands, marks_put, line_put, lines_put}
use Rattle.tape.proofs.walk.Written.{lines_written}
use Rattle.tape.proofs.walk.Accepted.{accepted-commands}
use Rattle.joining.specs.Bare.{bare_lines}
use Rattle.sources.specs.Only.{only, only_tape}
use Rattle.sources.specs.Calls.{lines_after, address_for, copied}
use Rattle.sources.proofs.Copied.{copy-long}

-- the address that the code gives a line
pub picked-address : (picked : Bool) → option_of (then_some picked 0) ≡ address_for picked
unfolding when◌then◌else◌
picked-address true = refl
picked-address false = refl

-- ---- the bytes of a listing's commands in the copy

module _ (k : ℕ) where
  -- commands in the copy, n lines having begun before them, and FF
  abbrev pub all_copied : ℕ → List Command → List ℕ
  all_copied n [] = write_command end
  all_copied n (c ∷ cs) = copied (eqb n k) c ++ all_copied (lines_after c n) cs

  -- they are the bytes of these commands, and FF
  abbrev Same : ℕ → List Command → List Command → Type 0
  Same n cs ds = all_copied n cs ≡ flat_map write_command ds ++ write_command end

  module _ (n : ℕ) (cs ds : List Command) (e : Same n cs ds) where
    tokens_same : (ts : List Token) → Same n (map new_token ts ++ cs) (map new_token ts ++ ds)
    unfolding copied flat_map
    tokens_same [] = e
    tokens_same (t ∷ ts) =
        ap (λ (r : List ℕ). write_command (new_token t) ++ r) (tokens_same ts)
        ∙ sym (append_assoc (write_command (new_token t)) (flat_map write_command (map new_token ts ++ ds)) (write_command end))

    marks_gone : (m : Marks) (ts : List Token) → Same n ((marks_put m ++ map new_token ts) ++ cs) (map new_token ts ++ ds)
    unfolding copied
    marks_gone none ts = tokens_same ts
    marks_gone (some s) ts = tokens_same ts

  line_same : (n : ℕ) (l : Line) (m : Marks) (cs ds : List Command) (picked : Bool) → eqb n k ≡ picked → Same (n + 1) cs ds
      → Same n (line_put l m ++ cs) (line_put (record { address = address_for picked; indent = l.indent; tokens = l.tokens }) none ++ ds)
  unfolding copied flat_map
  line_same n l m cs ds picked h e =
      let first : List ℕ = write_command (new_line (address_for picked) l.indent) in
      rw h
      (ap (λ (r : List ℕ). first ++ r) (marks_gone (n + 1) cs ds e m l.tokens)
      ∙ sym (append_assoc first (flat_map write_command (map new_token l.tokens ++ ds)) (write_command end)))

  -- behind line k
  lines_bare : (n : ℕ) (lines : Listing) (marks : List Marks) → k < n → Same n (lines_put lines marks) (lines_put (bare_lines lines) [])
  unfolding lines_put flat_map when◌then◌else◌
  lines_bare n [] marks h = refl
  lines_bare n (l ∷ ls) marks h =
      line_same n l (get_or marks 0 none) _ _ false (ne_eqb n k (λ z. omega arith)) (lines_bare (n + 1) ls (drop 1 marks) (omega arith))

  -- j lines before it
  lines_same : (n j : ℕ) (lines : Listing) (marks : List Marks) → n + j ≡ k → Same n (lines_put lines marks) (lines_put (only j lines) [])
  unfolding lines_put flat_map only when◌then◌else◌
  lines_same n j [] marks h = refl
  lines_same n zero (l ∷ ls) marks h =
      line_same n l (get_or marks 0 none) _ _ true (eq-eqb n k (omega arith)) (lines_bare (n + 1) ls (drop 1 marks) (omega arith))
  lines_same n (suc j) (l ∷ ls) marks h =
      line_same n l (get_or marks 0 none) _ _ false (ne_eqb n k (λ z. omega arith)) (lines_same (n + 1) j ls (drop 1 marks) (omega arith))

  -- ---- the whole

  module _ (tape : List ℕ) (lines : Listing) (b : Bytes tape) (reads : read tape ≡ Passed lines) where
    -- THE COMMANDS OF AN ACCEPTED TAPE COME TO THE COPY'S TAPE
    pub all_is : all_copied 0 (commands tape) ≡ only_tape k lines
    unfolding only_tape write_by
    all_is =
        ap (all_copied 0) (accepted-commands old tape lines b reads)
        ∙ lines_same 0 k lines (marks_in tape) (omega arith)
        ∙ ap (λ (r : List ℕ). r ++ write_command end) (lines_written old (only k lines) [])

    pub all_fits : length (all_copied 0 (commands tape)) ≤ 34561
    unfolding only_tape
    all_fits = omega (arith, copy-long k lines [] (read-limits tape lines reads), ap length all_is)
