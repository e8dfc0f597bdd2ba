-- The tables command by command: what they mean with a line or a token more. Assumes nothing.
use Prim.Native.Nat.{ℕ, suc, ◌+◌, ◌-◌, ◌≤◌, ◌<◌}
use native.Mathlib.Omega.{arith}
use native.Mathlib.Numerals.{add-one}
use mathlib.Core.Path.{◌≡◌, refl, sym, ap, ◌∙◌}
use mathlib.Core.Bool.{true, false}
use mathlib.Core.List.{List, [], ◌∷◌, ◌++◌, map, map-append}
use mathlib.Core.Option.{Option, none, some}
use lib.Dec.{eqb}
use lib.ListN.{length, take, drop, get_or, set, length-drop, length-append}
use lib.Seq.{take-suc, take-suc-set, take-set-le, take_all, take-take, drop-append-le, length-take-le, get_or-set_same, get_or-set_other, get_or-take}
use Rattle.reference.specs.Control.{when◌then◌else◌}
use Rattle.reference.specs.Text.{Text}
use Rattle.reference.specs.Listing.{Token, token, Line, Listing, with_tokens}
use Rattle.reference.specs.Tape.{new_line, new_token}
use Rattle.reference.specs.Questions as Q
use Rattle.reference.proofs.Writing.{with_token, add-last}
use Rattle.laws.proofs.Parts.{part-below}
use Rattle.lines.specs.Words.{word, token_of, tokens_of, Holds}
use Rattle.lines.specs.Lines.{first_of, count_of, indent_of, addressed_of, origin_of, facts_of, with_part, part_of, address_in, line_in, listing_of}
use Rattle.lines.proofs.words.Each.{Each, each_none, each_one, each_take, each_append, map_same}
use Rattle.lines.proofs.words.Tokens.{word-means, word-points, in_tape, holds_none, holds_snoc}
use Rattle.lines.proofs.words.Lines.{first_below, indent-below, addressed-below, origin_below, word_first, word_count, word_origin, word-facts, line_word-means}
use Rattle.lines.proofs.words.Lines.{with_first, with_count, with_factless, with_means}
use Rattle.tape.specs.Commands.{command_in, size_of}
use Rattle.tape.specs.Questions.{totals_of, counted}
use Rattle.tables.specs.Tables.{begun, longer, lengthened, tokens_after, lines_after, addresses_after, Adds, Room}
use Rattle.tape.specs.declared.commands.Command.{Command}
use Rattle.tape.specs.declared.commands.Command.TheVariants.{Addressed, Plain, Marked, End}  -- its Token is the listing's here
use Rattle.tape.specs.declared.commands.Command.TheVariants as C
use Rattle.tape.specs.declared.questions.Totals.{Totals}

-- the first words of the tables mean the listing; its last line ends where the tokens end
pub record Table (tape tokens lines addresses : List ℕ) (t : Q.Totals) (listing : Listing) : Type 0 where
  pub holds : (area : Text) → Holds tape area (take t.tokens tokens)
  pub inside : Each (λ l. first_of l + count_of l ≤ t.tokens) (take t.lines lines)
  pub origins : Each (λ l. origin_of l < t.lines) (take t.lines lines)
  pub unmarked : Each (λ l. facts_of l ≡ 0) (take t.lines lines)
  pub last : 0 < t.lines → first_of (get_or lines (t.lines - 1) 0) + count_of (get_or lines (t.lines - 1) 0) ≡ t.tokens
  pub means : (area : Text) → listing_of tape area (take t.tokens tokens) addresses (take t.lines lines) ≡ listing

pub table_none : (tape tokens lines addresses : List ℕ) → Table tape tokens lines addresses (record { lines = 0; tokens = 0; text = 0; fresh = false }) []
table_none tape tokens lines addresses =
    record {
      holds = holds_none tape;
      inside = each_none (λ l. first_of l + count_of l ≤ 0);
      origins = each_none (λ l. origin_of l < 0);
      unmarked = each_none (λ l. facts_of l ≡ 0);
      last = λ h. absurd (omega arith);
      means = λ area. refl;
    }

each_weaken : (P R : ℕ → Type 0) → ((l : ℕ) → P l → R l) → (ls : List ℕ) → Each P ls → Each R ls
each_weaken P R f ls e k h = f (get_or ls k 0) (e k h)

add_line : (listing : Listing) (address : Option ℕ) (indent : ℕ)
    → Q.add (new_line address indent) listing ≡ listing ++ (record { address = address; indent = indent; tokens = [] } ∷ [])
add_line listing address indent = unfold Q.add in refl

module _ {tape tokens lines addresses : List ℕ} {listing : Listing} (t : Totals) (h : Table tape tokens lines addresses (totals_of t) listing) where
  -- ---- a line

  module _ (indent flag : ℕ) (addresses' : List ℕ) (few : t.lines < 256) (few_tokens : t.tokens ≤ 1024) (room : t.lines < length lines) (low : indent < 64)
      (bit : flag < 2) (kept : (k : ℕ) → k < t.lines → get_or addresses' k 0 ≡ get_or addresses k 0) where
    front : take (t.lines + 1) (set lines t.lines (begun indent flag t)) ≡ take t.lines lines ++ (begun indent flag t ∷ [])
    front = rw add-one (take-suc-set lines t.lines (begun indent flag t) room)

    new_line-means : (area : Text)
        → line_in tape area (take t.tokens tokens) addresses' (begun indent flag t)
        ≡ record { address = when eqb flag 1 then some (get_or addresses' t.lines 0) else none; indent = indent; tokens = [] }
    new_line-means area =
        line_word-means t.tokens 0 indent flag t.lines (omega arith) (omega arith) low bit few tape area (take t.tokens tokens) addresses'

    same_line : (area : Text) (l : ℕ) → origin_of l < t.lines
        → line_in tape area (take t.tokens tokens) addresses' l ≡ line_in tape area (take t.tokens tokens) addresses l
    unfolding address_in
    same_line area l o = rw (kept (origin_of l) o)

    same_lines : (area : Text)
        → listing_of tape area (take t.tokens tokens) addresses' (take t.lines lines)
        ≡ listing_of tape area (take t.tokens tokens) addresses (take t.lines lines)
    same_lines area =
        map_same (line_in tape area (take t.tokens tokens) addresses') (line_in tape area (take t.tokens tokens) addresses) (take t.lines lines)
        (λ k b. same_line area _ (h.origins k b))

    pub table_line : {address : Option ℕ} → (when eqb flag 1 then some (get_or addresses' t.lines 0) else none) ≡ address
        → Table tape tokens (set lines t.lines (begun indent flag t)) addresses' (record { lines = t.lines + 1; tokens = t.tokens; text = t.text; fresh = true })
        (Q.add (new_line address indent) listing)
    table_line {address} e =
        let n : ℕ = t.tokens in
        let w : ℕ = begun indent flag t in
        let first : first_of w ≡ n = word_first n 0 indent flag t.lines (omega arith) (omega arith) in
        let count : count_of w ≡ 0 = word_count n 0 indent flag t.lines (omega arith) (omega arith) in
        let origin : origin_of w ≡ t.lines = word_origin n 0 indent flag t.lines (omega arith) (omega arith) low bit few in
        record {
          holds = h.holds;
          inside =
              rw front
              (each_append (λ l. first_of l + count_of l ≤ n) (take t.lines lines) h.inside (w ∷ [])
              (each_one (λ l. first_of l + count_of l ≤ n) (omega arith)));
          unmarked =
              rw front
              (each_append (λ l. facts_of l ≡ 0) (take t.lines lines) h.unmarked (w ∷ [])
              (each_one (λ l. facts_of l ≡ 0) (word-facts n 0 indent flag t.lines (omega arith) (omega arith) low bit few)));
          origins =
              rw front
              (each_append (λ l. origin_of l < t.lines + 1) (take t.lines lines)
              (each_weaken (λ l. origin_of l < t.lines) (λ l. origin_of l < t.lines + 1) (λ l o. omega arith) (take t.lines lines) h.origins)
              (w ∷ [])
              (each_one (λ l. origin_of l < t.lines + 1) (omega arith)));
          last =
              λ p.
              (let k : t.lines + 1 - 1 ≡ t.lines = omega arith in
              rw (k, get_or-set_same lines t.lines w 0 room) (omega arith));
          means =
              λ area.
              (let F = line_in tape area (take n tokens) addresses' in
              ap (map F) front
              ∙ map-append F (take t.lines lines) (w ∷ [])
              ∙ rw (same_lines area, h.means area, new_line-means area, e, add_line listing address indent));
        }

  -- ---- a token

  module _ (at kind count : ℕ) (low : kind < 8) (short : at + 3 + count < 65536) (long : at + 3 + count ≤ length tape) (room : t.tokens < length tokens)
      (begun-is : 0 < t.lines) (line_room : t.lines ≤ length lines) (few : count_of (get_or lines (t.lines - 1) 0) < 2047) where
    next_is : take (t.tokens + 1) (set tokens t.tokens (word kind 0 (at + 3) count)) ≡ take t.tokens tokens ++ (word kind 0 (at + 3) count ∷ [])
    next_is = rw add-one (take-suc-set tokens t.tokens (word kind 0 (at + 3) count) room)

    back : suc (t.lines - 1) ≡ t.lines
    back = omega arith

    lines_are : take t.lines lines ≡ take (t.lines - 1) lines ++ (get_or lines (t.lines - 1) 0 ∷ [])
    lines_are = rw back at (take-suc lines (t.lines - 1) 0 (omega arith))

    lines_next : take t.lines (lengthened lines t) ≡ take (t.lines - 1) lines ++ (longer (get_or lines (t.lines - 1) 0) ∷ [])
    lines_next = rw back at (take-suc-set lines (t.lines - 1) (longer (get_or lines (t.lines - 1) 0)) (omega arith))

    -- what holds of the lines before the last, and of the longer last one
    each_next : (P R : ℕ → Type 0) → ((l : ℕ) → P l → R l) → R (longer (get_or lines (t.lines - 1) 0)) → Each P (take t.lines lines)
        → Each R (take t.lines (lengthened lines t))
    each_next P R f r e =
        rw lines_next
        (each_append R (take (t.lines - 1) lines) (each_weaken P R f (take (t.lines - 1) lines) before) (longer (get_or lines (t.lines - 1) 0) ∷ []) (each_one R r))
      where
        before : Each P (take (t.lines - 1) lines)
        before = rw (take-take (t.lines - 1) t.lines lines (omega arith)) at (each_take P (take t.lines lines) e (t.lines - 1))

    next-first : first_of (longer (get_or lines (t.lines - 1) 0)) ≡ first_of (get_or lines (t.lines - 1) 0)
    next-first = let l : ℕ = get_or lines (t.lines - 1) 0 in with_first l (first_of l) (count_of l + 1) (first_below l) (omega arith)

    next-count : count_of (longer (get_or lines (t.lines - 1) 0)) ≡ count_of (get_or lines (t.lines - 1) 0) + 1
    next-count = let l : ℕ = get_or lines (t.lines - 1) 0 in with_count l (first_of l) (count_of l + 1) (first_below l) (omega arith)

    next_origin : origin_of (longer (get_or lines (t.lines - 1) 0)) ≡ origin_of (get_or lines (t.lines - 1) 0)
    unfolding with_part
    next_origin =
        let l : ℕ = get_or lines (t.lines - 1) 0 in
        word_origin (first_of l) (count_of l + 1) (indent_of l) (addressed_of l) (origin_of l) (first_below l) (omega arith) (indent-below l) (addressed-below l) (origin_below l)

    -- the words of a line before the last are the same
    same_part : (l : ℕ) → first_of l + count_of l ≤ t.tokens
        → part_of (take (t.tokens + 1) (set tokens t.tokens (word kind 0 (at + 3) count))) l ≡ part_of (take t.tokens tokens) l
    same_part l i =
        let f : ℕ = first_of l in
        let c : ℕ = count_of l in
        let tokens' : List ℕ = set tokens t.tokens (word kind 0 (at + 3) count) in
        part-below f c (t.tokens + 1) tokens' (omega arith)
        ∙ sym (part-below f c t.tokens tokens' i)
        ∙ ap (λ (ws : List ℕ). take c (drop f ws)) (take-set-le t.tokens tokens t.tokens (word kind 0 (at + 3) count) (omega arith))

    before : Each (λ l. first_of l + count_of l ≤ t.tokens) (take (t.lines - 1) lines)
    before =
        rw (take-take (t.lines - 1) t.lines lines (omega arith)) at
        (each_take (λ l. first_of l + count_of l ≤ t.tokens) (take t.lines lines) h.inside (t.lines - 1))

    same_init : (area : Text)
        → listing_of tape area (take (t.tokens + 1) (set tokens t.tokens (word kind 0 (at + 3) count))) addresses (take (t.lines - 1) lines)
        ≡ listing_of tape area (take t.tokens tokens) addresses (take (t.lines - 1) lines)
    same_init area =
        let init : List ℕ = take (t.lines - 1) lines in
        map_same (line_in tape area _ addresses) (line_in tape area (take t.tokens tokens) addresses) init
        (λ k b. ap (line_of area (get_or init k 0)) (same_part (get_or init k 0) (before k b)))
      where
        line_of : Text → ℕ → List ℕ → Line
        line_of area l ws = record { address = address_in addresses l; indent = indent_of l; tokens = tokens_of tape area ws }

    -- those of the last line are one more
    last-part : (l : ℕ) → first_of l + count_of l ≡ t.tokens
        → take (count_of l + 1) (drop (first_of l) (take t.tokens tokens ++ (word kind 0 (at + 3) count ∷ [])))
        ≡ part_of (take t.tokens tokens) l ++ (word kind 0 (at + 3) count ∷ [])
    last-part l i =
        let f : ℕ = first_of l in
        let c : ℕ = count_of l in
        let T : List ℕ = take t.tokens tokens in
        let w : ℕ = word kind 0 (at + 3) count in
        let n : length T ≡ t.tokens = length-take-le t.tokens tokens (omega arith) in
        let m : length (drop f T) ≡ c = length-drop f T ∙ omega arith in
        rw (drop-append-le f T (w ∷ []) (omega arith), take_all (c + 1) (drop f T ++ (w ∷ [])) (rw length-append (omega arith)), take_all c (drop f T) (omega arith))

    new_token-means : (area : Text) → token_of tape area (word kind 0 (at + 3) count) ≡ token kind (take count (drop (at + 3) tape))
    new_token-means area =
        word-means kind 0 (at + 3) count low (omega arith) (omega arith) (omega arith) tape area ∙ rw (in_tape tape area {p = 0} refl)

    longer-means : (area : Text)
        → line_in tape area (take (t.tokens + 1) (set tokens t.tokens (word kind 0 (at + 3) count))) addresses (longer (get_or lines (t.lines - 1) 0))
        ≡ with_token (token kind (take count (drop (at + 3) tape))) (line_in tape area (take t.tokens tokens) addresses (get_or lines (t.lines - 1) 0))
    longer-means area =
        let l : ℕ = get_or lines (t.lines - 1) 0 in
        let T : List ℕ = take t.tokens tokens in
        let T' : List ℕ = take (t.tokens + 1) (set tokens t.tokens (word kind 0 (at + 3) count)) in
        let w : ℕ = word kind 0 (at + 3) count in
        with_means l (first_of l) (count_of l + 1) (first_below l) (omega arith) tape area T' addresses
        ∙ ap (λ (ts : List Token). with_tokens ts (line_in tape area T addresses l))
        (ap (λ (ws : List ℕ). tokens_of tape area (take (count_of l + 1) (drop (first_of l) ws))) next_is
        ∙ ap (tokens_of tape area) (last-part l (h.last begun-is))
        ∙ map-append (token_of tape area) (part_of T l) (w ∷ [])
        ∙ ap (λ (u : Token). tokens_of tape area (part_of T l) ++ (u ∷ [])) (new_token-means area))

    pub table-token : Table tape (set tokens t.tokens (word kind 0 (at + 3) count)) (lengthened lines t) addresses
        (record { lines = t.lines; tokens = t.tokens + 1; text = t.text + count; fresh = false })
        (Q.add (new_token (token kind (take count (drop (at + 3) tape)))) listing)
    table-token =
        let l : ℕ = get_or lines (t.lines - 1) 0 in
        let init : List ℕ = take (t.lines - 1) lines in
        let T : List ℕ = take t.tokens tokens in
        let T' : List ℕ = take (t.tokens + 1) (set tokens t.tokens (word kind 0 (at + 3) count)) in
        let ends = h.last begun-is in
        record {
          holds =
              λ area.
              rw next_is
              (holds_snoc (h.holds area)
              (word-points kind 0 (at + 3) count low (omega arith) (omega arith) (omega arith) tape area (rw (in_tape tape area {p = 0} refl) long) short));
          inside =
              each_next (λ l. first_of l + count_of l ≤ t.tokens) (λ l. first_of l + count_of l ≤ t.tokens + 1) (λ l i. omega arith)
              (omega (arith, next-first, next-count, ends)) h.inside;
          unmarked = each_next (λ l. facts_of l ≡ 0) (λ l. facts_of l ≡ 0) (λ l m. m) (with_factless l (first_of l) (count_of l + 1) (first_below l) (omega arith)) h.unmarked;
          origins =
              each_next (λ l. origin_of l < t.lines) (λ l. origin_of l < t.lines) (λ l o. o)
              (rw next_origin (rw (get_or-take t.lines lines (t.lines - 1) 0 (omega arith)) at (h.origins (t.lines - 1) (rw (length-take-le t.lines lines line_room) (omega arith)))))
              h.origins;
          last =
              λ p. rw (get_or-set_same lines (t.lines - 1) (longer (get_or lines (t.lines - 1) 0)) 0 (omega arith)) (omega (arith, next-first, next-count, ends));
          means =
              λ area.
              (let F = line_in tape area T addresses in
              let F' = line_in tape area T' addresses in
              ap (map F') lines_next
              ∙ map-append F' init (longer l ∷ [])
              ∙ rw (same_init area, longer-means area)
              (sym (add-last (token kind (take count (drop (at + 3) tape))) (map F init) (F l))
              ∙ ap (Q.add (new_token (token kind (take count (drop (at + 3) tape))))) (sym (map-append F init (l ∷ [])) ∙ ap (map F) (sym lines_are) ∙ h.means area)));
        }

-- ---- a command

module _ {tape tokens lines addresses : List ℕ} {listing : Listing} (at : ℕ) (t : Totals) (h : Table tape tokens lines addresses (totals_of t) listing)
    (room : Room tokens lines addresses t) where
  pub table_more : (c : Command) → Adds at c t lines → at + size_of c ≤ length tape
      → Table tape (tokens_after at c t tokens) (lines_after c t lines) (addresses_after c t addresses) (counted c (totals_of t)) (Q.add (command_in tape at c) listing)
  unfolding when◌then◌else◌
  table_more (Addressed address indent) a i =
      table_line t h indent 1 (set addresses t.lines address) a.1 room.few_tokens (omega (arith, room.for_lines)) a.0 (omega arith)
      (λ k b. get_or-set_other addresses t.lines k address 0 (λ e. omega arith))
      (ap some (get_or-set_same addresses t.lines address 0 (omega (arith, room.for_addresses))))
  table_more (Plain indent) a i =
      table_line t h indent 0 addresses a.1 room.few_tokens (omega (arith, room.for_lines)) a.0 (omega arith) (λ k b. refl) refl
  table_more (Marked low high) a i =
      unfold Q.add in
      record { holds = h.holds; inside = h.inside; origins = h.origins; unmarked = h.unmarked; last = h.last; means = h.means }
  table_more (C.Token kind count) a i =
      table-token t h at kind count a.0 a.1 (omega arith) (omega (arith, room.for_tokens)) a.3 (omega (arith, room.few_lines, room.for_lines)) a.4
  table_more End a i = unfold Q.add in h
