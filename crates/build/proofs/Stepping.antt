-- One step of folding in place, and where it begins and ends. Assumes nothing.
use Prim.Native.Nat.{ℕ, suc, ◌+◌, ◌-◌, ◌≤◌, ◌<◌}
use native.Mathlib.Omega.{arith}
use native.Mathlib.Nat.{le_refl, add-zero}
use native.Mathlib.Numerals.{add-one}
use mathlib.Core.Path.{◌≡◌, refl, sym, ap, ◌∙◌}
use mathlib.Core.List.{List, [], ◌∷◌, ◌++◌, map-append, append_assoc}
use mathlib.Core.Option.{Option, none, some}
use lib.IntN.{ℤ}
use lib.ListN.{length, get_or, set, take, drop, length-set, length-map, length-drop}
use lib.Seq.{take-take, take-suc-set, take-set-le, take_at, drop-set-lt, drop-cons, drop-drop, get_or-drop, get_or-set_same, length-take-le}
use Rattle.reference.specs.Control.{let_some◌else◌then◌}
use Rattle.reference.specs.Text.{Text}
use Rattle.reference.specs.Listing.{Token, token, Number}
use Rattle.reference.specs.Numbers.{show, fold}
use Rattle.joining.proofs.Room.{signs}
use Rattle.lines.specs.Words.{buffer_of, start_of, word, token_of, tokens_of, Points, Holds}
use Rattle.lines.proofs.words.Each.{each_one, each-drop, each_append, map-drop}
use Rattle.lines.proofs.words.Tokens.{word_start, holds-drop, holds_append, holds_snoc, holds-prefix, holds-grows, tokens-prefix, tokens_grow, take_behind, behind-points, behind-means}
use Rattle.text.specs.declared.cursor.Cursor.{Cursor}
use Rattle.text.specs.Cursor.{Written, Puts}
use Rattle.build.specs.declared.fold.Folding.{Folding}
use Rattle.build.specs.State.{Fresh}
use Rattle.build.specs.Folding.{number_token, last_of, fold_next, done_now, left_now, folds_to, signs_room, text_limit, Foldable, Stepped}
use Rattle.build.proofs.Folding.{fold-kept, fold-made, fold-long, fold_begin, last_snoc, signs_drop}

module _ {tape area : Text} {line : List ℕ} {f : Folding} (s : Foldable tape area line f) where
  text_inside : f.text ≤ length area
  unfolding signs_room
  text_inside = omega (arith, s.text_fits)

  pub done-whole : Holds tape area (take f.kept line)
  done-whole = holds-prefix f.text area s.done

  pub left_whole : Holds tape area (drop f.next line)
  left_whole = holds-prefix f.text area s.left

module _ {tape area : Text} {line : List ℕ} {f : Folding} (s : Foldable tape area line f) (edition : ℕ) where
  -- the texts in use are texts of the whole area
  next-used : fold_next edition (last_of (tokens_of tape area (take f.kept line))) (tokens_of tape area (drop f.next line))
      ≡ fold_next edition (last_of (done_now tape area line f)) (left_now tape area line f)
  next-used = rw (tokens-prefix f.text area s.done, tokens-prefix f.text area s.left)

  -- what a call answered of them
  pub next_none : {o : Option ℤ} → o ≡ none → number_token o ≡ fold_next edition (last_of (tokens_of tape area (take f.kept line))) (tokens_of tape area (drop f.next line))
      → fold_next edition (last_of (done_now tape area line f)) (left_now tape area line f) ≡ none
  unfolding let_some◌else◌then◌
  next_none e h = sym (h ∙ next-used) ∙ rw e

  pub next_some : {o : Option ℤ} {z z' : ℤ} → o ≡ some z → z' ≡ z
      → number_token o ≡ fold_next edition (last_of (tokens_of tape area (take f.kept line))) (tokens_of tape area (drop f.next line))
      → fold_next edition (last_of (done_now tape area line f)) (left_now tape area line f) ≡ some (token Number (show z'))
  unfolding let_some◌else◌then◌
  next_some e g h = sym (h ∙ next-used) ∙ rw (e, g)

  -- ---- a token is kept

  module _ (more : f.next < length line) (e : fold_next edition (last_of (done_now tape area line f)) (left_now tape area line f) ≡ none) where
    abbrev w : ℕ
    w = get_or line f.next 0

    abbrev line' : List ℕ
    line' = set line f.kept w

    abbrev f' : Folding
    f' = record { kept = f.kept + 1; next = f.next + 1; text = f.text }

    kept-words : take (f.kept + 1) line' ≡ take f.kept line ++ (w ∷ [])
    kept-words = rw add-one (take-suc-set line f.kept w (omega (arith, s.kept_first)))

    left_words : drop (f.next + 1) line' ≡ drop (f.next + 1) line
    left_words = drop-set-lt (f.next + 1) line f.kept w (omega (arith, s.kept_first))

    left_split : drop f.next line ≡ w ∷ drop (f.next + 1) line
    left_split = rw add-one (drop-cons line f.next 0 more)

    rest : List Token
    rest = tokens_of tape (take f.text area) (drop (f.next + 1) line)

    done_is : done_now tape area line' f' ≡ done_now tape area line f ++ (token_of tape (take f.text area) w ∷ [])
    done_is = ap (tokens_of tape (take f.text area)) kept-words ∙ map-append (token_of tape (take f.text area)) (take f.kept line) (w ∷ [])

    left_is : left_now tape area line f ≡ token_of tape (take f.text area) w ∷ rest
    unfolding rest
    left_is = ap (tokens_of tape (take f.text area)) left_split

    left'_is : left_now tape area line' f' ≡ rest
    unfolding rest
    left'_is = ap (tokens_of tape (take f.text area)) left_words

    first-points : Points tape (take f.text area) w
    first-points = rw (get_or-drop, add-zero) at (s.left.at 0 (rw length-drop (omega arith)))

    limit-kept : text_limit tape area line' f' ≤ text_limit tape area line f
    unfolding signs_room
    limit-kept = rw (left'_is, left_is) (omega (arith, signs_drop rest))

    pub stepped_kept : Stepped edition tape area line f area line' f'
    stepped_kept = record {
      foldable = record {
        kept_first = omega (arith, s.kept_first);
        inside = rw length-set (omega arith);
        done = rw kept-words (holds_snoc s.done first-points);
        left = rw (left_words, ← drop-drop 1 f.next line) (holds-drop s.left 1);
        text_fits = omega (arith, limit-kept, s.text_fits);
        short = omega (arith, limit-kept, s.short);
      };
      further = omega arith;
      same =
          rw (done_is, left'_is, left_is, last_snoc, append_assoc)
          (ap (λ (l : List Token). done_now tape area line f ++ l) (sym (fold-kept edition (last_of (done_now tape area line f)) (token_of tape (take f.text area) w) rest (rw left_is at e))));
      text_grows = le_refl _;
      text_below = refl;
      limit = limit-kept;
      fresh = λ m h d l.
          let P : ℕ → Type 0 = λ v. buffer_of v ≡ 1 → m ≤ start_of v in
          let first : P w = rw (get_or-drop, add-zero) at (l.from_m 0 (rw length-drop (omega arith))) in (
            record { from_m = rw kept-words (each_append P (take f.kept line) d.from_m (w ∷ []) (each_one P first)) },
            record { from_m = rw (left_words, ← drop-drop 1 f.next line) (each-drop P (drop f.next line) l.from_m 1) },
          );
    }

  -- ---- three tokens become a Number, whose text t stands behind the text in use

  module _ {t : Text} (e : fold_next edition (last_of (done_now tape area line f)) (left_now tape area line f) ≡ some (token Number t)) where
    left_length : length (left_now tape area line f) ≡ length line - f.next
    left_length = length-map (drop f.next line) (token_of tape (take f.text area)) ∙ length-drop f.next line

    facts : (3 ≤ length (left_now tape area line f)) × (length t ≤ 19)
        × (1 + signs (drop 3 (left_now tape area line f)) ≤ signs (drop 1 (left_now tape area line f)))
    facts = fold-long edition (last_of (done_now tape area line f)) (token Number t) (left_now tape area line f) e

    pub fold-inside : f.next + 2 < length line
    fold-inside = omega (arith, facts.0, left_length)

    pub fold-room : f.text + 19 ≤ length area
    unfolding signs_room
    fold-room = omega (arith, facts.2, s.text_fits)

    pub fold-short : f.text + 19 < 65536
    unfolding signs_room
    fold-short = omega (arith, facts.2, s.short)

    pub fold_text : length t ≤ 19
    fold_text = facts.1

    module _ {area' : Text} {v end : ℕ} (wr : Written area f.text t area' end) (ev' : v ≡ word Number 1 f.text (end - f.text)) where
      ev : v ≡ word Number 1 f.text (length t)
      ev = let e : end - f.text ≡ length t = omega (arith, wr.end_is) in ev' ∙ rw e

      abbrev folded_line : List ℕ
      folded_line = set line (f.next + 2) v

      abbrev folding : Folding
      folding = record { kept = f.kept; next = f.next + 2; text = f.text + length t }

      used_is : take (f.text + length t) area' ≡ take f.text area ++ t
      used_is = take_behind area f.text t (text_inside s) wr.bytes_are

      word-front : take f.kept folded_line ≡ take f.kept line
      word-front = take-set-le f.kept line (f.next + 2) v (omega (arith, s.kept_first))

      word_back : drop (f.next + 2) folded_line ≡ v ∷ drop (f.next + 3) line
      word_back =
          let k : suc (f.next + 2) ≡ f.next + 3 = omega arith in
          drop-cons folded_line (f.next + 2) 0 (rw length-set fold-inside)
          ∙ rw (get_or-set_same line (f.next + 2) v 0 fold-inside, k) (ap (λ (l : List ℕ). v ∷ l) (drop-set-lt (f.next + 3) line (f.next + 2) v (omega arith)))

      rest-holds : Holds tape (take f.text area) (drop (f.next + 3) line)
      rest-holds = rw (← drop-drop 3 f.next line) (holds-drop s.left 3)

      made-points : Points tape (take f.text area ++ t) v
      made-points = rw ev (behind-points tape (take f.text area) t Number f.text (omega arith) (length-take-le f.text area (text_inside s)) (omega (arith, fold-short, fold_text)))

      made-means : token_of tape (take f.text area ++ t) v ≡ token Number t
      made-means = rw ev (behind-means tape (take f.text area) t Number f.text (omega arith) (length-take-le f.text area (text_inside s)) (omega (arith, fold-short, fold_text)))

      done_same : done_now tape area' folded_line folding ≡ done_now tape area line f
      done_same = rw (used_is, word-front) (tokens_grow t s.done)

      left_made : left_now tape area' folded_line folding ≡ token Number t ∷ drop 3 (left_now tape area line f)
      left_made =
          rw (used_is, word_back, made-means, tokens_grow t rest-holds)
          (ap (λ (l : List Token). token Number t ∷ l)
          (ap (tokens_of tape (take f.text area)) (sym (drop-drop 3 f.next line)) ∙ map-drop (token_of tape (take f.text area)) 3 (drop f.next line)))

      limit-made : text_limit tape area' folded_line folding ≤ text_limit tape area line f
      unfolding signs_room
      limit-made = rw left_made (omega (arith, facts.1, facts.2))

      module _ (la : length area' ≡ length area) where
        stepped : Stepped edition tape area line f area' folded_line folding
        stepped = record {
          foldable = record {
            kept_first = omega (arith, s.kept_first);
            inside = rw length-set (omega (arith, fold-inside));
            done = rw (used_is, word-front) (holds-grows t s.done);
            left = rw (used_is, word_back) (holds_append {ws = v ∷ []} (record { at = each_one (Points tape (take f.text area ++ t)) made-points }) (holds-grows t rest-holds));
            text_fits = omega (arith, limit-made, s.text_fits);
            short = omega (arith, limit-made, s.short);
          };
          further = omega arith;
          same =
              rw (done_same, left_made)
              (ap (λ (l : List Token). done_now tape area line f ++ l) (sym (fold-made edition (last_of (done_now tape area line f)) (token Number t) (left_now tape area line f) e)));
          text_grows = omega arith;
          text_below =
              sym (take-take f.text (f.text + length t) area' (omega arith)) ∙ ap (take f.text) used_is
              ∙ take_at (take f.text area) t f.text (length-take-le f.text area (text_inside s));
          limit = limit-made;
          fresh = λ m h d l.
              let P : ℕ → Type 0 = λ x. buffer_of x ≡ 1 → m ≤ start_of x in
              let start : start_of v ≡ f.text = ap start_of ev ∙ word_start Number 1 f.text (length t) (omega arith) (omega arith) (omega (arith, fold-short)) in (
                record { from_m = rw word-front d.from_m },
                record {
                  from_m = rw (word_back, ← drop-drop 3 f.next line)
                      (each_append P (v ∷ []) (each_one P (λ _. rw start h)) (drop 3 (drop f.next line)) (each-drop P (drop f.next line) l.from_m 3));
                },
              );
        }

        stepped-made : Stepped edition tape area line f area' folded_line (record { kept = f.kept; next = f.next + 2; text = end })
        stepped-made = rw wr.end_is stepped

    -- t was put by a cursor over the area, from the end of the text in use on
    module _ {p p' : Cursor} (put : Puts p t p') (over : p.out.now ≡ area) (from : p.at ≡ f.text) where
      made-written : Written area f.text t p'.out.now p'.at
      made-written = rw (over, from) at put.written

      pub made_short : p'.at - f.text < 65536
      made_short = omega (arith, fold_text, fold-short, made-written.end_is)

      pub stepped-put : {area' : Text} {v : ℕ} → v ≡ word Number 1 f.text (p'.at - f.text) → area' ≡ p'.out.now → length p'.out.now ≡ length p.out.now
          → Stepped edition tape area line f area' (set line (f.next + 2) v) (record { kept = f.kept; next = f.next + 2; text = p'.at })
      stepped-put ev there la = rw there (stepped-made made-written ev (la ∙ ap length over))

-- ---- the loop

module _ (edition : ℕ) (tape : Text) (area₀ : Text) (line₀ : List ℕ) (n : ℕ) where
  abbrev start : Folding
  start = record { kept = 0; next = 0; text = n }

  -- what holds before each turn
  pub record Turning (area : Text) (line : List ℕ) (f : Folding) : Type 0 where
    pub foldable : Foldable tape area line f
    pub same : folds_to edition tape area line f ≡ fold edition (tokens_of tape (take n area₀) line₀)
    pub text_grows : n ≤ f.text
    pub text_below : take n area ≡ take n area₀
    pub limit : text_limit tape area line f ≤ text_limit tape area₀ line₀ start
    pub fresh : (m : ℕ) → m ≤ n → Fresh m line₀ → Fresh m (take f.kept line) × Fresh m (drop f.next line)

  pub turning_begin : Foldable tape area₀ line₀ start → Turning area₀ line₀ start
  turning_begin s = record {
    foldable = s;
    same = sym (fold_begin edition (tokens_of tape (take n area₀) line₀));
    text_grows = le_refl _;
    text_below = refl;
    limit = le_refl _;
    fresh = λ m h l. (record { from_m = λ k b. absurd (omega arith) }, l);
  }

  module _ {area : Text} {line : List ℕ} {f : Folding} (t : Turning area line f) where
    pub turning_again : {area' : Text} {line' : List ℕ} {f' : Folding} → Stepped edition tape area line f area' line' f' → Turning area' line' f'
    turning_again {area'} s = record {
      foldable = s.foldable;
      same = s.same ∙ t.same;
      text_grows = omega (arith, t.text_grows, s.text_grows);
      text_below =
          sym (take-take n f.text area' t.text_grows) ∙ ap (take n) s.text_below ∙ take-take n f.text area t.text_grows ∙ t.text_below;
      limit = omega (arith, t.limit, s.limit);
      fresh = λ m h l. let q = t.fresh m h l in s.fresh m (omega (arith, t.text_grows)) q.0 q.1;
    }
