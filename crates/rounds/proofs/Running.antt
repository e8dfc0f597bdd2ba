-- The run: rounds one after the other, each with what the one before it left, then the cuts. Assumes nothing.
use Prim.Native.Nat.{ℕ, zero, suc, ◌+◌, ◌-◌, ◌≤◌}
use native.Mathlib.Omega.{arith}
use mathlib.Core.Path.{◌≡◌, refl, sym, ap, ◌∙◌}
use mathlib.Core.Logic.{◌⊎◌, ⊎_elim, inl, inr}
use mathlib.Core.Bool.{Bool, true, false}
use mathlib.Core.List.{List, [], ◌∷◌, ◌++◌, map, flatten, append-nil, append_assoc}
use lib.Dec.{eqb}
use lib.ListN.{length, set, take, length-append}
use lib.Seq.{append_snoc}
use borrow.Author.Tests.{eq-eqb, ne_eqb}
use Rattle.reference.specs.Control.{◌or◌, when◌then◌else◌}
use Rattle.reference.specs.Listing.{Listing}
use Rattle.reference.specs.Rules.{Rules}
use Rattle.reference.specs.Run.{Attempt, propagate_once, after_attempts, removals, changed, rounds_from, limit, after_rounds, drop_dead_results}
use Rattle.reference.specs.Run.{run, attempts_of, attempts_in, counts}
use Rattle.joining.specs.Limits.{RunLimits}
use Rattle.laws.proofs.Scans.{if-true, if-false}
use Rattle.reference.proofs.Marks.{finished_is}
use Rattle.lines.specs.Lines.{Reading, numbered, origin_of}
use Rattle.lines.specs.declared.texts.Size.{Size}
use Rattle.build.specs.State.{used}
use Rattle.build.specs.Added.{used_words}
use Rattle.join.specs.Contents.{Contents, used_lines, listing_now, bare_now, Current}
use Rattle.cautions.specs.Joins.{none_yet}
use Rattle.cautions.specs.Cautions.{with_cuts, cuts_of, carry, kept_cautions}
use Rattle.cautions.proofs.Bare.{none_bare}
use Rattle.raising.specs.declared.tables.Raising.{Raising}
use Rattle.raising.specs.Tables.{is_on, Kept, SameLent, sets_now}
use Rattle.raising.proofs.Lending.{on_as_before}
use Rattle.rounds.specs.declared.rounds.Round.{Round}
use Rattle.rounds.specs.declared.run.Outcome.{Outcome}
use Rattle.rounds.specs.declared.run.Progress.{Progress}
use Rattle.rounds.specs.declared.run.Tally as Code
use Rattle.rounds.specs.Carries.{Carries}
use Rattle.cuts.specs.Cuts.{Cut}
use Rattle.cuts.specs.Cautions.{dead_cuts, CutsRaised}
use Rattle.lines.proofs.words.Lines.{bare-means}
use Rattle.rounds.specs.Cautions.{CautionsKept}
use Rattle.rounds.specs.Rounds.{Made}
use Rattle.rounds.specs.Runs.{most_rounds, after_round, Few, Counted, Rounded, tally_of, told_of, counts_of, Ran}
use Rattle.rounds.proofs.Carrying.{carries_none, carries_then, carries_same, numbers_same, cuts-addresses}
use Rattle.rounds.proofs.Cautioning.{raises_none, raises_then}
use Rattle.rounds.proofs.Turning.{On, after_append, removals_append, now-length, now-few}

-- ---- the rounds from a listing on: one, and those after it

-- a round changed something where it removed a line
removed_some : (round : List Attempt) → ((changed round ≡ true) × (removals round ≡ 0 → ⊥)) ⊎ ((changed round ≡ false) × (removals round ≡ 0))
unfolding changed removals ◌or◌ when◌then◌else◌
removed_some [] = inr (refl, refl)
removed_some (a ∷ rest) = go a.removed (removed_some rest)
  where
    go : (b : Bool) → ((changed rest ≡ true) × (removals rest ≡ 0 → ⊥)) ⊎ ((changed rest ≡ false) × (removals rest ≡ 0))
        → (((b or changed rest) ≡ true) × ((when b then suc (removals rest) else removals rest) ≡ 0 → ⊥))
        ⊎ (((b or changed rest) ≡ false) × ((when b then suc (removals rest) else removals rest) ≡ 0))
    go true ih = inl (refl, λ e. omega arith)
    go false ih = ih

-- how many more may be made after a round that removed so many lines
rounds_left : ℕ → ℕ → ℕ
rounds_left left removed = when eqb removed 0 then 0 else left - 1

rounds_more : (rules : Rules) (left : ℕ) (lines : Listing) → 1 ≤ left
    → let round = propagate_once rules lines in
    rounds_from rules left lines ≡ round ∷ rounds_from rules (rounds_left left (removals round)) (after_attempts lines round)
unfolding rounds_from rounds_left
rounds_more rules zero lines h = absurd (omega arith)
rounds_more rules (suc left) lines h =
    let round : List Attempt = propagate_once rules lines in
    let rest : ℕ → List (List Attempt) = (λ n. rounds_from rules n (after_attempts lines round)) in
    let less : suc left - 1 ≡ left = omega arith in
    ap (λ (more : List (List Attempt)). round ∷ more)
    (⊎_elim
    (λ t. if-true _ _ t.0 ∙ sym (ap rest (if-false _ _ (ne_eqb (removals round) 0 t.1) ∙ less)))
    (λ t. if-false _ _ t.0 ∙ sym (ap rest (if-true _ _ (eq-eqb (removals round) 0 t.1))))
    (removed_some round))

limit_is : (rules : Rules) (lines : Listing) → limit rules lines ≡ most_rounds rules.settle (length lines)
unfolding limit most_rounds
limit_is rules lines = refl

-- ---- what is read off rounds, one after the other

after_snoc : (lines : Listing) (done : List (List Attempt)) (round : List Attempt)
    → after_rounds lines (done ++ (round ∷ [])) ≡ after_attempts (after_rounds lines done) round
unfolding after_rounds
after_snoc lines [] round = refl
after_snoc lines (first ∷ done) round = after_snoc (after_attempts lines first) done round

-- all attempts of the rounds leave what the rounds leave
after_flatten : (lines : Listing) (rounds : List (List Attempt)) → after_attempts lines (flatten rounds) ≡ after_rounds lines rounds
unfolding flatten after_rounds after_attempts
after_flatten lines [] = refl
after_flatten lines (first ∷ rest) = after_append lines first (flatten rest) ∙ after_flatten (after_attempts lines first) rest

flatten_snoc : (done : List (List Attempt)) (round : List Attempt) → flatten (done ++ (round ∷ [])) ≡ flatten done ++ round
unfolding flatten
flatten_snoc [] round = append-nil round
flatten_snoc (first ∷ done) round = rw (flatten_snoc done round) (sym (append_assoc first (flatten done) round))

-- the attempts of the first three rounds
abbrev three_of : List (List Attempt) → List ℕ
three_of rounds = attempts_in 0 rounds ∷ attempts_in 1 rounds ∷ attempts_in 2 rounds ∷ []

-- one round more having been made
three_snoc : (done : List (List Attempt)) (round : List Attempt) → set (three_of done) (length done) (length round) ≡ three_of (done ++ (round ∷ []))
unfolding attempts_in
three_snoc [] round = refl
three_snoc (a ∷ []) round = refl
three_snoc (a ∷ b ∷ []) round = refl
three_snoc (a ∷ b ∷ c ∷ rest) round = refl

module _ {done : List (List Attempt)} {s : Progress} (c : Counted done s) (round : List Attempt) (r : Round) (ea : r.attempts ≡ length round)
    (er : r.removed ≡ removals round) where
  counted_next : Counted (done ++ (round ∷ [])) (after_round s r)
  counted_next =
      record {
        made_are = ap (λ (n : ℕ). n + 1) c.made_are ∙ sym (length-append done _);
        each_is = rw (c.each_is, c.made_are, ea) (three_snoc done round);
        attempts_are = rw (c.attempts_are, ea, flatten_snoc done round) (sym (length-append (flatten done) round));
        removed_is = rw (c.removed_is, er, flatten_snoc done round) (sym (removals_append (flatten done) round));
      }

-- ---- the rounds so far

-- Of the rounds of `start`, at most `most`, those in `done` were made, and left `lines`: the others are those of `lines`, at most `more`. P is said of
-- the attempts that were made.
pub record Sofar (rules : Rules) (most more : ℕ) (start : Listing) (s : Progress) (lines : Listing) (P : List Attempt → Type 0) : Type 0 where
  pub done : List (List Attempt)
  pub made : rounds_from rules most start ≡ done ++ rounds_from rules more lines
  pub counted : Counted done s
  pub left : after_rounds start done ≡ lines
  pub said : P (flatten done)

-- no round was made yet
abbrev pub begin : Size → Progress
begin at = record { made = 0; each = 0 ∷ 0 ∷ 0 ∷ []; attempts = 0; removed = 0; size = at }

module _ (rules : Rules) (most : ℕ) (start : Listing) where
  sofar_begin : (at : Size) {P : List Attempt → Type 0} → P [] → Sofar rules most most start (begin at) start P
  unfolding after_rounds attempts_in flatten removals
  sofar_begin at p =
      record {
        done = [];
        made = refl;
        counted = record { made_are = refl; each_is = refl; attempts_are = refl; removed_is = refl };
        left = refl;
        said = p;
      }

  module _ {more : ℕ} {s : Progress} {lines : Listing} {P : List Attempt → Type 0} (u : Sofar rules most more start s lines P) where
    sofar-next : 1 ≤ more → (r : Round) {lines' : Listing} → lines' ≡ after_attempts lines (propagate_once rules lines)
        → r.attempts ≡ length (propagate_once rules lines) → r.removed ≡ removals (propagate_once rules lines)
        → {Q : List Attempt → Type 0}
        → ((done : List Attempt) → after_attempts start done ≡ lines → P done → Q (done ++ propagate_once rules lines))
        → Sofar rules most (rounds_left more r.removed) start (after_round s r) lines' Q
    sofar-next h r el ea er next =
        let round : List Attempt = propagate_once rules lines in
        record {
          done = u.done ++ (round ∷ []);
          made =
              rw (er, el)
              (u.made ∙ ap (λ (rest : List (List Attempt)). u.done ++ rest) (rounds_more rules more lines h) ∙ sym (append_snoc u.done round _));
          counted = counted_next u.counted round r ea er;
          left = after_snoc start u.done round ∙ ap (λ (ls : Listing). after_attempts ls round) u.left ∙ sym el;
          said = rw (flatten_snoc u.done round) (next (flatten u.done) (after_flatten start u.done ∙ u.left) u.said);
        }

    sofar_end : more ≡ 0
        → (lines ≡ after_rounds start (rounds_from rules most start)) × Counted (rounds_from rules most start) s × P (flatten (rounds_from rules most start))
    unfolding rounds_from
    sofar_end h =
        let all : rounds_from rules most start ≡ u.done =
        u.made ∙ ap (λ (n : ℕ). u.done ++ rounds_from rules n lines) h ∙ append-nil u.done in
        rw all (sym u.left, u.counted, u.said)

-- the rounds stand at p, and at most `more` are to come: what began as the first listing, with the tables t₀, is now the second, with the tables t
pub record Going (rules : Rules) (s₀ : Contents) (t₀ : Raising) (most more : ℕ) (s : Contents) (t : Raising) (p : Progress) : Type 0 where
  pub current : Current s
  pub limits : RunLimits (bare_now s)
  pub few : Few p
  pub rounds : p.made + more ≤ 257
  pub kept : Kept (bare_now s) t
  pub sofar : (addresses : Reading) → Sofar rules most more (listing_now s₀ addresses) p (listing_now s addresses) (On rules (listing_now s₀ addresses) s₀ t₀ s t)

most-few : (settle : Bool) {n : ℕ} → n ≤ 256 → most_rounds settle n ≤ 257
unfolding most_rounds when◌then◌else◌
most-few true h = omega arith
most-few false h = omega arith

module _ {rules : Rules} {s₀ : Contents} {t₀ : Raising} where
  pub going_begin : Current s₀ → RunLimits (bare_now s₀) → Kept (bare_now s₀) t₀ → {most : ℕ} → most ≡ most_rounds rules.settle s₀.size.lines
      → Going rules s₀ t₀ most most s₀ t₀ (begin s₀.size)
  going_begin current limits k e =
      record {
        current = current;
        limits = limits;
        few = record { rounds = omega arith; attempts = omega arith; removed = omega arith };
        rounds = omega (arith, e, most-few rules.settle (now-few s₀ current limits));
        kept = k;
        sofar = λ addresses. sofar_begin rules _ _ s₀.size (carries_none s₀, raises_none rules (listing_now s₀ addresses) s₀ t₀);
      }

  module _ {most more : ℕ} {s : Contents} {t : Raising} {p : Progress} (g : Going rules s₀ t₀ most more s t p) where
    module _ (lent : SameLent t₀ t) (h : 1 ≤ more) {s' : Contents} {t' : Raising} {r : Round} (m : Made rules (propagate_once rules) s t s' t' r) where
      going_round : Going rules s₀ t₀ most (rounds_left more r.removed) s' t' (after_round p r)
      unfolding rounds_left when◌then◌else◌
      going_round =
          record {
            current = m.current;
            limits = m.limits;
            few =
                record {
                  rounds = omega (arith, g.rounds, h);
                  attempts = omega (arith, g.few.attempts, m.few);
                  removed = omega (arith, g.few.removed, m.few);
                };
            rounds = omega (arith, g.rounds, h, fewer (eqb r.removed 0));
            kept = m.kept;
            sofar = λ addresses.
                sofar-next rules most _ (g.sofar addresses) h r (m.left addresses) (m.attempts_are addresses) (m.removed_is addresses)
                (λ done left had. (
                  carries_then done _ s₀ s s' had.0 (m.marks addresses),
                  raises_then rules (listing_now s₀ addresses) s₀ t₀ done _ s t s' t' (on_as_before lent) had.1 (rw left (m.raised addresses)),
                ));
          }
        where
          fewer : (b : Bool) → (when b then 0 else more - 1) ≤ more - 1
          fewer true = omega arith
          fewer false = omega arith

      -- after a round that removed something
      pub going_next : (r.removed ≡ 0 → ⊥) → Going rules s₀ t₀ most (more - 1) s' t' (after_round p r)
      unfolding rounds_left
      going_next n = rw (if-false 0 (more - 1) (ne_eqb r.removed 0 n)) at going_round

      -- and after one that removed nothing
      pub going_last : r.removed ≡ 0 → Going rules s₀ t₀ most 0 s' t' (after_round p r)
      unfolding rounds_left
      going_last e = rw (if-true 0 (more - 1) (eq-eqb r.removed 0 e)) at going_round

    pub going_end : Current s₀ → most ≡ most_rounds rules.settle s₀.size.lines → more ≡ 0 → Rounded rules s₀ t₀ s t p
    unfolding run attempts_of
    going_end current e h =
        let most_is : (addresses : Reading) → limit rules (listing_now s₀ addresses) ≡ most =
        (λ addresses. limit_is rules _ ∙ ap (most_rounds rules.settle) (now-length s₀ current addresses) ∙ sym e) in
        record {
          current = g.current;
          limits = g.limits;
          left = λ addresses. rw (most_is addresses) (sofar_end rules most _ (g.sofar addresses) h).0;
          counted = λ addresses. rw (most_is addresses) (sofar_end rules most _ (g.sofar addresses) h).1;
          marks = λ addresses. rw (most_is addresses) (sofar_end rules most _ (g.sofar addresses) h).2.0;
          kept = g.kept;
          raised = λ addresses. rw (most_is addresses) (sofar_end rules most _ (g.sofar addresses) h).2.1;
        }

-- ---- the cuts

cuts_are : (rules : Rules) (lines : Listing) → (run rules lines).cuts ≡ drop_dead_results rules (after_rounds lines (run rules lines).rounds)
unfolding run
cuts_are rules lines = refl

module _ (rules : Rules) {s : Contents} {t₀ : Raising} {s' : Contents} {t₁ : Raising} {p : Progress} (m : Rounded rules s t₀ s' t₁ p) (left : List ℕ) {k : ℕ}
    (c : Cut (drop_dead_results rules) s'.tape (used s'.area s'.size) (used_words s'.tokens s'.size) (used_lines s') (take s'.size.lines left) k)
    (e : length left ≡ length s'.lines) (t : Code.Tally) (et : tally_of t ≡ told_of rules.settle p) where
  -- the tables, with the lines that are left
  abbrev cut : Contents
  cut = record { tape = s'.tape; area = s'.area; tokens = s'.tokens; lines = left; size = s'.size; lows = s'.lows; highs = s'.highs }

  cuts-made : (addresses : Reading) → drop_dead_results rules (listing_now s' addresses) ≡ (run rules (listing_now s addresses)).cuts
  cuts-made addresses = ap (drop_dead_results rules) (m.left addresses) ∙ sym (cuts_are rules (listing_now s addresses))

  abbrev outcome : Outcome
  outcome = record { tally = t; removed = p.removed; cut = k; size = s'.size }

  counted : (addresses : Reading) → counts_of outcome ≡ counts rules (run rules (listing_now s addresses))
  unfolding counts attempts_of
  counted addresses =
      let all = run rules (listing_now s addresses) in
      let told = m.counted addresses in
      let tally : tally_of t ≡ (counts rules all).tally =
      et ∙ rw (told.made_are, told.attempts_are, told.each_is) in
      let cuts : k ≡ length all.cuts = c.count addresses ∙ ap length (cuts-made addresses) in
      λ i. record { tally = tally i; lines_removed = told.removed_is i; results_cut = cuts i }

  -- a cut line is the line that it was
  numbers-kept : map origin_of (used_lines cut) ≡ map origin_of (used_lines s')
  numbers-kept = numbers_same s' cut (ap (map (λ l. l.address)) (c.finished numbered) ∙ cuts-addresses rules (listing_now s' numbered))

  marks_left : (addresses : Reading) → Carries (attempts_of (run rules (listing_now s addresses))) s cut
  marks_left addresses =
      rw append-nil
      at (carries_then (attempts_of (run rules (listing_now s addresses))) [] s s' cut (m.marks addresses) (carries_same s' cut refl refl numbers-kept))

  pub run-made : Ran rules s cut outcome
  run-made = record {
    current = record {
      text_fits = m.current.text_fits;
      words_fit = m.current.words_fit;
      lines_fit = omega (arith, m.current.lines_fit, e);
      listed = c.listed;
    };
    finished = λ addresses. c.finished addresses ∙ rw (cuts-made addresses, m.left addresses) (sym (finished_is rules (listing_now s addresses)));
    counts = counted;
    marks = marks_left;
  }

  -- The cautions: `old` are the tables that were lent; begun, they are t₀, with no kind on any line.
  pub run-cautioned : (old : Raising) {t₂ : Raising} → is_on t₀ ≡ is_on old → (is_on old ≡ true → sets_now (bare_now s) t₀ ≡ none_yet (bare_now s)) → is_on t₁ ≡ is_on t₀
      → CutsRaised rules (dead_cuts rules) s'.tape (used s'.area s'.size) (used_words s'.tokens s'.size) (used_lines s') t₁ (take s'.size.lines left) t₂
      → CautionsKept rules s cut old t₂
  unfolding kept_cautions
  run-cautioned old e₀ none e₁ d on addresses =
      let before : Listing = listing_now s addresses in
      let on₀ = e₀ ∙ on in
      let first : sets_now (bare_now s) t₀ ≡ none_yet before =
      none on ∙ ap none_yet (bare-means s.tape (used s.area s.size) (used_words s.tokens s.size) addresses (used_lines s)) ∙ none_bare before in
      let carried : sets_now (bare_now s') t₁ ≡ carry rules before (attempts_of (run rules before)) (none_yet before) =
      m.raised addresses on₀ ∙ ap (carry rules before (attempts_of (run rules before))) first in
      d.sets (e₁ ∙ on₀) addresses
      ∙ ap (λ (ls : Listing). with_cuts rules (dead_cuts rules ls) (sets_now (bare_now s') t₁)) (m.left addresses)
      ∙ ap (with_cuts rules (cuts_of rules before)) carried
