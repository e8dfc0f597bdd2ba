-- A round, attempt after attempt: the attempts made so far, then those of the listing that they left, are the round's. Assumes nothing.
use Prim.Native.Nat.{ℕ, zero, suc, pred, ◌+◌, ◌-◌, ◌≤◌, ◌<◌}
use native.Mathlib.Omega.{arith}
use native.Mathlib.Numerals.{add-one}
use mathlib.Core.Path.{◌≡◌, refl, sym, ap, ◌∙◌}
use mathlib.Core.Logic.{⊎_elim}
use mathlib.Core.Bool.{Bool, true, false}
use mathlib.Core.List.{List, [], ◌∷◌, ◌++◌, map, append-nil}
use mathlib.Core.Option.{none, some}
use lib.ListN.{length, length-map, length-append}
use lib.Seq.{append_snoc, length-take-le}
use Rattle.reference.specs.Control.{when◌then◌else◌, let_some◌else◌then◌}
use Rattle.reference.specs.Lists.{remove}
use Rattle.reference.specs.Text.{Text}
use Rattle.reference.specs.Listing.{Listing}
use Rattle.reference.specs.Rules.{Rules}
use Rattle.reference.specs.Life.{Labels}
use Rattle.reference.specs.Join.{try_at, targets}
use Rattle.reference.specs.Run.{shift, Attempt, failure, success, after_attempts, removals}
use Rattle.joining.specs.Bare.{bare_lines}
use Rattle.joining.specs.Places.{labels_at, Labelled}
use Rattle.joining.specs.Limits.{RunLimits}
use Rattle.joining.specs.Rounds.{attempts}
use Rattle.reference.proofs.Attempts.{attempt_joined}
use Rattle.joining.proofs.Bare.{labels_at-bare, try_at-bare, targets-bare, attempt_addresses}
use Rattle.joining.proofs.Bounds.{limits-after}
use Rattle.joining.proofs.Moving.{shift_labels, shift-labelled}
use Rattle.joining.proofs.Rounds.{success-length, attempts_end, attempts-failed, attempts-succeeded}
use Rattle.lines.specs.Lines.{Reading, numbered, origin_of, bare_in}
use Rattle.lines.proofs.words.Lines.{bare-means}
use Rattle.lines.specs.declared.texts.Size.{Size}
use Rattle.build.specs.State.{used}
use Rattle.build.specs.Added.{used_words}
use Rattle.plan.specs.Texts.{slot_names}
use Rattle.plan.specs.declared.slots.SlotNames.{SlotNames}
use Rattle.join.specs.declared.workspace.Workspace.{Workspace}
use Rattle.join.specs.Contents.{Contents, contents, used_lines, listing_now, bare_now, Current}
use Rattle.join.specs.Attempts.{Attemptable, targets_now}
use Rattle.raising.specs.declared.tables.Raising.{Raising}
use Rattle.raising.specs.Tables.{Kept, SameLent}
use Rattle.raising.proofs.Lending.{on_as_before}
use Rattle.rounds.specs.declared.rounds.Round.{Round}
use Rattle.rounds.specs.Cautions.{Raises}
use Rattle.rounds.proofs.Cautioning.{raises_none, raises_failed, raises_joined, raises_then}
use Rattle.rounds.specs.Carries.{Carries}
use Rattle.rounds.specs.Rounds.{Failed, Succeeded, Turned, Countable, Made, attempts_with}
use Rattle.rounds.proofs.Carrying.{carries_none, carries_failed, carries_joined, carries_then, numbers-remove}

-- ---- what is read off attempts, one after the other

pub after_append : (lines : Listing) (xs ys : List Attempt) → after_attempts lines (xs ++ ys) ≡ after_attempts (after_attempts lines xs) ys
unfolding after_attempts
after_append lines [] ys = refl
after_append lines (x ∷ xs) ys = after_append x.left xs ys

pub removals_append : (xs ys : List Attempt) → removals (xs ++ ys) ≡ removals xs + removals ys
unfolding removals when◌then◌else◌
removals_append [] ys = omega arith
removals_append (x ∷ xs) ys = go x.removed (removals_append xs ys)
  where
    go : (b : Bool) → removals (xs ++ ys) ≡ removals xs + removals ys
        → (when b then suc (removals (xs ++ ys)) else removals (xs ++ ys)) ≡ (when b then suc (removals xs) else removals xs) + removals ys
    go true e = omega arith
    go false e = e

-- Of the attempts of `start` those in `done` were made, n of them, m of them with success, and left `lines`: the others are those of `lines` from
-- line i on. P is said of those that were made.
pub record Sofar (rules : Rules) (names : List Text) (first : Labels) (start : Listing) (i n m : ℕ) (labels : Labels) (lines : Listing)
    (P : List Attempt → Type 0) : Type 0 where
  pub done : List Attempt
  pub made : attempts rules names 0 start first ≡ done ++ attempts rules names i lines labels
  pub counted : length done ≡ n
  pub removed : removals done ≡ m
  pub left : after_attempts start done ≡ lines
  pub said : P done

module _ (rules : Rules) (names : List Text) (first : Labels) where
  sofar_begin : (start : Listing) {P : List Attempt → Type 0} → P [] → Sofar rules names first start 0 0 0 first start P
  unfolding after_attempts removals
  sofar_begin start p = record { done = []; made = refl; counted = refl; removed = refl; left = refl; said = p }

  module _ {start : Listing} {i n m : ℕ} {labels : Labels} {lines : Listing} {P : List Attempt → Type 0}
      (u : Sofar rules names first start i n m labels lines P) where
    -- one attempt more, after which `rest` is left
    one_more : (a : Attempt) {rest : List Attempt} → attempts rules names i lines labels ≡ a ∷ rest
        → attempts rules names 0 start first ≡ (u.done ++ (a ∷ [])) ++ rest
    one_more a e = u.made ∙ ap (λ (r : List Attempt). u.done ++ r) e ∙ sym (append_snoc u.done _ _)

    sofar-failed : i < length lines → try_at rules lines i labels names ≡ none → {Q : List Attempt → Type 0}
        → ((done : List Attempt) → after_attempts start done ≡ lines → P done → Q (done ++ (failure i lines ∷ []))) → Sofar rules names first start (i + 1) (n + 1) m labels lines Q
    unfolding after_attempts removals when◌then◌else◌
    sofar-failed h e next = record {
      done = u.done ++ (failure i lines ∷ []);
      made = rw (add-one i) (one_more (failure i lines) (attempts-failed rules names i lines labels h e));
      counted = length-append u.done _ ∙ ap (λ (k : ℕ). k + 1) u.counted;
      removed = omega (arith, removals_append u.done (failure i lines ∷ []), u.removed);
      left = after_append start u.done _;
      said = next u.done u.left u.said;
    }

    sofar-succeeded : {lines' : Listing} → i < length lines → try_at rules lines i labels names ≡ some lines' → {Q : List Attempt → Type 0}
        → ((done : List Attempt) → after_attempts start done ≡ lines → P done → Q (done ++ (success i (targets rules lines i labels) lines' ∷ [])))
        → Sofar rules names first start (pred i) (n + 1) (m + 1) (shift i labels) lines' Q
    unfolding after_attempts removals when◌then◌else◌
    sofar-succeeded {lines'} h e next = record {
      done = u.done ++ (success i (targets rules lines i labels) lines' ∷ []);
      made = one_more (success i (targets rules lines i labels) lines') (attempts-succeeded rules names i lines labels h e);
      counted = length-append u.done _ ∙ ap (λ (k : ℕ). k + 1) u.counted;
      removed = omega (arith, removals_append u.done (success i (targets rules lines i labels) lines' ∷ []), u.removed);
      left = after_append start u.done _;
      said = next u.done u.left u.said;
    }

    sofar_end : length lines ≤ i
        → (lines ≡ after_attempts start (attempts rules names 0 start first)) × (n ≡ length (attempts rules names 0 start first))
        × (m ≡ removals (attempts rules names 0 start first)) × P (attempts rules names 0 start first)
    sofar_end h =
        let all : attempts rules names 0 start first ≡ u.done =
        u.made ∙ ap (λ (r : List Attempt). u.done ++ r) (attempts_end rules names i lines labels h) ∙ append-nil u.done in
        rw all (sym u.left, sym u.counted, sym u.removed, u.said)

-- ---- the listing with its addresses and without

module _ (s : Contents) where
  pub now-length : Current s → (addresses : Reading) → length (listing_now s addresses) ≡ s.size.lines
  now-length c addresses = length-map (used_lines s) _ ∙ length-take-le s.size.lines s.lines c.lines_fit

  pub now-few : Current s → RunLimits (bare_now s) → s.size.lines ≤ 256
  now-few c l = omega (
    arith,
    l.lines_fit,
    length-map (used_lines s) (bare_in s.tape (used s.area s.size) (used_words s.tokens s.size)),
    length-take-le s.size.lines s.lines c.lines_fit,
  )

  pub bare_is : (addresses : Reading) → bare_now s ≡ bare_lines (listing_now s addresses)
  bare_is addresses = bare-means s.tape (used s.area s.size) (used_words s.tokens s.size) addresses (used_lines s)

  pub labels_are : (addresses : Reading) (places : List ℕ) → labels_at (listing_now s addresses) places ≡ labels_at (bare_now s) places
  labels_are addresses places =
      sym (labels_at-bare (listing_now s addresses) places) ∙ ap (λ (ls : Listing). labels_at ls places) (sym (bare_is addresses))

-- ---- in the tables

-- stepping back, one line at most
back : (i : ℕ) → i ≤ pred i + 1
back zero = omega arith
back (suc i) = omega arith

-- twice the lines, less those that were passed: each attempt takes one away
abbrev pub left_over : ℕ → Round → ℕ
left_over lines r = lines + lines - r.next

-- what the attempts made so far carry on
abbrev pub On : Rules → Listing → Contents → Raising → Contents → Raising → List Attempt → Type 0
On rules lines s₀ t₀ s t done = Carries done s₀ s × Raises rules lines done s₀ t₀ s t

-- a round stands at r: what began as the first listing, with the tables t₀, is now the second, with the tables t
pub record Rounding (rules : Rules) (names : List Text) (s₀ : Contents) (t₀ : Raising) (labels₀ : List ℕ) (s : Contents) (t : Raising) (labels : List ℕ)
    (r : Round) : Type 0 where
  pub current : Current s
  pub limits : RunLimits (bare_now s)
  pub labelled : Labelled (bare_now s) labels
  pub few : r.attempts + left_over s.size.lines r ≤ 512
  pub fewer : r.removed ≤ r.attempts
  pub kept : Kept (bare_now s) t
  pub sofar : (addresses : Reading)
      → Sofar rules names (labels_at (bare_now s₀) labels₀) (listing_now s₀ addresses) r.next r.attempts r.removed (labels_at (bare_now s) labels)
      (listing_now s addresses) (On rules (listing_now s₀ addresses) s₀ t₀ s t)

pub rounding_begin : {rules : Rules} {tape : Text} {w : Workspace} {labels : List ℕ} {slots : SlotNames} {at : Size} → Attemptable tape w labels slots at
    → {t : Raising} → Kept (bare_now (contents tape w at)) t
    → Rounding rules (slot_names slots) (contents tape w at) t labels (contents tape w at) t labels (record { next = 0; attempts = 0; removed = 0; size = at })
rounding_begin {rules} {tape} {w} {labels} {slots} {at} b {t} k = record {
  current = b.current;
  limits = b.limits;
  labelled = b.labelled;
  few = omega (arith, now-few (contents tape w at) b.current b.limits);
  fewer = omega arith;
  kept = k;
  sofar = λ addresses.
      sofar_begin rules (slot_names slots) _ _ (carries_none (contents tape w at), raises_none rules (listing_now (contents tape w at) addresses) (contents tape w at) t);
}

module _ {rules : Rules} {names : List Text} {s₀ : Contents} {t₀ : Raising} {labels₀ : List ℕ} {s : Contents} {t : Raising} {labels : List ℕ} {r : Round}
    (g : Rounding rules names s₀ t₀ labels₀ s t labels r) where
  pub rounding_counts : Countable r
  rounding_counts = (omega (arith, g.few), omega (arith, g.few, g.fewer))

  pub rounding_end : s.size.lines ≤ r.next → Made rules (attempts_with rules names s₀ labels₀) s₀ t₀ s t r
  rounding_end h =
      let over : (addresses : Reading) → length (listing_now s addresses) ≤ r.next =
      (λ addresses. rw (now-length s g.current addresses) h) in
      record {
        current = g.current;
        limits = g.limits;
        few = rounding_counts;
        left = λ addresses. (sofar_end rules names _ (g.sofar addresses) (over addresses)).0;
        attempts_are = λ addresses. (sofar_end rules names _ (g.sofar addresses) (over addresses)).1;
        removed_is = λ addresses. (sofar_end rules names _ (g.sofar addresses) (over addresses)).2;
        marks = λ addresses. (sofar_end rules names _ (g.sofar addresses) (over addresses)).3.0;
        kept = g.kept;
        raised = λ addresses. (sofar_end rules names _ (g.sofar addresses) (over addresses)).3.1;
      }

  inside : r.next < s.size.lines → (addresses : Reading) → r.next < length (listing_now s addresses)
  inside h addresses = rw (now-length s g.current addresses) h

  module _ (lent : SameLent t₀ t) (h : r.next < s.size.lines) {s' : Contents} {t' : Raising} {labels' : List ℕ} {r' : Round} where
    next-failed : Failed rules names s t labels r s' t' labels' r'
        → Rounding rules names s₀ t₀ labels₀ s' t' labels' r' × (left_over s'.size.lines r' < left_over s.size.lines r)
    next-failed f =
        rw (f.same, f.same_tables, f.labels_are) (
          record {
            current = g.current;
            limits = g.limits;
            labelled = g.labelled;
            few = omega (arith, h, g.few, f.next_is, f.attempts_are);
            fewer = omega (arith, g.fewer, f.attempts_are, f.removed_is);
            kept = g.kept;
            sofar = λ addresses.
                rw (f.next_is, f.attempts_are, f.removed_is)
                (sofar-failed rules names _ (g.sofar addresses) (inside h addresses) (rw (labels_are s addresses labels) at (f.tried addresses))
                (λ done left had. (
                  carries_then done _ s₀ s s had.0 (carries_failed r.next (listing_now s addresses) s),
                  raises_then rules (listing_now s₀ addresses) s₀ t₀ done _ s t s t (on_as_before lent) had.1
                      (rw left (raises_failed rules (listing_now s addresses) s t r.next)),
                )));
          },
          omega (arith, h, f.next_is),
        )

    module _ (f : Succeeded rules names s t labels r s' t' labels' r') where
      -- the answer, with the labels read off the lines without addresses
      gave : (addresses : Reading) → try_at rules (listing_now s addresses) r.next (labels_at (bare_now s) labels) names ≡ some (listing_now s' addresses)
      gave addresses = rw (labels_are s addresses labels) at (f.joined.tried addresses)

      -- and of those lines
      gave_bare : try_at rules (bare_now s) r.next (labels_at (bare_now s) labels) names ≡ some (bare_now s')
      unfolding let_some◌else◌then◌
      gave_bare =
          ap (λ (ls : Listing). try_at rules ls r.next (labels_at (bare_now s) labels) names) (bare_is s numbered)
          ∙ try_at-bare rules (listing_now s numbered) r.next (labels_at (bare_now s) labels) names
          ∙ rw (gave numbered) (ap some (sym (bare_is s' numbered)))

      fewer-lines : suc s'.size.lines ≡ s.size.lines
      fewer-lines =
          rw (now-length s' f.joined.current numbered, now-length s g.current numbered)
          at (success-length rules names (listing_now s numbered) r.next _ (gave numbered))

      labels_move : labels_at (bare_now s') labels' ≡ shift r.next (labels_at (bare_now s) labels)
      labels_move = rw f.labels_are (sym (shift_labels rules (bare_now s) r.next _ names gave_bare labels g.labelled))

      less : left_over s'.size.lines r' < left_over s.size.lines r
      less = omega (arith, h, fewer-lines, f.next_is, back r.next)

      -- the lines that it was joined into, and the numbers of the lines that are left
      into : (addresses : Reading) → targets_now rules s labels r.next ≡ targets rules (listing_now s addresses) r.next (labels_at (bare_now s) labels)
      into addresses =
          ap (λ (ls : Listing). targets rules ls r.next (labels_at (bare_now s) labels)) (bare_is s addresses)
          ∙ targets-bare rules (listing_now s addresses) r.next _ names (gave addresses)

      numbers_left : map origin_of (used_lines s') ≡ remove r.next (map origin_of (used_lines s))
      numbers_left = numbers-remove s s' r.next (attempt_addresses rules (listing_now s numbered) r.next _ names (gave numbered))

      handed-on : (addresses : Reading)
          → Carries (success r.next (targets rules (listing_now s addresses) r.next (labels_at (bare_now s) labels)) (listing_now s' addresses) ∷ []) s s'
      handed-on addresses =
          let long : length (used_lines s) ≡ s.size.lines = length-take-le s.size.lines s.lines g.current.lines_fit in
          let same : length (listing_now s addresses) ≡ length (used_lines s) = now-length s g.current addresses ∙ sym long in
          carries_joined r.next _ (listing_now s' addresses) s s' (rw (into addresses) at f.joined.handed) (rw long h)
          (rw same at (attempt_joined rules (listing_now s addresses) r.next _ names (gave addresses)).each)
          numbers_left

      next-succeeded : Rounding rules names s₀ t₀ labels₀ s' t' labels' r' × (left_over s'.size.lines r' < left_over s.size.lines r)
      next-succeeded = (
        record {
          current = f.joined.current;
          limits = limits-after rules (bare_now s) r.next _ names gave_bare g.limits;
          labelled = rw f.labels_are (shift-labelled rules (bare_now s) r.next _ names gave_bare labels g.labelled);
          few = omega (arith, g.few, less, f.attempts_are);
          fewer = omega (arith, g.fewer, f.attempts_are, f.removed_is);
          kept = f.raised.kept;
          sofar = λ addresses.
              rw (f.next_is, f.attempts_are, f.removed_is, labels_move)
              (sofar-succeeded rules names _ (g.sofar addresses) (inside h addresses) (gave addresses)
              (λ done left had. (
                carries_then done _ s₀ s s' had.0 (handed-on addresses),
                raises_then rules (listing_now s₀ addresses) s₀ t₀ done _ s t s' t' (on_as_before lent) had.1
                    (rw left (raises_joined rules s t labels r.next s' t' f.raised addresses (into addresses))),
              )));
        },
        less,
      )

    turned : Turned rules names s t labels r s' t' labels' r'
        → Rounding rules names s₀ t₀ labels₀ s' t' labels' r' × (left_over s'.size.lines r' < left_over s.size.lines r)
    turned f = ⊎_elim next-failed next-succeeded f

    pub rounding_next : Turned rules names s t labels r s' t' labels' r' → Rounding rules names s₀ t₀ labels₀ s' t' labels' r'
    rounding_next f = (turned f).0

    pub rounding_less : Turned rules names s t labels r s' t' labels' r' → left_over s'.size.lines r' < left_over s.size.lines r
    rounding_less f = (turned f).1
