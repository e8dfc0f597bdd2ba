-- Question 18: an accepted tape has no command with a bad address exactly if no address of its listing and of its marks is bad. Assumes nothing.
use Prim.Native.Nat.{ℕ, zero, suc, ◌+◌, ◌≤◌}
use native.Mathlib.Omega.{arith}
use mathlib.Core.Path.{◌≡◌, refl, sym, ap, ◌∙◌}
use mathlib.Core.Bool.{Bool, true, false, true≢false}
use mathlib.Core.List.{List, [], ◌∷◌, ◌++◌}
use mathlib.Core.Option.{Option, none, some}
use lib.ListN.{length, drop, length-drop}
use Rattle.reference.specs.Control.{◌or◌, when◌then◌else◌}
use Rattle.reference.specs.Lists.{any, modify}
use Rattle.reference.specs.Listing.{Listing}
use Rattle.reference.specs.Spans.{Marks}
use Rattle.reference.specs.Tape.{TapeForm, header, Command, new_line, marked, new_token, end, command_size_by, command_by}
use Rattle.reference.specs.Questions.{has_line, is_end, add, add_marks, Answer, Passed, read_from_by, read_by, marks_in_by}
use Rattle.reference.proofs.Cases.{by-if, none-some, some_inj, true-false, neither, both}
use Rattle.reference.proofs.Reading.{refused_passed, by_passed, PassesBy, command_passed_by, State, start_by, left, after_by, ReachedBy, here, on, accepts_by, size_positive, marks-read}
use Rattle.reference.proofs.Writing.{with_token, mark-last}
use Rattle.reference.proofs.Limits.{All, all_append, all-modify}
use Rattle.reference.proofs.Tapes.{KeptBy, kept}
use Rattle.offsets.specs.Offsets.{addresses, first_from, first_with}
use Rattle.offsets.proofs.Moving.{OfLine, OfMarks}

module _ {A : Type 0} where
  all_split : (P : A → Type 0) (xs ys : List A) → All P (xs ++ ys) → All P xs × All P ys
  all_split P [] ys h = (tt, h)
  all_split P (x ∷ xs) ys h = let r = all_split P xs ys h.1 in ((h.0, r.0), r.1)

  all_unmodify : (P : A → Type 0) (g : A → A) → ((x : A) → P (g x) → P x) → (i : ℕ) (xs : List A) → All P (modify i g xs) → All P xs
  all_unmodify P g h i [] k = tt
  all_unmodify P g h zero (x ∷ xs) k = (h x k.0, k.1)
  all_unmodify P g h (suc i) (x ∷ xs) k = (k.0, all_unmodify P g h i xs k.1)

module _ (bad : ℕ → Bool) where
  abbrev pub Good : ℕ → Type 0
  Good a = bad a ≡ false

  -- ---- one command more

  good_line : (c : Command) (lines : Listing) → any bad (addresses c) ≡ false → All (OfLine Good) lines → All (OfLine Good) (add c lines)
  unfolding addresses add
  good_line (new_line none indent) lines h k = all_append _ lines _ k (tt, tt)
  good_line (new_line (some a) indent) lines h k = all_append _ lines _ k ((neither h).0, tt)
  good_line (marked s) lines h k = k
  good_line (new_token t) lines h k = all-modify _ (with_token t) (λ l u. u) _ lines k
  good_line end lines h k = k

  good-mark : (c : Command) (marks : List Marks) → any bad (addresses c) ≡ false → All (OfMarks Good) marks → All (OfMarks Good) (add_marks c marks)
  unfolding addresses add_marks
  good-mark (new_line address indent) marks h k = all_append _ marks _ k (tt, tt)
  good-mark (marked s) marks h k = let n = neither h in all-modify _ (λ m. some s) (λ m u. (n.0, (neither n.1).0)) _ marks k
  good-mark (new_token t) marks h k = k
  good-mark end marks h k = k

  -- and one less: what a listing and marks tell of the command that they end with
  record Less (c : Command) (lines : Listing) (marks : List Marks) : Type 0 where
    lines_good : All (OfLine Good) lines
    marks_good : All (OfMarks Good) marks
    none_bad : any bad (addresses c) ≡ false

  less : {form : TapeForm} (s : State) (c : Command) → KeptBy form s → has_line s.totals c ≡ true → is_end c ≡ false → All (OfLine Good) (add c s.lines)
      → All (OfMarks Good) (add_marks c s.marks) → Less c s.lines s.marks
  unfolding addresses add add_marks has_line ◌or◌
  less s (new_line none indent) k b n gl gm = record { lines_good = (all_split _ s.lines _ gl).0; marks_good = (all_split _ s.marks _ gm).0; none_bad = refl }
  less s (new_line (some a) indent) k b n gl gm =
      let l = all_split _ s.lines _ gl in
      record { lines_good = l.0; marks_good = (all_split _ s.marks _ gm).0; none_bad = rw l.1.0 }
  less s (marked span) k b n gl gm =
      let f = k.fresh (both b).0 in
      let e : add_marks (marked span) s.marks ≡ f.marks_above ++ (some span ∷ []) = ap (add_marks (marked span)) f.marks_are ∙ mark-last span f.marks_above none in
      let g = all_split _ f.marks_above _ (rw e at gm) in
      record { lines_good = gl; marks_good = rw f.marks_are (all_append _ f.marks_above _ g.0 (tt, tt)); none_bad = rw (g.1.0.0, g.1.0.1) }
  less s (new_token t) k b n gl gm = record { lines_good = all_unmodify _ (with_token t) (λ l u. u) _ s.lines gl; marks_good = gm; none_bad = refl }
  less s end k b n gl gm = absurd (true≢false n)

  module _ (form : TapeForm) (tape : List ℕ) where
    abbrev pub at_place : ℕ → Command
    at_place at = command_by form (drop at tape)

    abbrev pub next : ℕ → ℕ
    next at = at + command_size_by form (drop at tape)

    pub first_step : (m at : ℕ) → is_end (at_place at) ≡ false → first_from form bad (suc m) tape at ≡ none
        → (any bad (addresses (at_place at)) ≡ false) × (first_from form bad m tape (next at) ≡ none)
    unfolding first_from
    first_step m at n =
        by-if (λ (x : Option ℕ). x ≡ none → (any bad (addresses (at_place at)) ≡ false) × (first_from form bad m tape (next at) ≡ none))
        (λ yes e. absurd (none-some (sym e)))
        (λ no. by-if (λ (x : Option ℕ). x ≡ none → (any bad (addresses (at_place at)) ≡ false) × (first_from form bad m tape (next at) ≡ none))
        (λ ends e. absurd (true-false ends n))
        (λ goes e. (no, e)))

    pub first_on : (m at : ℕ) → is_end (at_place at) ≡ false → any bad (addresses (at_place at)) ≡ false
        → first_from form bad (suc m) tape at ≡ first_from form bad m tape (next at)
    unfolding first_from when◌then◌else◌
    first_on m at n h = rw (h, n)

    pub first_here : (m at : ℕ) → any bad (addresses (at_place at)) ≡ true → first_from form bad (suc m) tape at ≡ some at
    unfolding first_from when◌then◌else◌
    first_here m at h = rw h

    pub first_end : (m at : ℕ) → is_end (at_place at) ≡ true → first_from form bad (suc m) tape at ≡ none
    unfolding first_from when◌then◌else◌ addresses
    first_end m at e = rw (ends (at_place at) e, e)
      where
        ends : (c : Command) → is_end c ≡ true → any bad (addresses c) ≡ false
        ends (new_line address indent) e = absurd (true≢false (sym e))
        ends (marked s) e = absurd (true≢false (sym e))
        ends (new_token t) e = absurd (true≢false (sym e))
        ends end e = refl

    some_fuel : (s : State) → PassesBy form (left tape s) s.totals → (f : ℕ) → length (left tape s) ≤ f → (n : ℕ) × (f ≡ suc n)
    some_fuel s p zero le = absurd (omega (arith, size_positive (left tape s) p.known, p.inside))
    some_fuel s p (suc n) le = (n, refl)

    less_left : (s : State) → PassesBy form (left tape s) s.totals → (n : ℕ) → length (left tape s) ≤ suc n → length (drop (next s.at) tape) ≤ n
    less_left s p n le =
        omega (arith, size_positive (left tape s) p.known, p.inside, length-drop s.at tape, length-drop (next s.at) tape)

    -- ---- none is bad, so none of the listing and the marks

    record Clear (s : State) : Type 0 where
      fuel : ℕ
      plenty : length (left tape s) ≤ fuel
      none_left : first_from form bad fuel tape s.at ≡ none
      lines_good : All (OfLine Good) s.lines
      marks_good : All (OfMarks Good) s.marks

    clear : first_with form bad tape ≡ none → {s : State} → ReachedBy form tape s → Clear s
    unfolding first_with
    clear e here = record { fuel = length tape; plenty = omega (arith, length-drop (header form) tape); none_left = e; lines_good = tt; marks_good = tt }
    clear e (on {s = s} r p n) =
        let k = clear e r in
        let f = some_fuel s p k.fuel k.plenty in
        let t = first_step f.0 s.at n (rw f.1 at k.none_left) in
        record {
          fuel = f.0;
          plenty = less_left s p f.0 (omega (arith, k.plenty, f.1));
          none_left = t.1;
          lines_good = good_line (at_place s.at) s.lines t.0 k.lines_good;
          marks_good = good-mark (at_place s.at) s.marks t.0 k.marks_good;
        }

    pub none_bad_in : (lines : Listing) → read_by form tape ≡ Passed lines → first_with form bad tape ≡ none
        → All (OfLine Good) lines × All (OfMarks Good) (marks_in_by form tape)
    none_bad_in lines reads e =
        let a = accepts_by form tape lines reads in
        let k = clear e a.reached in
        (rw a.listing at k.lines_good, rw (marks-read tape lines a) k.marks_good)

    -- ---- none of the listing and the marks is bad, so none is

    record Walked (s : State) : Type 0 where
      fuel : ℕ
      plenty : length (left tape s) ≤ fuel
      so_far : first_with form bad tape ≡ first_from form bad fuel tape s.at

    walked : {s : State} → ReachedBy form tape s → All (OfLine Good) s.lines → All (OfMarks Good) s.marks → Walked s
    unfolding first_with
    walked here gl gm = record { fuel = length tape; plenty = omega (arith, length-drop (header form) tape); so_far = refl }
    walked (on {s = s} r p n) gl gm =
        let l = less s (at_place s.at) (kept tape r) p.begun n gl gm in
        let k = walked r l.lines_good l.marks_good in
        let f = some_fuel s p k.fuel k.plenty in
        record {
          fuel = f.0;
          plenty = less_left s p f.0 (omega (arith, k.plenty, f.1));
          so_far = k.so_far ∙ ap (λ (m : ℕ). first_from form bad m tape s.at) f.1 ∙ first_on f.0 s.at n l.none_bad;
        }

    pub no_bad_in : (lines : Listing) → read_by form tape ≡ Passed lines → All (OfLine Good) lines → All (OfMarks Good) (marks_in_by form tape)
        → first_with form bad tape ≡ none
    no_bad_in lines reads gl gm =
        let a = accepts_by form tape lines reads in
        let s = a.state in
        let k = walked a.reached (rw a.listing gl) (rw (marks-read tape lines a) at gm) in
        let f = some_fuel s a.passes k.fuel k.plenty in
        k.so_far ∙ ap (λ (m : ℕ). first_from form bad m tape s.at) f.1 ∙ first_end f.0 s.at a.ends

    -- ---- the place that 18 tells is that of the first command with a bad address

    pub record FirstAt (place : ℕ) : Type 0 where
      pub state : State
      pub reached : ReachedBy form tape state
      pub at_is : state.at ≡ place
      pub is_bad : any bad (addresses (command_by form (left tape state))) ≡ true
      -- and no address before it is bad
      pub lines_good : All (OfLine Good) state.lines
      pub marks_good : All (OfMarks Good) state.marks

    pub found : (lines : Listing) (place : ℕ) → read_by form tape ≡ Passed lines → first_with form bad tape ≡ some place → FirstAt place
    unfolding read_by read_from_by first_with first_from when◌then◌else◌
    found lines place = go (length tape) (start_by form) here tt tt
      where
        go : (fuel : ℕ) (s : State) → ReachedBy form tape s → All (OfLine Good) s.lines → All (OfMarks Good) s.marks
            → read_from_by form fuel tape s.at s.totals s.lines ≡ Passed lines → first_from form bad fuel tape s.at ≡ some place → FirstAt place
        go zero s r gl gm = λ e. absurd (refused_passed e)
        go (suc fuel) s r gl gm =
            by_passed (λ (x : Answer Listing). x ≡ Passed lines → first_from form bad (suc fuel) tape s.at ≡ some place → FirstAt place)
            (λ number place u e. absurd (refused_passed e))
            (λ a known e.
            (let p = command_passed_by form tape s.at s.totals a known in
            let e' = rw p.1 at e in
            by-if (λ (x : Option ℕ). x ≡ some place → FirstAt place)
            (λ yes f. record { state = s; reached = r; at_is = some_inj f; is_bad = yes; lines_good = gl; marks_good = gm })
            (λ no. by-if (λ (x : Option ℕ). x ≡ some place → FirstAt place)
            (λ ends f. absurd (none-some f))
            (λ goes f.
            go fuel (after_by form tape s) (on r p.0 goes) (good_line (at_place s.at) s.lines no gl) (good-mark (at_place s.at) s.marks no gm) (rw goes at e') f))))
