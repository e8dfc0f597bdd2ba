-- The marks of a finished line (M-105): which lines of the input come into it, and the lowest and highest of their addresses. The
-- listings of the run know nothing of them: "equality with the Rust leaves these marks out". Then the same marks as a program keeps them,
-- step by step: proofs/Marks.antt shows that the two are one. Assumes nothing.
use Rattle.std.specs.Prelude.{ℕ, suc, pred, Bool, List, [], ◌∷◌, ◌++◌, ltb, eqb, get_or, drop}
use Rattle.std.proofs.Math.Option.{none}
use Rattle.reference.specs.Control.{when◌then◌else◌, let_some◌else◌then◌}
use Rattle.reference.specs.Lists.{any, remove, modify}
use Rattle.reference.specs.Listing.{Line, Listing}
use Rattle.reference.specs.Rules.{Rules}
use Rattle.reference.specs.Spans.{Marks, hull, span_of}
use Rattle.reference.specs.Run.{Attempt, run, attempts_of, finished}

-- ---- which lines come into a line

-- the place of another line p once line i is removed
unfoldable pub moved : ℕ → ℕ → ℕ
moved i p = when ltb i p then pred p else p

-- Whether line p, before these attempts, comes into line q after them: "of itself and of every line joined into it, directly or through
-- others". A line that is removed goes on in each line that it is joined into ("A constant copied to four uses counts in all four"), any
-- other line in itself.
unfoldable pub comes_to : List Attempt → ℕ → ℕ → Bool
comes_to [] p q = eqb p q
comes_to (a ∷ more) p q =
    let tried : Bool = comes_to more p q in
    let joined : Bool = any (λ j. comes_to more (moved a.line j) q) a.into in
    let passed : Bool = comes_to more (moved a.line p) q in
    when a.removed then (when eqb p a.line then joined else passed) else tried

-- ---- their addresses

-- What a line adds, with the 03 that was read in after its command, if any: "lines without address add none; a 03 read in adds its two".
unfoldable pub adds : Line → Marks → List ℕ
adds l m = (let_some l.address else [] then λ a. a ∷ []) ++ (let_some m else [] then λ s. s.lowest ∷ s.highest ∷ [])

-- what those of the lines add, numbered from 0, that `comes` picks out
unfoldable pub added : (ℕ → Bool) → Listing → List Marks → List ℕ
added comes [] marks = []
added comes (l ∷ ls) marks = (when comes 0 then adds l (get_or marks 0 none) else []) ++ added (λ p. comes (suc p)) ls (drop 1 marks)

-- the marks of each line of a listing, by its place
unfoldable pub of_each : (ℕ → Marks) → Listing → List Marks
of_each f [] = []
of_each f (l ∷ ls) = f 0 ∷ of_each (λ q. f (suc q)) ls

-- the marks of the finished listing's lines; `marks` are the 03s that were read in with the input
unfoldable pub finished_marks : Rules → Listing → List Marks → List Marks
finished_marks rules input marks =
    let comes : ℕ → ℕ → Bool = comes_to (attempts_of (run rules input)) in
    of_each (λ q. span_of (added (λ p. comes p q) input marks)) (finished rules input)

-- ---- step by step

-- every line that one with the marks m is joined into takes the hull of its own and m
unfoldable pub take_in : Marks → List ℕ → List Marks → List Marks
take_in m [] marks = marks
take_in m (j ∷ js) marks = take_in m js (modify j (λ n. hull n m) marks)

-- ... and then that line is removed; an attempt that fails moves no mark
unfoldable pub carry : List Attempt → List Marks → List Marks
carry [] marks = marks
carry (a ∷ more) marks =
    let joined : List Marks = remove a.line (take_in (get_or marks a.line none) a.into marks) in
    carry more (when a.removed then joined else marks)

-- the marks of the lines themselves
unfoldable pub own_marks : Listing → List Marks → List Marks
own_marks [] marks = []
own_marks (l ∷ ls) marks = span_of (adds l (get_or marks 0 none)) ∷ own_marks ls (drop 1 marks)
