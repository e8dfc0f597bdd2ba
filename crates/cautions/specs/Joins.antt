-- The cautions of one join and of one cut, from the listing just before it, and on which of its lines they stand. Assumes nothing.
use Rattle.std.specs.Prelude.{ℕ, suc, Bool, false, List, [], ◌∷◌, map, eqb, ltb, length, get_or, reverse, drop, take, filter}
use Rattle.std.proofs.Math.Seq.{slice}
use Rattle.reference.specs.Control.{not, ◌and◌, ◌or◌, when◌then◌else◌, let_some◌else◌then◌}
use Rattle.reference.specs.Lists.{any, is_empty, is_some}
use Rattle.reference.specs.Text.{Text, bytes, ◌≟◌, has, starts_with}
use Rattle.reference.specs.Listing.{Token, is, Punct, Listing, ◌at◌}
use Rattle.reference.specs.Names.{Fam, family}
use Rattle.reference.specs.Rules.{Rules, volatile}
use Rattle.reference.specs.Shapes.{is_kw, call_in, assignment}
use Rattle.reference.specs.Run.{Attempt}
use Rattle.reference.specs.Marks.{moved}
use Rattle.cautions.specs.Kinds.{odd_form, still_read, overwritten, odd_number, slot, handed_over, ◌∪◌, ◌given◌, union}
use Rattle.cautions.specs.Texts.{holds}
use Rattle.cautions.specs.Forms.{is_entered, places, Ways, ways, hangs, is_dark, reads, reached}
use Rattle.cautions.specs.Uses.{places_of, use_cautions, numbers_odd}

-- ---- a register's value that is no longer put there

-- the registers in which a call may find an argument that it does not spell
abbrev pub first_arguments : ℕ → List Text
first_arguments c =
    when eqb c 0 then bytes "rcx" ∷ bytes "rdx" ∷ [] else when eqb c 1 then bytes "rdi" ∷ [] else bytes "rcx" ∷ []

-- a call with no arguments spelt (in 32-bit code: any call)
unfoldable pub takes_unspelt : Rules → Text → List Token → Bool
takes_unspelt rules fam ts =
    has (first_arguments rules.convention) fam and is_some (call_in ts)
    and (eqb rules.convention 0 or any (λ t. is Punct t and holds (bytes "()") t.text) ts)

-- the head of the listing says that nothing is returned
unfoldable pub is_void : Listing → Bool
is_void lines = any (is_kw (bytes "void")) (take 1 (lines at 0).tokens)

-- what a caller finds: the result, and the registers that calls preserve
unfoldable pub for_caller : Rules → Listing → Text → Bool
for_caller rules lines fam =
    ((fam ≟ bytes "rax") and not (is_void lines)) or (not (has (volatile rules) fam) and not (starts_with fam (bytes "var_")))

-- one of the lines that the value reaches hands it over
unfoldable pub is_handed : Rules → Listing → Text → List ℕ → Bool
is_handed rules lines fam far =
    any (λ k. takes_unspelt rules fam (lines at k).tokens) far or (any (eqb (length lines)) far and for_caller rules lines fam)

-- ---- one join: line i, which assigns `expr` to f, into the lines `into`

module _ (rules : Rules) (lines : Listing) (ways : Ways) (i : ℕ) (f : Fam) (expr : List Token) where
  -- a line from i to the last use is not looked into, or control may come to one of them from elsewhere
  unfoldable pub is_odd : ℕ → Bool
  is_odd last =
      hangs lines ways i
      or any (is_dark lines ways) (slice i (suc last) (places lines))
      or any (λ l. is_entered l.tokens) (slice (suc i) (suc last) lines)

  -- a call stands between line i and the last use, and may overwrite the register
  unfoldable pub past_call : ℕ → Bool
  past_call last = has (volatile rules) f.name and any (λ l. is_some (call_in l.tokens)) (slice (suc i) last lines)

  -- those of the line j, which the join rewrites to `new`
  unfoldable pub line_cautions : ℕ → List Token → ℕ
  line_cautions j new =
      let old : List Token = (lines at j).tokens in
      odd_number given numbers_odd f expr old new
      ∪ union (map (λ u. use_cautions rules f expr old u (slice (suc i) j lines) new) (places_of f.name 0 old))

  -- those of the lines `into`, of which `left` is what the join makes
  unfoldable pub uses_cautions : List ℕ → Listing → ℕ
  uses_cautions into left =
      let last : ℕ = get_or (reverse into) 0 i in
      odd_form given is_odd last ∪ overwritten given past_call last ∪ slot given starts_with f.name (bytes "var_")
      ∪ union (map (λ j. line_cautions j (left at moved i j).tokens) into)

-- ---- on which lines they stand

-- no kind on any line
abbrev pub none_yet : Listing → List ℕ
none_yet lines = map (λ l. 0) lines

-- the set s too on those lines of `into`, the first of the lines being line p
unfoldable pub put : ℕ → List ℕ → ℕ → List ℕ → List ℕ
put s into p [] = []
put s into p (t ∷ ts) = (t ∪ s given any (eqb p) into) ∷ put s into (suc p) ts

-- A value of line i, which reaches the lines `far`, is no longer put in the register. The lines that are rewritten, or the cut one, get
-- all; of the others that it reaches those that are not looked into get `odd_form`, and those that read it `still_read`.
module _ (rules : Rules) (lines : Listing) (ways : Ways) (i : ℕ) (fam : Text) (far : List ℕ) where
  unfoldable pub dark_in : List ℕ → List ℕ
  dark_in others = filter (is_dark lines ways) others

  unfoldable pub stale_in : List ℕ → List ℕ
  stale_in others = filter (λ k. not (is_dark lines ways k) and reads fam (lines at k).tokens) others

  -- `s` are the cautions that the lines `into` have besides, `again` says that line i itself reads the value
  unfoldable pub spread : ℕ → List ℕ → Bool → List ℕ
  spread s into again =
      let others : List ℕ = filter (λ k. ltb k (length lines) and not (any (eqb k) (i ∷ into))) far in
      let dark : List ℕ = dark_in others in
      let stale : List ℕ = stale_in others in
      let own : ℕ =
      s ∪ odd_form given (not (is_empty dark) or is_dark lines ways i) ∪ still_read given (not (is_empty stale) or again)
      ∪ handed_over given is_handed rules lines fam far in
      put odd_form dark 0 (put still_read stale 0 (put own into 0 (none_yet lines)))

-- The cautions that a successful attempt puts on each line of the listing before it.
unfoldable pub join_cautions : Rules → Listing → Attempt → List ℕ
join_cautions rules lines a =
    let_some (assignment (lines at a.line)) else [] then λ s.
    let_some (family s.lhs.text) else [] then λ f.
    let ways : Ways = ways lines in
    let far : List ℕ = reached lines ways a.line f.name (volatile rules) in
    spread rules lines ways a.line f.name far (uses_cautions rules lines ways a.line f s.expr a.into a.left) a.into false

-- those that the cut of line i's result puts on each line; it may read the result of its last turn
unfoldable pub cut_cautions : Rules → Listing → ℕ → List ℕ
cut_cautions rules lines i =
    let rax : Text = bytes "rax" in
    let ways : Ways = ways lines in
    let far : List ℕ = reached lines ways i rax (volatile rules) in
    spread rules lines ways i rax far 0 (i ∷ []) (any (eqb i) far and reads rax (drop 2 (lines at i).tokens))
