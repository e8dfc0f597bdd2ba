-- What became of a raw line, by the raw listing, the finished one, and the number of the finished line that it became, if it is not gone.
-- Assumes nothing.
use Rattle.std.specs.Prelude.{ℕ, ◌+◌, Bool, true, false, List, [], ◌∷◌, eqb}
use Rattle.std.proofs.Math.Option.{Option, none, some}
use Rattle.reference.specs.Control.{not, ◌and◌, ◌or◌, when◌then◌else◌, let_some◌else◌then◌}
use Rattle.reference.specs.Lists.{get}
use Rattle.reference.specs.Text.{bytes, ◌≟◌, starts_with}
use Rattle.reference.specs.Listing.{Token, Line, Listing}
use Rattle.reference.specs.Shapes.{is_label}
use Rattle.reference.specs.Claim.{one_if}
use Rattle.tallies.specs.declared.fates.Fate.{Fate}
use Rattle.tallies.specs.declared.fates.Fate.TheVariants.{Gone, Rewritten, Cut, Kept}

-- ---- the same

abbrev pub same_token : Token → Token → Bool
same_token t u = eqb t.kind u.kind and (t.text ≟ u.text)

unfoldable pub same_tokens : List Token → List Token → Bool
same_tokens [] [] = true
same_tokens [] (u ∷ us) = false
same_tokens (t ∷ ts) [] = false
same_tokens (t ∷ ts) (u ∷ us) = same_token t u and same_tokens ts us

abbrev pub same_address : Option ℕ → Option ℕ → Bool
same_address none none = true
same_address none (some b) = false
same_address (some a) none = false
same_address (some a) (some b) = eqb a b

-- the same address, indent and tokens
unfoldable pub same_line : Line → Line → Bool
same_line l m = same_address l.address m.address and (eqb l.indent m.indent and same_tokens l.tokens m.tokens)

-- ---- a result that is cut

-- whether tokens begin with what a cut takes away: the name of a result, and ` = `. (A join may lengthen the second token at its end.)
unfoldable pub begins_result : List Token → Bool
begins_result [] = false
begins_result (a ∷ []) = false
begins_result (a ∷ b ∷ ts) = ((a.text ≟ bytes "rax") or (a.text ≟ bytes "eax")) and starts_with b.text (bytes " = ")

-- ---- what became of a line

-- of one that became another
unfoldable pub fate_as : Line → Line → Fate
fate_as l m =
    when same_line l m then Kept
    else when begins_result l.tokens and not (begins_result m.tokens) then Cut
    else Rewritten

-- of raw line k, which became the finished line `place`
unfoldable pub fate_of : Listing → ℕ → Listing → Option ℕ → Fate
fate_of raw k finished place =
    let_some (get raw k) else Gone then λ l.
    let_some place else Gone then λ q.
    let_some (get finished q) else Gone then λ m.
    fate_as l m

abbrev pub is_kept : Fate → Bool
is_kept Gone = false
is_kept Rewritten = false
is_kept Cut = false
is_kept Kept = true

-- ---- the labels that stand

-- whether raw line k is a label, and unchanged
unfoldable pub label_stands : Listing → ℕ → Listing → Option ℕ → Bool
label_stands raw k finished place = (let_some (get raw k) else false then is_label) and is_kept (fate_of raw k finished place)

-- how many do, of the raw lines from k on, by the finished lines that they became
unfoldable pub standing_from : Listing → Listing → ℕ → List (Option ℕ) → ℕ
standing_from raw finished k [] = 0
standing_from raw finished k (p ∷ ps) = one_if (label_stands raw k finished p) + standing_from raw finished (k + 1) ps
