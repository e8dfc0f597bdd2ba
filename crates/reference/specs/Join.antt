-- `propagate_constant` and `try_at` of pseudo_opt.rs. Each answers the listing that it leaves, or none where it returns false and changes
-- nothing. Assumes nothing.
use Rattle.std.specs.Prelude.{ℕ, suc, ◌-◌, Bool, false, List, [], ◌∷◌, ◌++◌, ltb, eqb, length, drop, take}
use Rattle.std.proofs.Math.Option.{Option, none, some}
use Rattle.reference.specs.Control.{not, ◌and◌, ◌or◌, when◌then◌else◌, let_some◌else◌then◌}
use Rattle.reference.specs.Lists.{any, position, is_some, is_empty, get, remove, modify}
use Rattle.reference.specs.Text.{Text, bytes, has, contains, ◌≟◌, starts_with, ends_with, trim_start}
use Rattle.reference.specs.Listing.{Token, token, is, Register, Number, Keyword, Symbol, Punct, Line, Listing, ◌at◌, with_tokens}
use Rattle.reference.specs.Names.{Fam, family, fam_of, of_family}
use Rattle.reference.specs.Rules.{Rules, volatile}
use Rattle.reference.specs.Numbers.{fold, merge}
use Rattle.reference.specs.Shapes.{is_label, has_kw, opens_or_closes, call_at, assignment, is_written, is_operator_expr}
use Rattle.reference.specs.Life.{touch, match_touch, is_kill, Labels, dead_after}

-- whether a token of the family is written: `(0..t.len()).any(|p| fam_of(&t[p]) .. && is_written(t, p))`
unfoldable pub written_from : Text → List Token → Bool
written_from fam [] = false
written_from fam (t ∷ ts) = let r = written_from fam ts in (of_family fam t and is_written (t ∷ ts) 0) or r

-- ---- a lone number, to several uses

-- the lines that use the family, and the last line that was touched
abbrev pub Uses : Type 0
Uses = record { uses : List ℕ; last : ℕ }

-- what ends the run of lines before a line is looked at
unfoldable pub ends_run : ℕ → Line → Bool
ends_run base-indent l = is_label l or not (eqb l.indent base-indent) or has_kw l "while" or has_kw l "goto"

module _ (base-indent : ℕ) (fam : Text) (volatile : List Text) where
  -- the scan from the line j on
  unfoldable pub gather : ℕ → Listing → ℕ → Uses
  gather j [] last = record { uses = []; last = last }
  gather j (l ∷ rest) last =
      let passed : Uses = gather (suc j) rest last in
      let used : Uses = gather (suc j) rest j in
      when ends_run base-indent l then record { uses = []; last = last }
      else match_touch (touch l fam volatile)
      (when opens_or_closes l then record { uses = []; last = last } else passed)
      (record { uses = []; last = j })
      (λ n. when opens_or_closes l then record { uses = j ∷ []; last = j } else record { uses = j ∷ used.uses; last = used.last })

-- the first token is of the family, and a Punct after it is neither ` = ` nor ` ==`
unfoldable pub updates_first : Text → List Token → Bool
updates_first fam t =
    any (of_family fam) (take 1 t)
    and (let_some (get t 1) else false then λ x.
    is Punct x and not (starts_with x.text (bytes " = ")) and not (starts_with x.text (bytes " ==")))

-- a token of the family at less than 32 bits
unfoldable pub is_narrow : Text → Token → Bool
is_narrow fam x = let_some (fam_of x) else false then λ f. (f.name ≟ fam) and ltb f.width 32

-- a use that is no read, or a narrow one
unfoldable pub bad_use : Text → List Token → Bool
bad_use fam t = written_from fam t or updates_first fam t or any (is_narrow fam) t

unfoldable pub substitute : Text → List Token → List Token → List Token
substitute fam expr [] = []
substitute fam expr (t ∷ ts) = let r = substitute fam expr ts in when of_family fam t then expr ++ r else t ∷ r

unfoldable pub rewrite_use : ℕ → Text → List Token → Line → Line
rewrite_use edition fam expr l = with_tokens (fold edition (merge (substitute fam expr l.tokens))) l

-- `for &j in &uses { lines[j].tokens = .. }`
unfoldable pub rewrite_uses : ℕ → Text → List Token → List ℕ → Listing → Listing
rewrite_uses edition fam expr [] lines = lines
rewrite_uses edition fam expr (j ∷ js) lines = rewrite_uses edition fam expr js (modify j (rewrite_use edition fam expr) lines)

unfoldable pub propagate_constant : ℕ → Listing → ℕ → Text → List Token → Labels → List Text → Option Listing
propagate_constant edition lines i fam expr labels volatile =
    let base-indent : ℕ = (lines at i).indent in
    let found : Uses = gather base-indent fam volatile (suc i) (drop (suc i) lines) i in
    let changed : Listing = remove i (rewrite_uses edition fam expr found.uses lines) in
    when is_empty found.uses
    or (not (dead_after lines found.last fam base-indent labels i volatile)
    and not (is_kill (touch (lines at found.last) fam volatile)))
    then none
    else when any (λ j. bad_use fam (lines at j).tokens) found.uses then none
    else some changed

-- ---- an expression, to one use

-- whether a token reads memory, behind the token `before`
unfoldable pub reads_here : Option Token → Token → Bool
reads_here before t =
    (is Keyword t and starts_with t.text (bytes "*("))
    or (is Register t and starts_with t.text (bytes "var_"))
    or (is Symbol t and not (let_some before else false then λ b. ends_with b.text (bytes "&")))

unfoldable pub reads_after : Option Token → List Token → Bool
reads_after before [] = false
reads_after before (t ∷ ts) = let r = reads_after (some t) ts in reads_here before t or r

unfoldable pub reads_memory : List Token → Bool
reads_memory expr = reads_after none expr

unfoldable pub expr_fams : List Token → List Text
expr_fams [] = []
expr_fams (t ∷ ts) = let r = expr_fams ts in let_some (fam_of t) else r then λ f. f.name ∷ r

module _ (base-indent : ℕ) (fam : Text) (expr : List Token) (is_call : Bool) (volatile : List Text) where
  -- a line that the expression may pass: a plain register assignment that leaves its inputs alone
  unfoldable pub harmless : Line → Bool
  harmless l =
      not (is_call or opens_or_closes l or is_some (call_at l) or not (eqb l.indent base-indent))
      and (let_some (assignment l) else false then λ a.
      let_some (family a.lhs.text) else false then λ f.
      not (has (expr_fams expr) f.name)
      and not (reads_memory expr and starts_with a.lhs.text (bytes "var_")))

  -- the single use: the next line that touches the family, through harmless lines only
  unfoldable pub use_from : ℕ → Listing → Option ℕ
  use_from j [] = none
  use_from j (l ∷ rest) =
      let next = use_from (suc j) rest in
      when is_label l then none
      else match_touch (touch l fam volatile)
      (when harmless l then next else none)
      none
      (λ n. when eqb n 1 then some j else none)

-- `starts_with(|c: char| "+-*/&|^<>=".contains(c))`
unfoldable pub starts_with_operator : Text → Bool
starts_with_operator [] = false
starts_with_operator (c ∷ cs) = contains (bytes "+-*/&|^<>=") c

abbrev pub text_or_empty : Option Token → Text
text_or_empty o = let_some o else [] then λ t. t.text

-- the texts beside the token at `pos`
unfoldable pub text_before : List Token → ℕ → Text
text_before toks pos = when eqb pos 0 then [] else text_or_empty (get toks (pos - 1))

unfoldable pub text_after : List Token → ℕ → Text
text_after toks pos = text_or_empty (get toks (suc pos))

unfoldable pub standalone : Text → Text → Bool
standalone before after =
    (ends_with before (bytes "(") or ends_with before (bytes ", ") or ends_with before (bytes " = "))
    and (starts_with after (bytes ")") or starts_with after (bytes ",") or starts_with after (bytes ";"))

-- whether a joined expression gets brackets where no delimiters spare it. M-106: "In this profile every joined expression of more than
-- one token gets brackets"; "In a call without the profile the Rust's bracket rule remains."
unfoldable pub is_bracketed : Rules → List Token → Bool
is_bracketed rules expr = when rules.profile then ltb 1 (length expr) else is_operator_expr expr

-- the expression, in brackets where it needs them
unfoldable pub replacement : Rules → List Token → Text → Text → List Token
replacement rules expr before after =
    when is_bracketed rules expr and not (standalone before after)
    then token Punct (bytes "(") ∷ expr ++ (token Punct (bytes ")") ∷ [])
    else expr

-- the use's tokens with the one at `pos` replaced
unfoldable pub replace_at : Rules → List Token → ℕ → List Token → List Token
replace_at rules toks pos expr = take pos toks ++ replacement rules expr (text_before toks pos) (text_after toks pos) ++ drop (suc pos) toks

unfoldable pub rewrite_one : Rules → ℕ → List Token → Line → Line
rewrite_one rules pos expr l = with_tokens (fold rules.edition (merge (replace_at rules l.tokens pos expr))) l

unfoldable pub use_width : List Token → ℕ → ℕ
use_width toks pos = let_some (get toks pos) else 64 then λ t. let_some (family t.text) else 64 then λ f. f.width

unfoldable pub use_lowest : List Token → ℕ → ℕ
use_lowest toks pos = let_some (get toks pos) else 0 then λ t. let_some (family t.text) else 0 then λ f. f.lowest

-- M-104: "a use below 32 bits [..], if that use's width or lowest bit is not the assigned register's"
unfoldable pub other_part : Fam → List Token → ℕ → Bool
other_part f toks pos =
    ltb (use_width toks pos) 32 and (not (eqb (use_width toks pos) f.width) or not (eqb (use_lowest toks pos) f.lowest))

-- a use on the left of a compound operator is a write
unfoldable pub is_compound : List Token → ℕ → Bool
is_compound toks pos =
    eqb pos 0
    and (let_some (get toks 1) else false then λ t.
    is Punct t and starts_with_operator (trim_start t.text) and not (starts_with t.text (bytes " = ")))

-- whether the use at `pos` may be replaced by an expression that was assigned to f; M-104: "Under a new parts setting an attempt that
-- would join" another part "fails, changing nothing"
unfoldable pub replaceable : Bool → Fam → List Token → ℕ → Bool
replaceable parts f toks pos =
    not ((ltb (use_width toks pos) 32 or ltb f.width 32) and not (eqb (use_width toks pos) f.width))
    and not (parts and other_part f toks pos)
    and not (is_compound toks pos)
    and not (written_from f.name toks)

-- line i joined into the use on line j
unfoldable pub join_at : Rules → Listing → ℕ → Fam → List Token → Labels → List Text → ℕ → Option Listing
join_at rules lines i f expr labels volatile j =
    when has_kw (lines at j) "while" or not (dead_after lines j f.name (lines at i).indent labels i volatile) then none
    else let_some (position (of_family f.name) (lines at j).tokens) else none then λ pos.
    when replaceable rules.parts f (lines at j).tokens pos
    then some (remove i (modify j (rewrite_one rules pos expr) lines))
    else none

unfoldable pub join_one : Rules → Listing → ℕ → Fam → List Token → Labels → List Text → Option Listing
join_one rules lines i f expr labels volatile =
    let_some (use_from (lines at i).indent f.name expr (is_some (call_at (lines at i))) volatile (suc i) (drop (suc i) lines)) else
    none then λ j.
    join_at rules lines i f expr labels volatile j

-- `if let [t] = expr.as_slice() { if t.k == TokenKind::Number`
unfoldable pub lone_number : List Token → Bool
lone_number [] = false
lone_number (t ∷ []) = is Number t
lone_number (t ∷ u ∷ us) = false

-- one attempt (document 01's term), at line i
unfoldable pub try_at : Rules → Listing → ℕ → Labels → List Text → Option Listing
try_at rules lines i labels addressed =
    let_some (assignment (lines at i)) else none then λ a.
    let_some (family a.lhs.text) else none then λ f.
    let constant : Option Listing =
    when lone_number a.expr then propagate_constant rules.edition lines i f.name a.expr labels (volatile rules) else none in
    let joined : Option Listing = join_one rules lines i f a.expr labels (volatile rules) in
    when has addressed f.name or any (of_family f.name) a.expr then none
    else let_some constant else joined then λ lines'. some lines'

-- ---- the lines that it is joined into (M-105)

-- of a lone number every use, of an expression the one: the lines that an attempt at line i changes, if it succeeds, by their places
-- before it
unfoldable pub targets : Rules → Listing → ℕ → Labels → List ℕ
targets rules lines i labels =
    let_some (assignment (lines at i)) else [] then λ a.
    let_some (family a.lhs.text) else [] then λ f.
    let uses : List ℕ = (gather (lines at i).indent f.name (volatile rules) (suc i) (drop (suc i) lines) i).uses in
    let one : List ℕ =
    let_some (use_from (lines at i).indent f.name a.expr (is_some (call_at (lines at i))) (volatile rules) (suc i)
    (drop (suc i) lines))
    else [] then λ j. j ∷ [] in
    when lone_number a.expr and is_some (propagate_constant rules.edition lines i f.name a.expr labels (volatile rules))
    then uses else one
