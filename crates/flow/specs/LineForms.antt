-- A line's form as one of a few, and what else is asked of a line by itself. Assumes nothing.
use Rattle.std.specs.Prelude.{◌+◌, ◌≤◌, ◌≡◌, Bool, true, false, List, [], ◌∷◌}
use Rattle.std.proofs.Math.Option.{Option, none, some}
use Rattle.reference.specs.Control.{◌and◌, ◌or◌, when◌then◌else◌}
use Rattle.reference.specs.Text.{Text, bytes, has, contains}
use Rattle.reference.specs.Listing.{Token, is, Keyword, Punct}
use Rattle.cautions.specs.Texts.{is_opaque}
use Rattle.cautions.specs.Forms.{CASES, WORDS, form, is_case, is_entered}
use Rattle.flow.specs.declared.lineforms.Form.{Form}
use Rattle.flow.specs.declared.lineforms.Form.TheVariants.{Empty, Statement, Label, Opening, Block, Guarded, Do, Goto, IfGoto, Return}
use Rattle.flow.specs.declared.lineforms.Form.TheVariants.{IfReturn, While, Closing, If, ElseIf, Else, Switch, Other}
use Rattle.flow.specs.declared.lineforms.LineForm.{LineForm}
use Rattle.flow.specs.Spelling.{unmatched}

-- the text of a form; `Other` has none
abbrev pub text_of_form : Form → Text
text_of_form Empty = []
text_of_form Statement = bytes ";"
text_of_form Label = bytes ":"
text_of_form Opening = bytes "{"
text_of_form Block = bytes "{}"
text_of_form Guarded = bytes "if;"
text_of_form Do = bytes "do{"
text_of_form Goto = bytes "goto;"
text_of_form IfGoto = bytes "ifgoto;"
text_of_form Return = bytes "return;"
text_of_form IfReturn = bytes "ifreturn;"
text_of_form While = bytes "while};"
text_of_form Closing = bytes "}"
text_of_form If = bytes "if{"
text_of_form ElseIf = bytes "elseif}{"
text_of_form Else = bytes "else}{"
text_of_form Switch = bytes "switch{"
text_of_form Other = []

abbrev pub is_other : Form → Bool
is_other Other = true
is_other Empty = false
is_other Statement = false
is_other Label = false
is_other Opening = false
is_other Block = false
is_other Guarded = false
is_other Do = false
is_other Goto = false
is_other IfGoto = false
is_other Return = false
is_other IfReturn = false
is_other While = false
is_other Closing = false
is_other If = false
is_other ElseIf = false
is_other Else = false
is_other Switch = false

-- the texts of all but `Other`
abbrev pub KNOWN : List Text
KNOWN =
    bytes ";" ∷ [] ∷ bytes ":" ∷ bytes "{" ∷ bytes "{}" ∷ bytes "if;" ∷ bytes "do{" ∷ bytes "goto;" ∷ bytes "ifgoto;" ∷ bytes "return;"
    ∷ bytes "ifreturn;" ∷ bytes "while};" ∷ bytes "}" ∷ bytes "if{" ∷ bytes "elseif}{" ∷ bytes "else}{" ∷ bytes "switch{" ∷ []

-- the text is that of the form, or of none
pub record Classed (s : Text) (f : Form) : Type 0 where
  pub known : is_other f ≡ false → s ≡ text_of_form f
  pub other : is_other f ≡ true → has KNOWN s ≡ false

-- what a token says of whether its line is a case
unfoldable pub steering : Token → Option Bool
steering t = when is Keyword t and has WORDS t.text then some (has CASES t.text) else none

unfoldable pub has_entry : Text → Bool
has_entry s = contains s 58 or contains s 125

unfoldable pub is_entering : Token → Bool
is_entering t = is Punct t and has_entry t.text

-- what the table has of a line with these tokens
pub record Formed (ts : List Token) (r : LineForm) : Type 0 where
  pub form_is : Classed (form ts) r.form
  pub braces : (r.closes, r.opens) ≡ unmatched (form ts)
  pub case_is : r.is_case ≡ is_case ts
  pub entered_is : r.is_entered ≡ is_entered ts
  pub opaque_is : r.is_opaque ≡ is_opaque ts
  pub few : r.closes + r.opens ≤ 8589934593
