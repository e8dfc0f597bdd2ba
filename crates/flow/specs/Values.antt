-- What a line does to a family's value. Assumes nothing.
use Rattle.std.specs.Prelude.{Bool, true, false, List}
use Rattle.reference.specs.Control.{◌and◌, ◌or◌}
use Rattle.reference.specs.Lists.{is_some}
use Rattle.reference.specs.Text.{Text, has}
use Rattle.reference.specs.Listing.{Token}
use Rattle.reference.specs.Shapes.{call_in}
use Rattle.reference.specs.Life.{kills}
use Rattle.flow.specs.declared.lineforms.Form.{Form}
use Rattle.flow.specs.declared.lineforms.Form.TheVariants.{Empty, Statement, Label, Opening, Block, Guarded, Do, Goto, IfGoto, Return}
use Rattle.flow.specs.declared.lineforms.Form.TheVariants.{IfReturn, While, Closing, If, ElseIf, Else, Switch, Other}

-- it overwrites the family, itself or by a call, whether or not a condition stands in front
unfoldable pub overwrites : Text → List Text → List Token → Bool
overwrites fam volatile ts = kills ts fam or (has volatile fam and is_some (call_in ts))

-- `if ..` in front of a statement, and `} else if (..) {`
abbrev pub guards : Form → Bool
guards Guarded = true
guards IfReturn = true
guards ElseIf = true
guards Empty = false
guards Statement = false
guards Label = false
guards Opening = false
guards Block = false
guards Do = false
guards Goto = false
guards IfGoto = false
guards Return = false
guards While = false
guards Closing = false
guards If = false
guards Else = false
guards Switch = false
guards Other = false
