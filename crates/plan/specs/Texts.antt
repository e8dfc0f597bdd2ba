-- What is said of definitions, plans and addressed names, of the structs in which the texts are lent: the same words, the same meaning.
-- Assumes nothing.
use Rattle.std.specs.Prelude.{ℕ, List}
use Rattle.std.proofs.Math.Option.{Option}
use Rattle.std.specs.Prelude as std
use Rattle.reference.specs.Text.{Text}
use Rattle.joining.specs.Plan as J
use Rattle.lines.specs.declared.texts.Texts.{Texts}
use Rattle.plan.specs.Definitions as Definitions
use Rattle.plan.specs.Plans as plan
use Rattle.plan.specs.declared.definitions.Definition.{Definition}
use Rattle.plan.specs.Slots as Slots
use Rattle.plan.specs.declared.plans.Join.{Join}
use Rattle.plan.specs.declared.slots.SlotNames.{SlotNames}

abbrev pub definition_in : Texts → List ℕ → Definition → J.Definition
definition_in t ws d = Definitions.definition_in t.tape.now t.area.now ws d

abbrev pub Sound : Texts → List ℕ → Definition → Type 0
Sound t ws d = Definitions.Sound t.tape.now t.area.now ws d

abbrev pub Plans : Texts → List ℕ → ℕ → Option J.Plan → std.Option Join → Type 0
Plans t ws i o r = plan.Plans t.tape.now t.area.now ws i o r

abbrev pub slot_names : SlotNames → List Text
slot_names n = Slots.slot_names n.text.now n.words.now

abbrev pub Slotted : SlotNames → Type 0
Slotted n = Slots.Slotted n.text.now n.words.now
