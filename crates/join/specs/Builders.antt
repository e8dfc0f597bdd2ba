-- The definitions over a tape and an area, over an area, its token words and how much is in use, of the structs in which the old texts and
-- the second set are lent: each name means what the definition of that name says. Assumes nothing.
use Rattle.std.specs.Prelude.{ℕ, List}
use Rattle.reference.specs.Rules.{Rules}
use Rattle.lines.specs.declared.marks.Marks.{Marks}
use Rattle.lines.specs.declared.texts.Texts.{Texts}
use Rattle.lines.specs.Marks.{lows_of, highs_of}
use Rattle.plan.specs.declared.plans.Join.{Join}
use Rattle.lines.specs.declared.texts.Size.{Size}
use Rattle.build.specs.declared.builder.Builder.{Builder}
use Rattle.join.specs.Building as building
use Rattle.join.specs.Patching as patching
use Rattle.join.specs.Carrying as carrying

-- ---- a line

abbrev pub Placeable : Rules → Texts → List ℕ → ℕ → Join → ℕ → ℕ → Builder → Type 0
Placeable rules t words source j k l b =
    building.Placeable rules t.tape.now t.area.now words source j k l b.area.now b.tokens.now b.size

abbrev pub Placed : Rules → Texts → List ℕ → ℕ → Join → ℕ → ℕ → Builder → Builder → ℕ → Type 0
Placed rules t words source j k l b b' w =
    building.Placed rules t.tape.now t.area.now words source j k l b.area.now b.tokens.now b.size b'.area.now b'.tokens.now b'.size w

-- ---- the listing written anew

abbrev pub Plannable : Rules → Texts → List ℕ → List ℕ → Join → Type 0
Plannable rules t words lines j = building.Plannable rules t.tape.now t.area.now words lines j

abbrev pub Upto : Rules → Texts → List ℕ → List ℕ → Join → ℕ → Builder → List ℕ → Type 0
Upto rules t words lines j k b lines' =
    building.Upto rules t.tape.now t.area.now words lines j k b.area.now b.tokens.now lines' b.size

abbrev pub Rebuilt : Rules → Texts → List ℕ → List ℕ → Join → Builder → List ℕ → Type 0
Rebuilt rules t words lines j b lines' =
    building.Rebuilt rules t.tape.now t.area.now words lines j b.area.now b.tokens.now lines' b.size

-- ---- the listing changed in place

abbrev pub Spare : Builder → ℕ → Type 0
Spare b n = patching.Spare b.area.now b.tokens.now b.size n

abbrev pub Patching : Rules → Texts → List ℕ → List ℕ → Join → Size → ℕ → Builder → List ℕ → Type 0
Patching rules t words lines j from k b lines' =
    patching.Patching rules t.tape.now t.area.now words lines j from k b.area.now b.tokens.now lines' b.size

abbrev pub Patched : Rules → Texts → List ℕ → List ℕ → Join → Size → Builder → List ℕ → Type 0
Patched rules t words lines j from b lines' =
    patching.Patched rules t.tape.now t.area.now words lines j from b.area.now b.tokens.now lines' b.size

-- ---- the marks

abbrev pub Carried : Rules → Texts → List ℕ → List ℕ → Join → List Marks → List Marks → Type 0
Carried rules t words lines j marks marks' =
    carrying.Carried rules t.tape.now t.area.now words lines j (lows_of marks) (highs_of marks) (lows_of marks') (highs_of marks')
