-- What the code's answers on touches mean. Assumes nothing.
use Rattle.std.specs.Prelude.{ℕ, Bool, false, List, leb, get_or}
use Rattle.reference.specs.Control.{not, ◌and◌, let_some◌else◌then◌}
use Rattle.reference.specs.Lists.{any}
use Rattle.reference.specs.Text.{Text, ◌≟◌}
use Rattle.reference.specs.Names.{family, of_family}
use Rattle.reference.specs.Life as L
use Rattle.lines.specs.Words.{text_of, tokens_of}
use Rattle.lines.specs.Shapes.{expr_words}
use Rattle.lines.specs.declared.shapes.Expr.{Expr}
use Rattle.life.specs.declared.touches.Touched.{Touched}
use Rattle.life.specs.declared.touches.Touched.TheVariants.{Nothing, Kill, Use}

abbrev pub touched : Touched → L.Touch
touched Nothing = L.None
touched Kill = L.Kill
touched (Use n) = L.Use n

-- `kills` of a line that assigns the right side x to its first token
unfoldable pub kills_by : Text → Text → List ℕ → Expr → Text → Bool
kills_by tape area ws x fam =
    let_some (family (text_of tape area (get_or ws 0 0))) else false then λ f.
    (f.name ≟ fam) and leb 32 f.width and not (any (of_family fam) (tokens_of tape area (expr_words ws x)))
