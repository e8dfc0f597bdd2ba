-- Which words, options and operands there are, from the help's grammar. Assumes nothing.
use Rattle.std.specs.Prelude.{ℕ, Bool, true, false, List, [], ◌∷◌, Option, Some, None, slice_get}
use Rattle.std.specs.Borrow.{Bor}
use Rattle.reference.specs.Control.{when◌then◌else◌}
use Rattle.reference.specs.Text.{Text, bytes, ◌≟◌}
use Rattle.arguments.specs.declared.request.Verb.{Verb}
use Rattle.arguments.specs.declared.request.Verb.TheVariants as verb
use Rattle.arguments.specs.declared.request.Flag.{Flag}
use Rattle.arguments.specs.declared.request.Flag.TheVariants as flag
use Rattle.arguments.specs.declared.request.Kind.{Kind}
use Rattle.arguments.specs.declared.request.Kind.TheVariants as kind
use Rattle.arguments.specs.declared.request.Action.{Action}
use Rattle.arguments.specs.declared.request.Action.TheVariants as action
use Rattle.arguments.specs.declared.request.Value.{Value}
use Rattle.arguments.specs.declared.request.Value.TheVariants as value

-- ---- rows of words, each with what it stands for

-- what a word stands for in a row
unfoldable pub meaning_in : {A : Type 0} → List (Text × A) → Text → Option A
meaning_in [] w = None
meaning_in (r ∷ rs) w = let rest = meaning_in rs w in when r.0 ≟ w then Some r.1 else rest

-- a row of the code
abbrev pub row_of : {A : Type 0} → Bor Text × A → Text × A
row_of r = (r.0.now, r.1)

-- what is to be done
abbrev pub verbs : List (Text × Verb)
verbs =
    (bytes "clean", verb.Clean) ∷ (bytes "counts", verb.Counts) ∷ (bytes "check", verb.Check) ∷ (bytes "show", verb.Show)
    ∷ (bytes "tape", verb.Tape) ∷ (bytes "addresses", verb.Addresses) ∷ (bytes "edition", verb.Edition) ∷ (bytes "offsets", verb.Offsets)
    ∷ (bytes "laborious", verb.Laborious) ∷ (bytes "state", verb.State) ∷ (bytes "help", verb.Help) ∷ (bytes "version", verb.Version)
    ∷ (bytes "--version", verb.VersionOption) ∷ (bytes "-V", verb.VersionOption) ∷ (bytes "page", verb.Page)
    ∷ (bytes "start", verb.Start) ∷ (bytes "cautions", verb.Cautions) ∷ []

abbrev pub options : List (Text × Flag)
options =
    (bytes "-c", flag.Convention) ∷ (bytes "-e", flag.Edition) ∷ (bytes "--parts", flag.Parts) ∷ (bytes "--profile", flag.Profile)
    ∷ (bytes "--settle", flag.Settle) ∷ (bytes "-o", flag.Output) ∷ (bytes "-d", flag.Folder) ∷ (bytes "--exact", flag.Exact)
    ∷ (bytes "--return", flag.Return) ∷ (bytes "--choose", flag.Choose) ∷ (bytes "-f", flag.Force) ∷ (bytes "-q", flag.Quiet)
    ∷ (bytes "--json", flag.Json) ∷ (bytes "--filter-form", flag.FilterForm) ∷ []

-- the settings' numbers
abbrev pub conventions : List (Text × ℕ)
conventions = (bytes "32", 0) ∷ (bytes "sysv", 1) ∷ (bytes "windows", 2) ∷ []

abbrev pub editions : List (Text × ℕ)
editions = (bytes "2018", 0) ∷ (bytes "2024", 1) ∷ []

-- how numbers are read: as the Rust reads them, or by C of 2024; the last is an older word for the first
abbrev pub readings : List (Text × ℕ)
readings = (bytes "rust", 0) ∷ (bytes "2024", 1) ∷ (bytes "0", 0) ∷ (bytes "1", 1) ∷ (bytes "2018", 0) ∷ []

abbrev pub actions : List (Text × Action)
actions =
    (bytes "list", action.List) ∷ (bytes "save", action.Save) ∷ (bytes "get", action.Get) ∷ (bytes "delete", action.Delete) ∷ []

-- ---- what a verb takes

-- what its operand behind so many others is; none, if it has no more
abbrev pub kind_of : Verb → ℕ → Option Kind
kind_of verb.Clean n = Some kind.File
kind_of verb.Counts n = Some kind.File
kind_of verb.Cautions n = Some kind.File
kind_of verb.Check n = Some kind.File
kind_of verb.Show n = slice_get (kind.File ∷ []) n
kind_of verb.Tape n = slice_get (kind.File ∷ []) n
kind_of verb.Addresses n = slice_get (kind.File ∷ []) n
kind_of verb.Edition n = slice_get (kind.Edition ∷ kind.File ∷ []) n
kind_of verb.Offsets n = slice_get (kind.Base ∷ kind.File ∷ []) n
kind_of verb.Laborious n = slice_get (kind.Number ∷ []) n
kind_of verb.State n = slice_get (kind.File ∷ kind.Action ∷ kind.Name ∷ kind.File ∷ []) n
kind_of verb.Help n = slice_get (kind.Verb ∷ []) n
kind_of verb.Version n = None
kind_of verb.VersionOption n = None
kind_of verb.Page n = Some kind.File
kind_of verb.Start n = slice_get (kind.File ∷ []) n

-- which options it takes: the settings of a cleaning, -o, and each of the others
abbrev pub takes_settings : Verb → Bool
takes_settings verb.Clean = true
takes_settings verb.Counts = true
takes_settings verb.Cautions = true
takes_settings verb.Page = true
takes_settings _ = false

abbrev pub takes_output : Verb → Bool
takes_output verb.Clean = true
takes_output verb.Tape = true
takes_output verb.Addresses = true
takes_output verb.Edition = true
takes_output verb.Offsets = true
takes_output verb.Laborious = true
takes_output verb.State = true
takes_output verb.Page = true
takes_output _ = false

abbrev pub takes_folder : Verb → Bool
takes_folder verb.Clean = true
takes_folder verb.Page = true
takes_folder _ = false

abbrev pub is_show : Verb → Bool
is_show verb.Show = true
is_show _ = false

abbrev pub is_start : Verb → Bool
is_start verb.Start = true
is_start _ = false

abbrev pub takes_quiet : Verb → Bool
takes_quiet verb.Counts = true
takes_quiet verb.Cautions = true
takes_quiet verb.Check = true
takes_quiet v = takes_output v

abbrev pub takes_json : Verb → Bool
takes_json verb.Counts = true
takes_json verb.Cautions = true
takes_json verb.Check = true
takes_json verb.Start = true
takes_json _ = false

-- those that read a bare tape
abbrev pub takes_filter : Verb → Bool
takes_filter verb.Clean = true
takes_filter verb.Counts = true
takes_filter verb.Cautions = true
takes_filter verb.Check = true
takes_filter verb.Show = true
takes_filter verb.Edition = true
takes_filter verb.Offsets = true
takes_filter verb.Page = true
takes_filter verb.Start = true
takes_filter _ = false

abbrev pub takes : Verb → Flag → Bool
takes v flag.Convention = takes_settings v
takes v flag.Edition = takes_settings v
takes v flag.Parts = takes_settings v
takes v flag.Profile = takes_settings v
takes v flag.Settle = takes_settings v
takes v flag.Output = takes_output v
takes v flag.Folder = takes_folder v
takes v flag.Exact = is_show v
takes v flag.Return = is_start v
takes v flag.Choose = is_start v
takes v flag.Force = takes_output v
takes v flag.Quiet = takes_quiet v
takes v flag.Json = takes_json v
takes v flag.FilterForm = takes_filter v

-- which options have a value
abbrev pub has_value : Flag → Bool
has_value flag.Convention = true
has_value flag.Edition = true
has_value flag.Output = true
has_value flag.Folder = true
has_value flag.Return = true
has_value flag.Choose = true
has_value _ = false

-- how many operands it needs; those of `state` by its action
abbrev pub fewest_of : Option Value → ℕ
fewest_of (Some (value.Action action.Save)) = 3
fewest_of (Some (value.Action action.Get)) = 3
fewest_of (Some (value.Action action.Delete)) = 3
fewest_of _ = 2

abbrev pub fewest : Verb → Option Value → ℕ
fewest verb.Edition v = 1
fewest verb.Offsets v = 1
fewest verb.Laborious v = 1
fewest verb.State v = fewest_of v
fewest _ v = 0

-- how many it takes at most, where `kind_of` has more
abbrev pub most_of : Option Value → ℕ
most_of (Some (value.Action action.Save)) = 4
most_of (Some (value.Action action.Get)) = 3
most_of (Some (value.Action action.Delete)) = 3
most_of _ = 2

abbrev pub most : Verb → Option Value → Option ℕ
most verb.State v = Some (most_of v)
most _ v = None
