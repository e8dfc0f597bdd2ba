-- What a list of words asks for, from the help's grammar:
--
--     VERB [OPTION | OPTION VALUE | -oVALUE | --option=VALUE | OPERAND].. [-- OPERAND..]
--
-- One word after the other is taken (`step_of`), and then all of them are judged together (`judged`). Words are numbered from 0. Assumes
-- nothing.
use Rattle.std.specs.Prelude.{ℕ, ◌+◌, Bool, true, false, List, [], ◌∷◌, ◌++◌, ◌&&◌, ◌||◌, not, ltb, length, take, drop}
use Rattle.std.specs.Prelude.{Option, Some, None, if◌then◌else◌}
use Rattle.std.proofs.Math.Option.{none, some}
use Rattle.reference.specs.Text.{Text, bytes, starts_with, ◌≟◌}
use Rattle.words.specs.Numerals.{integer_in}
use Rattle.arguments.specs.Tables.{meaning_in, verbs, options, conventions, readings, kind_of, has_value, takes, is_start, fewest, most}
use Rattle.arguments.specs.Values.{is_name, value_of}
use Rattle.arguments.specs.Entries.{equals_at, is_entry, entry_value, entry_bytes}
use Rattle.arguments.specs.Words.{is_at}
use Rattle.arguments.specs.declared.request.Verb.{Verb}
use Rattle.arguments.specs.declared.request.Verb.TheVariants as verb
use Rattle.arguments.specs.declared.request.Flag.{Flag}
use Rattle.arguments.specs.declared.request.Flag.TheVariants as flag
use Rattle.arguments.specs.declared.request.Kind.{Kind}
use Rattle.arguments.specs.declared.request.Kind.TheVariants as kind
use Rattle.arguments.specs.declared.request.Action.TheVariants as action
use Rattle.arguments.specs.declared.request.Value.TheVariants as value
use Rattle.arguments.specs.declared.request.Problem.TheVariants as problem
use Rattle.arguments.specs.declared.request.Part.{Part}
use Rattle.arguments.specs.declared.request.Destination.{Destination}
use Rattle.arguments.specs.declared.request.Destination.TheVariants as destination
use Rattle.arguments.specs.declared.request.Request.{Request}
use Rattle.arguments.specs.Request.{with_fault, with_operand}

-- before the first word: System V, numbers as the Rust reads them, all else off
abbrev pub none_yet : Request
none_yet =
    record {
      verb = None;
      help = false;
      fault = None;
      pending = None;
      ended = false;
      dated = false;
      rules = record { convention = 1; settle = false; edition = 0; parts = false; profile = false };
      goal = record { destination = destination.StandardOutput; force = false };
      form = record { filter = false; exact = false; json = false; quiet = false };
      operands = record { count = 0; first = None; third = None; last = None; value = None };
      start = record { wanted = None; chosen = None; entry = None };
    }

-- ---- one word

-- the first word
abbrev pub take_verb : Request → ℕ → Text → Request
take_verb s k w = elim (meaning_in verbs w) [ Some v ↦ record s { verb = Some v } | None ↦ with_fault problem.UnknownVerb (Some k) s ]

-- the values of -c; -e; -o and -d; --return; --choose
abbrev pub take_convention : Request → ℕ → Text → Request
take_convention s k w =
    elim (meaning_in conventions w) [
      | Some n ↦ record s { rules = record s.rules { convention = n } }
      | None ↦ with_fault problem.BadValue (Some k) s
    ]

-- an older word for `rust`
abbrev pub is_dated : Text → Bool
is_dated w = w ≟ bytes "2018"

abbrev pub take_edition : Request → ℕ → Text → Request
take_edition s k w =
    elim (meaning_in readings w) [
      | Some n ↦ record s { dated = s.dated || is_dated w; rules = record s.rules { edition = n } }
      | None ↦ with_fault problem.BadValue (Some k) s
    ]

abbrev pub take_destination : Request → Destination → ℕ → Request
take_destination s to k =
    elim s.goal.destination [
      | destination.StandardOutput ↦ record s { goal = record s.goal { destination = to } }
      | _ ↦ with_fault problem.SecondDestination (Some k) s
    ]

abbrev pub put_wanted : Request → Part → Text → Request
put_wanted s part w =
    elim (integer_in w) [
      | some v ↦ record s { start = record s.start { wanted = Some (record { value = v; part = part }) } }
      | none ↦ with_fault problem.BadValue (Some part.word) s
    ]

abbrev pub take_wanted : Request → Part → Text → Request
take_wanted s part w = elim s.start.wanted [ None ↦ put_wanted s part w | Some _ ↦ with_fault problem.SecondValue (Some part.word) s ]

abbrev pub take_chosen : Request → Part → Request
take_chosen s part =
    elim s.start.chosen [
      | None ↦ record s { start = record s.start { chosen = Some part } }
      | Some _ ↦ with_fault problem.SecondValue (Some part.word) s
    ]

abbrev pub value_taken : Request → Flag → Part → Text → Request
value_taken s flag.Convention part w = take_convention s part.word w
value_taken s flag.Edition part w = take_edition s part.word w
value_taken s flag.Output part w = take_destination s (destination.File part) part.word
value_taken s flag.Folder part w = take_destination s (destination.Folder part) part.word
value_taken s flag.Return part w = take_wanted s part w
value_taken s _ part w = take_chosen s part

-- the value w of an option, where it stands
abbrev pub take_value : Request → Flag → Part → Text → Request
take_value s option part w = value_taken (record s { pending = None }) option part w

-- an option that the verb takes: a setting, or one whose value comes next
abbrev pub set_option : Request → Flag → Request
set_option s flag.Parts = record s { rules = record s.rules { parts = true } }
set_option s flag.Profile = record s { rules = record s.rules { profile = true } }
set_option s flag.Settle = record s { rules = record s.rules { settle = true } }
set_option s flag.Exact = record s { form = record s.form { exact = true } }
set_option s flag.Force = record s { goal = record s.goal { force = true } }
set_option s flag.Quiet = record s { form = record s.form { quiet = true } }
set_option s flag.Json = record s { form = record s.form { json = true } }
set_option s flag.FilterForm = record s { form = record s.form { filter = true } }
set_option s option = record s { pending = Some option }

abbrev pub put_option : Request → Verb → ℕ → Flag → Request
put_option s v k option = if takes v option then set_option s option else with_fault problem.UnknownOption (Some k) s

-- in a word that holds an option and its value, -cVALUE or --NAME=VALUE: how long the option is, and from where on the value stands
abbrev pub option_length : Text → ℕ
option_length w = if starts_with w (bytes "--") then equals_at w else 2

abbrev pub value_from : Text → ℕ
value_from w = if starts_with w (bytes "--") then equals_at w + 1 else 2

abbrev pub put_joined : Request → Verb → ℕ → Flag → Text → Request
put_joined s v k option w =
    if has_value option && takes v option then take_value s option (record { word = k; from = value_from w }) (drop (value_from w) w)
    else with_fault problem.UnknownOption (Some k) s

abbrev pub take_joined : Request → Verb → ℕ → Text → Request
take_joined s v k w =
    elim (meaning_in options (take (option_length w) w)) [
      | Some option ↦ put_joined s v k option w
      | None ↦ with_fault problem.UnknownOption (Some k) s
    ]

abbrev pub take_option : Request → Verb → ℕ → Text → Request
take_option s v k w = elim (meaning_in options w) [ Some option ↦ put_option s v k option | None ↦ take_joined s v k w ]

-- an operand that stands for a value; the name of a state; REG=VALUE
abbrev pub put_value : Request → ℕ → Kind → Text → Request
put_value s k kind w =
    elim (value_of kind w) [
      | Some v ↦ let t : Request = with_operand k s in record t { operands = record t.operands { value = Some v } }
      | None ↦ with_fault problem.BadOperand (Some k) s
    ]

abbrev pub take_name : Request → ℕ → Text → Request
take_name s k w = if is_name w then with_operand k s else with_fault problem.BadOperand (Some k) s

abbrev pub take_entry : Request → ℕ → Text → Request
take_entry s k w =
    elim (entry_value w) [ some _ ↦ record s { start = record s.start { entry = Some k } } | none ↦ with_fault problem.BadEntry (Some k) s ]

abbrev pub put_operand : Request → ℕ → Option Kind → Text → Request
put_operand s k None w = with_fault problem.TooMany (Some k) s
put_operand s k (Some kind.File) w = with_operand k s
put_operand s k (Some kind.Name) w = take_name s k w
put_operand s k (Some kind) w = put_value s k kind w

-- an operand of `start` with a = is an entry of its list, unless it begins as a path
abbrev pub take_operand : Request → Verb → ℕ → Text → Request
take_operand s v k w =
    let operand : Request = put_operand s k (kind_of v s.operands.count) w in
    if is_start v then (if is_entry w then take_entry s k w else operand) else operand

-- begins with a -, and is longer
abbrev pub is_option : Text → Bool
is_option w = if ltb (length w) 2 then false else starts_with w (bytes "-")

abbrev pub is_help : Text → Bool
is_help w = (w ≟ bytes "-h") || (w ≟ bytes "--help")

-- a word that is no value of the option before it; -- ends the options
abbrev pub take_free : Request → Verb → ℕ → Text → Request
take_free s v k w =
    if s.ended || not (is_option w) then take_operand s v k w
    else if w ≟ bytes "--" then record s { ended = true }
    else take_option s v k w

-- word k, where no fault was found before it
abbrev pub take_word : Request → ℕ → Text → Request
take_word s k w =
    elim s.verb [
      | None ↦ take_verb s k w
      | Some v ↦ elim s.pending [
        | Some option ↦ take_value s option (record { word = k; from = 0 }) w
        | None ↦ take_free s v k w
      ]
    ]

-- word k
unfoldable pub step_of : Request → ℕ → Text → Request
step_of s k w = if not s.ended && is_help w then record s { help = true } else elim s.fault [ Some _ ↦ s | None ↦ take_word s k w ]

-- ---- all words

-- -o stands beside one file; of `state` only `get` has a result
abbrev pub judge_output : Request → Verb → ℕ → Request
judge_output s verb.Clean k = if ltb 1 s.operands.count then with_fault problem.SeveralFiles (Some k) s else s
judge_output s verb.Page k = if ltb 1 s.operands.count then with_fault problem.SeveralFiles (Some k) s else s
judge_output s verb.State k =
    elim s.operands.value [ Some (value.Action action.Get) ↦ s | _ ↦ with_fault problem.UnknownOption (Some k) s ]
judge_output s _ k = s

-- `start` needs --return and --choose; several pages need a folder
abbrev pub judge_plain : Request → Verb → Request
judge_plain s verb.Start =
    elim s.start.wanted [
      | None ↦ with_fault problem.Incomplete None s
      | Some _ ↦ elim s.start.chosen [ None ↦ with_fault problem.Incomplete None s | Some _ ↦ s ]
    ]
judge_plain s verb.Page = if ltb 1 s.operands.count then with_fault problem.NoFolder None s else s
judge_plain s _ = s

abbrev pub judge_options : Request → Verb → Request
judge_options s v =
    elim s.goal.destination [
      | destination.StandardOutput ↦ judge_plain s v
      | destination.File part ↦ judge_output s v part.word
      | destination.Folder part ↦ s
    ]

abbrev pub exceeds : ℕ → Option ℕ → Bool
exceeds n None = false
exceeds n (Some most) = ltb most n

abbrev pub judge_operands : Request → Verb → Request
judge_operands s v =
    if ltb s.operands.count (fewest v s.operands.value) then with_fault problem.TooFew None s
    else if exceeds s.operands.count (most v s.operands.value) then with_fault problem.TooMany s.operands.last s
    else judge_options s v

abbrev pub judge_words : Request → Request
judge_words s =
    elim s.verb [
      | None ↦ with_fault problem.NoVerb None s
      | Some v ↦ elim s.pending [ Some _ ↦ with_fault problem.NoValue None s | None ↦ judge_operands s v ]
    ]

unfoldable pub judged : Request → Request
judged s = elim s.fault [ Some _ ↦ s | None ↦ judge_words s ]

-- the words from number k on
unfoldable pub steps_from : Request → ℕ → List Text → Request
steps_from s k [] = s
steps_from s k (w ∷ ws) = steps_from (step_of s k w) (k + 1) ws

unfoldable pub request_of : List Text → Request
request_of ws = judged (steps_from none_yet 0 ws)

-- ---- the list for the library

-- of the words from number k on, those that are taken as entries
unfoldable pub entries_from : Request → ℕ → List Text → Text
entries_from s k [] = []
entries_from s k (w ∷ ws) =
    let after : Request = step_of s k w in
    let rest : Text = entries_from after (k + 1) ws in
    (if is_at after.start.entry k then entry_bytes w else []) ++ rest

unfoldable pub entries_of : List Text → Text
entries_of ws = entries_from none_yet 0 ws
