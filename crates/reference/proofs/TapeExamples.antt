-- Document 01's example in hexadecimal, and one of each refusal, as one statement. FF alone is starred: Examples.antt. Assumes nothing.
use Prim.Native.Nat.{ℕ}
use Prim.Native.String.{String}
use mathlib.Core.Path.{◌≡◌, refl}
use mathlib.Core.Bool.{false}
use mathlib.Core.List.{List, [], ◌∷◌, ◌++◌, flat_map}
use mathlib.Core.Option.{none, some}
use lib.ListN.{replicate}
use Rattle.reference.specs.Control.{let_some◌else◌then◌}
use Rattle.reference.specs.Text.{Text, bytes}
use Rattle.reference.specs.Numbers.{unsigned}
use Rattle.reference.specs.Run.{three, settled, Counts}
use Rattle.reference.specs.Questions.{WORK, OUTPUT, Refused, Passed, read_command, read, marks_in}
use Rattle.reference.specs.Reply.{Reply, reply, output_after, work_after, Told, told, report}
use Rattle.reference.proofs.Opened.{opened}

-- bytes as the document writes them: `hex (bytes "02 3F")` is 2 ∷ 63 ∷ []
abbrev pub hex : Text → List ℕ
hex [] = []
hex (a ∷ []) = []
hex (a ∷ b ∷ []) = (let_some (unsigned 16 (a ∷ b ∷ [])) else 0 then λ v. v) ∷ []
hex (a ∷ b ∷ space ∷ more) = (let_some (unsigned 16 (a ∷ b ∷ [])) else 0 then λ v. v) ∷ hex more

abbrev pub tape : String → List ℕ
tape s = hex (bytes s)

-- convention 1, and just enough room
abbrev gives : List ℕ → List ℕ → Counts → Type 0
gives before after c = reply (record { convention = 1; settle = false; edition = 0; parts = false; profile = false }) before WORK WORK OUTPUT ≡ Passed (record { tape = after; counts = c })

abbrev refuses : List ℕ → ℕ → ℕ → Type 0
refuses t number place = reply (record { convention = 1; settle = false; edition = 0; parts = false; profile = false }) t WORK WORK OUTPUT ≡ Refused number place

abbrev blank-lines : ℕ → List ℕ
blank-lines n = flat_map (λ b. 0x02 ∷ b ∷ []) (replicate n 0) ++ (0xFF ∷ [])

abbrev done : Reply
done =
    Passed (record { tape = 1 ∷ 0xFF ∷ []; counts = record { tally = three 3 4 5; lines_removed = 6; results_cut = 7 } })

abbrev no_rounds : Told
no_rounds = record { first = 0; second = 0; third = 0; rounds = 0; attempts = 0 }

pub record TapeExamples : Type 0 where
  pub cut :
      gives
      (tape "02 00 11 03 00 72 61 78 16 03 00 20 3D 20 14 01 00 66 16 03 00 28 29 3B 02 00 13 06 00 72 65 74 75 72 6E 16 01 00 3B FF")
      (tape "02 00 14 01 00 66 16 03 00 28 29 3B 02 00 13 06 00 72 65 74 75 72 6E 16 01 00 3B FF")
      (record { tally = three 2 0 0; lines_removed = 0; results_cut = 1 })
  pub address :
      read (tape "01 01 02 00 00 00 00 00 80 3F FF") ≡ Passed (record { address = some 9223372036854776321; indent = 63; tokens = [] } ∷ [])
  pub convention : reply (record { convention = 3; settle = false; edition = 0; parts = false; profile = false }) [] 0 0 0 ≡ Refused 1 0
  -- M-100: 9 after 1 and before 2
  pub edition : reply (record { convention = 0; settle = false; edition = 2; parts = false; profile = false }) [] 0 0 0 ≡ Refused 9 0
  pub convention_first : reply (record { convention = 3; settle = false; edition = 2; parts = false; profile = false }) [] 0 0 0 ≡ Refused 1 0
  pub work_in_edition_1 : reply (record { convention = 0; settle = false; edition = 1; parts = false; profile = false }) [] 0 0 0 ≡ Refused 2 0
  pub work : reply (record { convention = 2; settle = false; edition = 0; parts = false; profile = false }) [] 49152 49151 59137 ≡ Refused 2 0
  pub output : reply (record { convention = 0; settle = false; edition = 0; parts = false; profile = false }) [] 49152 49152 59136 ≡ Refused 2 0
  pub empty : refuses [] 3 0
  pub no_end : refuses (tape "02 00") 3 2
  pub no_command : refuses (tape "02 00 18 01 00 66 FF") 3 2
  pub short_operand : refuses (tape "01 00 00 00 00 00 00 00 00") 4 0
  pub short_text : refuses (tape "02 00 10 02 00 66") 4 2
  pub short_before_line : refuses (tape "10 02 00 66") 4 0
  pub before_line : refuses (tape "10 00 00 FF") 5 0
  pub indent : refuses (tape "02 40 FF") 6 0
  pub no_text : refuses (tape "02 00 10 00 00 FF") 6 2
  pub long_number : refuses (tape "02 00 12 19 00" ++ replicate 25 0x30 ++ tape "FF") 6 2
  pub unprintable : refuses (tape "02 00 10 02 00 66 7F FF") 7 6
  pub after_end : refuses (tape "02 00 FF 00") 8 2
  pub many_lines : read (blank-lines 256) ≡ Passed (replicate 256 (record { address = none; indent = 0; tokens = [] }))
  pub too_many_lines : refuses (blank-lines 257) 10 512
  pub untouched : (output_after (Refused 3 0) (7 ∷ []) ≡ 7 ∷ []) × (work_after (Refused 3 0) (7 ∷ []) ≡ 7 ∷ [])
  pub written : output_after done (7 ∷ 8 ∷ 9 ∷ []) ≡ 1 ∷ 0xFF ∷ 9 ∷ []
  pub zeroed : work_after done (replicate 49154 7) ≡ replicate 49152 0 ++ (7 ∷ 7 ∷ [])
  pub refusal : report (Refused 3 4) ≡ record { refusal = 3; place = 4; length = 0; told = no_rounds; removed = 0; cut = 0 }
  pub counts : report done
      ≡ record {
        refusal = 0;
        place = 0;
        length = 2;
        told = record { first = 3; second = 4; third = 5; rounds = 0; attempts = 0 };
        removed = 6;
        cut = 7;
      }
  pub settling : told (settled 5 33) ≡ record { first = 0; second = 0; third = 0; rounds = 5; attempts = 33 }

pub tape_examples : TapeExamples
unfolding opened
tape_examples =
    record {
      cut = refl;
      address = refl;
      convention = refl;
      edition = refl;
      convention_first = refl;
      work_in_edition_1 = refl;
      work = refl;
      output = refl;
      empty = refl;
      no_end = refl;
      no_command = refl;
      short_operand = refl;
      short_text = refl;
      short_before_line = refl;
      before_line = refl;
      indent = refl;
      no_text = refl;
      long_number = refl;
      unprintable = refl;
      after_end = refl;
      many_lines = refl;
      too_many_lines = refl;
      untouched = (refl, refl);
      written = refl;
      zeroed = refl;
      refusal = refl;
      counts = refl;
      settling = refl;
    }

-- Which limit it was (M-101): of two questions that refuse one command, the one asked first. By the step where a tape would be long: the command at 0,
-- after so many lines, tokens and bytes of text.
abbrev step-refuses : ℕ → ℕ → ℕ → List ℕ → ℕ → ℕ → Type 0
step-refuses lines tokens text t number place =
    read_command t 0 (record { lines = lines; tokens = tokens; text = text; fresh = false }) ≡ Refused number place

pub record LimitExamples : Type 0 where
  -- "So 257 lines are now 10."
  pub line_257 : step-refuses 256 0 0 (tape "02 00") 10 0
  pub line_257_indent_64 : step-refuses 256 0 0 (tape "02 40") 6 0
  pub token_1025 : step-refuses 1 1024 0 (tape "10 01 00 41") 10 0
  pub token_1025_empty : step-refuses 1 1024 0 (tape "10 00 00") 6 0
  pub token_1025_long_text : step-refuses 1 1024 24576 (tape "10 01 00 41") 10 0
  pub long_text : refuses (tape "02 00 10 01 60" ++ replicate 24577 0x41 ++ tape "FF") 11 2
  pub long_text_long_number : step-refuses 1 0 24576 (tape "12 19 00" ++ replicate 25 0x30) 6 0
  pub long_text_offending : step-refuses 1 0 24576 (tape "10 01 00 07") 11 0
  -- "For 7 they want the offset of the first offending byte"
  pub offending : refuses (tape "02 00 10 02 00 41 07 FF") 7 6
  pub first_of_two : refuses (tape "02 00 10 03 00 1F 41 7F FF") 7 5

pub limit_examples : LimitExamples
unfolding opened
limit_examples =
    record {
      line_257 = refl;
      line_257_indent_64 = refl;
      token_1025 = refl;
      token_1025_empty = refl;
      token_1025_long_text = refl;
      long_text = refl;
      long_text_long_number = refl;
      long_text_offending = refl;
      offending = refl;
      first_of_two = refl;
    }

-- Marks (M-105): 03 in the input and in the output.
pub record MarkExamples : Type 0 where
  pub marks_in_tape :
      marks_in
      (tape "01 30 00 00 00 00 00 00 00 00 03 08 00 00 00 00 00 00 00 31 00 00 00 00 00 00 00 11 03 00 72 61 78 16 03 00 20 3D 20 12 01 00 35 16 01 00 3B"
      ++ tape "01 20 00 00 00 00 00 00 00 00 11 03 00 72 63 78 16 03 00 20 3D 20 11 03 00 72 61 78 16 03 00 20 2B 20 11 03 00 72 64 78 16 01 00 3B"
      ++ tape "02 00 11 03 00 72 62 78 16 03 00 20 3D 20 11 03 00 72 63 78 16 01 00 3B FF")
      ≡ some (record { lowest = 8; highest = 49 }) ∷ none ∷ none ∷ []
  -- directly and through another line; the last line has no address of its own
  pub through_others :
      gives
      (tape "01 30 00 00 00 00 00 00 00 00 03 08 00 00 00 00 00 00 00 31 00 00 00 00 00 00 00 11 03 00 72 61 78 16 03 00 20 3D 20 12 01 00 35 16 01 00 3B"
      ++ tape "01 20 00 00 00 00 00 00 00 00 11 03 00 72 63 78 16 03 00 20 3D 20 11 03 00 72 61 78 16 03 00 20 2B 20 11 03 00 72 64 78 16 01 00 3B"
      ++ tape "02 00 11 03 00 72 62 78 16 03 00 20 3D 20 11 03 00 72 63 78 16 01 00 3B FF")
      (tape "02 00 03 08 00 00 00 00 00 00 00 31 00 00 00 00 00 00 00 11 03 00 72 62 78 16 03 00 20 3D 20 12 01 00 35 16 03 00 20 2B 20 11 03 00 72 64 78 16 01 00 3B FF")
      (record { tally = three 3 1 0; lines_removed = 2; results_cut = 0 })
  -- "A constant copied to four uses counts in all four."
  pub four_uses :
      gives
      (tape "01 50 00 00 00 00 00 00 00 00 11 03 00 72 62 78 16 03 00 20 3D 20 12 01 00 35 16 01 00 3B"
      ++ tape "01 20 00 00 00 00 00 00 00 00 11 03 00 72 31 32 16 03 00 20 3D 20 11 03 00 72 62 78 16 03 00 20 2B 20 11 03 00 72 64 78 16 01 00 3B"
      ++ tape "01 60 00 00 00 00 00 00 00 00 11 03 00 72 31 33 16 03 00 20 3D 20 11 03 00 72 62 78 16 03 00 20 2B 20 11 03 00 72 64 78 16 01 00 3B"
      ++ tape "02 00 11 03 00 72 31 34 16 03 00 20 3D 20 11 03 00 72 62 78 16 03 00 20 2B 20 11 03 00 72 64 78 16 01 00 3B"
      ++ tape "01 50 00 00 00 00 00 00 00 00 11 03 00 72 31 35 16 03 00 20 3D 20 11 03 00 72 62 78 16 03 00 20 2B 20 11 03 00 72 64 78 16 01 00 3B FF")
      (tape "01 20 00 00 00 00 00 00 00 00 03 20 00 00 00 00 00 00 00 50 00 00 00 00 00 00 00 11 03 00 72 31 32 16 03 00 20 3D 20 12 01 00 35 16 03 00 20 2B 20 11 03 00 72 64 78 16 01 00 3B"
      ++ tape "01 60 00 00 00 00 00 00 00 00 03 50 00 00 00 00 00 00 00 60 00 00 00 00 00 00 00 11 03 00 72 31 33 16 03 00 20 3D 20 12 01 00 35 16 03 00 20 2B 20 11 03 00 72 64 78 16 01 00 3B"
      ++ tape "02 00 03 50 00 00 00 00 00 00 00 50 00 00 00 00 00 00 00 11 03 00 72 31 34 16 03 00 20 3D 20 12 01 00 35 16 03 00 20 2B 20 11 03 00 72 64 78 16 01 00 3B"
      ++ tape "01 50 00 00 00 00 00 00 00 00 03 50 00 00 00 00 00 00 00 50 00 00 00 00 00 00 00 11 03 00 72 31 35 16 03 00 20 3D 20 12 01 00 35 16 03 00 20 2B 20 11 03 00 72 64 78 16 01 00 3B FF")
      (record { tally = three 5 4 0; lines_removed = 1; results_cut = 0 })
  pub one_address : gives (tape "01 07 00 00 00 00 00 00 00 00 FF") (tape "01 07 00 00 00 00 00 00 00 00 03 07 00 00 00 00 00 00 00 07 00 00 00 00 00 00 00 FF")
      (record { tally = three 1 0 0; lines_removed = 0; results_cut = 0 })
  pub marks_first : refuses (tape "03 00 00 00 00 00 00 00 00 00 00 00 00 00 00 00 00 FF") 5 0
  pub marks_twice : refuses (tape "02 00 03 00 00 00 00 00 00 00 00 00 00 00 00 00 00 00 00 03 00 00 00 00 00 00 00 00 00 00 00 00 00 00 00 00 FF") 5 19
  pub marks_after_token : refuses (tape "02 00 10 01 00 66 03 00 00 00 00 00 00 00 00 00 00 00 00 00 00 00 00 FF") 5 6
  pub marks_reversed : refuses (tape "02 00 03 01 00 00 00 00 00 00 00 00 00 00 00 00 00 00 00 FF") 5 2
  pub marks_short : refuses (tape "02 00 03 00 00 00 00 00 00 00 00 00 00 00 00 00 00 00") 4 2

pub mark_examples : MarkExamples
unfolding opened
mark_examples =
    record {
      marks_in_tape = refl;
      through_others = refl;
      four_uses = refl;
      one_address = refl;
      marks_first = refl;
      marks_twice = refl;
      marks_after_token = refl;
      marks_reversed = refl;
      marks_short = refl;
    }
