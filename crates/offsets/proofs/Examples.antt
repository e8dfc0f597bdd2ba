-- Examples of M-110 by computation, one or more of each number. Assumes nothing.
use mathlib.Core.Path.{◌≡◌, refl}
use Prim.Native.Nat.{ℕ}
use mathlib.Core.List.{List, [], ◌∷◌}
use Rattle.reference.specs.Questions.{Refused, Passed}
use Rattle.reference.proofs.Opened.{opened}
use Rattle.reference.proofs.TapeExamples.{tape}
use Rattle.offsets.specs.Offsets.{OUTPUT, has_output, front, base_of, begins_with_06, has_base, read_offsets, addresses, move_line, move_marks, move_lines, move_all_marks, first_from, first_with}
use Rattle.offsets.specs.Offsets.{out_of_reach, wraps, convert, to_offsets, from_offsets}
use Rattle.answers.specs.Answers.{measured, output_after}

-- the commands that have an address, and a token; and the same by offset from 4096
abbrev pub addressed : List ℕ
addressed =
    tape "01 10 10 00 00 00 00 00 00 02 03 00 10 00 00 00 00 00 00 FF 0F 00 00 01 00 00 00 10 01 00 66 02 3F 03 01 10 00 00 00 00 00 00 01 10 00 00 00 00 00 00 01 FF 0F 00 00 01 00 00 00 00 FF"

abbrev pub by_offset : List ℕ
by_offset = tape "06 00 10 00 00 00 00 00 00 04 10 00 00 00 02 05 00 00 00 00 FF FF FF FF 10 01 00 66 02 3F 05 01 00 00 00 01 00 00 00 04 FF FF FF FF 00 FF"

pub record Examples : Type 0 where
  pub there : to_offsets 4096 addressed OUTPUT ≡ Passed by_offset
  pub back : from_offsets by_offset OUTPUT ≡ Passed addressed
  pub empty_listing : to_offsets 18446744073709551615 (tape "FF") OUTPUT ≡ Passed (tape "06 FF FF FF FF FF FF FF FF FF")
  pub highest_offset : to_offsets 4096 (tape "01 FF 0F 00 00 01 00 00 00 00 FF") OUTPUT ≡ Passed (tape "06 00 10 00 00 00 00 00 00 04 FF FF FF FF 00 FF")
  pub too_high : to_offsets 4096 (tape "01 00 10 00 00 00 00 00 00 00 01 00 10 00 00 01 00 00 00 00 FF") OUTPUT ≡ Refused 18 10
  pub below : to_offsets 4096 (tape "01 FF 0F 00 00 00 00 00 00 00 FF") OUTPUT ≡ Refused 18 0
  pub high_mark : to_offsets 4096 (tape "01 00 10 00 00 00 00 00 00 00 03 00 10 00 00 00 00 00 00 00 10 00 00 01 00 00 00 01 00 00 00 00 00 00 00 00 00 FF") OUTPUT ≡ Refused 18 10
  pub low_mark : to_offsets 4096 (tape "02 00 03 FF 0F 00 00 00 00 00 00 00 10 00 00 00 00 00 00 FF") OUTPUT ≡ Refused 18 2
  -- 18 is "asked once the tape is read"
  pub read_first : to_offsets 4096 (tape "01 FF 0F 00 00 00 00 00 00 00 18") OUTPUT ≡ Refused 3 10
  -- in the old form 04, 05 and 06 stay 3
  pub new_line_byte : to_offsets 4096 (tape "04 00 00 00 00 00 FF") OUTPUT ≡ Refused 3 0
  pub new_marks_byte : to_offsets 4096 (tape "02 00 05 00 00 00 00 00 00 00 00 FF") OUTPUT ≡ Refused 3 2
  pub new_front : to_offsets 4096 by_offset OUTPUT ≡ Refused 3 0
  pub top : from_offsets (tape "06 FF FF FF FF FF FF FF FF 04 00 00 00 00 00 FF") OUTPUT ≡ Passed (tape "01 FF FF FF FF FF FF FF FF 00 FF")
  pub over_the_top : from_offsets (tape "06 FF FF FF FF FF FF FF FF 02 00 04 01 00 00 00 00 FF") OUTPUT ≡ Refused 18 11
  pub marks_over_the_top : from_offsets (tape "06 FE FF FF FF FF FF FF FF 04 01 00 00 00 00 05 01 00 00 00 02 00 00 00 FF") OUTPUT ≡ Refused 18 15
  pub sum_read_first : from_offsets (tape "06 FF FF FF FF FF FF FF FF 04 01 00 00 00 00") OUTPUT ≡ Refused 3 15
  pub no_tape : from_offsets [] OUTPUT ≡ Refused 19 0
  pub old_tape : from_offsets addressed OUTPUT ≡ Refused 19 0
  pub front_cut : from_offsets (tape "06 00 00 00 00 00 00 00") OUTPUT ≡ Refused 4 0
  pub front_alone : from_offsets (tape "06 00 00 00 00 00 00 00 00") OUTPUT ≡ Refused 3 9
  -- "01, 03 and a later 06 earn 3"
  pub old_line_byte : from_offsets (tape "06 00 00 00 00 00 00 00 00 01 00 00 00 00 00 00 00 00 00 FF") OUTPUT ≡ Refused 3 9
  pub old_marks_byte : from_offsets (tape "06 00 00 00 00 00 00 00 00 02 00 03 00 00 00 00 00 00 00 00 00 00 00 00 00 00 00 00 FF") OUTPUT ≡ Refused 3 11
  pub front_again : from_offsets (tape "06 00 00 00 00 00 00 00 00 02 00 06 00 00 00 00 00 00 00 00 FF") OUTPUT ≡ Refused 3 11
  pub line_cut : from_offsets (tape "06 00 00 00 00 00 00 00 00 04 00 00 00 00") OUTPUT ≡ Refused 4 9
  pub marks_cut : from_offsets (tape "06 00 00 00 00 00 00 00 00 02 00 05 00 00 00 00 00 00 00") OUTPUT ≡ Refused 4 11
  -- 05 is asked what 03 is
  pub marks_first : from_offsets (tape "06 00 00 00 00 00 00 00 00 05 00 00 00 00 00 00 00 00 FF") OUTPUT ≡ Refused 5 9
  pub marks_twice : from_offsets (tape "06 00 00 00 00 00 00 00 00 04 00 00 00 00 00 05 00 00 00 00 00 00 00 00 05 00 00 00 00 00 00 00 00 FF") OUTPUT ≡ Refused 5 24
  pub marks_after_token : from_offsets (tape "06 00 00 00 00 00 00 00 00 02 00 10 01 00 66 05 00 00 00 00 00 00 00 00 FF") OUTPUT ≡ Refused 5 15
  pub marks_reversed : from_offsets (tape "06 00 00 00 00 00 00 00 00 02 00 05 01 00 00 00 00 00 00 00 FF") OUTPUT ≡ Refused 5 11
  -- 04 is asked what 01 is
  pub indent : from_offsets (tape "06 00 00 00 00 00 00 00 00 04 00 00 00 00 40 FF") OUTPUT ≡ Refused 6 9
  pub token_first : from_offsets (tape "06 00 00 00 00 00 00 00 00 10 01 00 66 FF") OUTPUT ≡ Refused 5 9
  pub unprintable : from_offsets (tape "06 00 00 00 00 00 00 00 00 02 00 10 01 00 7F FF") OUTPUT ≡ Refused 7 14
  pub after_end : from_offsets (tape "06 00 00 00 00 00 00 00 00 FF 00") OUTPUT ≡ Refused 8 9
  pub room : (to_offsets 0 [] 59145 ≡ Refused 2 0) × (from_offsets [] 59145 ≡ Refused 2 0)
  pub untouched : output_after (Refused 18 0) (7 ∷ []) ≡ 7 ∷ []
  pub written : output_after (Passed (1 ∷ 2 ∷ [])) (7 ∷ 8 ∷ 9 ∷ []) ≡ 1 ∷ 2 ∷ 9 ∷ []
  pub told : (measured (Refused 18 4) ≡ Refused 18 4) × (measured (Passed (1 ∷ 2 ∷ [])) ≡ Passed 2)

pub examples : Examples
unfolding opened has_output front base_of begins_with_06 has_base read_offsets addresses move_line move_marks move_lines move_all_marks
    first_from first_with out_of_reach wraps convert to_offsets from_offsets
examples =
    record {
      there = refl;
      back = refl;
      empty_listing = refl;
      highest_offset = refl;
      too_high = refl;
      below = refl;
      high_mark = refl;
      low_mark = refl;
      read_first = refl;
      new_line_byte = refl;
      new_marks_byte = refl;
      new_front = refl;
      top = refl;
      over_the_top = refl;
      marks_over_the_top = refl;
      sum_read_first = refl;
      no_tape = refl;
      old_tape = refl;
      front_cut = refl;
      front_alone = refl;
      old_line_byte = refl;
      old_marks_byte = refl;
      front_again = refl;
      line_cut = refl;
      marks_cut = refl;
      marks_first = refl;
      marks_twice = refl;
      marks_after_token = refl;
      marks_reversed = refl;
      indent = refl;
      token_first = refl;
      unprintable = refl;
      after_end = refl;
      room = (refl, refl);
      untouched = refl;
      written = refl;
      told = (refl, refl);
    }
