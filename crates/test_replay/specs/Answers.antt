-- What a frame wants of its call: the report, and every lent byte afterwards; and whether a call does that. Assumes nothing.
use Rattle.std.specs.Prelude.{ℕ, ◌/◌, ◌%◌, Bool, List, ◌++◌, eqb, leb, length, take, drop, replicate}
use Rattle.std.proofs.Math.Seq.{paste}
use Rattle.reference.specs.Control.{◌and◌, when◌then◌else◌}
use Rattle.reference.specs.Text.{◌≟◌}
use Rattle.reference.specs.Rules.{Rules}
use Rattle.reference.specs.Reply.{Reply, Told, Report, reply, report, output_after, work_after}
use Rattle.puchkewa.specs.declared.export.Report.{Report as Wanted}
use Rattle.test_replay.specs.Frames.{number_in, tape_in, output_in}

-- a number of the frame is this one
abbrev pub is_number : List ℕ → ℕ → ℕ → Bool
is_number list k n = eqb (number_in list k) n

abbrev pub is_report : List ℕ → ℕ → ℕ → ℕ → ℕ → Bool
is_report list refusal place length cut =
    is_number list 6 refusal and is_number list 7 place and is_number list 8 length and is_number list 13 cut

abbrev pub are_counts : List ℕ → ℕ → ℕ → ℕ → ℕ → Bool
are_counts list first second third removed =
    is_number list 9 first and is_number list 10 second and is_number list 11 third and is_number list 12 removed

abbrev pub are_rounds : List ℕ → ℕ → ℕ → Bool
are_rounds list rounds attempts = is_number list 14 rounds and is_number list 15 attempts

abbrev pub are_told : List ℕ → Told → ℕ → Bool
are_told list t removed = are_counts list t.first t.second t.third removed and are_rounds list t.rounds t.attempts

-- the report that the frame wants, as the C interface has it
abbrev pub wanted_in : List ℕ → Wanted
wanted_in list =
    record {
      refusal = number_in list 6;
      place = number_in list 7;
      length = number_in list 8;
      attempts_1 = number_in list 9;
      attempts_2 = number_in list 10;
      attempts_3 = number_in list 11;
      removed = number_in list 12;
      cut = number_in list 13;
      rounds = number_in list 14;
      attempts = number_in list 15;
    }

-- the report is the one that the frame wants
abbrev pub is_wanted : List ℕ → Report → Bool
is_wanted list r =
    is_report list r.refusal r.place r.length r.cut and are_told list r.told r.removed

-- a work area afterwards: zero up to 49,152, unless the frame wants a refusal
unfoldable pub work_wanted : List ℕ → List ℕ → List ℕ
work_wanted list area = when is_number list 6 0 then replicate 49152 0 ++ drop 49152 area else area

-- the output afterwards: what the frame wants, if there is room for it, and then what it held
unfoldable pub out_wanted : List ℕ → List ℕ → List ℕ
out_wanted list out = when leb (length (output_in list)) (length out) then paste out 0 (output_in list) (length (output_in list)) else out

-- the report and the three lent parts afterwards are as wanted
abbrev pub all_right : List ℕ → Report → List ℕ → List ℕ → List ℕ → List ℕ → List ℕ → Bool
all_right list report work_a work_b out work written = is_wanted list report and (work_a ≟ work) and (work_b ≟ work) and (out ≟ written)

-- each byte of the parts having been 170
unfoldable pub is_right : List ℕ → Report → List ℕ → List ℕ → List ℕ → Bool
is_right list report work_a work_b out =
    all_right list report work_a work_b out (work_wanted list (replicate 65600 170)) (out_wanted list (replicate 59200 170))

-- ---- the call

-- settings as one number: the convention is its lowest byte; the three bits above it, whether to settle,
-- whether parts are told apart and whether the profile is asked for; the third byte, the number edition
abbrev pub rules_as : ℕ → Rules
rules_as n =
    record {
      convention = n % 256;
      settle = eqb (n / 256 % 2) 1;
      edition = n / 65536 % 256;
      parts = eqb (n / 512 % 2) 1;
      profile = eqb (n / 1024 % 2) 1;
    }

abbrev pub rules_in : List ℕ → Rules
rules_in list = rules_as (number_in list 1)

-- the reply to the frame's call, these being the lent parts
abbrev pub reply_to : List ℕ → List ℕ → List ℕ → List ℕ → Reply
reply_to list a b o = reply (rules_in list) (tape_in list) (length a) (length b) (length o)

-- what is as wanted, where a, b and o are lent, and behind them lie more bytes that are not
abbrev pub called : List ℕ → List ℕ → List ℕ → List ℕ → List ℕ → List ℕ → List ℕ → Bool
called list a more-a b more-b o more-o =
    let r = reply_to list a b o in
    is_right list (report r) (work_after r a ++ more-a) (work_after r b ++ more-b) (output_after r o ++ more-o)

-- The call does what the frame wants, the fronts of these parts being lent as far as the frame says. The answer is the definition's: the
-- code of the cleaner has no part in it.
unfoldable pub agrees : List ℕ → List ℕ → List ℕ → List ℕ → Bool
agrees list work_a work_b out =
    leb (number_in list 2) (length work_a)
    and leb (number_in list 3) (length work_b)
    and leb (number_in list 4) (length out)
    and called list (take (number_in list 2) work_a) (drop (number_in list 2) work_a) (take (number_in list 3) work_b)
    (drop (number_in list 3) work_b)
    (take (number_in list 4) out) (drop (number_in list 4) out)
