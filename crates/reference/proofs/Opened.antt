-- Opens every definition of the crate: whoever says `unfolding opened` computes with them all. Assumes nothing.
use mathlib.Core.List.{flat_map, flatten}
use Rattle.reference.specs.Control.{not, ◌and◌, ◌or◌, when◌then◌else◌, let_some◌else◌then◌}
use Rattle.reference.specs.Text.{strip_prefix}
use Rattle.reference.specs.Listing.{is}
use Rattle.reference.specs.Names.{legacy, suffix, stack_slot, numbered, high_byte, family, fam_of, of_family, volatile_of}
use Rattle.reference.specs.Numbers.{to_digit, digits_value, unsigned, read_u64, read_i64, as_i64, wrap, parse_c_number, base_of, prefix_size, unquoted, constant_digits, constant_value, value_limit}
use Rattle.reference.specs.Numbers.{read_constant, parse_2024, read_number, digits, show_natural, show, delim_before, delim_after, folded, fold_at, fold, joins, merge_into, merge}
use Rattle.reference.specs.Shapes.{label_tokens, is_kw, kw_in, has_brace, braces_in, calls_here, call_in, cut_semicolon, begins_assignment, right_side, assignment_of, writes, is_written, is_operator}
use Rattle.reference.specs.Shapes.{is_operator_expr}
use Rattle.reference.specs.Life.{kills, touch_of, match_touch, lookup, killed_first, goto_target, is_do, rerun_kills, while_passes, goto_passes, scan, dead_from, dead_after}
use Rattle.reference.specs.Join.{written_from, ends_run, gather, updates_first, is_narrow, bad_use, substitute, rewrite_use, rewrite_uses, propagate_constant, reads_here, reads_after, reads_memory}
use Rattle.reference.specs.Join.{expr_fams, harmless, use_from, starts_with_operator, text_before, text_after, standalone, is_bracketed, replacement, replace_at, rewrite_one, use_width, use_lowest}
use Rattle.reference.specs.Join.{other_part, is_compound, replaceable, join_at, join_one, lone_number, try_at, targets}
use Rattle.reference.specs.Run.{labels_from, addressed_here, addressed_in, shift, attempts_from, propagate_once, after_attempts, removals, changed, rounds_from, limit, after_rounds, dead_result}
use Rattle.reference.specs.Run.{cuts_from, drop_dead_results, last_of, run, attempts_of, steps, listings, finished, attempts_in, counts}
use Rattle.reference.specs.Spans.{hull, span_of}
use Rattle.reference.specs.Marks.{moved, comes_to, adds, added, of_each, finished_marks, take_in, carry, own_marks}
use Rattle.reference.specs.Tape.{to_le_bytes, from_le_bytes, write_command_by, write_marks_by, write_line_by, write_lines_by, write_by, command_size_by, command_by, unmarked_from, unmarked}
use Rattle.reference.specs.Questions.{is_convention, is_edition, has_room_by, is_command_by, ends_inside_by, has_line, is_within, is_few, is_short, is_printable, is_over, first_offending, place_at}
use Rattle.reference.specs.Questions.{ask, let_passed◌then◌, count_in, read_command_by, add, read_from_by, read_by, add_marks, marks_from_by, marks_in_by}
use Rattle.reference.specs.Reply.{ask_profile, reply_by, output_after, work_after, told, report}

unfoldable pub opened : Unit {0}
unfolding not ◌and◌ ◌or◌ when◌then◌else◌ let_some◌else◌then◌ strip_prefix is legacy suffix stack_slot numbered high_byte family fam_of of_family volatile_of to_digit digits_value unsigned
    read_u64 read_i64 as_i64 wrap parse_c_number base_of prefix_size unquoted constant_digits constant_value value_limit read_constant parse_2024 read_number digits show_natural show delim_before
    delim_after folded fold_at fold joins merge_into merge label_tokens is_kw kw_in has_brace braces_in calls_here call_in cut_semicolon begins_assignment right_side assignment_of writes
    is_written is_operator is_operator_expr kills touch_of match_touch lookup killed_first goto_target is_do rerun_kills while_passes goto_passes scan dead_from dead_after written_from ends_run
    gather updates_first is_narrow bad_use substitute rewrite_use rewrite_uses propagate_constant reads_here reads_after reads_memory expr_fams harmless use_from starts_with_operator text_before
    text_after standalone is_bracketed replacement replace_at rewrite_one use_width use_lowest other_part is_compound replaceable join_at join_one lone_number try_at targets labels_from
    addressed_here addressed_in shift attempts_from propagate_once after_attempts removals changed rounds_from limit after_rounds dead_result cuts_from drop_dead_results last_of run attempts_of
    steps listings finished attempts_in counts hull span_of moved comes_to adds added of_each finished_marks take_in carry own_marks flat_map flatten to_le_bytes from_le_bytes write_command_by
    write_marks_by write_line_by write_lines_by write_by command_size_by command_by unmarked_from unmarked is_convention is_edition has_room_by is_command_by ends_inside_by has_line is_within
    is_few is_short is_printable is_over first_offending place_at ask let_passed◌then◌ count_in read_command_by add read_from_by read_by add_marks marks_from_by marks_in_by ask_profile reply_by
    output_after work_after told report
opened = tt
