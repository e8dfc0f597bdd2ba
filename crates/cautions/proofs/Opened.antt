-- Opens every definition of the crate and of the reference: whoever says `unfolding opened_cautions` computes with them all. Assumes
-- nothing.
use Rattle.reference.proofs.Opened.{opened}
use Rattle.cautions.specs.Kinds.{◌given◌, union}
use Rattle.cautions.specs.Texts.{holds, is_mark, marks_after, marks, frame, deeper, outside, depth, after_unary, all_words, loose, star_after, is_strange, calls_register, is_opaque}
use Rattle.cautions.specs.Forms.{words_in, signs_in, form, is_case, is_guarded, is_entered, depth_behind, closer_from, opener_from, places_from, opener, opened_by, closer, jump}
use Rattle.cautions.specs.Forms.{returns_to, behind, next_in, next, ways, hangs, is_dark, ends, reads, reach, sweep, sweeps, reached_from, onward, reached}
use Rattle.cautions.specs.Values.{is_cell, reads_world, memory, is_volatile, changeable, only_written, rest, in_brackets, acts_beside, is_spared, is_whole, full, name_width, cast_width}
use Rattle.cautions.specs.Values.{has_no_width, token_width, widths_in, common, is_cast, natural, is_plain, lone_call, fits, is_small, is_tame}
use Rattle.cautions.specs.Uses.{is_folded, compares, is_truth, is_apart, number_at, moves_call, moves_read, widths, target_cuts, beside_narrower, number_fits, width_kept}
use Rattle.cautions.specs.Uses.{beside_number, sums_numbers, sign_lost, changes_width, is_address, groups, use_cautions, places_of, numbers_odd}
use Rattle.cautions.specs.Joins.{takes_unspelt, is_void, for_caller, is_handed, is_odd, past_call, line_cautions, uses_cautions, put, dark_in, stale_in, spread, join_cautions}
use Rattle.cautions.specs.Joins.{cut_cautions}
use Rattle.cautions.specs.Cautions.{picked, joined, cuts_made, both, with_cuts, finished_cautions, caution_bytes, hand_on, carry, kept_cautions}

unfoldable pub opened_cautions : Unit {0}
unfolding opened ◌given◌ union holds is_mark marks_after marks frame deeper outside depth after_unary all_words loose star_after is_strange calls_register is_opaque words_in signs_in form
    is_case is_guarded is_entered depth_behind closer_from opener_from places_from opener opened_by closer jump returns_to behind next_in next ways hangs is_dark ends reads reach sweep sweeps
    reached_from onward reached is_cell reads_world memory is_volatile changeable only_written rest in_brackets acts_beside is_spared is_whole full name_width cast_width has_no_width
    token_width widths_in common is_cast natural is_plain lone_call fits is_small is_tame is_folded compares is_truth is_apart number_at moves_call moves_read widths target_cuts
    beside_narrower number_fits width_kept beside_number sums_numbers sign_lost changes_width is_address groups use_cautions places_of numbers_odd takes_unspelt is_void for_caller is_handed
    is_odd past_call line_cautions uses_cautions put dark_in stale_in spread join_cautions cut_cautions picked joined cuts_made both with_cuts finished_cautions caution_bytes hand_on carry
    kept_cautions
opened_cautions = tt
