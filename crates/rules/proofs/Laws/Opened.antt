-- One name that opens every rule, for facts that are proved by computing: `unfolding rules`.
use Rattle.rules.specs.Notation.{all, any, count, lowest}
use Rattle.rules.specs.Tables.{node_word, put_node, link_word, put_link, seat_word, put_seat, clear_words, node_count_of, seat_count_of, fresh}
use Rattle.rules.specs.Comparison.{lies_after, lies_before, compare, run_or_none}
use Rattle.rules.specs.Shape.{nodes_fit, seats_fit, lengths_fit, is_kind, may_claim, zero_node, claim_node, names, node_sound, may_be_in, is_phase, zero_seat, idle_or_owning, resting_at_zero, waiting_at_cur, seat_sound, holders_of_kind, counts_fit, ends_by, title_fits, ends_within, nodes_sound, seats_sound, sound}
use Rattle.rules.specs.Reach.{met, nodes_from, list_of, listed, seat_reaches, others_reach, free, lowest_free, count_free}
use Rattle.rules.specs.Fetch.{kept_from, kept, link_through, taken_out, write_claim, reserve_for, take_node, fetch_again, fetch}
use Rattle.rules.specs.Answers.{answer_of}
use Rattle.rules.specs.Steps.{joined, unlink, pass, link_in, start_validating, hold, once_linked, look_again, insert, withdraw, leave, walking, waiting_to_enter, reader_validating, writer_validating, validating, reader_waiting, refetched, withdrawn, entering, step_by_phase}
use Rattle.rules.specs.Calls.{clear, reserved, reserve, enter, step, release}
use Rattle.rules.specs.FreeCount.{free_count}
use Rattle.rules.specs.Run.{run_steps, run}
use Rattle.rules.specs.Board.{rows_below, holders, some_covers, last_end, covered_by, board, numbers_of, board_numbers}
use Rattle.rules.specs.Script.{byte_at, is_digit, digit_at, digits_from, number_at, field_at, line_end, in_bounds, contents_of, reserve_line, seat_line, body_at, bad_at, good_script, bodies_from, read_script}
use Rattle.rules.specs.Play.{call, call_of, calls_of, trace, after_all, digits, decimal, answer_text, turn_text, turns_text, numbers_text, list_text, row_text, rows_text, covered_text, end_text, start_of, script_text, play}
use Rattle.rules.specs.Locks.{first_frame, last_frame, no_run, import_lock, export_claim, each, in_threes, threes, import_locks, export_claims}
use Rattle.rules.specs.Covered.{added_up}
use Rattle.rules.specs.Stores.{stores_along, stores, store_all, times_to, marked_from, marked_listed}

unfoldable pub rules : Unit {0}
unfolding all any count lowest node_word put_node link_word put_link seat_word put_seat clear_words node_count_of seat_count_of fresh lies_after lies_before compare run_or_none nodes_fit seats_fit lengths_fit is_kind may_claim zero_node claim_node names node_sound may_be_in is_phase zero_seat idle_or_owning resting_at_zero waiting_at_cur seat_sound holders_of_kind counts_fit ends_by title_fits ends_within nodes_sound seats_sound sound met nodes_from list_of listed seat_reaches others_reach free lowest_free count_free kept_from kept link_through taken_out write_claim reserve_for take_node fetch_again fetch answer_of joined unlink pass link_in start_validating hold once_linked look_again insert withdraw leave walking waiting_to_enter reader_validating writer_validating validating reader_waiting refetched withdrawn entering step_by_phase clear reserved reserve enter step release free_count run_steps run rows_below holders some_covers last_end covered_by board numbers_of board_numbers byte_at is_digit digit_at digits_from number_at field_at line_end in_bounds contents_of reserve_line seat_line body_at bad_at good_script bodies_from read_script call call_of calls_of trace after_all digits decimal answer_text turn_text turns_text numbers_text list_text row_text rows_text covered_text end_text start_of script_text play first_frame last_frame no_run import_lock export_claim each in_threes threes import_locks export_claims added_up stores_along stores store_all times_to marked_from marked_listed
rules = tt
