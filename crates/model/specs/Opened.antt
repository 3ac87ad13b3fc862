-- Names that open all definitions of a module, and one that opens them all, for theorems that compute with them: such a theorem
-- says `unfolding opened`. The numbers mean nothing.
use Rattle.std.specs.Prelude.{ℕ}
use Rattle.integers.specs.Byte.{signed}
use Rattle.integers.specs.Extrema.{max_z, min_z}
use Rattle.words.specs.Bits.{test_bit, bits_where}
use Rattle.words.specs.Number.{value, bytes, bytes_of, number_at, with_number, count, filled}
use Rattle.model.specs.Lists.{all, any, keep, count_of, concat, sum, largest, rising, below, between, largest_from, smallest_from, largest_z, smallest_z}
use Rattle.model.specs.Content.{piece_count, kind_count, kind_at}
use Rattle.model.specs.Grid.{columns, rows, dots, number_of, placement_of, number_limit, set_words}
use Rattle.model.specs.Geometry.{quarter_turn, rotated, moved, vertex_at, following, cross, strictly_left, edge_sound, sound, outward_normal, normals, negated, directions, along, separates, disjoint, distance_squared, along_edge, near_edge, corners_clear, separated, pieces_conflict}
use Rattle.model.specs.Gap.{names, outranks, better, best_from, best_ranked, best_class, largest_gap, gap_or, kind_gap, same_marked, share_cut, pair_gap}
use Rattle.model.specs.Problem.{cause13}
use Rattle.model.specs.Candidate.{placed_part, placed_parts, placed_vertices, on_board, admitted, is_candidate, candidates, natural, extent}
use Rattle.model.specs.Format.{byte_at, word_at, trailer_at, board_at, classes_at, kinds_at, kinds_length, classes_stated, kinds_stated, length_stated, marked, board_section, classes_section, kinds_section, in_place, share_byte, board_of, marks_cut, gap_meant, class_at, classes_of, by_rising_id, joined, followed, many, vertices, read_part, head_in_range, with_parts, read_kind, kind_bytes, kinds_got, kinds_in, content, cause1, cause2, cause3, cause4, class_in_range, distinct, cause5, names_present, kinds_unfit, cause6, vertex_in_range, cause7, refusal}
use Rattle.model.specs.Layout.{entry_of, entry_number, entry_kind, is_entry, entry_extent, conflict, in_order, ordered, copies, demand_met, apart, passes, largest_end, layout_length}
use Rattle.model.specs.Search.{pieces, candidate_table, free, above_previous, beats, stays_below, live, copies_left, forward_check, then, completed, try_candidates, search_pieces, search_from, length_of, steps_from, steps_needed, is_stopped, steps_taken, latest, best_after, held}
use Rattle.model.specs.Saving.{board_record, gap_byte, class_record, class_list, signed_byte, vertex_bytes, part_bytes, kind_record, kind_list, section_bytes, pointer_bytes, trailer_bytes, written}
use Rattle.model.specs.Refusal.{numbered}
use Rattle.model.specs.Services.{numbers_in, words_in, with_numbers, with_words, coordinate, vertex_numbers, part_numbers, kind_numbers, class_numbers, content_numbers, read_content, read, with_bytes, save_content, save, refusal_under, cause12, row_bit, row_words, row_content, conflict_row, entry_in, layout_in, cause11, check_content, check, work_words, cleared, entry_numbers, layout_numbers, with_layout, held_as, finished_as, given_layout, given_unfit, step_count, verdict, run_from, run_content, run}
use Rattle.model.specs.Output.{digits_before, decimal, line, shortest_word, stopped_word, none_word, refused_word, held_word, first_line, entry_line, entry_lines, held_lines, layout_lines, printed, program}

unfoldable pub opened_words : ℕ
unfolding signed max_z min_z test_bit bits_where value bytes bytes_of number_at with_number count filled
opened_words = 0

unfoldable pub opened_lists : ℕ
unfolding all any keep count_of concat sum largest rising below between largest_from smallest_from largest_z smallest_z
opened_lists = 0

unfoldable pub opened_content : ℕ
unfolding piece_count kind_count kind_at
opened_content = 0

unfoldable pub opened_grid : ℕ
unfolding columns rows dots number_of placement_of number_limit set_words
opened_grid = 0

unfoldable pub opened_geometry : ℕ
unfolding quarter_turn rotated moved vertex_at following cross strictly_left edge_sound sound outward_normal normals negated directions along separates disjoint distance_squared along_edge near_edge corners_clear separated pieces_conflict
opened_geometry = 0

unfoldable pub opened_gap : ℕ
unfolding names outranks better best_from best_ranked best_class largest_gap gap_or kind_gap same_marked share_cut pair_gap
opened_gap = 0

unfoldable pub opened_candidate : ℕ
unfolding placed_part placed_parts placed_vertices on_board admitted is_candidate candidates natural extent
opened_candidate = 0

unfoldable pub opened_format : ℕ
unfolding byte_at word_at trailer_at board_at classes_at kinds_at kinds_length classes_stated kinds_stated length_stated marked board_section classes_section kinds_section in_place share_byte board_of marks_cut gap_meant class_at classes_of by_rising_id joined followed many vertices read_part head_in_range with_parts read_kind kind_bytes kinds_got kinds_in content cause1 cause2 cause3 cause4 class_in_range distinct cause5 names_present kinds_unfit cause6 vertex_in_range cause7 refusal
opened_format = 0

unfoldable pub opened_layout : ℕ
unfolding entry_of entry_number entry_kind is_entry entry_extent conflict in_order ordered copies demand_met apart passes largest_end layout_length
opened_layout = 0

unfoldable pub opened_search : ℕ
unfolding pieces candidate_table free above_previous beats stays_below live copies_left forward_check then completed try_candidates search_pieces search_from length_of steps_from steps_needed is_stopped steps_taken latest best_after held
opened_search = 0

unfoldable pub opened_saving : ℕ
unfolding board_record gap_byte class_record class_list signed_byte vertex_bytes part_bytes kind_record kind_list section_bytes pointer_bytes trailer_bytes written
opened_saving = 0

unfoldable pub opened_services : ℕ
unfolding numbered numbers_in words_in with_numbers with_words coordinate vertex_numbers part_numbers kind_numbers class_numbers content_numbers read_content read with_bytes save_content save cause13 refusal_under cause12 row_bit row_words row_content conflict_row entry_in layout_in cause11 check_content check work_words cleared entry_numbers layout_numbers with_layout held_as finished_as given_layout given_unfit step_count verdict run_from run_content run
opened_services = 0

unfoldable pub opened_output : ℕ
unfolding digits_before decimal line shortest_word stopped_word none_word refused_word held_word first_line entry_line entry_lines held_lines layout_lines printed program
opened_output = 0

unfoldable pub opened : ℕ
unfolding opened_words opened_lists opened_content opened_grid opened_geometry opened_gap opened_candidate opened_format opened_layout opened_search opened_saving opened_services opened_output
opened = 0
