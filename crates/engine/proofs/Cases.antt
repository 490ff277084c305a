-- The twelve numbered cases hold: the definitions are computed on each. Assumes nothing.
use mathlib.Core.Path.{◌≡◌, refl}
use mathlib.Core.Bool.{true}
use Rattle.engine.specs.Choice.{any, keep, first, found, or_zero, same}
use Rattle.engine.specs.Eval.{bit, bits, number_of, all_inputs, all_vectors, old_values, old_outputs, golden_outputs}
use Rattle.engine.specs.Rectify.{rectifies, rectifiable, unrectified, rounds, vector_loop}
use Rattle.engine.specs.Support.{reading, giving, driven_by, equals_golden, shared, sound, table_of, sharing, note_of, notes_of, candidate_nets, subsets, cost, patch_gates, earlier, better, best_of, chosen}
use Rattle.engine.specs.Verdict.{blind_reading, four_bytes, judge_sheet, patch_sheet, choose_sheet, reply_number}
use Rattle.engine.specs.Tree.{constant, buf_of, not_of, and_of, or_of, column, join_of, builds_low, builds_high, join_gates, tree}
use Rattle.engine.specs.Fit.{led, gate_indices, rank, trees_from, new_free_gate, new_free_net, trees, new_gate, new_nets, moved, moved_gates, fitted, fitted_bytes, fits}
use Rattle.engine.specs.Cases.{job_with, judged, chose, fitted_size, cases, cases_hold}
use Rattle.records.specs.Bytes.{up_from, tabulate, all, flat, byte_pair, word, placed, field, body_length, body, rest, fits as fits', whole, nth}
use Rattle.records.specs.Gate.{gate_of, least_count, most_count, permits, operands, unused, conj, disj, parity, inverted, gate_value}
use Rattle.records.specs.Netlist.{net_at, extended, value_of, values, mark_of, fanout}
use Rattle.records.specs.Job.{gate_at, gates_of, nets_of, netlist_of, candidate_at, candidates_of, job_whole, job_of, gate_bytes, candidate_bytes, job_bytes}
use Rattle.records.specs.Refusal.{first_failing, side_counts_good, counts_good, gate_good, gates_good, netlists_good, old_nets, golden_nets, outputs_good, ascending, candidate_good, candidates_good, part_tests, job_tests, job_refusal}
use Rattle.records.specs.Sheet.{quad, patch_of, notes_whole, sheet_whole, weight_of, cost_of, is_candidate, patch_good, sheet_tests}

pub cases-hold : cases_hold ≡ true
unfolding any keep first found or_zero same bit bits number_of all_inputs all_vectors old_values old_outputs golden_outputs rectifies rectifiable unrectified rounds vector_loop reading giving driven_by equals_golden shared sound table_of sharing note_of notes_of candidate_nets subsets cost patch_gates earlier better best_of chosen blind_reading four_bytes judge_sheet patch_sheet choose_sheet reply_number constant buf_of not_of and_of or_of column join_of builds_low builds_high join_gates tree led gate_indices rank trees_from new_free_gate new_free_net trees new_gate new_nets moved moved_gates fitted fitted_bytes fits job_with judged chose fitted_size cases cases_hold up_from tabulate all flat byte_pair word placed field body_length body rest fits' whole nth gate_of least_count most_count permits operands unused conj disj parity inverted gate_value net_at extended value_of values mark_of fanout gate_at gates_of nets_of netlist_of candidate_at candidates_of job_whole job_of gate_bytes candidate_bytes job_bytes first_failing side_counts_good counts_good gate_good gates_good netlists_good old_nets golden_nets outputs_good ascending candidate_good candidates_good part_tests job_tests job_refusal quad patch_of notes_whole sheet_whole weight_of cost_of is_candidate patch_good sheet_tests
cases-hold = refl
