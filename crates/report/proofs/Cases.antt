-- What is printed: the definitions are computed on job A, on a job with notes of every kind, and on further verdicts. Assumes nothing.
use mathlib.Core.Path.{◌≡◌, refl}
use mathlib.Core.Bool.{true}
use Rattle.records.specs.Bytes.{up_from, tabulate, all, flat, byte_pair, word, field, body_length, body, rest, fits, whole, nth}
use Rattle.records.specs.Gate.{gate_of, least_count, most_count, permits, operands, unused, conj, disj, gate_value}
use Rattle.records.specs.Netlist.{net_at, extended, value_of, values, mark_of, fanout}
use Rattle.records.specs.Job.{gate_at, gates_of, nets_of, netlist_of, candidate_at, candidates_of, job_whole, job_of}
use Rattle.records.specs.Refusal.{first_failing, side_counts_good, counts_good, gate_good, gates_good, netlists_good, old_nets, golden_nets, outputs_good, ascending, candidate_good, candidates_good, part_tests, job_tests, job_refusal}
use Rattle.records.specs.Sheet.{weight_of, cost_of}
use Rattle.records.proofs.Laws.Bytes.{all_cons}
use Rattle.engine.specs.Choice.{any, keep, first, found, or_zero, same}
use Rattle.engine.specs.Eval.{bit, bits, number_of, all_inputs, all_vectors, old_values, old_outputs, golden_outputs}
use Rattle.engine.specs.Rectify.{rectifies, rectifiable, unrectified, rounds, vector_loop}
use Rattle.engine.specs.Support.{reading, giving, shared, sound, table_of, sharing, note_of, notes_of, candidate_nets, subsets, cost, patch_gates, earlier, better, best_of, chosen}
use Rattle.engine.specs.Verdict.{ruling, blind_reading}
use Rattle.engine.specs.Tree.{constant, buf_of, not_of, and_of, or_of, column, join_of, builds_low, builds_high, join_gates, tree}
use Rattle.engine.specs.Fit.{trees, trees_from}
use Rattle.engine.specs.Cases.{job_a, job_with}
use Rattle.engine.proofs.Laws.Choice.{same_true}
use Rattle.report.specs.Text.{digits_within, digits, number, numbers, line, patch_text, value_text, ruling_text, refused_text, rectify_text, text_a, text_cases, text_cases_hold}

pub text-cases-hold : text_cases_hold ≡ true
unfolding text_cases_hold text_cases rectify_text ruling_text patch_text value_text refused_text line numbers number digits digits_within ruling blind_reading any keep first found or_zero same bit bits number_of all_inputs all_vectors old_values old_outputs golden_outputs rectifies rectifiable unrectified rounds vector_loop reading giving shared sound table_of sharing note_of notes_of candidate_nets subsets cost patch_gates earlier better best_of chosen constant buf_of not_of and_of or_of column join_of builds_low builds_high join_gates tree trees trees_from job_with up_from tabulate all flat byte_pair word field body_length body rest fits whole nth gate_of least_count most_count permits operands unused conj disj gate_value net_at extended value_of values mark_of fanout gate_at gates_of nets_of netlist_of candidate_at candidates_of job_whole job_of first_failing side_counts_good counts_good gate_good gates_good netlists_good old_nets golden_nets outputs_good ascending candidate_good candidates_good part_tests job_tests job_refusal weight_of cost_of
text-cases-hold = refl

pub a-printed : rectify_text job_a ≡ text_a
unfolding text_cases_hold text_cases
a-printed = same_true _ _ (all_cons _ _ _ text-cases-hold).0
