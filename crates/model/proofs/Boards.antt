-- The marked boards of document 01, and the boards of document 02's requests, hold of the definitions: every question of a table has the answer that stands beside it.
use mathlib.Core.List.{List, map}
use mathlib.Core.Path.{◌≡◌, refl}
use Prim.Native.Nat.{ℕ}
use Rattle.model.specs.Boards.{Marked, answer_under, answer_to, boards, further_boards, clamp_runs, clamp_rows, clamp_checks, clamp_refusals, cut_runs, cut_conflicts, cut_bytes, cut_reads, saved_jobs, round_conflicts, round_services, carried_at_once, carried_one, carried_counts, carried_runs, carried_kept, carried_clamped, carried_refusals, ranked_cut_runs, ranked_cut_conflicts, no_class_runs, no_class_conflicts, three_gaps, ran_from, numbers_of, said_by, shown_by, told_by, saved_by, scattered, scattered_saved, printed_saved, square, square_at, slanting, tip_up, tip_down, large_square, slanting_job, plates, job_on, job_of, square_of, square_type, squares, one_square, gap_squares, printed_job, printed_text, triangles, strips, bar, ranked_squares, two_types, left_corner, star, square_twice}
use Rattle.model.specs.Opened.{opened}

-- Every question of the table has its expected answer.
abbrev pub Hold : List Marked → Type 0
Hold table = map (λ m. answer_to m.question) table ≡ map (λ m. m.expected) table

unfoldable opened_boards : ℕ
unfolding opened boards further_boards clamp_runs clamp_rows clamp_checks clamp_refusals cut_runs cut_conflicts cut_bytes cut_reads saved_jobs round_conflicts round_services carried_at_once carried_one carried_counts carried_runs carried_kept carried_clamped carried_refusals ranked_cut_runs ranked_cut_conflicts no_class_runs no_class_conflicts three_gaps ran_from scattered scattered_saved printed_saved answer_under answer_to numbers_of said_by shown_by told_by saved_by square square_at slanting tip_up tip_down large_square slanting_job plates job_on job_of square_of square_type squares one_square gap_squares printed_job printed_text triangles strips bar ranked_squares two_types left_corner star square_twice
opened_boards = 0

-- The paper prints the bytes of one job; the others are put together the same way.
pub printed-like_the_others : squares 2 4 ≡ printed_job
unfolding opened_boards
printed-like_the_others = refl

pub marked-boards : Hold boards
unfolding opened_boards
marked-boards = refl

pub further_boards_lem : Hold further_boards
unfolding opened_boards
further_boards_lem = refl

-- The boards of document 02's first request.
pub clamp_refusals_lem : Hold clamp_refusals
unfolding opened_boards
clamp_refusals_lem = refl

pub clamp_checks_lem : Hold clamp_checks
unfolding opened_boards
clamp_checks_lem = refl

pub clamp_rows_lem : Hold clamp_rows
unfolding opened_boards
clamp_rows_lem = refl

pub clamp_runs_lem : Hold clamp_runs
unfolding opened_boards
clamp_runs_lem = refl

-- The boards of document 02's third request.
pub cut-bytes : Hold cut_bytes
unfolding opened_boards
cut-bytes = refl

pub cut-reads : Hold cut_reads
unfolding opened_boards
cut-reads = refl

pub cut-conflicts : Hold cut_conflicts
unfolding opened_boards
cut-conflicts = refl

pub cut-runs : Hold cut_runs
unfolding opened_boards
cut-runs = refl

-- The boards of document 02's fourth request.
pub saved_jobs_lem : Hold saved_jobs
unfolding opened_boards
saved_jobs_lem = refl

-- The boards of document 02's fifth request.
pub round_conflicts_lem : Hold round_conflicts
unfolding opened_boards
round_conflicts_lem = refl

pub round_services_lem : Hold round_services
unfolding opened_boards
round_services_lem = refl

-- The boards of document 02's sixth request.
pub carried_at_once_lem : Hold carried_at_once
unfolding opened_boards
carried_at_once_lem = refl

pub carried_one_lem : Hold carried_one
unfolding opened_boards
carried_one_lem = refl

pub carried_counts_lem : Hold carried_counts
unfolding opened_boards
carried_counts_lem = refl

pub carried_kept_lem : Hold carried_kept
unfolding opened_boards
carried_kept_lem = refl

pub carried_runs_lem : Hold carried_runs
unfolding opened_boards
carried_runs_lem = refl

pub carried_clamped_lem : Hold carried_clamped
unfolding opened_boards
carried_clamped_lem = refl

pub carried_refusals_lem : Hold carried_refusals
unfolding opened_boards
carried_refusals_lem = refl

-- The boards of document 02's eighth request.
pub ranked_cut-conflicts : Hold ranked_cut_conflicts
unfolding opened_boards
ranked_cut-conflicts = refl

pub ranked_cut-runs : Hold ranked_cut_runs
unfolding opened_boards
ranked_cut-runs = refl

-- The boards of document 02's ninth request.
pub no_class-conflicts : Hold no_class_conflicts
unfolding opened_boards
no_class-conflicts = refl

pub no_class-runs : Hold no_class_runs
unfolding opened_boards
no_class-runs = refl
