-- For each answer, document 01's number and values of each case: "A refusal returns its number, length 0 and steps 0 ..,
-- except 10, which returns its steps". A number 0 says that nothing was refused.
use Rattle.std.specs.Prelude.{ℕ, ◌+◌, ◌*◌, Result, Ok, Err, Option, Some, None}
use Rattle.model.specs.Refusal.{number, refused_by}
use Rattle.model.specs.declared.Outcome.{Outcome}
use Rattle.model.specs.declared.Outcome.TheVariants.{Shortest, Stopped, Infeasible}
use Rattle.model.specs.declared.Refusal.{Refusal}

-- read, save, row and cut: the number of the refusal.
abbrev pub written_number : Result ℕ Refusal → ℕ
written_number a = refused_by a

-- read, save, row and cut: how many numbers, bytes, words or triangles were written.
abbrev pub written_count : Result ℕ Refusal → ℕ
written_count (Ok k) = k
written_count (Err r) = 0

-- check: the number of the refusal.
abbrev pub check_number : Result ℕ Refusal → ℕ
check_number a = refused_by a

-- "Check gives a layout's length."
abbrev pub check_length : Result ℕ Refusal → ℕ
check_length a = written_count a

-- "A stopped run says whether it holds a layout, and that layout's length."
abbrev pub held_length : Option ℕ → ℕ
held_length (Some len) = len
held_length None = 0

-- How a stopped run is told from others: 1 with a layout, 2 with nothing.
abbrev pub held_verdict : Option ℕ → ℕ
held_verdict (Some len) = 1
held_verdict None = 2

-- run: the number of the refusal; "10 (run, where it is not stopped): none".
abbrev pub run_number : Result Outcome Refusal → ℕ
run_number (Err r) = number r
run_number (Ok (Shortest len steps)) = 0
run_number (Ok (Stopped h steps)) = 0
run_number (Ok (Infeasible steps)) = 10

-- run: the length of the layout that is held.
abbrev pub run_length : Result Outcome Refusal → ℕ
run_length (Err r) = 0
run_length (Ok (Shortest len steps)) = len
run_length (Ok (Stopped h steps)) = held_length h
run_length (Ok (Infeasible steps)) = 0

-- run: the steps taken.
abbrev pub run_steps : Result Outcome Refusal → ℕ
run_steps (Err r) = 0
run_steps (Ok (Shortest len steps)) = steps
run_steps (Ok (Stopped h steps)) = steps
run_steps (Ok (Infeasible steps)) = steps

-- run: 0 where it is not stopped, 1 stopped with a layout, 2 stopped with nothing.
abbrev pub run_verdict : Result Outcome Refusal → ℕ
run_verdict (Err r) = 0
run_verdict (Ok (Shortest len steps)) = 0
run_verdict (Ok (Stopped h steps)) = held_verdict h
run_verdict (Ok (Infeasible steps)) = 0

-- ---- At the C interface an answer is one number of 64 bits: number, verdict, length or count, and steps, in 8, 8, 16 and 32 bits

-- The four fields as one number.
abbrev pub fields : ℕ → ℕ → ℕ → ℕ → ℕ
fields number verdict len steps = number + 256 * verdict + 65536 * len + 4294967296 * steps

-- read, save, row and cut.
abbrev pub written_word : Result ℕ Refusal → ℕ
written_word a = fields (written_number a) 0 (written_count a) 0

-- check.
abbrev pub check_word : Result ℕ Refusal → ℕ
check_word a = fields (check_number a) 0 (check_length a) 0

-- run.
abbrev pub run_word : Result Outcome Refusal → ℕ
run_word a = fields (run_number a) (run_verdict a) (run_length a) (run_steps a)
