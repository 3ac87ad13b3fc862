-- Document 01, "Small boards": the marked ones, as one table of questions to the services and what the paper says of each. Then further boards, and those of
-- document 02's requests.
use Rattle.std.specs.Prelude.{Bool, true, false, List, [], ◌∷◌, ◌++◌, map, ℕ, ◌+◌, ◌*◌, ◌/◌, eqb, pos, length, replicate, Result, Ok, Err, Some, None}
use Rattle.words.specs.Number.{bytes, bytes_of, number_at}
use Rattle.model.specs.Content.{vertex, Part, piece_count}
use Rattle.model.specs.Format.{content, refusal}
use Rattle.model.specs.Geometry.{moved, pieces_conflict}
use Rattle.model.specs.Grid.{set_words}
use Rattle.model.specs.Lists.{all, below}
use Rattle.model.specs.Output.{program}
use Rattle.model.specs.Problem.{under}
use Rattle.model.specs.Services.{RunOutcome, WriteOutcome, read, save, run, check, conflict_row, numbers_in, words_in, work_words}
use Rattle.model.specs.declared.Outcome.{Outcome}
use Rattle.model.specs.declared.Outcome.TheVariants.{Shortest, Stopped, Infeasible}
use Rattle.model.specs.declared.Refusal.{Refusal}
use Rattle.model.specs.declared.Refusal.TheVariants as R

-- ---- Questions and answers

-- A run of a job at a budget, begun from no layout or from the one in these bytes; a check of a job and a layout's numbers; a row of a job, of the candidate of a number of its first type, against that type; each of
-- the three under a margin instead of 0; the numbers that read gives of a job, where room for so many is lent; a job saved into so many bytes; whether two
-- parts, where they stand, are in conflict at a gap; by which number a job's sender is refused; what the program prints of a job.
pub data Question : Type 0 where
  prints : List ℕ → Question
  runs : List ℕ → ℕ → Question
  carries : List ℕ → List ℕ → ℕ → Question
  checks : List ℕ → List ℕ → Question
  rows : List ℕ → ℕ → Question
  clamped : ℕ → Question → Question
  reads : List ℕ → ℕ → Question
  saves : List ℕ → ℕ → Question
  conflicts : ℕ → Part → Part → Question
  sends : List ℕ → Question

-- What a run says, whether its work words are zero, and the answer numbers after it; what check says; what row says and its words, read and its
-- numbers, or save and its bytes; whether there is conflict; the number of the refusal, 0 for an accepted job; the bytes printed.
pub data Answer : Type 0 where
  text : List ℕ → Answer
  says : Result Outcome Refusal → Bool → List ℕ → Answer
  finds : Result ℕ Refusal → Answer
  shows : Result ℕ Refusal → List ℕ → Answer
  is_conflict : Bool → Answer
  is_refused : ℕ → Answer

-- A question, and the documents' answer to it.
pub record Marked : Type 0 where
  pub question : Question
  pub expected : Answer

-- A question with its answer.
abbrev pub ◌⇒◌ : Question → Answer → Marked
q ⇒ a = record { question = q; expected = a }

infix 4 ◌⇒◌
-- ---- Answering

-- The numbers that a buffer holds.
unfoldable pub numbers_of : List ℕ → List ℕ
numbers_of s = map (λ i. number_at 2 s (i * 2)) (below (numbers_in s))

-- What a run told and left, as an answer of the table.
unfoldable pub said_by : RunOutcome → Answer
said_by r = says r.answer (all (eqb 0) r.work) (numbers_of r.out)

-- "Squares are (0,0) (2,0) (2,2) (0,2)."
unfoldable pub square : Part
square = vertex (pos 0) (pos 0) ∷ vertex (pos 2) (pos 0) ∷ vertex (pos 2) (pos 2) ∷ vertex (pos 0) (pos 2) ∷ []

-- A square at (x,y).
unfoldable pub square_at : ℕ → ℕ → Part
square_at x y = map (moved x y) square

-- What row told and left, as an answer of the table.
unfoldable pub shown_by : WriteOutcome → Answer
shown_by r = shows r.answer (map (λ i. number_at 8 r.buffer (i * 8)) (below (words_in r.buffer)))

-- What read told and left, as an answer of the table.
unfoldable pub told_by : WriteOutcome → Answer
told_by r = shows r.answer (numbers_of r.buffer)

-- What save told and left, as an answer of the table.
unfoldable pub saved_by : WriteOutcome → Answer
saved_by r = shows r.answer r.buffer

-- A run under a margin, begun from the layout in these bytes. It is lent just enough work words, each byte 255, and just enough answer numbers, each 7.
unfoldable pub ran_from : ℕ → List ℕ → List ℕ → ℕ → Answer
ran_from m given s budget =
    said_by
    (run s m budget given (replicate (work_words (under m (content s)) * 8) 255)
    (bytes_of 2 (replicate (piece_count (content s).kinds * 4) 7)))

-- The answer under a margin. A row is lent just enough words, each 0; read numbers that are each 7; save bytes that are each 7.
unfoldable pub answer_under : ℕ → Question → Answer
answer_under m (runs s budget) = ran_from m [] s budget
answer_under m (carries given s budget) = ran_from m given s budget
answer_under m (checks s ns) = finds (check s m (bytes_of 2 ns))
answer_under m (rows s n) = shown_by (conflict_row s m 0 n 0 (replicate (set_words (content s).sheet * 8) 0))
answer_under m (clamped k q) = answer_under k q
answer_under m (reads s n) = told_by (read s (bytes_of 2 (replicate n 7)))
answer_under m (saves s n) = saved_by (save s (replicate n 7))
answer_under m (prints s) = text (program s)
answer_under m (sends s) = is_refused (refusal s)
answer_under m (conflicts gap P Q) = is_conflict (pieces_conflict gap (P ∷ []) (Q ∷ []))

-- Document 01 knows no margin: "With m = 0 .., all earlier results hold".
unfoldable pub answer_to : Question → Answer
answer_to q = answer_under 0 q

-- ---- Jobs

-- A job of class records, a board of this width, length and step, and so many types in their bytes: the sections in this order, then the trailer.
unfoldable pub job_on : List ℕ → List ℕ → ℕ → List ℕ → List ℕ
job_on board classes types ts =
    classes
    ++ bytes_of 2 board
    ++ ts
    ++ bytes_of 2 (length classes ∷ 0 ∷ (length classes + 6) ∷ length ts ∷ [])
    ++ ((length classes / 3) ∷ types ∷ [])
    ++ bytes 2 (length classes + length ts + 20)
    ++ (0x44 ∷ 0x42 ∷ [])

-- "step 1 unless said"
unfoldable pub job_of : ℕ → ℕ → List ℕ → ℕ → List ℕ → List ℕ
job_of w l classes types ts = job_on (w ∷ l ∷ 1 ∷ []) classes types ts

-- "turn mask 1": squares as a type, with this demand and class mask.
unfoldable pub square_of : ℕ → ℕ → List ℕ
square_of demand classes = demand ∷ 1 ∷ classes ∷ 1 ∷ 4 ∷ 0 ∷ 0 ∷ 2 ∷ 0 ∷ 2 ∷ 2 ∷ 0 ∷ 2 ∷ []

-- "turn mask 1, no class, demand 2": the squares as a type, with this class mask.
unfoldable pub square_type : ℕ → List ℕ
square_type classes = square_of 2 classes

-- Two squares in no class.
unfoldable pub squares : ℕ → ℕ → List ℕ
squares w l = job_of w l [] 1 (square_type 0)

-- One square, at step 2.
unfoldable pub one_square : ℕ → ℕ → List ℕ
one_square w l = job_on (w ∷ l ∷ 2 ∷ []) [] 1 (square_of 1 0)

-- Two squares in a class of this gap byte.
unfoldable pub gap_squares : ℕ → ℕ → ℕ → List ℕ
gap_squares gap w l = job_of w l (0 ∷ 0 ∷ gap ∷ []) 1 (square_type 1)

-- "W 2, L 4. The job in hexadecimal"
unfoldable pub printed_job : List ℕ
printed_job =
    0x02 ∷ 0x00 ∷ 0x04 ∷ 0x00 ∷ 0x01 ∷ 0x00 ∷ 0x02 ∷ 0x01 ∷ 0x00 ∷ 0x01 ∷ 0x04 ∷ 0x00 ∷ 0x00 ∷ 0x02 ∷ 0x00 ∷ 0x02 ∷ 0x02 ∷ 0x00 ∷ 0x02 ∷ 0x00 ∷ 0x00 ∷ 0x00 ∷ 0x00 ∷ 0x06 ∷ 0x00 ∷ 0x0D ∷ 0x00 ∷ 0x00 ∷ 0x01 ∷ 0x21 ∷ 0x00 ∷ 0x44 ∷ 0x42 ∷ []

-- "The program prints exactly": the bytes of its three lines.
unfoldable pub printed_text : List ℕ
printed_text =
    -- `shortest 4 3`
    (115 ∷ 104 ∷ 111 ∷ 114 ∷ 116 ∷ 101 ∷ 115 ∷ 116 ∷ 32 ∷ 52 ∷ 32 ∷ 51 ∷ 10 ∷ [])
    -- `0 0 0 0`
    ++ (48 ∷ 32 ∷ 48 ∷ 32 ∷ 48 ∷ 32 ∷ 48 ∷ 10 ∷ [])
    -- `0 2 0 0`
    ++ (48 ∷ 32 ∷ 50 ∷ 32 ∷ 48 ∷ 32 ∷ 48 ∷ 10 ∷ [])

-- "Two triangles (0,0) (2,0) (2,2) and (0,0) (2,2) (0,2), one each"
unfoldable pub triangles : List ℕ
triangles = job_of 2 2 [] 2 (1 ∷ 1 ∷ 0 ∷ 1 ∷ 3 ∷ 0 ∷ 0 ∷ 2 ∷ 0 ∷ 2 ∷ 2 ∷ 1 ∷ 1 ∷ 0 ∷ 1 ∷ 3 ∷ 0 ∷ 0 ∷ 2 ∷ 2 ∷ 0 ∷ 2 ∷ [])

-- "Strip (0,0) (10,10) (10,11) (0,1), demand 2, W 12, L 20"
unfoldable pub strips : List ℕ
strips = job_of 12 20 [] 1 (2 ∷ 1 ∷ 0 ∷ 1 ∷ 4 ∷ 0 ∷ 0 ∷ 10 ∷ 10 ∷ 10 ∷ 11 ∷ 0 ∷ 1 ∷ [])

-- "Bar (0,0) (3,0) (3,1) (0,1), demand 1, W 3, L 1", with this turn mask.
unfoldable pub bar : ℕ → List ℕ
bar turns = job_of 3 1 [] 1 (1 ∷ turns ∷ 0 ∷ 1 ∷ 4 ∷ 0 ∷ 0 ∷ 3 ∷ 0 ∷ 3 ∷ 1 ∷ 0 ∷ 1 ∷ [])

-- Two squares that name the classes of ids 0 and 1, whose records are these: "classes of rank 5 gap 1 and rank 9 gap 3, in either file order".
unfoldable pub ranked_squares : List ℕ → List ℕ
ranked_squares classes = job_of 2 7 classes 1 (square_type 3)

-- Two types of one square each, with these class masks, on a board of width 2.
unfoldable pub two_types : List ℕ → ℕ → ℕ → ℕ → List ℕ
two_types classes a b l = job_of 2 l classes 2 (square_of 1 a ++ square_of 1 b)

-- One triangle with a corner at (x, 0), x as a byte: -127 is 129 and -128 is 128.
unfoldable pub left_corner : ℕ → List ℕ
left_corner x = job_of 30 30 [] 1 (1 ∷ 1 ∷ 0 ∷ 1 ∷ 3 ∷ x ∷ 0 ∷ 0 ∷ 0 ∷ 0 ∷ 1 ∷ [])

-- "a five-pointed star .. each corner turns left": (0,10) (-6,-8) (10,3) (-10,3) (6,-8).
unfoldable pub star : List ℕ
star = job_of 20 20 [] 1 (1 ∷ 1 ∷ 0 ∷ 1 ∷ 5 ∷ 0 ∷ 10 ∷ 250 ∷ 248 ∷ 10 ∷ 3 ∷ 246 ∷ 3 ∷ 6 ∷ 248 ∷ [])

-- One piece of two parts, which are the same square twice, on a board as large as the square.
unfoldable pub square_twice : List ℕ
square_twice = job_of 2 2 [] 1 (1 ∷ 1 ∷ 0 ∷ 2 ∷ 4 ∷ 0 ∷ 0 ∷ 2 ∷ 0 ∷ 2 ∷ 2 ∷ 0 ∷ 2 ∷ 4 ∷ 0 ∷ 0 ∷ 2 ∷ 0 ∷ 2 ∷ 2 ∷ 0 ∷ 2 ∷ [])

-- What a run leaves where it holds no layout of two pieces: the numbers that were there.
abbrev untouched : List ℕ
untouched = 7 ∷ 7 ∷ 7 ∷ 7 ∷ 7 ∷ 7 ∷ 7 ∷ 7 ∷ []

-- ---- The table. Steps that the paper does not print were counted by hand

-- The boards that document 01 marks with a star.
unfoldable pub boards : List Marked
boards =
    -- "W 2, L 4 .. The program prints exactly": `shortest 4 3`, `0 0 0 0`, `0 2 0 0`
    (prints printed_job ⇒ text printed_text)
    -- The same by run: the answer numbers hold the layout.
    ∷ (runs printed_job 1000000 ⇒ says (Ok (Shortest 4 3)) true (0 ∷ 0 ∷ 0 ∷ 0 ∷ 0 ∷ 2 ∷ 0 ∷ 0 ∷ []))
    -- "Budgets 3, 2, 1: shortest 4; stopped with 4; stopped with nothing."
    ∷ (runs printed_job 3 ⇒ says (Ok (Shortest 4 3)) true (0 ∷ 0 ∷ 0 ∷ 0 ∷ 0 ∷ 2 ∷ 0 ∷ 0 ∷ []))
    ∷ (runs printed_job 2 ⇒ says (Ok (Stopped (Some 4) 2)) true (0 ∷ 0 ∷ 0 ∷ 0 ∷ 0 ∷ 2 ∷ 0 ∷ 0 ∷ []))
    ∷ (runs printed_job 1 ⇒ says (Ok (Stopped None 1)) true untouched)
    -- "L 3: none, 2 steps. L 1: none, 0 steps, also at budget 0."
    ∷ (runs (squares 2 3) 1000000 ⇒ says (Ok (Infeasible 2)) true untouched)
    ∷ (runs (squares 2 1) 1000000 ⇒ says (Ok (Infeasible 0)) true untouched)
    ∷ (runs (squares 2 1) 0 ⇒ says (Ok (Infeasible 0)) true untouched)
    -- "Gap 1: L 5 gives 5; L 4 none."
    ∷ (runs (gap_squares 1 2 5) 1000000 ⇒ says (Ok (Shortest 5 4)) true (0 ∷ 0 ∷ 0 ∷ 0 ∷ 0 ∷ 3 ∷ 0 ∷ 0 ∷ []))
    ∷ (runs (gap_squares 1 2 4) 1000000 ⇒ says (Ok (Infeasible 3)) true untouched)
    -- "Squares at (0,0) and (2,0) meet without conflict; (1,0) conflicts."
    ∷ (conflicts 0 square (square_at 2 0) ⇒ is_conflict false)
    ∷ (conflicts 0 square (square_at 1 0) ⇒ is_conflict true)
    ∷ (checks printed_job (0 ∷ 0 ∷ 0 ∷ 0 ∷ 0 ∷ 2 ∷ 0 ∷ 0 ∷ []) ⇒ finds (Ok 4))
    ∷ (checks printed_job (0 ∷ 0 ∷ 0 ∷ 0 ∷ 0 ∷ 1 ∷ 0 ∷ 0 ∷ []) ⇒ finds (Err R.Layout))
    -- "Squares at (0,0) and (5,6)": document 02, 5/13: they "now pass at gap 5 and conflict at 6."
    ∷ (conflicts 5 square (square_at 5 6) ⇒ is_conflict false)
    ∷ (conflicts 6 square (square_at 5 6) ⇒ is_conflict true)
    ∷ (checks (gap_squares 5 8 7) (0 ∷ 0 ∷ 0 ∷ 0 ∷ 0 ∷ 5 ∷ 6 ∷ 0 ∷ []) ⇒ finds (Ok 7))
    ∷ (checks (gap_squares 6 8 7) (0 ∷ 0 ∷ 0 ∷ 0 ∷ 0 ∷ 5 ∷ 6 ∷ 0 ∷ []) ⇒ finds (Err R.Layout))
    -- "Two triangles ..: shortest 2, both on dot (0,0)."
    ∷ (runs triangles 1000000 ⇒ says (Ok (Shortest 2 2)) true (0 ∷ 0 ∷ 0 ∷ 0 ∷ 1 ∷ 0 ∷ 0 ∷ 0 ∷ []))
    -- "Strip ..: shortest 10, rows 0 and 1."
    ∷ (runs strips 1000000 ⇒ says (Ok (Shortest 10 2)) true (0 ∷ 0 ∷ 0 ∷ 0 ∷ 0 ∷ 0 ∷ 1 ∷ 0 ∷ []))
    -- "Bar ..: turn mask 2 gives 1 at column 1; mask 1 none."
    ∷ (runs (bar 2) 1000000 ⇒ says (Ok (Shortest 1 1)) true (0 ∷ 1 ∷ 0 ∷ 1 ∷ []))
    ∷ (runs (bar 1) 1000000 ⇒ says (Ok (Infeasible 0)) true (7 ∷ 7 ∷ 7 ∷ 7 ∷ []))
    -- "Classes of rank 5 gap 1 and rank 9 gap 3, in either file order: gap 1."
    ∷ (runs (ranked_squares (0 ∷ 5 ∷ 1 ∷ 1 ∷ 9 ∷ 3 ∷ [])) 1000000 ⇒ says (Ok (Shortest 5 4)) true (0 ∷ 0 ∷ 0 ∷ 0 ∷ 0 ∷ 3 ∷ 0 ∷ 0 ∷ []))
    ∷ (runs (ranked_squares (1 ∷ 9 ∷ 3 ∷ 0 ∷ 5 ∷ 1 ∷ [])) 1000000 ⇒ says (Ok (Shortest 5 4)) true (0 ∷ 0 ∷ 0 ∷ 0 ∷ 0 ∷ 3 ∷ 0 ∷ 0 ∷ []))
    ∷ []

-- Boards that document 01 does not mark, each here because it tells a wrong definition that no marked board would.
unfoldable pub further_boards : List Marked
further_boards =
    -- "L 511, W 1: 1024 dots, accepted. L 512: refused 4."
    (sends (squares 1 511) ⇒ is_refused 0)
    ∷ (sends (squares 1 512) ⇒ is_refused 4)
    -- "A corner at -127 is accepted, at -128 refused 7."
    ∷ (sends (left_corner 129) ⇒ is_refused 0)
    ∷ (sends (left_corner 128) ⇒ is_refused 7)
    -- "Accepting a five-pointed star because each corner turns left" loses a nest.
    ∷ (sends star ⇒ is_refused 7)
    -- "A bound from summed part areas: parts may overlap." The areas sum to twice the board's.
    ∷ (runs square_twice 1000000 ⇒ says (Ok (Shortest 2 1)) true (0 ∷ 0 ∷ 0 ∷ 0 ∷ []))
    -- One candidate for two squares: look-ahead ends the walk before the first step.
    ∷ (runs (squares 2 2) 1000000 ⇒ says (Ok (Infeasible 0)) true untouched)
    ∷ []

-- Boards of document 02's first request. Two squares, W 4, margin 1: a square has the row 1 and, at L 6, the columns 1, 2 and 3.
unfoldable pub clamp_runs : List Marked
clamp_runs =
    -- L 6: columns 1 and 3, end 5, length 6. Column 2 for the first square is one more step, which look-ahead gives back.
    (clamped 1 (runs (squares 4 6) 1000000) ⇒ says (Ok (Shortest 6 3)) true (0 ∷ 1 ∷ 1 ∷ 0 ∷ 0 ∷ 3 ∷ 1 ∷ 0 ∷ []))
    -- L 5: the columns 1 and 2, where the squares overlap.
    ∷ (clamped 1 (runs (squares 4 5) 1000000) ⇒ says (Ok (Infeasible 2)) true untouched)
    -- Margin 63 on a small board: no candidate.
    ∷ (clamped 63 (runs (squares 4 6) 1000000) ⇒ says (Ok (Infeasible 0)) true untouched)
    ∷ []

-- What row says of a candidate.
unfoldable pub clamp_rows : List Marked
clamp_rows =
    -- (0,0) at margin 0, W 2, L 4: it is in conflict with itself and with (1,0), number 12. Bits 0 and 12 are set.
    (rows (squares 2 4) 0 ⇒ shows (Ok 1) (4097 ∷ []))
    -- (1,1), number 24, at margin 1, W 4, L 6: it is in conflict with itself and with (2,1), number 44, and touches (3,1); the clamps leave no other row.
    -- Bits 24 and 44 are set.
    ∷ (clamped 1 (rows (squares 4 6) 24) ⇒ shows (Ok 3) (17592202821632 ∷ 0 ∷ 0 ∷ []))
    ∷ []

-- What check says of that layout.
unfoldable pub clamp_checks : List Marked
clamp_checks =
    -- The length of the layout is its end, 5, plus the margin. One column further on, one row further up, or one column nearer to the left
    -- edge or row to the lower one, it is no layout of candidates.
    (clamped 1 (checks (squares 4 6) (0 ∷ 1 ∷ 1 ∷ 0 ∷ 0 ∷ 3 ∷ 1 ∷ 0 ∷ [])) ⇒ finds (Ok 6))
    ∷ (checks (squares 4 6) (0 ∷ 1 ∷ 1 ∷ 0 ∷ 0 ∷ 3 ∷ 1 ∷ 0 ∷ []) ⇒ finds (Ok 5))
    ∷ (clamped 1 (checks (squares 4 6) (0 ∷ 1 ∷ 1 ∷ 0 ∷ 0 ∷ 4 ∷ 1 ∷ 0 ∷ [])) ⇒ finds (Err R.Layout))
    ∷ (clamped 1 (checks (squares 4 6) (0 ∷ 1 ∷ 1 ∷ 0 ∷ 0 ∷ 3 ∷ 2 ∷ 0 ∷ [])) ⇒ finds (Err R.Layout))
    ∷ (clamped 1 (checks (squares 4 6) (0 ∷ 0 ∷ 1 ∷ 0 ∷ 0 ∷ 3 ∷ 1 ∷ 0 ∷ [])) ⇒ finds (Err R.Layout))
    ∷ (clamped 1 (checks (squares 4 6) (0 ∷ 1 ∷ 0 ∷ 0 ∷ 0 ∷ 3 ∷ 1 ∷ 0 ∷ [])) ⇒ finds (Err R.Layout))
    ∷ []

-- What is refused.
unfoldable pub clamp_refusals : List Marked
clamp_refusals =
    -- At margin 1 the candidate (0,0) does not exist.
    (clamped 1 (rows (squares 2 4) 0) ⇒ shows (Err R.Candidate) (0 ∷ []))
    -- Margin 64 is refused by 13, where 12, 11 or 10 would be due otherwise, and after a cause of the job's sender.
    ∷ (clamped 64 (rows (squares 2 4) 0) ⇒ shows (Err R.Margin) (0 ∷ []))
    ∷ (clamped 64 (checks (squares 4 6) []) ⇒ finds (Err R.Margin))
    ∷ (clamped 64 (runs (squares 4 6) 1000000) ⇒ says (Err R.Margin) false untouched)
    ∷ (clamped 64 (runs star 1000000) ⇒ says (Err R.Parts) false (7 ∷ 7 ∷ 7 ∷ 7 ∷ []))
    ∷ []

-- Boards of document 02's third request. Gap byte 129 means gap 1 with the mark. Two squares in a marked class alone nest as those of a job without classes do: shortest 4, where
-- gap byte 1 gives 5 at L 5 and none at L 4.
unfoldable pub cut_runs : List Marked
cut_runs =
    (runs (gap_squares 129 2 4) 1000000 ⇒ says (Ok (Shortest 4 3)) true (0 ∷ 0 ∷ 0 ∷ 0 ∷ 0 ∷ 2 ∷ 0 ∷ 0 ∷ []))
    -- Only one names the marked class, and the other none: the gap that its byte means, 1. Columns 1 and 2 for the first square are given back.
    ∷ (runs (two_types (0 ∷ 0 ∷ 129 ∷ []) 1 0 5) 1000000 ⇒ says (Ok (Shortest 5 4)) true (0 ∷ 0 ∷ 0 ∷ 0 ∷ 1 ∷ 3 ∷ 0 ∷ 0 ∷ []))
    ∷ (runs (two_types (0 ∷ 0 ∷ 129 ∷ []) 1 0 4) 1000000 ⇒ says (Ok (Infeasible 3)) true untouched)
    -- Only one names the marked class, gap 3, and the other a class of gap 2: the larger, 3. The first square is given back at the columns 1 to 4.
    ∷ (runs (two_types (0 ∷ 5 ∷ 131 ∷ 1 ∷ 9 ∷ 2 ∷ []) 1 2 7) 1000000 ⇒ says (Ok (Shortest 7 6)) true (0 ∷ 0 ∷ 0 ∷ 0 ∷ 1 ∷ 5 ∷ 0 ∷ 0 ∷ []))
    -- Two marked classes, gaps 1 and 2, one for each: nothing is shared, the larger gap is 2. The first square is given back at the columns 1 to 3.
    ∷ (runs (two_types (0 ∷ 5 ∷ 129 ∷ 1 ∷ 9 ∷ 130 ∷ []) 1 2 6) 1000000 ⇒ says (Ok (Shortest 6 5)) true (0 ∷ 0 ∷ 0 ∷ 0 ∷ 1 ∷ 4 ∷ 0 ∷ 0 ∷ []))
    ∷ []

-- "Conflict, wherever it is compared, includes this rule": row and check as well. At (0,0) a square is in conflict with itself and with (1,0), number 12, and at gap 1 also
-- with (2,0), number 24.
unfoldable pub cut_conflicts : List Marked
cut_conflicts =
    (rows (gap_squares 129 2 4) 0 ⇒ shows (Ok 1) (4097 ∷ []))
    ∷ (rows (gap_squares 1 2 4) 0 ⇒ shows (Ok 1) (16781313 ∷ []))
    ∷ (checks (gap_squares 129 2 4) (0 ∷ 0 ∷ 0 ∷ 0 ∷ 0 ∷ 2 ∷ 0 ∷ 0 ∷ []) ⇒ finds (Ok 4))
    ∷ (checks (gap_squares 1 2 4) (0 ∷ 0 ∷ 0 ∷ 0 ∷ 0 ∷ 2 ∷ 0 ∷ 0 ∷ []) ⇒ finds (Err R.Layout))
    -- Two types: both name marked class 0, or only one does.
    ∷ (checks (two_types (0 ∷ 0 ∷ 129 ∷ []) 1 1 4) (0 ∷ 0 ∷ 0 ∷ 0 ∷ 1 ∷ 2 ∷ 0 ∷ 0 ∷ []) ⇒ finds (Ok 4))
    ∷ (checks (two_types (0 ∷ 0 ∷ 129 ∷ []) 1 0 4) (0 ∷ 0 ∷ 0 ∷ 0 ∷ 1 ∷ 2 ∷ 0 ∷ 0 ∷ []) ⇒ finds (Err R.Layout))
    ∷ []

-- "Refusal 5 now covers gap bytes 64 to 127 and above 191."
unfoldable pub cut_bytes : List Marked
cut_bytes =
    (sends (gap_squares 63 2 4) ⇒ is_refused 0)
    ∷ (sends (gap_squares 64 2 4) ⇒ is_refused 5)
    ∷ (sends (gap_squares 127 2 4) ⇒ is_refused 5)
    ∷ (sends (gap_squares 128 2 4) ⇒ is_refused 0)
    ∷ (sends (gap_squares 191 2 4) ⇒ is_refused 0)
    ∷ (sends (gap_squares 192 2 4) ⇒ is_refused 5)
    ∷ (sends (gap_squares 255 2 4) ⇒ is_refused 5)
    ∷ []

-- Read gives W, L, g, the class behind the count of classes, the type behind that of types, and N. Of the class it gives the gap, and the mark behind it.
unfoldable pub cut_reads : List Marked
cut_reads =
    (reads (gap_squares 129 2 4) 23
    ⇒ shows (Ok 23) (2 ∷ 4 ∷ 1 ∷ 1 ∷ 0 ∷ 0 ∷ 1 ∷ 1 ∷ 1 ∷ 2 ∷ 1 ∷ 1 ∷ 1 ∷ 4 ∷ 0 ∷ 0 ∷ 2 ∷ 0 ∷ 2 ∷ 2 ∷ 0 ∷ 2 ∷ 2 ∷ []))
    ∷ (reads (gap_squares 63 2 4) 23
    ⇒ shows (Ok 23) (2 ∷ 4 ∷ 1 ∷ 1 ∷ 0 ∷ 0 ∷ 63 ∷ 0 ∷ 1 ∷ 2 ∷ 1 ∷ 1 ∷ 1 ∷ 4 ∷ 0 ∷ 0 ∷ 2 ∷ 0 ∷ 2 ∷ 2 ∷ 0 ∷ 2 ∷ 2 ∷ []))
    -- One number fewer, as many as document 01's content had: refused.
    ∷ (reads (gap_squares 129 2 4) 22 ⇒ shows (Err R.Answer) (replicate 22 7))
    ∷ []

-- A byte that is skipped, the type list, the classes 1 and 0, the board, the trailer. Class 1 is marked, gap byte 131; the type has corners at -1.
unfoldable pub scattered : List ℕ
scattered =
    255
    ∷ 2 ∷ 1 ∷ 3 ∷ 1 ∷ 4 ∷ 255 ∷ 255 ∷ 1 ∷ 255 ∷ 1 ∷ 1 ∷ 255 ∷ 1
    ∷ 1 ∷ 9 ∷ 131 ∷ 0 ∷ 5 ∷ 1
    ∷ 4 ∷ 0 ∷ 8 ∷ 0 ∷ 1 ∷ 0
    ∷ 20 ∷ 0 ∷ 14 ∷ 0 ∷ 1 ∷ 0 ∷ 13 ∷ 0 ∷ 2 ∷ 1 ∷ 40 ∷ 0 ∷ 0x44 ∷ 0x42 ∷ []

-- The same job saved: the board, the classes 0 and 1, the type list, the trailer.
unfoldable pub scattered_saved : List ℕ
scattered_saved =
    4 ∷ 0 ∷ 8 ∷ 0 ∷ 1 ∷ 0
    ∷ 0 ∷ 5 ∷ 1 ∷ 1 ∷ 9 ∷ 131
    ∷ 2 ∷ 1 ∷ 3 ∷ 1 ∷ 4 ∷ 255 ∷ 255 ∷ 1 ∷ 255 ∷ 1 ∷ 1 ∷ 255 ∷ 1
    ∷ 0 ∷ 0 ∷ 6 ∷ 0 ∷ 12 ∷ 0 ∷ 13 ∷ 0 ∷ 2 ∷ 1 ∷ 39 ∷ 0 ∷ 0x44 ∷ 0x42 ∷ []

-- The job that document 01 prints, saved: "an empty class list has offset 6", where the printed one has it at 0.
unfoldable pub printed_saved : List ℕ
printed_saved =
    0x02 ∷ 0x00 ∷ 0x04 ∷ 0x00 ∷ 0x01 ∷ 0x00 ∷ 0x02 ∷ 0x01 ∷ 0x00 ∷ 0x01 ∷ 0x04 ∷ 0x00 ∷ 0x00 ∷ 0x02 ∷ 0x00 ∷ 0x02 ∷ 0x02 ∷ 0x00 ∷ 0x02 ∷ 0x00 ∷ 0x00 ∷ 0x06 ∷ 0x00 ∷ 0x06 ∷ 0x00 ∷ 0x0D ∷ 0x00 ∷ 0x00 ∷ 0x01 ∷ 0x21 ∷ 0x00 ∷ 0x44 ∷ 0x42 ∷ []

-- Boards of document 02's fourth request: a job saved into so many bytes.
unfoldable pub saved_jobs : List Marked
saved_jobs =
    -- "tells how many it wrote; bytes past the job stay unchanged"
    (saves printed_job 33 ⇒ shows (Ok 33) printed_saved)
    ∷ (saves scattered 41 ⇒ shows (Ok 39) (scattered_saved ++ (7 ∷ 7 ∷ [])))
    -- What was saved is saved to the same bytes.
    ∷ (saves printed_saved 33 ⇒ shows (Ok 33) printed_saved)
    ∷ (saves scattered_saved 39 ⇒ shows (Ok 39) scattered_saved)
    -- "types as given": demands 2 and 1, and 1 and 2.
    ∷ (saves (job_of 2 8 [] 2 (square_of 2 0 ++ square_of 1 0)) 46
    ⇒ shows (Ok 46)
    ((2 ∷ 0 ∷ 8 ∷ 0 ∷ 1 ∷ 0 ∷ []) ++ square_of 2 0 ++ square_of 1 0 ++ (0 ∷ 0 ∷ 6 ∷ 0 ∷ 6 ∷ 0 ∷ 26 ∷ 0 ∷ 0 ∷ 2 ∷ 46 ∷ 0 ∷ 0x44 ∷ 0x42 ∷ [])))
    ∷ (saves (job_of 2 8 [] 2 (square_of 1 0 ++ square_of 2 0)) 46
    ⇒ shows (Ok 46)
    ((2 ∷ 0 ∷ 8 ∷ 0 ∷ 1 ∷ 0 ∷ []) ++ square_of 1 0 ++ square_of 2 0 ++ (0 ∷ 0 ∷ 6 ∷ 0 ∷ 6 ∷ 0 ∷ 26 ∷ 0 ∷ 0 ∷ 2 ∷ 46 ∷ 0 ∷ 0x44 ∷ 0x42 ∷ [])))
    -- "Writing needs enough answer bytes, else 9": one byte fewer than that.
    ∷ (saves printed_job 32 ⇒ shows (Err R.Answer) (replicate 32 7))
    ∷ (saves scattered 38 ⇒ shows (Err R.Answer) (replicate 38 7))
    -- "refuses it by 1 to 7 as read does", before 9.
    ∷ (saves star 64 ⇒ shows (Err R.Parts) (replicate 64 7))
    ∷ (saves star 0 ⇒ shows (Err R.Parts) [])
    ∷ (saves (gap_squares 64 2 4) 64 ⇒ shows (Err R.Classes) (replicate 64 7))
    ∷ []

-- A triangle whose slanting edge goes from (8,0) to (0,6), 10 long, through (4,3). Its outward normal is (6,8): from (4,3) it leads to (7,7), 5 away.
unfoldable pub slanting : Part
slanting = vertex (pos 0) (pos 0) ∷ vertex (pos 8) (pos 0) ∷ vertex (pos 0) (pos 6) ∷ []

-- A triangle with its tip up at (2,3), and one with its tip down at (5,7).
unfoldable pub tip_up : Part
tip_up = vertex (pos 0) (pos 0) ∷ vertex (pos 4) (pos 0) ∷ vertex (pos 2) (pos 3) ∷ []

unfoldable pub tip_down : Part
tip_down = vertex (pos 5) (pos 7) ∷ vertex (pos 9) (pos 13) ∷ vertex (pos 1) (pos 13) ∷ []

-- A square of 20 by 20.
unfoldable pub large_square : Part
large_square = vertex (pos 0) (pos 0) ∷ vertex (pos 20) (pos 0) ∷ vertex (pos 20) (pos 20) ∷ vertex (pos 0) (pos 20) ∷ []

-- Boards of document 02's fifth request.
unfoldable pub round_conflicts : List Marked
round_conflicts =
    -- A corner against the middle of a slanting edge. (7,7) is 5 away from it: 50 × 50 is 5 × 5 × 100. (6,7) is 4.4 away: 44 × 44 lies between 4 × 4 × 100 and 5 × 5 × 100.
    (conflicts 5 slanting (square_at 7 7) ⇒ is_conflict false)
    ∷ (conflicts 6 slanting (square_at 7 7) ⇒ is_conflict true)
    ∷ (conflicts 4 slanting (square_at 6 7) ⇒ is_conflict false)
    ∷ (conflicts 5 slanting (square_at 6 7) ⇒ is_conflict true)
    -- The same with the edge's part second: both parts' corners are asked for.
    ∷ (conflicts 5 (square_at 7 7) slanting ⇒ is_conflict false)
    ∷ (conflicts 5 (square_at 6 7) slanting ⇒ is_conflict true)
    -- (5,4) is 1.4 away, where the boxes overlap: of all directions only the negated normal of the slanting edge separates the square from the triangle.
    ∷ (conflicts 1 (square_at 5 4) slanting ⇒ is_conflict false)
    ∷ (conflicts 2 (square_at 5 4) slanting ⇒ is_conflict true)
    -- "An edge is a segment: beyond its ends the end corner counts." The line through the first square's upper edge, one end of which is (2,2), goes through (5,2), 3 away.
    ∷ (conflicts 3 square (square_at 5 2) ⇒ is_conflict false)
    ∷ (conflicts 4 square (square_at 5 2) ⇒ is_conflict true)
    -- Tip to tip, 3 across and 4 up: 5 away.
    ∷ (conflicts 5 tip_up tip_down ⇒ is_conflict false)
    ∷ (conflicts 6 tip_up tip_down ⇒ is_conflict true)
    -- "Parts in conflict at gap 0 remain in conflict at every gap": a square within another, 9 away from every edge of it.
    ∷ (conflicts 0 large_square (square_at 9 9) ⇒ is_conflict true)
    ∷ (conflicts 5 large_square (square_at 9 9) ⇒ is_conflict true)
    -- Touching is allowed at gap 0 alone.
    ∷ (conflicts 1 square (square_at 2 0) ⇒ is_conflict true)
    ∷ []

-- One slanting triangle and one square, in a class of this gap, W 9, L 9.
unfoldable pub slanting_job : ℕ → List ℕ
slanting_job gap = job_of 9 9 (0 ∷ 0 ∷ gap ∷ []) 2 ((1 ∷ 1 ∷ 1 ∷ 1 ∷ 3 ∷ 0 ∷ 0 ∷ 8 ∷ 0 ∷ 0 ∷ 6 ∷ []) ++ square_of 1 1)

-- Two plates (0,0) (2,0) (2,1) (0,1) in a class of this gap, W 6, L 7, step 5: they have four places, the dots (0,0), (0,5), (5,0) and (5,5). Those beside each other are 3
-- apart, those above each other 4, and those across 5: 3 along and 4 up.
unfoldable pub plates : ℕ → List ℕ
plates gap = job_on (6 ∷ 7 ∷ 5 ∷ []) (0 ∷ 0 ∷ gap ∷ []) 1 (2 ∷ 1 ∷ 1 ∷ 1 ∷ 4 ∷ 0 ∷ 0 ∷ 2 ∷ 0 ∷ 2 ∷ 1 ∷ 0 ∷ 1 ∷ [])

-- "All comparisons of conflict and of shortest use the round measure from here": row, check and run.
unfoldable pub round_services : List Marked
round_services =
    -- The numbers of the four places are 0, 4, 8 and 12. At gap 5 the last one is not in conflict with the first, at gap 6 it is.
    (rows (plates 5) 0 ⇒ shows (Ok 1) (273 ∷ []))
    ∷ (rows (plates 6) 0 ⇒ shows (Ok 1) (4369 ∷ []))
    ∷ (checks (plates 5) (0 ∷ 0 ∷ 0 ∷ 0 ∷ 0 ∷ 1 ∷ 1 ∷ 0 ∷ []) ⇒ finds (Ok 7))
    ∷ (checks (plates 6) (0 ∷ 0 ∷ 0 ∷ 0 ∷ 0 ∷ 1 ∷ 1 ∷ 0 ∷ []) ⇒ finds (Err R.Layout))
    ∷ (checks (slanting_job 5) (0 ∷ 0 ∷ 0 ∷ 0 ∷ 1 ∷ 7 ∷ 7 ∷ 0 ∷ []) ⇒ finds (Ok 9))
    ∷ (checks (slanting_job 6) (0 ∷ 0 ∷ 0 ∷ 0 ∷ 1 ∷ 7 ∷ 7 ∷ 0 ∷ []) ⇒ finds (Err R.Layout))
    ∷ (checks (slanting_job 5) (0 ∷ 0 ∷ 0 ∷ 0 ∷ 1 ∷ 6 ∷ 7 ∷ 0 ∷ []) ⇒ finds (Err R.Layout))
    -- At gap 5 the plates stand across, which takes two steps; the place (0,5) for the first plate is one more step, which look-ahead gives back, and the others are not
    -- shorter. (By the square measure: none.) At gap 6 each place is a step.
    ∷ (runs (plates 5) 1000000 ⇒ says (Ok (Shortest 7 3)) true (0 ∷ 0 ∷ 0 ∷ 0 ∷ 0 ∷ 1 ∷ 1 ∷ 0 ∷ []))
    ∷ (runs (plates 6) 1000000 ⇒ says (Ok (Infeasible 4)) true untouched)
    ∷ []

-- Boards of document 02's sixth request: runs that are given a layout to begin from. One square, W 4, L 2, step 2: the rows 0 and 1 are as short as each other.
-- Row 1 stands, and no step is taken: "and otherwise the given layout".
unfoldable pub carried_at_once : List Marked
carried_at_once = (carries (bytes_of 2 (0 ∷ 0 ∷ 1 ∷ 0 ∷ [])) (one_square 4 2) 0 ⇒ says (Ok (Shortest 2 0)) true (0 ∷ 0 ∷ 1 ∷ 0 ∷ [])) ∷ []

-- W 2, L 4: the columns 0 and 1, lengths 2 and 4. From column 1 the other is one step, and shorter; "a run stopped before it finds a shorter one holds the given
-- layout".
unfoldable pub carried_one : List Marked
carried_one =
    (carries (bytes_of 2 (0 ∷ 1 ∷ 0 ∷ 0 ∷ [])) (one_square 2 4) 1 ⇒ says (Ok (Shortest 2 1)) true (0 ∷ 0 ∷ 0 ∷ 0 ∷ []))
    ∷ (carries (bytes_of 2 (0 ∷ 1 ∷ 0 ∷ 0 ∷ [])) (one_square 2 4) 0 ⇒ says (Ok (Stopped (Some 4) 0)) true (0 ∷ 1 ∷ 0 ∷ 0 ∷ []))
    ∷ []

-- "A given layout is checked .. and refused by 11 if it does not pass": column 2 is no candidate; a number more, a number fewer and one byte are no layout.
unfoldable pub carried_counts : List Marked
carried_counts =
    (carries (bytes_of 2 (0 ∷ 2 ∷ 0 ∷ 0 ∷ [])) (one_square 2 4) 0 ⇒ says (Err R.Layout) false (7 ∷ 7 ∷ 7 ∷ 7 ∷ []))
    ∷ (carries (bytes_of 2 (0 ∷ 1 ∷ 0 ∷ 0 ∷ 0 ∷ [])) (one_square 2 4) 0 ⇒ says (Err R.Layout) false (7 ∷ 7 ∷ 7 ∷ 7 ∷ []))
    ∷ (carries (bytes_of 2 (0 ∷ 1 ∷ 0 ∷ [])) (one_square 2 4) 0 ⇒ says (Err R.Layout) false (7 ∷ 7 ∷ 7 ∷ 7 ∷ []))
    ∷ (carries (0 ∷ []) (one_square 2 4) 0 ⇒ says (Err R.Layout) false (7 ∷ 7 ∷ 7 ∷ 7 ∷ []))
    ∷ []

-- Two squares, W 2, L 6: a square has the columns 0 to 4, with the ends 2 to 6. From the columns
-- 1 and 3, length 5, a candidate has to end below 5: the columns 0 and 2 are two steps and length 4, which is shorter; column 1 for the first square is one more, which look-ahead
-- gives back.
unfoldable pub carried_runs : List Marked
carried_runs =
    (carries (bytes_of 2 (0 ∷ 1 ∷ 0 ∷ 0 ∷ 0 ∷ 3 ∷ 0 ∷ 0 ∷ [])) (squares 2 6) 3 ⇒ says (Ok (Shortest 4 3)) true (0 ∷ 0 ∷ 0 ∷ 0 ∷ 0 ∷ 2 ∷ 0 ∷ 0 ∷ []))
    ∷ (carries (bytes_of 2 (0 ∷ 1 ∷ 0 ∷ 0 ∷ 0 ∷ 3 ∷ 0 ∷ 0 ∷ [])) (squares 2 6) 2 ⇒ says (Ok (Stopped (Some 4) 2)) true (0 ∷ 0 ∷ 0 ∷ 0 ∷ 0 ∷ 2 ∷ 0 ∷ 0 ∷ []))
    -- "a run stopped before it finds a shorter one holds the given layout"
    ∷ (carries (bytes_of 2 (0 ∷ 1 ∷ 0 ∷ 0 ∷ 0 ∷ 3 ∷ 0 ∷ 0 ∷ [])) (squares 2 6) 1 ⇒ says (Ok (Stopped (Some 5) 1)) true (0 ∷ 1 ∷ 0 ∷ 0 ∷ 0 ∷ 3 ∷ 0 ∷ 0 ∷ []))
    ∷ (carries (bytes_of 2 (0 ∷ 1 ∷ 0 ∷ 0 ∷ 0 ∷ 3 ∷ 0 ∷ 0 ∷ [])) (squares 2 6) 0 ⇒ says (Ok (Stopped (Some 5) 0)) true (0 ∷ 1 ∷ 0 ∷ 0 ∷ 0 ∷ 3 ∷ 0 ∷ 0 ∷ []))
    ∷ []

-- "and otherwise the given layout", of two squares.
unfoldable pub carried_kept : List Marked
carried_kept =
    -- W 5, L 2: the rows 0 and 2, 0 and 3, and 1 and 3 are as short as each other. From the last of them nothing is live, and it stands, though the others come before it.
    (carries (bytes_of 2 (0 ∷ 0 ∷ 1 ∷ 0 ∷ 0 ∷ 0 ∷ 3 ∷ 0 ∷ [])) (squares 5 2) 0 ⇒ says (Ok (Shortest 2 0)) true (0 ∷ 0 ∷ 1 ∷ 0 ∷ 0 ∷ 0 ∷ 3 ∷ 0 ∷ []))
    ∷ (runs (squares 5 2) 1000000 ⇒ says (Ok (Shortest 2 2)) true (0 ∷ 0 ∷ 0 ∷ 0 ∷ 0 ∷ 0 ∷ 2 ∷ 0 ∷ []))
    -- W 2, L 6, from the shortest, length 4: the first square at the columns 0 and 1 is given back, and nothing is shorter.
    ∷ (carries (bytes_of 2 (0 ∷ 0 ∷ 0 ∷ 0 ∷ 0 ∷ 2 ∷ 0 ∷ 0 ∷ [])) (squares 2 6) 2 ⇒ says (Ok (Shortest 4 2)) true (0 ∷ 0 ∷ 0 ∷ 0 ∷ 0 ∷ 2 ∷ 0 ∷ 0 ∷ []))
    ∷ (carries (bytes_of 2 (0 ∷ 0 ∷ 0 ∷ 0 ∷ 0 ∷ 2 ∷ 0 ∷ 0 ∷ [])) (squares 2 6) 1 ⇒ says (Ok (Stopped (Some 4) 1)) true (0 ∷ 0 ∷ 0 ∷ 0 ∷ 0 ∷ 2 ∷ 0 ∷ 0 ∷ []))
    ∷ []

-- "A given layout is checked under the present rules": under the margin. W 4, L 7, margin 1: the columns 1 and 4 end at 6, length 7; the columns 1 and 3 are shorter, and column 2 for
-- the first square is given back.
unfoldable pub carried_clamped : List Marked
carried_clamped =
    (clamped 1 (carries (bytes_of 2 (0 ∷ 1 ∷ 1 ∷ 0 ∷ 0 ∷ 4 ∷ 1 ∷ 0 ∷ [])) (squares 4 7) 0) ⇒ says (Ok (Stopped (Some 7) 0)) true (0 ∷ 1 ∷ 1 ∷ 0 ∷ 0 ∷ 4 ∷ 1 ∷ 0 ∷ []))
    ∷ (clamped 1 (carries (bytes_of 2 (0 ∷ 1 ∷ 1 ∷ 0 ∷ 0 ∷ 4 ∷ 1 ∷ 0 ∷ [])) (squares 4 7) 3) ⇒ says (Ok (Shortest 6 3)) true (0 ∷ 1 ∷ 1 ∷ 0 ∷ 0 ∷ 3 ∷ 1 ∷ 0 ∷ []))
    -- The columns 0 and 2 pass at margin 0 alone; margin 64 is told before a layout.
    ∷ (carries (bytes_of 2 (0 ∷ 0 ∷ 0 ∷ 0 ∷ 0 ∷ 2 ∷ 0 ∷ 0 ∷ [])) (squares 4 7) 0 ⇒ says (Ok (Stopped (Some 4) 0)) true (0 ∷ 0 ∷ 0 ∷ 0 ∷ 0 ∷ 2 ∷ 0 ∷ 0 ∷ []))
    ∷ (clamped 1 (carries (bytes_of 2 (0 ∷ 0 ∷ 0 ∷ 0 ∷ 0 ∷ 2 ∷ 0 ∷ 0 ∷ [])) (squares 4 7) 0) ⇒ says (Err R.Layout) false untouched)
    ∷ (clamped 64 (carries (0 ∷ []) (squares 4 7) 0) ⇒ says (Err R.Margin) false untouched)
    ∷ []

-- "refused by 11 if it does not pass", of two squares: they overlap; they are out of order. With one byte behind it a layout passes: "an incomplete last one does not count".
unfoldable pub carried_refusals : List Marked
carried_refusals =
    (carries (bytes_of 2 (0 ∷ 0 ∷ 0 ∷ 0 ∷ 0 ∷ 1 ∷ 0 ∷ 0 ∷ [])) (squares 2 6) 0 ⇒ says (Err R.Layout) false untouched)
    ∷ (carries (bytes_of 2 (0 ∷ 2 ∷ 0 ∷ 0 ∷ 0 ∷ 0 ∷ 0 ∷ 0 ∷ [])) (squares 2 6) 0 ⇒ says (Err R.Layout) false untouched)
    ∷ (carries (bytes_of 2 (0 ∷ 0 ∷ 0 ∷ 0 ∷ 0 ∷ 2 ∷ 0 ∷ 0 ∷ []) ++ (0 ∷ [])) (squares 2 6) 0 ⇒ says (Ok (Stopped (Some 4) 0)) true (0 ∷ 0 ∷ 0 ∷ 0 ∷ 0 ∷ 2 ∷ 0 ∷ 0 ∷ []))
    ∷ []

-- Boards of document 02's eighth request. At gap 3 two squares stand at the columns 0 and 5, length 7, and the first is given back at the columns 1 to 4.
unfoldable pub ranked_cut_runs : List Marked
ranked_cut_runs =
    -- "both pieces in class 0 (rank 1, gap 3) and marked class 2 (rank 9) go from 0 to 3; .."
    (runs (two_types (0 ∷ 1 ∷ 3 ∷ 2 ∷ 9 ∷ 129 ∷ []) 5 5 7) 1000000 ⇒ says (Ok (Shortest 7 6)) true (0 ∷ 0 ∷ 0 ∷ 0 ∷ 1 ∷ 5 ∷ 0 ∷ 0 ∷ []))
    -- ".. one in both and one in class 2 alone, gap 1, also go from 0 to 3."
    ∷ (runs (two_types (0 ∷ 1 ∷ 3 ∷ 2 ∷ 9 ∷ 129 ∷ []) 5 4 7) 1000000 ⇒ says (Ok (Shortest 7 6)) true (0 ∷ 0 ∷ 0 ∷ 0 ∷ 1 ∷ 5 ∷ 0 ∷ 0 ∷ []))
    ∷ []

-- Row and check as well.
unfoldable pub ranked_cut_conflicts : List Marked
ranked_cut_conflicts =
    -- The squares at the columns 0 and 2 no longer pass in the two examples, ..
    (checks (two_types (0 ∷ 1 ∷ 3 ∷ 2 ∷ 9 ∷ 129 ∷ []) 5 5 4) (0 ∷ 0 ∷ 0 ∷ 0 ∷ 1 ∷ 2 ∷ 0 ∷ 0 ∷ []) ⇒ finds (Err R.Layout))
    ∷ (checks (two_types (0 ∷ 1 ∷ 3 ∷ 2 ∷ 9 ∷ 129 ∷ []) 5 4 4) (0 ∷ 0 ∷ 0 ∷ 0 ∷ 1 ∷ 2 ∷ 0 ∷ 0 ∷ []) ⇒ finds (Err R.Layout))
    -- .. nor in the second where class 0 is marked too: each best-ranked class is marked, but they are not the same.
    ∷ (checks (two_types (0 ∷ 1 ∷ 131 ∷ 2 ∷ 9 ∷ 129 ∷ []) 5 4 4) (0 ∷ 0 ∷ 0 ∷ 0 ∷ 1 ∷ 2 ∷ 0 ∷ 0 ∷ []) ⇒ finds (Err R.Layout))
    -- With the ranks exchanged marked class 2 is the best-ranked of both: they pass.
    ∷ (checks (two_types (0 ∷ 9 ∷ 3 ∷ 2 ∷ 1 ∷ 129 ∷ []) 5 4 4) (0 ∷ 0 ∷ 0 ∷ 0 ∷ 1 ∷ 2 ∷ 0 ∷ 0 ∷ []) ⇒ finds (Ok 4))
    -- Two squares of one type in two classes, the marked one of worse rank, in either file order: the gap of the other, 1, at which (0,0) is in conflict with itself, with (1,0),
    -- number 12, and with (2,0), number 24. Then the marked one of better rank: no gap.
    ∷ (rows (ranked_squares (0 ∷ 5 ∷ 1 ∷ 1 ∷ 9 ∷ 131 ∷ [])) 0 ⇒ shows (Ok 2) (16781313 ∷ 0 ∷ []))
    ∷ (rows (ranked_squares (1 ∷ 9 ∷ 131 ∷ 0 ∷ 5 ∷ 1 ∷ [])) 0 ⇒ shows (Ok 2) (16781313 ∷ 0 ∷ []))
    ∷ (rows (ranked_squares (0 ∷ 5 ∷ 129 ∷ 1 ∷ 9 ∷ 3 ∷ [])) 0 ⇒ shows (Ok 2) (4097 ∷ 0 ∷ []))
    ∷ []

-- Classes of the gaps 1, 3 and 2: the largest is neither the best-ranked nor the last-ranked one, and neither first nor last in the file.
unfoldable pub three_gaps : List ℕ
three_gaps = 0 ∷ 1 ∷ 1 ∷ 1 ∷ 5 ∷ 3 ∷ 2 ∷ 9 ∷ 2 ∷ []

-- Boards of document 02's ninth request. Two squares in no class: 3 apart, which takes 7 and the six steps of ranked_cut_runs.
unfoldable pub no_class_runs : List Marked
no_class_runs = (runs (two_types three_gaps 0 0 7) 1000000 ⇒ says (Ok (Shortest 7 6)) true (0 ∷ 0 ∷ 0 ∷ 0 ∷ 1 ∷ 5 ∷ 0 ∷ 0 ∷ [])) ∷ []

-- Row and check as well.
unfoldable pub no_class_conflicts : List Marked
no_class_conflicts =
    -- At gap 3 a square at (0,0) is in conflict with those at the columns 0 to 4, whose numbers are 0, 12, 24, 36 and 48; also if the gap is that of a marked class, 131 - 128.
    (rows (two_types three_gaps 0 0 7) 0 ⇒ shows (Ok 2) (281543712968705 ∷ 0 ∷ []))
    ∷ (rows (two_types (0 ∷ 1 ∷ 1 ∷ 1 ∷ 5 ∷ 131 ∷ []) 0 0 7) 0 ⇒ shows (Ok 2) (281543712968705 ∷ 0 ∷ []))
    -- One square is in class 0, gap 1, and one in no class: the larger gap is that of class 1, which no type names.
    ∷ (checks (two_types three_gaps 1 0 7) (0 ∷ 0 ∷ 0 ∷ 0 ∷ 1 ∷ 4 ∷ 0 ∷ 0 ∷ []) ⇒ finds (Err R.Layout))
    ∷ (checks (two_types three_gaps 1 0 7) (0 ∷ 0 ∷ 0 ∷ 0 ∷ 1 ∷ 5 ∷ 0 ∷ 0 ∷ []) ⇒ finds (Ok 7))
    -- "Their jobs must put fillers in a class of gap 0": then they touch; with one of them in no class they do not.
    ∷ (checks (two_types (0 ∷ 1 ∷ 3 ∷ 1 ∷ 5 ∷ 0 ∷ []) 2 2 4) (0 ∷ 0 ∷ 0 ∷ 0 ∷ 1 ∷ 2 ∷ 0 ∷ 0 ∷ []) ⇒ finds (Ok 4))
    ∷ (checks (two_types (0 ∷ 1 ∷ 3 ∷ 1 ∷ 5 ∷ 0 ∷ []) 2 0 4) (0 ∷ 0 ∷ 0 ∷ 0 ∷ 1 ∷ 2 ∷ 0 ∷ 0 ∷ []) ⇒ finds (Err R.Layout))
    ∷ []
