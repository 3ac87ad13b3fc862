-- Demand 2: "changes no result". What it is for two jobs to get the same results: whatever is handed in beside them, every service that is handed a job says the same of both and leaves the same in every buffer.
use Rattle.std.specs.Prelude.{List, ◌≡◌, ℕ}
use Rattle.model.specs.Services.{read, save, conflict_row, check, run}

pub record SameAnswers (s t : List ℕ) : Type 0 where
  pub reading : (out : List ℕ) → read s out ≡ read t out
  pub saving : (out : List ℕ) → save s out ≡ save t out
  pub rows : (m k n u : ℕ) (out : List ℕ) → conflict_row s m k n u out ≡ conflict_row t m k n u out
  pub checking : (m : ℕ) (layout : List ℕ) → check s m layout ≡ check t m layout
  pub running : (m budget : ℕ) (given work out : List ℕ) → run s m budget given work out ≡ run t m budget given work out
