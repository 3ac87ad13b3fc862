-- The best-ranked class that a mask names, id by id, and what is kept of it: its rank, its gap, and its id if it is
-- marked as common cut.
use Rattle.std.specs.Prelude.{Bool, false, cond, ◌&&◌, not, List, ℕ, zero, suc, ◌+◌, ◌*◌, ltb, eqb, Option, Some, None}
use Rattle.std.specs.Bool.{then_some}
use Rattle.std.proofs.Math.Option as M
use Rattle.words.specs.Bits.{test_bit}
use Rattle.model.specs.Content.{SpacingClass}
use Rattle.model.specs.Format.{byte_at, marks_cut, gap_meant}
use Rattle.records.specs.Classes.{index_of}
use Rattle.job.specs.declared.gaps.Best.{Best}

-- The rank of the class, if there is one.
unfoldable pub class_rank : M.Option SpacingClass → Option ℕ
class_rank M.none = None
class_rank (M.some c) = Some c.rank

-- The id of the class, if there is one and it is marked as common cut.
unfoldable pub class_cut : M.Option SpacingClass → Option ℕ
class_cut M.none = None
class_cut (M.some c) = then_some c.common_cut c.id

-- Two kinds have one common-cut class.
unfoldable pub same_cut : Option ℕ → Option ℕ → Bool
same_cut None b = false
same_cut (Some i) None = false
same_cut (Some i) (Some j) = eqb i j

abbrev pub best_of : ℕ → ℕ → Option ℕ → Best
best_of r g x = record { rank = Some r; gap = g; cut = x }

-- None so far: the gap is that of a type in no class.
abbrev pub no_best : ℕ → Best
no_best default = record { rank = None; gap = default; cut = None }

-- The class of this id, whose record stands at byte o, as the best so far.
unfoldable pub best_at : List ℕ → ℕ → ℕ → Best
best_at s o id = best_of (byte_at s (o + 1)) (gap_meant (byte_at s (o + 2)))
    (then_some (marks_cut (byte_at s (o + 2))) id)

-- There are two ranks, and the second has no smaller number.
unfoldable pub no_worse : Option ℕ → Option ℕ → Bool
no_worse None s = false
no_worse (Some r) None = false
no_worse (Some r) (Some s) = not (ltb s r)

-- The better of the best so far and one more class.
unfoldable pub offered : Best → Best → Best
offered b c = cond (no_worse b.rank c.rank) b c

-- The better of the best so far and the class of this id, if the mask names it and there is one.
unfoldable pub offered_id : List ℕ → ℕ → ℕ → ℕ → ℕ → Best → Best
offered_id s o n mask id b = cond (ltb (index_of s o n id) n && test_bit mask id) (offered b (best_at s (o + index_of s o n id * 3) id)) b

-- The best-ranked of the classes with an id below i that the mask names; as long as there is none, the default gap.
unfoldable pub best_below : List ℕ → ℕ → ℕ → ℕ → ℕ → ℕ → Best
best_below s o n default mask zero = no_best default
best_below s o n default mask (suc i) = offered_id s o n mask i (best_below s o n default mask i)
