-- The refusal as far as the type list: a part's soundness is looked at only after that.
use Rattle.std.specs.Prelude.{cond, List, ℕ}
use Rattle.model.specs.Format.{cause1, cause2, cause3, cause4, cause5, cause6}

-- The first of the causes 1 to 6, and 0 where there is none.
unfoldable pub refusal_to6 : List ℕ → ℕ
refusal_to6 s =
    cond (cause1 s) 1 (cond (cause2 s) 2 (cond (cause3 s) 3 (cond (cause4 s) 4 (cond (cause5 s) 5 (cond (cause6 s) 6 0)))))

-- The first of those of them that lie within the sections, and 0 where there is none.
abbrev pub refusal_within : List ℕ → ℕ
refusal_within s = cond (cause4 s) 4 (cond (cause5 s) 5 (cond (cause6 s) 6 0))
