-- What an accepted job and its view give together. Assumes nothing.
use mathlib.Core.List.{List, []}
use mathlib.Core.Path.{◌≡◌, ap, ◌∙◌}
use Prim.Native.Nat.{ℕ, ◌+◌, ◌≤◌, ◌<◌}
use lib.ListN.{length, get_or, drop}
use Rattle.model.specs.Content.{Part, kind_at, kind_count}
use Rattle.model.specs.Format.{byte_at, vertices, content}
use Rattle.model.proofs.Accepted.{accepted-kinds}
use Rattle.model.proofs.AcceptedKinds.{kind-ranges}
use Rattle.job.specs.View.{PartAt, KindIn, Viewed, part_at_of}
use Rattle.job.specs.declared.View.{View}

-- a part that is read with the number of vertices that its first byte states
pub part-read-at : (s : List ℕ) (o r : ℕ) (P : Part) → r ≡ byte_at s o → PartAt s o P → vertices r (drop (o + 1) s) ≡ P
part-read-at s o r P e p = ap (λ n. vertices n (drop (o + 1) s)) (e ∙ p.stated) ∙ p.read

module _ (s : List ℕ) (v : View) (x : Viewed s v) where
  pub few-kinds : kind_count (content s).kinds ≤ 8
  few-kinds = (accepted-kinds s x.accepted).few-kinds

  module _ (t : ℕ) (h : t < kind_count (content s).kinds) where
    pub kind-in : KindIn s v t (kind_at (content s).kinds t)
    kind-in = x.view.kind t h

    pub some-part : 1 ≤ length (kind_at (content s).kinds t).parts
    some-part = (kind-ranges s x.accepted t h).parts_least

    pub part_in_lem : (i : ℕ) → i < length (kind_at (content s).kinds t).parts → PartAt s (part_at_of v t i) (get_or (kind_at (content s).kinds t).parts i [])
    part_in_lem i l = kind-in.part i l

    pub part-short : (i : ℕ) → i < length (kind_at (content s).kinds t).parts → length (get_or (kind_at (content s).kinds t).parts i []) ≤ 8
    part-short i l = (part_in_lem i l).most
