-- How many bytes a fit content has at most: 6 of the board, 3 of each of 8 classes, 106 of each of 8 types, 14 of the trailer.
use mathlib.Core.List.{List, [], ◌∷◌, map}
use Prim.Native.Nat.{ℕ, ◌*◌, ◌≤◌, ◌<◌}
use native.Mathlib.Omega.{arith}
use lib.ListN.{length, length-append, length-map}
use Rattle.model.specs.Content.{Part, Kind, SpacingClass, Job, kind_count}
use Rattle.model.specs.ContentFit.{Each, PartFit, KindFit, ContentFit}
use Rattle.model.specs.Lists.{concat}
use Rattle.model.specs.Saving.{part_bytes, kind_record, kind_list, written}
use Rattle.model.proofs.Saving.Each.{each_map, each-of_map, rising-few}
use Rattle.model.proofs.Saving.Fields.{written-size}
use Rattle.model.proofs.Saving.Reading.{part-size}

-- Values of at most c bytes each.
sizes-most : {A : Type 0} (enc : A → List ℕ) (P : A → Type 0) (c : ℕ) → ((a : A) → P a → length (enc a) ≤ c) → (xs : List A) → Each P xs
    → length (concat (map enc xs)) ≤ length xs * c
unfolding concat
sizes-most enc P c f [] h = omega arith
sizes-most enc P c f (x ∷ xs) h =
    omega (arith, length-append (enc x) (concat (map enc xs)), f x h.0, sizes-most enc P c f xs h.1)

part-most : (P : Part) → PartFit P → length (part_bytes P) ≤ 17
part-most P h = omega (arith, part-size P, h.corners_most)

kind-most : (cs : List SpacingClass) (k : Kind) → KindFit cs k → length (kind_record k) ≤ 106
unfolding kind_record
kind-most cs k h = omega (arith, sizes-most part_bytes PartFit 17 part-most k.parts h.parts, h.parts_most)

module _ (j : Job) (fit : ContentFit j) where
  -- "At most 8 classes."
  pub few-classes : length j.classes ≤ 8
  few-classes =
      let ids : List ℕ = map (λ c. c.id) j.classes in
      let small : Each (λ n. n < 8) ids = each-of_map (λ c. c.id) (λ n. n < 8) j.classes (each_map (λ c h. omega (arith, h.id_most)) j.classes fit.classes) in
      omega (arith, rising-few 8 0 ids (omega arith) fit.by_id small, length-map j.classes (λ c. c.id))

  -- So a job of 1024 bytes has room for it.
  pub fit_length : length (written j) ≤ 892
  unfolding kind_list kind_count
  fit_length =
      let kinds : length (kind_list j.kinds) ≤ length j.kinds * 106 = sizes-most kind_record (KindFit j.classes) 106 (kind-most j.classes) j.kinds fit.kinds in
      omega (arith, written-size j, few-classes, fit.kinds_most)
