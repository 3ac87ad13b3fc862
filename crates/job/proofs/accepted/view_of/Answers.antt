use Rattle.std.proofs.Common.{rules, refl, sym, ◌∙◌, take}
use native.Mathlib.Omega.{arith}
use Rattle.std.proofs.lemmas.Iterator.{YieldsList-from_slice, YieldsList-from_map}
use Rattle.std.proofs.lemmas.Iterator.Consumers.{sum_from_yields_List, fits_from_yields_list}
use lib.Seq.{length-take-le}
use Rattle.job.specs.declared.Kind as J
use Rattle.job.proofs.ViewLaws.{inside, board-in, kinds-in, classes-in, list_reads, length-list, pieces-are, view-is, board-read}
use Rattle.job.proofs.accepted.view_of.Goals as goal

pub read_trailer-t-requires : goal.read_trailer-t-requires
read_trailer-t-requires c = (inside _ c.requires).least

pub read_board-b-requires : goal.read_board-b-requires
read_board-b-requires c = omega (arith, inside c.args.job.now c.requires)

pub slice_bounds-read_kinds-end : goal.slice_bounds-read_kinds-end
slice_bounds-read_kinds-end c = omega (arith, inside c.args.job.now c.requires)

pub read_kinds-kind-requires : goal.read_kinds-kind-requires
read_kinds-kind-requires c =
    let s = c.args.job.now in
    let t = c.read_trailer-t.ensures in
    let i = inside s c.requires in
    let k = kinds-in s c.requires in
    ((omega arith, omega arith, omega arith, omega (arith, length-list s c.requires _ _ _ t.kinds t.kinds_length t.kind_count)), (list_reads s c.requires _ _ _ t.kinds t.kinds_length t.kind_count, classes-in s c.requires _ _ t.classes t.class_count))

pub multiples-requires : goal.multiples-requires
multiples-requires c = omega (arith, board-in c.args.job.now c.requires, board-read c.args.job.now _ _ c.read_trailer-t.ensures.board c.read_board-b.ensures)

pub multiples-requires-2 : goal.multiples-requires-2
multiples-requires-2 c = omega (arith, board-in c.args.job.now c.requires, board-read c.args.job.now _ _ c.read_trailer-t.ensures.board c.read_board-b.ensures)

pub slice_bounds-kind-end : goal.slice_bounds-kind-end
slice_bounds-kind-end c = let k = kinds-in c.args.job.now c.requires in omega
    (arith, c.read_kinds-kind.ensures.size, c.read_trailer-t.ensures.kind_count)

pub slice_bounds-iter-end : goal.slice_bounds-iter-end
slice_bounds-iter-end c =
    let k = kinds-in c.args.job.now c.requires in
    sym (length-take-le c.read_trailer-t.result.kind_count c.read_kinds-kind.result
    (omega (arith, c.read_kinds-kind.ensures.size, c.read_trailer-t.ensures.kind_count)))

pub sum-requires-clause-fits : goal.sum-requires-clause-fits
sum-requires-clause-fits c =
    let s = c.args.job.now in
    let t = c.read_trailer-t.ensures in
    let k = kinds-in s c.requires in
    let pieces = pieces-are s c.requires _ _ _ t.kinds t.kinds_length t.kind_count _ _ t.classes t.class_count _
    c.read_kinds-kind.ensures (omega (arith, c.read_kinds-kind.ensures.size, t.kind_count)) in
    fits_from_yields_list c.map.result _
    (YieldsList-from_map _ (λ (e : J.Kind). e.demand)
    (YieldsList-from_slice (take c.read_trailer-t.result.kind_count c.read_kinds-kind.result) (cc))
    c.map.ensures.closure (λ x r q k. search rules))
    (omega arith)

pub returns : goal.returns
returns c =
    let s = c.args.job.now in
    let t = c.read_trailer-t.ensures in
    let b = board-read s _ _ t.board c.read_board-b.ensures in
    let k = kinds-in s c.requires in
    let pieces = pieces-are s c.requires _ _ _ t.kinds t.kinds_length t.kind_count _ _ t.classes t.class_count _
    c.read_kinds-kind.ensures (omega (arith, c.read_kinds-kind.ensures.size, t.kind_count)) in
    view-is s c.requires _ _ _ t.kinds t.kinds_length t.kind_count _ _ t.classes t.class_count _
    c.read_kinds-kind.ensures _ refl
    (sum_from_yields_List c.map.result _ c.sum.ensures.ran
    (YieldsList-from_map _ (λ (e : J.Kind). e.demand)
    (YieldsList-from_slice (take c.read_trailer-t.result.kind_count c.read_kinds-kind.result) (cc))
    c.map.ensures.closure (λ x r q k. search rules))
    ∙ pieces)
    b.0 b.1 b.2 c.multiples.ensures.0 c.multiples-2.ensures.0 (omega arith) refl
