-- `nofit::patterns::fill_pair` meets its contract. Assumes nothing.
use mathlib.Core.Path.{sym, subst}
use Prim.Native.Nat.{ℕ, ◌+◌, ◌*◌, ◌≤◌, ◌<◌}
use native.Mathlib.Omega.{arith}
use lib.ListN.{length}
use Rattle.candidates.proofs.PreparedLaws.{bounded}
use Rattle.nofit.specs.Filling.{Boxed}
use Rattle.nofit.proofs.PairLaws.{held-few, string-room, string-early, pair_small, ready_of, box_of_lem, boxes-other, written_of}
use Rattle.nofit.proofs.patterns.fill_pair.Goals as goal
use Rattle.nofit.proofs.patterns.fill_pair.Goals.{Start}

-- Both kinds exist; the string is one of few, and there is room for it.
record Fits (kinds kind other turn start size room : ℕ) : Type 0 where
  few : kinds ≤ 8
  kind_in : kind < kinds
  other_in : other < kinds
  turned : turn < 4
  short : size ≤ 200
  early : start ≤ 57800
  inside : (start + size) * 8 ≤ room

fits : (c : Start) → Fits c.args.prepared.now.view.kinds c.args.x.kind c.args.x.other c.args.x.turn (c.args.nofit.first + c.args.i * c.args.nofit.size) c.args.nofit.size (length c.args.bits.now)
fits c =
    let p = c.args.prepared.now in
    let v = p.prepared.viewed in
    let w = c.args.nofit in
    let m = c.requires.fillable.measures in
    let o = c.requires.pair_of.0 in
    let held = held-few p.job.now p.view v w m in
    let early : c.args.i * w.size ≤ 57600 = string-early w c.args.i (omega (arith, c.requires.pair_of.1, held)) m.small.1 in
    record {
      few = (bounded p.job.now p.view v).kinds;
      kind_in = omega (arith, o.ordered, o.exists, m.kinds, v.view.kinds);
      other_in = omega (arith, o.exists, m.kinds, v.view.kinds);
      turned = o.turn;
      short = m.small.1;
      early = omega (arith, m.small.0);
      inside = omega (arith, c.requires.fillable.fits, string-room w c.args.i c.requires.pair_of.1);
    }

pub pattern_of-requires : goal.pattern_of-requires
pattern_of-requires c =
    let p = c.args.prepared.now in
    let k = fits (goal.at.pattern_of-requires c).Start in
    record {
      bounded = (bounded p.job.now p.view p.prepared.viewed, (k.kind_in, k.other_in));
      small = pair_small p.job.now c.args.nofit c.args.i c.args.x c.requires.fillable.measures c.requires.pair_of.0;
    }

pub invariant_of-source : goal.invariant_of-source
invariant_of-source c =
    let j = c.args.prepared.now in
    let s = j.job.now in
    let w = c.args.nofit in
    let m = c.requires.fillable.measures in
    let i = c.args.i in
    let x = c.args.x in
    let o = c.requires.pair_of.0 in
    let p = c.piece_of.result in
    let r = c.piece_of-2.result in
    let hp = c.piece_of.ensures in
    let hr = c.piece_of-2.ensures in
    let g = c.pattern_of.result in
    let e = c.pattern_of.ensures in
    let q = c.turned_to.result in
    let d = c.turned_to.ensures in
    record {
      ready = (
        ready_of s j.view j.turned.now j.boxes j.prepared w m i x o p r hp hr g e q d,
        (
          subst (Boxed j.turned.now q) (sym c.box_at.ensures) (box_of_lem s j.view j.turned.now j.boxes j.prepared w m i x o p r hp hr g e q d),
          boxes-other s j.view j.turned.now j.boxes j.prepared w m i x o p r hp hr,
        ),
      );
    }

pub fill-requires : goal.fill-requires
fill-requires c =
    let k = fits (goal.at.fill-requires c).Start in
    record { sizes = omega (arith, k); size_in_bounds = k.inside }

pub returns : goal.returns
returns c =
    let j = c.args.prepared.now in
    written_of j.job.now j.view j.turned.now j.boxes j.prepared c.args.nofit c.requires.fillable.measures c.args.i c.args.x c.requires.pair_of.0
    c.piece_of.result c.piece_of-2.result c.piece_of.ensures c.piece_of-2.ensures c.pattern_of.result c.pattern_of.ensures c.turned_to.result c.turned_to.ensures
    (c.args.nofit.first + c.args.i * c.args.nofit.size) c.args.nofit.size c.args.bits.now _ c.fill.ensures
