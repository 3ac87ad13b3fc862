-- `distances::middles::between` meets its contract: the middles and the move are small, and so is the way. Assumes
-- nothing.
use mathlib.Core.Path.{◌≡◌, refl}
use Prim.Native.Nat.{◌≤◌}
use borrow.Author.Rules.{rules}
use lib.IntN.{ℤ, pos, nat_abs, ◌+ℤ◌, ◌-ℤ◌, ◌*ℤ◌}
use mir.Syntax.{w16}
use mir.Val.{SFits}
use Rattle.integers.proofs.Machine.{op_gives}
use Rattle.distances.proofs.DistanceLaws.{bits, bits_are}
use Rattle.distances.proofs.MiddleLaws.{doubled-size, doubled_fits, more_size, more_fits, rest-size, rest-fits}
use Rattle.distances.proofs.middles.between.Goals as goal

-- twice the middle of q, r, and twice the move, m,
module _ (r m : ℤ) (fr : SFits w16 r) (fm : SFits w16 m) (hr : nat_abs r ≤ 8192) (hm : nat_abs m ≤ 4096) where
  doubled_is : bits (pos 2 *ℤ bits m) ≡ pos 2 *ℤ m
  doubled_is = op_gives {x = pos 2} refl (bits_are fm refl) ◌*ℤ◌ (doubled_fits m hm)

  end_is : bits (bits r +ℤ bits (pos 2 *ℤ bits m)) ≡ r +ℤ pos 2 *ℤ m
  end_is = op_gives (bits_are fr refl) doubled_is ◌+ℤ◌ (more_fits r (pos 2 *ℤ m) hr (doubled-size m hm))

  end_size : nat_abs (r +ℤ pos 2 *ℤ m) ≤ 16384
  end_size = more_size r (pos 2 *ℤ m) hr (doubled-size m hm)

  -- less twice the middle of p, s
  module _ (s : ℤ) (fs : SFits w16 s) (hs : nat_abs s ≤ 8192) where
    way_size : nat_abs (bits (bits (bits r +ℤ bits (pos 2 *ℤ bits m)) -ℤ bits s)) ≤ 24576
    way_size =
        rw (op_gives end_is (bits_are fs refl) ◌-ℤ◌ (rest-fits (r +ℤ pos 2 *ℤ m) s end_size hs))
        (rest-size (r +ℤ pos 2 *ℤ m) s end_size hs)

pub returns : goal.returns
returns c =
    let from = c.twice_middle-from in
    let to = c.twice_middle-to in
    let by = c.args.by in
    let tx : SFits w16 to.result.x = search rules in
    let ty : SFits w16 to.result.y = search rules in
    let dx : SFits w16 by.dx = search rules in
    let dy : SFits w16 by.dy = search rules in
    let fx : SFits w16 from.result.x = search rules in
    let fy : SFits w16 from.result.y = search rules in (
      way_size to.result.x by.dx tx dx to.ensures.0 by.short.0 from.result.x fx from.ensures.0,
      way_size to.result.y by.dy ty dy to.ensures.1 by.short.1 from.result.y fy from.ensures.1,
    )
