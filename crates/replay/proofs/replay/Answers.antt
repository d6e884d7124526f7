-- `replay::replay` meets its contract: it is safe and ends.
use mathlib.Core.Path.{refl, ◌∙◌}
use native.Mathlib.Omega.{arith}
use Rattle.replay.proofs.replay.Goals as goal

pub loop-init : goal.loop-init
loop-init g c = record { waiting = omega arith; long = refl }

pub replay_some-w-requires : goal.replay_some-w-requires
replay_some-w-requires g c = (search arith, c.loop.invariant.waiting)

pub shape_of-input-then-not-w : goal.shape_of-input-then-not-w
shape_of-input-then-not-w g c = c.replay_some-w.auto.input ∙ c.loop.invariant.long

pub loop-preserved : goal.loop-preserved
loop-preserved g c = record { waiting = c.replay_some-w.ensures; long = c.replay_some-w.auto.input ∙ c.loop.invariant.long }

pub shape_of-input : goal.shape_of-input
shape_of-input g c = c.loop.invariant.long
