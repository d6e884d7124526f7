-- `canvas::thin_layer::thin_code` meets its contract.
use Rattle.lists.specs.OneOf.{one_of}
use Rattle.canvas.specs.thin_layer.Thin.{thin_of}
use Rattle.canvas.proofs.thin_layer.ThinLaws.{thin_other}
use Rattle.canvas.proofs.thin_layer.thin_code.Goals as goal

pub returns-in-9484 : goal.returns-in-9484
unfolding thin_of one_of
returns-in-9484 c = rw c.in-9484.is

pub returns-in-9488 : goal.returns-in-9488
unfolding thin_of one_of
returns-in-9488 c = rw c.in-9488.is

pub returns-in-9492 : goal.returns-in-9492
unfolding thin_of one_of
returns-in-9492 c = rw c.in-9492.is

pub returns-in-9496 : goal.returns-in-9496
unfolding thin_of one_of
returns-in-9496 c = rw c.in-9496.is

pub returns-in-9516 : goal.returns-in-9516
unfolding thin_of one_of
returns-in-9516 c = rw c.in-9516.is

pub returns-in-9524 : goal.returns-in-9524
unfolding thin_of one_of
returns-in-9524 c = rw c.in-9524.is

pub returns-in-9472 : goal.returns-in-9472
unfolding thin_of one_of
returns-in-9472 c = rw c.in-9472.is

pub returns-in-9474 : goal.returns-in-9474
unfolding thin_of one_of
returns-in-9474 c = rw c.in-9474.is

pub returns-in-9500 : goal.returns-in-9500
unfolding thin_of one_of
returns-in-9500 c = rw c.in-9500.is

pub returns-in-9532 : goal.returns-in-9532
unfolding thin_of one_of
returns-in-9532 c = rw c.in-9532.is

pub returns-in-9508 : goal.returns-in-9508
unfolding thin_of one_of
returns-in-9508 c = rw c.in-9508.is

pub returns-in-32 : goal.returns-in-32
unfolding thin_of one_of
returns-in-32 c = rw c.in-32.is

pub returns-in-9617 : goal.returns-in-9617
unfolding thin_of one_of
returns-in-9617 c = rw c.in-9617.is

pub returns-in-9573 : goal.returns-in-9573
unfolding thin_of one_of
returns-in-9573 c = rw c.in-9573.is

pub returns-in-9572 : goal.returns-in-9572
unfolding thin_of one_of
returns-in-9572 c = rw c.in-9572.is

pub returns-in-9553 : goal.returns-in-9553
unfolding thin_of one_of
returns-in-9553 c = rw c.in-9553.is

pub returns-in-9576 : goal.returns-in-9576
unfolding thin_of one_of
returns-in-9576 c = rw c.in-9576.is

pub returns-in-9575 : goal.returns-in-9575
unfolding thin_of one_of
returns-in-9575 c = rw c.in-9575.is

pub returns-in-9552 : goal.returns-in-9552
unfolding thin_of one_of
returns-in-9552 c = rw c.in-9552.is

pub returns-in-9566 : goal.returns-in-9566
unfolding thin_of one_of
returns-in-9566 c = rw c.in-9566.is

pub returns-in-9567 : goal.returns-in-9567
unfolding thin_of one_of
returns-in-9567 c = rw c.in-9567.is

pub returns-in-9569 : goal.returns-in-9569
unfolding thin_of one_of
returns-in-9569 c = rw c.in-9569.is

pub returns-in-9570 : goal.returns-in-9570
unfolding thin_of one_of
returns-in-9570 c = rw c.in-9570.is

pub returns-in-9579 : goal.returns-in-9579
unfolding thin_of one_of
returns-in-9579 c = rw c.in-9579.is

pub returns-in-9578 : goal.returns-in-9578
unfolding thin_of one_of
returns-in-9578 c = rw c.in-9578.is

pub returns-in-9580 : goal.returns-in-9580
unfolding thin_of one_of
returns-in-9580 c = rw c.in-9580.is

pub returns-in_default : goal.returns-in_default
returns-in_default c = thin_other _ c.in_default.in_default-own.rest
