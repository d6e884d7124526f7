-- `canvas::body_layer::top_code` meets its contract.
use borrow.Author.Tests.{ne_eqb}
use Rattle.canvas.specs.body_layer.Body.{top_of}
use Rattle.canvas.proofs.body_layer.top_code.Goals as goal

pub returns-in-9500 : goal.returns-in-9500
unfolding top_of
returns-in-9500 c = rw c.in-9500.is

pub returns-in-9524 : goal.returns-in-9524
unfolding top_of
returns-in-9524 c = rw c.in-9524.is

pub returns-in-9508 : goal.returns-in-9508
unfolding top_of
returns-in-9508 c = rw c.in-9508.is

pub returns-in-9532 : goal.returns-in-9532
unfolding top_of
returns-in-9532 c = rw c.in-9532.is

pub returns-in_default : goal.returns-in_default
unfolding top_of
returns-in_default c = let r = c.in_default.in_default-own.rest in simp (ne_eqb _ _ r.0.0.0.1, ne_eqb _ _ r.0.0.1, ne_eqb _ _ r.0.1, ne_eqb _ _ r.1)
