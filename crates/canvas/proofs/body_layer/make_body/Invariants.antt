use lib.ListN.{get_or}
use Rattle.canvas.specs.body_layer.Body.{body_code, shaded_code}
use Rattle.canvas.proofs.body_layer.BodyLaws.{row_turn}
use Rattle.canvas.proofs.thin_layer.Turning.{Turning}
use Rattle.canvas.proofs.body_layer.make_body.Given as goal

abbrev pub invariant-loop-y : goal.invariant-loop-y
invariant-loop-y l =
    Turning (row_turn (λ j p. body_code l.top j (get_or l.thins.codes.now p 0)) l.width l.left l.n) l.bottom l.initial.bodies l.bodies l.y
    × Turning (row_turn (λ j p. shaded_code l.top j) l.width l.left l.n) l.bottom l.initial.grid l.grid l.y
