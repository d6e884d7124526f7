-- `walks::go` meets its contract: the line of its direction is walked.
use mathlib.Core.Path.{◌∙◌}
use Rattle.walks.proofs.LineLaws.{dir_walk}
use Rattle.walks.proofs.go.Goals as goal

pub returns : goal.returns
returns c ss aa e =
    let s = c.args.spot in
    let l = s.layer in
    rw (c.is_back.ensures, c.step_of.ensures, c.ahead.ensures) at (c.walk_line.ensures ss aa e)
    ∙ dir_walk l.width l.height s.at.x s.at.y s.inside c.args.d l.codes.now ss aa
