-- `replay::answer_by` meets its contract.
use mathlib.Core.Path.{refl, sym, ap, ◌∙◌}
use Rattle.std.specs.Prelude.{Some}
use Rattle.replay.proofs.Replaying.{by_text, no_text, answered_as}
use native.Mathlib.Omega.{arith}
use Rattle.replay.proofs.answer_by.Goals as goal

pub answer_text-requires : goal.answer_text-requires
answer_text-requires g c = omega (arith, c.requires, c.as_slice.ensures.fits)

pub returns : goal.returns
returns g c =
    answered_as c.answer_text.result _ _ c.answer_text.ensures (by_text c.args.kind c.args.rest.now (c.in_ok-read_text.ensures ∙ ap Some (sym c.as_slice.ensures.value)))

pub returns-in_err-read_text : goal.returns-in_err-read_text
returns-in_err-read_text g c = rw c.from_residual.ensures (no_text c.args.kind c.args.rest.now c.in_err-read_text.ensures, refl)
