-- `frames::outline::search` meets its contract.
use mathlib.Core.Path.{ap, ◌∙◌}
use Rattle.std.specs.Option.{ok_or}
use Rattle.model.specs.declared.Refusal.TheVariants.{CharactersNotFound}
use Rattle.frames.proofs.outline.OutlineLaws.{search_is}
use Rattle.frames.proofs.outline.search.Goals as goal

pub returns : goal.returns
returns c =
    let a = c.args in
    c.ok_or.ensures.value ∙ ap (λ m. ok_or m (CharactersNotFound a.code)) c.place_of.ensures ∙ search_is _ _ _ _ a.layer.sized
