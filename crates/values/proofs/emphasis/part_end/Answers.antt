-- `values::emphasis::part_end` meets its contract.
use Rattle.std.proofs.Common.{rules, tests, ◌≡◌, ◌∙◌, ap, length, take, drop, ◌-◌, nat_eq, List, ℕ}
use Rattle.std.proofs.lemmas.Iterator.{YieldsList-from_slice}
use Rattle.std.proofs.lemmas.Iterator.Search.{position_from_yields_List}
use Rattle.lists.proofs.Parts.{part_end}
use Rattle.values.specs.emphasis.Commas.{comma}
use Rattle.values.proofs.emphasis.Commas.{before_comma, before-found, part_ends}
use Rattle.values.proofs.emphasis.part_end.Goals as goal

pub returns : goal.returns
returns c =
    let a = c.args in
    let whole : take (length a.s.now - a.at) (drop a.at a.s.now) ≡ drop a.at a.s.now = part_end a.s.now a.at in
    let found = position_from_yields_List (λ x. nat_eq x comma) _ _ c.position.result c.position.ensures.ran
    (YieldsList-from_slice (take (length a.s.now - a.at) (drop a.at a.s.now)) c.iter.ensures.rest) (λ x b q k. search (rules, tests)) in
    part_ends a.s.now a.at _ c.requires (c.unwrap_or.ensures ∙ before-found _ found ∙ ap (λ (s : List ℕ). before_comma s) whole)
