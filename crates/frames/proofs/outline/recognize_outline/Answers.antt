-- `frames::outline::recognize_outline` meets its contract. One law of `outline_of` for each step.
use Rattle.std.proofs.lemmas.Result.{err_from_is_err_and}
use Rattle.std.specs.Prelude.{Ok}
use mathlib.Core.Path.{◌≡◌, sym, ◌∙◌}
use Prim.Native.Nat.{◌*◌, ◌/◌, ◌<◌}
use Rattle.model.specs.Layers.{picture_of}
use Rattle.lists.proofs.PlaceLaws.{columns, row_in_lem}
use Rattle.model.specs.Box.{┌, ╥, ╬}
use Rattle.frames.specs.outline.Outline.{search_of, named_of}
use Rattle.frames.proofs.outline.OutlineLaws.{search_in, no_corner, no_edge, no_name, no_crossing, table_is}
use native.Mathlib.Omega.{arith}
use Rattle.frames.proofs.outline.recognize_outline.Goals as goal
use Rattle.frames.proofs.outline.recognize_outline.Goals.{In_ok-search, In_ok-edge, In_ok-cross, In_ok-has_name}

-- what was found
did1 : (c : In_ok-search) → search_of ┌ (picture_of c.args.layer) c.args.layer.width c.args.layer.height ≡ Ok c.in_ok-search.field-0
did1 c = sym c.search.ensures ∙ c.in_ok-search.was

did2 : (c : In_ok-edge) → search_of ╥ (picture_of c.args.layer) c.args.layer.width c.args.layer.height ≡ Ok c.in_ok-edge.edge
did2 c = sym c.search-2.ensures ∙ c.in_ok-edge.was

edge_in : (c : In_ok-edge) → c.in_ok-edge.edge < c.args.layer.height * c.args.layer.width
edge_in c = search_in ╥ (picture_of c.args.layer) c.args.layer.width c.args.layer.height _ (did2 c)

did3 : (c : In_ok-has_name) → named_of (picture_of c.args.layer) c.args.layer.width c.args.layer.height (c.in_ok-edge.edge / c.args.layer.width) ≡ Ok c.in_ok-has_name.has_name
did3 c = sym c.name_above.ensures ∙ c.in_ok-has_name.was

did4 : (c : In_ok-cross) → search_of ╬ (picture_of c.args.layer) c.args.layer.width c.args.layer.height ≡ Ok c.in_ok-cross.cross
did4 c = sym c.search-3.ensures ∙ c.in_ok-cross.was

pub returns-in_err-search : goal.returns-in_err-search
returns-in_err-search c =
    let p = err_from_is_err_and c.from_residual.result c.from_residual.ensures.1 in
    rw (p.1, p.2) (no_corner (picture_of c.args.layer) c.args.layer.width c.args.layer.height _ (sym c.search.ensures ∙ c.in_err-search.was))

pub returns-in_err-edge : goal.returns-in_err-edge
returns-in_err-edge c =
    let p = err_from_is_err_and c.from_residual-in_err-edge.result c.from_residual-in_err-edge.ensures.1 in
    rw (p.1, p.2) (no_edge (picture_of c.args.layer) c.args.layer.width c.args.layer.height _ (did1 (goal.at.returns-in_err-edge c).In_ok-search) _ (sym c.search-2.ensures ∙ c.in_err-edge.was))

pub nonzero_div-edge : goal.nonzero_div-edge
nonzero_div-edge c = columns c.args.layer.width c.args.layer.height _ (edge_in c)

pub name_above-requires : goal.name_above-requires
name_above-requires c =
    record { column = columns c.args.layer.width c.args.layer.height _ (edge_in c); row = omega (arith, row_in_lem c.args.layer.width c.args.layer.height _ (edge_in c)) }

pub returns-in_err-has_name : goal.returns-in_err-has_name
returns-in_err-has_name c =
    let p = err_from_is_err_and c.from_residual-in_err-has_name.result c.from_residual-in_err-has_name.ensures.1 in
    rw (p.1, p.2) (no_name (picture_of c.args.layer) c.args.layer.width c.args.layer.height _ (did1 (goal.at.returns-in_err-has_name c).In_ok-search) _ (did2 (goal.at.returns-in_err-has_name c).In_ok-edge) _ (sym c.name_above.ensures ∙ c.in_err-has_name.was))

pub recognize_table-requires : goal.recognize_table-requires
recognize_table-requires c = search_in ╬ (picture_of c.args.layer) c.args.layer.width c.args.layer.height _ (did4 c)

pub returns : goal.returns
returns c =
    c.recognize_table.ensures ∙ table_is (picture_of c.args.layer) c.args.layer.width c.args.layer.height _ (did1 (goal.at.returns c).In_ok-search) _ (did2 (goal.at.returns c).In_ok-edge) _ (did3 (goal.at.returns c).In_ok-has_name) _ (did4 (goal.at.returns c).In_ok-cross)

pub returns-in_err-cross : goal.returns-in_err-cross
returns-in_err-cross c =
    let p = err_from_is_err_and c.from_residual-in_err-cross.result c.from_residual-in_err-cross.ensures.1 in
    rw (p.1, p.2) (no_crossing (picture_of c.args.layer) c.args.layer.width c.args.layer.height _ (did1 (goal.at.returns-in_err-cross c).In_ok-search) _ (did2 (goal.at.returns-in_err-cross c).In_ok-edge) _ (did3 (goal.at.returns-in_err-cross c).In_ok-has_name) _ (sym c.search-3.ensures ∙ c.in_err-cross.was))
