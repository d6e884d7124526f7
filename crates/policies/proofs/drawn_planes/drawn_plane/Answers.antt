-- `policies::drawn_planes::drawn_plane` meets its contract.
use Rattle.std.specs.Prelude.{Ok}
use Rattle.std.proofs.lemmas.Result.{err_from_is_err_and}
use mathlib.Core.Path.{◌≡◌}
use native.Mathlib.Omega.{arith}
use lib.ListN.{take}
use Rattle.model.specs.Limits.{text_bytes}
use Rattle.cells.specs.Held.{Held}
use Rattle.scan.specs.sheet_rows.Rows.{rows_at}
use Rattle.canvas.specs.Drawn.{Shown, Room}
use Rattle.canvas.specs.Layers.{sheet_of}
use Rattle.policies.proofs.drawn_planes.DrawnTableLaws.{grid_in, plane-room, no_plane, with_plane, name_in, not_drawn}
use Rattle.policies.proofs.drawn_planes.drawn_plane.Goals as goal
use Rattle.policies.proofs.drawn_planes.drawn_plane.Goals.{In_ok-d, In_ok-p}

told : (c : In_ok-d) → Ok c.in_ok-d.d.outline ≡ sheet_of c.args.s.now
told c = c.in_ok-d.ensures.answer

shown : (c : In_ok-d) → Shown (rows_at c.args.s.now 0) c.in_ok-d.d.rows c.in_ok-d.d.columns c.in_ok-d.d.outline.body c.draw_sheet.new.text c.draw_sheet.new.thins c.draw_sheet.new.bodies c.draw_sheet.new.grid
shown c = c.in_ok-d.ensures.layers

held : (c : In_ok-p) → Held c.read_plane.new.text c.in_ok-p.p.rows (take text_bytes c.read_plane.new.bytes) c.read_plane.new.spans c.in_ok-p.p.count
held c = c.in_ok-p.ensures.held

pub returns-in_err-d : goal.returns-in_err-d
returns-in_err-d c =
    let p = err_from_is_err_and c.from_residual.result c.from_residual.ensures.1 in
    rw (p.1, p.2) (record { plane = not_drawn c.args.s.now _ c.in_err-d.ensures.answer; held = tt })

pub invariant_of-layer : goal.invariant_of-layer
invariant_of-layer c =
    record { sized = grid_in c.args.s.now c.in_ok-d.d.outline (told (goal.at.invariant_of-layer c).In_ok-d) (shown (goal.at.invariant_of-layer c).In_ok-d) (omega (arith, c.requires.layers.grid, c.draw_sheet.auto.grid)) }

pub read_plane-requires : goal.read_plane-requires
read_plane-requires c =
    let p = c.requires in
    let l = c.draw_sheet.auto in
    let r : Room c.draw_sheet.new.text c.draw_sheet.new.thins c.draw_sheet.new.bodies c.draw_sheet.new.grid =
    record { text = omega (arith, p.layers.text, l.text); thin = omega (arith, p.layers.thin, l.thins); body = omega (arith, p.layers.body, l.bodies); grid = omega (arith, p.layers.grid, l.grid) } in
    plane-room c.args.s.now c.in_ok-d.d.outline (told (goal.at.read_plane-requires c).In_ok-d) (shown (goal.at.read_plane-requires c).In_ok-d) r p.all_texts p.two_each

pub returns-in_err-p : goal.returns-in_err-p
returns-in_err-p c =
    let p = err_from_is_err_and c.from_residual-in_err-p.result c.from_residual-in_err-p.ensures.1 in
    rw (p.1, p.2) (record { plane = no_plane c.args.s.now c.in_ok-d.d.outline (told (goal.at.returns-in_err-p c).In_ok-d) (shown (goal.at.returns-in_err-p c).In_ok-d) _ c.in_err-p.ensures.answer; held = tt })

pub returns : goal.returns
returns c =
    let q = c.in_ok-p.ensures.answer in
    record { plane = with_plane c.args.s.now c.in_ok-d.d.outline (told (goal.at.returns c).In_ok-d) (shown (goal.at.returns c).In_ok-d) _ _ _ _ _ (held c) q; held = (held c, name_in c.args.s.now c.in_ok-d.d.outline (told (goal.at.returns c).In_ok-d) (shown (goal.at.returns c).In_ok-d) _ _ _ _ _ (held c) q) }
