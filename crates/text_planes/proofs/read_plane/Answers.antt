-- `text_planes::read_plane` meets its contract.
use Rattle.std.specs.Prelude.{Ok}
use Rattle.std.proofs.lemmas.Result.{err_from_is_err_and}
use mathlib.Core.Path.{◌≡◌}
use native.Mathlib.Omega.{arith}
use Rattle.lists.specs.Picture.{canvas}
use Rattle.text_planes.specs.RegionTexts.{region_texts_of, regions_in, UsedIn}
use Rattle.text_planes.proofs.DrawnPlaneLaws.{no_regions, no_plane, with_plane, plane-held}
use Rattle.text_planes.proofs.read_plane.Goals as goal
use Rattle.text_planes.proofs.read_plane.Goals.{In_ok-count}

told : (c : In_ok-count) → regions_in (Ok c.in_ok-count.field-0) c.read_regions.new.rects c.read_regions.new.bytes c.read_regions.new.spans ≡ region_texts_of (canvas c.args.grid.width c.args.grid.height c.args.text.now) (canvas c.args.grid.width c.args.grid.height c.args.thins.now) c.args.grid.width c.args.grid.height
told c = c.in_ok-count.ensures.answer

used : (c : In_ok-count) → UsedIn (Ok c.in_ok-count.field-0) c.read_regions.new.bytes c.read_regions.new.spans
used c = c.in_ok-count.ensures.used

pub returns-in_err-count : goal.returns-in_err-count
returns-in_err-count c =
    let p = err_from_is_err_and c.from_residual.result c.from_residual.ensures.1 in
    rw (p.1, p.2) (record { answer = no_regions _ _ _ _ _ _ _ c.in_err-count.ensures.answer; held = tt })

pub invariant_of-rects : goal.invariant_of-rects
invariant_of-rects c = omega (arith, (used (goal.at.invariant_of-rects c).In_ok-count).0, c.requires.four_each, c.read_regions.auto.rects)

pub make_plane-requires : goal.make_plane-requires
make_plane-requires c =
    let p = c.requires in
    let u = used (goal.at.make_plane-requires c).In_ok-count in
    (u.0, p.thin, p.plane)

pub returns-in_err-rows : goal.returns-in_err-rows
returns-in_err-rows c =
    let p = err_from_is_err_and c.from_residual-in_err-rows.result c.from_residual-in_err-rows.ensures.1 in
    rw (p.1, p.2) (record { answer = no_plane _ _ _ _ _ _ _ (told (goal.at.returns-in_err-rows c).In_ok-count) _ c.in_err-rows.ensures.made; held = tt })

pub returns : goal.returns
returns c =
    let p = c.requires in
    let t = told (goal.at.returns c).In_ok-count in
    let u = used (goal.at.returns c).In_ok-count in
    let e = c.in_ok-rows.ensures.made in
    record { answer = with_plane _ _ _ _ _ _ _ t _ e; held = plane-held _ _ _ _ _ _ _ c.read_regions.new.rects _ c.read_regions.new.bytes c.read_regions.new.spans e c.in_ok-rows.ensures.fits u (omega (arith, p.all_texts, c.read_regions.auto.bytes)) (omega (arith, u.0, p.two_each, c.read_regions.auto.spans)) }
