-- `text_planes::read_regions` meets its contract.
use Rattle.std.specs.Prelude.{Ok}
use Rattle.std.proofs.lemmas.Result.{err_from_is_err_and}
use mathlib.Core.Path.{◌≡◌}
use Prim.Native.Nat.{◌≤◌}
use native.Mathlib.Omega.{arith}
use Rattle.model.specs.Layers.{picture_of}
use Rattle.model.specs.Limits.{region_count}
use Rattle.frames.specs.regions.Slices.{regions_in}
use Rattle.frames.specs.regions.Regions.{regions_of}
use Rattle.frames.proofs.regions.InsideLaws.{regions-inside, regions-few}
use Rattle.text_planes.proofs.RegionTextLaws.{not_counted, not_gathered, gathered}
use Rattle.text_planes.proofs.read_regions.Goals as goal
use Rattle.text_planes.proofs.read_regions.Goals.{In_ok-count}

told : (c : In_ok-count) → regions_in (Ok c.in_ok-count.count) c.regions.new.rects ≡ regions_of (picture_of c.args.thins) c.args.thins.width c.args.thins.height
told c = c.in_ok-count.ensures

few : (c : In_ok-count) → c.in_ok-count.count ≤ region_count
few c = regions-few (picture_of c.args.thins) c.args.thins.width c.args.thins.height c.in_ok-count.count c.regions.new.rects (told c)

pub returns-in_err-count : goal.returns-in_err-count
returns-in_err-count c =
    let a = c.args in
    let p = err_from_is_err_and c.from_residual.result c.from_residual.ensures.1 in
    rw (p.1, p.2) (record { answer = not_counted (picture_of a.text) (picture_of a.thins) a.thins.width a.thins.height _ c.in_err-count.ensures; used = tt })

pub invariant_of-found : goal.invariant_of-found
invariant_of-found c = omega (arith, few (goal.at.invariant_of-found c).In_ok-count, c.regions.auto.rects, c.requires.four_each)

pub gather-requires : goal.gather-requires
gather-requires c =
    let a = c.args in
    let p = c.requires in
    let f = few (goal.at.gather-requires c).In_ok-count in
    record {
      inside = rw (p.columns, p.rows) (regions-inside (picture_of a.thins) a.thins.width a.thins.height c.in_ok-count.count c.regions.new.rects (told (goal.at.gather-requires c).In_ok-count));
      bytes = p.all_texts;
      spans = omega (arith, p.two_each);
    }

pub returns-in_err-used : goal.returns-in_err-used
returns-in_err-used c =
    let a = c.args in
    let p = err_from_is_err_and c.from_residual-in_err-used.result c.from_residual-in_err-used.ensures.1 in
    rw (p.1, p.2) (record { answer = not_gathered (picture_of a.text) (picture_of a.thins) a.thins.width a.thins.height _ (told (goal.at.returns-in_err-used c).In_ok-count) _ c.in_err-used.ensures.answer; used = tt })

pub returns : goal.returns
returns c =
    let a = c.args in
    let t = told (goal.at.returns c).In_ok-count in
    record { answer = gathered (picture_of a.text) (picture_of a.thins) a.thins.width a.thins.height _ t _ c.in_ok-used.ensures.answer; used = (few (goal.at.returns c).In_ok-count, c.in_ok-used.ensures.spans) }
