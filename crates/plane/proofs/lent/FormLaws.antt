-- The test of a lent plane: its ways, and what it tells.
use mathlib.Core.Path.{◌≡◌, sym}
use mathlib.Core.Bool.{Bool, true, false, ◌&&◌}
use Prim.Native.Nat.{ℕ, ◌≤◌, ◌<◌}
use native.Mathlib.Omega.{arith}
use lib.ListN.{length, get_or}
use Rattle.lists.proofs.Tests.{both}
use Rattle.model.specs.Limits.{region_count}
use Rattle.plane.specs.lent.LentPlane.{LentPlane, within_limits, counts_agree, cells_known, parts_good, well_formed}
use Rattle.plane.specs.lent.Held.{RowsGood, PartsGood}
use Rattle.plane.proofs.lent.AllAtLaws.{all-at}
use Rattle.plane.proofs.lent.KindLaws.{known_at, known-region}
use Rattle.plane.proofs.lent.TextLaws.{good_at, part_inside}
use Rattle.plane.proofs.lent.LimitLaws.{few-rows, short_row, few-regions, few_bytes}
use Rattle.plane.proofs.lent.CountLaws.{same-kinds, same-regions, same-sizes}

module _ (l : LentPlane) where
  abbrev within : Bool
  within = within_limits l.rows l.offsets l.bytes

  abbrev agree : Bool
  agree = counts_agree l.rows l.kinds l.regions l.offsets l.sizes

  abbrev known : Bool
  known = cells_known (length l.offsets) l.kinds l.regions

  abbrev good : Bool
  good = parts_good l.offsets l.sizes l.bytes

  pub too_much : within ≡ false → false ≡ well_formed l
  too_much e = rw e

  pub not_agreed : within ≡ true → agree ≡ false → false ≡ well_formed l
  not_agreed w e = rw (w, e)

  pub not_known : within ≡ true → agree ≡ true → known ≡ false → false ≡ well_formed l
  not_known w a e = rw (w, a, e)

  pub parts_decide : within ≡ true → agree ≡ true → known ≡ true → (r : Bool) → r ≡ good → r ≡ well_formed l
  parts_decide w a k r e = rw (w, a, k) e

  module _ (e : well_formed l ≡ true) where
    of_counts : (within ≡ true) × (agree ≡ true)
    of_counts = both within agree (both (within && agree) (known && good) e).0

    of_contents : (known ≡ true) × (good ≡ true)
    of_contents = both known good (both (within && agree) (known && good) e).1

    pub region-known : (k : ℕ) → k < length l.kinds → get_or l.kinds k 0 ≡ 0 → get_or l.regions k 0 < length l.offsets
    region-known k h z =
        known-region (length l.offsets) (get_or l.kinds k 0) (get_or l.regions k 0)
        (all-at (known_at (length l.offsets) l.kinds l.regions) (length l.kinds) k of_contents.0 h) z

    pub regions-few : length l.offsets ≤ region_count
    regions-few = few-regions l.rows l.offsets l.bytes of_counts.0

    pub rows_good : RowsGood l.rows l.kinds l.regions
    rows_good =
        record {
          cells =
              record {
                same = same-regions l.rows l.kinds l.regions l.offsets l.sizes of_counts.1;
                known = λ k h z. omega (arith, region-known k h z, regions-few);
              };
          few = few-rows l.rows l.offsets l.bytes of_counts.0;
          short = short_row l.rows l.offsets l.bytes of_counts.0;
          total = sym (same-kinds l.rows l.kinds l.regions l.offsets l.sizes of_counts.1);
        }

    pub parts_good_lem : PartsGood l.offsets l.sizes l.bytes
    parts_good_lem =
        record {
          same = same-sizes l.rows l.kinds l.regions l.offsets l.sizes of_counts.1;
          few = few_bytes l.rows l.offsets l.bytes of_counts.0;
          inside =
              λ k h. part_inside l.bytes (get_or l.offsets k 0) (get_or l.sizes k 0)
              (all-at (good_at l.offsets l.sizes l.bytes) (length l.offsets) k of_contents.1 h);
        }
