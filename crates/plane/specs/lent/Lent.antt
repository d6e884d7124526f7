-- The slices of a lent plane as the lists that they hold.
use Rattle.plane.specs.lent.LentPlane.{LentPlane}
use Rattle.plane.specs.declared.lent.Lent.{Lent}

abbrev pub lists_of : Lent → LentPlane
lists_of l = record { rows = l.rows.now; kinds = l.kinds.now; regions = l.regions.now; offsets = l.offsets.now; sizes = l.sizes.now; bytes = l.bytes.now }
