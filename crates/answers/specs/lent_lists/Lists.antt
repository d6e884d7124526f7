-- Lists of bytes as the lent plane that they hold.
use Rattle.plane.specs.lent.LentPlane.{LentPlane}
use Rattle.answers.specs.declared.lent_lists.six_lists.Lists.{Lists}

abbrev pub lent_of : Lists → LentPlane
lent_of l = record { rows = l.rows.now; kinds = l.kinds.now; regions = l.regions.now; offsets = l.offsets.now; sizes = l.sizes.now; bytes = l.bytes.now }
