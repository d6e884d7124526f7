-- Examples of document 01, by computation.
use mathlib.Core.Path.{◌≡◌, refl}
use Rattle.lists.specs.OneOf.{one_of}
use Rattle.model.specs.Box.{┼, ╬, blank}
use Rattle.canvas.specs.thin_layer.Thin.{thin_of}

-- ╬ becomes ┼, and the letter A blank
pub double_cross : thin_of ╬ ≡ ┼
unfolding thin_of one_of
double_cross = refl

pub letter_a : thin_of 0x41 ≡ blank
unfolding thin_of one_of
letter_a = refl
