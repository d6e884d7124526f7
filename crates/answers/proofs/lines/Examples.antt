-- An example: a text as the judge has it.
use Rattle.std.specs.Prelude.{Some}
use mathlib.Core.List.{[], ◌∷◌}
use mathlib.Core.Path.{◌≡◌, refl}
use Rattle.plane.specs.numerals.RuleNumbers.{number_of, digits}
use Rattle.answers.specs.lines.Texts.{before, bytes_in, text_of}

-- 1 42
star : text_of 61440 (0x31 ∷ 0x20 ∷ 0x34 ∷ 0x32 ∷ []) ≡ Some (0x2A ∷ [])
unfolding text_of bytes_in before number_of digits
star = refl
