-- What an inner function of the crate answers on the way: no caller needs this.
use Rattle.std.specs.Prelude.{List, ◌≡◌, ℕ, ◌≤◌, length, drop}
use Rattle.characters.specs.utf8.Utf8.{codes, SameCheck}
use Rattle.characters.specs.white_space.Trim.{trim_start}

-- p stands behind the white space in front of the bytes s
pub record Led (s : List ℕ) (p : ℕ) : Type 0 where
  pub inside : p ≤ length s
  pub same : trim_start (codes s) ≡ codes (drop p s)
  pub checks : SameCheck s 0 p
