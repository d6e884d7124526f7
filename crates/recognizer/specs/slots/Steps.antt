-- Steps that put as many texts each.
use Rattle.std.specs.Prelude.{List, ◌≡◌, ℕ, length}
use Rattle.record.specs.Policy.{Text}

-- the texts of each step, and how many they are
pub record Steps : Type 0 where
  pub texts : ℕ → List Text
  pub size : ℕ
  pub alike : (i : ℕ) → length (texts i) ≡ size
