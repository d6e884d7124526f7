-- Readings that are tests, up to the first refusal.
use Rattle.std.specs.Prelude.{Bool, true, false, ℕ, zero, suc, Ok, Err}
use Rattle.lists.specs.Answer.{◌>>=◌}
use Rattle.lists.specs.Choose.{choose}
use Rattle.model.specs.Refusals.{Reading}
use Rattle.model.specs.declared.Refusal.{Refusal}

-- refused, where the test holds
abbrev pub refuse : Bool → Refusal → Reading (Unit {0})
refuse true r = Err r
refuse false r = Ok tt

-- whether f holds at i, i + 1, .., n places; up to the first at which it does not
unfoldable pub every : (ℕ → Reading Bool) → ℕ → ℕ → Reading Bool
every f i zero = Ok true
every f i (suc n) = do
  t ← f i
  choose t (every f (suc i) n) (Ok false)
