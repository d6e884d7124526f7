-- The values of a text by its first part in emphasis, and how long they are.
use Rattle.std.specs.Prelude.{Some, None}
use mathlib.Core.Path.{◌≡◌, ◌∙◌}
use mathlib.Core.List.{List}
use Prim.Native.Nat.{ℕ, ◌≤◌, ◌<◌}
use native.Mathlib.Omega.{arith}
use lib.ListN.{length}
use Rattle.values.specs.emphasis.Commas.{parts}
use Rattle.values.specs.emphasis.Emphasis.{Choice, plain, marked, choice_of}
use Rattle.values.specs.emphasis.Found.{Emphasised}
use Rattle.values.specs.declared.emphasis.Found.{Found}
use Rattle.values.proofs.emphasis.Finding.{between, Sized, first-sized}
use Rattle.values.specs.rewriting.Replaced.{replace_all}
use Rattle.values.proofs.rewriting.Replacing.{replace_length}
use Rattle.values.specs.Values.{values_by, values_of, MeasuredOf}

-- no part is in emphasis
module _ {t : List ℕ} (n : choice_of t ≡ plain) where
  -- the allowed values are the text itself
  pub allowed-plain : (values_of t).allowed ≡ t
  unfolding values_of
  allowed-plain = rw n

  pub measured_plain : MeasuredOf None t
  unfolding values_of
  measured_plain = rw n

module _ {t : List ℕ} {f : Found} (i : Emphasised t f) where
  -- the part and its bare text stand in the text
  pub part_ordered : f.from ≤ f.to
  part_ordered = omega (arith, i.low, i.ordered, i.high)

  pub bare_inside : f.b ≤ length t
  bare_inside = omega (arith, i.high, i.inside)

  -- the part is not empty, and its bare text is at most as long
  pub part_sizes : (0 < length (between t f.from f.to)) × (length (between t f.a f.b) ≤ length (between t f.from f.to))
  part_sizes = rw i.choice at (first-sized 0 (parts t))

  -- the allowed values are rewritten
  pub allowed-marked : (values_of t).allowed ≡ replace_all 0 (between t f.from f.to) (between t f.a f.b) t
  unfolding values_of
  allowed-marked = rw i.choice

  pub measured_marked : {n : ℕ} → n ≡ length (replace_all 0 (between t f.from f.to) (between t f.a f.b) t)
      → MeasuredOf (Some (record { bytes = n; from = f.a; to = f.b })) t
  unfolding values_of
  measured_marked e = (e ∙ rw i.choice, rw i.choice, i.ordered, bare_inside)

-- the allowed values are no longer than the text, so a slice of its length has room for them
pub split-length : (t : List ℕ) → length (values_of t).allowed ≤ length t
unfolding values_of
split-length t = go (choice_of t) (first-sized 0 (parts t))
  where
    go : (c : Choice) → Sized c → length (values_by c t).allowed ≤ length t
    go plain h = omega arith
    go (marked place part bare) h = replace_length part bare h.0 h.1 t
