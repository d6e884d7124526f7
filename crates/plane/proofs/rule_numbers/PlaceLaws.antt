-- Looking along a line for the first cell of a kind.
use Rattle.std.specs.Prelude.{Ok, Err, None, Some}
use mathlib.Core.Path.{◌≡◌, refl, sym, ◌∙◌}
use mathlib.Core.Bool.{true, false}
use mathlib.Core.List.{List}
use Prim.Native.Nat.{ℕ, ◌+◌, ◌≤◌, ◌<◌}
use native.Mathlib.Omega.{arith}
use lib.ListN.{drop}
use Rattle.model.specs.Cells.{same_kind}
use Rattle.model.specs.declared.Cell.{Cell}
use Rattle.model.specs.declared.Refusal.TheVariants.{PlaneMalformed}
use Rattle.plane.specs.rule_numbers.Numbering.{place_behind}
use Rattle.plane.specs.rule_numbers.Line.{slot_of, line_of}
use Rattle.plane.proofs.rule_numbers.LineLaws.{line_at, line_end}
use Rattle.plane.specs.declared.rule_numbers.Line.{Line}

-- none of the first k cells is of the kind
pub record Looked (d : List ℕ) (line : Line) (n : ℕ) (kind : Cell) (k : ℕ) : Type 0 where
  pub within : k ≤ n
  pub rest : place_behind kind 0 (line_of d line n) ≡ place_behind kind k (drop k (line_of d line n))

pub look_start : (d : List ℕ) (line : Line) (n : ℕ) (kind : Cell) → Looked d line n kind 0
look_start d line n kind = record { within = omega arith; rest = refl }

module _ {d : List ℕ} {line : Line} {n : ℕ} {kind : Cell} {k : ℕ} (p : Looked d line n kind k) where
  pub look_end : n ≤ k → Err PlaneMalformed ≡ place_behind kind 0 (line_of d line n)
  unfolding place_behind
  look_end h = sym (p.rest ∙ rw (line_end d line n k h))

  module _ (h : k < n) where
    pub look_missing : None ≡ slot_of d line k → Err PlaneMalformed ≡ place_behind kind 0 (line_of d line n)
    unfolding place_behind
    look_missing e = sym (p.rest ∙ rw (line_at d line n k h, sym e))

    module _ (c : Cell) (e : Some c ≡ slot_of d line k) where
      pub look_found : same_kind kind c ≡ true → Ok (k + 1) ≡ place_behind kind 0 (line_of d line n)
      unfolding place_behind
      look_found t = sym (p.rest ∙ rw (line_at d line n k h, sym e, t))

      pub look_on : same_kind kind c ≡ false → Looked d line n kind (k + 1)
      unfolding place_behind
      look_on t = record { within = omega arith; rest = p.rest ∙ rw (line_at d line n k h, sym e, t) }
