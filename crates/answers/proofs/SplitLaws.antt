-- From what the split answers to the line that is printed.
use Rattle.std.specs.Prelude.{Option, Some, Ok}
use mathlib.Core.List.{List}
use mathlib.Core.Path.{◌≡◌, sym, ap, subst, ◌∙◌}
use Prim.Native.Nat.{ℕ, ◌-◌, ◌≤◌}
use native.Mathlib.Omega.{arith}
use lib.ListN.{length, take, drop, length-take, length-drop}
use Rattle.model.specs.Refusals.{Reading}
use Rattle.values.specs.utils.Split.{answered, Places}
use Rattle.values.specs.declared.Rewritten.{Rewritten}
use Rattle.print.specs.Lines.{values_line}
use Rattle.answers.specs.SplitLines.{printed}

-- the places of a rewritten text
pub places : (s : Reading (Option Rewritten)) (t d : List ℕ) {r : Rewritten} → Places s t d → s ≡ Ok (Some r) → (r.bytes ≤ length d) × (r.from ≤ r.to) × (r.to ≤ length t)
places s t d {r} p e =
    let q : Places (Ok (Some r)) t d = subst (λ (s : Reading (Option Rewritten)). Places s t d) e p in
    (q.0, q.1.1.0, q.1.1.1)

pub printed-values : (s : Reading (Option Rewritten)) (t d : List ℕ) {r : Rewritten} → s ≡ Ok (Some r)
    → values_line (take (r.bytes - 0) (drop 0 d)) (take (r.to - r.from) (drop r.from t)) ≡ printed (answered s t d)
printed-values s t d {r} e =
    let z : r.bytes - 0 ≡ r.bytes = omega arith in
    ap (λ (k : ℕ). values_line (take k d) (take (r.to - r.from) (drop r.from t))) z ∙ sym (ap (λ (s : Reading (Option Rewritten)). printed (answered s t d)) e)

part_most_lem : (n f : ℕ) (l : List ℕ) → length (take n (drop f l)) ≤ length l
part_most_lem n f l = simp (length-take, length-drop) (omega arith)

pub parts_most : (s : Reading (Option Rewritten)) (t d : List ℕ) {r : Rewritten} → s ≡ Ok (Some r)
    → (length (take (r.bytes - 0) (drop 0 d)) ≤ length d) × (length (take (r.to - r.from) (drop r.from t)) ≤ length t)
parts_most s t d {r} e = (part_most_lem (r.bytes - 0) 0 d, part_most_lem (r.to - r.from) r.from t)
