-- A trimmed part of a part of a list is a part of the list; and a text trimmed in front and then at the end is trimmed.
use mathlib.Core.Path.{◌≡◌, sym, ap, ◌∙◌}
use mathlib.Core.List.{List}
use Prim.Native.Nat.{ℕ, ◌+◌, ◌-◌, ◌≤◌}
use native.Mathlib.Omega.{arith}
use lib.ListN.{length, take, drop, length-drop}
use lib.Seq.{length-take-le}
use Rattle.lists.proofs.Parts.{part_part}
use Rattle.characters.specs.white_space.Trim.{trim_start, trim_end, trim, PartIn}

pub part_in : {s f t : List ℕ} {a e from to : ℕ} → (a ≤ e) × (e ≤ length s)
    → PartIn (take (e - a) (drop a s)) 0 (length (take (e - a) (drop a s))) f t from to → PartIn s a e f t (a + from) (a + to)
part_in {s} {f} {t} {a} {e} {from} {to} h p =
    let d = length-drop a s in
    let l : length (take (e - a) (drop a s)) ≡ e - a = length-take-le (e - a) (drop a s) (omega arith) in
    let m : to ≤ e - a = omega (arith, p.high) in
    record {
      low = omega arith;
      ordered = omega (arith, p.ordered);
      high = omega (arith, h);
      start = omega (arith, p.start);
      text = part_part s a (e - a) from to p.ordered m ∙ p.text;
    }

-- trimmed in front, and then at the end
pub trimmed_both : (s : List ℕ) {from to : ℕ} → drop from s ≡ trim_start s → PartIn s from (length s) (drop from s) (trim_end (drop from s)) from to
    → PartIn s 0 (length s) (trim_start s) (trim s) from to
unfolding trim
trimmed_both s {from} {to} e p =
    record {
      low = omega arith;
      ordered = p.ordered;
      high = p.high;
      start = ap (λ (x : List ℕ). from + length x) (sym e) ∙ p.start;
      text = p.text ∙ ap trim_end e;
    }
