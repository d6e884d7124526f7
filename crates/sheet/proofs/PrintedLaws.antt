-- The two cases of what is printed, and how much of the input tells it.
use mathlib.Core.List.{List, [], ◌++◌}
use mathlib.Core.Path.{◌≡◌, ap, ◌∙◌, subst, sym}
use Prim.Native.Nat.{ℕ, ◌≤◌, ◌<◌}
use native.Mathlib.Omega.{arith}
use lib.Dec.{ltb}
use lib.ListN.{length, take}
use lib.Seq.{take_all, length-take-le}
use borrow.Author.Tests.{lt-ltb, le-ltb, ltb-true, ltb-false}
use Rattle.std.specs.Prelude.{None, Some, Ok, Err, Result, IfSome, OnOk}
use Rattle.std.specs.Io.KnownBytes.{Appends}
use Rattle.std.specs.Option.{option_map}
use Rattle.std.specs.declared.option.Option.{Option}
use Rattle.print.specs.Decimal.{Written}
use Rattle.lists.proofs.Tests.{by_flag}
use Rattle.model.specs.Limits.{text_bytes}
use Rattle.policies.specs.DrawnPolicy.{walked_policy}
use Rattle.reports.specs.outcome_lines.PolicyLines.{record_bytes, policy_lines}
use Rattle.sheet.specs.Printed.{too_long_line, printed_for}

pub printed_long : (s : List ℕ) → text_bytes < length s → too_long_line ≡ printed_for s
unfolding printed_for
printed_long s h = rw (lt-ltb text_bytes (length s) h)

pub printed-sheet : (s : List ℕ) → length s ≤ text_bytes → policy_lines record_bytes (walked_policy s) ≡ printed_for s
unfolding printed_for
printed-sheet s h = rw (le-ltb text_bytes (length s) h)

-- one byte more than a sheet has is enough to read
pub printed_front : (s : List ℕ) (n : ℕ) → text_bytes < n → printed_for (take n s) ≡ printed_for s
printed_front s n h =
    by_flag (ltb n (length s))
    (λ t. let l : n < length s = ltb-true n (length s) t in
    let k : length (take n s) ≡ n = length-take-le n s (omega arith) in
    sym (printed_long (take n s) (omega arith)) ∙ printed_long s (omega arith))
    (λ t. ap printed_for (take_all n s (ltb-false n (length s) t)))

-- what is written is what is printed for all that the reader had, where that is known
pub printed_known : {T E : Type 0} (r : Result T E) (known old new : Option (List ℕ)) (s : List ℕ) (limit : ℕ) {d o : List ℕ} {most : ℕ}
    → IfSome (option_map (take limit) known) (λ xs. s ≡ xs) → text_bytes < limit → d ≡ [] → Written d o (printed_for s) most
    → OnOk r (Appends old new o) → OnOk r (IfSome known (λ xs. Appends old new (printed_for xs)))
printed_known (Err e) known old new s limit h l f w a = tt
printed_known (Ok x) None old new s limit h l f w a = tt
printed_known (Ok x) (Some xs) old new s limit {d} {o} h l f w a =
    let e : o ≡ printed_for xs = w.same ∙ ap (λ (d : List ℕ). d ++ printed_for s) f ∙ ap printed_for h ∙ printed_front xs limit l in
    subst (λ (bs : List ℕ). Appends old new bs) e a
