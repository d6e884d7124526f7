-- `values::put_values` meets its contract.
use mathlib.Core.Path.{refl}
use Rattle.values.proofs.ValueLaws.{part_sizes, allowed-plain, allowed-marked}
use Rattle.values.proofs.put_values.Goals as goal

pub rewrite-requires : goal.rewrite-requires
rewrite-requires c =
    let e = c.in-Some.ensures in
    ((part_sizes e).0, rw (allowed-marked e) at c.requires)

pub returns-in-Some : goal.returns-in-Some
returns-in-Some c =
    let e = c.in-Some.ensures in
    record { value = rw (allowed-marked e) c.rewrite.ensures.value; out_after = rw (allowed-marked e) c.rewrite.ensures.out_after }

pub put_bytes-requires : goal.put_bytes-requires
put_bytes-requires c = rw (allowed-plain c.in_default.ensures) at c.requires

pub returns : goal.returns
returns c =
    let n = c.in_default.ensures in
    record { value = rw (allowed-plain n) refl; out_after = rw (allowed-plain n) c.put_bytes.ensures }
