-- `policies::drawn_records::table_of` meets its contract.
use lib.ListN.{length-take}
use native.Mathlib.Omega.{arith}
use Rattle.model.specs.Limits.{text_bytes}
use Rattle.policies.proofs.drawn_records.table_of.Goals as goal

pub texts_in-requires : goal.texts_in-requires
texts_in-requires c = c.requires.1

pub plane_table-requires : goal.plane_table-requires
plane_table-requires c =
    rw c.texts_in.ensures
    (record { few = omega (arith, length-take text_bytes c.args.bytes.now); sheet = c.requires.2; room = c.requires.3 }, c.requires.0.1)

pub returns : goal.returns
returns c = let p = rw c.texts_in.ensures at c.plane_table.ensures in record { table = p.table; held = p.held }
