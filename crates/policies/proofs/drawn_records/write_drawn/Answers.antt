-- `policies::drawn_records::write_drawn` meets its contract.
use Rattle.policies.proofs.drawn_records.write_drawn.Goals as goal

pub write_table-requires : goal.write_table-requires
write_table-requires c = let p = c.requires in rw c.texts_in.ensures (p.0, p.2)

pub returns : goal.returns
returns c = let w = rw c.texts_in.ensures at c.write_table.ensures in record { outcome = w.outcome; out = w.out }
