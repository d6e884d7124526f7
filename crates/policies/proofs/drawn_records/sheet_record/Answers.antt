-- `policies::drawn_records::sheet_record` meets its contract.
use Rattle.std.proofs.lemmas.Result.{err_from_is_err_and}
use Rattle.std.specs.Prelude.{Ok}
use mathlib.Core.Path.{◌≡◌, refl, sym, ap, ◌∙◌}
use lib.ListN.{take}
use native.Mathlib.Omega.{arith}
use Rattle.model.specs.Limits.{text_bytes}
use Rattle.model.specs.Refusals.{Reading}
use Rattle.recognizer.specs.Told.{table_read}
use Rattle.recognizer.specs.declared.SlotTable.{SlotTable}
use Rattle.recognizer.specs.tables.NamedTable.{named_table}
use Rattle.policies.specs.DrawnPolicy.{walked_policy}
use Rattle.recognizer.proofs.records.OutcomeLaws.{read_as}
use Rattle.policies.specs.drawn_planes.DrawnTable.{named_policy, drawn_in}
use Rattle.policies.specs.declared.drawn_planes.DrawnRows.{DrawnRows}
use Rattle.policies.proofs.drawn_planes.DrawnTableLaws.{first-region}
use Rattle.policies.proofs.drawn_records.sheet_record.Goals as goal
use Rattle.policies.proofs.drawn_records.sheet_record.Goals.{After-drawn_plane, After-table_of}

-- the policy that is drawn, as the plane's numbers tell it
told : (c : After-drawn_plane) {d : Reading DrawnRows} → c.drawn_plane.result ≡ d
    → table_read (named_policy (drawn_in d c.drawn_plane.new.text c.drawn_plane.new.bytes c.drawn_plane.new.spans)) ≡ table_read (walked_policy c.args.s.now)
told c e = ap table_read (ap named_policy (rw e at c.drawn_plane.ensures.plane) ∙ sym (first-region c.args.s.now))

-- and as its table's numbers do
told_table : (c : After-table_of) {t : Reading SlotTable} → c.table_of.result ≡ t
    → table_read (named_policy (drawn_in (Ok c.in_ok-d.d) c.drawn_plane.new.text c.drawn_plane.new.bytes c.drawn_plane.new.spans)) ≡ table_read (walked_policy c.args.s.now)
    → named_table t (take text_bytes c.drawn_plane.new.bytes) c.table_of.new.slots ≡ table_read (walked_policy c.args.s.now)
told_table c e d = (rw e at c.table_of.ensures.table) ∙ d

pub drawn_plane-requires : goal.drawn_plane-requires
drawn_plane-requires c = c.requires

pub table_of-requires : goal.table_of-requires
table_of-requires c =
    let p = c.requires in
    let l = c.drawn_plane.auto in
    (rw c.in_ok-d.was at c.drawn_plane.ensures.held, omega (arith, p.all_texts, l.bytes), omega (arith, p.layers.body, l.bodies), omega (arith, p.layers.thin, l.thins))

pub write_drawn-requires : goal.write_drawn-requires
write_drawn-requires c =
    let p = c.requires in
    let l = c.drawn_plane.auto in
    (rw c.in_ok-t.was at c.table_of.ensures.held, omega (arith, p.all_texts, l.bytes), omega (arith, p.layers.thin, l.thins, c.table_of.auto.slots))

pub returns-in_err-d : goal.returns-in_err-d
returns-in_err-d c =
    let p = err_from_is_err_and c.from_residual.result c.from_residual.ensures.1 in
    let r = read_as c.args.out.now (told (goal.at.returns-in_err-d c).After-drawn_plane c.in_err-d.was) (p.1 ∙ rw p.2) refl in
    record { outcome = r.0; out = r.1 }

pub returns-in_err-t : goal.returns-in_err-t
returns-in_err-t c =
    let p = err_from_is_err_and c.from_residual-in_err-t.result c.from_residual-in_err-t.ensures.1 in
    let r = read_as c.args.out.now (told_table (goal.at.returns-in_err-t c).After-table_of c.in_err-t.was (told (goal.at.returns-in_err-t c).After-drawn_plane c.in_ok-d.was)) (p.1 ∙ rw p.2) refl in
    record { outcome = r.0; out = r.1 }

pub returns : goal.returns
returns c =
    let w = c.write_drawn.ensures in
    let r = read_as c.args.out.now (told_table (goal.at.returns c).After-table_of c.in_ok-t.was (told (goal.at.returns c).After-drawn_plane c.in_ok-d.was)) w.outcome w.out in
    record { outcome = r.0; out = r.1 }
