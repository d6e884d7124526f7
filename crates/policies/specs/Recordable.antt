-- Which policies can be recorded: document 01, "Table record".
use Rattle.std.specs.Prelude.{◌^◌, ◌<◌, length}
use Rattle.record.specs.Policy.{Policy, Complete}
use Rattle.record.specs.Record.{total, table_of}

-- what the record of a policy can tell: an entry for each clause in each rule, and numbers of 32 bits
pub record Recordable (p : Policy) : Type 0 where
  pub complete : Complete p
  pub total : total (table_of p) < 2 ^ 32
  pub rules : length p.rules < 2 ^ 32
