-- Why a record's total fits 32 bits. A table has at most 4,160 slots, and each text at most the 61,440 bytes of a sheet:
-- 40 bytes in front, 8 for each slot and 61,440 for each text make at most 255,623,720, below 2 ^ 32.
use Rattle.std.specs.Prelude.{None}
use mathlib.Core.Path.{◌≡◌}
use Prim.Native.Nat.{ℕ, ◌^◌, ◌<◌, ◌≤◌}
use native.Mathlib.Omega.{arith}
use lib.ListN.{length, get_or}
use Rattle.record.specs.Record.{Table, bytes_of, slots_in, total}
use Rattle.record.specs.Slots.{slot_limit}
use Rattle.record.proofs.Texts.{packed_most}

pub total-fits : (t : Table) → slots_in t ≤ slot_limit → length t.texts ≡ slots_in t
    → ((i : ℕ) → i < length t.texts → length (bytes_of (get_or t.texts i None)) ≤ 61440) → total t < 2 ^ 32
total-fits t few counted short = omega (arith, packed_most 61440 t.texts short)
