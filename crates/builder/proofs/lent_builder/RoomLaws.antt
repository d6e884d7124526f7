-- The work slices of the table from a lent plane have room.
use mathlib.Core.List.{List, [], ◌∷◌, map}
use Prim.Native.Nat.{ℕ}
use lib.ListN.{length}
use Rattle.builder.specs.room.Room.{Roomy}
use Rattle.builder.proofs.room.RoomLaws.{at_least}
use Rattle.policies.specs.lent_records.LentTable.{LentRoom}
use Rattle.builder.specs.lent_builder.LentEnd.{lent_sizes}

-- the slices of a lent plane's table
pub lent-room : (d spans upright slots : List ℕ) → Roomy (d ∷ spans ∷ upright ∷ slots ∷ []) lent_sizes → LentRoom d spans upright slots
lent-room d spans upright slots e =
    let a = at_least 0 (map length (d ∷ spans ∷ upright ∷ slots ∷ [])) lent_sizes e in
    record { lent = record { size = a.0; two_each = a.1.0 }; sheet = a.1.1.0; room = a.1.1.1.0 }
