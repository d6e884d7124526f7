-- The work slices of the whole reader have room.
use mathlib.Core.List.{List, [], ◌∷◌, map}
use Prim.Native.Nat.{ℕ}
use lib.ListN.{length}
use Rattle.builder.specs.room.Room.{Roomy}
use Rattle.builder.proofs.room.RoomLaws.{at_least}
use Rattle.policies.specs.drawn_planes.DrawnTable.{DrawnRoom}
use Rattle.builder.specs.SheetEnd.{sheet_sizes}

-- the slices of a drawing's table
pub sheet-room : (t m b g spans bytes : List ℕ) → Roomy (t ∷ m ∷ b ∷ g ∷ spans ∷ bytes ∷ []) sheet_sizes → DrawnRoom t m b g bytes spans
sheet-room t m b g spans bytes e =
    let a = at_least 0 (map length (t ∷ m ∷ b ∷ g ∷ spans ∷ bytes ∷ [])) sheet_sizes e in
    record {
      layers = record { text = a.0; thin = a.1.0; body = a.1.1.0; grid = a.1.1.1.0 };
      two_each = a.1.1.1.1.0;
      all_texts = a.1.1.1.1.1.0;
    }
