-- `walks::along::table_of` meets its contract: the sets of each table are those of its lines.
use mathlib.Core.Path.{◌≡◌, refl}
use mathlib.Core.Bool.{true}
use mathlib.Core.List.{List}
use Prim.Native.Nat.{ℕ}
use Rattle.lists.specs.OneOf.{one_of}
use Rattle.walks.specs.Sets.{has_bit, holds, Sought}
use Rattle.walks.specs.Sides.{all_from}
use Rattle.walks.specs.declared.Characters.{Characters}
use Rattle.walks.specs.declared.Direction.{Direction}
use Rattle.walks.specs.declared.Direction.TheVariants.{Right, Down, Left, Up}
use Rattle.walks.proofs.SetLaws.{soughtb, sought}
use Rattle.walks.specs.along.Characters.{toward, searched_of, allowed_of}
use Rattle.walks.specs.declared.along.Lines.TheVariants.{Region, Rectangle, Name, Body, Crossing}
use Rattle.walks.proofs.along.table_of.Goals as goal

-- one computed test for each direction
told : (right down left up : Characters) (s a : Direction → List ℕ) → soughtb right (s Right) (a Right) ≡ true → soughtb down (s Down) (a Down) ≡ true → soughtb left (s Left) (a Left) ≡ true → soughtb up (s Up) (a Up) ≡ true
    → (d : Direction) → Sought (toward d right down left up) (s d) (a d)
told right down left up s a e f g h Right = sought _ _ _ e
told right down left up s a e f g h Down = sought _ _ _ f
told right down left up s a e f g h Left = sought _ _ _ g
told right down left up s a e f g h Up = sought _ _ _ h

pub returns-in-Region : goal.returns-in-Region
unfolding has_bit holds one_of all_from
returns-in-Region c = rw c.in-Region.is (told _ _ _ _ (searched_of Region) (allowed_of Region) refl refl refl refl)

pub returns-in-Rectangle : goal.returns-in-Rectangle
unfolding has_bit holds one_of all_from
returns-in-Rectangle c = rw c.in-Rectangle.is (told _ _ _ _ (searched_of Rectangle) (allowed_of Rectangle) refl refl refl refl)

pub returns-in-Name : goal.returns-in-Name
unfolding has_bit holds one_of all_from
returns-in-Name c = rw c.in-Name.is (told _ _ _ _ (searched_of Name) (allowed_of Name) refl refl refl refl)

pub returns-in-Body : goal.returns-in-Body
unfolding has_bit holds one_of all_from
returns-in-Body c = rw c.in-Body.is (told _ _ _ _ (searched_of Body) (allowed_of Body) refl refl refl refl)

pub returns-in-Crossing : goal.returns-in-Crossing
unfolding has_bit holds one_of all_from
returns-in-Crossing c = rw c.in-Crossing.is (told _ _ _ _ (searched_of Crossing) (allowed_of Crossing) refl refl refl refl)
