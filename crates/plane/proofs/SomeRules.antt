-- A sheet that is stated has at least one rule: its numbers are counted from 1.
use Rattle.std.specs.Prelude.{Ok, Err}
use mathlib.Core.Path.{◌≡◌, refl}
use mathlib.Core.Bool.{Bool, true, false}
use mathlib.Core.List.{List}
use Prim.Native.Nat.{ℕ, ◌<◌}
use lib.Dec.{ltb}
use borrow.Author.Tests.{ltb-true}
use Rattle.lists.specs.Choose.{choose}
use Rattle.lists.proofs.AnswerLaws.{refused-ok, then_ok}
use Rattle.model.specs.Refusals.{Reading}
use Rattle.model.specs.declared.Cell.TheVariants.{HorizontalDoubleCrossing, VerticalDoubleCrossing}
use Rattle.model.specs.declared.HitPolicy.{HitPolicy}
use Rattle.model.specs.declared.HitPolicyPlacement.{HitPolicyPlacement}
use Rattle.model.specs.declared.HitPolicyPlacement.TheVariants.{TopLeft, BottomLeft, NotPresent}
use Rattle.model.specs.declared.Orientation.TheVariants.{RulesAsRows, RulesAsColumns}
use Rattle.model.specs.declared.RuleNumbersPlacement.{RuleNumbersPlacement}
use Rattle.model.specs.declared.RuleNumbersPlacement.TheVariants as numbers
use Rattle.cells.specs.Plane.{Plane}
use Rattle.plane.specs.placement.Orientation.{as_rows, as_columns, as_cross_tab, oriented_by, oriented_of, holds}
use Rattle.plane.specs.rule_numbers.Numbering.{numbers_left, numbers_right, right_of, rule_numbers_of}
use Rattle.plane.specs.placement.Placement.{placement_of}
use Rattle.plane.specs.declared.placement.Oriented.{Oriented}
use Rattle.cells.specs.turning.Upright.{upright_of}
use Rattle.plane.specs.Sheet.{Sheet, stated_sheet}

-- there are numbers, where they are placed
abbrev Some : RuleNumbersPlacement → Type 0
Some (numbers.LeftBelow n) = 0 < n
Some (numbers.RightAfter n) = 0 < n
Some numbers.NotPresent = Unit {0}

right-some : (m : Reading ℕ) (n : RuleNumbersPlacement) → right_of m ≡ Ok n → Some n
right-some (Ok r) n e = go (ltb 0 r) refl e
  where
    go : (t : Bool) → ltb 0 r ≡ t → ◌≡◌ {A = Reading RuleNumbersPlacement} (Ok (choose t (numbers.RightAfter r) numbers.NotPresent)) (Ok n) → Some n
    go true h e = let z : numbers.RightAfter r ≡ n = cc in rw (← z) (ltb-true 0 r h)
    go false h e = let z : numbers.NotPresent ≡ n = cc in rw (← z) tt
right-some (Err r) n e = refused-ok e

numbers-some : (text : ℕ → List ℕ) (P : Plane) (n : RuleNumbersPlacement) → rule_numbers_of text P ≡ Ok n → Some n
unfolding rule_numbers_of
numbers-some text P n e =
    let t = then_ok (numbers_left text P) _ n e in
    go t.0 (ltb 0 t.0) refl t.2
  where
    go : (l : ℕ) (t : Bool) → ltb 0 l ≡ t → choose {A = Reading RuleNumbersPlacement} t (Ok (numbers.LeftBelow l)) (right_of (numbers_right text P)) ≡ Ok n → Some n
    go l true h e = let z : numbers.LeftBelow l ≡ n = cc in rw (← z) (ltb-true 0 l h)
    go l false h e = right-some (numbers_right text P) n e

rows-some : (h : HitPolicy) (n : RuleNumbersPlacement) (o : Oriented) → Some n → as_rows h n ≡ Ok o → 0 < o.rules
rows-some h (numbers.LeftBelow n) o s e = let z : record { orientation = RulesAsRows; policy = h; rules = n } ≡ o = cc in rw (← z) s
rows-some h (numbers.RightAfter n) o s e = refused-ok e
rows-some h numbers.NotPresent o s e = refused-ok e

columns-some : (h : HitPolicy) (n : RuleNumbersPlacement) (o : Oriented) → Some n → as_columns h n ≡ Ok o → 0 < o.rules
columns-some h (numbers.LeftBelow n) o s e = refused-ok e
columns-some h (numbers.RightAfter n) o s e = let z : record { orientation = RulesAsColumns; policy = h; rules = n } ≡ o = cc in rw (← z) s
columns-some h numbers.NotPresent o s e = refused-ok e

cross_none : (n : RuleNumbersPlacement) (o : Oriented) → as_cross_tab n ≡ Ok o → 0 < o.rules
cross_none (numbers.LeftBelow n) o e = refused-ok e
cross_none (numbers.RightAfter n) o e = refused-ok e
cross_none numbers.NotPresent o e = refused-ok e

oriented_some : (a b : Bool) (p : HitPolicyPlacement) (n : RuleNumbersPlacement) (o : Oriented) → Some n → oriented_by a b p n ≡ Ok o → 0 < o.rules
oriented_some true b (TopLeft h) n o s e = rows-some h n o s e
oriented_some true b (BottomLeft h) n o s e = refused-ok e
oriented_some true b NotPresent n o s e = refused-ok e
oriented_some false true (TopLeft h) n o s e = refused-ok e
oriented_some false true (BottomLeft h) n o s e = columns-some h n o s e
oriented_some false true NotPresent n o s e = refused-ok e
oriented_some false false (TopLeft h) n o s e = rows-some h n o s e
oriented_some false false (BottomLeft h) n o s e = columns-some h n o s e
oriented_some false false NotPresent n o s e = cross_none n o e

pub some-rules : (text : ℕ → List ℕ) (P : Plane) (s : Sheet) → stated_sheet text P ≡ Ok s → 0 < s.rules
unfolding stated_sheet oriented_of
some-rules text P s e =
    let o = then_ok (oriented_of text P) _ s e in
    let u = then_ok (upright_of o.0.orientation P) _ s o.2 in
    let p = then_ok (placement_of text P) _ o.0 o.1 in
    let n = then_ok (rule_numbers_of text P) _ o.0 p.2 in
    let z : record { orientation = o.0.orientation; policy = o.0.policy; rules = o.0.rules; plane = u.0 } ≡ s = let q = u.2 in cc in
    rw (← z) (oriented_some (holds HorizontalDoubleCrossing P) (holds VerticalDoubleCrossing P) p.0 n.0 o.0 (numbers-some text P n.0 n.1) n.2)
