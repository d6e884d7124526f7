-- Demand 3, second half: "Whichever even plane is lent and accepted as a column sheet: with its last row put before its first and the whole
-- then turned, the double lines of that row too", it is a row sheet with the same hit policy, rule count and upright sheet. (The converse
-- does not hold.)
use Rattle.std.specs.Prelude.{Ok, Err, Option, None, Some}
use mathlib.Core.Bool.{Bool, true, false, ◌&&◌, ◌||◌}
use mathlib.Core.Path.{◌≡◌, refl, sym, ap, ◌∙◌, subst}
use mathlib.Core.List.{List, [], ◌∷◌, map}
use Prim.Native.Nat.{ℕ, zero, suc, ◌+◌, ◌<◌}
use native.Mathlib.Omega.{arith}
use borrow.Author.Tests.{ltb-true}
use lib.Dec.{ltb}
use lib.ListN.{length, get_or, drop}
use Rattle.lists.specs.Answer.{◌>>=◌}
use Rattle.lists.specs.Choose.{choose, on_some}
use Rattle.lists.specs.Run.{run, build}
use Rattle.lists.specs.Transpose.{width, Rows, Even, column, transpose}
use Rattle.lists.proofs.AnswerLaws.{then_ok, refused-ok}
use Rattle.lists.proofs.RunLaws.{map-run, build-get_or}
use Rattle.model.specs.Cells.{turned_cell, region_of, same_kind}
use Rattle.model.specs.Refusals.{Reading}
use Rattle.model.specs.declared.Cell.{Cell}
use Rattle.model.specs.declared.Cell.TheVariants.{Region, VerticalOutputDoubleLine, VerticalAnnotationDoubleLine, HorizontalOutputDoubleLine, HorizontalAnnotationsDoubleLine, MainDoubleCrossing, HorizontalDoubleCrossing, VerticalDoubleCrossing}
use Rattle.model.specs.declared.HitPolicy.{HitPolicy}
use Rattle.model.specs.declared.HitPolicyPlacement.{HitPolicyPlacement}
use Rattle.model.specs.declared.HitPolicyPlacement.TheVariants.{TopLeft, BottomLeft, NotPresent}
use Rattle.model.specs.declared.Orientation.{Orientation}
use Rattle.model.specs.declared.Orientation.TheVariants.{RulesAsRows, RulesAsColumns}
use Rattle.model.specs.declared.Refusal.TheVariants.{PlaneMalformed}
use Rattle.model.specs.declared.RuleNumbersPlacement.{RuleNumbersPlacement}
use Rattle.model.specs.declared.RuleNumbersPlacement.TheVariants as numbers
use Rattle.cells.specs.Plane.{Plane}
use Rattle.plane.specs.placement.Orientation.{holds_in, holds, as_rows, as_columns, as_cross_tab, oriented_by, oriented_of}
use Rattle.plane.specs.rule_numbers.Numbering.{first, last, place_behind, counted, counted_behind, numbers_left, numbers_right, right_of, rule_numbers_of}
use Rattle.plane.specs.placement.Placement.{policy_in, corner_policy, bottom_left, placement_of}
use Rattle.plane.specs.declared.placement.Oriented.{Oriented}
use Rattle.cells.specs.turning.Upright.{but_last, wide, turned, pivot_of, upright_of}
use Rattle.plane.specs.Sheet.{Sheet, stated_sheet, last_first}

-- two answers that differ
no : {A : Type 0} → ◌≡◌ {A = ℕ} 0 1 → A
no e = absurd (omega arith)

-- a turned cell: its region is the same, and lines and crossings are those of the other direction
pub record TurnedTo (c : Cell) : Type 0 where
  pub region : region_of (turned_cell c) ≡ region_of c
  pub line : same_kind HorizontalOutputDoubleLine (turned_cell c) ≡ same_kind VerticalOutputDoubleLine c
  pub crossing : same_kind VerticalDoubleCrossing (turned_cell c) ≡ same_kind HorizontalDoubleCrossing c

turned-to : (c : Cell) → TurnedTo c
turned-to (Region n) = record { region = refl; line = refl; crossing = refl }
turned-to VerticalOutputDoubleLine = record { region = refl; line = refl; crossing = refl }
turned-to VerticalAnnotationDoubleLine = record { region = refl; line = refl; crossing = refl }
turned-to HorizontalOutputDoubleLine = record { region = refl; line = refl; crossing = refl }
turned-to HorizontalAnnotationsDoubleLine = record { region = refl; line = refl; crossing = refl }
turned-to MainDoubleCrossing = record { region = refl; line = refl; crossing = refl }
turned-to HorizontalDoubleCrossing = record { region = refl; line = refl; crossing = refl }
turned-to VerticalDoubleCrossing = record { region = refl; line = refl; crossing = refl }

-- what a column sheet came from
pub record Columns (across : Bool) (p : HitPolicyPlacement) (m : RuleNumbersPlacement) (o : Oriented) : Type 0 where
  pub none-across : across ≡ false
  pub policy : p ≡ BottomLeft o.policy
  pub count : m ≡ numbers.RightAfter o.rules

no_rows : {A : Type 0} (h : HitPolicy) (m : RuleNumbersPlacement) (o : Oriented) → o.orientation ≡ RulesAsColumns → as_rows h m ≡ Ok o → A
no_rows h (numbers.LeftBelow n) o q e = no cc
no_rows h (numbers.RightAfter n) o q e = refused-ok e
no_rows h numbers.NotPresent o q e = refused-ok e

no_cross_tab : {A : Type 0} (m : RuleNumbersPlacement) (o : Oriented) → as_cross_tab m ≡ Ok o → A
no_cross_tab (numbers.LeftBelow n) o e = refused-ok e
no_cross_tab (numbers.RightAfter n) o e = refused-ok e
no_cross_tab numbers.NotPresent o e = refused-ok e

columns_of : (h : HitPolicy) (m : RuleNumbersPlacement) (o : Oriented) → as_columns h m ≡ Ok o → Columns false (BottomLeft h) m o
columns_of h (numbers.LeftBelow n) o e = refused-ok e
columns_of h (numbers.RightAfter n) o e = record { none-across = refl; policy = cc; count = cc }
columns_of h numbers.NotPresent o e = refused-ok e

oriented_columns : (across down : Bool) (p : HitPolicyPlacement) (m : RuleNumbersPlacement) (o : Oriented) → o.orientation ≡ RulesAsColumns
    → oriented_by across down p m ≡ Ok o → Columns across p m o
oriented_columns true down (TopLeft h) m o q e = no_rows h m o q e
oriented_columns true down (BottomLeft h) m o q e = refused-ok e
oriented_columns true down NotPresent m o q e = refused-ok e
oriented_columns false true (TopLeft h) m o q e = refused-ok e
oriented_columns false true (BottomLeft h) m o q e = columns_of h m o e
oriented_columns false true NotPresent m o q e = refused-ok e
oriented_columns false false (TopLeft h) m o q e = no_rows h m o q e
oriented_columns false false (BottomLeft h) m o q e = columns_of h m o e
oriented_columns false false NotPresent m o q e = no_cross_tab m o e

-- a policy that stands bottom left
bottom-left : (text : ℕ → List ℕ) (P : Plane) (h : HitPolicy) → bottom_left text P ≡ Ok (BottomLeft h) → corner_policy text (last P) ≡ Ok (Some h)
bottom-left text P h e =
    let w = then_ok (corner_policy text (last P)) (λ p. Ok (on_some p BottomLeft NotPresent)) (BottomLeft h) e in
    w.1 ∙ go w.0 w.2
  where
    go : (p : Option HitPolicy) → ◌≡◌ {A = Reading HitPolicyPlacement} (Ok (on_some p BottomLeft NotPresent)) (Ok (BottomLeft h)) → ◌≡◌ {A = Reading (Option HitPolicy)} (Ok p) (Ok (Some h))
    go (Some g) q = cc
    go None q = no cc

placed-bottom : (text : ℕ → List ℕ) (P : Plane) (h : HitPolicy) → placement_of text P ≡ Ok (BottomLeft h) → corner_policy text (last P) ≡ Ok (Some h)
unfolding placement_of
placed-bottom text P h e =
    let w = then_ok (corner_policy text (first P)) (λ p. on_some p (λ g. Ok (TopLeft g)) (bottom_left text P)) (BottomLeft h) e in
    go w.0 w.2
  where
    go : (p : Option HitPolicy) → on_some p (λ g. Ok (TopLeft g)) (bottom_left text P) ≡ Ok (BottomLeft h) → corner_policy text (last P) ≡ Ok (Some h)
    go (Some g) q = no cc
    go None q = bottom-left text P h q

-- numbers that stand right after
right_of_lem : (m : Reading ℕ) (n : ℕ) → right_of m ≡ Ok (numbers.RightAfter n) → (m ≡ Ok n) × (ltb 0 n ≡ true)
right_of_lem m n e =
    let w = then_ok m (λ r. Ok (choose (ltb 0 r) (numbers.RightAfter r) numbers.NotPresent)) (numbers.RightAfter n) e in
    go w.0 (ltb 0 w.0) refl w.1 w.2
  where
    go : (r : ℕ) (t : Bool) → ltb 0 r ≡ t → m ≡ Ok r
        → ◌≡◌ {A = Reading RuleNumbersPlacement} (Ok (choose t (numbers.RightAfter r) numbers.NotPresent)) (Ok (numbers.RightAfter n)) → (m ≡ Ok n) × (ltb 0 n ≡ true)
    go r true q a b = (cc, cc)
    go r false q a b = no cc

numbered_right : (text : ℕ → List ℕ) (P : Plane) (n : ℕ) → rule_numbers_of text P ≡ Ok (numbers.RightAfter n) → (numbers_right text P ≡ Ok n) × (ltb 0 n ≡ true)
unfolding rule_numbers_of
numbered_right text P n e =
    let w = then_ok (numbers_left text P) (λ l. choose (ltb 0 l) (Ok (numbers.LeftBelow l)) (right_of (numbers_right text P))) (numbers.RightAfter n) e in
    go w.0 (ltb 0 w.0) w.2
  where
    go : (l : ℕ) (t : Bool) → choose t (Ok (numbers.LeftBelow l)) (right_of (numbers_right text P)) ≡ Ok (numbers.RightAfter n) → (numbers_right text P ≡ Ok n) × (ltb 0 n ≡ true)
    go l true q = no cc
    go l false q = right_of_lem (numbers_right text P) n q

-- numbers in a row are numbers in column 0 of the turned plane
module _ (text : ℕ → List ℕ) where
  counted-turned : (n : ℕ) (l : List Cell) → counted text n (map (λ c. Some (turned_cell c)) l) ≡ counted text n (map Some l)
  unfolding counted
  counted-turned n [] = refl
  counted-turned n (c ∷ l) =
      let a = (turned-to c).region in
      let b = counted-turned (n + 1) l in
      rw (a, b)

  counted-from : (p n : ℕ) (l : List Cell) → counted text n (drop p (map (λ c. Some (turned_cell c)) l)) ≡ counted text n (drop p (map Some l))
  counted-from zero n l = counted-turned n l
  counted-from (suc p) n [] = refl
  counted-from (suc p) n (c ∷ l) = counted-from p n l

place-turned : (i : ℕ) (l : List Cell) → place_behind HorizontalOutputDoubleLine i (map (λ c. Some (turned_cell c)) l) ≡ place_behind VerticalOutputDoubleLine i (map Some l)
unfolding place_behind
place-turned i [] = refl
place-turned i (c ∷ l) =
    let a = (turned-to c).line in
    let b = place-turned (i + 1) l in
    rw (a, b)

behind-turned : (text : ℕ → List ℕ) (l : List Cell) → counted_behind text HorizontalOutputDoubleLine (map (λ c. Some (turned_cell c)) l) ≡ counted_behind text VerticalOutputDoubleLine (map Some l)
behind-turned text l = go (place_behind HorizontalOutputDoubleLine 0 (map (λ c. Some (turned_cell c)) l)) (place-turned 0 l)
  where
    go : (m : Reading ℕ) → m ≡ place_behind VerticalOutputDoubleLine 0 (map Some l)
        → ◌>>=◌ m (λ p. counted text 0 (drop p (map (λ c. Some (turned_cell c)) l))) ≡ counted_behind text VerticalOutputDoubleLine (map Some l)
    go (Ok p) e = rw (← e) (counted-from text p 0 l)
    go (Err r) e = rw (← e)

module _ (L : List Cell) (B : Plane) where
  first-turned : map first (turned (L ∷ B)) ≡ map (λ c. Some (turned_cell c)) L
  unfolding transpose width column
  first-turned =
      map-run first (column turned_cell MainDoubleCrossing (L ∷ B)) 0 (length L)
      ∙ sym (map-run (λ c. Some (turned_cell c)) (λ j. get_or L j MainDoubleCrossing) 0 (length L))
      ∙ ap (map (λ c. Some (turned_cell c))) (build-get_or L MainDoubleCrossing)

  rest-turned : width B ≡ length L → map (drop 1) (turned (L ∷ B)) ≡ turned B
  unfolding transpose width column
  rest-turned e =
      map-run (drop 1) (column turned_cell MainDoubleCrossing (L ∷ B)) 0 (length L)
      ∙ ap (λ (w : ℕ). build w (column turned_cell MainDoubleCrossing B)) (sym e)

corner-turned : (text : ℕ → List ℕ) (L : List Cell) (B : Plane) (h : HitPolicy) → corner_policy text (Some L) ≡ Ok (Some h) → placement_of text (turned (L ∷ B)) ≡ Ok (TopLeft h)
unfolding placement_of transpose width column run
corner-turned text [] B h e = refused-ok e
corner-turned text (c ∷ L) B h e =
    let a : region_of (turned_cell c) ≡ region_of c = (turned-to c).region in
    let b : policy_in text c ≡ Some h = cc in
    let d : policy_in text (turned_cell c) ≡ Some h = rw a b in
    rw d

numbers-turned : (text : ℕ → List ℕ) (L : List Cell) (B : Plane) (n : ℕ) → counted_behind text VerticalOutputDoubleLine (map Some L) ≡ Ok n → ltb 0 n ≡ true
    → rule_numbers_of text (turned (L ∷ B)) ≡ Ok (numbers.LeftBelow n)
unfolding rule_numbers_of
numbers-turned text L B n e p =
    let a : numbers_left text (turned (L ∷ B)) ≡ Ok n = ap (counted_behind text HorizontalOutputDoubleLine) (first-turned L B) ∙ behind-turned text L ∙ e in
    rw (a, p)

-- no crossing across before, none down after
or_false : (a b : Bool) → (a || b) ≡ false → (a ≡ false) × (b ≡ false)
or_false true b e = no cc
or_false false b e = (refl, e)

none-at : (l : List Cell) (j : ℕ) → holds_in HorizontalDoubleCrossing l ≡ false → same_kind HorizontalDoubleCrossing (get_or l j MainDoubleCrossing) ≡ false
unfolding holds_in
none-at [] j e = refl
none-at (c ∷ l) zero e = (or_false (same_kind HorizontalDoubleCrossing c) (holds_in HorizontalDoubleCrossing l) e).0
none-at (c ∷ l) (suc j) e = none-at l j (or_false (same_kind HorizontalDoubleCrossing c) (holds_in HorizontalDoubleCrossing l) e).1

none-column : (P : Plane) (j : ℕ) → holds HorizontalDoubleCrossing P ≡ false → holds_in VerticalDoubleCrossing (column turned_cell MainDoubleCrossing P j) ≡ false
unfolding holds holds_in column
none-column [] j e = refl
none-column (r ∷ P) j e =
    let s = or_false (holds_in HorizontalDoubleCrossing r) (holds HorizontalDoubleCrossing P) e in
    let a : same_kind VerticalDoubleCrossing (turned_cell (get_or r j MainDoubleCrossing)) ≡ false = (turned-to (get_or r j MainDoubleCrossing)).crossing ∙ none-at r j s.0 in
    let b = none-column P j s.1 in
    rw (a, b)

none-run : (f : ℕ → List Cell) (k n : ℕ) → ((j : ℕ) → holds_in VerticalDoubleCrossing (f j) ≡ false) → holds VerticalDoubleCrossing (run f k n) ≡ false
unfolding run holds
none-run f k zero h = refl
none-run f k (suc n) h =
    let a = h k in
    let b = none-run f (suc k) n h in
    rw (a, b)

none-turned : (P : Plane) → holds HorizontalDoubleCrossing P ≡ false → holds VerticalDoubleCrossing (turned P) ≡ false
unfolding transpose
none-turned P e = none-run (column turned_cell MainDoubleCrossing P) 0 (width P) (λ j. none-column P j e)

none-last_first : (P : Plane) (L : List Cell) → last P ≡ Some L → holds HorizontalDoubleCrossing P ≡ false → holds HorizontalDoubleCrossing (L ∷ but_last P) ≡ false
unfolding last but_last holds
none-last_first [] L q e = no cc
none-last_first (r ∷ []) L q e =
    let z : r ≡ L = cc in
    rw z at e
none-last_first (r ∷ t ∷ P) L q e =
    let s = or_false (holds_in HorizontalDoubleCrossing r) (holds HorizontalDoubleCrossing (t ∷ P)) e in
    let w = none-last_first (t ∷ P) L q s.1 in
    let v = or_false (holds_in HorizontalDoubleCrossing L) (holds HorizontalDoubleCrossing (but_last (t ∷ P))) w in
    rw (v.0, s.0, v.1)

-- an even plane
last-length : (w : ℕ) (P : Plane) (L : List Cell) → Rows w P → last P ≡ Some L → length L ≡ w
unfolding last Rows
last-length w [] L f q = no cc
last-length w (r ∷ []) L f q = let z : r ≡ L = cc in rw z at f.0
last-length w (r ∷ t ∷ P) L f q = last-length w (t ∷ P) L f.1 q

pub pivot_ok : (P : Plane) (U : Plane) → pivot_of P ≡ Ok U → (U ≡ turned P) × (0 < length P)
unfolding pivot_of
pivot_ok P U e = go (ltb 0 (length P)) (wide (width P) P) refl e
  where
    go : (a b : Bool) → ltb 0 (length P) ≡ a → choose (a && b) (Ok (turned P)) (Err PlaneMalformed) ≡ Ok U → (U ≡ turned P) × (0 < length P)
    go true true q k = (cc, ltb-true 0 (length P) q)
    go true false q k = refused-ok k
    go false b q k = refused-ok k

but_width : (w : ℕ) (P : Plane) → Rows w P → 0 < length (but_last P) → width (but_last P) ≡ w
unfolding but_last Rows width
but_width w [] f h = absurd (omega arith)
but_width w (r ∷ []) f h = absurd (omega arith)
but_width w (r ∷ t ∷ P) f h = f.0

-- the turned plane's orientation
rows_of : (across down : Bool) (h : HitPolicy) (n : ℕ) → down ≡ false
    → oriented_by across down (TopLeft h) (numbers.LeftBelow n) ≡ Ok (record { orientation = RulesAsRows; policy = h; rules = n })
rows_of true down h n e = refl
rows_of false down h n e = rw e

-- a sheet that is laid out in rows
abbrev pub in_rows : Sheet → Sheet
in_rows s = record { orientation = RulesAsRows; policy = s.policy; rules = s.rules; plane = s.plane }

turned_rows : (text : ℕ → List ℕ) (L : List Cell) (B : Plane) (h : HitPolicy) (n : ℕ) → corner_policy text (Some L) ≡ Ok (Some h)
    → counted_behind text VerticalOutputDoubleLine (map Some L) ≡ Ok n → ltb 0 n ≡ true → holds HorizontalDoubleCrossing (L ∷ B) ≡ false → width B ≡ length L
    → stated_sheet text (turned (L ∷ B)) ≡ Ok (record { orientation = RulesAsRows; policy = h; rules = n; plane = turned B })
unfolding stated_sheet oriented_of upright_of
turned_rows text L B h n c e p x w =
    let a = corner-turned text L B h c in
    let b = numbers-turned text L B n e p in
    let k = rows_of (holds HorizontalDoubleCrossing (turned (L ∷ B))) (holds VerticalDoubleCrossing (turned (L ∷ B))) h n (none-turned (L ∷ B) x) in
    rw (a, b, k) (ap (λ (U : Plane). Ok (record { orientation = RulesAsRows; policy = h; rules = n; plane = U })) (rest-turned L B w))

-- what an accepted column sheet came from
pub record ColumnSheet (text : ℕ → List ℕ) (P : Plane) (s : Sheet) : Type 0 where
  pub corner : corner_policy text (last P) ≡ Ok (Some s.policy)
  pub count : numbers_right text P ≡ Ok s.rules
  pub some-rules : ltb 0 s.rules ≡ true
  pub none-across : holds HorizontalDoubleCrossing P ≡ false
  pub pivoted : pivot_of (but_last P) ≡ Ok s.plane

upright-columns : (o : Orientation) (P U : Plane) → o ≡ RulesAsColumns → upright_of o P ≡ Ok U → pivot_of (but_last P) ≡ Ok U
unfolding upright_of
upright-columns o P U q e = rw q at e

oriented_parts : (text : ℕ → List ℕ) (P : Plane) (o : Oriented) → o.orientation ≡ RulesAsColumns → oriented_of text P ≡ Ok o
    → (corner_policy text (last P) ≡ Ok (Some o.policy)) × (numbers_right text P ≡ Ok o.rules) × (ltb 0 o.rules ≡ true) × (holds HorizontalDoubleCrossing P ≡ false)
unfolding oriented_of
oriented_parts text P o q e =
    let w = then_ok (placement_of text P) (λ p. ◌>>=◌ (rule_numbers_of text P) (λ n. oriented_by (holds HorizontalDoubleCrossing P) (holds VerticalDoubleCrossing P) p n)) o e in
    let v = then_ok (rule_numbers_of text P) (λ n. oriented_by (holds HorizontalDoubleCrossing P) (holds VerticalDoubleCrossing P) w.0 n) o w.2 in
    let c = oriented_columns (holds HorizontalDoubleCrossing P) (holds VerticalDoubleCrossing P) w.0 v.0 o q v.2 in
    let n = numbered_right text P o.rules (v.1 ∙ ap Ok c.count) in
    (placed-bottom text P o.policy (w.1 ∙ ap Ok c.policy), n.0, n.1, c.none-across)

column-sheet : (text : ℕ → List ℕ) (P : Plane) (s : Sheet) → stated_sheet text P ≡ Ok s → s.orientation ≡ RulesAsColumns → ColumnSheet text P s
unfolding stated_sheet
column-sheet text P s e q =
    let w = then_ok (oriented_of text P) (λ o. ◌>>=◌ (upright_of o.orientation P) (λ u. Ok (record { orientation = o.orientation; policy = o.policy; rules = o.rules; plane = u }))) s e in
    let v = then_ok (upright_of w.0.orientation P) (λ u. Ok (record { orientation = w.0.orientation; policy = w.0.policy; rules = w.0.rules; plane = u })) s w.2 in
    let a : w.0.orientation ≡ RulesAsColumns = cc in
    let h : w.0.policy ≡ s.policy = cc in
    let n : w.0.rules ≡ s.rules = cc in
    let u : v.0 ≡ s.plane = cc in
    let o = oriented_parts text P w.0 a w.1 in
    record {
      corner = o.0 ∙ ap (λ (g : HitPolicy). Ok (Some g)) h;
      count = o.1 ∙ ap Ok n;
      some-rules = subst (λ (k : ℕ). ltb 0 k ≡ true) n o.2;
      none-across = o.3;
      pivoted = upright-columns w.0.orientation P v.0 a v.1 ∙ ap Ok u;
    }

pub turned_column_sheet : (text : ℕ → List ℕ) (P : Plane) (s : Sheet) → Even P → stated_sheet text P ≡ Ok s → s.orientation ≡ RulesAsColumns
    → stated_sheet text (turned (last_first P)) ≡ Ok (in_rows s)
turned_column_sheet text P s even e q = go (last P) refl (column-sheet text P s e q)
  where
    go : (r : Option (List Cell)) → last P ≡ r → ColumnSheet text P s → stated_sheet text (turned (on_some r (λ L. L ∷ but_last P) [])) ≡ Ok (in_rows s)
    go None k c = let z : corner_policy text None ≡ Ok (Some s.policy) = subst (λ (r : Option (List Cell)). corner_policy text r ≡ Ok (Some s.policy)) k c.corner in refused-ok z
    go (Some L) k c =
        let f = subst (λ (r : Option (List Cell)). corner_policy text r ≡ Ok (Some s.policy)) k c.corner in
        let n = subst (λ (r : Option (List Cell)). counted_behind text VerticalOutputDoubleLine (on_some r (map Some) []) ≡ Ok s.rules) k c.count in
        let u = pivot_ok (but_last P) s.plane c.pivoted in
        let w = but_width (width P) P even u.1 ∙ sym (last-length (width P) P L even k) in
        turned_rows text L (but_last P) s.policy s.rules f n c.some-rules (none-last_first P L k c.none-across) w
        ∙ ap (λ (U : Plane). Ok (record { orientation = RulesAsRows; policy = s.policy; rules = s.rules; plane = U })) (sym u.0)
