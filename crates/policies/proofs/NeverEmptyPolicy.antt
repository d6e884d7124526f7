-- Where a plane's hit policy can be placed, its policy is never refused by number 8.
use Rattle.std.specs.Prelude.{Ok, Option, None, Some}
use mathlib.Core.Path.{◌≡◌, refl}
use mathlib.Core.Bool.{Bool, true, false, not, ◌&&◌}
use mathlib.Core.List.{List, [], ◌∷◌, map}
use Prim.Native.Nat.{ℕ, zero, suc, ◌+◌, ◌-◌}
use lib.Dec.{eqb, ltb}
use lib.ListN.{length, drop}
use Rattle.lists.specs.Answer.{◌>>◌}
use Rattle.lists.specs.Choose.{choose, on_some}
use Rattle.lists.specs.OneOf.{one_of}
use Rattle.lists.specs.Transpose.{width}
use Rattle.model.specs.Cells.{region_of, same_kind}
use Rattle.model.specs.Refusals.{Reading, numbers}
use Rattle.model.specs.declared.Cell.{Cell}
use Rattle.model.specs.declared.Cell.TheVariants.{VerticalOutputDoubleLine, HorizontalOutputDoubleLine, MainDoubleCrossing, HorizontalDoubleCrossing, VerticalDoubleCrossing}
use Rattle.model.specs.declared.HitPolicy.{HitPolicy}
use Rattle.model.specs.declared.HitPolicyPlacement.{HitPolicyPlacement}
use Rattle.model.specs.declared.HitPolicyPlacement.TheVariants.{TopLeft, BottomLeft, NotPresent}
use Rattle.model.specs.declared.Orientation.{Orientation}
use Rattle.model.specs.declared.Orientation.TheVariants.{RulesAsRows, RulesAsColumns}
use Rattle.model.specs.declared.Refusal.{Refusal}
use Rattle.model.specs.declared.Refusal.TheVariants.{PlaneMalformed, InvalidInputExpressions, InvalidOutputExpressions, InvalidSize}
use Rattle.model.specs.declared.RuleNumbersPlacement.{RuleNumbersPlacement}
use Rattle.model.specs.declared.RuleNumbersPlacement.TheVariants as place
use Rattle.cells.specs.Plane.{Plane}
use Rattle.record.specs.Policy.{Text}
use Rattle.plane.specs.placement.Orientation.{as_rows, as_columns, as_cross_tab, oriented_by, oriented_of, holds}
use Rattle.plane.specs.rule_numbers.Numbering.{first, last, place_behind, number_in, counted, counted_behind, numbers_left, numbers_right, right_of, rule_numbers_of}
use Rattle.plane.specs.placement.Placement.{placement_of}
use Rattle.cells.specs.turning.Upright.{but_last, wide, pivot_of, upright_of}
use Rattle.plane.specs.Sheet.{stated_sheet}
use Rattle.clauses.specs.cell_tests.Readings.{refuse}
use Rattle.clauses.specs.cell_tests.SheetCells.{width_of, cell_in, region_at, column_is, columns_are}
use Rattle.clauses.specs.allowed.Allowed.{allowed_two, allowed_three, allowed_of}
use Rattle.clauses.specs.allowed.Apart.{Met, twice, once, meet_row, on_met, apart_from, all_apart}
use Rattle.clauses.specs.Clauses.{Found, main_of, outputs_end, text_at, optional_at, entries_of, one_output, many_outputs, outputs_of, notes_of, found_from, found_of}
use Rattle.clauses.specs.Readings.{along}
use Rattle.cells.specs.declared.place.Place.{Place}
use Rattle.cells.specs.Places.{place_of}
use Rattle.clauses.specs.Sizes.{differ, uneven, sized}
use Rattle.clauses.specs.Stated.{clauses_of}
use Rattle.recognizer.specs.StatedPolicy.{sheet_policy, stated_policy}
use Rattle.policies.proofs.NeverLaws.{Never, never_then, never_if, never_some, never_check, never_along, never_every}

-- rule numbers
never_behind : (k : Cell) (i : ℕ) (line : List (Option Cell)) → Never 8 (place_behind k i line)
unfolding place_behind
never_behind k i [] = refl
never_behind k i (None ∷ line) = refl
never_behind k i (Some c ∷ line) = never_if 8 (same_kind k c) _ (place_behind k (i + 1) line) tt (never_behind k (i + 1) line)

never_right : (m : Reading ℕ) → Never 8 m → Never 8 (right_of m)
never_right m p = never_then 8 m _ p (λ _ _. tt)

module _ (text : ℕ → List ℕ) where
  never_counted : (n : ℕ) (line : List (Option Cell)) → Never 8 (counted text n line)
  unfolding counted
  never_counted n [] = tt
  never_counted n (None ∷ line) = refl
  never_counted n (Some c ∷ line) =
      let more = never_counted (n + 1) line in
      never_some 8 (number_in text c) _ _ (λ m. never_if 8 (eqb m (n + 1)) (counted text (n + 1) line) _ more refl) tt

  never_counted_behind : (k : Cell) (line : List (Option Cell)) → Never 8 (counted_behind text k line)
  never_counted_behind k line = never_then 8 (place_behind k 0 line) _ (never_behind k 0 line) (λ p _. never_counted 0 (drop p line))

  never_rule_numbers : (P : Plane) → Never 8 (rule_numbers_of text P)
  unfolding rule_numbers_of
  never_rule_numbers P =
      never_then 8 (numbers_left text P) _ (never_counted_behind HorizontalOutputDoubleLine (map first P)) (λ l _.
      never_if 8 (ltb 0 l) _ (right_of (numbers_right text P)) tt
      (never_right (numbers_right text P) (never_counted_behind VerticalOutputDoubleLine (on_some (last P) (map Some) []))))

-- orientation
never_rows : (h : HitPolicy) (n : RuleNumbersPlacement) → Never 8 (as_rows h n)
never_rows h (place.LeftBelow n) = tt
never_rows h (place.RightAfter n) = refl
never_rows h place.NotPresent = refl

never_columns : (h : HitPolicy) (n : RuleNumbersPlacement) → Never 8 (as_columns h n)
never_columns h (place.LeftBelow n) = refl
never_columns h (place.RightAfter n) = tt
never_columns h place.NotPresent = refl

never_cross_tab : (n : RuleNumbersPlacement) → Never 8 (as_cross_tab n)
never_cross_tab (place.LeftBelow n) = refl
never_cross_tab (place.RightAfter n) = refl
never_cross_tab place.NotPresent = refl

never_oriented_by : (a b : Bool) (p : HitPolicyPlacement) (n : RuleNumbersPlacement) → Never 8 (oriented_by a b p n)
never_oriented_by true b (TopLeft h) n = never_rows h n
never_oriented_by true b (BottomLeft h) n = refl
never_oriented_by true b NotPresent n = refl
never_oriented_by false true (TopLeft h) n = refl
never_oriented_by false true (BottomLeft h) n = never_columns h n
never_oriented_by false true NotPresent n = refl
never_oriented_by false false (TopLeft h) n = never_rows h n
never_oriented_by false false (BottomLeft h) n = never_columns h n
never_oriented_by false false NotPresent n = never_cross_tab n

never_pivot : (P : Plane) → Never 8 (pivot_of P)
unfolding pivot_of
never_pivot P = never_if 8 (ltb 0 (length P) && wide (width P) P) _ _ tt refl

never_upright : (o : Orientation) (P : Plane) → Never 8 (upright_of o P)
unfolding upright_of
never_upright RulesAsRows P = tt
never_upright RulesAsColumns P = never_pivot (but_last P)

-- the upright sheet of a plane
module _ (text : ℕ → List ℕ) (P : Plane) (p : Never 8 (placement_of text P)) where
  never_oriented : Never 8 (oriented_of text P)
  unfolding oriented_of
  never_oriented =
      never_then 8 (placement_of text P) _ p (λ q _.
      never_then 8 (rule_numbers_of text P) _ (never_rule_numbers text P) (λ n _.
      never_oriented_by (holds HorizontalDoubleCrossing P) (holds VerticalDoubleCrossing P) q n))

  never_stated_sheet : Never 8 (stated_sheet text P)
  unfolding stated_sheet
  never_stated_sheet =
      never_then 8 (oriented_of text P) _ never_oriented (λ o _.
      never_then 8 (upright_of o.orientation P) _ (never_upright o.orientation P) (λ _ _. tt))

-- cells of an upright sheet
module _ (P : Plane) where
  never_region_at : (y x : ℕ) → Never 8 (region_at P y x)
  unfolding region_at
  never_region_at y x = never_if 8 (ltb x (width_of P y)) _ _ (never_some 8 (region_of (cell_in P y x)) Ok _ (λ _. tt) refl) refl

  never_column : (joined : Bool) (top x : ℕ) → Never 8 (column_is joined P top x)
  unfolding column_is
  never_column joined top x =
      never_then 8 (region_at P top x) _ (never_region_at top x) (λ _ _.
      never_then 8 (region_at P (top + 1) x) _ (never_region_at (top + 1) x) (λ _ _. tt))

  never_met : (y x n : ℕ) (s : List ℕ) → Never 8 (meet_row P y x n s)
  unfolding meet_row
  never_met y x zero s = tt
  never_met y x (suc n) s =
      never_then 8 (region_at P y x) _ (never_region_at y x) (λ a _.
      never_if 8 (one_of a s) _ (meet_row P y (suc x) n (a ∷ s)) tt (never_met y (suc x) n (a ∷ s)))

  never_on_met : (m : Met) (k : List ℕ → Reading Bool) → ((s : List ℕ) → Never 8 (k s)) → Never 8 (on_met m k)
  never_on_met twice k q = tt
  never_on_met (once s) k q = q s

  never_apart : (y rows x n : ℕ) (s : List ℕ) → Never 8 (apart_from P y rows x n s)
  unfolding apart_from
  never_apart y zero x n s = tt
  never_apart y (suc rows) x n s =
      never_then 8 (meet_row P y x n s) _ (never_met y x n s) (λ m _.
      never_on_met m (apart_from P (suc y) rows x n) (λ t. never_apart (suc y) rows x n t))

  -- allowed values
  never_two : (n m : ℕ) → Never 8 (allowed_two P n m)
  unfolding allowed_two
  never_two n m =
      never_then 8 (columns_are true P 0 0 n) _ (never_every 8 (column_is true P 0) (never_column true 0) 0 n) (λ _ _.
      never_then 8 (columns_are true P 0 (n + 1) m) _ (never_every 8 (column_is true P 0) (never_column true 0) (n + 1) m) (λ _ _.
      never_then 8 (all_apart P 2 (n + 1) m) _ (never_apart 0 2 (n + 1) m []) (λ _ _. tt)))

  never_three : (n m : ℕ) → Never 8 (allowed_three P n m)
  unfolding allowed_three
  never_three n m =
      never_then 8 (columns_are false P 1 0 n) _ (never_every 8 (column_is false P 1) (never_column false 1) 0 n) (λ a _.
      never_then 8 (refuse (not a) InvalidInputExpressions) _ (never_check 8 (not a) InvalidInputExpressions refl) (λ _ _.
      never_then 8 (columns_are false P 1 (n + 1) m) _ (never_every 8 (column_is false P 1) (never_column false 1) (n + 1) m) (λ b _.
      never_then 8 (refuse (not b) InvalidOutputExpressions) _ (never_check 8 (not b) InvalidOutputExpressions refl) (λ _ _. tt))))

  never_allowed : (n m h : ℕ) → Never 8 (allowed_of P n m h)
  unfolding allowed_of
  never_allowed n m h =
      never_if 8 (eqb h 1) _ _ tt (never_if 8 (eqb h 2) (allowed_two P n m) _ (never_two n m) (never_if 8 (eqb h 3) (allowed_three P n m) _ (never_three n m) refl))

never_main : (p : Option Place) → Never 8 (main_of p)
never_main None = refl
never_main (Some p) = tt

-- the clause rules
module _ (text : ℕ → List ℕ) (P : Plane) where
  never_text : (y x : ℕ) → Never 8 (text_at text P y x)
  unfolding text_at
  never_text y x = never_then 8 (region_at P y x) _ (never_region_at P y x) (λ _ _. tt)

  never_optional : (y x : ℕ) → Never 8 (optional_at text P y x)
  unfolding optional_at
  never_optional y x = never_then 8 (region_at P y x) _ (never_region_at P y x) (λ _ _. tt)

  never_texts : (y x n : ℕ) → Never 8 (along (text_at text P y) x n)
  never_texts y x n = never_along 8 (text_at text P y) (never_text y) x n

  never_optionals : (y x n : ℕ) → Never 8 (along (optional_at text P y) x n)
  never_optionals y x n = never_along 8 (optional_at text P y) (never_optional y) x n

  never_entries : (y x n : ℕ) → Never 8 (entries_of text P y x n)
  unfolding entries_of
  never_entries y x n = never_along 8 (λ y. along (text_at text P y) x n) (λ y. never_texts y x n) y (length P - y)

  never_one_output : (x h : ℕ) → Never 8 (one_output text P x h)
  unfolding one_output
  never_one_output x h =
      never_if 8 (eqb h 1) _ _ (never_then 8 (optional_at text P 0 x) _ (never_optional 0 x) (λ _ _. tt))
      (never_if 8 (eqb h 2) _ _
      (never_then 8 (region_at P 0 x) _ (never_region_at P 0 x) (λ a _.
      never_then 8 (region_at P 1 x) _ (never_region_at P 1 x) (λ b _.
      never_then 8 (choose (eqb a b) (Ok None) (optional_at text P 0 x)) _ (never_if 8 (eqb a b) _ (optional_at text P 0 x) tt (never_optional 0 x)) (λ _ _.
      never_then 8 (optional_at text P 1 x) _ (never_optional 1 x) (λ _ _. tt)))))
      refl)

  never_many_outputs : (x m h : ℕ) (allowed : Bool) → Never 8 (many_outputs text P x m h allowed)
  unfolding many_outputs
  never_many_outputs x m h allowed =
      never_if 8 (eqb h 1) _ _ (never_then 8 (along (optional_at text P 0) x m) _ (never_optionals 0 x m) (λ _ _. tt))
      (never_if 8 (eqb h 2) _ _
      (never_if 8 allowed _ _
      (never_then 8 (along (optional_at text P 0) x m) _ (never_optionals 0 x m) (λ _ _.
      never_then 8 (along (optional_at text P 1) x m) _ (never_optionals 1 x m) (λ _ _. tt)))
      (never_then 8 (optional_at text P 0 x) _ (never_optional 0 x) (λ _ _.
      never_then 8 (along (optional_at text P 1) x m) _ (never_optionals 1 x m) (λ _ _. tt))))
      (never_then 8 (optional_at text P 0 x) _ (never_optional 0 x) (λ _ _.
      never_then 8 (along (optional_at text P 1) x m) _ (never_optionals 1 x m) (λ _ _.
      never_then 8 (along (optional_at text P 2) x m) _ (never_optionals 2 x m) (λ _ _. tt)))))

  never_outputs : (x m h : ℕ) (allowed : Bool) → Never 8 (outputs_of text P x m h allowed)
  unfolding outputs_of
  never_outputs x m h allowed =
      never_if 8 (eqb m 0) _ _ refl (never_if 8 (eqb m 1) (one_output text P x h) (many_outputs text P x m h allowed) (never_one_output x h) (never_many_outputs x m h allowed))

  never_notes : (q : Option Place) → Never 8 (notes_of text P q)
  unfolding notes_of
  never_notes None = tt
  never_notes (Some q) =
      let x = q.col + 1 in
      let n = width_of P 0 - x in
      never_then 8 (refuse (not (ltb q.col (width_of P 0))) PlaneMalformed) _ (never_check 8 (not (ltb q.col (width_of P 0))) PlaneMalformed refl) (λ _ _.
      never_then 8 (along (text_at text P 0) x n) _ (never_texts 0 x n) (λ _ _.
      never_then 8 (entries_of text P (q.row + 1) x n) _ (never_entries (q.row + 1) x n) (λ _ _. tt)))

  never_found : (main notes : Option Place) → Never 8 (found_from text P main notes)
  unfolding found_from
  never_found main notes =
      never_then 8 (main_of main) _ (never_main main) (λ p _.
      let n = p.col in
      let h = p.row in
      let e = outputs_end P notes in
      let m = e - (n + 1) in
      never_then 8 (refuse (not (ltb n e)) PlaneMalformed) _ (never_check 8 (not (ltb n e)) PlaneMalformed refl) (λ _ _.
      never_then 8 (allowed_of P n m h) _ (never_allowed P n m h) (λ allowed _.
      never_then 8 (along (text_at text P 0) 0 n) _ (never_texts 0 0 n) (λ _ _.
      never_then 8 (choose allowed (along (optional_at text P (h - 1)) 0 n) (Ok [])) _ (never_if 8 allowed (along (optional_at text P (h - 1)) 0 n) _ (never_optionals (h - 1) 0 n) tt) (λ _ _.
      never_then 8 (entries_of text P (h + 1) 0 n) _ (never_entries (h + 1) 0 n) (λ _ _.
      never_then 8 (outputs_of text P (n + 1) m h allowed) _ (never_outputs (n + 1) m h allowed) (λ _ _.
      never_then 8 (entries_of text P (h + 1) (n + 1) m) _ (never_entries (h + 1) (n + 1) m) (λ _ _.
      never_then 8 (notes_of text P notes) _ (never_notes notes) (λ _ _. tt)))))))))

-- the sizes
check : (t : Bool) (r : Refusal) (m : Reading (Unit {0})) → eqb (numbers r).n 8 ≡ false → Never 8 m → Never 8 (◌>>◌ (refuse t r) m)
check t r m p q = never_then 8 (refuse t r) _ (never_check 8 t r p) (λ _ _. q)

never_sized : (rules : ℕ) (f : Found) → Never 8 (sized rules f)
unfolding sized
never_sized rules f =
    check (differ (length f.expressions) f.inputs) (InvalidSize 1) _ refl
    (check (ltb 0 (length f.input_values) && differ (length f.input_values) f.inputs) (InvalidSize 2) _ refl
    (check (eqb f.outputs 0) (InvalidSize 3) _ refl
    (check (ltb 1 f.outputs && differ (length f.components) f.outputs) (InvalidSize 4) _ refl
    (check (not (ltb 1 f.outputs) && differ (length f.components) 0) (InvalidSize 5) _ refl
    (check (ltb 0 (length f.output_values) && differ (length f.output_values) f.outputs) (InvalidSize 6) _ refl
    (check (eqb rules 0) (InvalidSize 7) _ refl
    (check (differ (length f.input_entries) rules) (InvalidSize 8) _ refl
    (check (uneven f.inputs f.input_entries) (InvalidSize 9) _ refl
    (check (differ (length f.output_entries) rules) (InvalidSize 10) _ refl
    (check (uneven f.outputs f.output_entries) (InvalidSize 11) _ refl
    (check (ltb 0 (length f.annotations) && differ (length f.annotation_entries) rules) (InvalidSize 12) _ refl
    (never_check 8 (ltb 0 (length f.annotations) && uneven (length f.annotations) f.annotation_entries) (InvalidSize 13) refl))))))))))))

never_clauses : (text : ℕ → List ℕ) (P : Plane) (rules : ℕ) → Never 8 (clauses_of text P rules)
unfolding clauses_of
never_clauses text P rules =
    never_then 8 (found_of text P) _ (never_found text P (place_of MainDoubleCrossing P) (place_of HorizontalDoubleCrossing P)) (λ f _.
    never_then 8 (sized rules f) _ (never_sized rules f) (λ _ _. tt))

pub never_stated : (name : Text) (text : ℕ → List ℕ) (P : Plane) → Never 8 (placement_of text P) → Never 8 (stated_policy name text P)
unfolding stated_policy sheet_policy
never_stated name text P p =
    never_then 8 (stated_sheet text P) _ (never_stated_sheet text P p) (λ s _.
    never_then 8 (clauses_of text s.plane s.rules) _ (never_clauses text s.plane s.rules) (λ _ _. tt))
