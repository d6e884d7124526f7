-- What a plane within the limits states can be recorded, if its texts are short: the law `plane_bounded`.
use Rattle.std.specs.Prelude.{Ok}
use mathlib.Core.Path.{◌≡◌, refl, sym, subst, ◌∙◌}
use mathlib.Core.List.{List, [], ◌∷◌}
use Prim.Native.Nat.{ℕ, ◌≤◌, ◌<◌}
use native.Mathlib.Omega.{arith}
use lib.ListN.{length}
use Rattle.lists.specs.Transpose.{width}
use Rattle.lists.proofs.AllLaws.{All, all-at}
use Rattle.lists.proofs.AnswerLaws.{then_ok}
use Rattle.model.specs.Limits.{plane_rows, text_bytes}
use Rattle.cells.specs.Plane.{Plane}
use Rattle.record.specs.Policy.{Text, Policy}
use Rattle.record.specs.Record.{slots_in, slot_texts, table_of}
use Rattle.record.specs.Slots.{slot_limit}
use Rattle.record.proofs.PolicyTexts.{texts-counted}
use Rattle.record.proofs.TotalFits.{total-fits}
use Rattle.plane.specs.placement.Orientation.{oriented_of}
use Rattle.cells.specs.turning.Upright.{upright_of}
use Rattle.plane.specs.Sheet.{Sheet, stated_sheet}
use Rattle.plane.proofs.SomeRules.{some-rules}
use Rattle.clauses.specs.cell_tests.SheetCells.{width_of}
use Rattle.clauses.specs.Shape.{checked_shape}
use Rattle.clauses.specs.declared.Shape.{Shape}
use Rattle.clauses.proofs.ShapeColumns.{shape_columns}
use Rattle.clauses.proofs.SpelledStated.{checked_matches, counted_stated}
use Rattle.recognizer.proofs.slots.ShapeRoom.{few-slots}
use Rattle.recognizer.specs.StatedPolicy.{sheet_policy, stated_policy}
use Rattle.recognizer.proofs.Recognizing.{with, with_texts_lem, by_shape, stated, complete, texts-spelled}
use Rattle.policies.specs.Recordable.{Recordable}
use Rattle.policies.proofs.SpelledShort.{Short, spelled-short}
use Rattle.policies.proofs.UprightWithin.{Within, upright-within}

-- recordable, in at most 4,160 slots
pub record Bounded (p : Policy) : Type 0 where
  pub recordable : Recordable p
  pub few : slots_in (table_of p) ≤ slot_limit

first-row : (P : Plane) → width P ≡ width_of P 0
unfolding width
first-row [] = refl
first-row (r ∷ P) = refl

-- an upright sheet within the limits
module _ (name : Text) (text : ℕ → List ℕ) (named : Short text_bytes name) (short : (k : ℕ) → length (text k) ≤ text_bytes) where
  module _ (s : Sheet) (some : 0 < s.rules) (w : Within s.plane) where
    few-rules : (f : Shape) → checked_shape s.plane s.rules ≡ Ok f → s.rules < plane_rows
    few-rules f e = omega (arith, w.rows, (checked_matches s.plane s.rules f e).entries)

    module _ (f : Shape) (e : Ok f ≡ checked_shape s.plane s.rules) where
      abbrev policy : Policy
      policy = with name s (stated text s some f e)

      few : slots_in (table_of policy) ≤ slot_limit
      few =
          let c = counted_stated text s.plane s.rules f in
          rw (c.0, c.1, c.2, c.3)
          (few-slots f.inputs f.outputs f.notes.count s.rules
          (omega (arith, shape_columns s.plane s.rules f (sym e), w.cells, first-row s.plane)) (few-rules f (sym e)))

      all_short : All (Short text_bytes) (slot_texts policy)
      unfolding All
      all_short = rw (with_texts_lem name s (stated text s some f e), texts-spelled text s some f e) (named, spelled-short text_bytes text short s.plane f s.rules)

      shaped_recordable : Recordable policy
      shaped_recordable =
          record {
            complete = complete text s some f e name;
            total =
                total-fits (table_of policy) few (texts-counted policy (complete text s some f e name))
                (λ i h. all-at (Short text_bytes) (slot_texts policy) all_short i _ h);
            rules = omega (arith, (counted_stated text s.plane s.rules f).3, few-rules f (sym e));
          }

    sheet_bounded : (p : Policy) → sheet_policy name text s ≡ Ok p → Bounded p
    sheet_bounded p e =
        let a = then_ok (checked_shape s.plane s.rules) _ p (sym (by_shape text s some name) ∙ e) in
        let z : policy a.0 (sym a.1) ≡ p = let g = a.2 in cc in
        subst Bounded z (record { recordable = shaped_recordable a.0 (sym a.1); few = few a.0 (sym a.1) })

  sheet-within : (P : Plane) (s : Sheet) → stated_sheet text P ≡ Ok s → Within P → Within s.plane
  unfolding stated_sheet
  sheet-within P s e w =
      let o = then_ok (oriented_of text P) _ s e in
      let u = then_ok (upright_of o.0.orientation P) _ s o.2 in
      let z : record { orientation = o.0.orientation; policy = o.0.policy; rules = o.0.rules; plane = u.0 } ≡ s = let g = u.2 in cc in
      rw (← z) (upright-within o.0.orientation P u.0 u.1 w)

  pub plane_bounded : (P : Plane) → Within P → (p : Policy) → stated_policy name text P ≡ Ok p → Bounded p
  unfolding stated_policy
  plane_bounded P w p e =
      let s = then_ok (stated_sheet text P) (sheet_policy name text) p e in
      sheet_bounded s.0 (some-rules text P s.0 s.1) (sheet-within P s.0 s.1 w) p s.2
