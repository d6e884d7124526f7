-- The ways of reading an upright sheet, and the slices that hold it.
use Rattle.std.specs.Prelude.{Ok, Err}
use mathlib.Core.Path.{◌≡◌, sym, subst}
use mathlib.Core.List.{List, map}
use Prim.Native.Nat.{ℕ, ◌<◌}
use lib.ListN.{drop}
use Rattle.lists.specs.Answer.{◌>>=◌}
use Rattle.lists.proofs.AnswerLaws.{then_ok}
use Rattle.model.specs.declared.Orientation.{Orientation}
use Rattle.model.specs.declared.Orientation.TheVariants.{RulesAsRows, RulesAsColumns}
use Rattle.model.specs.declared.Refusal.{Refusal}
use Rattle.cells.specs.Held.{Held}
use Rattle.cells.specs.Plane.{Plane, plane_in, PlaneFits}
use Rattle.plane.specs.placement.Orientation.{holds, oriented_by, oriented_of}
use Rattle.plane.specs.rule_numbers.Numbering.{rule_numbers_of}
use Rattle.plane.specs.placement.Placement.{placement_of}
use Rattle.plane.specs.declared.placement.Oriented.{Oriented}
use Rattle.plane.proofs.placement.CornerLaws.{placed-rows}
use Rattle.model.specs.declared.Cell.TheVariants.{HorizontalDoubleCrossing, VerticalDoubleCrossing}
use Rattle.cells.specs.turning.Upright.{but_last, upright_of}
use Rattle.plane.specs.Sheet.{stated_sheet}
use Rattle.plane.proofs.RegionsKept.{RegionsBelow, slice_below, below_slice, rest_below, turned_below, but_below}
use Rattle.plane.proofs.TurnedColumnSheet.{pivot_ok}

-- a plane that is oriented has a row
pub oriented_rows : (text : ℕ → List ℕ) (d : List ℕ) (n : ℕ) (o : Oriented) → Ok o ≡ oriented_of text (plane_in d n) → 0 < n
unfolding oriented_of
oriented_rows text d n o e =
    let w = then_ok (placement_of text (plane_in d n)) (λ p. ◌>>=◌ (rule_numbers_of text (plane_in d n)) (λ m. oriented_by (holds HorizontalDoubleCrossing (plane_in d n)) (holds VerticalDoubleCrossing (plane_in d n)) p m)) o (sym e) in
    placed-rows text d n w.0 (sym w.1)

module _ (text : ℕ → List ℕ) (P : Plane) where
  pub not_oriented : (r : Refusal) → Err r ≡ oriented_of text P → Err r ≡ stated_sheet text P
  unfolding stated_sheet
  not_oriented r e = rw (← e)

  module _ (o : Oriented) (e : Ok o ≡ oriented_of text P) where
    pub not_upright : (r : Refusal) → Err r ≡ upright_of o.orientation P → Err r ≡ stated_sheet text P
    unfolding stated_sheet
    not_upright r u = rw (← e, ← u)

    pub upright : (U : Plane) → Ok U ≡ upright_of o.orientation P → Ok (record { orientation = o.orientation; policy = o.policy; rules = o.rules; plane = U }) ≡ stated_sheet text P
    unfolding stated_sheet
    upright U u = rw (← e, ← u)

-- the upright sheet's regions are those of its plane
upright_below : (count : ℕ) (o : Orientation) (P U : Plane) → Ok U ≡ upright_of o P → RegionsBelow count P → RegionsBelow count U
unfolding upright_of
upright_below count RulesAsRows P U e f = let z : map (drop 1) P ≡ U = cc in subst (RegionsBelow count) z (rest_below count P f)
upright_below count RulesAsColumns P U e f =
    let z = pivot_ok (but_last P) U (sym e) in
    subst (RegionsBelow count) (sym z.0) (turned_below count (but_last P) (but_below count P f))

pub upright-held : (o : Orientation) (d : List ℕ) (n : ℕ) (out : List ℕ) (m : ℕ) (bytes spans : List ℕ) (count : ℕ) → Held d n bytes spans count
    → Ok (plane_in out m) ≡ upright_of o (plane_in d n) → PlaneFits out m → Held out m bytes spans count
upright-held o d n out m bytes spans count h e f =
    record {
      fits = f;
      regions = below_slice out m count (upright_below count o (plane_in d n) (plane_in out m) e (slice_below d n count h.regions));
      two_each = h.two_each;
      inside = h.inside;
    }
