-- A line carried across, as a law of a line: where it holds a character of its stroke every place is carried, else it stays.
use mathlib.Core.Path.{◌≡◌, refl, sym, ap, ◌∙◌}
use mathlib.Core.Bool.{Bool, true, false}
use mathlib.Core.List.{List}
use Prim.Native.Nat.{ℕ, ◌<◌}
use lib.Dec.{eqb}
use lib.ListN.{get_or, set}
use lib.Seq.{set-get_or}
use Rattle.lists.specs.Line.{store_at}
use Rattle.lists.specs.OneOf.{any_at}
use Rattle.lists.specs.Turns.{turns}
use Rattle.lists.proofs.LineLaws.{LineLaw, stores_length, stores_off, stores_on}
use Rattle.lists.proofs.OneOfLaws.{any_ext}
use Rattle.lists.proofs.Tests.{by_flag}
use Rattle.canvas.specs.grid_layer.Grid.{across, down, carried_code, carried_at}
use Rattle.canvas.specs.grid_layer.Passes.{LineStays, line_carried}
use Rattle.canvas.specs.declared.grid_layer.Stroke.{Stroke}

-- the line's own character stays
pub own_stays : (d : Stroke) → LineStays d → (off n k : ℕ) (s : List ℕ) (at : ℕ) → get_or s at 0 ≡ d.line → s ≡ set s at (carried_code d off n k (get_or s at 0))
own_stays d l off n k s at e =
    let z : carried_code d off n k (get_or s at 0) ≡ get_or s at 0 = ap (carried_code d off n k) e ∙ l off n k ∙ sym e in
    sym (ap (set s at) z ∙ set-get_or s at 0)

pub across_stays : LineStays across
unfolding carried_code
across_stays off n k = refl

pub down_stays : LineStays down
unfolding carried_code
down_stays off n k = refl

-- a line's characters decide what becomes of it
pub carried_ext : (d : Stroke) (off n : ℕ) (g h : ℕ → ℕ) → ((k : ℕ) → k < n → g k ≡ h k) → (k : ℕ) → k < n → carried_at d off n g k ≡ carried_at d off n h k
carried_ext d off n g h e k l = rw (any_ext (λ i. eqb (g i) d.line) (λ i. eqb (h i) d.line) n (λ i a. rw (e i a)), e k l)

module _ (d : Stroke) (off : ℕ) (at : ℕ → ℕ) (n : ℕ) where
  module _ (s : List ℕ) where
    -- the line holds a character of its stroke
    abbrev holds : Bool
    holds = any_at (λ k. eqb (get_or s (at k) 0) d.line) n

    pub line_carried_lem : holds ≡ true → turns (store_at at (carried_code d off n)) n s ≡ line_carried d off at n s
    unfolding line_carried
    line_carried_lem e = rw e

    pub line_stays : holds ≡ false → s ≡ line_carried d off at n s
    unfolding line_carried
    line_stays e = rw e

  pub line_law : LineLaw (line_carried d off at n) at n (carried_at d off n)
  unfolding line_carried
  line_law =
      record {
        keeps = λ s. by_flag (holds s) (λ e. rw e (stores_length at (carried_code d off n) s n)) (λ e. rw e);
        off = λ s p h. by_flag (holds s) (λ e. rw e (stores_off at (carried_code d off n) s n p h)) (λ e. rw e);
        on = λ s inj fit k h. by_flag (holds s) (λ e. rw e (stores_on at (carried_code d off n) s n inj fit k h)) (λ e. rw e);
        ext = carried_ext d off n;
      }
