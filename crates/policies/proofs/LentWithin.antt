-- A lent plane is within the limits, and so are its texts.
use Rattle.std.specs.Prelude.{Ok, Err}
use mathlib.Core.Path.{◌≡◌, refl}
use mathlib.Core.Bool.{Bool, true, false}
use mathlib.Core.List.{List, [], ◌∷◌}
use Prim.Native.Nat.{ℕ, zero, suc, ◌≤◌, ◌<◌}
use native.Mathlib.Omega.{arith}
use lib.ListN.{length, get_or, take, drop, length-take, length-drop}
use Rattle.lists.specs.Choose.{choose}
use Rattle.lists.specs.Run.{run, build}
use Rattle.lists.specs.Transpose.{width}
use Rattle.lists.proofs.AnswerLaws.{refused-ok}
use Rattle.model.specs.Limits.{plane_rows, plane_cells, text_bytes}
use Rattle.model.specs.Refusals.{Reading}
use Rattle.model.specs.declared.Cell.{Cell}
use Rattle.model.specs.declared.Refusal.TheVariants.{LentPlaneMalformed}
use Rattle.characters.proofs.white_space.TrimLength.{trim-length}
use Rattle.cells.specs.Plane.{TextPlane}
use Rattle.plane.specs.lent.LentPlane.{LentPlane, cut, well_formed, lent_cells, lent_text, lent_of}
use Rattle.plane.proofs.lent.FormLaws.{rows_good, parts_good_lem}
use Rattle.policies.proofs.UprightWithin.{Within, PlaneWithin}

length_cut : (rows : List ℕ) (cells : List Cell) → length (cut rows cells) ≡ length rows
unfolding cut
length_cut [] cells = refl
length_cut (n ∷ rows) cells = omega (arith, length_cut rows (drop n cells))

cut-within : (rows : List ℕ) (cells : List Cell) → length rows ≤ plane_rows → ((i : ℕ) → i < length rows → get_or rows i 0 ≤ plane_cells) → Within (cut rows cells)
unfolding cut width
cut-within [] cells f g = record { rows = omega arith; cells = omega arith }
cut-within (n ∷ rows) cells f g =
    record {
      rows = omega (arith, length_cut rows (drop n cells));
      cells = omega (arith, length-take n cells, g 0 (omega arith));
    }

-- a text of a run of short ones
run_short : (m : ℕ) (f : ℕ → List ℕ) → ((i : ℕ) → length (f i) ≤ m) → (k n i : ℕ) → length (get_or (run f k n) i []) ≤ m
unfolding run
run_short m f g k zero i = omega arith
run_short m f g k (suc n) zero = g k
run_short m f g k (suc n) (suc i) = run_short m f g (suc k) n i

module _ (l : LentPlane) where
  abbrev lent : TextPlane
  lent = record { plane = cut l.rows (lent_cells l); texts = build (length l.offsets) (lent_text l) }

  text-short : well_formed l ≡ true → (k : ℕ) → length (lent_text l k) ≤ text_bytes
  text-short e k =
      let b = drop (get_or l.offsets k 0) l.bytes in
      let t = take (get_or l.sizes k 0) b in
      omega (arith, trim-length t, length-take (get_or l.sizes k 0) b, length-drop (get_or l.offsets k 0) l.bytes, (parts_good_lem l e).few)

  pub lent-within : (t : TextPlane) → lent_of l ≡ Ok t → PlaneWithin t
  unfolding lent_of
  lent-within t e = go (well_formed l) refl e
    where
      go : (b : Bool) → well_formed l ≡ b → choose {A = Reading TextPlane} b (Ok lent) (Err LentPlaneMalformed) ≡ Ok t → PlaneWithin t
      go true h e =
          let z : lent ≡ t = cc in
          let r = rows_good l h in
          rw (← z) (record {
            plane = cut-within l.rows (lent_cells l) r.few r.short;
            texts = run_short text_bytes (lent_text l) (text-short h) 0 (length l.offsets);
          })
      go false h e = refused-ok e
