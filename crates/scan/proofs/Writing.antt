-- Rows that are being written into a layer.
use mathlib.Core.Path.{◌≡◌, refl, sym, ap, ◌∙◌}
use mathlib.Core.List.{List, [], ◌∷◌, ◌++◌, map, map-id}
use Prim.Native.Nat.{ℕ, ◌+◌, ◌*◌, ◌≤◌, max}
use native.Mathlib.Nat.{add-mul}
use native.Mathlib.Omega.{arith}
use lib.ListN.{length, take, drop, length-take}
use Rattle.lists.specs.Put.{put}
use Rattle.lists.proofs.Parts.{take_next, drop-next, room_next, take_done}
use Rattle.lists.proofs.PutLaws.{put_nil, put_next}
use Rattle.scan.specs.sheet_rows.Rows.{widest}
use Rattle.scan.specs.Rows.{fill, flat}
use Rattle.scan.proofs.TextLayer.{fill-length, map-length}

-- the layer of some rows, g of each, filled to a width
abbrev layer_of : (List ℕ → List ℕ) → List (List ℕ) → ℕ → List ℕ
layer_of g rs width = flat width (map g rs)

-- the first n rows are written; g keeps a row's length
pub record Writing (g : List ℕ → List ℕ) (rs : List (List ℕ)) (width : ℕ) (d out : List ℕ) (n : ℕ) : Type 0 where
  pub same : (r : List ℕ) → length (g r) ≡ length r
  pub room : length (layer_of g rs width) ≤ length d
  pub within : n * width ≤ length (layer_of g rs width)
  pub left : drop (n * width) (layer_of g rs width) ≡ layer_of g (drop n rs) width
  pub narrow : widest (drop n rs) ≤ width
  pub done : out ≡ put d 0 (take (n * width) (layer_of g rs width))
  pub long : length out ≡ length d

pub writing_start : (g : List ℕ → List ℕ) → ((r : List ℕ) → length (g r) ≡ length r) → (rs : List (List ℕ)) (width : ℕ) (d : List ℕ)
    → widest rs ≤ width → length rs * width ≤ length d → Writing g rs width d d 0
writing_start g same rs width d w r =
    let z : 0 * width ≡ 0 = omega arith in
    record {
      same = same;
      room = omega (arith, map-length g same width rs w);
      within = omega arith;
      left = ap (λ (k : ℕ). drop k (layer_of g rs width)) z;
      narrow = w;
      done = sym (put_nil d 0) ∙ ap (λ (k : ℕ). put d 0 (take k (layer_of g rs width))) (sym z);
      long = refl;
    }

-- where g leaves each row as it is, the layer is that of the rows
pub text-layer : (rs : List (List ℕ)) (width : ℕ) (d : List ℕ) → put d 0 (layer_of (λ r. r) rs width) ≡ put d 0 (flat width rs)
text-layer rs width d = rw (map-id rs)

module _ {g : List ℕ → List ℕ} {rs : List (List ℕ)} {width : ℕ} {d out : List ℕ} {n : ℕ} (i : Writing g rs width d out n) where
  pub writing_end : drop n rs ≡ [] → out ≡ put d 0 (layer_of g rs width)
  unfolding flat
  writing_end e = i.done ∙ ap (put d 0) (take_done _ (n * width) (i.left ∙ rw e))

  -- row n is t
  module _ {t : List ℕ} (e : drop n rs ≡ t ∷ drop (n + 1) rs) where
    narrow_both : max (length t) (widest (drop (n + 1) rs)) ≤ width
    unfolding widest
    narrow_both = let m = i.narrow in rw e at m

    filled : length (fill width (g t)) ≡ width
    filled = fill-length width (g t) (omega (arith, narrow_both, i.same t))

    split : drop (n * width) (layer_of g rs width) ≡ fill width (g t) ++ layer_of g (drop (n + 1) rs) width
    unfolding flat
    split = i.left ∙ rw e

    next : n * width + length (fill width (g t)) ≡ (n + 1) * width
    next = omega (arith, filled, add-mul n 1 width)

    next-within : (n + 1) * width ≤ length (layer_of g rs width)
    next-within = omega (arith, next, room_next (layer_of g rs width) (n * width) (fill width (g t)) _ split i.within)

    pub writing_room : (length t ≤ width) × (n * width + width ≤ length out)
    writing_room = (omega (arith, narrow_both), omega (arith, next, filled, next-within, i.room, i.long))

    module _ {o : List ℕ} (wrote : o ≡ put out (n * width) (fill width (g t))) (kept : length o ≡ length out) where
      next_done : o ≡ put d 0 (take ((n + 1) * width) (layer_of g rs width))
      next_done =
          let F : List ℕ = layer_of g rs width in
          let u : List ℕ = fill width (g t) in
          let b = i.within in
          let r = i.room in
          let l = length-take (n * width) F in
          wrote ∙ ap (λ (x : List ℕ). put x (n * width) u) i.done ∙ put_next d 0 (take (n * width) F) u (n * width) (omega arith) (omega arith)
          ∙ ap (put d 0) (sym (take_next F (n * width) u _ split)) ∙ ap (λ (k : ℕ). put d 0 (take k F)) next

      pub writing_more : Writing g rs width d o (n + 1)
      writing_more =
          record {
            same = i.same;
            room = i.room;
            within = next-within;
            left = ap (λ (k : ℕ). drop k (layer_of g rs width)) (sym next) ∙ drop-next (layer_of g rs width) (n * width) (fill width (g t)) _ split;
            narrow = omega (arith, narrow_both);
            done = next_done;
            long = kept ∙ i.long;
          }
