-- A text that is copied into a slice, or is being copied.
use Rattle.std.specs.Prelude.{List, ◌≡◌, ℕ, ◌+◌, ◌-◌, ◌<◌, ◌≤◌, length, get_or, take, set}
use Rattle.std.proofs.Common.{arith}
use Rattle.std.proofs.lemmas.List.{drop-drop}
use mathlib.Core.Path.{refl, sym, ap, ◌∙◌}
use lib.ListN.{length-set}
use lib.Seq.{take_all}
use borrow.Rule.Slice.PartMut.{put_mid}
use Rattle.lists.specs.Put.{put}
use Rattle.lists.proofs.PutLaws.{put_nil, put_copy}

-- the part from `at` up to the end of a text that is copied there
pub copied : (d : List ℕ) (at : ℕ) {t t' : List ℕ} → t' ≡ t → put_mid at (at + length t - at) d t' ≡ put d at t
unfolding put
copied d at {t} e =
    let n : at + length t - at ≡ length t = omega arith in
    rw (n, e, drop-drop (length t) at d)

-- the first j elements of t stand in d from `at` on
pub record Copying (d : List ℕ) (at : ℕ) (t out : List ℕ) (j : ℕ) : Type 0 where
  pub room : at + length t ≤ length d
  pub along : j ≤ length t
  pub long : length out ≡ length d
  pub done : out ≡ put d at (take j t)

pub copying_start : (d : List ℕ) (at : ℕ) (t : List ℕ) → at + length t ≤ length d → Copying d at t d 0
copying_start d at t h = record { room = h; along = omega arith; long = refl; done = sym (put_nil d at) }

module _ {d : List ℕ} {at : ℕ} {t out : List ℕ} {j : ℕ} (c : Copying d at t out j) where
  pub copying_more : j < length t → Copying d at t (set out (at + j) (get_or t j 0)) (j + 1)
  copying_more h =
      record {
        room = c.room;
        along = omega arith;
        long = length-set out (at + j) (get_or t j 0) ∙ c.long;
        done = ap (λ (x : List ℕ). set x (at + j) (get_or t j 0)) c.done ∙ put_copy d at t j 0 c.room h;
      }

  pub copying_end : length t ≤ j → out ≡ put d at t
  copying_end h = c.done ∙ ap (put d at) (take_all j t h)
