-- The writer's steps for words, header and slots: what they leave in the slice, and what its loop keeps.
use Rattle.std.specs.Prelude.{Ok, Err}
use mathlib.Core.Path.{◌≡◌, refl, sym, ◌∙◌}
use mathlib.Core.List.{List, [], ◌∷◌, ◌++◌}
use Prim.Native.Nat.{ℕ, ◌+◌, ◌*◌, ◌≤◌, ◌<◌}
use native.Mathlib.Numerals.{add-one}
use native.Mathlib.Omega.{arith}
use lib.ListN.{length, get_or, take}
use lib.Seq.{take-suc, take_all, length-take-le}
use borrow.Author.Tests.{lt-ltb, le-ltb}
use Rattle.lists.specs.Put.{put}
use Rattle.lists.proofs.PutLaws.{put_nil, put_next}
use Rattle.model.specs.declared.Refusal.TheVariants.{OutputSliceShort}
use Rattle.record.specs.Record.{word, words}
use Rattle.record.specs.Written.{begun_of, headed}
use Rattle.record.proofs.Words.{length-words, words_append}

-- the header, or nothing where the slice is too short for all of the record
pub begin_short : (d : List ℕ) (t : ℕ) (ws : List ℕ) → length d < t → (Err (OutputSliceShort t) ≡ begun_of (length d) t) × (d ≡ headed d t ws)
begin_short d t ws h = rw (lt-ltb (length d) t h) (refl, refl)

pub begin_whole : (d x : List ℕ) (t : ℕ) (ws : List ℕ) → t ≤ length d → x ≡ put d 0 (words ws) → (Ok t ≡ begun_of (length d) t) × (x ≡ headed d t ws)
begin_whole d x t ws h e = rw (le-ltb (length d) t h) (refl, e)

-- two words, one behind the other
pub two_words : (d x y : List ℕ) (at a b : ℕ) → at + 8 ≤ length d → x ≡ put d at (word a) → y ≡ put x (at + 4) (word b) → y ≡ put d at (word a ++ word b)
two_words d x y at a b h ex ey = ey ∙ rw ex (put_next d at (word a) (word b) (at + 4) refl (omega arith))

-- the first i of the words ws stand in d, from index at on
pub record WordsTo (d : List ℕ) (at : ℕ) (ws x : List ℕ) (i : ℕ) : Type 0 where
  pub room : at + 4 * length ws ≤ length d
  pub along : i ≤ length ws
  pub long : length x ≡ length d
  pub here : x ≡ put d at (words (take i ws))

pub words-start : (d : List ℕ) (at : ℕ) (ws : List ℕ) → at + 4 * length ws ≤ length d → WordsTo d at ws d 0
unfolding words
words-start d at ws h = record { room = h; along = omega arith; long = refl; here = sym (put_nil d at) }

module _ {d : List ℕ} {at : ℕ} {ws x : List ℕ} {i : ℕ} (w : WordsTo d at ws x i) where
  pub words-next : (x' : List ℕ) → i < length ws → length x' ≡ length x → x' ≡ put x (at + 4 * i) (word (get_or ws i 0)) → WordsTo d at ws x' (i + 1)
  unfolding words
  words-next x' h k e =
      let r = w.room in
      let l : length (words (take i ws)) ≡ 4 * i = length-words (take i ws) ∙ rw (length-take-le i ws (omega arith)) in
      let m : words (take (i + 1) ws) ≡ words (take i ws) ++ word (get_or ws i 0) =
      rw (add-one i, take-suc ws i 0 h) (words_append (take i ws) (get_or ws i 0 ∷ [])) in
      record {
        room = r;
        along = omega arith;
        long = k ∙ w.long;
        here = e ∙ rw (w.here, m) (put_next d at (words (take i ws)) (word (get_or ws i 0)) (at + 4 * i) (rw l) (omega arith));
      }

  pub words_end : length ws ≤ i → x ≡ put d at (words ws)
  words_end h = w.here ∙ rw (take_all i ws h)
