-- A part of the bytes: the ways of the test whether it is a text, and the text trimmed.
use Rattle.std.specs.Prelude.{Result, ℕ, Ok, Err}
use Rattle.std.specs.Result.{is_ok}
use mathlib.Core.Path.{◌≡◌, refl, sym, ap, ◌∙◌}
use mathlib.Core.Bool.{Bool, true, false}
use mathlib.Core.List.{List}
use Prim.Native.Nat.{ℕ, ◌+◌, ◌-◌, ◌≤◌, ◌<◌}
use borrow.Author.Tests.{le-leb, lt-leb, leb-true}
use lib.Dec.{leb}
use lib.ListN.{length, get_or, take, drop}
use Rattle.lists.proofs.Tests.{by_flag, choose_off, true_false}
use Rattle.characters.specs.white_space.Trim.{PartIn, trim_utf8}
use Rattle.characters.specs.utf8.Utf8.{checked, on_text}
use Rattle.cells.proofs.SpanLaws.{part_of_lem}
use Rattle.plane.specs.lent.LentPlane.{good_part}

ok_text : (r : Result (Unit {0}) ℕ) → is_ok r ≡ on_text r (λ at. false) true
ok_text (Ok u) = refl
ok_text (Err at) = refl

module _ (bytes : List ℕ) (offset size : ℕ) where
  pub part_long : length bytes < offset + size → false ≡ good_part bytes offset size
  part_long h = rw (lt-leb (offset + size) (length bytes) h)

  module _ (r : Result (Unit {0}) ℕ) (h : offset + size ≤ length bytes) (e : r ≡ checked (take (offset + size - offset) (drop offset bytes))) where
    whole : checked (take size (drop offset bytes)) ≡ r
    whole = sym (rw (part_of_lem bytes offset size) at e)

    pub part_decides : {t : Bool} → t ≡ is_ok r → t ≡ good_part bytes offset size
    part_decides q = q ∙ ok_text r ∙ rw (le-leb (offset + size) (length bytes) h, whole)

abbrev pub good_at : List ℕ → List ℕ → List ℕ → ℕ → Bool
good_at offsets sizes bytes k = good_part bytes (get_or offsets k 0) (get_or sizes k 0)

pub part_inside : (bytes : List ℕ) (offset size : ℕ) → good_part bytes offset size ≡ true → offset + size ≤ length bytes
part_inside bytes offset size e =
    leb-true (offset + size) (length bytes)
    (by_flag (leb (offset + size) (length bytes)) (λ q. q) (λ q. true_false e (choose_off (leb (offset + size) (length bytes)) (on_text (checked (take size (drop offset bytes))) (λ at. false) true) false q)))

-- the text of a region, trimmed
abbrev pub text_on : List ℕ → List ℕ → List ℕ → ℕ → List ℕ
text_on offsets sizes bytes k = trim_utf8 (take (get_or sizes k 0) (drop (get_or offsets k 0) bytes))

pub part_trimmed : (s : List ℕ) (a n : ℕ) (f : List ℕ) (from to : ℕ) → PartIn s a (a + n) f (trim_utf8 (take (a + n - a) (drop a s))) from to
    → take (to - from) (drop from s) ≡ trim_utf8 (take n (drop a s))
part_trimmed s a n f from to p = p.text ∙ ap trim_utf8 (part_of_lem s a n)
