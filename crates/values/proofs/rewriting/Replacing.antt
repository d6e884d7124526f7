-- One text put for another everywhere: how long the result is, and how it is written.
use mathlib.Core.Path.{◌≡◌, refl, sym, ap, ◌∙◌}
use mathlib.Core.Bool.{true, false}
use mathlib.Core.List.{List, [], ◌∷◌, ◌++◌, append_assoc, append-nil}
use Prim.Native.Nat.{ℕ, zero, suc, ◌+◌, ◌-◌, ◌≤◌, ◌<◌}
use native.Mathlib.Nat.{add-zero}
use native.Mathlib.Omega.{arith}
use lib.ListN.{length, get_or, take, drop, length-append, length-drop, drop_of_length-le}
use lib.Seq.{drop-drop, length-take-le}
use Rattle.lists.specs.Put.{put}
use Rattle.lists.proofs.Parts.{at_cons}
use Rattle.lists.proofs.PutLaws.{put_nil, put_next}
use Rattle.lists.proofs.Tests.{by_flag}
use Rattle.values.specs.emphasis.Emphasis.{starts_with}
use Rattle.values.proofs.emphasis.StartsWith.{starts_fits, starts_inside}
use Rattle.values.specs.search.Periods.{FirstPlace}
use Rattle.values.specs.rewriting.Replaced.{replace_all}

skip_replace : (k : ℕ) (p q s : List ℕ) → replace_all k p q s ≡ replace_all 0 p q (drop k s)
unfolding replace_all
skip_replace zero p q s = refl
skip_replace (suc k) p q [] = refl
skip_replace (suc k) p q (c ∷ s) = skip_replace k p q s

replace_end : (p q s : List ℕ) (i : ℕ) → length s ≤ i → replace_all 0 p q (drop i s) ≡ []
unfolding replace_all
replace_end p q s i h = rw (drop_of_length-le s h)

-- p stands in front
replace_front : (p q s : List ℕ) → 0 < length p → starts_with p s ≡ true → replace_all 0 p q s ≡ q ++ replace_all 0 p q (drop (length p) s)
unfolding replace_all
replace_front p q [] n h = absurd (omega (arith, starts_fits p [] h))
replace_front p q (c ∷ s) n h =
    let m : suc (length p - 1) ≡ length p = omega arith in
    rw h (ap (λ (x : List ℕ). q ++ x) (skip_replace (length p - 1) p q s ∙ ap (λ (k : ℕ). replace_all 0 p q (drop k (c ∷ s))) m))

module _ (p q s : List ℕ) where
  -- at a place where p stands, and where it does not
  replace_hit : (i : ℕ) → 0 < length p → starts_with p (drop i s) ≡ true → replace_all 0 p q (drop i s) ≡ q ++ replace_all 0 p q (drop (i + length p) s)
  replace_hit i n h = replace_front p q (drop i s) n h ∙ ap (λ (x : List ℕ). q ++ replace_all 0 p q x) (drop-drop (length p) i s)

  replace_miss : (i : ℕ) → i < length s → starts_with p (drop i s) ≡ false → replace_all 0 p q (drop i s) ≡ get_or s i 0 ∷ replace_all 0 p q (drop (i + 1) s)
  unfolding replace_all
  replace_miss i l h =
      let v : starts_with p (get_or s i 0 ∷ drop (i + 1) s) ≡ false = rw (at_cons s i 0 l) at h in
      rw (at_cons s i 0 l, v)

  -- n places where it does not
  replace_run : (n i : ℕ) → i + n ≤ length s → ((x : ℕ) → i ≤ x → x < i + n → starts_with p (drop x s) ≡ false)
      → replace_all 0 p q (drop i s) ≡ take n (drop i s) ++ replace_all 0 p q (drop (i + n) s)
  replace_run zero i l f = rw (add-zero i)
  replace_run (suc n) i l f =
      let e : i + 1 + n ≡ i + suc n = omega arith in
      let t : take (suc n) (drop i s) ≡ get_or s i 0 ∷ take n (drop (i + 1) s) = ap (take (suc n)) (at_cons s i 0 (omega arith)) in
      replace_miss i (omega arith) (f i (omega arith) (omega arith))
      ∙ ap (λ (x : List ℕ). get_or s i 0 ∷ x) (replace_run n (i + 1) (omega arith) (λ x a b. f x (omega arith) (omega arith)))
      ∙ rw (t, e)

  -- up to the first place where it stands
  replace_first : (i r : ℕ) → FirstPlace s i p r → replace_all 0 p q (drop i s) ≡ take (r - i) (drop i s) ++ replace_all 0 p q (drop r s)
  replace_first i r f =
      let e : i + (r - i) ≡ r = omega (arith, f.low) in
      rw e at (replace_run (r - i) i (omega (arith, f.high)) (λ x a b. f.none x a (omega arith)))

-- the part before it
first-length : (s p : List ℕ) (i r : ℕ) → FirstPlace s i p r → length (take (r - i) (drop i s)) ≡ r - i
first-length s p i r f = length-take-le (r - i) (drop i s) (omega (arith, length-drop i s, f.high))

-- n bytes for the text before i
pub record Measuring (p q s : List ℕ) (i n : ℕ) : Type 0 where
  pub sizes : (0 < length p) × (length q ≤ length p)
  pub inside : i ≤ length s
  pub less : n ≤ i
  pub same : length (replace_all 0 p q s) ≡ n + length (replace_all 0 p q (drop i s))

pub measuring_start : {p q s : List ℕ} → (0 < length p) × (length q ≤ length p) → Measuring p q s 0 0
measuring_start {p} {q} {s} z = record { sizes = z; inside = omega arith; less = omega arith; same = omega arith }

module _ {p q s : List ℕ} {i n : ℕ} (m : Measuring p q s i n) where
  pub measuring_end : length s ≤ i → n ≡ length (replace_all 0 p q s)
  measuring_end h = omega (arith, ap length (replace_end p q s i h), m.same)

  pub measuring_copy : {r : ℕ} → FirstPlace s i p r → Measuring p q s r (n + (r - i))
  measuring_copy {r} f =
      let e = ap length (replace_first p q s i r f) in
      let a = length-append (take (r - i) (drop i s)) (replace_all 0 p q (drop r s)) in
      let b = first-length s p i r f in
      record { sizes = m.sizes; inside = f.high; less = omega (arith, m.less, f.low); same = m.same ∙ omega arith }

  module _ (h : starts_with p (drop i s) ≡ true) where
    pub measuring_fits : i + length p ≤ length s
    measuring_fits = starts_inside p s i m.inside h

    pub measuring_hit : Measuring p q s (i + length p) (n + length q)
    measuring_hit =
        let e = ap length (replace_hit p q s i m.sizes.0 h) in
        let a = length-append q (replace_all 0 p q (drop (i + length p) s)) in
        record { sizes = m.sizes; inside = measuring_fits; less = omega (arith, m.less, m.sizes); same = omega (arith, m.same) }

-- `written` stands in the slice d from at up to n, for the text before i
pub record Rewriting (p q s d out : List ℕ) (at i n : ℕ) : Type 0 where
  pub written : List ℕ
  pub some : 0 < length p
  pub room : at + length (replace_all 0 p q s) ≤ length d
  pub inside : i ≤ length s
  pub sized : n ≡ at + length written
  pub same : replace_all 0 p q s ≡ written ++ replace_all 0 p q (drop i s)
  pub done : out ≡ put d at written
  pub long : length out ≡ length d

pub rewriting_start : {p q s d : List ℕ} {at : ℕ} → (0 < length p) × (at + length (replace_all 0 p q s) ≤ length d) → Rewriting p q s d d at 0 at
rewriting_start {p} {q} {s} {d} {at} z =
    record { written = []; some = z.0; room = z.1; inside = omega arith; sized = omega arith; same = refl; done = sym (put_nil d at); long = refl }

module _ {p q s d out : List ℕ} {at i n : ℕ} (m : Rewriting p q s d out at i n) where
  pub rewriting_end : length s ≤ i → (n ≡ at + length (replace_all 0 p q s)) × (out ≡ put d at (replace_all 0 p q s))
  rewriting_end h =
      let e : m.written ≡ replace_all 0 p q s = sym (m.same ∙ ap (λ (x : List ℕ). m.written ++ x) (replace_end p q s i h) ∙ append-nil m.written) in
      rw (← e) (m.sized, m.done)

  -- one piece more, for the text up to k
  module _ (v : List ℕ) (k : ℕ) (e : replace_all 0 p q (drop i s) ≡ v ++ replace_all 0 p q (drop k s)) where
    fits : n + length v ≤ length d
    fits =
        let a = ap length m.same in
        let b = length-append m.written (replace_all 0 p q (drop i s)) in
        let c = ap length e in
        let f = length-append v (replace_all 0 p q (drop k s)) in
        omega (arith, m.sized, m.room)

    piece : (w : ℕ) → w ≡ length v → k ≤ length s → {o : List ℕ} → o ≡ put out n v → length o ≡ length out → Rewriting p q s d o at k (n + w)
    piece w x l u y =
        let a = fits in
        let g = m.sized in
        record {
          written = m.written ++ v;
          some = m.some;
          room = m.room;
          inside = l;
          sized = omega (arith, length-append m.written v);
          same = m.same ∙ ap (λ (z : List ℕ). m.written ++ z) e ∙ sym (append_assoc m.written v _);
          done = u ∙ ap (λ (z : List ℕ). put z n v) m.done ∙ put_next d at m.written v n (omega arith) (omega arith);
          long = y ∙ m.long;
        }

  module _ {r : ℕ} (f : FirstPlace s i p r) where
    pub rewriting_room : n + length (take (r - i) (drop i s)) ≤ length out
    rewriting_room = omega (arith, fits (take (r - i) (drop i s)) r (replace_first p q s i r f), m.long)

    pub rewriting_reach : n + (r - i) ≤ length out
    rewriting_reach = omega (arith, rewriting_room, first-length s p i r f)

    pub rewriting_copy : {o : List ℕ} → o ≡ put out n (take (r - i) (drop i s)) → length o ≡ length out → Rewriting p q s d o at r (n + (r - i))
    rewriting_copy = piece (take (r - i) (drop i s)) r (replace_first p q s i r f) (r - i) (sym (first-length s p i r f)) f.high

  module _ (h : starts_with p (drop i s) ≡ true) where
    pub rewriting_inside : i + length p ≤ length s
    rewriting_inside = starts_inside p s i m.inside h

    pub rewriting_fits : n + length q ≤ length out
    rewriting_fits = omega (arith, fits q (i + length p) (replace_hit p q s i m.some h), m.long)

    pub rewriting_hit : {o : List ℕ} → o ≡ put out n q → length o ≡ length out → Rewriting p q s d o at (i + length p) (n + length q)
    rewriting_hit = piece q (i + length p) (replace_hit p q s i m.some h) (length q) refl rewriting_inside

-- a shorter text put for another makes no text longer
module _ (p q : List ℕ) (some : 0 < length p) (shorter : length q ≤ length p) where
  rest-length : (s : List ℕ) (k : ℕ) → k ≤ length s → length (replace_all k p q s) + k ≤ length s
  unfolding replace_all
  rest-length [] zero h = omega arith
  rest-length [] (suc k) h = absurd (omega arith)
  rest-length (c ∷ s) zero h =
      by_flag (starts_with p (c ∷ s))
      (λ y.
      let f = starts_fits p (c ∷ s) y in
      rw y (omega (arith, length-append q (replace_all (length p - 1) p q s), rest-length s (length p - 1) (omega arith))))
      (λ z. rw z (omega (arith, rest-length s 0 (omega arith))))
  rest-length (c ∷ s) (suc k) h = omega (arith, rest-length s k (omega arith))

  pub replace_length : (s : List ℕ) → length (replace_all 0 p q s) ≤ length s
  replace_length s = omega (arith, rest-length s 0 (omega arith))
