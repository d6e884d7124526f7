-- Laws of `put`: how a run of writes goes on, and what writes leave alone.
use mathlib.Core.Path.{◌≡◌, sym, ap, ◌∙◌}
use mathlib.Core.List.{List, [], ◌∷◌, ◌++◌, append_assoc}
use Prim.Native.Nat.{ℕ, ◌+◌, ◌≤◌, ◌<◌}
use native.Mathlib.Nat.{add-zero, zero-add}
use native.Mathlib.Numerals.{add-one, add-two, add-three}
use native.Mathlib.Omega.{arith}
use lib.ListN.{length, get_or, take, drop, set, length-append, length-drop, take-append-drop}
use lib.Seq.{take-append-le, drop-append-le, drop-append-add, take_at, drop_at, drop-drop, length-take-le, sets, sets-eq, take-suc}
use Rattle.lists.specs.Put.{put}

module _ {A : Type 0} where
  length_head : (d : List A) (at : ℕ) (x : List A) → at ≤ length d → length (take at d ++ x) ≡ at + length x
  length_head d at x h = length-append (take at d) x ∙ rw (length-take-le at d h)

  -- what is written, the part before it joined to it
  put-joined : (d : List A) (at : ℕ) (x : List A) → put d at x ≡ (take at d ++ x) ++ drop (at + length x) d
  unfolding put
  put-joined d at x = sym (append_assoc (take at d) x (drop (at + length x) d))

  pub length-put : (d : List A) (at : ℕ) (x : List A) → at + length x ≤ length d → length (put d at x) ≡ length d
  length-put d at x h =
      let p : at ≤ length d = omega arith in
      ap length (put-joined d at x) ∙ length-append (take at d ++ x) (drop (at + length x) d)
      ∙ rw (length_head d at x p, length-drop (at + length x) d) (omega arith)

  pub put_nil : (d : List A) (at : ℕ) → put d at [] ≡ d
  unfolding put
  put_nil d at = rw (add-zero at, take-append-drop at d)

  -- at the front
  pub put_front : (d x : List A) (n : ℕ) → length x ≡ n → put d 0 x ≡ x ++ drop n d
  unfolding put
  put_front d x n e = rw (zero-add (length x), e)

  -- two parts, one behind the other, are one part
  pub put-put : (d : List A) (at : ℕ) (x y : List A) → at + length x ≤ length d → put (put d at x) (at + length x) y ≡ put d at (x ++ y)
  put-put d at x y h =
      let p : at ≤ length d = omega arith in
      let l = length_head d at x p in
      let rest : List A = drop (at + length x) d in
      let w : put d at x ≡ (take at d ++ x) ++ rest = put-joined d at x in
      let t : take (at + length x) (put d at x) ≡ take at d ++ x = rw w (take_at (take at d ++ x) rest (at + length x) l) in
      let r : drop (at + length x) (put d at x) ≡ rest = rw w (drop_at (take at d ++ x) rest (at + length x) l) in
      let m : at + length x + length y ≡ at + length (x ++ y) = omega (arith, length-append x y) in
      let u : drop (at + length x + length y) (put d at x) ≡ drop (at + length (x ++ y)) d =
      sym (drop-drop (length y) (at + length x) (put d at x)) ∙ ap (drop (length y)) r ∙ drop-drop (length y) (at + length x) d ∙ ap (λ (k : ℕ). drop k d) m in
      put-joined (put d at x) (at + length x) y ∙ rw (t, u, append_assoc (take at d) x y) (sym (put-joined d at (x ++ y)))

  -- the same, where the second part's place is known by an equation
  pub put_next : (d : List A) (at : ℕ) (x y : List A) (k : ℕ) → k ≡ at + length x → at + length x ≤ length d → put (put d at x) k y ≡ put d at (x ++ y)
  put_next d at x y k e h = rw e (put-put d at x y h)

  -- stores in a row
  pub put_sets : (vs l : List A) (at : ℕ) → at + length vs ≤ length l → sets l at vs ≡ put l at vs
  unfolding put
  put_sets vs l at h = sets-eq vs l at h ∙ append_assoc (take at l) vs (drop (at + length vs) l)

  pub put_one : (l : List A) (at : ℕ) (a : A) → at < length l → set l at a ≡ put l at (a ∷ [])
  put_one l at a h = put_sets (a ∷ []) l at (omega arith)

  pub put_two : (l : List A) (at : ℕ) (a b : A) → at + 2 ≤ length l → set (set l at a) (at + 1) b ≡ put l at (a ∷ b ∷ [])
  put_two l at a b h = rw (add-one at) (put_sets (a ∷ b ∷ []) l at h)

  pub put_three : (l : List A) (at : ℕ) (a b c : A) → at + 3 ≤ length l → set (set (set l at a) (at + 1) b) (at + 2) c ≡ put l at (a ∷ b ∷ c ∷ [])
  put_three l at a b c h = rw (add-one at, add-two at) (put_sets (a ∷ b ∷ c ∷ []) l at h)

  pub put_four : (l : List A) (at : ℕ) (a b c d : A) → at + 4 ≤ length l
      → set (set (set (set l at a) (at + 1) b) (at + 2) c) (at + 3) d ≡ put l at (a ∷ b ∷ c ∷ d ∷ [])
  put_four l at a b c d h = rw (add-one at, add-two at, add-three at) (put_sets (a ∷ b ∷ c ∷ d ∷ []) l at h)

  -- one element more
  pub put_snoc : (d : List A) (at : ℕ) (u : List A) (c : A) (n : ℕ) → at + length u < length d → n ≡ at + length u → set (put d at u) n c ≡ put d at (u ++ (c ∷ []))
  put_snoc d at u c n h e =
      let l = length-put d at u (omega arith) in
      put_one (put d at u) n c (omega arith) ∙ put_next d at u (c ∷ []) n e (omega arith)

  -- a copy of s that has come to j, and its next element
  pub put_copy : (d : List A) (at : ℕ) (s : List A) (j : ℕ) (z : A) → at + length s ≤ length d → j < length s
      → set (put d at (take j s)) (at + j) (get_or s j z) ≡ put d at (take (j + 1) s)
  put_copy d at s j z hd hs =
      let l : length (take j s) ≡ j = length-take-le j s (omega arith) in
      put_snoc d at (take j s) (get_or s j z) (at + j) (omega arith) (rw l) ∙ ap (put d at) (rw (add-one j) (sym (take-suc s j z hs)))

  -- what is put, read back at an index
  put-left : (u v : List A) (at : ℕ) (x : List A) → at + length x ≤ length u → put (u ++ v) at x ≡ put u at x ++ v
  unfolding put
  put-left u v at x h =
      let p : at ≤ length u = omega arith in
      rw (take-append-le at u v p, drop-append-le (at + length x) u v h)
      (sym (append_assoc (take at u) (x ++ drop (at + length x) u) v ∙ ap (λ (l : List A). take at u ++ l) (append_assoc x (drop (at + length x) u) v)))

  put_right : (u v : List A) (y : List A) (at : ℕ) → length u ≡ at → put (u ++ v) at y ≡ u ++ (y ++ drop (length y) v)
  unfolding put
  put_right u v y at e = rw (take_at u v at e, ← e, drop-append-add u v (length y))

  -- two parts that do not meet, in either order
  pub put_comm : (d : List A) (a : ℕ) (x : List A) (b : ℕ) (y : List A) → a + length x ≤ b → b ≤ length d → put (put d b y) a x ≡ put (put d a x) b y
  put_comm d a x b y h l =
      let u : List A = take b d in
      let v : List A = drop b d in
      let lu : length u ≡ b = length-take-le b d l in
      let s : d ≡ u ++ v = sym (take-append-drop b d) in
      let fx : a + length x ≤ length u = omega arith in
      let lp : length (put u a x) ≡ b = length-put u a x fx ∙ lu in
      let left : put d b y ≡ u ++ (y ++ drop (length y) v) = ap (λ (l : List A). put l b y) s ∙ put_right u v y b lu in
      let right : put d a x ≡ put u a x ++ v = ap (λ (l : List A). put l a x) s ∙ put-left u v a x fx in
      ap (λ (l : List A). put l a x) left ∙ put-left u _ a x fx ∙ sym (ap (λ (l : List A). put l b y) right ∙ put_right (put u a x) v y b lp)
