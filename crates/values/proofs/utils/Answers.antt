-- The answers of the value split, and what they say of the values of the text.
use Rattle.std.specs.Prelude.{Ok, Err, Result, Some}
use mathlib.Core.Path.{◌≡◌, refl, sym, ap, ◌∙◌}
use mathlib.Core.Bool.{true, false}
use mathlib.Core.List.{List}
use Prim.Native.Nat.{ℕ, ◌-◌, ◌≤◌, ◌<◌}
use borrow.Author.Tests.{lt-ltb, le-ltb}
use lib.Dec.{ltb}
use lib.ListN.{length, take, drop}
use lib.Seq.{take_at}
use Rattle.lists.specs.Put.{put}
use Rattle.lists.proofs.AnswerLaws.{refused-ok}
use Rattle.lists.proofs.PutLaws.{put_front}
use Rattle.lists.proofs.Tests.{by_flag}
use Rattle.model.specs.declared.Refusal.TheVariants.{InvalidUtf8, OutputSliceShort}
use Rattle.characters.specs.utf8.Utf8.{checked, on_text}
use Rattle.values.specs.emphasis.Emphasis.{Choice, plain, marked, choice_of}
use Rattle.values.specs.emphasis.Found.{Emphasised}
use Rattle.values.specs.declared.emphasis.Found.{Found}
use Rattle.values.proofs.emphasis.Finding.{between}
use Rattle.values.specs.rewriting.Replaced.{replace_all}
use Rattle.values.specs.Values.{Values, values_by, values_of}
use Rattle.values.specs.utils.Split.{split_by, split_of, answered}
use Rattle.values.specs.declared.Rewritten.{Rewritten}

-- the bytes that `split_text` writes are the allowed values, and the bare text is the default
pub answer_rewritten : {t : List ℕ} {f : Found} → Emphasised t f → (d : List ℕ) {n : ℕ} {o : List ℕ}
    → n ≡ length (replace_all 0 (between t f.from f.to) (between t f.a f.b) t) → n ≤ length d
    → o ≡ put d 0 (replace_all 0 (between t f.from f.to) (between t f.a f.b) t)
    → answered (Ok (Some (record { bytes = n; from = f.a; to = f.b }))) t o ≡ split_by (choice_of t) t (length d)
answer_rewritten {t} {f} i d {n} {o} e l u =
    let z : ltb (length d) (length (replace_all 0 (between t f.from f.to) (between t f.a f.b) t)) ≡ false = le-ltb _ _ (rw e at l) in
    let w : take n o ≡ replace_all 0 (between t f.from f.to) (between t f.a f.b) t =
    ap (take n) (u ∙ put_front d _ n (sym e)) ∙ take_at _ (drop n d) n (sym e) in
    rw (i.choice, z, w)

-- the refusal tells how many bytes they are
pub answer_short : {t : List ℕ} {f : Found} → Emphasised t f → (d : List ℕ) {n : ℕ}
    → n ≡ length (replace_all 0 (between t f.from f.to) (between t f.a f.b) t) → length d < n
    → Err (OutputSliceShort n) ≡ split_by (choice_of t) t (length d)
answer_short {t} {f} i d {n} e l =
    let z : ltb (length d) (length (replace_all 0 (between t f.from f.to) (between t f.a f.b) t)) ≡ true = lt-ltb _ _ (rw e at l) in
    rw (i.choice, z, e) refl

-- a split that is not refused gives the values of the text
pub split-ok : (t : List ℕ) (room : ℕ) (v : Values) → split_of t room ≡ Ok v → (checked t ≡ (Ok tt)) × (v ≡ values_of t)
unfolding split_of values_of
split-ok t room v e = go (checked t) refl e
  where
    by-choice : (c : Choice) → split_by c t room ≡ Ok v → v ≡ values_by c t
    by-choice plain e = cc
    by-choice (marked place part bare) e =
        by_flag (ltb room (length (replace_all 0 part bare t))) (λ y. refused-ok (rw y at e)) (λ z. let f = rw z at e in cc)

    go : (k : Result (Unit {0}) ℕ) → checked t ≡ k → on_text k (λ at. Err (InvalidUtf8 at)) (split_by (choice_of t) t room) ≡ Ok v → (checked t ≡ (Ok tt)) × (v ≡ values_by (choice_of t) t)
    go (Ok tt) f e = (f, by-choice (choice_of t) e)
    go (Err at) f e = refused-ok e

-- the allowed values and the default that an answer names
module _ (t d : List ℕ) (room : ℕ) where
  pub values-allowed : (r : Rewritten) → answered (Ok (Some r)) t d ≡ split_of t room
      → (take r.bytes d ≡ (values_of t).allowed) × (Some (take (r.to - r.from) (drop r.from t)) ≡ (values_of t).default)
  values-allowed r e =
      let v = (split-ok t room _ (sym e)).1 in
      (ap (λ (x : Values). x.allowed) v, ap (λ (x : Values). x.default) v)
