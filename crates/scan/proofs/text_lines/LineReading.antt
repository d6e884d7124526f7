-- Laws of reading a line: what a scan of the bytes carries along it, and what is known where it ends.
use mathlib.Core.Path.{◌≡◌, refl, sym, ap, ◌∙◌}
use mathlib.Core.Bool.{Bool, true, false}
use mathlib.Core.List.{List, [], ◌∷◌, ◌++◌, append-nil, append_assoc}
use Prim.Native.Nat.{ℕ, ◌+◌, ◌≤◌, ◌<◌}
use mathlib.Core.Logic.{◌⊎◌, inl, inr}
use native.Mathlib.Nat.{eq-or-lt_of_le}
use native.Mathlib.Omega.{arith}
use lib.ListN.{length, take, drop, length-append}
use lib.Dec.{eqb}
use borrow.Author.Tests.{eq-eqb, ne_eqb}
use Rattle.characters.specs.white_space.White.{white}
use Rattle.lists.specs.Choose.{choose}
use Rattle.characters.specs.white_space.Trim.{trim_start, trim_end, before, trim}
use Rattle.characters.specs.white_space.Lines.{first_of, last_of, line, after, line_text, LineAt, HeadAt, ValidTo}
use Rattle.scan.specs.line_checks.LineEnds.{NextFrom}
use Rattle.scan.specs.text_lines.LineScan.{lead, RestAt}
use Rattle.scan.specs.declared.text_lines.Rest.{Rest}
use Rattle.characters.specs.utf8.Utf8.{codes, decode, SameCheck}
use Rattle.characters.specs.utf8.Passed.{code_of}
use Rattle.characters.specs.declared.utf8.Decoded.TheVariants.{Char}
use Rattle.characters.proofs.utf8.Utf8Laws.{decode_end, codes_at_lem, char_fits, check-at, codes_end}
use Rattle.characters.proofs.white_space.TrimLaws.{end_snoc, first_end}
use Rattle.scan.proofs.line_checks.LinePassing.{Passing, Passed, here, pass-start, pass_fits, pass-more, pass_feed, pass_stop, pass_end}

pub after-lead : (s : List ℕ) → after (lead s) ≡ after s
unfolding after lead
after-lead [] = refl
after-lead (c ∷ s) = go (eqb c 0x0A) refl (white c) (after-lead s)
  where
    go : (t : Bool) → eqb c 0x0A ≡ t → (w : Bool) → after (lead s) ≡ after s → after (choose t (c ∷ s) (choose w (lead s) (c ∷ s))) ≡ choose t s (after s)
    go true e w p = rw e
    go false e true p = p
    go false e false p = rw e

pub line-lead : (s : List ℕ) → line (lead s) ≡ trim_start (line s)
unfolding line lead trim_start
line-lead [] = refl
line-lead (c ∷ s) = go (eqb c 0x0A) refl (white c) refl (line-lead s)
  where
    go : (t : Bool) → eqb c 0x0A ≡ t → (w : Bool) → white c ≡ w → line (lead s) ≡ trim_start (line s)
        → line (choose t (c ∷ s) (choose w (lead s) (c ∷ s))) ≡ trim_start (choose t [] (c ∷ line s))
    go true e w f p = rw e
    go false e true f p = rw f p
    go false e false f p = rw (e, f)

-- what a scan carries along a line: how long the trimmed text is after k code points, and its last code point
unfoldable pub ends : ℕ → ℕ → List ℕ → ℕ
ends k e [] = e
ends k e (c ∷ s) = choose (eqb c 0x0A) e (ends (k + 1) (choose (white c) e (k + 1)) s)

unfoldable pub lasts : ℕ → List ℕ → ℕ
lasts d [] = d
lasts d (c ∷ s) = choose (eqb c 0x0A) d (lasts (choose (white c) d c) s)

length-choose : (t : Bool) (a b : List ℕ) → length (choose t a b) ≡ choose t (length a) (length b)
length-choose true a b = refl
length-choose false a b = refl

last-choose : (t : Bool) (a b : List ℕ) → last_of (choose t a b) ≡ choose t (last_of a) (last_of b)
last-choose true a b = refl
last-choose false a b = refl

pub last_snoc : (xs : List ℕ) (c : ℕ) → last_of (xs ++ (c ∷ [])) ≡ c
unfolding last_of
last_snoc [] c = refl
last_snoc (x ∷ []) c = refl
last_snoc (x ∷ y ∷ xs) c = last_snoc (y ∷ xs) c

ends_is : (p r : List ℕ) → ends (length p) (length (trim_end p)) r ≡ length (trim_end (p ++ line r))
unfolding ends line
ends_is p [] = rw append-nil
ends_is p (c ∷ s) = go (eqb c 0x0A) (ends_is (p ++ (c ∷ [])) s)
  where
    go : (t : Bool) → ends (length (p ++ (c ∷ []))) (length (trim_end (p ++ (c ∷ [])))) s ≡ length (trim_end ((p ++ (c ∷ [])) ++ line s))
        → choose t (length (trim_end p)) (ends (length p + 1) (choose (white c) (length (trim_end p)) (length p + 1)) s) ≡ length (trim_end (p ++ choose t [] (c ∷ line s)))
    go true e = rw append-nil
    go false e = rw (end_snoc, length-choose, length-append, append_assoc) at e

lasts_is : (p r : List ℕ) → lasts (last_of (trim_end p)) r ≡ last_of (trim_end (p ++ line r))
unfolding lasts line
lasts_is p [] = rw append-nil
lasts_is p (c ∷ s) = go (eqb c 0x0A) (lasts_is (p ++ (c ∷ [])) s)
  where
    go : (t : Bool) → lasts (last_of (trim_end (p ++ (c ∷ [])))) s ≡ last_of (trim_end ((p ++ (c ∷ [])) ++ line s))
        → choose t (last_of (trim_end p)) (lasts (choose (white c) (last_of (trim_end p)) c) s) ≡ last_of (trim_end (p ++ choose t [] (c ∷ line s)))
    go true e = rw append-nil
    go false e = rw (end_snoc, last-choose, last_snoc, append_assoc) at e

pub ends-line : (r : List ℕ) → ends 0 0 r ≡ length (trim_end (line r))
unfolding trim_end
ends-line r = ends_is [] r

pub lasts_line : (r : List ℕ) → lasts 0 r ≡ last_of (trim_end (line r))
unfolding trim_end last_of
lasts_line r = lasts_is [] r

-- the trimmed line is the start of the text
take-before : (c : ℕ) (s l : List ℕ) → take (length l) s ≡ l → take (length (before c l)) (c ∷ s) ≡ before c l
take-before c s [] e = go (white c)
  where
    go : (w : Bool) → take (length (choose {A = List ℕ} w [] (c ∷ []))) (c ∷ s) ≡ choose w [] (c ∷ [])
    go true = refl
    go false = refl
take-before c s (x ∷ t) e = ap (λ (l : List ℕ). c ∷ l) e

pub take-line : (r : List ℕ) → take (length (trim_end (line r))) r ≡ trim_end (line r)
unfolding line trim_end
take-line [] = refl
take-line (c ∷ s) = go (eqb c 0x0A) (take-line s)
  where
    go : (t : Bool) → take (length (trim_end (line s))) s ≡ trim_end (line s) → take (length (trim_end (choose t [] (c ∷ line s)))) (c ∷ s) ≡ trim_end (choose t [] (c ∷ line s))
    go true e = refl
    go false e = take-before c s (trim_end (line s)) e

-- one code point of the scan, by what it is
module _ (r : List ℕ) (c : ℕ) (t : List ℕ) (e : r ≡ c ∷ t) where
  pub lead_feed : c ≡ 0x0A → lead r ≡ r
  unfolding lead
  lead_feed p = rw (e, eq-eqb c 0x0A p)

  pub lead-white : (c ≡ 0x0A → ⊥) → white c ≡ true → lead r ≡ lead t
  unfolding lead
  lead-white p w = rw (e, ne_eqb c 0x0A p, w)

  pub lead_dark : (c ≡ 0x0A → ⊥) → white c ≡ false → lead r ≡ r
  unfolding lead
  lead_dark p w = rw (e, ne_eqb c 0x0A p, w)

  pub ends_feed : (k n : ℕ) → c ≡ 0x0A → ends k n r ≡ n
  unfolding ends
  ends_feed k n p = rw (e, eq-eqb c 0x0A p)

  pub ends-white : (k n : ℕ) → (c ≡ 0x0A → ⊥) → white c ≡ true → ends k n r ≡ ends (k + 1) n t
  unfolding ends
  ends-white k n p w = rw (e, ne_eqb c 0x0A p, w)

  pub ends_dark : (k n : ℕ) → (c ≡ 0x0A → ⊥) → white c ≡ false → ends k n r ≡ ends (k + 1) (k + 1) t
  unfolding ends
  ends_dark k n p w = rw (e, ne_eqb c 0x0A p, w)

  pub lasts_feed : (d : ℕ) → c ≡ 0x0A → lasts d r ≡ d
  unfolding lasts
  lasts_feed d p = rw (e, eq-eqb c 0x0A p)

  pub lasts_white : (d : ℕ) → (c ≡ 0x0A → ⊥) → white c ≡ true → lasts d r ≡ lasts d t
  unfolding lasts
  lasts_white d p w = rw (e, ne_eqb c 0x0A p, w)

  pub lasts_dark : (d : ℕ) → (c ≡ 0x0A → ⊥) → white c ≡ false → lasts d r ≡ lasts c t
  unfolding lasts
  lasts_dark d p w = rw (e, ne_eqb c 0x0A p, w)

-- where nothing is left
module _ (r : List ℕ) (e : r ≡ []) where
  pub lead_nil : lead r ≡ []
  unfolding lead
  lead_nil = rw e

  pub ends_nil : (k n : ℕ) → ends k n r ≡ n
  unfolding ends
  ends_nil k n = rw e

  pub lasts_nil : (d : ℕ) → lasts d r ≡ d
  unfolding lasts
  lasts_nil d = rw e

-- the scan of a line's rest has come to p, over k code points
pub record Scanned (s : List ℕ) (from p k count last : ℕ) : Type 0 where
  pub passing : Passing s from p
  pub many : from + k ≤ p
  pub counted : ends 0 0 (codes (drop from s)) ≡ ends k count (codes (drop p s))
  pub lasting : lasts 0 (codes (drop from s)) ≡ lasts last (codes (drop p s))

-- what the scan of a line's rest answers
abbrev pub Found : List ℕ → ℕ → ℕ → ℕ → ℕ → ℕ → Type 0
Found s from count last next valid = RestAt s from count last next × ValidTo s from next valid

pub found_in : {s : List ℕ} {from count last next valid : ℕ} (r : Rest) → r ≡ record { count = count; last = last; end = record { at = next; valid = valid } }
    → Found s from count last next valid → Found s from r.count r.last r.end.at r.end.valid
found_in r e f = rw e f

-- at first there is no last code point, as at the end of the bytes
pub scan_start : (s : List ℕ) (from : ℕ) → from ≤ length s → Scanned s from from 0 0 (code_of (decode (drop (length s) s)))
scan_start s from h =
    let e : 0 ≡ code_of (decode (drop (length s) s)) = sym (ap code_of (decode_end s (length s) (omega arith))) in
    record { passing = pass-start s from h; many = omega arith; counted = refl; lasting = ap (λ (d : ℕ). lasts d (codes (drop from s))) e }

module _ {s : List ℕ} {from p k count last : ℕ} (i : Scanned s from p k count last) where
  -- the line ends where nothing of its text is left
  ended : {next valid : ℕ} → ends k count (codes (drop p s)) ≡ count → lasts last (codes (drop p s)) ≡ last → Passed s from next valid → Found s from count last next valid
  ended c l f = (record { counted = sym (i.counted ∙ c) ∙ ends-line _; lasting = sym (i.lasting ∙ l) ∙ lasts_line _; ends = f.0 }, f.1)

  module _ {c n : ℕ} (e : decode (drop p s) ≡ Char c n) where
    there : codes (drop p s) ≡ c ∷ codes (drop (p + n) s)
    there = here i.passing e

    pub scan_fits : (1 ≤ n) × (p + n ≤ length s)
    scan_fits = pass_fits i.passing e

    pub scan_white : (c ≡ 0x0A → ⊥) → white c ≡ true → Scanned s from (p + n) (k + 1) count last
    scan_white f w = let l = scan_fits in record {
      passing = pass-more i.passing e f;
      many = omega (arith, i.many);
      counted = i.counted ∙ ends-white _ _ _ there _ _ f w;
      lasting = i.lasting ∙ lasts_white _ _ _ there _ f w;
    }

    pub scan_dark : (c ≡ 0x0A → ⊥) → white c ≡ false → Scanned s from (p + n) (k + 1) (k + 1) c
    scan_dark f w = let l = scan_fits in record {
      passing = pass-more i.passing e f;
      many = omega (arith, i.many);
      counted = i.counted ∙ ends_dark _ _ _ there _ _ f w;
      lasting = i.lasting ∙ lasts_dark _ _ _ there _ f w;
    }

    pub scan_feed : c ≡ 0x0A → Found s from count last (p + n) (p + n)
    scan_feed f = ended (ends_feed _ _ _ there _ _ f) (lasts_feed _ _ _ there _ f) (pass_feed i.passing e f)

  pub scan_stop : codes (drop p s) ≡ [] → Found s from count last (length s) p
  scan_stop e = ended (ends_nil _ e _ _) (lasts_nil _ e _) (pass_stop i.passing e)

  pub scan_end : length s ≤ p → Found s from count last p p
  scan_end h = let e = codes_end s p h in ended (ends_nil _ e _ _) (lasts_nil _ e _) (pass_end i.passing h)

-- the scan of the white space in front of a line has come to p
pub record Skipped (s : List ℕ) (at p : ℕ) : Type 0 where
  pub along : at ≤ p
  pub inside : p ≤ length s
  pub led : lead (codes (drop at s)) ≡ lead (codes (drop p s))
  pub checks : SameCheck s at p

module _ {s : List ℕ} {at p : ℕ} (i : Skipped s at p) where
  module _ {c n : ℕ} (e : decode (drop p s) ≡ Char c n) where
    found : codes (drop p s) ≡ c ∷ codes (drop (p + n) s)
    found = codes_at_lem s p c n e i.inside

    pub skip_fits : (1 ≤ n) × (p + n ≤ length s)
    skip_fits = char_fits s p c n e i.inside

    pub skip_more : (c ≡ 0x0A → ⊥) → white c ≡ true → Skipped s at (p + n)
    skip_more f w = let l = skip_fits in record { along = omega arith; inside = omega arith; led = i.led ∙ lead-white _ _ _ found f w; checks = i.checks ∙ check-at s p c n e i.inside }

    pub skip_feed : c ≡ 0x0A → codes (drop p s) ≡ lead (codes (drop at s))
    skip_feed f = sym (i.led ∙ lead_feed _ _ _ found f)

    pub skip_dark : (c ≡ 0x0A → ⊥) → white c ≡ false → codes (drop p s) ≡ lead (codes (drop at s))
    skip_dark f w = sym (i.led ∙ lead_dark _ _ _ found f w)

  pub skip_stop : codes (drop p s) ≡ [] → [] ≡ lead (codes (drop at s))
  skip_stop e = sym (i.led ∙ lead_nil _ e)

-- the next line, from where the white space in front starts
module _ {s : List ℕ} {at from next : ℕ} (a : at ≤ from) (f : from ≤ length s) (e : codes (drop from s) ≡ lead (codes (drop at s))) (n : NextFrom s from next) where
  next-onward : codes (drop next s) ≡ after (codes (drop at s))
  next-onward = n.onward ∙ ap after e ∙ after-lead (codes (drop at s))

  next-further : at < length s → at < next
  next-further h = go (eq-or-lt_of_le f)
    where
      go : (from ≡ length s) ⊎ (from < length s) → at < next
      go (inl q) = let z = n.along in omega arith
      go (inr q) = let z = n.further q in omega arith

  line_trimmed : line (codes (drop from s)) ≡ trim_start (line (codes (drop at s)))
  line_trimmed = ap line e ∙ line-lead (codes (drop at s))

  pub head_of_lem : {first : ℕ} → first ≡ first_of (line (codes (drop from s))) → HeadAt s at first next
  unfolding trim
  head_of_lem h = record {
    heading = h ∙ ap first_of line_trimmed ∙ sym (first_end (line (codes (drop at s))));
    onward = next-onward;
    inside = n.inside;
    further = next-further;
  }

pub line_of : {s : List ℕ} {at from count last next : ℕ} → at ≤ from → from ≤ length s → codes (drop from s) ≡ lead (codes (drop at s)) → RestAt s from count last next → LineAt s at from count last next
unfolding trim
line_of {s} {at} {from} {count} {last} {next} a f e r =
    let w : trim_end (line (codes (drop from s))) ≡ line_text s at = ap trim_end (line_trimmed a f e r.ends) in
    record {
      text = ap (λ (n : ℕ). take n (codes (drop from s))) r.counted ∙ take-line (codes (drop from s)) ∙ w;
      counted = r.counted ∙ ap length w;
      lasting = r.lasting ∙ ap last_of w;
      onward = next-onward a f e r.ends;
      inside = r.ends.inside;
      further = next-further a f e r.ends;
    }

-- the check passes over the white space in front too
pub valid_of : {s : List ℕ} {at from next valid : ℕ} → SameCheck s at from → ValidTo s from next valid → ValidTo s at next valid
valid_of e v = record { same = e ∙ v.same; level = v.level }
