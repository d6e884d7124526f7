-- Texts that are written as slots, one behind the other.
use Rattle.std.specs.Prelude.{None, Some}
use mathlib.Core.Path.{◌≡◌, refl, sym, ap, ◌∙◌}
use mathlib.Core.Bool.{Bool, true}
use mathlib.Core.List.{List, [], ◌∷◌, ◌++◌, append_assoc, append-nil}
use Prim.Native.Nat.{ℕ, zero, suc, ◌+◌, ◌-◌, ◌*◌, ◌≤◌, ◌<◌}
use native.Mathlib.Nat.{suc-mul}
use native.Mathlib.Numerals.{add-one}
use native.Mathlib.Omega.{arith}
use borrow.Author.Tests.{ltb-true, ltb-false}
use lib.Dec.{ltb}
use lib.ListN.{length, get_or, take, drop, set, length-append, length-drop, length-set}
use lib.Seq.{length-take-le, get_or-set_same, get_or-set_other, lt-length-set}
use Rattle.lists.specs.Choose.{choose}
use Rattle.lists.specs.Run.{run}
use Rattle.lists.proofs.RunLaws.{run_then, run-same, run-next}
use Rattle.lists.proofs.Tests.{by_flag, choose_on}
use Rattle.model.specs.Limits.{text_bytes}
use Rattle.record.specs.Policy.{Text}
use Rattle.record.specs.Record.{bytes_of, packed}
use Rattle.record.specs.Slots.{kind_at, offset_at, length_at}
use Rattle.record.proofs.Texts.{length-packed}
use Rattle.clauses.specs.Clauses.{present}
use Rattle.clauses.specs.Spelled.{join_run}
use Rattle.record.specs.writer.SlotTexts.{text_of_kind, slot_text}
use Rattle.recognizer.specs.slot_runs.Spelt.{part_of, PartIn, SlotPut, Room, Spelt, HasRoom, Appended}
use Rattle.recognizer.specs.declared.slot_runs.Filled.{Filled}
use Rattle.recognizer.specs.declared.slot_runs.Part.{Part}
use Rattle.recognizer.specs.declared.slot_runs.Slots.{Slots}

-- one text more, and one list more
pub run_more : {A : Type 0} (f : ℕ → A) (k n : ℕ) → run f k (n + 1) ≡ run f k n ++ (f (k + n) ∷ [])
run_more f k n = rw (add-one n) (run-next f k n)

join_then : {A : Type 0} (f : ℕ → List A) (k n : ℕ) → join_run f k (suc n) ≡ join_run f k n ++ f (k + n)
unfolding join_run
join_then f k zero = let z : k + 0 ≡ k = omega arith in rw z (append-nil (f k))
join_then {A} f k (suc n) =
    let z : k + suc n ≡ suc k + n = omega arith in
    rw z (ap (λ (l : List A). f k ++ l) (join_then f (suc k) n) ∙ sym (append_assoc (f k) (join_run f (suc k) n) (f (suc k + n))))

pub join_more : {A : Type 0} (f : ℕ → List A) (n : ℕ) → join_run f 0 (n + 1) ≡ join_run f 0 n ++ f n
join_more f n =
    let z : 0 + n ≡ n = omega arith in
    rw (add-one n) (join_then f 0 n ∙ ap (λ (k : ℕ). join_run f 0 n ++ f k) z)

-- n lists of m each
pub join-length : {A : Type 0} (f : ℕ → List A) (k n m : ℕ) → ((i : ℕ) → length (f i) ≡ m) → length (join_run f k n) ≡ n * m
unfolding join_run
join-length f k zero m h = omega arith
join-length f k (suc n) m h =
    length-append (f k) (join_run f (suc k) n) ∙ omega (arith, h k, join-length f (suc k) n m h, suc-mul n m)

-- a part of the bytes has its size, and is empty exactly if that is 0
module _ (bytes : List ℕ) (p : Part) where
  pub part_length : PartIn p bytes → length (part_of bytes p) ≡ p.size
  part_length i = length-take-le p.size (drop p.offset bytes) (omega (arith, length-drop p.offset bytes, i.inside))

  pub part_none : p.size ≡ 0 → present (part_of bytes p) ≡ None
  part_none e = ap (λ (n : ℕ). present (take n (drop p.offset bytes))) e

  pub part_some : PartIn p bytes → 0 < p.size → present (part_of bytes p) ≡ Some (part_of bytes p)
  part_some i h = go (part_of bytes p) (omega (arith, part_length i))
    where
      go : (t : List ℕ) → 0 < length t → present t ≡ Some t
      go [] l = absurd (omega arith)
      go (b ∷ t) l = refl

-- the three numbers of a slot
module _ (d : List ℕ) (at k a n : ℕ) where
  abbrev one : List ℕ
  one = set d (3 * at) k

  abbrev two : List ℕ
  two = set one (3 * at + 1) a

  abbrev three : List ℕ
  three = set two (3 * at + 2) n

  before_three : (j : ℕ) → j < 3 * at + 2 → get_or three j 0 ≡ get_or two j 0
  before_three j h = get_or-set_other two (3 * at + 2) j n 0 (λ z. absurd (omega arith))

  before_two : (j : ℕ) → j < 3 * at + 1 → get_or three j 0 ≡ get_or one j 0
  before_two j h = before_three j (omega arith) ∙ get_or-set_other one (3 * at + 1) j a 0 (λ z. absurd (omega arith))

  pub slot_put : 3 * at + 3 ≤ length d → SlotPut d three at k a n
  slot_put h =
      record {
        long = simp length-set refl;
        kind = before_two (3 * at) (omega arith) ∙ get_or-set_same d (3 * at) k 0 (omega arith);
        offset = before_three (3 * at + 1) (omega arith) ∙ get_or-set_same one (3 * at + 1) a 0 (lt-length-set d (3 * at) k (omega arith));
        size = get_or-set_same two (3 * at + 2) n 0 (lt-length-set one (3 * at + 1) a (lt-length-set d (3 * at) k (omega arith)));
        kept = λ j l. before_two j (omega arith) ∙ get_or-set_other d (3 * at) j k 0 (λ z. absurd (omega arith));
        behind =
            λ j l. get_or-set_other two (3 * at + 2) j n 0 (λ z. absurd (omega arith)) ∙ get_or-set_other one (3 * at + 1) j a 0 (λ z. absurd (omega arith))
            ∙ get_or-set_other d (3 * at) j k 0 (λ z. absurd (omega arith));
      }

-- slots that are the same up to slot m have the same texts before it
same_text_lem : (bytes d o : List ℕ) (m i : ℕ) → ((j : ℕ) → j < 3 * m → get_or o j 0 ≡ get_or d j 0) → i < m → slot_text bytes o i ≡ slot_text bytes d i
unfolding slot_text
same_text_lem bytes d o m i k h =
    let a : kind_at o i ≡ kind_at d i = k (3 * i) (omega arith) in
    let b : offset_at o i ≡ offset_at d i = k (3 * i + 1) (omega arith) in
    let c : length_at o i ≡ length_at d i = k (3 * i + 2) (omega arith) in
    rw (a, b, c)

-- nothing
spelt_none : (bytes d : List ℕ) (from : Filled) → Spelt bytes d d from from []
unfolding run packed
spelt_none bytes d from =
    record {
      long = refl;
      texts = refl;
      slots = omega arith;
      total = omega arith;
      light = λ h. h;
      kept = λ j h. refl;
      inside = λ i h l. absurd (omega arith);
    }

-- one slot is one text
spelt_one : {bytes d o : List ℕ} {from to : Filled} {k a n : ℕ} (t : Text) → SlotPut d o from.slot k a n
    → text_of_kind k (take n (drop a bytes)) ≡ t → to.slot ≡ from.slot + 1 → to.bytes ≡ from.bytes + length (bytes_of t)
    → a + n ≤ length bytes → length (bytes_of t) ≤ text_bytes → Spelt bytes d o from to (t ∷ [])
unfolding run packed slot_text
spelt_one {bytes} {d} {o} {from} {to} {k} {a} {n} t p e s b l m =
    let x : slot_text bytes o from.slot ≡ t = rw (p.kind, p.offset, p.size) e in
    record {
      long = p.long;
      texts = ap (λ (u : Text). u ∷ []) x;
      slots = s;
      total = b ∙ ap (λ (u : List ℕ). from.bytes + length u) (sym (append-nil (bytes_of t)));
      light = λ h. omega arith;
      kept = p.kept;
      inside = λ i f g. let z : i ≡ from.slot = omega arith in rw (z, p.offset, p.size) l;
    }

-- texts, and others behind them
spelt_then : {bytes d o o' : List ℕ} {a b c : Filled} {ts us : List Text} → Spelt bytes d o a b ts → Spelt bytes o o' b c us → Spelt bytes d o' a c (ts ++ us)
spelt_then {bytes} {d} {o} {o'} {a} {b} {c} {ts} {us} u v =
    let f = slot_text bytes o' in
    let n : length (ts ++ us) ≡ length ts + length us = length-append ts us in
    let q : length (packed (ts ++ us)) ≡ length (packed ts) + length (packed us) = length-packed ts us in
    let x : run f a.slot (length ts) ≡ ts = run-same f (slot_text bytes o) a.slot (length ts) (λ i h l. same_text_lem bytes o o' b.slot i v.kept (omega (arith, u.slots))) ∙ u.texts in
    let y : run f (a.slot + length ts) (length us) ≡ us = ap (λ (k : ℕ). run f k (length us)) (sym u.slots) ∙ v.texts in
    record {
      long = v.long ∙ u.long;
      texts = ap (run f a.slot) n ∙ run_then f a.slot (length ts) (length us) ∙ rw (x, y);
      slots = omega (arith, u.slots, v.slots);
      total = omega (arith, u.total, v.total);
      light = λ h. v.light (u.light h);
      kept = λ j h. v.kept j (omega (arith, u.slots)) ∙ u.kept j h;
      inside =
          λ i h l. by_flag (ltb i b.slot)
          (λ e.
          let k : i < b.slot = ltb-true i b.slot e in
          let y : offset_at o' i ≡ offset_at o i = v.kept (3 * i + 1) (omega arith) in
          let z : length_at o' i ≡ length_at o i = v.kept (3 * i + 2) (omega arith) in
          rw (y, z) (u.inside i h k))
          (λ e. v.inside i (ltb-false i b.slot e) l);
    }

-- the same of slots with their fill
appended_none : (bytes : List ℕ) (s : Slots) → Appended bytes s s []
appended_none bytes s = record { same = refl; spelt = spelt_none bytes s.numbers.now s.filled }

pub appended_one : {bytes : List ℕ} {s o : Slots} {k a n : ℕ} (t : Text) → SlotPut s.numbers.now o.numbers.now s.filled.slot k a n
    → o.numbers.ghost_name ≡ s.numbers.ghost_name → text_of_kind k (take n (drop a bytes)) ≡ t → o.filled.slot ≡ s.filled.slot + 1
    → o.filled.bytes ≡ s.filled.bytes + length (bytes_of t) → a + n ≤ length bytes → length (bytes_of t) ≤ text_bytes → Appended bytes s o (t ∷ [])
appended_one t p g e f b l m = record { same = g; spelt = spelt_one t p e f b l m }

pub appended_then : {bytes : List ℕ} {s o o' : Slots} {ts us : List Text} → Appended bytes s o ts → Appended bytes o o' us → Appended bytes s o' (ts ++ us)
appended_then u v = record { same = v.same ∙ u.same; spelt = spelt_then u.spelt v.spelt }

-- the same texts, by another name
pub appended_as : {bytes : List ℕ} {s o : Slots} {ts us : List Text} → Appended bytes s o ts → ts ≡ us → Appended bytes s o us
appended_as a e = rw e at a

-- one text, by another name
pub appended_text : {bytes : List ℕ} {s o : Slots} {t u : Text} → Appended bytes s o (t ∷ []) → t ≡ u → Appended bytes s o (u ∷ [])
appended_text a e = appended_as a (ap (λ (t : Text). t ∷ []) e)

-- what the slice holds once it is given back
pub spelt_in : {bytes d : List ℕ} {s o : Slots} {ts : List Text} → Appended bytes s o ts → d ≡ o.numbers.now → Spelt bytes s.numbers.now d s.filled o.filled ts
spelt_in a e = rw e a.spelt

-- a text that stands there by a test
pub optional_on : {t : Bool} {v w : List ℕ} (u : Text) → v ≡ w → t ≡ true → present v ≡ choose t (present w) u
optional_on {t} {v} {w} u e h = ap present e ∙ sym (choose_on t (present w) u h)

-- the room behind m texts
pub room_next : {bytes : List ℕ} {s o : Slots} {ts : List Text} {k m n : ℕ} → HasRoom s k → Appended bytes s o ts → length ts ≡ m → m + n ≤ k → HasRoom o n
room_next r a e h =
    let p = a.spelt in
    record {
      slots = omega (arith, r.slots, p.slots, p.long);
      few = omega (arith, r.few, p.slots);
      light = p.light r.light;
    }

-- less room
pub room_less : {a : Filled} {d : List ℕ} {k n : ℕ} → Room a k d → n ≤ k → Room a n d
room_less r h = record { slots = omega (arith, r.slots); few = omega (arith, r.few); light = r.light }

-- i of n turns are done, of m texts each: they are `far i`
pub record Turning (bytes : List ℕ) (start : Slots) (far : ℕ → List Text) (m n : ℕ) (s : Slots) (i : ℕ) : Type 0 where
  pub along : i ≤ n
  pub room : HasRoom s ((n - i) * m)
  pub put : Appended bytes start s (far i)

pub turning_start : (bytes : List ℕ) (s : Slots) (far : ℕ → List Text) (m n k : ℕ) → HasRoom s k → n * m ≤ k → far 0 ≡ [] → Turning bytes s far m n s 0
turning_start bytes s far m n k r h e =
    let z : n - 0 ≡ n = omega arith in
    record {
      along = omega arith;
      room = rw z (room_less r h);
      put = rw e (appended_none bytes s);
    }

module _ {bytes : List ℕ} {start : Slots} {far : ℕ → List Text} {m n : ℕ} {s : Slots} {i : ℕ} (t : Turning bytes start far m n s i) where
  left : i < n → (n - i) * m ≡ (n - (i + 1)) * m + m
  left h = let e : n - i ≡ suc (n - (i + 1)) = omega arith in rw e (suc-mul (n - (i + 1)) m)

  pub turning_room : i < n → HasRoom s m
  turning_room h = room_less t.room (omega (arith, left h))

  pub turning_more : {next : Slots} {us : List Text} → i < n → Appended bytes s next us → length us ≡ m → far (i + 1) ≡ far i ++ us
      → Turning bytes start far m n next (i + 1)
  turning_more h a l f =
      record {
        along = omega arith;
        room = room_next t.room a l (omega (arith, left h));
        put = appended_as (appended_then t.put a) (sym f);
      }

  pub turning_end : n ≤ i → Appended bytes start s (far n)
  turning_end h = let a = t.along in let z : i ≡ n = omega arith in appended_as t.put (ap far z)
