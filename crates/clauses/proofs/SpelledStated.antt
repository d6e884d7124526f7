-- What a sheet states, spelled out by its shape: the texts in slot order, their counts, and an entry in each rule for each clause.
use Rattle.std.specs.Prelude.{Ok, Err, None, Some}
use mathlib.Core.Bool.{Bool, true, false}
use mathlib.Core.List.{List, [], ◌∷◌, ◌++◌, map, append_assoc}
use mathlib.Core.Path.{◌≡◌, refl, ap, ◌∙◌}
use Prim.Native.Nat.{ℕ, zero, suc, ◌+◌, ◌-◌, ◌<◌}
use native.Mathlib.Omega.{arith}
use lib.Dec.{eqb, ltb}
use lib.ListN.{length, get_or, length-map}
use borrow.Author.Tests.{eqb-true, not-false, lt-ltb, ltb-true, ltb-false}
use Rattle.lists.specs.Answer.{◌>>=◌}
use Rattle.lists.specs.Choose.{choose}
use Rattle.lists.specs.Run.{run, build}
use Rattle.lists.proofs.AnswerLaws.{refused-ok, then_ok}
use Rattle.lists.proofs.RunLaws.{length_run, get_or-run, get_or-build, build-same, map-run}
use Rattle.lists.proofs.Tests.{by_flag}
use Rattle.model.specs.Refusals.{Reading}
use Rattle.model.specs.declared.Cell.TheVariants.{MainDoubleCrossing, HorizontalDoubleCrossing}
use Rattle.model.specs.declared.Refusal.{Refusal}
use Rattle.model.specs.declared.Refusal.TheVariants.{InvalidSize}
use Rattle.cells.specs.Plane.{Plane}
use Rattle.record.specs.Policy.{Text, input, output, rule, Entries}
use Rattle.record.specs.Record.{input_texts, output_texts, rule_texts}
use Rattle.clauses.specs.cell_tests.Readings.{refuse}
use Rattle.cells.specs.Places.{place_of}
use Rattle.clauses.specs.Sizes.{differ}
use Rattle.clauses.specs.Stated.{allowed_text, default_text, input_of, output_of, rule_of, stated_by, clauses_of, clause_texts}
use Rattle.clauses.specs.Shape.{shape_of, sizes_of, checked_shape}
use Rattle.clauses.specs.Spelled.{join_run, cell_text, whole, optional, row_texts, first_output, values_row, names_row, label_text, name_text, values_text, note_texts, spelled}
use Rattle.clauses.specs.declared.Shape.{Shape}
use Rattle.clauses.proofs.Apart.{found_as}
use Rattle.clauses.proofs.ClausesApart.{clauses_apart}

-- the texts of clauses and rules that are given by their places
inputs-joined : (e a : ℕ → Text) (k n : ℕ) → input_texts (run (λ i. input (e i) (a i)) k n) ≡ join_run (λ i. e i ∷ a i ∷ []) k n
unfolding run input_texts join_run
inputs-joined e a k zero = refl
inputs-joined e a k (suc n) = ap (λ (l : List Text). e k ∷ a k ∷ l) (inputs-joined e a (suc k) n)

outputs-joined : (c a d : ℕ → Text) (k n : ℕ) → output_texts (run (λ j. output (c j) (a j) (d j)) k n) ≡ join_run (λ j. c j ∷ a j ∷ d j ∷ []) k n
unfolding run output_texts join_run
outputs-joined c a d k zero = refl
outputs-joined c a d k (suc n) = ap (λ (l : List Text). c k ∷ a k ∷ d k ∷ l) (outputs-joined c a d (suc k) n)

module _ (i o a : ℕ → List Text) where
  rules-joined : (k n : ℕ) → rule_texts (run (λ r. rule (i r) (o r) (a r)) k n) ≡ join_run (λ r. i r ++ (o r ++ a r)) k n
  unfolding run rule_texts join_run
  rules-joined k zero = refl
  rules-joined k (suc n) =
      rw (append_assoc (i k) (o k ++ a k) (join_run (λ r. i r ++ (o r ++ a r)) (suc k) n), append_assoc (o k) (a k) (join_run (λ r. i r ++ (o r ++ a r)) (suc k) n))
      (ap (λ (l : List Text). i k ++ (o k ++ (a k ++ l))) (rules-joined (suc k) n))

  entries-run : (x y z : ℕ) → ((r : ℕ) → length (i r) ≡ x) → ((r : ℕ) → length (o r) ≡ y) → ((r : ℕ) → length (a r) ≡ z)
      → (k n : ℕ) → Entries x y z (run (λ r. rule (i r) (o r) (a r)) k n)
  unfolding run Entries
  entries-run x y z f g h k zero = tt
  entries-run x y z f g h k (suc n) = (f k, g k, h k, entries-run x y z f g h (suc k) n)

-- elements of lists that may be missing as a whole
module _ (f : ℕ → Text) (x n j : ℕ) (h : j < n) where
  get_or_if : (t : Bool) → get_or (choose t (run f x n) []) j None ≡ choose t (f (x + j)) None
  get_or_if true = get_or-run f x n j None h
  get_or_if false = refl

  get_or_else : (t : Bool) (d : Text) → choose (ltb 0 (length (choose t (run f x n) []))) (get_or (choose t (run f x n) []) j None) d ≡ choose t (f (x + j)) d
  get_or_else true d = rw (length_run f x n, lt-ltb 0 n (omega arith)) (get_or-run f x n j None h)
  get_or_else false d = refl

-- what a check that was passed says
pub passed : (t : Bool) (r : Refusal) (u : Unit {0}) → refuse t r ≡ Ok u → t ≡ false
passed true r u e = refused-ok e
passed false r u e = refl

no_different : (a b : ℕ) → differ a b ≡ false → a ≡ b
no_different a b e = eqb-true a b (not-false (eqb a b) e)

-- below the clauses, and behind the annotation crossing if it has annotations, there is a row for each rule
pub record RowsMatch (rows rules : ℕ) (s : Shape) : Type 0 where
  pub entries : rows - (s.height + 1) ≡ rules
  pub notes : 0 < s.notes.count → rows - s.notes.row ≡ rules

sizes_match : (rows rules : ℕ) (s : Shape) (u : Unit {0}) → sizes_of rows rules s ≡ Ok u → RowsMatch rows rules s
unfolding sizes_of
sizes_match rows rules s u e =
    let p = then_ok (refuse (differ (rows - (s.height + 1)) rules) (InvalidSize 8)) _ u e in
    record {
      entries = no_different _ _ (passed _ _ _ p.1);
      notes = λ k. no_different _ _ (passed _ (InvalidSize 12) u (rw (lt-ltb 0 s.notes.count k) at p.2));
    }

pub checked_matches : (P : Plane) (rules : ℕ) (s : Shape) → checked_shape P rules ≡ Ok s → RowsMatch (length P) rules s
unfolding checked_shape
checked_matches P rules s e =
    let a = then_ok (shape_of P (place_of MainDoubleCrossing P) (place_of HorizontalDoubleCrossing P)) _ s e in
    let b = then_ok (sizes_of (length P) rules a.0) _ s a.2 in
    let z : a.0 ≡ s = cc in
    rw (← z) (sizes_match (length P) rules a.0 b.0 b.1)

module _ (text : ℕ → List ℕ) (P : Plane) (s : Shape) where
  -- the allowed values of input i
  abbrev input_values_text : ℕ → Text
  input_values_text i = choose s.allowed (optional text P (values_row text P s) i) None

  inputs_stated : build s.inputs (input_of (found_as text P s)) ≡ build s.inputs (λ i. input (whole text P 0 i) (input_values_text i))
  unfolding found_as
  inputs_stated =
      build-same s.inputs _ _ (λ i h.
      let e : 0 + i ≡ i = omega arith in
      rw (get_or-build s.inputs (cell_text text P 0) i [] h, get_or_if (optional text P (s.height - 1)) 0 s.inputs i h s.allowed, e))

  outputs_stated : build s.outputs (output_of (found_as text P s))
      ≡ build s.outputs (λ j. output (name_text text P s j) (allowed_text (values_text text P s j)) (default_text (values_text text P s j)))
  unfolding found_as
  outputs_stated =
      build-same s.outputs _ _ (λ j h.
      rw (
        get_or_else (optional text P (names_row text P s)) (s.inputs + 1) s.outputs j h s.layout.named (label_text text P s),
        get_or_if (optional text P (s.height - 1)) (s.inputs + 1) s.outputs j h s.layout.valued,
      ))

  -- row r of a table of entries
  row_stated : (y x n rows r : ℕ) → r < rows → map Some (get_or (run (λ k. run (cell_text text P k) x n) y rows) r []) ≡ row_texts text P (y + r) x n
  row_stated y x n rows r h =
      ap (map Some) (get_or-run (λ k. run (cell_text text P k) x n) y rows r [] h) ∙ map-run Some (cell_text text P (y + r)) x n

  module _ (rules : ℕ) (f : RowsMatch (length P) rules s) where
    notes_stated : (r : ℕ) → r < rules
        → choose (ltb 0 (length (found_as text P s).annotations)) (map Some (get_or (found_as text P s).annotation_entries r [])) [] ≡ note_texts text P s (s.notes.row + r)
    unfolding found_as run
    notes_stated r h =
        rw (length_run (cell_text text P 0) s.notes.col s.notes.count)
        (by_flag (ltb 0 s.notes.count)
        (λ t. let e = f.notes (ltb-true 0 s.notes.count t) in rw t (row_stated s.notes.row s.notes.col s.notes.count (length P - s.notes.row) r (omega arith)))
        (λ t. let z : s.notes.count ≡ 0 = omega (arith, ltb-false 0 s.notes.count t) in rw (t, z)))

    rules_stated : build rules (rule_of (found_as text P s))
        ≡ build rules (λ r. rule (row_texts text P (s.height + 1 + r) 0 s.inputs) (row_texts text P (s.height + 1 + r) (first_output text P s) s.outputs) (note_texts text P s (s.notes.row + r)))
    unfolding found_as
    rules_stated =
        build-same rules _ _ (λ r h.
        let e = f.entries in
        rw (
          row_stated (s.height + 1) 0 s.inputs (length P - (s.height + 1)) r (omega arith),
          row_stated (s.height + 1) (s.inputs + 1) s.outputs (length P - (s.height + 1)) r (omega arith),
          notes_stated r h,
        ))

    entries_stated : Entries s.inputs s.outputs s.notes.count (build rules (rule_of (found_as text P s)))
    entries_stated =
        rw rules_stated (entries-run _ _ _ s.inputs s.outputs s.notes.count
        (λ r. length_run (whole text P (s.height + 1 + r)) 0 s.inputs)
        (λ r. length_run (whole text P (s.height + 1 + r)) (s.inputs + 1) s.outputs)
        (λ r. length_run (whole text P (s.notes.row + r)) s.notes.col s.notes.count) 0 rules)

-- the texts in slot order
pub spelled_stated : (text : ℕ → List ℕ) (P : Plane) (rules : ℕ) (s : Shape) → checked_shape P rules ≡ Ok s
    → clause_texts (stated_by (found_as text P s) rules) ≡ spelled text P s rules
unfolding clause_texts stated_by spelled found_as
spelled_stated text P rules s e =
    rw (inputs_stated text P s, outputs_stated text P s, rules_stated text P s rules (checked_matches P rules s e), map-run Some (cell_text text P 0) s.notes.col s.notes.count)
    (rw (
      inputs-joined (whole text P 0) (input_values_text text P s) 0 s.inputs,
      outputs-joined (name_text text P s) (λ j. allowed_text (values_text text P s j)) (λ j. default_text (values_text text P s j)) 0 s.outputs,
      rules-joined (λ r. row_texts text P (s.height + 1 + r) 0 s.inputs) (λ r. row_texts text P (s.height + 1 + r) (s.inputs + 1) s.outputs) (λ r. note_texts text P s (s.notes.row + r)) 0 rules,
    ))

-- the counts of inputs, outputs, annotations and rules
pub counted_stated : (text : ℕ → List ℕ) (P : Plane) (rules : ℕ) (s : Shape) → (
    (length (stated_by (found_as text P s) rules).inputs ≡ s.inputs)
    × (length (stated_by (found_as text P s) rules).outputs ≡ s.outputs)
    × (length (stated_by (found_as text P s) rules).annotations ≡ s.notes.count)
    × (length (stated_by (found_as text P s) rules).rules ≡ rules))
unfolding stated_by found_as
counted_stated text P rules s = (
  length_run (input_of (found_as text P s)) 0 s.inputs,
  length_run (output_of (found_as text P s)) 0 s.outputs,
  length-map (run (cell_text text P 0) s.notes.col s.notes.count) Some ∙ length_run (cell_text text P 0) s.notes.col s.notes.count,
  length_run (rule_of (found_as text P s)) 0 rules,
)

-- an entry for each clause in each rule
pub complete_stated : (text : ℕ → List ℕ) (P : Plane) (rules : ℕ) (s : Shape) → checked_shape P rules ≡ Ok s
    → Entries (length (stated_by (found_as text P s) rules).inputs) (length (stated_by (found_as text P s) rules).outputs)
    (length (stated_by (found_as text P s) rules).annotations) (stated_by (found_as text P s) rules).rules
unfolding stated_by
complete_stated text P rules s e =
    let c = counted_stated text P rules s in
    rw (c.0, c.1, c.2) (entries_stated text P s rules (checked_matches P rules s e))

-- the clause rules, for the texts alone
pub clauses_spelled : (text : ℕ → List ℕ) (P : Plane) (rules : ℕ) → 0 < rules
    → ◌>>=◌ (clauses_of text P rules) (λ c. Ok (clause_texts c)) ≡ ◌>>=◌ (checked_shape P rules) (λ s. Ok (spelled text P s rules))
clauses_spelled text P rules h = rw (clauses_apart text P rules h) (each_way (checked_shape P rules) (spelled_stated text P rules))
  where
    each_way : (m : Reading Shape) → ((s : Shape) → m ≡ Ok s → clause_texts (stated_by (found_as text P s) rules) ≡ spelled text P s rules)
        → ◌>>=◌ (◌>>=◌ m (λ s. Ok (stated_by (found_as text P s) rules))) (λ c. Ok (clause_texts c)) ≡ ◌>>=◌ m (λ s. Ok (spelled text P s rules))
    each_way (Ok s) e = ap Ok (e s refl)
    each_way (Err r) e = refl
