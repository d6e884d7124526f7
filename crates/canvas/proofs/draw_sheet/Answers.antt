-- `canvas::draw_sheet` meets its contract.
use Rattle.std.specs.Prelude.{◌≡◌, ℕ, Result, Ok, Err}
use Rattle.std.specs.Result.{MatchResult, IsErrAnd}
use Rattle.std.proofs.lemmas.Result.{err_from_is_err_and}
use mathlib.Core.Path.{refl, sym, ◌∙◌}
use native.Mathlib.Omega.{arith}
use Rattle.lists.specs.Picture.{canvas}
use Rattle.model.specs.declared.Refusal.{Refusal}
use Rattle.model.specs.declared.Refusal.TheVariants.{InvalidUtf8}
use Rattle.frames.specs.outline.Outline.{outline_of}
use Rattle.scan.specs.Canvas.{scanned_in, size_of}
use Rattle.scan.specs.sheet_rows.Rows.{rows_at}
use Rattle.characters.specs.utf8.Utf8.{checked}
use Rattle.canvas.proofs.DrawingLaws.{ill_formed, well_formed_lem, scan_refused, refused-behind, canvas-fits, outline_refused, outlined, body_in, shown}
use Rattle.canvas.proofs.draw_sheet.Goals as goal
use Rattle.canvas.proofs.draw_sheet.Goals.{After-validate_lines, In_ok-map_err, In-Ok, In_ok-outline}

-- what a check of UTF-8 answered, where its index was made a refusal
abbrev Made : Result (Unit {0}) ℕ → Result (Unit {0}) Refusal → Type 0
Made m r = MatchResult m (λ u. r ≡ Ok u) (λ at. IsErrAnd r (λ f. f ≡ InvalidUtf8 at))

was_ok : (m : Result (Unit {0}) ℕ) (r : Result (Unit {0}) Refusal) → Made m r → (u : Unit {0}) → r ≡ Ok u → m ≡ Ok tt
was_ok (Ok v) r h u e = refl
was_ok (Err at) (Ok v) h u e = absurd h
was_ok (Err at) (Err f) h u e = absurd cc

was_err : (m : Result (Unit {0}) ℕ) (r : Result (Unit {0}) Refusal) → Made m r → (f : Refusal) → r ≡ Err f → (at : ℕ) × (m ≡ Err at) × (f ≡ InvalidUtf8 at)
was_err (Ok v) r h f e = absurd cc
was_err (Err at) (Ok v) h f e = absurd h
was_err (Err at) (Err g) h f e = let z : g ≡ f = cc in (at, refl, sym z ∙ h)

size : (c : In-Ok) → scanned_in (Ok c.in-Ok.c) ≡ size_of (rows_at c.args.s.now 0)
size c = c.in-Ok.ensures.answer

-- the check from there on tells of all bytes
whole : (c : After-validate_lines) → checked c.args.s.now ≡ c.validate_lines.result
whole c = c.in-Ok.ensures.valid ∙ sym c.validate_lines.ensures

formed : (c : In_ok-map_err) → checked c.args.s.now ≡ Ok tt
formed c = c.in-Ok.ensures.valid ∙ sym c.validate_lines.ensures ∙ was_ok _ _ c.map_err.ensures.cases _ c.in_ok-map_err.was

outline_told : (c : In_ok-outline) → Ok c.in_ok-outline.outline ≡ outline_of (canvas c.in-Ok.c.columns c.in-Ok.c.rows c.scan.new.text) c.in-Ok.c.columns c.in-Ok.c.rows
outline_told c = sym c.in_ok-outline.was ∙ c.recognize_outline.ensures

pub returns-in-Err-clause-answer : goal.returns-in-Err-clause-answer
returns-in-Err-clause-answer c = refused-behind _ _ _ _ c.validate.ensures c.behind_utf8.ensures (scan_refused _ _ c.in-Err.ensures.answer)

pub returns-in_err-map_err-clause-answer : goal.returns-in_err-map_err-clause-answer
returns-in_err-map_err-clause-answer c =
    let p = err_from_is_err_and c.from_residual.result c.from_residual.ensures.1 in
    let q = was_err _ _ c.map_err.ensures.cases _ c.in_err-map_err.was in
    rw (p.1, p.2, q.2) (ill_formed _ _ (whole (goal.at.returns-in_err-map_err-clause-answer c).After-validate_lines ∙ q.1))

pub invariant_of-layer : goal.invariant_of-layer
invariant_of-layer c =
    record { sized = omega (arith, canvas-fits (rows_at c.args.s.now 0) c.in-Ok.c (size (goal.at.invariant_of-layer c).In-Ok), c.requires.text, c.scan.auto.text) }

pub returns-in_err-outline-clause-answer : goal.returns-in_err-outline-clause-answer
returns-in_err-outline-clause-answer c =
    let p = err_from_is_err_and c.from_residual-in_err-outline.result c.from_residual-in_err-outline.ensures.1 in
    rw (p.1, p.2) (well_formed_lem _ _ (formed (goal.at.returns-in_err-outline-clause-answer c).In_ok-map_err) (outline_refused (rows_at c.args.s.now 0) c.in-Ok.c (size (goal.at.returns-in_err-outline-clause-answer c).In-Ok) c.args.text.now _ c.scan.ensures.layer _ (sym c.in_err-outline.was ∙ c.recognize_outline.ensures)))

pub make_layers-requires : goal.make_layers-requires
make_layers-requires c =
    let p = c.requires in
    let e = size (goal.at.make_layers-requires c).In-Ok in
    let n = canvas-fits (rows_at c.args.s.now 0) c.in-Ok.c e in
    record {
      sizes = (omega (arith, p.thin), omega (arith, p.body), omega (arith, p.grid));
      body = body_in (rows_at c.args.s.now 0) c.in-Ok.c e c.args.text.now _ c.scan.ensures.layer _ (outline_told (goal.at.make_layers-requires c).In_ok-outline);
    }

pub returns-clause-answer : goal.returns-clause-answer
returns-clause-answer c =
    well_formed_lem _ _ (formed (goal.at.returns-clause-answer c).In_ok-map_err) (outlined (rows_at c.args.s.now 0) c.in-Ok.c (size (goal.at.returns-clause-answer c).In-Ok) c.args.text.now _ c.scan.ensures.layer _ (outline_told (goal.at.returns-clause-answer c).In_ok-outline))

pub returns-clause-layers : goal.returns-clause-layers
returns-clause-layers c =
    shown (rows_at c.args.s.now 0) c.in-Ok.c (size (goal.at.returns-clause-layers c).In-Ok) c.args.text.now _ c.scan.ensures.layer _ c.args.bodies.now _ _ _ _ c.scan.ensures.body c.make_layers.ensures.thin c.make_layers.ensures.body c.make_layers.ensures.grid
