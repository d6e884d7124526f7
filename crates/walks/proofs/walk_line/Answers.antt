-- `walks::walk_line` meets its contract: what is left of the line decides, and what is kept passes; what the sets hold is what the lists have.
use Rattle.std.specs.Prelude.{Err}
use mathlib.Core.Path.{◌≡◌, sym, ap, ◌∙◌, subst}
use mathlib.Core.Bool.{Bool}
use mathlib.Core.List.{List}
use Prim.Native.Nat.{ℕ, ◌+◌, ◌-◌, ◌<◌, ◌≤◌}
use Rattle.walks.specs.Walk.{walk_from, walk_of}
use native.Mathlib.Nat.{sub-zero}
use lib.ListN.{length, get_or}
use Rattle.model.specs.declared.Refusal.TheVariants.{CharactersNotFound}
use Rattle.walks.specs.Line.{place, line_of, next_of}
use Rattle.walks.specs.Sets.{Passes, Sought}
use Rattle.walks.proofs.WalkLaws.{turn_found, turn_barred, turn_on, turn_end}
use Rattle.walks.proofs.LineLaws.{place_zero, place-next, reach_next, reach_in}
use native.Mathlib.Omega.{arith}
use borrow.Author.Rules.{rules}
use Rattle.walks.proofs.walk_line.Goals as goal
use Rattle.walks.proofs.walk_line.Goals.{After-next-p, then-code-kept+else-holds+else-not-holds, else-code-kept}

pub loop-k-init : goal.loop-k-init
loop-k-init c =
    let a = c.args in
    (search rules, (place_zero a.back a.at a.step, λ ss aa e. (rw sub-zero, e.line)))

-- a turn stands one step on
here : (c : After-next-p) → c.next-p.result ≡ place c.args.back c.args.at c.args.step (c.loop-k.k + 1)
here c =
    let a = c.args in
    let l = c.loop-k in
    c.next-p.ensures ∙ ap (λ (q : ℕ). next_of a.back q a.step) l.invariant.1.0 ∙ place-next a.back a.at a.step l.k

inside : (c : After-next-p) → c.next-p.result < length c.args.codes.now
inside c =
    let a = c.args in
    let l = c.loop-k in
    subst (λ (n : ℕ). n < length a.codes.now) (sym (here c)) (reach_in a.back a.at a.step a.count (length a.codes.now) (l.k + 1) c.requires (omega (arith, c.loop-k-test.true)))

stands : (c : After-next-p) → (line_of c.args.codes.now c.args.back c.args.at c.args.step) (c.loop-k.k + 1) ≡ (get_or c.args.codes.now c.next-p.result 0)
stands c = ap (λ (q : ℕ). get_or c.args.codes.now q 0) (sym (here c))

-- what the answer of a test told
told : {h o r t : Bool} → h ≡ o → r ≡ h → r ≡ t → o ≡ t
told m e q = sym m ∙ sym e ∙ q

-- a turn whose character is passed, and kept
on : (c : After-next-p) (kept : ℕ) → (line_of c.args.codes.now c.args.back c.args.at c.args.step) (c.loop-k.k + 1) ≡ kept
    → ((s a : List ℕ) → Sought c.args.c s a → Passes s a kept)
    → (c.loop-k.k + 1 ≤ c.args.count) × ((c.next-p.result ≡ place c.args.back c.args.at c.args.step (c.loop-k.k + 1)) × ((s a : List ℕ) → Sought c.args.c s a → (walk_from (line_of c.args.codes.now c.args.back c.args.at c.args.step) s a (c.loop-k.k + 1) (c.args.count - (c.loop-k.k + 1)) ≡ walk_of (line_of c.args.codes.now c.args.back c.args.at c.args.step) s a c.args.count) × Passes s a kept))
on c kept q p =
    let l = c.loop-k in
    let h = c.loop-k-test.true in (
      omega (arith, h),
      (here c, λ ss aa e. (sym (turn_on (line_of c.args.codes.now c.args.back c.args.at c.args.step) ss aa l.k c.args.count kept h q (p ss aa e)) ∙ (l.invariant.1.1 ss aa e).0, p ss aa e)),
    )

pub next-p-requires : goal.next-p-requires
next-p-requires c =
    let a = c.args in
    rw c.loop-k.invariant.1.0
    (reach_next a.back a.at a.step a.count (length a.codes.now) c.loop-k.k c.requires c.loop-k-test.true c.well_formed.0.0)

pub offset_bounds-codes-p : goal.offset_bounds-codes-p
offset_bounds-codes-p c = omega (arith, inside c, c.well_formed.0.1)

pub bounds-codes-p : goal.bounds-codes-p
bounds-codes-p c = inside (goal.at.bounds-codes-p c).After-next-p

pub returns-then-holds : goal.returns-then-holds
returns-then-holds c ss aa e =
    let l = c.loop-k in
    sym (turn_found (line_of c.args.codes.now c.args.back c.args.at c.args.step) ss aa l.k c.args.count (get_or c.args.codes.now c.next-p.result 0) c.loop-k-test.true (stands (goal.at.returns-then-holds c).After-next-p) (told (e.ends (get_or c.args.codes.now c.next-p.result 0)) c.holds.ensures c.if-holds.true))
    ∙ (l.invariant.1.1 ss aa e).0

pub returns-then-not-holds : goal.returns-then-not-holds
returns-then-not-holds c ss aa e =
    let l = c.loop-k in
    sym (turn_barred (line_of c.args.codes.now c.args.back c.args.at c.args.step) ss aa l.k c.args.count (get_or c.args.codes.now c.next-p.result 0) c.loop-k-test.true (stands (goal.at.returns-then-not-holds c).After-next-p) (told (e.ends (get_or c.args.codes.now c.next-p.result 0)) c.holds.ensures c.if-holds.false) (told (e.passes (get_or c.args.codes.now c.next-p.result 0)) c.holds-then-code-kept.ensures c.if-not-holds.true))
    ∙ (l.invariant.1.1 ss aa e).0

pub loop-k-preserved : goal.loop-k-preserved
loop-k-preserved c =
    let l = c.loop-k in
    let turn = (goal.at.loop-k-preserved c).After-next-p in
    let code = get_or c.args.codes.now c.next-p.result 0 in
    elim c.if-code-kept.branch [
      | then-code-kept+else-holds+else-not-holds w ↦ rw w.kept-is (on turn code (stands turn) (λ ss aa e. (told (e.ends code) w.holds.ensures w.if-holds.false, told (e.passes code) w.holds-then-code-kept.ensures w.if-not-holds.false)))
      | else-code-kept w ↦ rw w.kept-is (on turn l.kept (stands turn ∙ w.if-code-kept.false) (λ ss aa e. (l.invariant.1.1 ss aa e).1))
    ]

pub returns : goal.returns
returns c ss aa e =
    let l = c.loop-k in
    let a = c.args in
    ap (λ (q : ℕ). Err (CharactersNotFound q)) e.first
    ∙ sym (turn_end (line_of c.args.codes.now c.args.back c.args.at c.args.step) ss aa l.k a.count c.loop-k-test.false) ∙ (l.invariant.1.1 ss aa e).0
