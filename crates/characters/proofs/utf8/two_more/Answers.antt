-- `characters::utf8::two_more` meets its contract.
use mathlib.Core.Path.{◌≡◌, sym, ap, ◌∙◌}
use mathlib.Core.List.{[], ◌∷◌}
use Prim.Native.Nat.{ℕ, ◌+◌, ◌-◌, ◌*◌}
use native.Mathlib.Omega.{arith}
use lib.ListN.{get_or}
use borrow.Author.Rules.{rules}
use Rattle.characters.specs.declared.utf8.Decoded.TheVariants.{Char}
use Rattle.characters.specs.utf8.Utf8.{more, tail}
use Rattle.characters.proofs.utf8.Utf8Laws.{more_below, more_above, more_in}
use Rattle.characters.proofs.utf8.two_more.Goals as goal

pub returns-then-b-lt128 : goal.returns-then-b-lt128
returns-then-b-lt128 c =
    let a = c.args in
    sym (more_below 0x80 0xBF (tail ∷ []) (a.a - 0xE0) 1 a.s.now (a.at + 1) (search rules) c.if-b-lt128.true)

pub returns-then-b-gt191 : goal.returns-then-b-gt191
returns-then-b-gt191 c =
    let a = c.args in
    sym (more_above 0x80 0xBF (tail ∷ []) (a.a - 0xE0) 1 a.s.now (a.at + 1) (search rules) c.if-b-gt191.true)

pub returns-then-c-lt128 : goal.returns-then-c-lt128
returns-then-c-lt128 c =
    let a = c.args in
    sym (more_in 0x80 0xBF (tail ∷ []) (a.a - 0xE0) 1 a.s.now (a.at + 1) (search rules) (search rules) (search rules) ∙ more_below 0x80 0xBF [] ((a.a - 0xE0) * 64 + (get_or a.s.now (a.at + 1) 0 - 128)) 2 a.s.now (a.at + 1 + 1) (search rules) c.if-c-lt128.true)

pub returns-then-c-gt191 : goal.returns-then-c-gt191
returns-then-c-gt191 c =
    let a = c.args in
    sym (more_in 0x80 0xBF (tail ∷ []) (a.a - 0xE0) 1 a.s.now (a.at + 1) (search rules) (search rules) (search rules) ∙ more_above 0x80 0xBF [] ((a.a - 0xE0) * 64 + (get_or a.s.now (a.at + 1) 0 - 128)) 2 a.s.now (a.at + 1 + 1) (search rules) c.if-c-gt191.true)

pub returns : goal.returns
unfolding more
returns c =
    let a = c.args in
    let b = get_or a.s.now (a.at + 1) 0 in
    let d = get_or a.s.now (a.at + 1 + 1) 0 in
    let e : a.a * 4096 + b * 64 + d - 0xE2080 ≡ ((a.a - 0xE0) * 64 + (get_or a.s.now (a.at + 1) 0 - 128)) * 64 + (d - 128) = omega arith in
    ap (λ (k : ℕ). Char k 3) e ∙ sym (more_in 0x80 0xBF (tail ∷ []) (a.a - 0xE0) 1 a.s.now (a.at + 1) (search rules) (search rules) (search rules) ∙ more_in 0x80 0xBF [] ((a.a - 0xE0) * 64 + (get_or a.s.now (a.at + 1) 0 - 128)) 2 a.s.now (a.at + 1 + 1) (search rules) (search rules) (search rules))
