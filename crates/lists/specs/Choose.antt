-- A choice by a test, and one by what may be absent.
use Rattle.std.specs.Prelude.{Bool, true, false, Option, None, Some}

abbrev pub choose : {A : Type 0} → Bool → A → A → A
choose true a b = a
choose false a b = b

-- what f makes of a, if there is an a, else b
abbrev pub on_some : {A B : Type 0} → Option A → (A → B) → B → B
on_some (Some a) f b = f a
on_some None f b = b
