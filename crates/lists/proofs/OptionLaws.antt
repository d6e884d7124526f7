-- What may be absent: an error in its place, and what is made of it.
use Rattle.std.specs.Prelude.{Ok, Err, Option, None, Some}
use Rattle.std.specs.Option.{ok_or, option_map}
use mathlib.Core.Path.{◌≡◌, refl}
use Rattle.lists.specs.Choose.{on_some}

pub there : {A E : Type 0} (o : Option A) (e : E) {a : A} → Ok a ≡ ok_or o e → Some a ≡ o
there (Some b) e p = cc
there None e p = cc

pub missing : {A E : Type 0} (o : Option A) (e : E) {r : E} → Err r ≡ ok_or o e → (None ≡ o) × (r ≡ e)
missing (Some b) e p = cc
missing None e p = (refl, cc)

-- as a choice
pub chosen : {A E : Type 0} (o : Option A) (e : E) → ok_or o e ≡ on_some o Ok (Err e)
chosen (Some b) e = refl
chosen None e = refl

-- what g makes of f's value
pub on_mapped : {A B C : Type 0} (f : A → B) (g : B → Option C) (o : Option A) → on_some o (λ a. g (f a)) None ≡ on_some (option_map f o) g None
on_mapped f g (Some a) = refl
on_mapped f g None = refl
