-- The value split of document 01: `get_allowed_and_default_output_values` of the Rust.
use Rattle.std.specs.Prelude.{List, ◌≡◌, ℕ, ◌-◌, ◌≤◌, ltb, length, take, drop, Option, None, Some, Ok, Err}
use Rattle.lists.specs.Choose.{choose}
use Rattle.lists.specs.Put.{put}
use Rattle.model.specs.Refusals.{Reading}
use Rattle.model.specs.declared.Refusal.TheVariants.{InvalidUtf8, OutputSliceShort}
use Rattle.characters.specs.utf8.Utf8.{checked, on_text}
use Rattle.values.specs.emphasis.Emphasis.{Choice, plain, marked, choice_of}
use Rattle.values.specs.rewriting.Replaced.{replace_all}
use Rattle.values.specs.Values.{Values, values_by}
use Rattle.values.specs.declared.Rewritten.{Rewritten}

-- a rewritten text goes to a slice of `room` bytes: number 27 where it is too short. The own text needs none
abbrev pub split_by : Choice → List ℕ → ℕ → Reading Values
split_by plain t room = Ok (values_by plain t)
split_by (marked place part bare) t room =
    choose (ltb room (length (replace_all 0 part bare t)))
    (Err (OutputSliceShort (length (replace_all 0 part bare t))))
    (Ok (values_by (marked place part bare) t))

-- what the split answers: number 1 for ill-formed UTF-8
unfoldable pub split_of : List ℕ → ℕ → Reading Values
split_of t room = on_text (checked t) (λ at. Err (InvalidUtf8 at)) (split_by (choice_of t) t room)

-- the slice d afterwards: only the bytes of the rewritten text changed
abbrev pub scratch_by : Choice → List ℕ → List ℕ → List ℕ
scratch_by plain t d = d
scratch_by (marked place part bare) t d = choose (ltb (length d) (length (replace_all 0 part bare t))) d (put d 0 (replace_all 0 part bare t))

unfoldable pub scratch_of : List ℕ → List ℕ → List ℕ
scratch_of t d = on_text (checked t) (λ at. d) (scratch_by (choice_of t) t d)

-- what an answer says of the text t and the slice d at exit: the text itself; or so many bytes of the slice, and a part of the text
abbrev pub answered : Reading (Option Rewritten) → List ℕ → List ℕ → Reading Values
answered (Ok None) t d = Ok (record { allowed = t; default = None })
answered (Ok (Some r)) t d = Ok (record { allowed = take r.bytes d; default = Some (take (r.to - r.from) (drop r.from t)) })
answered (Err e) t d = Err e

-- the place where the default stands in the text
abbrev pub place_of : Choice → ℕ
place_of plain = 0
place_of (marked place part bare) = place

-- an answer's numbers: they lie within the slice and the text, and the default's place is the defined one
abbrev pub Places : Reading (Option Rewritten) → List ℕ → List ℕ → Type 0
Places (Ok None) t d = Unit {0}
Places (Ok (Some r)) t d = (r.bytes ≤ length d) × ((r.from ≡ place_of (choice_of t)) × ((r.from ≤ r.to) × (r.to ≤ length t)))
Places (Err e) t d = Unit {0}

-- the bytes of the allowed values that an answer names, of the text or of the slice
abbrev pub allowed_in : Reading (Option Rewritten) → List ℕ → List ℕ → List ℕ
allowed_in (Ok None) t d = t
allowed_in (Ok (Some r)) t d = take r.bytes d
allowed_in (Err e) t d = t
