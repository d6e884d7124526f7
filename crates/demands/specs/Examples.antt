-- "Sheets by example (● proved)" of document 01: one table.
use Rattle.std.specs.Prelude.{Bool, true, false, List, [], ◌∷◌, map, ◌≡◌, ℕ, ◌+◌, length, get_or, None, Some, Ok, Err}
use Prim.Native.Char.{code}
use Prim.Native.String.{String, [] as end, ◌∷◌ as ◌then◌}
use Rattle.lists.specs.Choose.{choose}
use Rattle.lists.specs.Run.{build}
use Rattle.model.specs.Refusals.{Reading}
use Rattle.model.specs.declared.BuiltinAggregator.TheVariants.{Min}
use Rattle.model.specs.declared.Cell.TheVariants.{Region}
use Rattle.model.specs.declared.HitPolicy.TheVariants.{Collect}
use Rattle.model.specs.declared.Refusal.TheVariants.{CharactersNotFound, InvalidRuleNumber}
use Rattle.plane.specs.hit_policies.Letters.{policy_of}
use Rattle.plane.specs.numerals.RuleNumbers.{number_of}
use Rattle.clauses.specs.allowed.Allowed.{allowed_by}
use Rattle.plane.specs.rule_numbers.Numbering.{counted}
use Rattle.characters.specs.utf8.Utf8.{encodes}
use Rattle.values.specs.Values.{values_of}
use Rattle.policies.specs.DrawnPolicy.{walked_policy}

abbrev code_points : String → List ℕ
code_points end = []
code_points (c then s) = code c ∷ code_points s

-- a text in UTF-8
abbrev pub utf8 : String → List ℕ
utf8 s = encodes (code_points s)

-- a sheet is refused by number 3, with the code wanted first
abbrev Wants : String → ℕ → Type 0
Wants s c = walked_policy (utf8 s) ≡ Err (CharactersNotFound c)

-- values are split into allowed values and a default
abbrev Splits : String → String → String → Type 0
Splits t allowed default = values_of (utf8 t) ≡ record { allowed = utf8 allowed; default = Some (utf8 default) }

-- texts that stand one after the other behind the double line are counted as rule numbers; 0 is not present
abbrev Counts : List String → Reading ℕ → Type 0
Counts texts m = counted (λ k. get_or (map utf8 texts) k []) 0 (build (length texts) (λ k. Some (Region k))) ≡ m

-- how many of the settings of a fact count
abbrev both : (Bool → ℕ) → ℕ
both f = f true + f false

pub record Examples : Type 0 where
  pub empty_text : Wants "" 9484
  pub corner : Wants "┌" 9573
  pub edge : Wants "┌╥┐" 9580
  pub collect_min : policy_of (utf8 "C<") ≡ Some (Collect Min)
  pub small_c : policy_of (utf8 "c") ≡ None
  pub backticks : Splits "`Yes`, No" "Yes, No" "Yes"
  pub three_stars : Splits "***" "*" "*"
  pub one_star : Splits "*" "" ""
  pub everywhere : Splits "*a*, *a*b" "a, ab" "a"
  pub one_three : Counts ("1" ∷ "3" ∷ []) (Err (InvalidRuleNumber 3))
  pub one_text : Counts ("1" ∷ "x" ∷ []) (Ok 0)
  pub plus_one : number_of (utf8 "+1") ≡ Some 1
  pub too_large : number_of (utf8 "18446744073709551616") ≡ None
  pub nineteen : both (λ inputs. both (λ has. both (λ several. both (λ joined. both (λ apart. choose (allowed_by inputs has several joined apart) 1 0))))) ≡ 19
