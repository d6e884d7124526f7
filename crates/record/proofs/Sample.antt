-- The sheet of document 01, "Table record", and its record, by computation.
use Rattle.std.specs.Prelude.{None, Some}
use mathlib.Core.Path.{◌≡◌, refl}
use mathlib.Core.List.{List, [], ◌∷◌, ◌++◌}
use Prim.Native.Nat.{ℕ}
use lib.ListN.{length, take, drop}
use Rattle.model.specs.declared.HitPolicy.TheVariants.{Unique}
use Rattle.model.specs.declared.Orientation.TheVariants.{RulesAsRows}
use Rattle.record.specs.Policy.{Policy, input, output, rule}
use Rattle.record.specs.Record.{words, packed, slots_of, total, encode, input_texts, output_texts, rule_texts, slot_texts, table_of}

-- Zone
abbrev zone : List ℕ
zone = 0x5A ∷ 0x6F ∷ 0x6E ∷ 0x65 ∷ []

-- Fare
abbrev fare : List ℕ
fare = 0x46 ∷ 0x61 ∷ 0x72 ∷ 0x65 ∷ []

-- "A"
abbrev quoted_a : List ℕ
quoted_a = 0x22 ∷ 0x41 ∷ 0x22 ∷ []

-- 120
abbrev amount : List ℕ
amount = 0x31 ∷ 0x32 ∷ 0x30 ∷ []

-- no name; the one output gives the label and its own component name
abbrev pub sample : Policy
sample =
    record {
      name = None;
      hit = Unique;
      orientation = RulesAsRows;
      label = Some fare;
      inputs = input (Some zone) None ∷ [];
      outputs = output (Some fare) None None ∷ [];
      annotations = [];
      rules = rule (Some quoted_a ∷ []) (Some amount ∷ []) [] ∷ [];
    }

pub total_130 : total (table_of sample) ≡ 130
unfolding packed slot_texts input_texts output_texts rule_texts
total_130 = refl

pub length_130 : length (encode (table_of sample)) ≡ 130
unfolding encode words slots_of packed slot_texts input_texts output_texts rule_texts
length_130 = refl

-- the ten words in front
pub header_is : take 40 (encode (table_of sample)) ≡ words (130 ∷ 0 ∷ 0 ∷ 1 ∷ 1 ∷ 0 ∷ 1 ∷ 40 ∷ 9 ∷ 112 ∷ [])
unfolding encode words slots_of packed slot_texts input_texts output_texts rule_texts
header_is = refl

-- the nine slots, offset and length each
pub slots_are : take 72 (drop 40 (encode (table_of sample))) ≡ words (0 ∷ 0 ∷ 112 ∷ 4 ∷ 116 ∷ 4 ∷ 0 ∷ 0 ∷ 120 ∷ 4 ∷ 0 ∷ 0 ∷ 0 ∷ 0 ∷ 124 ∷ 3 ∷ 127 ∷ 3 ∷ [])
unfolding encode words slots_of packed slot_texts input_texts output_texts rule_texts
slots_are = refl

-- the texts, packed
pub texts_are : drop 112 (encode (table_of sample)) ≡ fare ++ (zone ++ (fare ++ (quoted_a ++ amount)))
unfolding encode words slots_of packed slot_texts input_texts output_texts rule_texts
texts_are = refl
