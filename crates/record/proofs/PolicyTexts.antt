-- A policy's texts in slot order, with its number and counts, give the policy.
use mathlib.Core.Path.{◌≡◌, refl, sym, ap, ◌∙◌}
use mathlib.Core.List.{List, [], ◌∷◌, ◌++◌}
use Prim.Native.Nat.{ℕ, ◌+◌, ◌*◌, ◌^◌, ◌<◌}
use native.Mathlib.Nat.{zero-mul, suc-mul}
use native.Mathlib.Omega.{arith}
use lib.ListN.{length, get_or, length-append}
use Rattle.lists.proofs.Parts.{cut_left, cut_right}
use Rattle.model.proofs.PolicyLaws.{number_is_place}
use Rattle.model.specs.Policies.{policies, policy_number}
use Rattle.model.specs.declared.BuiltinAggregator.TheVariants as aggregator
use Rattle.model.specs.declared.HitPolicy.{HitPolicy}
use Rattle.model.specs.declared.HitPolicy.TheVariants.{Unique, Any, Priority, First, Collect, OutputOrder, RuleOrder}
use Rattle.record.specs.Policy.{Input, input, Output, output, Rule, rule, Policy, Entries, Complete, Same}
use Rattle.record.specs.Record.{slots_in, input_texts, output_texts, rule_texts, slot_texts, table_of}

-- a policy's number gives the policy, and fits a word
hit_inj : (h g : HitPolicy) → policy_number h ≡ policy_number g → h ≡ g
hit_inj h g e = sym (number_is_place h) ∙ ap (λ (n : ℕ). get_or policies n Unique) e ∙ number_is_place g

pub hit-fits : (h : HitPolicy) → policy_number h < 2 ^ 32
hit-fits Unique = omega arith
hit-fits Any = omega arith
hit-fits Priority = omega arith
hit-fits First = omega arith
hit-fits RuleOrder = omega arith
hit-fits OutputOrder = omega arith
hit-fits (Collect aggregator.List) = omega arith
hit-fits (Collect aggregator.Sum) = omega arith
hit-fits (Collect aggregator.Count) = omega arith
hit-fits (Collect aggregator.Min) = omega arith
hit-fits (Collect aggregator.Max) = omega arith

-- the texts of clauses and rules give them
length-inputs : (is : List Input) → length (input_texts is) ≡ 2 * length is
unfolding input_texts
length-inputs [] = refl
length-inputs (input e a ∷ is) = omega (arith, length-inputs is)

length-outputs : (os : List Output) → length (output_texts os) ≡ 3 * length os
unfolding output_texts
length-outputs [] = refl
length-outputs (output c a d ∷ os) = omega (arith, length-outputs os)

length-rules : (n m k : ℕ) (rs : List Rule) → Entries n m k rs → length (rule_texts rs) ≡ length rs * (n + m + k)
unfolding Entries rule_texts
length-rules n m k [] h = sym (zero-mul (n + m + k))
length-rules n m k (rule i o a ∷ rs) h =
    omega (
      arith,
      length-append i (o ++ (a ++ rule_texts rs)),
      length-append o (a ++ rule_texts rs),
      length-append a (rule_texts rs),
      length-rules n m k rs h.3,
      suc-mul (length rs) (n + m + k),
      h.0,
      h.1,
      h.2,
    )

inputs_inj : (is js : List Input) → input_texts is ≡ input_texts js → is ≡ js
unfolding input_texts
inputs_inj [] [] e = refl
inputs_inj [] (input f b ∷ js) e = absurd (omega (arith, ap length e))
inputs_inj (input f b ∷ is) [] e = absurd (omega (arith, ap length e))
inputs_inj (input f b ∷ is) (input g c ∷ js) e =
    let r : input_texts is ≡ input_texts js = cc in
    let q = inputs_inj is js r in
    cc

outputs_inj : (os us : List Output) → output_texts os ≡ output_texts us → os ≡ us
unfolding output_texts
outputs_inj [] [] e = refl
outputs_inj [] (output f b x ∷ us) e = absurd (omega (arith, ap length e))
outputs_inj (output f b x ∷ os) [] e = absurd (omega (arith, ap length e))
outputs_inj (output f b x ∷ os) (output g c y ∷ us) e =
    let r : output_texts os ≡ output_texts us = cc in
    let q = outputs_inj os us r in
    cc

rules_inj : (n m k : ℕ) (rs us : List Rule) → Entries n m k rs → Entries n m k us → length rs ≡ length us → rule_texts rs ≡ rule_texts us → rs ≡ us
unfolding Entries rule_texts
rules_inj n m k [] [] h g l e = refl
rules_inj n m k [] (rule i o a ∷ us) h g l e = absurd (omega arith)
rules_inj n m k (rule i o a ∷ rs) [] h g l e = absurd (omega arith)
rules_inj n m k (rule i o a ∷ rs) (rule j p b ∷ us) h g l e =
    let li : length i ≡ length j = h.0 ∙ sym g.0 in
    let lo : length o ≡ length p = h.1 ∙ sym g.1 in
    let la : length a ≡ length b = h.2 ∙ sym g.2 in
    let e1 = cut_right i j _ _ li e in
    let e2 = cut_right o p _ _ lo e1 in
    let x1 : i ≡ j = cut_left i j _ _ li e in
    let x2 : o ≡ p = cut_left o p _ _ lo e1 in
    let x3 : a ≡ b = cut_left a b _ _ la e2 in
    let x4 : rs ≡ us = rules_inj n m k rs us h.3 g.3 (omega arith) (cut_right a b _ _ la e2) in
    cc

-- a policy has as many texts as its table has slots
pub texts-counted : (p : Policy) → Complete p → length (slot_texts p) ≡ slots_in (table_of p)
unfolding slot_texts
texts-counted p h =
    let a = length-append (input_texts p.inputs) (output_texts p.outputs ++ (p.annotations ++ rule_texts p.rules)) in
    let b = length-append (output_texts p.outputs) (p.annotations ++ rule_texts p.rules) in
    let c = length-append p.annotations (rule_texts p.rules) in
    omega (arith, length-inputs p.inputs, length-outputs p.outputs, length-rules _ _ _ p.rules h)

-- the counts and the texts give the policy
pub parts-known : (p q : Policy) → Complete p → Complete q → policy_number p.hit ≡ policy_number q.hit
    → length p.inputs ≡ length q.inputs → length p.outputs ≡ length q.outputs → length p.annotations ≡ length q.annotations
    → length p.rules ≡ length q.rules → slot_texts p ≡ slot_texts q → Same p q
unfolding slot_texts
parts-known p q hp hq hit ni mo na nr e =
    let n : p.name ≡ q.name = cc in
    let b : p.label ≡ q.label = cc in
    let e0 : input_texts p.inputs ++ (output_texts p.outputs ++ (p.annotations ++ rule_texts p.rules))
    ≡ input_texts q.inputs ++ (output_texts q.outputs ++ (q.annotations ++ rule_texts q.rules)) = cc in
    let li : length (input_texts p.inputs) ≡ length (input_texts q.inputs) = simp length-inputs (omega arith) in
    let lo : length (output_texts p.outputs) ≡ length (output_texts q.outputs) = simp length-outputs (omega arith) in
    let e1 = cut_right (input_texts p.inputs) (input_texts q.inputs) _ _ li e0 in
    let e2 = cut_right (output_texts p.outputs) (output_texts q.outputs) _ _ lo e1 in
    let hp' : Entries (length q.inputs) (length q.outputs) (length q.annotations) p.rules = rw (← ni, ← mo, ← na) hp in
    record {
      name = n;
      hit = hit_inj p.hit q.hit hit;
      label = b;
      inputs = inputs_inj _ _ (cut_left (input_texts p.inputs) (input_texts q.inputs) _ _ li e0);
      outputs = outputs_inj _ _ (cut_left (output_texts p.outputs) (output_texts q.outputs) _ _ lo e1);
      annotations = cut_left p.annotations q.annotations _ _ na e2;
      rules = rules_inj _ _ _ p.rules q.rules hp' hq nr (cut_right p.annotations q.annotations _ _ na e2);
    }
