-- The numbers of an end.
use mathlib.Core.Path.{◌≡◌, sym, ap, ◌∙◌}
use Rattle.builder.specs.ends.Ends.{End}
use Rattle.builder.specs.numbers.Answers.{answer_of}
use Rattle.builder.specs.declared.numbers.Answer.{Answer}

pub end_told : (e f : End) (x : Answer) → e ≡ f → x ≡ answer_of f.outcome → (x ≡ answer_of e.outcome) × ((f.works ≡ e.works) × (f.out ≡ e.out))
end_told e f x q h = (h ∙ ap (λ (g : End). answer_of g.outcome) (sym q), (ap (λ (g : End). g.works) (sym q), ap (λ (g : End). g.out) (sym q)))
