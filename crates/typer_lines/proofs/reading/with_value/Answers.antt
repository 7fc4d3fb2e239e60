use Rattle.std.proofs.Common.{◌∷◌, Some, sym, ap, ap₂, ◌∙◌}
use Rattle.std.proofs.lemmas.Option.{same_Some}
use Rattle.cons_tree.specs.Signatures.{agreed}
use Rattle.typer_lines.proofs.SigLaws.{made_again}
use Rattle.typer_lines.proofs.reading.with_value.Goals as goal

pub returns-in-Some-clause-complete : goal.returns-in-Some-clause-complete
returns-in-Some-clause-complete c = λ s e f.
    let value = same_Some c.in-Some.value s.result (sym c.in-Some.is ∙ c.in_ok-value.ensures s.result f) in
    ap Some (made_again c.decision_laws.ensures.none c.new.result s (c.new.ensures.types ∙ ap₂ (λ v ts. agreed (v ∷ ts)) value e))
