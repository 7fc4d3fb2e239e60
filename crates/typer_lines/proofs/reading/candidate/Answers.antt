use Rattle.std.proofs.Common.{refl, sym, ap, ◌∙◌}
use Rattle.std.proofs.lemmas.Option.{none-some}
use Rattle.typer_lines.proofs.Found.{not_missing, found_so}
use Rattle.typer_lines.proofs.LineParts.{behind_home, behind_name, line_text}
use Rattle.typer_lines.proofs.SameTyping.{same_typing}
use Rattle.typer_lines.proofs.reading.candidate.Goals as goal

pub returns-in_default-clause-complete : goal.returns-in_default-clause-complete
returns-in_default-clause-complete c = λ t h e. absurd (not_missing _ c.in_default.is (c.in_ok-home.ensures.complete t.home (behind_home t) (e ∙ line_text t)))

pub returns-in_default-2-clause-complete : goal.returns-in_default-2-clause-complete
returns-in_default-2-clause-complete c = λ t h e.
    let home = found_so _ _ c.in-Some.is (c.in_ok-home.ensures.complete t.home (behind_home t) (e ∙ line_text t)) in
    absurd (not_missing _ c.in_default-2.is (c.in_ok-name.ensures.complete t.name (behind_name t) h.few refl home.1))

pub returns-in_default-3-clause-complete : goal.returns-in_default-3-clause-complete
returns-in_default-3-clause-complete c = λ t h e.
    let home = found_so _ _ c.in-Some.is (c.in_ok-home.ensures.complete t.home (behind_home t) (e ∙ line_text t)) in
    let name = found_so _ _ c.in-Some-2.is (c.in_ok-name.ensures.complete t.name (behind_name t) h.few refl home.1) in
    absurd (none-some t.sig (sym c.in_default-3.is ∙ c.in_ok-sig.ensures.complete t.sig (h.taken ∙ sym (ap (λ f. f.arity) name.0)) name.1))

pub returns-clause-complete : goal.returns-clause-complete
returns-clause-complete c = λ t h e.
    let home = found_so _ _ c.in-Some.is (c.in_ok-home.ensures.complete t.home (behind_home t) (e ∙ line_text t)) in
    let name = found_so _ _ c.in-Some-2.is (c.in_ok-name.ensures.complete t.name (behind_name t) h.few refl home.1) in
    same_typing _ t home.0 name.0 (sym c.in-Some-3.is ∙ c.in_ok-sig.ensures.complete t.sig (h.taken ∙ sym (ap (λ f. f.arity) name.0)) name.1)
