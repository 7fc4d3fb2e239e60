use Rattle.std.proofs.Common.{[], ◌∙◌, Some, sym, ap}
use Rattle.std.proofs.lemmas.List.{append-nil}
use Rattle.type_text.specs.Texts.{text_of}
use Rattle.typer_lines.proofs.Found.{not_missing, found_so}
use Rattle.typer_lines.proofs.reading.read_value.Goals as goal

pub returns-in_default-before_end : goal.returns-in_default-before_end
returns-in_default-before_end c = λ t e. absurd (c.in_default-before_end.ensures (text_of t) (c.in-Some.ensures.complete _ e))

pub returns-in-None : goal.returns-in-None
returns-in-None c = λ t e.
    let before = c.in-Some-before_end.ensures (text_of t) (c.in-Some.ensures.complete _ e) in
    absurd (not_missing _ c.in-None.is (c.in_ok-value.ensures t [] tt (before ∙ sym (append-nil (text_of t)))))

pub returns-in-Some-2 : goal.returns-in-Some-2
returns-in-Some-2 c = λ t e.
    let before = c.in-Some-before_end.ensures (text_of t) (c.in-Some.ensures.complete _ e) in
    ap Some (found_so _ _ c.in-Some-2.is (c.in_ok-value.ensures t [] tt (before ∙ sym (append-nil (text_of t))))).0
