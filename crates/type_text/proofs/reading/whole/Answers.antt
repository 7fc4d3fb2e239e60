use Rattle.std.proofs.Common.{◌≡◌, ◌∙◌, ap, sym, subst, [], Some, length, true≢false}
use Rattle.std.specs.Prelude.{◌==◌}
use Rattle.std.specs.Option.{IsSomeAnd}
use Rattle.std.proofs.lemmas.List.{append-nil}
use Rattle.type_text.specs.Texts.{text_of}
use Rattle.type_text.proofs.reading.whole.Goals as goal

pub returns-in-None : goal.returns-in-None
returns-in-None c = λ t e. absurd (subst (λ r. IsSomeAnd r (λ p. (p.0 ≡ t) × (p.1.now ≡ []))) c.in-None.is (c.in_ok-read_front.ensures t [] tt (e ∙ sym (append-nil (text_of t)))))

pub returns-then-is_empty : goal.returns-then-is_empty
returns-then-is_empty c = λ t e.
    let h = subst (λ r. IsSomeAnd r (λ p. (p.0 ≡ t) × (p.1.now ≡ []))) c.in-Some.is (c.in_ok-read_front.ensures t [] tt (e ∙ sym (append-nil (text_of t)))) in
    ap Some h.0

pub returns-else-is_empty : goal.returns-else-is_empty
returns-else-is_empty c = λ t e.
    let h = subst (λ r. IsSomeAnd r (λ p. (p.0 ≡ t) × (p.1.now ≡ []))) c.in-Some.is (c.in_ok-read_front.ensures t [] tt (e ∙ sym (append-nil (text_of t)))) in
    absurd (true≢false (sym (ap (λ l. length l == 0) h.1) ∙ sym c.is_empty.ensures ∙ c.if-is_empty.false))
