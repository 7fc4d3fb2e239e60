use Rattle.std.proofs.Common.{sym, ◌∙◌}
use Rattle.std.proofs.lemmas.Bool.{false≢true}
use Rattle.core_scan.proofs.ShapeLemmas.{word_found, word_unknown}
use Rattle.core_scan.proofs.shapes.word.Goals as goal

pub returns-then-not-is_reserved-clause-err : goal.returns-then-not-is_reserved-clause-err
returns-then-not-is_reserved-clause-err c =
    λ _. word_unknown c.args.rest.now c.name_len-len.result c.name_len-len.ensures.run c.args.place c.requires (λ among. false≢true (sym c.if-not-is_reserved.true ∙ c.is_reserved.ensures.1 among))

pub returns-clause-ok : goal.returns-clause-ok
returns-clause-ok c =
    word_found c.args.rest.now c.name_len-len.result c.name_len-len.ensures.run c.in_ok-from_slice.field-0 c.requires c.in_ok-from_slice.ensures (rw c.in_ok-from_slice.ensures (c.is_reserved.ensures.0 c.if-not-is_reserved.false))
