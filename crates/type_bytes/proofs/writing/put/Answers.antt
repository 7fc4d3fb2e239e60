use Rattle.std.proofs.Common.{◌≡◌, ◌++◌, true, sym, ap, ◌∙◌, subst}
use Rattle.std.specs.Prelude.{OnOk}
use Rattle.type_kinds.proofs.Results.{on_both}
use Rattle.type_lattice_trees.specs.View.{view}
use Rattle.type_bytes.specs.Spelling.{bytes_of, bytes_at}
use Rattle.type_bytes.specs.ShortNames.{is_short_at, has_short_names}
use Rattle.type_bytes.proofs.writing.put.Goals as goal

pub append_type-answer-requires-clause-short : goal.append_type-answer-requires-clause-short
unfolding has_short_names
append_type-answer-requires-clause-short c = subst (λ t. is_short_at 4 t ≡ true) (sym c.node.ensures.value) c.requires.short

pub returns-clause-ok : goal.returns-clause-ok
unfolding bytes_of
returns-clause-ok c =
    let written = subst (λ r. OnOk r (c.append_type-answer.new.out ≡ c.args.out.now ++ bytes_at 4 (view 4 c.node.result.now))) (sym c.or_truncate.ensures.answer) c.append_type-answer.ensures.ok in
    on_both c.or_truncate.result written c.or_truncate.ensures.ok (λ w k. k ∙ w ∙ ap (λ t. c.args.out.now ++ bytes_at 4 t) c.node.ensures.value)
