use Rattle.std.proofs.Common.{ap, ◌∙◌}
use Rattle.type_bytes.specs.ShortNames.{is_short}
use Rattle.type_bytes.proofs.Shorts.{not_all, one_more, same_list}
use Rattle.type_bytes.proofs.short_names.all_short.Goals as goal

pub loop-atom-preserved : goal.loop-atom-preserved
loop-atom-preserved c = one_more is_short (λ xs. xs) (λ x. x) same_list c.args.atoms.now c.loop-atom.atom-index c.atom-item.result c.loop-atom-test.true c.atom-item.is c.is_short_atom.result
    (c.is_short_atom.ensures ∙ ap is_short c.get.ensures) c.if-not-is_short_atom.false c.loop-atom.invariant

pub returns-then-not-is_short_atom : goal.returns-then-not-is_short_atom
returns-then-not-is_short_atom c = not_all is_short (λ xs. xs) (λ x. x) same_list c.args.atoms.now c.loop-atom.atom-index c.atom-item.result c.loop-atom-test.true c.atom-item.is c.is_short_atom.result
    (c.is_short_atom.ensures ∙ ap is_short c.get.ensures) c.if-not-is_short_atom.true
