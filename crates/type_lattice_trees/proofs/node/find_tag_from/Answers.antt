use Rattle.std.proofs.Common.{Some, sym, ap, ◌∙◌}
use Rattle.type_lattice_trees.proofs.TagWalks.{tag_read, nothing_left}
use Rattle.type_lattice_trees.proofs.node.find_tag_from.Goals as goal

pub returns-then-is-clause-found : goal.returns-then-is-clause-found
returns-then-is-clause-found c = tag_read _ _ c.index-tags-at.result c.loop-at-test.true ∙ ap Some (sym c.get.ensures ∙ c.is.ensures.0 c.if-is.true)

pub returns-clause-missing : goal.returns-clause-missing
returns-clause-missing c = λ d. c.loop-at.invariant d ∙ nothing_left _ _ _ d c.loop-at-test.false
