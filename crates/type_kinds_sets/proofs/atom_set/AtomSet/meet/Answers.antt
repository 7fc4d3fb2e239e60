use Rattle.std.proofs.Common.{arith, sym, ◌∙◌}
use Rattle.type_kinds_sets.specs.Names.{meet}
use Rattle.type_kinds_sets.proofs.AtomKinds.{ok_then, meet-below, meet-above}
use Rattle.type_kinds_sets.proofs.NameLaws.{as_listed, has-meet}
use Rattle.type_kinds_sets.proofs.atom_set.AtomSet.meet.Goals as goal

pub returns-then-leq-clause-value : goal.returns-then-leq-clause-value
returns-then-leq-clause-value c = ok_then c.copy.result c.copy.ensures (λ r h. h ∙ sym (meet-below c.args.self.now c.args.other.now (c.leq.ensures.0 c.if-leq.true)))

pub returns-then-leq-2-clause-value : goal.returns-then-leq-2-clause-value
returns-then-leq-2-clause-value c = ok_then c.copy-then-leq-2.result c.copy-then-leq-2.ensures (λ r h. h ∙ sym (meet-above c.args.self.now c.args.other.now (c.leq-2.ensures.0 c.if-leq-2.true)))

pub returns-in-Some-clause-value : goal.returns-in-Some-clause-value
unfolding meet
returns-in-Some-clause-value c = ok_then c.kept.result c.kept.ensures (λ r h. grind (arith, as_listed))

pub returns-in-Some-clause-both : goal.returns-in-Some-clause-both
returns-in-Some-clause-both c = ok_then c.kept.result (returns-in-Some-clause-value c) (λ r h. rw h (has-meet c.args.self.now c.args.other.now))
