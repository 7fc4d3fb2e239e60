use Rattle.std.proofs.Common.{arith, sym, ◌∙◌}
use Rattle.type_kinds_sets.specs.Names.{join}
use Rattle.type_kinds_sets.proofs.AtomKinds.{ok_then, join-below, join-above}
use Rattle.type_kinds_sets.proofs.NameLaws.{as_listed, join-left, join-right, join-least}
use Rattle.type_kinds_sets.proofs.atom_set.AtomSet.join.Goals as goal

pub returns-then-leq-clause-value : goal.returns-then-leq-clause-value
returns-then-leq-clause-value c = ok_then c.copy.result c.copy.ensures (λ r h. h ∙ sym (join-below c.args.self.now c.args.other.now (c.leq.ensures.0 c.if-leq.true)))

pub returns-then-leq-2-clause-value : goal.returns-then-leq-2-clause-value
returns-then-leq-2-clause-value c = ok_then c.copy-then-leq-2.result c.copy-then-leq-2.ensures (λ r h. h ∙ sym (join-above c.args.self.now c.args.other.now (c.leq-2.ensures.0 c.if-leq-2.true)))

pub returns-in-Some-members-clause-value : goal.returns-in-Some-members-clause-value
unfolding join
returns-in-Some-members-clause-value c = ok_then c.both.result c.both.ensures (λ r h. grind (arith, as_listed))

pub returns-in-Some-members-clause-left : goal.returns-in-Some-members-clause-left
returns-in-Some-members-clause-left c = ok_then c.both.result (returns-in-Some-members-clause-value c) (λ r h. rw h (join-left c.args.self.now c.args.other.now))

pub returns-in-Some-members-clause-right : goal.returns-in-Some-members-clause-right
returns-in-Some-members-clause-right c = ok_then c.both.result (returns-in-Some-members-clause-value c) (λ r h. rw h (join-right c.args.self.now c.args.other.now))

pub returns-in-Some-members-clause-least : goal.returns-in-Some-members-clause-least
returns-in-Some-members-clause-least c = ok_then c.both.result (returns-in-Some-members-clause-value c) (λ r h. rw h (join-least c.args.self.now c.args.other.now))
