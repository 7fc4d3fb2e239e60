use Rattle.sound_laws_rounds.proofs.laws.whole_holds.Goals as goal

pub returns-clause-strict : goal.returns-clause-strict
returns-clause-strict c U K accepted whole = c.success_typings.ensures.strict U K accepted (c.whole_is_closed.ensures U K whole)

pub returns-clause-lenient : goal.returns-clause-lenient
returns-clause-lenient c U K accepted whole = c.success_typings.ensures.lenient U K accepted (c.whole_is_closed.ensures U K whole)
