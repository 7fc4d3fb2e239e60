use Rattle.core_meaning.specs.Programs.{HasModule}
use Rattle.sound_laws_flow.proofs.Listed.{is_under_its_name}
use Rattle.sound_laws_flow.proofs.laws.nothing_is_false.Goals as goal

pub returns-clause-known : goal.returns-clause-known
returns-clause-known c U K x accepted known has = record {
  defined = c.no_finding_is_false.ensures.defined U K x accepted known has;
  no_return = c.no_finding_is_false.ensures.no_return U K x accepted known has;
  dead_call = c.no_finding_is_false.ensures.dead_call U K x accepted known has;
  dead_clause = c.no_finding_is_false.ensures.dead_clause U K x accepted known has;
  never_called = c.no_finding_is_false.ensures.never_called U K x accepted known has;
}

pub returns-clause-whole : goal.returns-clause-whole
returns-clause-whole c U K x accepted whole has = returns-clause-known c U K x accepted (c.whole_is_known.ensures U K whole) has

pub returns-clause-each : goal.returns-clause-each
returns-clause-each c U K x accepted distinct whole among =
    let has : HasModule U x = is_under_its_name U x distinct among in
    returns-clause-known c U K x accepted (c.whole_is_known.ensures U K whole) has
