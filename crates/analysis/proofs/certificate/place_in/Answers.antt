use Rattle.analysis.proofs.Certifying.{not_there, place_is}
use Rattle.analysis.proofs.certificate.place_in.Goals as goal

pub unreachable-requires : goal.unreachable-requires
unreachable-requires c =
    absurd (not_there c.args.sources.now c.requires.distinct c.args.names.now c.requires.names c.args.name.now c.place_of.result c.in-None.is c.place_of.ensures.bound c.requires.there)

pub returns-clause-there : goal.returns-clause-there
returns-clause-there c =
    place_is c.args.sources.now c.requires.distinct c.args.names.now c.requires.names c.args.name.now c.in-Some.place c.in-Some.ensures.there c.in-Some.ensures.innermost
