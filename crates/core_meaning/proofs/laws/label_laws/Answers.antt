use Rattle.core_scope.specs.Places.StandsIn.{deeper}
use Rattle.core_scope.specs.Places.HasPart.{letrec_definitions}
use Rattle.core_meaning.proofs.AtLabels.{fun_is_found, definitions_are_found, top_is_found}
use Rattle.core_meaning.proofs.laws.label_laws.Goals as goal

pub returns-clause-functions : goal.returns-clause-functions
returns-clause-functions c d U s k i xs t known = fun_is_found d (c.functions_by_label.ensures.distinct d) U known s k i xs t

pub returns-clause-letrecs : goal.returns-clause-letrecs
returns-clause-letrecs c d U s k i ds t known h = definitions_are_found d (c.functions_by_label.ensures.distinct d) U known _ ds (deeper h letrec_definitions)

pub returns-clause-definitions : goal.returns-clause-definitions
returns-clause-definitions c d U known = top_is_found d (c.functions_by_label.ensures.distinct d) U known
