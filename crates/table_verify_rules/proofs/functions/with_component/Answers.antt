use Rattle.std.proofs.Common.{◌<◌, map, subst}
use Rattle.std.proofs.lemmas.List.{length-map}
use Rattle.comp_rounds.specs.Members.{function_of}
use Rattle.analysis_summaries.specs.Functions.{picked}
use Rattle.table_verify_rules.proofs.Closedness.{lenient_so}
use Rattle.table_verify_rules.proofs.functions.with_component.Goals as goal

pub own_functions-requires : goal.own_functions-requires
own_functions-requires c = λ n has. subst (λ k. n < k) (length-map c.args.members.now function_of) (c.requires.within n has)

pub with_members-requires-clause-lenient : goal.with_members-requires-clause-lenient
with_members-requires-clause-lenient c =
    lenient_so c.in_ok-own_functions.field-0 c.args.known.now (picked (map function_of c.args.members.now) c.args.numbers.now) c.in_ok-own_functions.ensures
