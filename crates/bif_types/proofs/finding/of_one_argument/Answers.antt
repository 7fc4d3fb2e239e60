use Rattle.std.proofs.Common.{◌++◌, sym, ap, ◌∙◌}
use Rattle.bif_types.specs.Table.{of_one, conversions, type_tests, row_of}
use Rattle.bif_types.proofs.Walks.{found_first, found_second}
use Rattle.bif_types.proofs.finding.of_one_argument.Goals as goal

pub returns-in-Some : goal.returns-in-Some
returns-in-Some c = sym (found_first of_one (conversions ++ type_tests) c.args.name.now c.in-Some.bif (ap (λ rows. row_of rows c.args.name.now) (sym c.of_one.ensures) ∙ sym c.named.ensures ∙ c.in-Some.is))

pub returns-in-None : goal.returns-in-None
returns-in-None c = c.conversion_or_test.ensures ∙ sym (found_second of_one (conversions ++ type_tests) c.args.name.now (ap (λ rows. row_of rows c.args.name.now) (sym c.of_one.ensures) ∙ sym c.named.ensures ∙ c.in-None.is))
