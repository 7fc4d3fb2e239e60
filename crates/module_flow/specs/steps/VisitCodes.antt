-- How visits are stored.
use Rattle.std.specs.Prelude.{List}
use Rattle.std.specs.Coded.{Coded, coded_list}
use Rattle.module_flow.specs.declared.visits.Visit.{Visit}
use Rattle.module_flow.specs.contracts.visits.Visit as visit

abbrev pub visits_code : Coded (List Visit)
visits_code = coded_list (visit.the_row).coded
