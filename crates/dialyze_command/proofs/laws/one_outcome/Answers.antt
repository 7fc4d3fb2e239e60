use Rattle.dialyze_command.proofs.OneOutcome as one
use Rattle.dialyze_command.proofs.SameCommand as same
use Rattle.dialyze_command.proofs.laws.one_outcome.Goals as goal

pub returns-clause-one : goal.returns-clause-one
returns-clause-one c =
    one.one_outcome c.one_reading_of_files.ensures.one_list c.one_reading_of_files.ensures.one_refusal c.one_reading_of_files.ensures.none_refused
    c.table_laws.ensures.once c.table_laws.ensures.fault_once c.table_laws.ensures.no_fault c.one_analysis.ensures

pub returns-clause-workers : goal.returns-clause-workers
returns-clause-workers c =
    same.same_outcome
    (one.one_outcome c.one_reading_of_files.ensures.one_list c.one_reading_of_files.ensures.one_refusal c.one_reading_of_files.ensures.none_refused
    c.table_laws.ensures.once c.table_laws.ensures.fault_once c.table_laws.ensures.no_fault c.one_analysis.ensures)

pub returns-clause-alone : goal.returns-clause-alone
returns-clause-alone c = same.alone

pub returns-clause-of_sources : goal.returns-clause-of_sources
returns-clause-of_sources c = same.of_sources c.entries_use_called.ensures
