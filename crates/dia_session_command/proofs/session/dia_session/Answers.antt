use Rattle.dia_session_command.proofs.Ended.{answers_it, usage_it, missing_it, long_it, bad_it, done_it, read_it, write_it, memory_it, possible_it}
use Rattle.dia_session_command.proofs.session.dia_session.Goals as goal

pub returns-clause-outcome : goal.returns-clause-outcome
returns-clause-outcome g c = λ a. answers_it _ _ _ _ _ _ _ _ _ c.ended.ensures.ends a

pub returns-clause-usage : goal.returns-clause-usage
returns-clause-usage g c = λ a. usage_it _ _ _ _ _ _ _ _ _ c.ended.ensures.ends a

pub returns-clause-missing : goal.returns-clause-missing
returns-clause-missing g c = λ a. missing_it _ _ _ _ _ _ _ _ _ c.ended.ensures.ends a

pub returns-clause-too_long : goal.returns-clause-too_long
returns-clause-too_long g c = λ a. long_it _ _ _ _ _ _ _ _ _ c.ended.ensures.ends a

pub returns-clause-bad_line : goal.returns-clause-bad_line
returns-clause-bad_line g c = λ a. bad_it _ _ _ _ _ _ _ _ _ c.ended.ensures.ends a

pub returns-clause-done : goal.returns-clause-done
returns-clause-done g c = λ a. done_it _ _ _ _ _ _ _ _ _ c.ended.ensures.ends a

pub returns-clause-read : goal.returns-clause-read
returns-clause-read g c = λ number e. read_it _ _ _ _ _ _ _ _ _ c.ended.ensures.ends number e

pub returns-clause-write : goal.returns-clause-write
returns-clause-write g c = λ e. write_it _ _ _ _ _ _ _ _ _ c.ended.ensures.ends e

pub returns-clause-memory : goal.returns-clause-memory
returns-clause-memory g c = λ e. memory_it _ _ _ _ _ _ _ _ _ c.ended.ensures.ends e

pub returns-clause-possible : goal.returns-clause-possible
returns-clause-possible g c = possible_it _ _ _ _ _ _ _ _ _ c.ended.ensures.ends
