use Rattle.core_scan.proofs.AnswerLemmas.{tokens_or_fault}
use Rattle.core_scan.proofs.laws.lexed_or_fault.Goals as goal

pub returns : goal.returns
returns c = tokens_or_fault
