use Rattle.std.proofs.Common.{subst}
use Rattle.table_verify_sweeps.specs.steps.Memos.{IsRight}
use Rattle.table_verify_sweeps.proofs.KeptLaws.{blank_opens, of_dead, of_solved}
use Rattle.table_verify_sweeps.proofs.kept.open.Goals as goal

pub returns-in-Blank-clause-some : goal.returns-in-Blank-clause-some
returns-in-Blank-clause-some c = λ k xs r. blank_opens k _ _ xs c.new.ensures c.new-in-Blank.ensures

pub returns-in-Dead-clause-none : goal.returns-in-Dead-clause-none
returns-in-Dead-clause-none c = of_dead c.args.kept c.in-Dead.is

pub returns-in-Solved-clause-some : goal.returns-in-Solved-clause-some
returns-in-Solved-clause-some c = λ k xs r. subst (λ m. IsRight k m xs) (of_solved c.args.kept c.in-Solved.lows c.in-Solved.inner c.in-Solved.is) r
