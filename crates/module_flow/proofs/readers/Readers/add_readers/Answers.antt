use Rattle.std.proofs.Common.{◌++◌, sym, ap, ◌∙◌, append-nil}
use Rattle.module_flow.proofs.NotedReaders.{no_readers}
use Rattle.module_flow.proofs.readers.Readers.add_readers.Goals as goal

pub returns-in-None : goal.returns-in-None
returns-in-None c =
    sym
    (ap (λ xs. c.args.positions.now ++ xs) (no_readers c.args.self.now.table c.args.label c.get.result c.in-None.is c.get.ensures.value) ∙ append-nil c.args.positions.now)
