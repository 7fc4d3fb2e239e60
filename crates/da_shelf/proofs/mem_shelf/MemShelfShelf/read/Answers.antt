use Rattle.std.proofs.Common.{◌≡◌, false, rules}
use Rattle.da_shelf.specs.ShelfState.{read_fails}
use Rattle.da_shelf.proofs.mem_shelf.MemShelfShelf.read.Goals as goal

pub returns-clause-failed : goal.returns-clause-failed
returns-clause-failed c =
    let working : read_fails c.args.self.now ≡ false = search rules in
    (λ failed. absurd (c.answer.ensures.working failed), λ fails. cc (working, fails))
