use Rattle.std.proofs.Common.{◌≡◌, false, rules}
use Rattle.da_shelf.specs.ShelfState.{replace_fails}
use Rattle.da_shelf.proofs.mem_shelf.MemShelfShelf.replace.Goals as goal

pub returns-in-Ok-clause-failed : goal.returns-in-Ok-clause-failed
returns-in-Ok-clause-failed c =
    let working : replace_fails c.args.self.now ≡ false = search rules in
    (λ failed. search rules, λ fails. cc (working, fails))

pub returns-in-Err-clause-failed : goal.returns-in-Err-clause-failed
returns-in-Err-clause-failed c =
    let working : replace_fails c.args.self.now ≡ false = search rules in
    (λ failed. search rules, λ fails. cc (working, fails))
