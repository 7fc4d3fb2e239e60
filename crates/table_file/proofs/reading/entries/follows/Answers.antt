use Rattle.std.proofs.Common.{◌∙◌, sym}
use Rattle.table_file.proofs.EntryRules.{follows_last}
use Rattle.table_file.proofs.reading.entries.follows.Goals as goal

pub returns-in-Some : goal.returns-in-Some
returns-in-Some c =
    let last = c.in-Some.ensures.item in
    c.comes_first.ensures
    ∙ sym (follows_last c.args.before.now c.args.name.now c.in-Some.last.now last.3.0 (sym last.1) c.requires)
