use Rattle.std.proofs.Common.{Some, None, refl, ap, ◌∙◌}
use Rattle.cons_tree.specs.Callees.{as_called, found}
use Rattle.table_keep.specs.Kept.{Standing}
use Rattle.table_keep.specs.Lists.{found_at, member_names}
use Rattle.table_keep.specs.Model.{entries_so, entry_of, entry_so, source_of, sources_so}
use Rattle.table_keep.proofs.StandingEntries.{entry_found, member_told}
use Rattle.table_keep.proofs.unchanged_groups.member_stands.Goals as goal

pub returns-in-Some : goal.returns-in-Some
returns-in-Some c =
    let K : Standing = λ h f. as_called (found c.args.known.now h f) in
    let m = c.args.member.now in
    let T = entries_so c.args.table.now in
    let M = sources_so c.args.sources.now in
    member_told (member_names c.args.group.now) K c.entry_stands.result (source_of M m.name) (found_at M m.source) (entry_of T m.name) (Some (entry_so c.at-entry.result.now)) c.entry_stands.ensures c.requires.source_is
    (entry_found c.args.table.now m.entry c.in-Some.at c.at-entry.result.now (entry_of T m.name) c.requires.entry_is c.in-Some.is c.at-entry.ensures)

pub returns-in-None : goal.returns-in-None
returns-in-None c =
    let K : Standing = λ h f. as_called (found c.args.known.now h f) in
    let m = c.args.member.now in
    let T = entries_so c.args.table.now in
    let M = sources_so c.args.sources.now in
    member_told (member_names c.args.group.now) K _ (source_of M m.name) (source_of M m.name) (entry_of T m.name) None refl refl (c.requires.entry_is ∙ ap (found_at T) c.in-None.is)
