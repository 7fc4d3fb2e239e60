use Rattle.std.proofs.Common.{Some, sym, ap, ◌∙◌}
use Rattle.std.proofs.lemmas.Result.{on_ok_weaker}
use Rattle.cons_tree.specs.Callees.{found}
use Rattle.table_keep.specs.Groups.{has}
use Rattle.table_keep.specs.Lists.{found_at}
use Rattle.table_keep.specs.Model.{entries_so, entry_of, entry_so, source_so, sources_so}
use Rattle.sound_laws_kept.proofs.Trees.{source_stands}
use Rattle.analysis.specs.steps.Keyed.{entry_at}
use Rattle.analysis.proofs.Added.{adds_kept, adds_made, adds_nothing, found_source, member_entry, member_source}
use Rattle.analysis.proofs.Handed.{are_sources, source_at}
use Rattle.analysis.proofs.new_table.add_member.Goals as goal

pub entry_from-requires-clause-own : goal.entry_from-requires-clause-own
entry_from-requires-clause-own c =
    let ss = c.args.sources.now in
    let at = found_source ss c.args.member.now.source c.in-None-Some.at c.index-sources-at.result c.in-None-Some.is-1 c.requires.member.source_within c.index-sources-at.is in
    let there = member_source ss c.args.member.now.name c.args.member.now.source c.in-None-Some.at c.index-sources-at.result c.requires.member.source_is c.in-None-Some.is-1 at in
    ap (has c.args.group.now) (source_stands (sources_so ss) c.args.member.now.name (source_so c.index-sources-at.result) there).1 ∙ c.requires.own

pub entry_from-requires-clause-known : goal.entry_from-requires-clause-known
entry_from-requires-clause-known c =
    let ss = c.args.sources.now in
    let at = found_source ss c.args.member.now.source c.in-None-Some.at c.index-sources-at.result c.in-None-Some.is-1 c.requires.member.source_within c.index-sources-at.is in
    let there = member_source ss c.args.member.now.name c.args.member.now.source c.in-None-Some.at c.index-sources-at.result c.requires.member.source_is c.in-None-Some.is-1 at in
    let stands = source_stands (sources_so ss) c.args.member.now.name (source_so c.index-sources-at.result) there in
    c.requires.open (source_so c.index-sources-at.result) stands.0
    (ap (entry_of (entries_so c.args.kept.now)) stands.1 ∙ c.requires.member.entry_is ∙ ap (found_at (entries_so c.args.kept.now)) c.in-None-Some.is-0)

pub returns-in_ok-copy-in-Some-default : goal.returns-in_ok-copy-in-Some-default
returns-in_ok-copy-in-Some-default c =
    on_ok_weaker c.add.result
    (λ puts.
    adds_kept (entries_so c.args.kept.now) (sources_so c.args.sources.now) (found c.args.decided.now.known) c.args.decided.now.lines c.args.group.now c.args.member.now.name (entry_so c.in_ok-copy-in-Some-default.field-0)
    (entry_at c.args.entries.now.by_name) (entry_at c.add.new.self.by_name)
    (member_entry c.args.kept.now.entries c.args.member.now.name c.args.member.now.entry c.in-Some-default.at c.at.result.now c.in_ok-copy-in-Some-default.field-0 c.requires.member.entry_is c.in-Some-default.is-0 c.at.ensures
    c.in_ok-copy-in-Some-default.ensures)
    puts)
    c.add.ensures

pub returns-in_ok-entry-in-None-Some : goal.returns-in_ok-entry-in-None-Some
returns-in_ok-entry-in-None-Some c =
    let ss = c.args.sources.now in
    let s = c.index-sources-at.result in
    let at = found_source ss c.args.member.now.source c.in-None-Some.at s c.in-None-Some.is-1 c.requires.member.source_within c.index-sources-at.is in
    let there = member_source ss c.args.member.now.name c.args.member.now.source c.in-None-Some.at s c.requires.member.source_is c.in-None-Some.is-1 at in
    let stands = source_stands (sources_so ss) c.args.member.now.name (source_so s) there in
    on_ok_weaker c.add-in-None-Some.result
    (λ puts.
    adds_made (entries_so c.args.kept.now) (sources_so ss) (found c.args.decided.now.known) c.args.decided.now.lines (are_sources ss c.requires.distinct).distinct c.args.group.now c.args.member.now.name c.in-None-Some.at
    (source_so s) (entry_so c.in_ok-entry-in-None-Some.entry) c.in_ok-lines-in-None-Some.lines (entry_at c.args.entries.now.by_name) (entry_at c.add-in-None-Some.new.self.by_name) (source_at ss c.in-None-Some.at s at) stands.1
    (c.requires.member.entry_is ∙ ap (found_at (entries_so c.args.kept.now)) c.in-None-Some.is-0) c.in_ok-entry-in-None-Some.ensures.made c.in_ok-entry-in-None-Some.ensures.exports
    (c.at-in-None-Some.ensures ∙ ap Some (sym c.in_ok-lines-in-None-Some.ensures)) c.in_ok-entry-in-None-Some.ensures.lines puts)
    c.add-in-None-Some.ensures

pub returns-in-None-None : goal.returns-in-None-None
returns-in-None-None c =
    adds_nothing (entries_so c.args.kept.now) (sources_so c.args.sources.now) (found c.args.decided.now.known) c.args.decided.now.lines c.args.group.now c.args.member.now.name (entry_at c.args.entries.now.by_name)
    (c.requires.member.source_is ∙ ap (found_at (sources_so c.args.sources.now)) c.in-None-None.is-1) (c.requires.member.entry_is ∙ ap (found_at (entries_so c.args.kept.now)) c.in-None-None.is-0)
