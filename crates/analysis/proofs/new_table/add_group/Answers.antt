use Rattle.std.proofs.Common.{[], ◌∷◌, take, sym, ap, ◌∙◌, subst}
use Rattle.type_kinds.proofs.Lists.{map_next}
use Rattle.cons_tree.specs.Callees.{found}
use Rattle.table_keep.specs.Groups.{has}
use Rattle.table_keep.specs.Lists.{member_names}
use Rattle.table_keep.specs.Model.{entries_so, sources_so}
use Rattle.analysis.specs.steps.Adding.{Adds}
use Rattle.analysis.specs.steps.Keyed.{entry_at}
use Rattle.analysis.proofs.Added.{adds_one_more, member_has}
use Rattle.analysis.proofs.new_table.add_group.Goals as goal

pub add_member-requires-clause-member : goal.add_member-requires-clause-member
add_member-requires-clause-member c = c.requires.members c.member-item.result (c.loop-member.member-index, c.loop-member-test.true, sym c.member-item.is)

pub add_member-requires-clause-own : goal.add_member-requires-clause-own
add_member-requires-clause-own c =
    ap (λ ns. has ns c.member-item.result.name) (c.as_slice.ensures ∙ c.in_ok-names.ensures)
    ∙ member_has c.args.members.now c.member-item.result (c.loop-member.member-index, c.loop-member-test.true, sym c.member-item.is)

pub loop-member-preserved : goal.loop-member-preserved
loop-member-preserved c =
    let K = entries_so c.args.kept.now in
    let M = sources_so c.args.sources.now in
    let known = found c.args.decided.now.known in
    let lines = c.args.decided.now.lines in
    let names = member_names c.args.members.now in
    let one = subst (λ ns. Adds K M known lines ns (c.member-item.result.name ∷ []) (entry_at c.loop-member.entries.by_name) (entry_at c.add_member.new.entries.by_name))
    (c.as_slice.ensures ∙ c.in_ok-names.ensures) c.in_ok-add_member.ensures in
    subst (λ ns. Adds K M known lines names ns (entry_at c.args.entries.now.by_name) (entry_at c.add_member.new.entries.by_name))
    (sym (map_next (λ m. m.name) c.args.members.now c.loop-member.member-index c.member-item.result c.loop-member-test.true c.member-item.is))
    (adds_one_more K M known lines names (member_names (take c.loop-member.member-index c.args.members.now)) c.member-item.result.name (entry_at c.args.entries.now.by_name) (entry_at c.loop-member.entries.by_name)
    (entry_at c.add_member.new.entries.by_name) c.loop-member.invariant one)
