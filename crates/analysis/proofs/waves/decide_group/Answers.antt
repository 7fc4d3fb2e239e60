use Rattle.std.proofs.Common.{◌≡◌, sym, ap, ◌∙◌, subst, Contains}
use Rattle.std.proofs.lemmas.Result.{on_ok_weaker}
use Rattle.cons_tree.specs.Callees.{found}
use Rattle.table_keep.specs.Groups.{groups_in, group_at}
use Rattle.table_keep.specs.Lists.{lists_of, member_names}
use Rattle.table_keep.specs.Model.{entries_so, sources_so}
use Rattle.analysis.specs.steps.Entering.{with_entries_of}
use Rattle.analysis.proofs.Waving.{kept_group, kept_others}
use Rattle.analysis.proofs.waves.decide_group.Goals as goal

pub enter_group-requires : goal.enter_group-requires
enter_group-requires c = λ m has_m.
    let k = c.requires.made_for c.members.result.now m c.members.ensures.among (subst (λ xs. Contains xs m) c.as_slice-members.ensures has_m) in
    record { within = k.entry_within; is = k.entry_is }

pub returns-then-unchanged-clause-wave : goal.returns-then-unchanged-clause-wave
returns-then-unchanged-clause-wave c =
    let names : member_names c.as_slice-members.result.now ≡ group_at (lists_of c.args.list.now) c.args.group = ap member_names c.as_slice-members.ensures ∙ c.members.ensures.names in
    on_ok_weaker c.enter_group.result
    (λ is.
    kept_group (entries_so c.args.table.now) (sources_so c.args.sources.now) (groups_in (lists_of c.args.list.now)) c.args.group (found c.args.known.now) (found c.enter_group.new.known) c.args.todo.now
    (sym c.unchanged.ensures ∙ c.if-unchanged.true) (is ∙ ap (λ ns. with_entries_of (entries_so c.args.table.now) ns (found c.args.known.now)) names))
    c.enter_group.ensures

pub returns-then-unchanged-clause-others : goal.returns-then-unchanged-clause-others
returns-then-unchanged-clause-others c =
    let names : member_names c.as_slice-members.result.now ≡ group_at (lists_of c.args.list.now) c.args.group = ap member_names c.as_slice-members.ensures ∙ c.members.ensures.names in
    on_ok_weaker c.enter_group.result
    (λ is.
    kept_others (entries_so c.args.table.now) (sources_so c.args.sources.now) (groups_in (lists_of c.args.list.now)) c.args.group (found c.args.known.now) (found c.enter_group.new.known) c.args.todo.now
    (sym c.unchanged.ensures ∙ c.if-unchanged.true) (is ∙ ap (λ ns. with_entries_of (entries_so c.args.table.now) ns (found c.args.known.now)) names))
    c.enter_group.ensures
