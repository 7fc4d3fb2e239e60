use Rattle.std.proofs.Common.{◌≡◌, ◌<◌, true, false, length, sym, ap, ◌∙◌, subst, Contains, add-one, arith}
use Rattle.cons_tree.specs.Callees.{found}
use Rattle.table_keep.specs.Groups.{groups_in, group_at}
use Rattle.table_keep.specs.Lists.{lists_of, member_names}
use Rattle.table_keep.specs.Model.{entries_so, sources_so}
use Rattle.sound_laws_kept.specs.Waves.{stops}
use Rattle.analysis.proofs.Waving.{InWave, stop_here, in_next}
use Rattle.analysis.proofs.waves.wave_from.Goals as goal

pub stops-requires : goal.stops-requires
stops-requires c = λ m has_m. c.requires.made_for c.members.result.now m c.members.ensures.among (subst (λ xs. Contains xs m) c.as_slice.ensures has_m)

pub returns-then-branch-clause-wave : goal.returns-then-branch-clause-wave
returns-then-branch-clause-wave c =
    let names : member_names c.as_slice.result.now ≡ group_at (lists_of c.args.list.now) c.loop-group.group = ap member_names c.as_slice.ensures ∙ c.members.ensures.names in
    let low : c.loop-group.group < length (lists_of c.args.list.now) = omega arith in
    let halts : stops (entries_so c.args.table.now) (sources_so c.args.sources.now) c.loop-group.todo (group_at (lists_of c.args.list.now) c.loop-group.group) ≡ true =
    ap (stops (entries_so c.args.table.now) (sources_so c.args.sources.now) c.loop-group.todo) (sym names) ∙ sym c.in_ok-stops.ensures ∙ c.if-branch.true in
    sym (stop_here (entries_so c.args.table.now) (sources_so c.args.sources.now) (groups_in (lists_of c.args.list.now)) c.loop-group.group (found c.loop-group.known) c.loop-group.todo low halts)
    ∙ c.loop-group.invariant.wave

pub loop-group-preserved : goal.loop-group-preserved
loop-group-preserved c =
    let names : member_names c.as_slice.result.now ≡ group_at (lists_of c.args.list.now) c.loop-group.group = ap member_names c.as_slice.ensures ∙ c.members.ensures.names in
    let low : c.loop-group.group < length (lists_of c.args.list.now) = omega arith in
    let free : stops (entries_so c.args.table.now) (sources_so c.args.sources.now) c.loop-group.todo (group_at (lists_of c.args.list.now) c.loop-group.group) ≡ false =
    ap (stops (entries_so c.args.table.now) (sources_so c.args.sources.now) c.loop-group.todo) (sym names) ∙ sym c.in_ok-stops.ensures ∙ c.if-branch.false in
    subst
    (λ n.
    InWave (entries_so c.args.table.now) (sources_so c.args.sources.now) (groups_in (lists_of c.args.list.now)) c.args.first (found c.args.known.now) c.args.changed.now n
    (found c.decide_group.new.known) c.decide_group.new.todo c.decide_group.new.changed)
    (sym (add-one c.loop-group.group))
    (in_next (entries_so c.args.table.now) (sources_so c.args.sources.now) (groups_in (lists_of c.args.list.now)) c.args.first (found c.args.known.now) c.args.changed.now c.loop-group.group (found c.loop-group.known)
    (found c.decide_group.new.known) c.loop-group.todo c.decide_group.new.todo c.loop-group.changed c.decide_group.new.changed c.loop-group.invariant low free c.in_ok-decide_group.ensures.wave
    c.in_ok-decide_group.ensures.changed c.in_ok-decide_group.ensures.others)
