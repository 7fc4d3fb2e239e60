use Rattle.std.proofs.Common.{sym, subst}
use Rattle.cons_tree.specs.Callees.{found}
use Rattle.table_keep.specs.Groups.{groups_in, has}
use Rattle.table_keep.specs.Lists.{lists_of}
use Rattle.table_keep.specs.Model.{picked, sources_so, entries_so, trees}
use Rattle.sound_laws_kept.proofs.Names.{are_picked}
use Rattle.analysis.specs.steps.Deciding.{IsDecided}
use Rattle.analysis.proofs.Handed.{are_sources, all_define}
use Rattle.analysis.proofs.OneWave.{one_wave}
use Rattle.analysis.proofs.waves.decide_wave.Goals as goal

pub returns-clause-more : goal.returns-clause-more
returns-clause-more g c =
    let are = are_sources c.args.sources.now c.requires.distinct in
    let some = are_picked (has c.in_ok-wave.wave.todo) (sources_so c.args.sources.now) are in
    (one_wave (record {
      waves = c.waves_are_groups.ensures;
      rests = c.stands_rests.ensures;
      carried = c.known_is_carried.ensures;
      outside = c.findings_rest_on_calls.ensures.outside;
    })
    (entries_so c.args.table.now) (sources_so c.args.sources.now) are (all_define c.args.sources.now) (groups_in (lists_of c.args.list.now)) c.requires.groups c.args.first
    (found c.args.decided.now.known) c.args.decided.now.changed c.args.decided.now.lines c.in_ok-wave.wave.next (found c.wave_from.new.known) (found c.solve_wave.new.known) c.in_ok-wave.wave.todo c.solve_wave.new.lines
    (record {
      decided = c.requires.decided;
      less = c.requires.below;
      wave = c.in_ok-wave.ensures.wave;
      others = c.in_ok-wave.ensures.others;
      solved =
          c.solved_is_known.ensures (trees (picked (has c.in_ok-wave.wave.todo) (sources_so c.args.sources.now))) (found c.wave_from.new.known) (found c.solve_wave.new.known) some.accepted some.distinct
          c.in_ok-solve_wave.ensures.known;
      reported = c.in_ok-solve_wave.ensures.lines;
    })).0

pub returns-clause-decided : goal.returns-clause-decided
returns-clause-decided g c =
    let are = are_sources c.args.sources.now c.requires.distinct in
    let some = are_picked (has c.in_ok-wave.wave.todo) (sources_so c.args.sources.now) are in
    subst
    (λ changed.
    IsDecided (entries_so c.args.table.now) (sources_so c.args.sources.now) (groups_in (lists_of c.args.list.now)) c.in_ok-wave.wave.next (found c.solve_wave.new.known) changed c.solve_wave.new.lines)
    (sym c.in_ok-wave.ensures.changed)
    (one_wave (record {
      waves = c.waves_are_groups.ensures;
      rests = c.stands_rests.ensures;
      carried = c.known_is_carried.ensures;
      outside = c.findings_rest_on_calls.ensures.outside;
    })
    (entries_so c.args.table.now) (sources_so c.args.sources.now) are (all_define c.args.sources.now) (groups_in (lists_of c.args.list.now)) c.requires.groups c.args.first
    (found c.args.decided.now.known) c.args.decided.now.changed c.args.decided.now.lines c.in_ok-wave.wave.next (found c.wave_from.new.known) (found c.solve_wave.new.known) c.in_ok-wave.wave.todo c.solve_wave.new.lines
    (record {
      decided = c.requires.decided;
      less = c.requires.below;
      wave = c.in_ok-wave.ensures.wave;
      others = c.in_ok-wave.ensures.others;
      solved =
          c.solved_is_known.ensures (trees (picked (has c.in_ok-wave.wave.todo) (sources_so c.args.sources.now))) (found c.wave_from.new.known) (found c.solve_wave.new.known) some.accepted some.distinct
          c.in_ok-solve_wave.ensures.known;
      reported = c.in_ok-solve_wave.ensures.lines;
    })).1
