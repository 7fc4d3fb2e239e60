use Rattle.std.proofs.Common.{refl}
use Rattle.cons_gen_rows.proofs.PatternExits.{skipped}
use Rattle.cons_gen_rows.proofs.patterns.skip_pattern.Goals as goal

pub returns : goal.returns
returns c = skipped c.args.made.now c.walk_pattern.new.made _ c.count-count.result 0 _ c.count-count.ensures c.in_ok-walk_pattern.ensures refl c.truncate.ensures.items refl refl
