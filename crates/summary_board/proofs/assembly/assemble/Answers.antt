use Rattle.std.proofs.Common.{◌≡◌, ◌∙◌, ap, arith, length}
use Rattle.summary_board.specs.Solved.{solved}
use Rattle.summary_board.proofs.SolvedLaws.{solved_length, each_written}
use Rattle.summary_board.proofs.assembly.assemble.Goals as goal

pub returns-clause-count : goal.returns-clause-count
returns-clause-count g c =
    let work = c.args.work.now in
    let n = g.W.Work.count_of work in
    let last : c.loop-c.c ≡ n = omega (arith, c.loop-c-test.false, c.loop-c.auto.c-end, c.count-c-end.ensures) in
    ap length c.loop-c.invariant ∙ (solved_length g.W.Work.written (g.W.Work.part_of work) (g.W.Work.callees_of work) c.loop-c.c ∙ last)

pub returns-clause-each : goal.returns-clause-each
returns-clause-each g c =
    let work = c.args.work.now in
    let part = g.W.Work.part_of work in
    let callees = g.W.Work.callees_of work in
    let n = g.W.Work.count_of work in
    let last : c.loop-c.c ≡ n = omega (arith, c.loop-c-test.false, c.loop-c.auto.c-end, c.count-c-end.ensures) in
    each_written g.W.Work.written part callees c.loop-c.outputs n (c.loop-c.invariant ∙ ap (solved g.W.Work.written part callees) last)
    (λ k less. (g.met.W.Work.ascending work k less).1)
