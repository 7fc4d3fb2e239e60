use Rattle.std.proofs.Common.{◌≡◌, [], None, subst, sym, ◌∙◌, arith}
use Rattle.std.specs.Prelude.{Contains}
use Rattle.std.proofs.lemmas.List.Elements.{Contains-push}
use Rattle.fun_flow_solver.specs.steps.Work.{IsWork}
use Rattle.fun_flow_solver.proofs.Working.{work_begins, work_ends, pair_taken, empty_list}
use Rattle.fun_flow_solver.proofs.solving.solve.Goals as goal

pub loop-init : goal.loop-init
loop-init c = (
  c.in_ok-start.ensures.moves.count ∙ c.in_ok-sets.ensures.count,
  (
    c.in_ok-out.ensures.count,
    (
      work_begins c.args.problem.now c.in_ok-sets.sets c.in_ok-out.out c.new-queue.result.items c.start.new.sets c.start.new.queue.items c.new-queue.ensures.items c.in_ok-sets.ensures.none c.in_ok-out.ensures.just
          c.in_ok-start.ensures.moves c.in_ok-start.ensures.only,
      (c.in_ok-start.ensures.all, c.in_ok-out.ensures.all),
    ),
  ),
)

pub step-requires-clause-work : goal.step-requires-clause-work
step-requires-clause-work c =
    pair_taken c.args.problem.now c.loop.sets c.loop.out c.pop.new.self.items c.in-Some.pair
    (subst (λ q. IsWork c.args.problem.now None c.loop.sets c.loop.out q) c.in-Some.ensures.items c.loop.invariant.1.1.0)

pub step-requires-clause-held : goal.step-requires-clause-held
step-requires-clause-held c =
    c.loop.invariant.1.1.0.held c.in-Some.pair.place c.in-Some.pair.item
    (subst (λ q. Contains q c.in-Some.pair) (sym c.in-Some.ensures.items) (Contains-push c.pop.new.self.items c.in-Some.pair))

pub loop-preserved : goal.loop-preserved
loop-preserved c = (
  c.in_ok-step-in-Some.ensures.count ∙ c.loop.invariant.0,
  (
    c.in_ok-step-in-Some.ensures.edge_count ∙ c.loop.invariant.1.0,
    (
      c.in_ok-step-in-Some.ensures.work,
      (
        λ s h. c.in_ok-step-in-Some.ensures.grown s.place s.item (c.loop.invariant.1.1.1.0 s h),
        λ e h. c.in_ok-step-in-Some.ensures.edges e.from e.to (c.loop.invariant.1.1.1.1 e h),
      ),
    ),
  ),
)

pub returns-in-None : goal.returns-in-None
returns-in-None c =
    let nothing : c.loop.queue.items ≡ [] = empty_list c.loop.queue.items (λ h. omega (arith, h, c.in-None.ensures.cases.0, c.loop.queue.ok.0)) in
    λ p x. (
      λ h. c.loop.invariant.1.1.0.sound p x h,
      λ r. work_ends c.args.problem.now c.loop.sets c.loop.out (subst (λ q. IsWork c.args.problem.now None c.loop.sets c.loop.out q) nothing c.loop.invariant.1.1.0) c.loop.invariant.1.1.1.0 c.loop.invariant.1.1.1.1 p x r,
    )
