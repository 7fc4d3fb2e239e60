use Rattle.std.proofs.Common.{sym, subst}
use Rattle.std.proofs.lemmas.List.{drop_more}
use Rattle.cons_tree.specs.Frames.{IsNone}
use Rattle.cons_solve.proofs.IndexLaws.{grown_then}
use Rattle.cons_solve.proofs.index.enter_slots.Goals as goal

pub loop-slot-preserved : goal.loop-slot-preserved
loop-slot-preserved c =
    grown_then _ _ _ _ _ _ _ c.loop-slot.invariant c.in_ok-enter_at-2.ensures (λ s f g h. f (subst (IsNone s) (sym (drop_more c.args.others.now c.loop-slot.slot-index _ c.loop-slot-test.true)) (g, h)))
