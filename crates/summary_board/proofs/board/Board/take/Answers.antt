use Rattle.std.proofs.Common.{arith, true≢false, sym, refl, ap, ◌∙◌}
use Rattle.std.specs.declared.option.Option.TheVariants.{Some}
use Rattle.summary_board.specs.BoardValue.{outputs_of}
use Rattle.summary_board.proofs.BoardTracks.{over_done, least_ready, marked_ready, marked_within, tracks_take}
use Rattle.summary_board.proofs.Sounds.{kept_taken, room_taken}
use Rattle.summary_board.proofs.board.Board.take.Goals as goal

pub returns-then-is_over-clause-ok : goal.returns-then-is_over-clause-ok
returns-then-is_over-clause-ok g c =
    let tracks = c.self.invariant.2 in
    rw (← c.self.view_is) (c.if-self.false, (over_done c.self.inside.progress).0 (sym tracks.left ∙ c.is_over.ensures.0 c.if-is_over.true), refl)

pub returns-in_default-clause-ok : goal.returns-in_default-clause-ok
returns-in_default-clause-ok g c =
    let tracks = c.self.invariant.2 in
    rw (← c.self.view_is)
    (c.if-self.false, (λ over. true≢false (sym (c.if-is_over.ensures.1 (tracks.left ∙ (over_done c.self.inside.progress).1 over)))), (λ k ready. c.in_default.ensures k ((tracks.exact k).1 ready)), refl)

pub called_at-requires : goal.called_at-requires
called_at-requires g c =
    let sound = c.self.invariant.0 in
    omega (arith, marked_within _ _ _ _ _ _ c.self.invariant.2 c.in-Some.c c.in-Some.ensures.0, sound.as_many_callees, sound.as_many_progress)

pub at-requires : goal.at-requires
at-requires g c = let sound = c.self.invariant.0 in omega (arith, marked_within _ _ _ _ _ _ c.self.invariant.2 c.in-Some.c c.in-Some.ensures.0, sound.as_many_progress)

pub overflow_cast-component : goal.overflow_cast-component
overflow_cast-component g c = let sound = c.self.invariant.0 in omega (arith, marked_within _ _ _ _ _ _ c.self.invariant.2 c.in-Some.c c.in-Some.ensures.0, sound.as_many_progress, sound.few)

pub set_progress-requires : goal.set_progress-requires
set_progress-requires g c = marked_within _ _ _ _ _ _ c.self.invariant.2 c.in-Some.c c.in-Some.ensures.0

pub put-requires : goal.put-requires
put-requires g c = room_taken g.W.Work.written _ c.in-Some.c _ (c.self.invariant.0, c.self.invariant.1) (marked_ready _ _ _ _ _ _ c.self.invariant.2 c.in-Some.c c.in-Some.ensures.0)

pub invariant_of-self-2 : goal.invariant_of-self-2
invariant_of-self-2 g c =
    let inv = c.self.invariant in
    let ready = marked_ready _ _ _ _ _ _ inv.2 c.in-Some.c c.in-Some.ensures.0 in
    let kept = kept_taken g.W.Work.written _ c.args.seat c.in-Some.c _ _ _ _ (inv.0, inv.1) c.if-self.false ready c.set_progress.ensures c.put.ensures.items c.put.ensures.spare in (
      kept.0,
      kept.1,
      tracks_take _ _ _ _ _ _ inv.2 c.in-Some.c c.args.seat _ _ _ _ _ ready c.set_progress.ensures c.take.ensures.callers c.take.ensures.counts c.take.ensures.unfinished c.take.ensures.room c.take.ensures.ready,
    )

pub returns-clause-ok : goal.returns-clause-ok
returns-clause-ok g c =
    let tracks = c.self.invariant.2 in
    rw (c.set_progress.ensures, c.put.ensures.items, ← c.self.view_is) (
      c.if-self.false,
      least_ready c.self.inside.callees _ _ c.in-Some.c tracks.exact c.in-Some.ensures,
      c.at.ensures ∙ ap Some (sym c.in_ok-part.ensures),
      c.in_ok-inputs.ensures ∙ ap (outputs_of c.self.inside.progress) c.called_at.ensures,
      refl,
    )
