use Rattle.std.proofs.Common.{refl}
use Rattle.module_flow_state.specs.steps.Changes.{rounds_of}
use Rattle.module_flow_state.proofs.LastRounds.{noted_entered, noted_none, noted_returned}
use Rattle.module_flow_state.proofs.Latest.{changes_none, more_none}
use Rattle.module_flow_state.proofs.states.FlowStates.take_noting.Goals as goal

pub returns-then-not-branch-clause-noted : goal.returns-then-not-branch-clause-noted
returns-then-not-branch-clause-noted c =
    noted_none c.args.self.now c.take.new.self (rounds_of c.args.changes.now) c.args.next (c.in_ok-take.ensures.still c.if-not-branch.true)

pub returns-then-not-branch-clause-more : goal.returns-then-not-branch-clause-more
returns-then-not-branch-clause-more c = changes_none c.args.changes.now c.args.next

pub returns-in_ok-note-in-Enters-clause-noted : goal.returns-in_ok-note-in-Enters-clause-noted
returns-in_ok-note-in-Enters-clause-noted c =
    noted_entered c.args.self.now c.take.new.self c.args.contribution.now c.in-Enters.label c.in-Enters.field-1 (rounds_of c.args.changes.now)
    (rounds_of (record { entered = c.note.new.self; given = c.args.changes.now.given })) c.args.next c.in-Enters.is c.in_ok-take.ensures.after refl c.in_ok-note-in-Enters.ensures.rounds

pub returns-in_ok-note-in-Returns-clause-noted : goal.returns-in_ok-note-in-Returns-clause-noted
returns-in_ok-note-in-Returns-clause-noted c =
    noted_returned c.args.self.now c.take.new.self c.args.contribution.now c.in-Returns.label c.in-Returns.field-1 (rounds_of c.args.changes.now)
    (rounds_of (record { entered = c.args.changes.now.entered; given = c.note-in-Returns.new.self })) c.args.next c.in-Returns.is c.in_ok-take.ensures.after refl c.in_ok-note-in-Returns.ensures.rounds

pub returns-in_ok-note-in-Enters-clause-more : goal.returns-in_ok-note-in-Enters-clause-more
returns-in_ok-note-in-Enters-clause-more c = record { entered = c.in_ok-note-in-Enters.ensures.more; given = more_none c.args.changes.now.given c.args.next }

pub returns-in_ok-note-in-Returns-clause-more : goal.returns-in_ok-note-in-Returns-clause-more
returns-in_ok-note-in-Returns-clause-more c = record { entered = more_none c.args.changes.now.entered c.args.next; given = c.in_ok-note-in-Returns.ensures.more }
