use Rattle.std.proofs.Common.{◌≡◌, Some, slice_get, refl}
use Rattle.module_flow_state.specs.steps.Reading.{labels_given}
use Rattle.module_flow.proofs.NotedReaders.{noted_still, noted_walked, reader_is, same_visit}
use Rattle.module_flow.proofs.visits.Visits.walked.Goals as goal

pub returns-then-are_same_labels : goal.returns-then-are_same_labels
returns-then-are_same_labels c = λ v at.
    let before = c.at-before.result.now in
    let view : c.self.inside.all ≡ c.args.self.now = c.self.view_is in
    let here : slice_get c.args.self.now c.args.position ≡ Some before = let h = c.at-before.ensures in cc in
    let same : before.given ≡ labels_given c.args.contributions.now =
    let one = c.as_slice.ensures in
    let other = c.as_slice-2.ensures in
    let both = c.are_same_labels.ensures c.if-are_same_labels.true in
    let given = c.in_ok-given.ensures in
    cc
    in
    same_visit c.args.self.now c.args.position before v (labels_given c.args.contributions.now) here at same

pub invariant_of-self : goal.invariant_of-self
invariant_of-self c = noted_still c.self.inside.readers.table c.note_all.new.self.table c.self.inside.all c.note_all.ensures.kept c.self.invariant

pub invariant_of-self-2 : goal.invariant_of-self-2
invariant_of-self-2 c =
    noted_walked c.self.inside.readers.table c.note_all.new.self.table c.self.inside.all c.replace.new.self c.args.position c.at-before.result.now
    (record { own = c.in_ok-own.own; given = c.in_ok-given.given }) c.note_all.ensures.kept c.at-before.ensures c.in_ok-own.ensures
    (reader_is c.note_all.new.self.table _ c.in_ok-given.given _ _ c.in_ok-note_all.ensures.noted c.as_slice-3.ensures refl)
    c.replace.ensures.after c.self.invariant
