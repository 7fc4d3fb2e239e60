use Rattle.std.proofs.Common.{subst, sym}
use Rattle.module_flow.specs.steps.Readers.{AreNoted}
use Rattle.module_flow.proofs.NotedReaders.{kept_through, noted_longer, noted_still, reader_is, reader_still}
use Rattle.module_flow.proofs.visits.Visits.add.Goals as goal

pub invariant_of-self : goal.invariant_of-self
invariant_of-self c = noted_still c.self.inside.readers.table c.note_all.new.self.table c.self.inside.all c.note_all.ensures.kept c.self.invariant

pub invariant_of-self-in_err-note_all-2 : goal.invariant_of-self-in_err-note_all-2
invariant_of-self-in_err-note_all-2 c =
    let first = c.self.inside.readers.table in
    noted_still first c.note_all-2.new.self.table c.self.inside.all (kept_through first c.note_all.new.self.table c.note_all-2.new.self.table c.note_all.ensures.kept c.note_all-2.ensures.kept) c.self.invariant

pub invariant_of-self-in_err-add : goal.invariant_of-self-in_err-add
invariant_of-self-in_err-add c =
    let first = c.self.inside.readers.table in
    subst (AreNoted c.note_all-2.new.self.table) (sym c.in_err-add.ensures.err)
    (noted_still first c.note_all-2.new.self.table c.self.inside.all (kept_through first c.note_all.new.self.table c.note_all-2.new.self.table c.note_all.ensures.kept c.note_all-2.ensures.kept) c.self.invariant)

pub invariant_of-self-2 : goal.invariant_of-self-2
invariant_of-self-2 c =
    let first = c.self.inside.readers.table in
    let second = c.note_all.new.self.table in
    let third = c.note_all-2.new.self.table in
    noted_longer first third c.self.inside.all c.add.new.self c.args.visit (kept_through first second third c.note_all.ensures.kept c.note_all-2.ensures.kept)
    (reader_still second third c.args.visit.own _ c.note_all-2.ensures.kept (reader_is second _ c.args.visit.own _ _ c.in_ok-note_all.ensures.noted c.as_slice.ensures c.len-position.ensures))
    (reader_is third _ c.args.visit.given _ _ c.in_ok-note_all-2.ensures.noted c.as_slice-2.ensures c.len-position.ensures)
    c.in_ok-add.ensures.ok c.self.invariant
