use Rattle.std.proofs.Common.{◌≡◌, true, false, Some, ap, sym, ◌∙◌, bytes_eq}
use Rattle.std.specs.Ordering.{nat_cmp}
use Rattle.std.specs.Cmp.Lexicographic.{slice_cmp, nat_list_cmp_total}
use Rattle.std.specs.FinMap.{get, find, get-from_entries}
use Rattle.std.specs.VecDeque.Iter.{deque_iter_rest}
use Rattle.da_shelf.proofs.Search.{find-here, find-later}
use Rattle.da_shelf.proofs.mem_shelf.MemShelf.look.Goals as goal

pub loop-key-init : goal.loop-key-init
loop-key-init c =
    ap (λ shelf. get shelf.held c.args.name.now) (sym c.self.view_is)
    ∙ get-from_entries nat_list_cmp_total _ _
    ∙ ap (find (slice_cmp nat_cmp) c.args.name.now) (sym c.into_iter-key-iterator.ensures.into_iter_gives.0)

pub returns-then-eq : goal.returns-then-eq
returns-then-eq c =
    let same : bytes_eq c.args.name.now c.in-Some.field-0.now.0 ≡ true = rw (sym c.as_bytes.ensures.value, sym c.as_slice.ensures) (sym c.eq.ensures ∙ c.if-eq.true) in
    ap Some c.as_slice-then-eq.ensures
    ∙ sym (c.loop-key.invariant
    ∙ ap (find (slice_cmp nat_cmp) c.args.name.now) c.in-Some.ensures.steps
    ∙ find-here c.args.name.now c.in-Some.field-0.now (deque_iter_rest c.next.new.self) same)

pub loop-key-preserved : goal.loop-key-preserved
loop-key-preserved c =
    let other : bytes_eq c.args.name.now c.in-Some.field-0.now.0 ≡ false = rw (sym c.as_bytes.ensures.value, sym c.as_slice.ensures) (sym c.eq.ensures ∙ c.if-eq.false) in
    c.loop-key.invariant
    ∙ ap (find (slice_cmp nat_cmp) c.args.name.now) c.in-Some.ensures.steps
    ∙ find-later c.args.name.now c.in-Some.field-0.now (deque_iter_rest c.next.new.self) other
