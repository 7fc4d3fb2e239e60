use Rattle.std.proofs.Common.{sym, subst, rules}
use Rattle.type_bytes.specs.steps.Cuts.{Cuts, element_cut, tag_cut, size_cut}
use Rattle.type_bytes.proofs.Loops.{cut_more, tags_of_body}
use Rattle.type_bytes.proofs.shapes.+shapes.Goals as goal

pub skip_row-loop-preserved : goal.skip_row-loop-preserved
skip_row-loop-preserved t c = cut_more (element_cut c.args.level) c.args.count c.loop.counter c.loop.rest.now _ c.in_ok-rest.rest.now c.loop-test.true c.in_ok-rest.ensures c.loop.invariant

pub skip_tags-loop-preserved : goal.skip_tags-loop-preserved
skip_tags-loop-preserved t c = cut_more (tag_cut (element_cut c.args.level) c.args.size) c.args.count c.loop.counter c.loop.rest.now _ c.in_ok-rest.rest.now c.loop-test.true c.in_ok-rest.ensures c.loop.invariant

pub skip_sizes-loop-preserved : goal.skip_sizes-loop-preserved
skip_sizes-loop-preserved t c = cut_more (size_cut (element_cut c.args.level)) c.args.count c.loop.counter c.loop.rest.now _ c.in_ok-rest.rest.now c.loop-test.true c.in_ok-rest.ensures c.loop.invariant

pub skip_body-returns : goal.skip_body-returns
skip_body-returns t c =
    let h = tags_of_body (element_cut c.args.level) c.args.size c.in-Some.first.now c.args.bytes.now c.in-Some.rest.now (search rules) c.if-first-eq0.false c.if-size-eq0.false c.if-first-gt13.false in
    subst (Cuts (λ rest. rest.now) c.skip_tags.result) (sym h) c.skip_tags.ensures
