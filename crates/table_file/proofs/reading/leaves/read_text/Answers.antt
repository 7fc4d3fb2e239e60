use Rattle.table_file.proofs.LeafLaws.{text_uncounted, text_cut, text_found}
use Rattle.table_file.proofs.reading.leaves.read_text.Goals as goal

pub returns-in_default-clause-none : goal.returns-in_default-clause-none
returns-in_default-clause-none c = text_uncounted c.args.bytes.now c.in_default.ensures.none

pub returns-then-after-len-clause-none : goal.returns-then-after-len-clause-none
returns-then-after-len-clause-none c =
    text_cut c.args.bytes.now c.in-Some.after.now c.in-Some.count c.in-Some.ensures.found c.if-after-len.true

pub returns-clause-found : goal.returns-clause-found
returns-clause-found c =
    text_found c.args.bytes.now c.in-Some.after.now c.split_at.result.0.now c.split_at.result.1.now c.in-Some.count
    c.in-Some.ensures.found c.if-after-len.false c.split_at.ensures.front c.split_at.ensures.back
