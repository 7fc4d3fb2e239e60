use Rattle.table_file.proofs.LeafLaws.{front_found, front_whole}
use Rattle.table_file.proofs.reading.leaves.read_digest.Goals as goal

pub returns-clause-found : goal.returns-clause-found
returns-clause-found c =
    let cases = c.in-Some.ensures.cases in
    front_found 32 c.args.bytes.now c.in-Some.front.now c.in-Some.rest.now cases.0 cases.1

pub returns-clause-whole : goal.returns-clause-whole
returns-clause-whole c =
    let cases = c.in-Some.ensures.cases in
    front_whole 32 c.args.bytes.now c.in-Some.front.now c.in-Some.rest.now cases.0 cases.2
