use Rattle.std.proofs.Common.{arith}
use Rattle.table_file.proofs.LeafLaws.{number_found, number_none}
use Rattle.table_file.proofs.reading.leaves.read_number.Goals as goal

pub returns-in_default-clause-none : goal.returns-in_default-clause-none
returns-in_default-clause-none c = number_none c.args.bytes.now c.in_default.ensures.cases

pub returns-clause-found : goal.returns-clause-found
returns-clause-found c =
    let cases = c.in-Some.ensures.cases in
    number_found c.args.bytes.now c.in-Some.front.now c.in-Some.rest.now c.from_be_bytes.result cases.0 cases.1 cases.2
    (λ i. omega (arith, c.type_inv.bytes i)) (omega arith) c.from_be_bytes.ensures
