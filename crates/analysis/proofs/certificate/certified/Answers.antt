use Rattle.cons_tree.specs.Callees.{found}
use Rattle.table_keep.specs.Model.{entries_so, sources_so}
use Rattle.analysis.proofs.Certifying.{is_certificate, whole_known, written_there}
use Rattle.analysis.proofs.certificate.certified.Goals as goal

pub list_all-requires-clause-there : goal.list_all-requires-clause-there
list_all-requires-clause-there g c = written_there (sources_so c.args.sources.now) (entries_so c.args.table) c.requires.written

pub list_all-requires-clause-known : goal.list_all-requires-clause-known
list_all-requires-clause-known g c =
    whole_known c.args.sources.now (found c.args.known.now) (found c.solve_modules_parallel.new.known) c.requires.distinct c.in_ok-solve_modules_parallel.ensures.known

pub returns : goal.returns
returns g c =
    is_certificate c.args.sources.now (found c.args.known.now) (found c.solve_modules_parallel.new.known) (entries_so c.args.table) c.list_all.result c.requires.nothing c.in_ok-solve_modules_parallel.ensures.known c.requires.written
    c.list_all.ensures
