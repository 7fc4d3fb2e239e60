use Rattle.std.proofs.Common.{◌≡◌, true}
use Rattle.std.specs.List.{list_all}
use Rattle.cons_tree.specs.Callees.{found}
use Rattle.table_file.specs.Rules.{is_export}
use Rattle.table_verify_laws.specs.Certificates.{AreListed}
use Rattle.analysis.proofs.certificate.defined_in.Given as goal

abbrev pub invariant-loop-name : goal.invariant-loop-name
invariant-loop-name l = record {
  listed : AreListed (found l.known) l.module.name l.yielded l.functions;
  fit : list_all is_export l.functions ≡ true;
}
