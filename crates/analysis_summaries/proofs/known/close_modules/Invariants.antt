use Rattle.std.proofs.Common.{◌≡◌, map, take}
use Rattle.type_kinds.specs.declared.atom.Atom.{Atom}
use Rattle.core_ast.specs.declared.syntax.FunName.{FunName}
use Rattle.core_scope.specs.Checked.{module_of}
use Rattle.cons_tree.specs.Callees.{found}
use Rattle.analysis_summaries.specs.Known.{closed_over}
use Rattle.analysis_summaries.proofs.known.close_modules.Given as goal

abbrev pub invariant-loop-source : goal.invariant-loop-source
invariant-loop-source g l =
    (h : Atom) (f : FunName) → found l.known h f ≡ closed_over (found l.fn.known) (map (λ s. (module_of (g.S.AsChecked.stands_for s)).name) (take l.source-index l.mods)) h f
