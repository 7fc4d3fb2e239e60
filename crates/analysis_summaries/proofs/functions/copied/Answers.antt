use Rattle.std.proofs.Common.{◌≡◌, length, sym, subst}
use Rattle.comp_rounds.specs.Definitions.{IsDefinition}
use Rattle.analysis_summaries.proofs.functions.copied.Goals as goal

pub invariant_of-result : goal.invariant_of-result
invariant_of-result c = record {
  defined = subst IsDefinition (sym c.in_ok-def.ensures) c.args.member.now.defined;
  whole = subst (λ d. length d.fun.params ≡ d.name.arity) (sym c.in_ok-def.ensures) c.args.member.now.whole;
}
