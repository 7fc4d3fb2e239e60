-- Members of the same home and definition, both exported or neither, are one.
use Rattle.std.proofs.Common.{◌≡◌, length}
use Rattle.std.specs.Coded.{Coded-set, coded_ℕ}
use mathlib.Core.HLevel.{is_prop→PathP}
use mathlib.Core.Logic.{∥∥₁_prop}
use Rattle.comp_rounds.specs.Definitions.{IsDefinition}
use Rattle.comp_rounds.specs.declared.members.Member.{Member}

pub same_member : (a b : Member) → a.home ≡ b.home → a.def ≡ b.def → a.exported ≡ b.exported → a ≡ b
same_member a b home def exported = λ i. record {
  home = home i;
  def = def i;
  exported = exported i;
  defined = is_prop→PathP (λ j. IsDefinition (def j)) (λ j. ∥∥₁_prop) a.defined b.defined i;
  whole = is_prop→PathP (λ j. length (def j).fun.params ≡ (def j).name.arity) (λ j. Coded-set coded_ℕ (length (def j).fun.params) (def j).name.arity) a.whole b.whole i;
}
