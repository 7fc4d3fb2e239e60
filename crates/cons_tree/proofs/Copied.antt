-- Signatures of the same types are one.
use Rattle.std.proofs.Common.{◌≡◌, true, ◌∷◌}
use Rattle.std.specs.Prelude.{IsTrue}
use Rattle.std.specs.Coded.{Coded-set, coded_bool}
use mathlib.Core.HLevel.{is_prop→PathP}
use Rattle.cons_tree.specs.Signatures.{agree}
use Rattle.cons_tree.specs.declared.parts.Sig.{Sig}

pub same_signature : (s t : Sig) → s.args ≡ t.args → s.result ≡ t.result → s ≡ t
same_signature s t e f = λ i. record {
  args = e i;
  result = f i;
  agreed = is_prop→PathP (λ j. IsTrue (agree (f j ∷ e j))) (λ j. Coded-set coded_bool (agree (f j ∷ e j)) true) s.agreed t.agreed i;
}
