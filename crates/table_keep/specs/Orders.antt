-- Names of functions, and called functions, are totally ordered, and only equal ones tie.
use Rattle.std.proofs.Common.{◌≡◌, refl}
use Rattle.std.specs.declared.cmp.Ordering.{Ordering}
use Rattle.std.specs.declared.cmp.Ordering.TheVariants.{Less, Equal, Greater}
use Rattle.std.specs.Ordering.{nat_cmp, ordering_then}
use Rattle.std.specs.Cmp.{IsTotalOrder, nat_cmp_total, on_total, then_total}
use Rattle.std.specs.FinSet.{IsAntisymmetric, nat_cmp-IsAntisymmetric}
use Rattle.core_ast.specs.declared.syntax.FunName.{FunName}
use Rattle.type_kinds_sets.specs.Names.{name_cmp}
use Rattle.type_kinds_sets.proofs.NameLaws.{name_total, name_same}
use Rattle.call_graph.specs.Outside.{Called}
use Rattle.table_keep.specs.Calls.{called_cmp}
use Rattle.table_keep.specs.Made.{function_cmp}

both_equal : (a b : Ordering) → ordering_then a b ≡ Equal → (a ≡ Equal) × (b ≡ Equal)
both_equal Less b e = absurd cc
both_equal Equal b e = (refl, e)
both_equal Greater b e = absurd cc

pub function_total : IsTotalOrder function_cmp
function_total = then_total (on_total (λ (f : FunName). f.name) name_total) (on_total (λ (f : FunName). f.arity) nat_cmp_total)

pub function_same : IsAntisymmetric function_cmp
function_same f g e =
    let both = both_equal (name_cmp f.name g.name) (nat_cmp f.arity g.arity) e in
    let names = name_same f.name g.name both.0 in
    let arities = nat_cmp-IsAntisymmetric f.arity g.arity both.1 in
    λ i. record { name = names i; arity = arities i }

pub called_total : IsTotalOrder called_cmp
called_total = then_total (on_total (λ (c : Called). c.0) name_total) (on_total (λ (c : Called). c.1) function_total)

pub called_same : IsAntisymmetric called_cmp
called_same c d e =
    let both = both_equal (name_cmp c.0 d.0) (function_cmp c.1 d.1) e in
    let homes = name_same c.0 d.0 both.0 in
    let names = function_same c.1 d.1 both.1 in
    λ i. (homes i, names i)
