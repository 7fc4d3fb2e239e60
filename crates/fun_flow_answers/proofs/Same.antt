-- Targets of which neither stands before the other are one.
use Rattle.std.proofs.Common.{◌≡◌, ℕ, true, refl, Less, Equal, Greater}
use Rattle.std.specs.declared.cmp.Ordering.{Ordering}
use Rattle.std.specs.FinMap.{IsAntisymmetric, nat_cmp-IsAntisymmetric, slice_cmp-IsAntisymmetric}
use Rattle.std.specs.Cmp.{Equal-is}
use Rattle.std.specs.Cmp.Lexicographic.{slice_cmp}
use Rattle.std.specs.Ordering.{nat_cmp, ordering_then, eq_by_cmp}
use Rattle.type_kinds.specs.declared.atom.Atom.{Atom}
use Rattle.core_ast.specs.declared.syntax.FunName.{FunName}
use Rattle.fun_flow_answers.specs.declared.target.Target.{Target}
use Rattle.fun_flow_answers.specs.declared.target.Target.TheVariants.{Fun, Name}
use Rattle.fun_flow_answers.specs.Order.{fun_cmp, name_cmp, target_cmp}

both_equal : (r s : Ordering) → ordering_then r s ≡ Equal → (r ≡ Equal) × (s ≡ Equal)
both_equal Less s e = absurd cc
both_equal Equal s e = (refl, e)
both_equal Greater s e = absurd cc

atoms_same : IsAntisymmetric (slice_cmp nat_cmp)
atoms_same = slice_cmp-IsAntisymmetric nat_cmp-IsAntisymmetric

same_fun : (i j l k n o : ℕ) → fun_cmp (i, l, n) (j, k, o) ≡ Equal → Fun i l n ≡ Fun j k o
same_fun i j l k n o e =
    let last = both_equal (ordering_then (nat_cmp i j) (nat_cmp l k)) (nat_cmp n o) e in
    let two = both_equal (nat_cmp i j) (nat_cmp l k) last.0 in
    let p : i ≡ j = nat_cmp-IsAntisymmetric i j two.0 in
    let q : l ≡ k = nat_cmp-IsAntisymmetric l k two.1 in
    let r : n ≡ o = nat_cmp-IsAntisymmetric n o last.1 in
    λ d. Fun (p d) (q d) (r d)

same_name : (x y : Atom) (f g : FunName) → name_cmp (x, f) (y, g) ≡ Equal → Name x f ≡ Name y g
same_name x y f g e =
    let last = both_equal (ordering_then (slice_cmp nat_cmp x y) (slice_cmp nat_cmp f.name g.name)) (nat_cmp f.arity g.arity) e in
    let two = both_equal (slice_cmp nat_cmp x y) (slice_cmp nat_cmp f.name g.name) last.0 in
    let p : x ≡ y = atoms_same x y two.0 in
    let q : f.name ≡ g.name = atoms_same f.name g.name two.1 in
    let r : f.arity ≡ g.arity = nat_cmp-IsAntisymmetric f.arity g.arity last.1 in
    λ d. Name (p d) (record { name = q d; arity = r d })

pub same_target : (s t : Target) → eq_by_cmp target_cmp s t ≡ true → s ≡ t
same_target s t e = by s t ((Equal-is (target_cmp s t)).0 e)
  where
    by : (s t : Target) → target_cmp s t ≡ Equal → s ≡ t
    by (Fun i l n) (Fun j k o) h = same_fun i j l k n o h
    by (Fun i l n) (Name y g) h = absurd cc
    by (Name x f) (Fun j k o) h = absurd cc
    by (Name x f) (Name y g) h = same_name x y f g h
