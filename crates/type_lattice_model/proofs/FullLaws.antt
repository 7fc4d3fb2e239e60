-- A type all of whose parts are full is every value, and the type of every value is such.
use Rattle.std.proofs.Common.{◌≡◌, ℕ, zero, suc, Bool, true, ◌&&◌, refl, sym, ap, true≢false, arith}
use Rattle.std.specs.Coded.{Coded-set, coded_bool}
use Rattle.type_kinds_sets.specs.Numbers as numbers
use Rattle.type_kinds_sets.specs.Numbers.{Numbers}
use Rattle.type_kinds_sets.specs.declared.ends.Low.TheVariants as low
use Rattle.type_kinds_sets.specs.declared.ends.High.TheVariants as high
use Rattle.type_lattice_model.specs.Full.{is_all_ints, is_all_plain, is_any_cell, is_every_tuple, is_any}
use Rattle.type_lattice_model.specs.Operations.{Ops, parts_any, ops}
use Rattle.type_lattice_model.specs.Shapes.{Parts, TypeAt}

ints_all : (s : Numbers) → is_all_ints s ≡ true → s ≡ numbers.all
ints_all (numbers.some xs e) h = absurd (true≢false (sym h))
ints_all (numbers.between low.Min high.Max e) h = ap (numbers.between low.Min high.Max) (Coded-set coded_bool true true e refl)
ints_all (numbers.between l k e) h = absurd (true≢false (sym h))

parts_all : {E : Type 0} (o : Ops E) (full : E → Bool) → ((e : E) → full e ≡ true → e ≡ o.any) → (t : Parts E) → (is_all_plain t.plain && is_any_cell full t.cell && is_every_tuple t.tuples) ≡ true → t ≡ parts_any o
parts_all o full all t h = grind (arith, ints_all)

pub any_is_all : (d : ℕ) (t : TypeAt d) → is_any d t ≡ true → t ≡ (ops d).any
unfolding ops
any_is_all zero t h = h
any_is_all (suc d) t h = parts_all (ops d) (is_any d) (any_is_all d) t h

pub all_is_any : (d : ℕ) → is_any d (ops d).any ≡ true
unfolding ops
all_is_any zero = refl
all_is_any (suc d) = ap (λ b. b && true) (all_is_any d)
