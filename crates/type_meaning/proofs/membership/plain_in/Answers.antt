use Rattle.std.proofs.Common.{rules, true, false, sym, ap, ◌∙◌, FitsSigned}
use Rattle.std.proofs.lemmas.Int.{to_z-of_z}
use mir.Syntax.{w128}
use Rattle.type_kinds_sets.specs.Numbers as numbers
use Rattle.type_kinds_sets.specs.BitLengths as bit_lengths
use Rattle.type_lattice_model.specs.Shapes.{floats, pids, ports, references, nils, maps}
use Rattle.type_lattice_model.specs.HasType.{has_arity}
use Rattle.type_lattice_model.specs.ValueShapes.{has_leaf, an_int, an_atom, some_bits, of_flag, a_function}
use Rattle.type_lattice_trees.specs.Plains.{functions_of}
use Rattle.type_meaning.proofs.Variants.{shape-Int, shape-Float, shape-Atom, shape-Bits, shape-Nil, shape-Cons, shape-Tuple, shape-Map, shape-Pid, shape-Port, shape-Reference, shape-Function}
use Rattle.type_meaning.proofs.Memberships.{leaf_told, no_leaf_told, same_number}
use Rattle.type_meaning.proofs.membership.plain_in.Goals as goal

pub returns-in-Int : goal.returns-in-Int
returns-in-Int c =
    let fits : FitsSigned w128 c.in-Int.n = search rules in
    leaf_told c.args.v.now (an_int c.in-Int.n) c.args.plain.now c.contains.result (shape-Int c.args.v.now c.in-Int.n c.in-Int.is)
    (c.contains.ensures ∙ ap (numbers.has c.plain.inside.ints) (to_z-of_z w128 c.in-Int.n fits) ∙ ap (λ p. has_leaf p (an_int c.in-Int.n)) c.plain.view_is)

pub returns-in-Float : goal.returns-in-Float
returns-in-Float c =
    leaf_told c.args.v.now (of_flag floats) c.args.plain.now c.plain.inside.flags.float (shape-Float c.args.v.now c.in-Float.field-0 c.in-Float.is) (ap (λ p. p.flags.float) c.plain.view_is)

pub returns-in-Atom : goal.returns-in-Atom
returns-in-Atom c =
    leaf_told c.args.v.now (an_atom c.in-Atom.atom) c.args.plain.now c.contains-in-Atom.result (shape-Atom c.args.v.now c.in-Atom.atom c.in-Atom.is)
    (c.contains-in-Atom.ensures ∙ ap (λ p. has_leaf p (an_atom c.in-Atom.atom)) c.plain.view_is)

pub returns-in-No : goal.returns-in-No
returns-in-No c =
    leaf_told c.args.v.now (some_bits c.in-Bits.length) c.args.plain.now false (shape-Bits c.args.v.now c.in-Bits.length c.in-Bits.is) (ap (λ b. bit_lengths.has b c.in-Bits.length) (sym c.in-No.is ∙ ap (λ p. p.bits) c.plain.view_is))

pub returns-in-Whole : goal.returns-in-Whole
returns-in-Whole c =
    leaf_told c.args.v.now (some_bits c.in-Bits.length) c.args.plain.now _ (shape-Bits c.args.v.now c.in-Bits.length c.in-Bits.is) (ap (λ b. bit_lengths.has b c.in-Bits.length) (sym c.in-Whole.is ∙ ap (λ p. p.bits) c.plain.view_is))

pub returns-in-Any : goal.returns-in-Any
returns-in-Any c =
    leaf_told c.args.v.now (some_bits c.in-Bits.length) c.args.plain.now true (shape-Bits c.args.v.now c.in-Bits.length c.in-Bits.is) (ap (λ b. bit_lengths.has b c.in-Bits.length) (sym c.in-Any.is ∙ ap (λ p. p.bits) c.plain.view_is))

pub returns-in-Nil : goal.returns-in-Nil
returns-in-Nil c = leaf_told c.args.v.now (of_flag nils) c.args.plain.now c.plain.inside.flags.nil (shape-Nil c.args.v.now c.in-Nil.is) (ap (λ p. p.flags.nil) c.plain.view_is)

pub returns-in-Map : goal.returns-in-Map
returns-in-Map c = leaf_told c.args.v.now (of_flag maps) c.args.plain.now c.plain.inside.flags.map (shape-Map c.args.v.now c.in-Map.field-0 c.in-Map.is) (ap (λ p. p.flags.map) c.plain.view_is)

pub returns-in-Pid : goal.returns-in-Pid
returns-in-Pid c = leaf_told c.args.v.now (of_flag pids) c.args.plain.now c.plain.inside.flags.pid (shape-Pid c.args.v.now c.in-Pid.field-0 c.in-Pid.is) (ap (λ p. p.flags.pid) c.plain.view_is)

pub returns-in-Port : goal.returns-in-Port
returns-in-Port c =
    leaf_told c.args.v.now (of_flag ports) c.args.plain.now c.plain.inside.flags.port (shape-Port c.args.v.now c.in-Port.field-0 c.in-Port.is) (ap (λ p. p.flags.port) c.plain.view_is)

pub returns-in-Reference : goal.returns-in-Reference
returns-in-Reference c =
    leaf_told c.args.v.now (of_flag references) c.args.plain.now c.plain.inside.flags.reference (shape-Reference c.args.v.now c.in-Reference.field-0 c.in-Reference.is) (ap (λ p. p.flags.reference) c.plain.view_is)

pub returns-in-Nothing : goal.returns-in-Nothing
returns-in-Nothing c =
    leaf_told c.args.v.now (a_function c.in-Function.arity) c.args.plain.now false (shape-Function c.args.v.now c.in-Function.arity c.in-Function.is)
    (ap (λ f. has_arity (functions_of f) c.in-Function.arity) (sym c.in-Nothing.is) ∙ ap (λ p. has_arity p.functions c.in-Function.arity) c.plain.view_is)

pub returns-in-OfArity : goal.returns-in-OfArity
returns-in-OfArity c =
    leaf_told c.args.v.now (a_function c.in-Function.arity) c.args.plain.now _ (shape-Function c.args.v.now c.in-Function.arity c.in-Function.is)
    (same_number c.in-Function.arity c.in-OfArity.other ∙ ap (λ f. has_arity (functions_of f) c.in-Function.arity) (sym c.in-OfArity.is) ∙ ap (λ p. has_arity p.functions c.in-Function.arity) c.plain.view_is)

pub returns-in-Every : goal.returns-in-Every
returns-in-Every c =
    leaf_told c.args.v.now (a_function c.in-Function.arity) c.args.plain.now true (shape-Function c.args.v.now c.in-Function.arity c.in-Function.is)
    (ap (λ f. has_arity (functions_of f) c.in-Function.arity) (sym c.in-Every.is) ∙ ap (λ p. has_arity p.functions c.in-Function.arity) c.plain.view_is)

pub returns-in-Cons : goal.returns-in-Cons
returns-in-Cons c = no_leaf_told c.args.v.now _ c.args.plain.now false (shape-Cons c.args.v.now c.in-Cons.field-0 c.in-Cons.field-1 c.in-Cons.is) (λ l h. cc)

pub returns-in-Tuple : goal.returns-in-Tuple
returns-in-Tuple c = no_leaf_told c.args.v.now _ c.args.plain.now false (shape-Tuple c.args.v.now c.in-Tuple.field-0 c.in-Tuple.is) (λ l h. cc)
