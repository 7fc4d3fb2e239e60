use Rattle.std.proofs.Common.{◌≡◌, ℕ, ◌*◌, Bool, not, cond, is_some, sym, ap, ◌∙◌}
use Rattle.type_kinds_sets.specs.Names as names
use Rattle.type_kinds_sets.specs.Numbers as numbers
use Rattle.type_lattice_model.specs.Operations.{is_no_bits, is_no_function}
use Rattle.type_lattice_trees.specs.Plains.{flags_of, functions_of}
use Rattle.type_lattice_trees.specs.View.{view, cell_view, tuples_view}
use Rattle.type_bytes.specs.Spelling.{has_tuples, bytes_at}
use Rattle.type_bytes.proofs.Writes.{mask_with, mask_sum, cell_some}
use Rattle.type_bytes.proofs.writing.mask_of.Goals as goal

worth : (w n : ℕ) (a b : Bool) → n ≡ w * cond a 1 0 → a ≡ b → n ≡ w * cond b 1 0
worth w n a b e f = e ∙ ap (λ x. w * cond x 1 0) f

pub returns : goal.returns
returns c d =
    let k = c.plain.inside in
    let atoms = worth 1 c.bit.result _ (not (names.is_none k.atoms)) c.bit.ensures.value (ap not c.is_none.ensures.value) in
    let ints = worth 2 c.bit-2.result _ (not (numbers.is_none k.ints)) c.bit-2.ensures.value (ap not c.is_none-2.ensures.value) in
    let bits = worth 8 c.bit-4.result _ (not (is_no_bits k.bits)) c.bit-4.ensures.value c.has_bits.ensures in
    let functions = worth 128 c.bit-8.result _ (not (is_no_function (functions_of k.functions))) c.bit-8.ensures.value (ap not c.is_none-3.ensures) in
    let some_cell = is_some (cell_view d c.args.parts.now.cell) in
    let some_tuples = has_tuples (bytes_at d) (tuples_view d c.args.parts.now.tuples) in
    let cell = worth 512 c.bit-10.result _ some_cell c.bit-10.ensures.value (c.is_some.ensures ∙ sym (cell_some (view d) c.args.parts.now.cell)) in
    let tuples = worth 1024 c.bit-11.result _ some_tuples c.bit-11.ensures.value (c.has_tuples.ensures d) in
    mask_sum (record { atoms = k.atoms; ints = k.ints; bits = k.bits; flags = flags_of k.flags; functions = functions_of k.functions }) some_cell some_tuples _ _ _ _ _ _ _ _ _ _ _ _ atoms ints c.bit-3.ensures.value bits
    c.bit-5.ensures.value c.bit-6.ensures.value c.bit-7.ensures.value functions c.bit-9.ensures.value cell tuples c.bit-12.ensures.value
    ∙ ap (λ p. mask_with p some_cell some_tuples) c.plain.view_is
