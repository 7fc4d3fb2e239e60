use Rattle.std.proofs.Common.{◌≡◌, Some, slice_get, sym, ap, ◌∙◌}
use Rattle.core_scope.specs.Checked.{module_of}
use Rattle.comp_rounds.proofs.Defining.{defined_at, whole_at}
use Rattle.comp_rounds.proofs.members.Member.new.Goals as goal

pub invariant_of-result : goal.invariant_of-result
invariant_of-result c =
    let checked = c.args.checked.now in
    let def = c.in_ok-def.def in
    let here : slice_get (module_of checked).defs c.args.at ≡ Some def =
    ap (λ m. slice_get m.defs c.args.at) (sym c.module-source.ensures) ∙ c.at.ensures ∙ ap Some (sym c.in_ok-def.ensures)
    in
    record {
      defined = defined_at checked c.args.at def c.requires here;
      whole = whole_at (module_of checked).defs c.args.at def (c.places_are_sound.ensures.definitions checked) here;
    }
