use Rattle.std.proofs.Common.{◌≡◌, ◌-◌, length, sym, subst, arith}
use Rattle.std.specs.Prelude.{slice_get, Some}
use Rattle.std.proofs.lemmas.Option.{get_or_from_slice_get, slice_get_within}
use Rattle.components.proofs.Steps.{ends}
use Rattle.components.proofs.search.last_of.Goals as goal

pub returns : goal.returns
returns c =
    let is : c.len.result ≡ length c.args.blocks.now = omega arith in
    let at : slice_get c.args.blocks.now (length c.args.blocks.now - 1) ≡ Some c.at.result.now = subst (λ n. slice_get c.args.blocks.now (n - 1) ≡ Some c.at.result.now) is c.at.ensures in
    ends _ _ (omega (arith, slice_get_within c.args.blocks.now (length c.args.blocks.now - 1) c.at.result.now at)) (sym (get_or_from_slice_get c.args.blocks.now (length c.args.blocks.now - 1) c.at.result.now _ at))
