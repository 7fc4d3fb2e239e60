use Rattle.std.proofs.Common.{◌≡◌, length, sym, ap, ◌∙◌, arith}
use Rattle.std.specs.List.{zip}
use Rattle.std.proofs.lemmas.Slice.Zip.{length-zip}
use Rattle.fun_flow_places.proofs.bindings.Bindings.len.Goals as goal

pub returns : goal.returns
returns g c =
    let same : length c.self.inside.names ≡ length c.self.inside.values = c.self.invariant in
    let all : length (zip c.self.inside.names c.self.inside.values) ≡ length c.self.inside.values = omega (arith, length-zip c.self.inside.names c.self.inside.values) in
    c.len.ensures ∙ sym all ∙ ap length c.self.view_is
