use Rattle.std.proofs.Common.{◌≡◌, min, length, take, ap, ◌∙◌, arith}
use Rattle.std.specs.List.{zip}
use Rattle.std.proofs.lemmas.List.{take_min}
use Rattle.std.proofs.lemmas.Slice.Zip.{length-zip}
use Rattle.fun_flow_places.proofs.BindingLaws.{zip_take}
use Rattle.fun_flow_places.proofs.bindings.Bindings.leave.Goals as goal

pub leave-requires : goal.leave-requires
leave-requires g c =
    let same : length c.self.inside.names ≡ length c.self.inside.values = c.self.invariant in
    omega arith

pub returns : goal.returns
returns g c =
    let same : length c.self.inside.names ≡ length c.self.inside.values = c.self.invariant in
    let least : c.min-len.result ≡ min c.args.len (length (zip c.self.inside.names c.self.inside.values)) =
    omega (arith, length-zip c.self.inside.names c.self.inside.values) in
    ap (λ xs. zip xs c.truncate.new.self) c.leave.ensures ∙ ap (zip (take c.min-len.result c.self.inside.names)) c.truncate.ensures
    ∙ zip_take c.min-len.result c.self.inside.names c.self.inside.values ∙ ap (λ n. take n (zip c.self.inside.names c.self.inside.values)) least
    ∙ take_min c.args.len (zip c.self.inside.names c.self.inside.values) ∙ ap (take c.args.len) c.self.view_is
