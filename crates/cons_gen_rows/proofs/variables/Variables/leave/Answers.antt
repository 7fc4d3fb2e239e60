use Rattle.std.proofs.Common.{◌≡◌, min, length, take, sym, ap, ◌∙◌, arith}
use Rattle.std.specs.List.{zip}
use Rattle.std.proofs.lemmas.List.{take_min}
use Rattle.cons_gen_rows.proofs.VariableLaws.{zip_length, zip_take}
use Rattle.cons_gen_rows.proofs.variables.Variables.leave.Goals as goal

pub leave-requires : goal.leave-requires
leave-requires c =
    let same : length c.self.inside.names ≡ length c.self.inside.slots = c.self.invariant in
    omega arith

pub returns : goal.returns
returns c =
    let least : c.min-len.result ≡ min c.args.len (length c.self.inside.slots) = omega arith in
    ap (λ xs. zip xs c.truncate.new.self) c.leave.ensures ∙ ap (zip (take c.min-len.result c.self.inside.names)) c.truncate.ensures
    ∙ zip_take c.min-len.result c.self.inside.names c.self.inside.slots ∙ ap (λ n. take n (zip c.self.inside.names c.self.inside.slots))
    (least ∙ ap (min c.args.len) (sym (zip_length c.self.inside.names c.self.inside.slots c.self.invariant)))
    ∙ take_min c.args.len (zip c.self.inside.names c.self.inside.slots) ∙ ap (take c.args.len) c.self.view_is
