use Rattle.std.proofs.Common.{◌≡◌, ◌++◌, ap, ◌∙◌, of_z, rules}
use Rattle.std.specs.Int.{w128, to_be_bytes}
use Rattle.std.proofs.lemmas.Int.{to_z-of_z}
use Rattle.std.proofs.lemmas.Result.{on_ok_weaker}
use mir.Val.{SFits}
use Rattle.type_bytes.specs.Spelling.{int_bytes}
use Rattle.type_bytes.proofs.writing.append_int.Goals as goal

pub returns-clause-ok : goal.returns-clause-ok
unfolding int_bytes
returns-clause-ok c =
    let fits : SFits w128 c.args.n = search rules in
    let unsigned : c.cast_unsigned.result ≡ of_z w128 c.args.n = simp to_z-of_z at c.cast_unsigned.ensures in
    on_ok_weaker c.append.result (λ e. e ∙ ap (λ b. c.args.out.now ++ b) (c.to_be_bytes.ensures ∙ ap (to_be_bytes w128) unsigned)) c.append.ensures.ok
