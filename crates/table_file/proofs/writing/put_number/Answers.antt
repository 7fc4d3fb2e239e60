use Rattle.std.proofs.Common.{◌≡◌, ◌++◌, ◌∙◌, sym, subst, arith}
use Rattle.std.specs.Prelude.{OnOk}
use Rattle.table_file.proofs.LeafLaws.{four_bytes-be}
use Rattle.table_file.proofs.writing.put_number.Goals as goal

pub returns : goal.returns
returns c =
    subst (λ bytes. OnOk c.append.result (c.append.new.self ≡ c.args.out.now ++ bytes))
    (c.to_be_bytes.ensures ∙ sym (four_bytes-be c.args.n (omega arith))) c.append.ensures.ok
