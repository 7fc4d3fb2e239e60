use Rattle.std.proofs.Common.{sym, subst}
use Rattle.std.specs.Prelude.{OnOk}
use Rattle.std.proofs.lemmas.Result.{on_ok_weaker}
use Rattle.cons_tree.proofs.CalleeLaws.{PutsTable, puts_there}
use Rattle.cons_tree.proofs.summaries.Summaries.add.Goals as goal
use Rattle.cons_tree.proofs.summaries.Summaries.add.Goals.{in-Ok-insert, in-Err-insert}

pub returns-clause-ok : goal.returns-clause-ok
returns-clause-ok c =
    let old = c.args.self.now in
    let new = c.insert.new.self.entries in
    let home = c.args.home.now in
    let w = c.args.table in
    elim c.match-insert.branch [
      | in-Ok-insert b ↦
          let put = subst (λ r. OnOk r (PutsTable c.self.inside.tables.entries new c.in-Ok.home w)) b.in-Ok-insert.is (on_ok_weaker c.insert.result (λ u. u.0) c.insert.ensures.updates) in
          subst (λ r. OnOk r (PutsTable old new home w)) (sym b.result-is) (puts_there c.self.inside.tables.entries old new c.in-Ok.home home w c.self.view_is c.in-Ok.ensures put)
      | in-Err-insert b ↦ subst (λ r. OnOk r (PutsTable old new home w)) (sym b.result-is) tt
    ]
