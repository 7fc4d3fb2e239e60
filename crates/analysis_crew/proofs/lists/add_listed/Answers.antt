use Rattle.std.proofs.Common.{◌∙◌, sym}
use Rattle.std.proofs.lemmas.Result.{on_ok_weaker}
use Rattle.analysis_crew.proofs.Loops.{listed_there, listed_none}
use Rattle.analysis_crew.proofs.lists.add_listed.Goals as goal

pub returns-in_ok-it-in-Some : goal.returns-in_ok-it-in-Some
returns-in_ok-it-in-Some c =
    on_ok_weaker c.add.result
    (λ is. is ∙ listed_there c.args.members.now c.args.number c.in-Some.member.now c.in_ok-it-in-Some.it c.args.list.now (sym c.in-Some.ensures.value) c.in_ok-it-in-Some.ensures)
    c.add.ensures.ok

pub returns-in-None : goal.returns-in-None
returns-in-None c = listed_none c.args.members.now c.args.number c.args.list.now (sym c.in-None.ensures.value)
