use Rattle.std.proofs.Common.{map, ap, ◌∙◌, sym}
use Rattle.std.proofs.lemmas.Result.{on_ok_weaker}
use Rattle.comp_rounds.specs.Members.{function_of}
use Rattle.analysis_summaries.proofs.Members.{member_there, no_member}
use Rattle.analysis_summaries.proofs.functions.add_member.Goals as goal

pub returns-in_ok-copy-in-Some : goal.returns-in_ok-copy-in-Some
returns-in_ok-copy-in-Some c =
    on_ok_weaker c.add.result
    (λ is.
    ap (map function_of) is
    ∙ member_there c.args.members.now c.args.number c.in-Some.member.now c.in_ok-copy-in-Some.copy c.args.found.now (sym c.in-Some.ensures.value) c.in_ok-copy-in-Some.ensures)
    c.add.ensures.ok

pub returns-in-None : goal.returns-in-None
returns-in-None c = no_member c.args.members.now c.args.number c.args.found.now (sym c.in-None.ensures.value)
