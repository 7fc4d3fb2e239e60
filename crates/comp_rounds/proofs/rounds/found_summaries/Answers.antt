use Rattle.std.proofs.Common.{map, ap, ap₂, ◌∙◌}
use Rattle.cons_tree.specs.Callees.{found}
use Rattle.comp_rounds.specs.Members.{function_of}
use Rattle.comp_rounds.specs.Rounds.{paired, with_signatures}
use Rattle.comp_rounds.proofs.Rounding.{summaries_are}
use Rattle.comp_rounds.proofs.rounds.found_summaries.Goals as goal

pub returns-clause-value : goal.returns-clause-value
returns-clause-value c =
    summaries_are (found c.args.known.now) (map function_of c.args.members.now) c.in_ok-signatures.signatures c.in_ok-lenient.lenient
    c.in_ok-list.list (found c.strict.new.known) c.in_ok-signatures.ensures.value c.in_ok-signatures.ensures.known
    c.in_ok-lenient.ensures (c.in_ok-list.ensures ∙ ap₂ paired c.as_slice.ensures c.as_slice-2.ensures)

pub returns-clause-known : goal.returns-clause-known
returns-clause-known c =
    c.in_ok-signatures.ensures.known ∙ ap (with_signatures (found c.args.known.now) (map function_of c.args.members.now)) c.in_ok-signatures.ensures.value
