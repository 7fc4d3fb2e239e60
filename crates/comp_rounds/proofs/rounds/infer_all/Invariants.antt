use Rattle.std.proofs.Common.{◌≡◌, map, take}
use Rattle.cons_gen_rows.specs.Knowing.{knowledge}
use Rattle.comp_rounds.specs.Members.{function_of}
use Rattle.comp_rounds.specs.Rounds.{inferred}
use Rattle.comp_rounds.proofs.rounds.infer_all.Given as goal

abbrev pub invariant-loop-member : goal.invariant-loop-member
invariant-loop-member l = l.signatures ≡ map (inferred (knowledge l.pass l.known)) (map function_of (take l.member-index l.members))
