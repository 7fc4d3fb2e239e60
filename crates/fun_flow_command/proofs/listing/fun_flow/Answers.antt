use Rattle.fun_flow_command.proofs.Sound.{sound_it}
use Rattle.fun_flow_command.proofs.listing.fun_flow.Goals as goal

pub returns-clause-sound : goal.returns-clause-sound
returns-clause-sound g c =
    λ e. sound_it c.nothing_is_left_out.ensures c.only_listed_are_entered.ensures.closures c.only_listed_are_entered.ensures.externals c.only_listed_are_entered.ensures.foreigners c.only_listed_are_entered.ensures.arities
    c.only_listed_are_entered.ensures.external_arities _ _ _ _ (c.run_program.ensures.writes e)
