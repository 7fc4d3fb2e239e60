use Rattle.analysis_crew.proofs.solving.solve_members.Goals as goal

pub enter_all-requires : goal.enter_all-requires
enter_all-requires g c = c.requires.summaries c.in_ok-outputs.outputs c.in_ok-outputs.ensures
