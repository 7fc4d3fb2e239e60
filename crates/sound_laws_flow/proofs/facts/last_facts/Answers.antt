use Rattle.sound_laws_flow.proofs.facts.last_facts.Goals as goal

pub returns : goal.returns
returns c = record { labels = c.last_state_laws.ensures.labels; wholly = c.last_state_laws.ensures.wholly; opens = c.last_state_laws.ensures.stays_open }
