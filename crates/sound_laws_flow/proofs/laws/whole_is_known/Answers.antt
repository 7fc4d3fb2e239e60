use Rattle.sound_laws_flow.proofs.laws.whole_is_known.Goals as goal

pub returns : goal.returns
returns c = λ U K whole. record { honest = whole.honest; closed = c.whole_is_closed.ensures U K whole }
