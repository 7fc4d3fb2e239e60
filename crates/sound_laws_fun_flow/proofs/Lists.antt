-- Lists of rules of which each holds, and traces of which each event is allowed.
use Rattle.std.proofs.Common.{List, [], ◌∷◌, ◌++◌, inl, inr, refl, sym, subst}
use Rattle.core_meaning.specs.Meaning.{Event, Trace, Among}
use Rattle.core_meaning.specs.Programs.{Program}
use Rattle.fun_flow_sets.specs.Items.{Rule}
use Rattle.fun_flow_sets.specs.Rules.{IsAmong}
use Rattle.sound_laws.specs.Knowledge.{EachEvent}
use Rattle.sound_laws_fun_flow.specs.steps.Inside.{AreRules}

module _ (U : Program) (R : Rule → Type 0) where
  pub all_left : (rs qs : List Rule) → AreRules U R (rs ++ qs) → AreRules U R rs
  all_left [] qs h = tt
  all_left (r ∷ rs) qs h = (h.0, all_left rs qs h.1)

  pub all_right : (rs qs : List Rule) → AreRules U R (rs ++ qs) → AreRules U R qs
  all_right [] qs h = h
  all_right (r ∷ rs) qs h = all_right rs qs h.1

  pub all_both : (rs qs : List Rule) → AreRules U R rs → AreRules U R qs → AreRules U R (rs ++ qs)
  all_both [] qs h k = k
  all_both (r ∷ rs) qs h k = (h.0, all_both rs qs h.1 k)

  pub all_of : (rs : List Rule) → ((r : Rule) → IsAmong rs r → R r) → AreRules U R rs
  all_of [] h = tt
  all_of (r ∷ rs) h = (h r (inl refl), all_of rs (λ q i. h q (inr i)))

pub of_trace : (Q : Event → Type 0) (x : Event) (tr : Trace) → EachEvent Q tr → Among x tr → Q x
of_trace Q x [] h i = absurd i
of_trace Q x (y ∷ tr) h (inl e) = subst Q (sym e) h.0
of_trace Q x (y ∷ tr) h (inr i) = of_trace Q x tr h.1 i
