use Rattle.std.proofs.Common.{◌≡◌, ◌<◌, inl, inr, length, refl, sym, subst, arith}
use Rattle.std.specs.Prelude.{slice_index}
use Rattle.components.specs.steps.Search.{Walk}
use Rattle.components.specs.steps.State.{last_pending}
use Rattle.components.proofs.Steps.{target_low, at_last, state_at, reaches_pending}
use Rattle.components.proofs.search.Search.look.Goals as goal

pub index-requires : goal.index-requires
index-requires c =
    let is : c.index-target.result.now ≡ last_pending c.args.self.now = at_last c.args.self.now.pending.items c.len-2.result _ c.index-target.ensures (omega arith) (omega arith) in
    omega (arith, target_low _ _ _ _ _ _ _ _ c.requires.graph c.requires.sound (omega arith) is)

pub returns-in-Unseen : goal.returns-in-Unseen
returns-in-Unseen c =
    let is : c.index-target.result.now ≡ last_pending c.args.self.now = at_last c.args.self.now.pending.items c.len-2.result _ c.index-target.ensures (omega arith) (omega arith) in
    let low : c.index-target.result.now < length c.args.self.now.states.items = target_low _ _ _ _ _ _ _ _ c.requires.graph c.requires.sound (omega arith) is in
    record {
      low = omega (arith, low, c.requires.sound.sizes);
      unseen = state_at _ _ _ _ _ c.index.ensures low refl c.in-Unseen.is;
      reached = λ i under.
          subst (λ v. Walk c.args.graph.now (slice_index c.args.self.now.path i) v) (sym is)
          (reaches_pending _ _ _ _ _ _ _ _ c.requires.sound c.requires.top (omega arith) i under);
    }

pub returns-in-Closed : goal.returns-in-Closed
returns-in-Closed c =
    let is : c.index-target.result.now ≡ last_pending c.args.self.now = at_last c.args.self.now.pending.items c.len-2.result _ c.index-target.ensures (omega arith) (omega arith) in
    let low : c.index-target.result.now < length c.args.self.now.states.items = target_low _ _ _ _ _ _ _ _ c.requires.graph c.requires.sound (omega arith) is in
    (omega arith, inl (c.in-Closed.field-0, state_at _ _ _ _ _ c.index.ensures low is c.in-Closed.is))

pub returns-then-position-top : goal.returns-then-position-top
returns-then-position-top c =
    let is : c.index-target.result.now ≡ last_pending c.args.self.now = at_last c.args.self.now.pending.items c.len-2.result _ c.index-target.ensures (omega arith) (omega arith) in
    let low : c.index-target.result.now < length c.args.self.now.states.items = target_low _ _ _ _ _ _ _ _ c.requires.graph c.requires.sound (omega arith) is in
    (omega arith, (c.in-Open.position, state_at _ _ _ _ _ c.index.ensures low is c.in-Open.is, c.if-position-top.true))

pub returns-else-position-top : goal.returns-else-position-top
returns-else-position-top c =
    let is : c.index-target.result.now ≡ last_pending c.args.self.now = at_last c.args.self.now.pending.items c.len-2.result _ c.index-target.ensures (omega arith) (omega arith) in
    let low : c.index-target.result.now < length c.args.self.now.states.items = target_low _ _ _ _ _ _ _ _ c.requires.graph c.requires.sound (omega arith) is in
    (omega arith, inr (c.in-Open.position, state_at _ _ _ _ _ c.index.ensures low is c.in-Open.is, c.if-position-top.false))
