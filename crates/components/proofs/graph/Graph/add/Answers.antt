use Rattle.std.proofs.Common.{◌≡◌, ℕ, ◌<◌, ◌⊎◌, ◌↔◌, [], length, ◌∙◌, set, subst, sym}
use Rattle.std.specs.Prelude.{OnOk, OnErr}
use Rattle.std.proofs.lemmas.List.{get_or_default}
use Rattle.components.specs.Graph.{Leads, targets, with_target}
use Rattle.components.proofs.Graphs.{written_graph, written_pairs}
use Rattle.components.proofs.graph.Graph.add.Goals as goal

pub invariant_of-self : goal.invariant_of-self
invariant_of-self c =
    let from_low : c.args.from < length c.self.inside.leads.items = subst (λ g. c.args.from < length g) (sym c.self.view_is) c.requires.from in
    let to_low : c.args.to < length c.self.inside.leads.items = subst (λ g. c.args.to < length g) (sym c.self.view_is) c.requires.to in
    let is : c.index_mut-found.result.now ≡ targets c.self.inside.leads.items c.args.from =
    c.index_mut-found.ensures.value ∙ get_or_default c.self.inside.leads.items c.args.from c.index_mut-found.result.now [] from_low in
    written_graph c.insert.result c.self.inside.leads.items c.args.from c.args.to c.insert.new.self c.self.invariant from_low to_low
    (subst (λ xs. OnOk c.insert.result (c.insert.new.self ≡ with_target xs c.args.to)) is c.insert.ensures.ok)
    (subst (λ xs. OnErr c.insert.result (c.insert.new.self ≡ xs)) is c.insert.ensures.err)

pub returns-clause-pairs : goal.returns-clause-pairs
returns-clause-pairs c =
    let from_low : c.args.from < length c.self.inside.leads.items = subst (λ g. c.args.from < length g) (sym c.self.view_is) c.requires.from in
    let is : c.index_mut-found.result.now ≡ targets c.self.inside.leads.items c.args.from =
    c.index_mut-found.ensures.value ∙ get_or_default c.self.inside.leads.items c.args.from c.index_mut-found.result.now [] from_low in
    subst (λ graph. OnOk c.insert.result ((f g : ℕ) → Leads (set c.self.inside.leads.items c.args.from c.insert.new.self) f g ↔ (Leads graph f g ⊎ ((f ≡ c.args.from) × (g ≡ c.args.to))))) c.self.view_is
    (written_pairs c.insert.result c.self.inside.leads.items c.args.from c.args.to c.insert.new.self from_low
    (subst (λ xs. OnOk c.insert.result (c.insert.new.self ≡ with_target xs c.args.to)) is c.insert.ensures.ok))
