-- There is one thing that is known of modules over what stands outside.
use Rattle.std.proofs.Common.{◌≡◌, ℕ, zero, suc, ◌<◌, ◌≤◌, Bool, true, false, List, [], ◌⊎◌, inl, inr, Contains, refl, sym, ap, ap₂, ◌∙◌, subst, arith}
use Rattle.std.proofs.lemmas.Bool.{cases_lt}
use Rattle.type_kinds.specs.declared.atom.Atom.{Atom}
use Rattle.core_ast.specs.declared.syntax.FunName.{FunName}
use Rattle.core_ast.specs.Model as m
use Rattle.core_scope.specs.Asks.{erlang}
use Rattle.core_scope.specs.Names.{same_atom}
use Rattle.call_graph.specs.Targets.CallTarget.{defined, inner, remote}
use Rattle.call_graph.specs.Targets.{CallTarget, targets}
use Rattle.comp_rounds.specs.Rounds.{Callees, Function, is_member, after_rounds, last_round, strict_signatures, summaries}
use Rattle.comp_rounds.proofs.SameCallees.{pointwise}
use Rattle.sound_laws_rounds.specs.Whole.{AreKnown}
use Rattle.analysis_summaries.specs.Functions.{all_functions}
use Rattle.cons_gen_frame.specs.Agreement.{GivesNothing, AreAlike}
use Rattle.sound_laws_whole.proofs.Components.{AgreesBut}
use Rattle.sound_laws_outside.proofs.Orderless.{member_of_there, SameFunctions, one_rule}
use Rattle.sound_laws_whole.proofs.Wholes.{local_gives_nothing}
use Rattle.sound_laws_outside.specs.Over.{is_home, Finds, Reaches, by_call, by_calls, Together, IsKnownOver}
use Rattle.sound_laws_outside.proofs.Members.{far_is, Named, member_named, known_some, known_rule, framed, home_in}

module _ (xs : List m.Module) (outside known : Callees) (a : IsKnownOver outside xs known) where
  falls : (f g : Function) → Reaches (all_functions xs) f g → a.number g.home g.name ≤ a.number f.home f.name
  falls _ _ (by_call f g l) = a.down f g l.target l.calling l.called l.stands l.goes
  falls _ _ (by_calls f m g l rest) = omega (arith, a.down f m l.target l.calling l.called l.stands l.goes, falls m g rest)

  pub one_number : (f g : Function) → Together (all_functions xs) f g → a.number f.home f.name ≡ a.number g.home g.name
  one_number f g (inl e) = ap (λ (z : Function). a.number z.home z.name) e
  one_number f g (inr both) = omega (arith, falls f g both.0, falls g f both.1)

module _ (ends : (outside : Callees) (gs : List Function) (k : ℕ) → last_round outside gs ≤ k → after_rounds outside gs k ≡ strict_signatures outside gs)
    (xs : List m.Module) (outside K L : Callees) (a : IsKnownOver outside xs K) (b : IsKnownOver outside xs L) where
  abbrev fs : List Function
  fs = all_functions xs

  abbrev at : Function → ℕ
  at g = a.number g.home g.name

  abbrev at_other : Function → ℕ
  at_other g = b.number g.home g.name

  component_same : (g : Function) → Contains fs g → SameFunctions (a.component (at g)) (b.component (at_other g))
  component_same g here = record {
    once = a.once (at g);
    other_once = b.once (at_other g);
    there = λ k has.
        let k_there = a.within (at g) k has in
        let together = a.together k g k_there here (a.numbered (at g) k has) in
        subst (λ n. Contains (b.component n) k) (one_number xs outside L b k g together) (b.all k k_there);
    back = λ k has.
        let k_there = b.within (at_other g) k has in
        let together = b.together k g k_there here (b.numbered (at_other g) k has) in
        subst (λ n. Contains (a.component n) k) (one_number xs outside K a k g together) (a.all k k_there);
  }

  -- where the functions of lower numbers are known the same
  module _ (n : ℕ) (before : (g : Function) → Contains fs g → at g < n → K g.home g.name ≡ L g.home g.name) where
    abbrev gs : List Function
    gs = a.component n

    -- a function that one of the component calls
    goes_down : (k : Function) (t : CallTarget) (j : Function) → Contains gs k → Contains (targets [] k.body) t → Contains fs j → Finds k t j
        → (is_member gs j.home j.name ≡ true) ⊎ (K j.home j.name ≡ L j.home j.name)
    goes_down k t j in_it stands there goes =
        let down = a.down k j t (a.within n k in_it) there stands goes in
        let number = a.numbered n k in_it in
        elim (cases_lt (at j) n) [
          | inl less ↦ inr (before j there less)
          | inr high ↦ inl (member_of_there gs j (let e : at j ≡ n = omega (arith, down, number, high) in subst (λ i. Contains (a.component i) j) e (a.all j there)))
        ]

    renamed : (h : Atom) (f : FunName) (j : Named fs h f) → (is_member gs j.function.home j.function.name ≡ true) ⊎ (K j.function.home j.function.name ≡ L j.function.home j.function.name)
        → (is_member gs h f ≡ true) ⊎ (K h f ≡ L h f)
    renamed h f j r =
        subst (λ z. (is_member gs z f ≡ true) ⊎ (K z f ≡ L z f)) j.home_is
        (subst (λ z. (is_member gs j.function.home z ≡ true) ⊎ (K j.function.home z ≡ L j.function.home z)) j.name_is r)

    local_same : (k : Function) (f : FunName) (count : ℕ) → Contains gs k → Contains (targets [] k.body) (defined f count) → (b : Bool) → is_member fs k.home f ≡ b → AgreesBut gs K L k.home (defined f count)
    local_same k f count in_it stands false e = let home = home_in xs k (a.within n k in_it) in inr (a.none k.home f home e ∙ sym (b.none k.home f home e))
    local_same k f count in_it stands true e =
        let j = member_named fs k.home f e in renamed k.home f j (goes_down k (defined f count) j.function in_it stands j.there (j.home_is, j.name_is))

    solved : (S : Callees) → IsKnownOver outside xs S → (h : Atom) (f : FunName) (j : Named fs h f) → j.function.exported ≡ false → GivesNothing (S h f)
    solved S c h f j closed =
        let number = c.number j.function.home j.function.name in
        let s = known_some S (c.component number) (summaries S (c.component number)) (c.known_so number) j.function (c.all j.function j.there) in
        subst GivesNothing (sym (sym (ap₂ S j.home_is j.name_is) ∙ s.1)) (local_gives_nothing j.function s.0 closed)

    remote_same : (k : Function) (h : Atom) (f : FunName) → Contains gs k → Contains (targets [] k.body) (remote h f) → same_atom h erlang ≡ false → (j : Named fs h f) → (b : Bool) → j.function.exported ≡ b
        → (is_member gs h f ≡ true) ⊎ AreAlike (K h f) (L h f)
    remote_same k h f in_it stands far j true e = elim (renamed h f j (goes_down k (remote h f) j.function in_it stands j.there (j.home_is, far_is h far, e, j.name_is))) [
      | inl member ↦ inl member
      | inr same ↦ inr (inl same)
    ]
    remote_same k h f in_it stands far j false e = inr (inr (solved K a h f j e, solved L b h f j e))

    but : (k : Function) (t : CallTarget) → Contains gs k → Contains (targets [] k.body) t → AgreesBut gs K L k.home t
    but k (defined f count) in_it stands = local_same k f count in_it stands (is_member fs k.home f) refl
    but k (inner f count) in_it stands = tt
    but k (remote h f) in_it stands = by (same_atom h erlang) refl (is_home xs h) refl (is_member fs h f) refl
      where
        by : (near : Bool) → same_atom h erlang ≡ near → (c : Bool) → is_home xs h ≡ c → (d : Bool) → is_member fs h f ≡ d → AgreesBut gs K L k.home (remote h f)
        by true near c e d is = inl near
        by false far false e d is = inr (inr (inl (a.out h f e ∙ sym (b.out h f e))))
        by false far true e false is = inr (inr (inl (a.none h f e is ∙ sym (b.none h f e is))))
        by false far true e true is = let j = member_named fs h f is in inr (remote_same k h f in_it stands far j j.function.exported refl)

    here_same : (g : Function) → Contains fs g → at g ≡ n → K g.home g.name ≡ L g.home g.name
    here_same g there is =
        let hs = b.component (at_other g) in
        let same = subst (λ i. SameFunctions (a.component i) hs) is (component_same g there) in
        let one = one_rule ends L gs hs same in
        let in_it : Contains gs g = subst (λ i. Contains (a.component i) g) is (a.all g there) in
        known_rule K gs one.rule (subst (AreKnown K gs) (framed gs K L but ∙ one.here) (a.known_so n)) g in_it
        ∙ sym (known_rule L hs one.rule (subst (AreKnown L hs) one.there (b.known_so (at_other g))) g (b.all g there))

  below : (n : ℕ) (g : Function) → Contains fs g → at g < n → K g.home g.name ≡ L g.home g.name
  below zero g there low = absurd (omega (arith, low))
  below (suc n) g there low = elim (cases_lt (at g) n) [
    | inl less ↦ below n g there less
    | inr high ↦ here_same n (below n) g there (omega (arith, low, high))
  ]

  pub one_known : K ≡ L
  one_known = pointwise K L (λ h f. by h f (is_home xs h) refl (is_member fs h f) refl)
    where
      by : (h : Atom) (f : FunName) (c : Bool) → is_home xs h ≡ c → (d : Bool) → is_member fs h f ≡ d → K h f ≡ L h f
      by h f false e d is = a.out h f e ∙ sym (b.out h f e)
      by h f true e false is = a.none h f e is ∙ sym (b.none h f e is)
      by h f true e true is =
          let j = member_named fs h f is in
          sym (ap₂ K j.home_is j.name_is) ∙ below (suc (at j.function)) j.function j.there (omega arith) ∙ ap₂ L j.home_is j.name_is
