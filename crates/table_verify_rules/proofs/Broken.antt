-- The first rule that is broken, and there the least name of a module that breaks it.
use Rattle.std.proofs.Common.{◌≡◌, ◌↔◌, ℕ, ◌<◌, Bool, true, false, List, Contains, Some, None, IsTrue, refl, sym, ◌∙◌, subst, arith}
use Rattle.std.proofs.lemmas.Bool.{false_from_ne_true}
use Rattle.std.proofs.lemmas.Option.{same_Some}
use Rattle.type_kinds.specs.declared.atom.Atom.{Atom}
use Rattle.comp_rounds.specs.Rounds.{Callees, Function}
use Rattle.analysis_summaries.specs.Functions.{all_functions}
use Rattle.table_file.specs.Order.{is_name_before}
use Rattle.table_keep.specs.Model.{Source, Entry, trees, source_of, entry_of}
use Rattle.sound_laws_kept.proofs.Names.{none_some}
use Rattle.sound_laws_kept.proofs.Trees.{source_stands}
use Rattle.table_verify_laws.specs.Listed.{known_by}
use Rattle.table_verify_laws.specs.Rules.{TableRule, same_modules, same_source, same_functions, closed, rule_number, Keeps, IsFirstBroken, KeepsRules}
use Rattle.table_verify_rules.specs.declared.entries.EntryRule.{EntryRule}
use Rattle.table_verify_rules.specs.declared.entries.EntryRule.TheVariants.{SameSource, SameFunctions}
use Rattle.table_verify_rules.specs.steps.Asked.{Asked, KeepsAsked}
use Rattle.table_verify_rules.specs.steps.Leasts.{IsLeastBreaking, IsLeastOpen}
use Rattle.table_verify_rules.specs.steps.Verdict.{IsVerdict}

module _ (T C : List Entry) (M : List Source) where
  -- ---- one module

  module _ (h : Atom) (e c : Entry) (s : Source) (of_table : entry_of T h ≡ Some e) (of_cert : entry_of C h ≡ Some c) (of_source : source_of M h ≡ Some s) where
    pub keeps_asked : (rule : EntryRule) (b : Bool) → (IsTrue b ↔ Asked rule e c s) → IsTrue b ↔ KeepsAsked rule T C M h
    keeps_asked rule b told = (
      λ t x.
          subst (λ y. Asked rule y x.certified x.source) (same_Some _ _ (sym of_table ∙ x.entry_there))
          (subst (λ y. Asked rule e y x.source) (same_Some _ _ (sym of_cert ∙ x.certified_there))
          (subst (λ y. Asked rule e c y) (same_Some _ _ (sym of_source ∙ x.source_there)) (told.0 t))),
      λ k. told.1 (k (record { entry = e; certified = c; source = s; entry_there = of_table; certified_there = of_cert; source_there = of_source })),
    )

  pub nothing_asked : (h : Atom) → entry_of T h ≡ None → (rule : EntryRule) → IsTrue true ↔ KeepsAsked rule T C M h
  nothing_asked h none rule = (λ t x. none_some (sym none ∙ x.entry_there), λ k. refl)

  -- ---- the modules that keep a rule on entries

  asked_so : (rule : EntryRule) (P : Atom → Type 0) → ((s : Source) → Contains M s → P s.tree.name → KeepsAsked rule T C M s.tree.name) → (h : Atom) → P h → KeepsAsked rule T C M h
  asked_so rule P each h p x =
      let stands = source_stands M h x.source x.source_there in
      subst (KeepsAsked rule T C M) stands.1 (each x.source stands.0 (subst P (sym stands.1) p)) x

  pub all_keep : (rule : EntryRule) → IsLeastBreaking rule T C M M None → (h : Atom) → KeepsAsked rule T C M h
  all_keep rule all h = asked_so rule (λ k. Unit {0}) (λ s has p. all s has) h tt

  -- the module breaks the rule, and none with a lesser name does
  abbrev pub IsLeastBroken : (Atom → Type 0) → Atom → Type 0
  IsLeastBroken P h = (P h → ⊥) × ((k : Atom) → (P k → ⊥) → is_name_before k h ≡ false)

  none_less : (P : Atom → Type 0) (h : Atom) → ((k : Atom) → is_name_before k h ≡ true → P k) → (k : Atom) → (P k → ⊥) → is_name_before k h ≡ false
  none_less P h keeps k breaks = false_from_ne_true (is_name_before k h) (λ e. breaks (keeps k e))

  pub least_asked : (rule : EntryRule) (h : Atom) → IsLeastBreaking rule T C M M (Some h) → IsLeastBroken (KeepsAsked rule T C M) h
  least_asked rule h is = (
    λ keeps. is.0.3 (subst (KeepsAsked rule T C M) (sym is.0.2) keeps),
    none_less (KeepsAsked rule T C M) h (asked_so rule (λ k. is_name_before k h ≡ true) is.1),
  )

  -- ---- the modules whose functions are closed

  abbrev fs : List Function
  fs = all_functions (trees M)

  pub all_closed : (K : Callees) → K ≡ known_by C M → IsLeastOpen fs K fs None → (h : Atom) → Keeps T C M closed h
  all_closed K same all h g has home = subst (λ L. IsLeastOpen fs L fs None) same all g has

  pub least_open : (K : Callees) → K ≡ known_by C M → (h : Atom) → IsLeastOpen fs K fs (Some h) → IsLeastBroken (Keeps T C M closed) h
  least_open K same h given =
      let is = subst (λ L. IsLeastOpen fs L fs (Some h)) same given in (
        λ keeps. is.0.3 (keeps is.0.0 is.0.1 is.0.2),
        none_less (Keeps T C M closed) h (λ k e g has home. is.1 g has (subst (λ n. is_name_before n h ≡ true) (sym home) e)),
      )

  -- ---- the rules in their order

  first : (r : TableRule) (h : Atom) → IsLeastBroken (Keeps T C M r) h → ((q : TableRule) (k : Atom) → rule_number q < rule_number r → Keeps T C M q k) → IsFirstBroken T C M r h
  first r h is earlier = record { broken = is.0; least = is.1; earliest = λ q k less breaks. breaks (earlier q k less) }

  module _ (modules : (k : Atom) → Keeps T C M same_modules k) where
    pub first_source : (h : Atom) → IsLeastBreaking SameSource T C M M (Some h) → IsFirstBroken T C M same_source h
    first_source h is = first same_source h (least_asked SameSource h is) earlier
      where
        earlier : (q : TableRule) (k : Atom) → rule_number q < 30 → Keeps T C M q k
        earlier same_modules k less = modules k
        earlier same_source k less = absurd (omega (arith, less))
        earlier same_functions k less = absurd (omega (arith, less))
        earlier closed k less = absurd (omega (arith, less))

    module _ (sources : (k : Atom) → Keeps T C M same_source k) where
      pub first_functions : (h : Atom) → IsLeastBreaking SameFunctions T C M M (Some h) → IsFirstBroken T C M same_functions h
      first_functions h is = first same_functions h (least_asked SameFunctions h is) earlier
        where
          earlier : (q : TableRule) (k : Atom) → rule_number q < 31 → Keeps T C M q k
          earlier same_modules k less = modules k
          earlier same_source k less = sources k
          earlier same_functions k less = absurd (omega (arith, less))
          earlier closed k less = absurd (omega (arith, less))

      module _ (functions : (k : Atom) → Keeps T C M same_functions k) (K : Callees) (same : K ≡ known_by C M) where
        pub first_closed : (h : Atom) → IsLeastOpen fs K fs (Some h) → IsFirstBroken T C M closed h
        first_closed h is = first closed h (least_open K same h is) earlier
          where
            earlier : (q : TableRule) (k : Atom) → rule_number q < 32 → Keeps T C M q k
            earlier same_modules k less = modules k
            earlier same_source k less = sources k
            earlier same_functions k less = functions k
            earlier closed k less = absurd (omega (arith, less))

        pub none_broken : IsLeastOpen fs K fs None → KeepsRules T C M
        none_broken all same_modules h = modules h
        none_broken all same_source h = sources h
        none_broken all same_functions h = functions h
        none_broken all closed h = all_closed K same all h

  -- ---- what it comes to

  pub verdict_kept : KeepsRules T C M → IsVerdict T C M None
  unfolding IsVerdict
  verdict_kept kept = kept

  pub verdict_at : (r : TableRule) (h : Atom) → IsFirstBroken T C M r h → IsVerdict T C M (Some (rule_number r, h))
  unfolding IsVerdict
  verdict_at r h is = (r, refl, is)

  pub kept_by : IsVerdict T C M None → KeepsRules T C M
  unfolding IsVerdict
  kept_by kept = kept

  pub broken_by : (n : ℕ) (h : Atom) → IsVerdict T C M (Some (n, h)) → (r : TableRule) × (n ≡ rule_number r) × IsFirstBroken T C M r h
  unfolding IsVerdict
  broken_by n h is = is
