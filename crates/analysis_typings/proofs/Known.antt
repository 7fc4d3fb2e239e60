-- Each function of accepted modules with distinct names has a summary, where they are analysed together.
use Rattle.std.proofs.Common.{◌≡◌, ℕ, ◌<◌, true, false, ◌||◌, List, [], ◌∷◌, length, map, ◌⊎◌, inl, inr, Contains, Result, Ok, Err, sym, ap, ap₂, ◌∙◌, subst, true≢false}
use Rattle.std.specs.Prelude.{IfOk}
use Rattle.std.proofs.Math.Bool.{or-true}
use Rattle.std.proofs.lemmas.List.{map-append}
use Rattle.std.proofs.lemmas.Option.{slice_get_within}
use Rattle.type_kinds.proofs.Lists.{contains_none, contains_cases}
use Rattle.type_kinds.specs.declared.memory.Memory.{Memory}
use Rattle.type_kinds.specs.declared.atom.Atom.{Atom}
use Rattle.core_ast.specs.Model as m
use Rattle.core_ast.specs.declared.syntax.FunName.{FunName}
use Rattle.core_scope.specs.Checked.{module_of, tree_of}
use Rattle.core_scope.specs.declared.checked.Checked.{Checked}
use Rattle.core_scope.specs.Names.{Distinct, defined_names}
use Rattle.core_scope.specs.Sets.{StandsEarlier}
use Rattle.call_graph.specs.Calls.{module_functions, functions_of}
use Rattle.cons_tree.specs.declared.parts.Callee.TheVariants.{Unknown}
use Rattle.cons_tree.specs.declared.parts.Summary.{Summary}
use Rattle.comp_rounds.specs.Rounds.{Callees, is_member}
use Rattle.sound_laws.specs.Accepted.{AreAccepted}
use Rattle.sound_laws.specs.Knowledge.{summary_of}
use Rattle.analysis_summaries.specs.Functions.{summarized, all_functions}
use Rattle.analysis_summaries.specs.Known.{module_names, all_unknown, known_over}
use Rattle.analysis_summaries.specs.Whole.{IsWholeOver}
use Rattle.sound_laws_whole.proofs.Named.{search_named, member_append, from_member}
use Rattle.sound_laws_rounds.proofs.Callees.{summary_is}
use Rattle.sound_laws_whole.proofs.Wholes.{callee_at}
use Rattle.analysis_crew.proofs.Passed.{accepted_all, apart_all}
use Rattle.analysis_typings.specs.Typings.{AreTypings, AreKnownOf, HasSummary}

-- ---- a definition is a function

in_first : (y x : m.Module) (xs : List m.Module) (f : FunName) → (y ≡ x) ⊎ (is_member (all_functions xs) x.name f ≡ true) → Contains (defined_names x.defs) f
    → (is_member (map summarized (module_functions y)) x.name f || is_member (all_functions xs) x.name f) ≡ true
in_first y x xs f (inl same) has =
    ap (λ b. b || is_member (all_functions xs) x.name f)
    (subst (λ z. is_member (map summarized (module_functions z)) x.name f ≡ true) (sym same) (from_member x.name x.exports x.defs f has))
in_first y x xs f (inr later) has =
    ap (λ b. is_member (map summarized (module_functions y)) x.name f || b) later ∙ or-true (is_member (map summarized (module_functions y)) x.name f)

member_all : (xs : List m.Module) (x : m.Module) (f : FunName) → Contains xs x → Contains (defined_names x.defs) f → is_member (all_functions xs) x.name f ≡ true
member_all [] x f among has = absurd (contains_none x among)
member_all (y ∷ xs) x f among has =
    ap (λ gs. is_member gs x.name f) (map-append summarized (module_functions y) (functions_of xs))
    ∙ member_append (map summarized (module_functions y)) (all_functions xs) x.name f
    ∙ in_first y x xs f (elim (contains_cases y x xs among) [ inl same ↦ inl same | inr later ↦ inr (member_all xs x f later has) ]) has

pub whole_has : (xs : List m.Module) → AreAccepted xs → Distinct (module_names xs) → (around known : Callees) → IsWholeOver around xs known
    → (x : m.Module) → Contains xs x → (f : FunName) → Contains (defined_names x.defs) f → HasSummary (known x.name f)
whole_has xs accepted apart around known w x among f has =
    subst (λ k. HasSummary (k x.name f)) (sym w.known_so)
    (elim (search_named (all_functions xs) x.name f) [
      | inl p ↦
          let at = callee_at xs accepted apart w.graph w.is_graph w.numbering w.is_numbering around p.position p.function p.there (slice_get_within (all_functions xs) p.position p.function p.there) in
          (at.0, ap summary_of (ap₂ (known_over around xs w.numbering) p.home_is p.name_is ∙ at.1) ∙ summary_is p.function at.0)
      | inr none ↦ absurd (true≢false (sym (member_all xs x f among has) ∙ none))
    ])

-- each function of modules that are passed has a summary
pub all_have : {S : Type 0} (f : S → Checked) (ss : List S) (around known : Callees) → ((j : ℕ) → j < length ss → StandsEarlier (map (λ s. (module_of (f s)).name) ss) j → ⊥)
    → IsWholeOver around (map (λ s. tree_of (f s)) ss) known → (x : m.Module) → Contains (map (λ s. tree_of (f s)) ss) x → (g : FunName) → Contains (defined_names x.defs) g → HasSummary (known x.name g)
all_have f ss around known apart w = whole_has (map (λ s. tree_of (f s)) ss) (accepted_all f ss) (apart_all f ss apart) around known w

-- ---- what is listed

are_typings : (xs : List m.Module) (first known : Callees) (found : List (List Summary)) → ((h : Atom) (f : FunName) → first h f ≡ Unknown) → IsWholeOver first xs known
    → AreKnownOf known xs found → AreTypings xs found
are_typings xs first known found none whole listed =
    let same : first ≡ all_unknown = λ i h f. none h f i in
    record { known = known; whole = subst (λ around. IsWholeOver around xs known) same whole; listed = listed }

pub all_typings : (xs : List m.Module) (first known : Callees) (r : Result (List (List Summary)) Memory) → ((h : Atom) (f : FunName) → first h f ≡ Unknown) → IsWholeOver first xs known
    → IfOk r (λ found. AreKnownOf known xs found) → IfOk r (λ found. AreTypings xs found)
all_typings xs first known (Ok found) none whole listed = are_typings xs first known found none whole listed
all_typings xs first known (Err e) none whole listed = tt
