-- Something is known of all modules: which function calls which is decided, so they have a call graph, which has a numbering.
use Rattle.std.proofs.Common.{◌≡◌, ◌<◌, inl, inr, ℕ, Bool, true, false, List, [], ◌∷◌, length, Contains, Option, Some, None, refl, sym, ◌∙◌, subst, arith, true≢false}
use Rattle.std.specs.Prelude.{slice_get}
use Rattle.std.specs.Cmp.Lexicographic.{bytes_decides}
use Rattle.std.proofs.lemmas.Option.{slice_get_within}
use Rattle.type_kinds.specs.declared.atom.Atom.{Atom}
use Rattle.type_kinds.proofs.Lists.{contains_none, contains_first, contains_later, contains_cases}
use Rattle.core_ast.specs.declared.syntax.FunName.{FunName}
use Rattle.core_ast.specs.Model as m
use Rattle.core_scope.specs.Asks.{erlang}
use Rattle.core_scope.specs.Names.{same_atom, same_function, has_function}
use Rattle.core_scope.proofs.NameLaws.{function_is, function_itself, has_contained, contained_has}
use Rattle.call_graph.specs.Calls.{ModuleFunction, functions_of, GoesTo, Calls}
use Rattle.call_graph.specs.Targets.{CallTarget, targets}
use Rattle.call_graph.specs.Targets.CallTarget.{defined, inner, remote}
use Rattle.components.specs.Ready.{SomeNumbering}
use Rattle.components.proofs.Bounded.{Decided, both, otherwise, graph_of}
use Rattle.comp_rounds.specs.Rounds.{Callees}
use Rattle.analysis_summaries.specs.Known.{known_over}
use Rattle.analysis_summaries.specs.Whole.{IsWholeOver}
use Rattle.sound_laws_outside.specs.Laws.{SolvedLaw, SomeLaw}

-- ---- which function calls which

-- a test decides what it is exact for
by_test : {P : Type 0} (b : Bool) → (b ≡ true → P) → (P → b ≡ true) → Decided P
by_test true there back = inl (there refl)
by_test false there back = inr (λ h. true≢false (sym (back h)))

atoms : (x y : Atom) → Decided (x ≡ y)
atoms x y = by_test (same_atom x y) (bytes_decides x y).0 (bytes_decides x y).1

functions : (f g : FunName) → Decided (f ≡ g)
functions f g = by_test (same_function f g) (function_is f g) (λ e. subst (λ x. same_function f x ≡ true) e (function_itself f))

exporting : (fs : List FunName) (f : FunName) → Decided (Contains fs f)
exporting fs f = by_test (has_function fs f) (contained_has fs f) (has_contained fs f)

going : (f : ModuleFunction) (t : CallTarget) (g : ModuleFunction) → Decided (GoesTo f t g)
going f (defined name count) g = both (atoms g.home f.home) (functions g.name name)
going f (inner name count) g = inr (λ h. h)
going f (remote home name) g =
    elim (both (atoms g.home home) (both (otherwise (atoms home erlang)) (both (exporting g.exports name) (functions g.name name)))) [
      | inl h ↦ inl (h.0, h.1.0, h.1.1.0, h.1.1.1)
      | inr never ↦ inr (λ h. never (h.0, (h.1, (h.2, h.3))))
    ]

-- one of the targets is the function
abbrev OneGoes : (f : ModuleFunction) (ts : List CallTarget) (g : ModuleFunction) → Type 0
OneGoes f ts g = (t : CallTarget) × (Contains ts t × GoesTo f t g)

one_going : (f : ModuleFunction) (ts : List CallTarget) (g : ModuleFunction) → Decided (OneGoes f ts g)
one_going f [] g = inr (λ h. contains_none h.0 h.1.0)
one_going f (t ∷ ts) g = by (going f t g) (one_going f ts g)
  where
    by : Decided (GoesTo f t g) → Decided (OneGoes f ts g) → Decided (OneGoes f (t ∷ ts) g)
    by (inl h) d = inl (t, (contains_first t ts, h))
    by (inr never) (inl h) = inl (h.0, (contains_later t h.0 ts h.1.0, h.1.1))
    by (inr never) (inr none) = inr (λ h. elim (contains_cases t h.0 ts h.1.0) [
      | inl is ↦ never (subst (λ x. GoesTo f x g) (sym is) h.1.1)
      | inr has ↦ none (h.0, (has, h.1.1))
    ])

same_item : {A : Type 0} {o : Option A} {x y : A} → o ≡ Some x → o ≡ Some y → x ≡ y
same_item a b = let e = sym a ∙ b in cc

calling : (xs : List m.Module) (i j : ℕ) → Decided (Calls xs i j)
calling xs i j = by (slice_get (functions_of xs) i) refl (slice_get (functions_of xs) j) refl
  where
    by : (a : Option ModuleFunction) → slice_get (functions_of xs) i ≡ a → (b : Option ModuleFunction) → slice_get (functions_of xs) j ≡ b → Decided (Calls xs i j)
    by None e b d = inr (λ h. absurd (let bad = sym e ∙ h.calling in cc))
    by (Some f) e None d = inr (λ h. absurd (let bad = sym d ∙ h.called in cc))
    by (Some f) e (Some g) d =
        elim (one_going f (targets [] f.body) g) [
          | inl h ↦ inl (record { caller = f; callee = g; target = h.0; calling = e; called = d; stands = h.1.0; goes = h.1.1 })
          | inr never ↦ inr (λ h.
              let from : h.caller ≡ f = same_item h.calling e in
              let to : h.callee ≡ g = same_item h.called d in
              never (h.target, (subst (λ x. Contains (targets [] x.body) h.target) from h.stands, subst (GoesTo f h.target) to (subst (λ x. GoesTo x h.target h.callee) from h.goes))))
        ]

-- ---- what is known

calls_low : (xs : List m.Module) (i j : ℕ) → Calls xs i j → (i < length (functions_of xs)) × (j < length (functions_of xs))
calls_low xs i j h = (slice_get_within (functions_of xs) i h.caller h.calling, slice_get_within (functions_of xs) j h.callee h.called)

pub some_whole : SomeNumbering → (outside : Callees) (xs : List m.Module) → (known : Callees) × IsWholeOver outside xs known
some_whole numbers outside xs =
    let graph = graph_of (Calls xs) (calling xs) (length (functions_of xs)) (calls_low xs) in
    let c = numbers graph.0 (λ i j h. omega (arith, graph.1, (calls_low xs i j ((graph.2 i j).0 h)).1)) in
    (known_over outside xs c.0, record { graph = graph.0; is_graph = record { counted = graph.1; pairs = graph.2 }; numbering = c.0; is_numbering = c.1; known_so = refl })

pub some : SomeNumbering → SolvedLaw → SomeLaw
some numbers solved xs outside accepted distinct =
    let known = some_whole numbers outside xs in
    (known.0, solved xs outside known.0 accepted distinct known.1)
