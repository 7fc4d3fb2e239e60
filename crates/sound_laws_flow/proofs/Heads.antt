-- The head of a clause: where its patterns match and its guard is true, solving keeps the values that are seen.
use Rattle.std.proofs.Common.{◌≡◌, ℕ, ◌+◌, List, length, replicate, Some, None, refl, sym, ap, ◌∙◌, subst, arith, length-append}
use Rattle.std.proofs.lemmas.List.{length-replicate}
use Rattle.type_lattice.proofs.ListOrder.{are_long}
use Rattle.type_kinds.specs.declared.atom.Atom.{Atom}
use Rattle.core_ast.specs.Model as m
use Rattle.core_scope.specs.declared.ask.Ask.TheVariants.{Exactly}
use Rattle.type_lattice_model.specs.Values.{Value, Values, no_value, and_value, Env}
use Rattle.type_lattice.specs.Types.{HasType, any}
use Rattle.cons_tree.specs.Constraints.{Cons}
use Rattle.cons_tree.specs.declared.parts.Part.{Part}
use Rattle.cons_tree.specs.Environments.{Types, State, Assignment, LiesIn, LiesInState}
use Rattle.cons_tree.specs.Facts.{TypeFacts}
use Rattle.cons_tree.specs.Named.{just_true}
use Rattle.cons_tree.specs.Satisfied.{Sat, true_value}
use Rattle.core_meaning.specs.Programs.{Program}
use Rattle.core_meaning.specs.Matching.{MatchEach}
use Rattle.core_meaning.specs.Meaning.{Outcome, gives, Trace}
use Rattle.cons_gen.specs.Made.{head_rows}
use Rattle.cons_gen_rows.specs.Patterns.{outer_rows, outer_span, outer_bindings}
use Rattle.cons_gen_rows.specs.Scopes.{with_bindings}
use Rattle.cons_gen.specs.Spans.{span}
use Rattle.cons_gen_rows.specs.Words.{together}
use Rattle.cons_solve.specs.Environments.{solution}
use Rattle.module_flow_walk.specs.Clauses.{beginning, patterns_solved, head_solved, inside}
use Rattle.module_flow_state.specs.Scopes.{WalkScope, scope_in}
use Rattle.module_flow_state.specs.World.{World, strict}
use Rattle.sound_laws.specs.Assignments.{Alike}
use Rattle.sound_laws.specs.Facts.{Facts, SolutionFacts}
use Rattle.sound_laws.specs.Knowledge.{AllBearOut}
use Rattle.sound_laws.proofs.Parts.{Extends, part_extends}
use Rattle.sound_laws.proofs.Patterns.{outer_extends}
use Rattle.sound_laws.proofs.Scopes.{stands_in}
use Rattle.sound_laws.proofs.Types.{true_in}
use Rattle.sound_laws_flow.specs.steps.Seen.{IsSeen}
use Rattle.sound_laws_flow.proofs.WalkScopes.{IsReady, lies_alike, lies_behind, open_lies, local_each, functions_kept}

-- what is solved is seen
pub record IsSolved (r : State) (a : Assignment) (long : ℕ) : Type 0 where
  pub types : Types
  pub is : r ≡ Some types
  pub lies : LiesIn a types
  pub many : length types ≡ long

module _ (F : Facts) (T : TypeFacts) (R : SolutionFacts) where
  pub solved_some : (c : Cons Part) (ts : Types) (a : Assignment) → LiesIn a ts → Sat c a → IsSolved (solution c ts) a (length ts)
  solved_some c ts a l s = by (solution c ts) refl (R.keeps c a ts l s)
    where
      by : (r : State) → solution c ts ≡ r → LiesInState a r → IsSolved r a (length ts)
      by None e k = absurd k
      by (Some us) e k = record { types = us; is = refl; lies = k; many = are_long us ts (R.below c ts us e) }

  -- the environment behind the patterns, in what is solved
  pub record IsInside (home : Atom) (sc : WalkScope) (ps : m.Patterns) (r : State) (to : Env) : Type 0 where
    pub types : Types
    pub is : r ≡ Some types
    pub seen : IsSeen home (inside sc ps types) to

  begins_long : (sc : WalkScope) (ps : m.Patterns) (g : m.Tree) → length (beginning sc ps g) ≡ length sc.types + (outer_span ps + span (Exactly 1) g)
  begins_long sc ps g = length-append sc.types (replicate (outer_span ps + span (Exactly 1) g) any) ∙ ap (λ i. length sc.types + i) (length-replicate (outer_span ps + span (Exactly 1) g) any)

  begins_lie : (sc : WalkScope) (ps : m.Patterns) (g : m.Tree) (a b : Assignment) → Alike (length sc.types) a b → LiesIn a sc.types → LiesIn b (beginning sc ps g)
  begins_lie sc ps g a b h l = lies_behind T sc.types (replicate (outer_span ps + span (Exactly 1) g) any) b (lies_alike T sc.types a b h l) (λ i. open_lies T (outer_span ps + span (Exactly 1) g) i (b (length sc.types + i)))

  module _ (W : Value → Type 0) (home : Atom) where
    pub patterns_ready : {sc : WalkScope} {env to : Env} {vs : Values} {qs : List ℕ} {ps : m.Patterns} (g : m.Tree) → IsReady T home sc env vs qs → MatchEach W ps vs env to → IsInside home sc ps (patterns_solved sc qs ps g) to
    patterns_ready {sc} {env} {to} {vs} {qs} {ps} g r mt =
        let start = length sc.types in
        let x = outer_extends F W home (scope_in sc) qs start r.seen.at mt r.seen.stands r.under r.holds in
        let k = x.holds x.to (λ i h. refl) in
        let s = solved_some (together (outer_rows qs start ps)) (beginning sc ps g) x.to (begins_lie sc ps g r.seen.at x.to x.same r.seen.inside) k.0 in
        let long = begins_long sc ps g in
        let many = s.many in
        record {
          types = s.types;
          is = s.is;
          seen = record {
            at = x.to;
            stands = stands_in (omega (arith, long, many)) (λ i h. refl) k.1;
            inside = s.lies;
            functions = functions_kept to (inside sc ps s.types).variables s.types (λ f. local_each home W f mt) r.seen.functions;
          };
        }

    pub head_ready : {sc : WalkScope} {env to : Env} {vs : Values} {qs : List ℕ} {ps : m.Patterns} {g : m.Tree} {tr : Trace} (U : Program) (V : World) (E : Atom → Env → m.Tree → Outcome → Trace → Type 0) → V.home ≡ home
        → Extends (strict V) U E → IsReady T home sc env vs qs → MatchEach W ps vs env to → E home to g (gives (and_value true_value no_value)) tr → AllBearOut (strict V) U tr → IsInside home sc ps (head_solved V sc qs ps g) to
    head_ready {sc} {env} {to} {vs} {qs} {ps} {g} U V E here each r mt ev bears =
        let start = length sc.types in
        let guard = start + outer_span ps in
        let x = outer_extends F W home (scope_in sc) qs start r.seen.at mt r.seen.stands r.under r.holds in
        let k = x.holds x.to (λ i h. refl) in
        let y = part_extends (strict V) U E each home (with_bindings (scope_in sc) (outer_bindings start ps)) guard x.to ev bears k.1 in
        let k2 = y.holds y.to (λ i h. refl) in
        let k1 = x.holds y.to y.same in
        let true_there = subst (λ z. HasType z just_true) (sym k2.1) (true_in F) in
        let sat : Sat (together (head_rows (strict V) home (scope_in sc) qs start ps g)) y.to = (k1.0, (k2.0, (true_there, tt))) in
        let sat_here = subst (λ h. Sat (together (head_rows (strict V) h (scope_in sc) qs start ps g)) y.to) (sym here) sat in
        let same : Alike start r.seen.at y.to = λ i h. x.same i h ∙ y.same i (omega (arith, h)) in
        let s = solved_some (together (head_rows (strict V) V.home (scope_in sc) qs start ps g)) (beginning sc ps g) y.to (begins_lie sc ps g r.seen.at y.to same r.seen.inside) sat_here in
        let long = begins_long sc ps g in
        let many = s.many in
        record {
          types = s.types;
          is = s.is;
          seen = record {
            at = y.to;
            stands = stands_in {n = length s.types} {sc = scope_in (inside sc ps s.types)} (omega (arith, long, many)) (λ i h. refl) k1.1;
            inside = s.lies;
            functions = functions_kept to (inside sc ps s.types).variables s.types (λ f. local_each home W f mt) r.seen.functions;
          };
        }
