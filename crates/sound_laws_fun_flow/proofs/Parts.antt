-- The rules of the parts that a form evaluates first are among its own.
use Rattle.std.proofs.Common.{ℕ, List, [], ◌∷◌, ◌++◌, Option, Some, None}
use Rattle.type_kinds.specs.declared.atom.Atom.{Atom}
use Rattle.core_ast.specs.Lengths.{how_many}
use Rattle.core_ast.specs.Model as m
use Rattle.core_ast.specs.Named.{literal_atom, local_name}
use Rattle.core_ast.specs.declared.syntax.FunName.{FunName}
use Rattle.core_scope.specs.Asks.{one_value}
use Rattle.core_scope.specs.declared.ask.Ask.{Ask}
use Rattle.core_meaning.specs.Meaning.{with_last, both_rows, in_pairs, in_segments, in_application, operands}
use Rattle.core_meaning.specs.Programs.{Program}
use Rattle.fun_flow_sets.specs.Items.{Place, part, Rule, flows}
use Rattle.fun_flow_sets.specs.Rules.{places, places_of_all, places_of_pairs, all_into, rules, rules_of_all, rules_of_pairs, rules_of_segments, application_rules, call_rules}
use Rattle.fun_flow_sets.specs.Scopes.{Scope, first}
use Rattle.sound_laws_fun_flow.specs.steps.Inside.{AreRules}
use Rattle.sound_laws_fun_flow.proofs.Lists.{all_left, all_right, all_both}

module _ (U : Program) (R : Rule → Type 0) (home : Atom) where
  abbrev Are : List Rule → Type 0
  Are rs = AreRules U R rs

  abbrev Of : Scope → m.Tree → List Rule
  Of sc t = rules U home sc one_value t

  abbrev OfAll : Scope → m.Trees → List Rule
  OfAll sc ts = rules_of_all U home sc ts

  pub last_rules : (sc : Scope) (ts : m.Trees) (t : m.Tree) → Are (OfAll sc ts) → Are (Of sc t) → Are (OfAll sc (with_last ts t))
  last_rules sc m.no_tree t a b = all_both U R (Of sc t) [] b tt
  last_rules sc (m.and_tree u us) t a b = all_both U R (Of sc u) (OfAll sc (with_last us t)) (all_left U R (Of sc u) (OfAll sc us) a) (last_rules sc us t (all_right U R (Of sc u) (OfAll sc us) a) b)

  pub last_into : (sc : Scope) (ts : m.Trees) (t : m.Tree) (q : Place) → Are (all_into (places_of_all U home sc ts) q) → R (flows (first (places U home sc one_value t)) q) → Are (all_into (places_of_all U home sc (with_last ts t)) q)
  last_into sc m.no_tree t q a r = (r, tt)
  last_into sc (m.and_tree u us) t q a r = (a.0, last_into sc us t q a.1 r)

  pub pairs_rules : (sc : Scope) (ps : m.Pairs) → Are (rules_of_pairs U home sc ps) → Are (OfAll sc (in_pairs ps))
  pairs_rules sc m.no_pair a = tt
  pairs_rules sc (m.and_pair e t u ps) a =
      let b = all_right U R (Of sc t) (Of sc u ++ rules_of_pairs U home sc ps) a in
      all_both U R (Of sc t) (Of sc u ++ OfAll sc (in_pairs ps)) (all_left U R (Of sc t) (Of sc u ++ rules_of_pairs U home sc ps) a) (
      all_both U R (Of sc u) (OfAll sc (in_pairs ps)) (all_left U R (Of sc u) (rules_of_pairs U home sc ps) b) (pairs_rules sc ps (all_right U R (Of sc u) (rules_of_pairs U home sc ps) b)))

  pub pairs_into : (sc : Scope) (ps : m.Pairs) (q : Place) → Are (all_into (places_of_pairs U home sc ps) q) → Are (all_into (places_of_all U home sc (in_pairs ps)) q)
  pairs_into sc m.no_pair q a = tt
  pairs_into sc (m.and_pair e t u ps) q a = (a.0, (a.1.0, pairs_into sc ps q a.1.1))

  both_rules : (sc : Scope) (ts us : m.Trees) → Are (OfAll sc ts) → Are (OfAll sc us) → Are (OfAll sc (both_rows ts us))
  both_rules sc m.no_tree us a b = b
  both_rules sc (m.and_tree t ts) us a b = all_both U R (Of sc t) (OfAll sc (both_rows ts us)) (all_left U R (Of sc t) (OfAll sc ts) a) (both_rules sc ts us (all_right U R (Of sc t) (OfAll sc ts) a) b)

  pub segments_rules : (sc : Scope) (ss : m.Segments) → Are (rules_of_segments U home sc ss) → Are (OfAll sc (in_segments ss))
  segments_rules sc m.no_segment a = tt
  segments_rules sc (m.and_segment t ts ss) a =
      let b = all_right U R (Of sc t) (OfAll sc ts ++ rules_of_segments U home sc ss) a in
      all_both U R (Of sc t) (OfAll sc (both_rows ts (in_segments ss))) (all_left U R (Of sc t) (OfAll sc ts ++ rules_of_segments U home sc ss) a)
      (both_rules sc ts (in_segments ss) (all_left U R (OfAll sc ts) (rules_of_segments U home sc ss) b) (segments_rules sc ss (all_right U R (OfAll sc ts) (rules_of_segments U home sc ss) b)))

  -- the operator's rules and those of the arguments
  applied_rules : (sc : Scope) (label : ℕ) (o : Option FunName) (t : m.Tree) (ts : m.Trees) (n : ℕ) → Are (application_rules U home sc label o (places U home sc one_value t) (Of sc t) n (places_of_all U home sc ts) ++ OfAll sc ts)
      → Are (OfAll sc (in_application o t ts))
  applied_rules sc label None t ts n a =
      let own = application_rules U home sc label None (places U home sc one_value t) (Of sc t) n (places_of_all U home sc ts) in
      all_both U R (Of sc t) (OfAll sc ts) (all_left U R own (OfAll sc ts) a).1 (all_right U R own (OfAll sc ts) a)
  applied_rules sc label (Some f) t ts n a = all_right U R (application_rules U home sc label (Some f) (places U home sc one_value t) (Of sc t) n (places_of_all U home sc ts)) (OfAll sc ts) a

  pub operand_rules : (sc : Scope) (k : Ask) (t : m.Tree) → Are (rules U home sc k t) → Are (OfAll sc (operands t))
  operand_rules sc k (m.listed i ts t) a =
      let own = all_into (places_of_all U home sc ts) (part home i.label 0) in
      let b = (all_right U R own (flows (first (places U home sc one_value t)) (part home i.label 0) ∷ (OfAll sc ts ++ Of sc t)) a).1 in
      last_rules sc ts t (all_left U R (OfAll sc ts) (Of sc t) b) (all_right U R (OfAll sc ts) (Of sc t) b)
  operand_rules sc k (m.tuple i ts) a = all_right U R (all_into (places_of_all U home sc ts) (part home i.label 0)) (OfAll sc ts) a
  operand_rules sc k (m.new_map i ps) a = pairs_rules sc ps (all_right U R (all_into (places_of_pairs U home sc ps) (part home i.label 0)) (rules_of_pairs U home sc ps) a)
  operand_rules sc k (m.updated_map i ps t) a =
      let own = all_into (places_of_pairs U home sc ps) (part home i.label 0) in
      let b = (all_right U R own (flows (first (places U home sc one_value t)) (part home i.label 0) ∷ (rules_of_pairs U home sc ps ++ Of sc t)) a).1 in
      last_rules sc (in_pairs ps) t (pairs_rules sc ps (all_left U R (rules_of_pairs U home sc ps) (Of sc t) b)) (all_right U R (rules_of_pairs U home sc ps) (Of sc t) b)
  operand_rules sc k (m.binary i ss) a = segments_rules sc ss a
  operand_rules sc k (m.values i ts) a = a
  operand_rules sc k (m.apply i t ts) a = applied_rules sc i.label (local_name t) t ts (how_many ts) a
  operand_rules sc k (m.call i t u ts) a = all_right U R (call_rules U home i.label (literal_atom t) (literal_atom u) (how_many ts) (places_of_all U home sc ts)) (Of sc t ++ (Of sc u ++ OfAll sc ts)) a
  operand_rules sc k (m.primop i x ts) a = a
  operand_rules sc k t a = tt
