-- The walk for calls by literal names: what it has met and found, one call after another.
use Rattle.std.proofs.Common.{◌≡◌, ◌&&◌, not, cond, List, [], ◌∷◌, ◌++◌, Result, refl, sym, ap, ◌∙◌, subst, append_assoc, append-nil}
use Rattle.type_kinds.specs.declared.atom.Atom.{Atom}
use Rattle.type_kinds.specs.declared.memory.Memory.{Memory}
use Rattle.core_ast.specs.declared.syntax.FunName.{FunName}
use Rattle.core_scope.specs.Asks.{erlang}
use Rattle.core_scope.specs.Names.{same_atom}
use Rattle.cons_tree.specs.declared.parts.Callee.{Callee}
use Rattle.warn_list.specs.declared.finding.Finding.{Finding}
use Rattle.module_flow_calls.specs.declared.unknown.NamingWalk.{NamingWalk}
use Rattle.module_flow_calls.specs.Unknown.{Naming, is_named, is_unknown, found_first}
use Rattle.module_flow_calls.specs.steps.FirstCalls.{AreNamed, named_after, Notes, Leads}

abbrev pub Answer : Type 0
Answer = Result (Unit {0}) Memory

-- ---- lists of calls

pub named_after_both : (before cs ds : List Naming) → named_after before (cs ++ ds) ≡ named_after (named_after before cs) ds
named_after_both before [] ds = refl
named_after_both before (c ∷ cs) ds = named_after_both (c ∷ before) cs ds

module _ (k : Atom → FunName → Callee) where
  -- what is found at the first of these calls
  abbrev here : List Naming → Naming → List Finding
  here before c = cond (is_unknown (k c.home c.name) && not (same_atom c.home erlang) && not (is_named before c)) c.found []

  found_both : (before cs ds : List Naming) → found_first before k (cs ++ ds) ≡ found_first before k cs ++ found_first (named_after before cs) k ds
  found_both before [] ds = refl
  found_both before (c ∷ cs) ds =
      ap (λ l. here before c ++ l) (found_both (c ∷ before) cs ds) ∙ sym (append_assoc (here before c) (found_first (c ∷ before) k cs) (found_first (named_after (c ∷ before) cs) k ds))

  -- ---- states

  pub notes_none : (w : NamingWalk) → Notes k w w []
  notes_none w = record { found = λ before an. sym (append-nil w.found); named = λ before an. an }

  pub notes_then : (w w1 w2 : NamingWalk) (cs ds : List Naming) → Notes k w w1 cs → Notes k w1 w2 ds → Notes k w w2 (cs ++ ds)
  notes_then w w1 w2 cs ds one two = record {
    found = λ before an.
        two.found (named_after before cs) (one.named before an) ∙ ap (λ l. l ++ found_first (named_after before cs) k ds) (one.found before an)
        ∙ append_assoc w.found (found_first before k cs) (found_first (named_after before cs) k ds) ∙ ap (λ l. w.found ++ l) (sym (found_both before cs ds));
    named = λ before an. subst (AreNamed w2.named) (sym (named_after_both before cs ds)) (two.named (named_after before cs) (one.named before an));
  }

  -- one round of a loop, and its end
  pub round : (w w1 first : NamingWalk) (part left all whole : List Naming) → Notes k w w1 part → all ≡ part ++ left → Leads k w all first whole → Leads k w1 left first whole
  round w w1 first part left all whole step is before = λ last then. before last (subst (Notes k w last) (sym is) (notes_then w w1 last part left step then))

  pub ended : (w first : NamingWalk) (left whole : List Naming) → left ≡ [] → Leads k w left first whole → Notes k first w whole
  ended w first left whole none before = before w (subst (Notes k w w) (sym none) (notes_none w))
