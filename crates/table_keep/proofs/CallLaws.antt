-- Which functions and modules are called, which functions are exported, and that called functions and modules rise.
use Rattle.std.proofs.Common.{◌≡◌, ◌↔◌, true, List, [], ◌∷◌, Contains, map, refl, ap, ◌∙◌, subst, IsTrue, inl, inr}
use Rattle.std.proofs.lemmas.List.{map-id}
use Rattle.type_kinds.specs.declared.atom.Atom.{Atom}
use Rattle.type_kinds.proofs.Lists.{contains_none, contains_first, contains_later, contains_cases}
use Rattle.type_kinds_sets.specs.Ascending.{is_ascending}
use Rattle.type_kinds_sets.specs.Names.{name_cmp}
use Rattle.type_kinds_sets.proofs.NameLaws.{name_total, name_same}
use Rattle.type_kinds_sets.proofs.AscendingLaws.{ascending-merged}
use Rattle.core_ast.specs.Model as m
use Rattle.core_ast.specs.declared.syntax.FunName.{FunName}
use Rattle.call_graph.specs.Outside.{Called}
use Rattle.call_graph.specs.Targets.{def_targets}
use Rattle.table_file.specs.Order.{rises, is_name_before}
use Rattle.table_keep.specs.Calls.{called_cmp, all_leaving, called_functions, called_modules, homes}
use Rattle.table_keep.specs.Groups.{has}
use Rattle.table_keep.specs.Made.{exported}
use Rattle.table_keep.proofs.MemberLaws.{has_contained, contained_has}
use Rattle.table_keep.specs.Orders.{called_total, called_same, function_total, function_same}
use Rattle.table_keep.proofs.Rises.{ascending_rises}
use Rattle.table_keep.proofs.RisingLaws.{in_merged, merged_in}

pub homes_are : (cs : List Called) → homes cs ≡ map (λ (c : Called). c.0) cs
homes_are [] = refl
homes_are (c ∷ cs) = ap (λ hs. c.0 ∷ hs) (homes_are cs)

-- some call of the list goes to this module
abbrev HasHome : List Called → Atom → Type 0
HasHome cs h = (c : Called) × Contains cs c × (c.0 ≡ h)

home_of : (cs : List Called) (h : Atom) → Contains (homes cs) h → HasHome cs h
home_of [] h t = absurd (contains_none h t)
home_of (c ∷ cs) h t = elim (contains_cases c.0 h (homes cs) t) [
  | inl e ↦ (c, contains_first c cs, e)
  | inr later ↦ let r = home_of cs h later in (r.0, contains_later c r.0 cs r.1, r.2)
]

to_home : (cs : List Called) (c : Called) → Contains cs c → Contains (homes cs) c.0
to_home [] c t = absurd (contains_none c t)
to_home (d ∷ cs) c t = elim (contains_cases d c cs t) [
  | inl e ↦ subst (Contains (d.0 ∷ homes cs)) (ap (λ (z : Called). z.0) e) (contains_first d.0 (homes cs))
  | inr later ↦ contains_later d.0 c.0 (homes cs) (to_home cs c later)
]

-- ---- the laws

pub called_exactly : (x : m.Module) (c : Called) → Contains (called_functions x) c ↔ Contains (all_leaving x.name (def_targets [] x.defs)) c
unfolding called_functions
called_exactly x c = (merged_in called_total called_same (all_leaving x.name (def_targets [] x.defs)) c, in_merged called_total called_same (all_leaving x.name (def_targets [] x.defs)) c)

pub called_rise : (x : m.Module) → is_ascending called_cmp (called_functions x) ≡ true
unfolding called_functions
called_rise x = ascending-merged called_total called_same [] (all_leaving x.name (def_targets [] x.defs)) refl

pub modules_exactly : (x : m.Module) (h : Atom) → (has (called_modules x) h ≡ true) ↔ HasHome (called_functions x) h
unfolding called_modules
modules_exactly x h = (
  λ t. home_of (called_functions x) h (merged_in name_total name_same (homes (called_functions x)) h (has_contained (called_modules x) h t)),
  λ t. contained_has (called_modules x) h (in_merged name_total name_same (homes (called_functions x)) h (from_call t)),
)
  where
    from_call : HasHome (called_functions x) h → Contains (homes (called_functions x)) h
    from_call t = subst (Contains (homes (called_functions x))) t.2 (to_home (called_functions x) t.0 t.1)

pub modules_ascend : (x : m.Module) → is_ascending name_cmp (called_modules x) ≡ true
unfolding called_modules
modules_ascend x = ascending-merged name_total name_same [] (homes (called_functions x)) refl

pub modules_rise : (x : m.Module) → IsTrue (rises is_name_before (called_modules x))
modules_rise x = ascending_rises name_cmp is_name_before (λ y. y) (λ y z h. h) (called_modules x) (ap (is_ascending name_cmp) (map-id (called_modules x)) ∙ modules_ascend x)

pub exported_exactly : (x : m.Module) (f : FunName) → Contains (exported x) f ↔ Contains x.exports f
unfolding exported
exported_exactly x f = (merged_in function_total function_same x.exports f, in_merged function_total function_same x.exports f)
