-- Which place, item and rule of a program a value of the code stands for. The code names modules by their positions.
use Rattle.std.specs.Prelude.{◌↔◌, ℕ, zero, suc, ◌+◌, List, [], ◌∷◌, length, map, replicate}
use Rattle.type_kinds.specs.declared.atom.Atom.{Atom}
use Rattle.core_meaning.specs.Programs.{Program}
use Rattle.fun_flow_places.specs.declared.places.FlowPlace.{FlowPlace}
use Rattle.fun_flow_places.specs.declared.places.FlowPlace.TheVariants.{Nowhere, Anywhere, Part, Parameter, Returned}
use Rattle.fun_flow_places.specs.declared.places.Item.{Item}
use Rattle.fun_flow_places.specs.declared.places.Item.TheVariants.{Anything, Closure, External}
use Rattle.fun_flow_places.specs.declared.places.FlowRule.{FlowRule}
use Rattle.fun_flow_places.specs.declared.places.FlowRule.TheVariants.{Holds, Flows, Applies}
use Rattle.fun_flow_sets.specs.Items as s
use Rattle.fun_flow_sets.specs.Rules.{IsAmong, IsRule}

-- ---- modules by their positions

abbrev pub module_names : Program → List Atom
module_names U = map (λ p. p.name) U

-- how many bytes these names have together
abbrev pub bytes_of : List Atom → ℕ
bytes_of [] = 0
bytes_of (x ∷ xs) = length x + bytes_of xs

-- the name at a position; past the end, one that is longer than n bytes
abbrev pub name_at : ℕ → List Atom → ℕ → Atom
name_at n [] h = replicate (suc (n + h)) 0
name_at n (x ∷ xs) zero = x
name_at n (x ∷ xs) (suc h) = name_at n xs h

-- The name of the module at a position; past the last module, a name that no module of the program has.
abbrev pub name_of : Program → ℕ → Atom
name_of U h = name_at (bytes_of (module_names U)) (module_names U) h

-- ---- values of the code

abbrev pub place_named : Program → FlowPlace → s.Place
place_named U Nowhere = s.nowhere
place_named U Anywhere = s.anywhere
place_named U (Part h label n) = s.part (name_of U h) label n
place_named U (Parameter h label n) = s.parameter (name_of U h) label n
place_named U (Returned h label) = s.returned (name_of U h) label

abbrev pub item_named : Program → Item → s.Item
item_named U Anything = s.anything
item_named U (Closure h label arity) = s.closure_at (name_of U h) label arity
item_named U (External home f) = s.external_function home f.name f.arity

abbrev pub rule_named : Program → FlowRule → s.Rule
rule_named U (Holds p x) = s.holds (place_named U p) (item_named U x)
rule_named U (Flows p q) = s.flows (place_named U p) (place_named U q)
rule_named U (Applies p n h label) = s.applies (place_named U p) n (name_of U h) label

-- These are exactly the rules that the text of a program makes.
abbrev pub AreRulesOf : Program → List FlowRule → Type 0
AreRulesOf U rs = (r : s.Rule) → IsAmong (map (rule_named U) rs) r ↔ IsRule U r
