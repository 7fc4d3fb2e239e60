-- The least name of an item of which something doesn't hold.
use Rattle.std.specs.Prelude.{◌≡◌, List, Contains, Option, Some, None, IsTrue}
use Rattle.type_kinds.specs.declared.atom.Atom.{Atom}
use Rattle.comp_rounds.specs.Rounds.{Callees, Function}
use Rattle.table_file.specs.Order.{is_name_before}
use Rattle.table_keep.specs.Model.{Source, Entry}
use Rattle.table_verify_laws.specs.Closed.{IsClosedAt}
use Rattle.table_verify_rules.specs.steps.Asked.{KeepsAsked}
use Rattle.table_verify_rules.specs.declared.entries.EntryRule.{EntryRule}

-- the least name of these items of which something doesn't hold, and none where it holds of all
abbrev pub IsLeastWithout : {X : Type 0} → (X → Atom) → (X → Type 0) → List X → Option Atom → Type 0
IsLeastWithout {X} name Q xs None = (x : X) → Contains xs x → Q x
IsLeastWithout {X} name Q xs (Some h) =
    ((x : X) × Contains xs x × (name x ≡ h) × (Q x → ⊥)) × ((x : X) → Contains xs x → IsTrue (is_name_before (name x) h) → Q x)

-- of a module that breaks a rule on entries
abbrev pub IsLeastBreaking : EntryRule → (T C : List Entry) → (M ss : List Source) → Option Atom → Type 0
IsLeastBreaking rule T C M ss least = IsLeastWithout (λ s. s.tree.name) (λ s. KeepsAsked rule T C M s.tree.name) ss least

-- of a function that isn't closed
abbrev pub IsLeastOpen : (fs : List Function) (K : Callees) → List Function → Option Atom → Type 0
IsLeastOpen fs K gs least = IsLeastWithout (λ g. g.home) (IsClosedAt fs K) gs least
