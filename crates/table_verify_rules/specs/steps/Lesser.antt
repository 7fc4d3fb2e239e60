-- Names side by side, and the lesser of two.
use Rattle.std.specs.Prelude.{◌≡◌, ℕ, cond, List, ◌++◌, map, take, drop, Option, Some, None}
use Rattle.type_kinds.specs.declared.atom.Atom.{Atom}
use Rattle.table_file.specs.Order.{is_name_before}
use Rattle.table_file.specs.declared.entries.Entry.{Entry as StoredEntry}
use Rattle.table_verify_laws.specs.Lined.{first_name}

-- the lesser of two names, of which each may be missing
abbrev pub lesser_name : Option Atom → Option Atom → Option Atom
lesser_name None b = b
lesser_name (Some a) None = Some a
lesser_name (Some a) (Some b) = cond (is_name_before b a) (Some b) (Some a)

-- the names of entries
abbrev pub names_in : List StoredEntry → List Atom
names_in es = map (λ e. e.name) es

-- Three lists of names are alike up to a position, and there not all of them have one name.
pub record AreAlike (ts qs ms : List Atom) (k : ℕ) : Type 0 where
  pub of_first : ts ≡ take k ms ++ drop k ts
  pub of_second : qs ≡ take k ms ++ drop k qs
  pub of_third : ms ≡ take k ms ++ drop k ms
  pub not_one : (h : Atom) → first_name (drop k ts) ≡ Some h → first_name (drop k qs) ≡ Some h → first_name (drop k ms) ≡ Some h → ⊥
