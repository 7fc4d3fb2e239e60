-- What the candidate at a place calls, and the graph of all.
use Rattle.std.proofs.Common.{◌≡◌, ◌↔◌, ℕ, ◌+◌, ◌<◌, ◌≤◌, inl, inr, true, List, [], Option, Some, None, length, slice_get, get_or, refl, sym, ap, ◌∙◌, subst, arith}
use Rattle.std.proofs.lemmas.Bool.{cases_lt}
use Rattle.std.proofs.lemmas.Option.{slice_get-get_or, slice_get_within}
use Rattle.std.specs.Map.{keys_of}
use Rattle.type_kinds.specs.declared.atom.Atom.{Atom}
use Rattle.type_kinds_sets.specs.Ascending.{merged}
use Rattle.type_kinds_sets.specs.Names.{name_cmp}
use Rattle.components.specs.Graph.{Leads}
use Rattle.core_ast.specs.Model as model
use Rattle.core_scope.specs.Checked.{tree_of}
use Rattle.call_graph.specs.Outside.{Called}
use Rattle.table_file.specs.declared.entries.Entry.{Entry as StoredEntry}
use Rattle.table_file.specs.declared.tables.Table.{Table}
use Rattle.table_keep.specs.declared.candidates.Positions.{Positions}
use Rattle.table_keep.specs.declared.source.Source.{Source}
use Rattle.table_keep.specs.Calls.{called_functions, called_modules, homes}
use Rattle.table_keep.specs.Groups.{has}
use Rattle.table_keep.specs.Kept.{calls_by, calls_of}
use Rattle.table_keep.specs.Lists.{found_at, IsWithin}
use Rattle.table_keep.specs.Model.{Entry, entry_so, entries_so, source_so, sources_so}
use Rattle.table_keep.specs.steps.Candidates.{both, entry_names, place_of, source_names}
use Rattle.table_keep.specs.steps.Named.{IsGraphOf, IsNamed, NameLeads}
use Rattle.table_keep.proofs.CallPairs.{With}
use Rattle.table_keep.proofs.RisingNames.{some_is}
use Rattle.table_keep.proofs.StandingNames.{both_entry, both_source, entry_placed, entry_within, named_at, source_placed, source_within}

-- ---- what is called

pub modules_called : (x : model.Module) (fs : List Called) → fs ≡ called_functions x → merged name_cmp [] (homes fs) ≡ called_modules x
unfolding called_modules
modules_called x fs is = ap (λ l. merged name_cmp [] (homes l)) is

pub called_by_source : (sources : List Source) (at : ℕ) (s : Source) (p : Option ℕ) (e : Option Entry) → p ≡ Some at → IsWithin sources p → s ≡ get_or sources at s
    → calls_by (found_at (sources_so sources) p) e ≡ called_modules (tree_of s.checked)
called_by_source sources at s p e is within there =
    let low : at < length sources = subst (IsWithin sources) is within in
    ap (λ r. calls_by (found_at (sources_so sources) r) e) is ∙ ap (λ r. calls_by r e) (named_at source_so sources at s (slice_get-get_or sources at s low ∙ ap Some (sym there)))

pub called_by_entry : (table : Table) (at : ℕ) (e : StoredEntry) (p : Option ℕ) → p ≡ Some at → slice_get table.entries at ≡ Some e → calls_by None (found_at (entries_so table) p) ≡ e.calls
called_by_entry table at e p is there = ap (λ r. calls_by None (found_at (entries_so table) r)) is ∙ ap (calls_by None) (named_at entry_so table.entries at e there)

-- an option that is no value is none
pub no_option : (p : Option ℕ) → ((i : ℕ) → p ≡ Some i → ⊥) → p ≡ None
no_option None never = refl
no_option (Some i) never = absurd (never i refl)

-- ---- the pairs of a place

module _ (table : Table) (sources : List Source) (h : Atom) (p : Positions) (stands : both (place_of (source_names sources) h) (place_of (entry_names table.entries) h) ≡ Some p) where
  source_is : p.source ≡ place_of (source_names sources) h
  source_is = both_source (place_of (source_names sources) h) (place_of (entry_names table.entries) h) p stands

  entry_is : p.entry ≡ place_of (entry_names table.entries) h
  entry_is = both_entry (place_of (source_names sources) h) (place_of (entry_names table.entries) h) p stands

  pub position_source : IsWithin sources p.source
  position_source = subst (IsWithin sources) (sym source_is) (source_within sources h)

  pub position_entry : IsWithin table.entries p.entry
  position_entry = subst (IsWithin table.entries) (sym entry_is) (entry_within table.entries h)

  called_at : calls_by (found_at (sources_so sources) p.source) (found_at (entries_so table) p.entry) ≡ calls_of (entries_so table) (sources_so sources) h
  called_at = λ j. calls_by ((ap (found_at (sources_so sources)) source_is ∙ sym (source_placed sources h)) j) ((ap (found_at (entries_so table)) entry_is ∙ sym (entry_placed table.entries h)) j)

  pub leads_from : (es : List (Atom × Positions)) (place j : ℕ) → Some (h, p) ≡ slice_get es place
      → IsNamed (keys_of es) (calls_by (found_at (sources_so sources) p.source) (found_at (entries_so table) p.entry)) j ↔ NameLeads (keys_of es) (calls_of (entries_so table) (sources_so sources)) place j
  leads_from es place j there = (up, down)
    where
      out : Atom → List Atom
      out = calls_of (entries_so table) (sources_so sources)

      own : slice_get (keys_of es) place ≡ Some h
      own = named_at (λ x. x.0) es place (h, p) (sym there)

      up : IsNamed (keys_of es) (calls_by (found_at (sources_so sources) p.source) (found_at (entries_so table) p.entry)) j → NameLeads (keys_of es) (calls_of (entries_so table) (sources_so sources)) place j
      up n = record { caller = h; callee = n.name; calling = own; called = n.at; stands = subst (λ l. has l n.name ≡ true) called_at n.among }

      down : NameLeads (keys_of es) (calls_of (entries_so table) (sources_so sources)) place j → IsNamed (keys_of es) (calls_by (found_at (sources_so sources) p.source) (found_at (entries_so table) p.entry)) j
      down n = record {
        name = n.callee;
        at = n.called;
        among =
            let same : n.caller ≡ h = some_is n.caller h (sym n.calling ∙ own) in
            subst (λ l. has l n.callee ≡ true) (sym called_at) (subst (λ z. has (calls_of (entries_so table) (sources_so sources) z) n.callee ≡ true) same n.stands);
      }

-- ---- the graph

-- the pairs from the first places
abbrev pub FromFirst : (names : List Atom) → (Atom → List Atom) → ℕ → ℕ → ℕ → Type 0
FromFirst names out n i j = (i < n) × NameLeads names out i j

pub graph_round : (names : List Atom) (out : Atom → List Atom) (new old : List (List ℕ)) (place : ℕ) → ((i j : ℕ) → Leads new i j ↔ With old place (NameLeads names out place) i j)
    → ((i j : ℕ) → Leads old i j ↔ FromFirst names out place i j) → (i j : ℕ) → Leads new i j ↔ FromFirst names out (place + 1) i j
graph_round names out new old place added kept i j = (there, back)
  where
    there : Leads new i j → FromFirst names out (place + 1) i j
    there l = elim ((added i j).0 l) [
      | inl o ↦ (let r = (kept i j).0 o in (omega (arith, r.0), r.1))
      | inr p ↦ (omega (arith, p.0), subst (λ k. NameLeads names out k j) (sym p.0) p.1)
    ]

    back : FromFirst names out (place + 1) i j → Leads new i j
    back p = elim (cases_lt i place) [
      | inl below ↦ (added i j).1 (inl ((kept i j).1 (below, p.1)))
      | inr above ↦ (let is : i ≡ place = omega (arith, above, p.0) in (added i j).1 (inr (is, subst (λ k. NameLeads names out k j) is p.1)))
    ]

pub graph_ends : (names : List Atom) (out : Atom → List Atom) (graph : List (List ℕ)) (place : ℕ) → length graph ≡ length names → length names ≤ place → ((i j : ℕ) → Leads graph i j ↔ FromFirst names out place i j)
    → IsGraphOf names out graph
graph_ends names out graph place counted past kept = record {
  counted = counted;
  pairs = λ i j. (λ l. ((kept i j).0 l).1, λ n. (kept i j).1 (within i j n, n));
}
  where
    within : (i j : ℕ) → NameLeads names out i j → i < place
    within i j n = let low = slice_get_within names i n.caller n.calling in omega (arith, low, past)
