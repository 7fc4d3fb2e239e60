-- What the entries of a table use.
use Rattle.std.proofs.Common.{◌≡◌, Bool, true, false, cond, not, List, [], ◌∷◌, Contains, map, inl, inr, Option, Some, None, refl, sym, ap, ap₂, ◌∙◌, subst}
use Rattle.std.specs.Cmp.Lexicographic.{bytes_decides}
use Rattle.std.specs.List.{list_all}
use Rattle.std.proofs.lemmas.Bool.{and_parts}
use Rattle.type_kinds.proofs.Lists.{contains_none, contains_first, contains_later, contains_cases}
use Rattle.type_kinds.specs.declared.atom.Atom.{Atom}
use Rattle.core_scope.specs.Names.{same_atom}
use Rattle.call_graph.specs.Outside.{Called}
use Rattle.cons_tree.specs.declared.parts.Callee.{Callee}
use Rattle.table_file.specs.declared.entries.Entry.{Entry as StoredEntry}
use Rattle.table_file.specs.declared.tables.Table.{Table}
use Rattle.table_file.specs.Order.{has_name}
use Rattle.table_file.specs.Rules.{is_outside}
use Rattle.table_keep.specs.Groups.{has}
use Rattle.table_keep.specs.Kept.{calls_of, calls_by, is_old}
use Rattle.table_keep.specs.Model.{Source, Entry, source_of, entry_of, used_so, entry_so, entries_so}
use Rattle.sound_laws_kept.specs.Laws.{UseCalled}
use Rattle.sound_laws_kept.proofs.Graphs.{has_is_item}
use Rattle.sound_laws_kept.proofs.Names.{none_some, some_is}
use Rattle.dialyze_command.specs.OneOutcome.{CallsWhatIsUsed}

at_all : {X : Type 0} (p : X → Bool) (xs : List X) (x : X) → list_all p xs ≡ true → Contains xs x → p x ≡ true
at_all p [] x all there = absurd (contains_none x there)
at_all p (y ∷ ys) x all there = elim (contains_cases y x ys there) [
  | inl e ↦ subst (λ z. p z ≡ true) e (and_parts (p y) (list_all p ys) all).0
  | inr more ↦ at_all p ys x (and_parts (p y) (list_all p ys) all).1 more
]

-- an item of what is made of a list is made of one of the list
made_of_item : {X Y : Type 0} (m : X → Y) (xs : List X) (y : Y) → Contains (map m xs) y → (x : X) × Contains xs x × (m x ≡ y)
made_of_item m [] y there = absurd (contains_none y there)
made_of_item m (x ∷ xs) y there = elim (contains_cases (m x) y (map m xs) there) [
  | inl e ↦ (x, contains_first x xs, e)
  | inr more ↦ (let r = made_of_item m xs y more in (r.0, contains_later x r.0 xs r.1, r.2))
]

-- an entry of a table's model is what an entry of the table says
stored_entry : (es : List StoredEntry) (h : Atom) (e : Entry) → entry_of (map entry_so es) h ≡ Some e → (x : StoredEntry) × (entry_so x ≡ e)
stored_entry [] h e at = none_some at
stored_entry (x ∷ xs) h e at = by (same_atom h x.name) (stored_entry xs h e) at
  where
    by : (b : Bool) → (entry_of (map entry_so xs) h ≡ Some e → (y : StoredEntry) × (entry_so y ≡ e)) → cond b (Some (entry_so x)) (entry_of (map entry_so xs) h) ≡ Some e → (y : StoredEntry) × (entry_so y ≡ e)
    by true rest is = (x, some_is is)
    by false rest is = rest is

-- an entry calls what it uses, by the rules of the layout
stored_calls : (x : StoredEntry) (u : Called × Callee) → Contains (map used_so x.used) u → has x.calls u.0.0 ≡ true
stored_calls x u there =
    let w = made_of_item used_so x.used u there in
    let out : is_outside x.group x.calls w.0 ≡ true = at_all (is_outside x.group x.calls) x.used w.0 x.used_outside w.1 in
    ap (has x.calls) (sym (ap (λ (v : Called × Callee). v.0.0) w.2)) ∙ has_is_item x.calls w.0.home
    ∙ (and_parts (has_name x.calls w.0.home) (not (has_name x.group w.0.home)) out).0

-- so only of what is passed something is asked
pub table_uses_called : (t : Table) (M : List Source) → CallsWhatIsUsed (entries_so t) M → UseCalled (entries_so t) M
table_uses_called t M fits h e u at old there = by (source_of M h) refl
  where
    by : (o : Option Source) → source_of M h ≡ o → has (calls_of (entries_so t) M h) u.0.0 ≡ true
    by None none =
        let x = stored_entry t.entries h e at in
        ap (λ names. has names u.0.0) (ap₂ (λ s o. calls_by s o) none at)
        ∙ subst (λ (d : Entry). has d.calls u.0.0 ≡ true) x.1 (stored_calls x.0 u (subst (λ (d : Entry). Contains d.used u) (sym x.1) there))
    by (Some s) here =
        ap (λ o. has (calls_by o (entry_of (entries_so t) h)) u.0.0) here
        ∙ fits h s e u here at ((bytes_decides s.digest e.digest).0 (subst (λ o. is_old o e ≡ true) here old)) there
