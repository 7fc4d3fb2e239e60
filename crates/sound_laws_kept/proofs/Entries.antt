-- The entries that sources give, from the empty table: each is made of a source, and uses functions that this calls.
use Rattle.std.proofs.Common.{◌≡◌, Bool, true, false, cond, List, [], ◌∷◌, Contains, inl, inr, Option, Some, None, refl, sym, ap, ap₂, ◌∙◌, subst}
use Rattle.std.specs.Cmp.Lexicographic.{bytes_decides}
use Rattle.type_kinds.proofs.Lists.{contains_none, contains_first, contains_later, contains_cases}
use Rattle.type_kinds.specs.declared.atom.Atom.{Atom}
use Rattle.call_graph.specs.Outside.{Called}
use Rattle.cons_tree.specs.declared.parts.Callee.{Callee}
use Rattle.table_keep.specs.Model.{Source, Entry, Result, source_of, entry_of}
use Rattle.table_keep.specs.Calls.{called_functions, called_modules}
use Rattle.table_keep.specs.Groups.{Groups, IsGroups, has, group_of}
use Rattle.table_keep.specs.Kept.{Standing, Results, is_candidate, calls_of, calls_by, is_old, finally}
use Rattle.table_keep.specs.Made.{used_of, made}
use Rattle.sound_laws_kept.specs.Laws.{DigestsTell, EntriesUseCalledLaw, UseCalled}
use Rattle.sound_laws_kept.specs.Written.{made_of, new_entry}
use Rattle.sound_laws_kept.proofs.Names.{some_is, none_some, called_has}
use Rattle.sound_laws_kept.proofs.Scratch as scratch

-- ---- an entry that is made of a source

pub used_same : (group : List Atom) (K L : Standing) (cs : List Called) → ((c : Called) → Contains cs c → has group c.0 ≡ false → K c.0 c.1 ≡ L c.0 c.1) → used_of group K cs ≡ used_of group L cs
used_same group K L [] same = refl
used_same group K L (x ∷ xs) same = by (has group x.0) refl (used_same group K L xs (λ c e. same c (contains_later x c xs e)))
  where
    by : (b : Bool) → has group x.0 ≡ b → used_of group K xs ≡ used_of group L xs
        → cond b (used_of group K xs) ((x, K x.0 x.1) ∷ used_of group K xs) ≡ cond b (used_of group L xs) ((x, L x.0 x.1) ∷ used_of group L xs)
    by true is rest = rest
    by false is rest = ap₂ (λ c us. (x, c) ∷ us) (same x (contains_first x xs) is) rest

pub made_same : (s : Source) (gr hr : List Atom) (K L : Standing) (a b : Result) → gr ≡ hr → ((c : Called) → Contains (called_functions s.tree) c → has gr c.0 ≡ false → K c.0 c.1 ≡ L c.0 c.1) → a ≡ b
    → made s gr K a ≡ made s hr L b
made_same s gr hr K L a b groups calls result =
    ap₂ (λ us r. record { name = s.tree.name; digest = s.digest; group = gr; calls = called_modules s.tree; used = us; result = r }) (used_same gr K L (called_functions s.tree) calls) result
    ∙ ap (λ names. made s names L b) groups

-- what it uses is called
used_is_called : (group : List Atom) (K : Standing) (cs : List Called) (u : Called × Callee) → Contains (used_of group K cs) u → Contains cs u.0
used_is_called group K [] u e = absurd (contains_none u e)
used_is_called group K (x ∷ xs) u e = by (has group x.0) (used_is_called group K xs u) e
  where
    by : (b : Bool) → (Contains (used_of group K xs) u → Contains xs u.0) → Contains (cond b (used_of group K xs) ((x, K x.0 x.1) ∷ used_of group K xs)) u → Contains (x ∷ xs) u.0
    by true rest more = contains_later x u.0 xs (rest more)
    by false rest more = elim (contains_cases (x, K x.0 x.1) u (used_of group K xs) more) [
      | inl is ↦ subst (λ (c : Called). Contains (x ∷ xs) c) (ap (λ (w : Called × Callee). w.0) is) (contains_first x xs)
      | inr later ↦ contains_later x u.0 xs (rest later)
    ]

-- ---- the entries of a table of sources

-- the entry that a source gives
abbrev pub written : (V : Groups) → (K : Standing) → (R : Results) → Source → Atom → Entry
written V K R s h = made s (group_of V h) K (R h)

pub record FromSource (Src : List Source) (V : Groups) (K : Standing) (R : Results) (h : Atom) (e : Entry) : Type 0 where
  pub source : Source
  pub there : source_of Src h ≡ Some source
  pub is_written : e ≡ written V K R source h

module _ (Src : List Source) (T : List Entry) (S V : Groups) (R : Results) (is : IsGroups (is_candidate [] Src) (calls_of [] Src) S)
    (entries : (h : Atom) → entry_of T h ≡ new_entry R [] Src S V h) where
  abbrev K : Standing
  K = finally R [] Src S

  pub entry_by : (h : Atom) → entry_of T h ≡ made_of (source_of Src h) (group_of V h) K (R h)
  unfolding new_entry
  entry_by h =
      entries h
      ∙ ap (λ b. cond b (entry_of [] h) (made_of (source_of Src h) (group_of V h) K (R h))) (scratch.none_kept R Src S is h)

  pub entry_source : (h : Atom) (e : Entry) → entry_of T h ≡ Some e → FromSource Src V K R h e
  entry_source h e at = by (source_of Src h) refl
    where
      by : (o : Option Source) → source_of Src h ≡ o → FromSource Src V K R h e
      by None none = none_some (sym (ap (λ o. made_of o (group_of V h) K (R h)) none) ∙ sym (entry_by h) ∙ at)
      by (Some s) there = record {
        source = s;
        there = there;
        is_written = some_is (sym at ∙ entry_by h ∙ ap (λ o. made_of o (group_of V h) K (R h)) there);
      }

  -- an entry calls what its source calls, and so what is passed under its name with the same digest does
  pub entry_calls : (M : List Source) → DigestsTell Src M → (h : Atom) (e : Entry) → entry_of T h ≡ Some e → is_old (source_of M h) e ≡ true
      → (from : FromSource Src V K R h e) → calls_of T M h ≡ called_modules from.source.tree
  entry_calls M tell h e at old from = by (source_of M h) refl
    where
      by : (o : Option Source) → source_of M h ≡ o → calls_of T M h ≡ called_modules from.source.tree
      by None none = ap₂ (λ a b. calls_by a b) none at ∙ ap (λ (x : Entry). x.calls) from.is_written
      by (Some t) here =
          let is_old_now : is_old (Some t) (written V K R from.source h) ≡ true = subst (λ o. is_old o (written V K R from.source h) ≡ true) here (subst (λ (x : Entry). is_old (source_of M h) x ≡ true) from.is_written old) in
          let same : from.source ≡ t = tell h from.source t from.there here (sym ((bytes_decides t.digest from.source.digest).0 is_old_now)) in
          ap (λ o. calls_by o (entry_of T h)) here ∙ ap (λ (x : Source). called_modules x.tree) (sym same)

  pub use_called : (M : List Source) → DigestsTell Src M → UseCalled T M
  use_called M tell h e u at old there =
      let from = entry_source h e at in
      let call = used_is_called (group_of V h) K (called_functions from.source.tree) u (subst (λ (x : Entry). Contains x.used u) from.is_written there) in
      ap (λ names. has names u.0.0) (entry_calls M tell h e at old from) ∙ called_has from.source.tree u.0 call

pub entries_use_called : EntriesUseCalledLaw
entries_use_called Src M T before tell w = use_called Src T w.groups w.new_groups w.known w.analysis.candidates w.entries M tell
