-- What is known where entries are entered: exports, an entry, and the entries of a group.
use Rattle.std.proofs.Common.{◌≡◌, ℕ, suc, ◌<◌, Bool, true, false, cond, ◌||◌, ◌&&◌, List, [], ◌∷◌, length, get_or, drop, Option, Some, None, refl, sym, ap, ◌∙◌, true≢false, drop-cons}
use Rattle.std.specs.List.{list_all}
use Rattle.std.proofs.lemmas.Bool.{and_parts}
use Rattle.std.proofs.lemmas.List.Folds.{list_all_at}
use Rattle.type_kinds.specs.declared.atom.Atom.{Atom}
use Rattle.core_ast.specs.declared.syntax.FunName.{FunName}
use Rattle.core_scope.specs.Names.{same_atom}
use Rattle.cons_tree.specs.Callees.{same_home, same_name, as_called}
use Rattle.cons_tree.specs.declared.parts.Summary.{Summary}
use Rattle.cons_tree.specs.declared.parts.Callee.TheVariants.{Known, Undefined}
use Rattle.cons_tree.proofs.NameLaws.{home_is, home_itself}
use Rattle.comp_rounds.specs.Rounds.{Callees, with_callee}
use Rattle.comp_rounds.proofs.SameCallees.{pointwise}
use Rattle.table_file.specs.Rules.{is_export}
use Rattle.table_keep.specs.Model.{Entry, Source, source_of, entry_of}
use Rattle.table_keep.specs.Groups.{has}
use Rattle.table_keep.specs.Kept.{Standing, callee_among, callee_by, entry_stands, all_unchanged, unchanged, with_entries}
use Rattle.analysis.specs.steps.Entering.{among_or, with_exports, with_entry, with_entry_of, with_entries_of}
use Rattle.analysis.specs.steps.Deciding.{seen}

-- ---- one export

-- ---- exports, the last ones first

one_entered : (known : Callees) (home : Atom) (x : FunName × Summary) (xs : List (FunName × Summary))
    → with_callee (with_exports known home xs) home x.0 (Known x.1) ≡ with_exports known home (x ∷ xs)
one_entered known home x xs = pointwise (with_callee (with_exports known home xs) home x.0 (Known x.1)) (with_exports known home (x ∷ xs)) (λ h f. by h f (same_home h home) refl)
  where
    by : (h : Atom) (f : FunName) (b : Bool) → same_home h home ≡ b
        → cond (b && same_name f x.0) (Known x.1) (cond b (among_or xs (known h f) f) (known h f)) ≡ cond b (cond (same_name f x.0) (Known x.1) (among_or xs (known h f) f)) (known h f)
    by h f true e = refl
    by h f false e = refl

pub more_entered : (known now new : Callees) (home : Atom) (xs : List (FunName × Summary)) (i : ℕ) (x : FunName × Summary) → i < length xs → x ≡ get_or xs i x
    → now ≡ with_exports known home (drop (suc i) xs) → new ≡ with_callee now home x.0 (Known x.1) → new ≡ with_exports known home (drop i xs)
more_entered known now new home xs i x within is before step =
    step ∙ ap (λ k. with_callee k home x.0 (Known x.1)) before ∙ one_entered known home x (drop (suc i) xs)
    ∙ ap (with_exports known home) (ap (λ y. y ∷ drop (suc i) xs) is ∙ sym (drop-cons xs i x within))

pub export_at : (xs : List (FunName × Summary)) (i : ℕ) (x : FunName × Summary) → list_all is_export xs ≡ true → i < length xs → x ≡ get_or xs i x → is_export x ≡ true
export_at xs i x all within is = by (is_export x) refl
  where
    by : (b : Bool) → is_export x ≡ b → is_export x ≡ true
    by true e = e
    by false e = absurd (true≢false (sym all ∙ list_all_at is_export xs i x within (ap is_export (sym is) ∙ e)))

-- ---- an entry

among_closed : (xs : List (FunName × Summary)) (f : FunName) → among_or xs Undefined f ≡ callee_among xs f
among_closed [] f = refl
among_closed (x ∷ xs) f = ap (cond (same_name f x.0) (Known x.1)) (among_closed xs f)

pub entry_entered : (known closed new : Callees) (e : Entry) → ((f : FunName) → closed e.name f ≡ Undefined) → ((h : Atom) (f : FunName) → (h ≡ e.name → ⊥) → closed h f ≡ known h f)
    → new ≡ with_exports closed e.name e.result.exports → new ≡ with_entry known e
entry_entered known closed new e own others is = is ∙ pointwise (with_exports closed e.name e.result.exports) (with_entry known e) (λ h f. by h f (same_atom h e.name) refl)
  where
    by : (h : Atom) (f : FunName) (b : Bool) → same_atom h e.name ≡ b
        → cond b (among_or e.result.exports (closed h f) f) (closed h f) ≡ cond b (callee_among e.result.exports f) (known h f)
    by h f true s = ap (λ c. among_or e.result.exports c f) (ap (λ k. closed k f) (home_is h e.name s) ∙ own f) ∙ among_closed e.result.exports f
    by h f false s = others h f (λ q. true≢false (sym (ap (same_atom h) (sym q) ∙ home_itself h) ∙ s))

-- ---- the entries of a group

there_of : (group : List Atom) (K : Standing) (s : Option Source) (o : Option Entry) → entry_stands group K s o ≡ true → (e : Entry) × (o ≡ Some e)
there_of group K s None e = absurd (true≢false (sym e))
there_of group K s (Some x) e = (x, refl)

named : (T : List Entry) (h : Atom) (e : Entry) → entry_of T h ≡ Some e → h ≡ e.name
named [] h e at = absurd cc
named (x ∷ xs) h e at = by (same_atom h x.name) refl at (named xs h e)
  where
    by : (b : Bool) → same_atom h x.name ≡ b → cond b (Some x) (entry_of xs h) ≡ Some e → (entry_of xs h ≡ Some e → h ≡ e.name) → h ≡ e.name
    by true is a rest = let same : x ≡ e = cc in home_is h x.name is ∙ ap (λ (z : Entry). z.name) same
    by false is a rest = rest a

module _ (T : List Entry) (M : List Source) (group : List Atom) (K : Standing) where
  -- where each member has an entry, that says what is known of its functions
  entered : (hs : List Atom) (known : Callees) → all_unchanged T M group K hs ≡ true → (h : Atom) (f : FunName)
      → with_entries_of T hs known h f ≡ cond (has hs h) (callee_by (entry_of T h) f) (known h f)
  entered [] known all h f = refl
  entered (x ∷ xs) known all h f =
      let both = and_parts (entry_stands group K (source_of M x) (entry_of T x)) (all_unchanged T M group K xs) all in
      let there = there_of group K (source_of M x) (entry_of T x) both.0 in
      entered xs (with_entry_of known (entry_of T x)) both.1 h f
      ∙ ap (λ (o : Option Entry). cond (has xs h) (callee_by (entry_of T h) f) (with_entry_of known o h f)) there.1
      ∙ by there.0 there.1 (same_atom h x) refl (has xs h)
    where
      by : (e : Entry) → entry_of T x ≡ Some e → (b : Bool) → same_atom h x ≡ b → (c : Bool)
          → cond c (callee_by (entry_of T h) f) (cond (same_atom h e.name) (callee_among e.result.exports f) (known h f)) ≡ cond (b || c) (callee_by (entry_of T h) f) (known h f)
      by e at true is true = refl
      by e at true is false =
          ap (λ t. cond t (callee_among e.result.exports f) (known h f)) (ap (same_atom h) (sym (named T x e at)) ∙ is)
          ∙ sym (ap (λ k. callee_by (entry_of T k) f) (home_is h x is) ∙ ap (λ (o : Option Entry). callee_by o f) at)
      by e at false is true = refl
      by e at false is false = ap (λ t. cond t (callee_among e.result.exports f) (known h f)) (ap (same_atom h) (sym (named T x e at)) ∙ is)

among_called : (xs : List (FunName × Summary)) (f : FunName) → as_called (callee_among xs f) ≡ callee_among xs f
among_called [] f = refl
among_called (x ∷ xs) f = by (same_name f x.0) (among_called xs f)
  where
    by : (b : Bool) → as_called (callee_among xs f) ≡ callee_among xs f → as_called (cond b (Known x.1) (callee_among xs f)) ≡ cond b (Known x.1) (callee_among xs f)
    by true e = refl
    by false e = e

pub group_entered : (T : List Entry) (M : List Source) (group : List Atom) (known new : Callees) → unchanged T M group (seen known) ≡ true → new ≡ with_entries_of T group known
    → seen new ≡ with_entries T group (seen known)
group_entered T M group known new all is =
    ap seen is ∙ (λ i. λ h f. at_each h f i)
  where
    called : (o : Option Entry) (f : FunName) → as_called (callee_by o f) ≡ callee_by o f
    called None f = refl
    called (Some e) f = among_called e.result.exports f

    at_each : (h : Atom) (f : FunName) → as_called (with_entries_of T group known h f) ≡ cond (has group h) (callee_by (entry_of T h) f) (as_called (known h f))
    at_each h f = ap as_called (entered T M group (seen known) group known all h f) ∙ by (has group h)
      where
        by : (b : Bool) → as_called (cond b (callee_by (entry_of T h) f) (known h f)) ≡ cond b (callee_by (entry_of T h) f) (as_called (known h f))
        by true = called (entry_of T h) f
        by false = refl

-- what is known of a module that isn't of the group stays
pub others_stay : (T : List Entry) (M : List Source) (group : List Atom) (known new : Callees) → unchanged T M group (seen known) ≡ true → new ≡ with_entries_of T group known
    → (h : Atom) (f : FunName) → has group h ≡ false → new h f ≡ known h f
others_stay T M group known new all is h f out =
    ap (λ k. k h f) is ∙ entered T M group (seen known) group known all h f ∙ ap (λ b. cond b (callee_by (entry_of T h) f) (known h f)) out
