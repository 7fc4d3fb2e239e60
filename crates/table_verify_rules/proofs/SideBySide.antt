-- Names side by side: up to where they are alike, and the least of the first ones behind that.
use Rattle.std.proofs.Common.{◌≡◌, ◌⊎◌, ℕ, zero, suc, ◌+◌, ◌<◌, Bool, true, false, cond, List, [], ◌∷◌, ◌++◌, length, map, take, drop}
use Rattle.std.proofs.Common.{get_or, slice_get, inl, inr, Option, Some, None, refl, sym, ap, ◌∙◌, subst, true≢false, arith, append-nil}
use Rattle.std.specs.Prelude.{MatchOption}
use Rattle.std.proofs.Math.Seq.{drop-nil}
use Rattle.std.proofs.Math.ListN.{get_or-map}
use Rattle.std.proofs.lemmas.List.{take-append-drop, take_more}
use Rattle.std.proofs.lemmas.Option.{same_Some}
use Rattle.type_kinds.proofs.Lists.{drop_next}
use Rattle.type_kinds.specs.declared.atom.Atom.{Atom}
use Rattle.type_kinds_sets.proofs.AscendingLaws as ascending
use Rattle.type_kinds_sets.proofs.NameLaws.{name_total, name_same}
use Rattle.table_file.specs.Order.{is_name_before, rises}
use Rattle.table_file.specs.declared.entries.Entry.{Entry as StoredEntry}
use Rattle.table_file.specs.declared.tables.Table.{Table}
use Rattle.table_keep.specs.Model.{Source, entry_so, entries_so}
use Rattle.sound_laws_kept.proofs.Names.{none_some}
use Rattle.table_verify_laws.specs.Lined.{entry_names, first_name, IsLeastFirst, AreModuleNames, OtherNamesLaw}
use Rattle.table_verify_laws.specs.Rules.{same_modules, IsFirstBroken}
use Rattle.table_verify_rules.specs.steps.Lesser.{lesser_name, names_in, AreAlike}

-- ---- the lesser of two names

not_itself : (h : Atom) → is_name_before h h ≡ false
not_itself h = by (is_name_before h h) refl
  where
    by : (b : Bool) → is_name_before h h ≡ b → b ≡ false
    by true e = absurd (ascending.below-not_itself name_total name_same h e)
    by false e = refl

not_below : (k g c : Atom) → is_name_before k g ≡ false → is_name_before c g ≡ true → is_name_before k c ≡ false
not_below k g c low e = by (is_name_before k c) refl
  where
    by : (x : Bool) → is_name_before k c ≡ x → x ≡ false
    by true f = absurd (true≢false (sym (ascending.below-below name_total name_same k c g f e) ∙ low))
    by false f = refl

-- The lesser is one of the two, and what isn't below the first isn't below it, nor is the second.
record IsLesser (a b : Option Atom) (h : Atom) : Type 0 where
  one : (a ≡ Some h) ⊎ (b ≡ Some h)
  first : (k g : Atom) → a ≡ Some g → is_name_before k g ≡ false → is_name_before k h ≡ false
  second : (k : Atom) → b ≡ Some k → is_name_before k h ≡ false

is_lesser : (a b : Option Atom) (h : Atom) → lesser_name a b ≡ Some h → IsLesser a b h
is_lesser None b h e = record {
  one = inr e;
  first = λ k g f low. none_some f;
  second = λ k f. subst (λ x. is_name_before k x ≡ false) (same_Some _ _ (sym f ∙ e)) (not_itself k);
}
is_lesser (Some a) None h e = record {
  one = inl e;
  first = λ k g f low. subst (λ x. is_name_before k x ≡ false) (same_Some _ _ (sym f ∙ e)) low;
  second = λ k f. none_some f;
}
is_lesser (Some a) (Some b) h e = by (is_name_before b a) refl e
  where
    by : (x : Bool) → is_name_before b a ≡ x → cond x (Some b) (Some a) ≡ Some h → IsLesser (Some a) (Some b) h
    by true f e = record {
      one = inr e;
      first = λ k g i low. subst (λ x. is_name_before k x ≡ false) (same_Some _ _ e) (not_below k a b (subst (λ x. is_name_before k x ≡ false) (sym (same_Some _ _ i)) low) f);
      second = λ k i. subst (λ x. is_name_before k x ≡ false) (same_Some _ _ (sym i ∙ e)) (not_itself k);
    }
    by false f e = record {
      one = inl e;
      first = λ k g i low. subst (λ x. is_name_before k x ≡ false) (same_Some _ _ (sym i ∙ e)) low;
      second = λ k i. subst (λ x. is_name_before k x ≡ false) (same_Some _ _ e) (subst (λ x. is_name_before x a ≡ false) (same_Some _ _ i) f);
    }

no_lesser : (a b : Option Atom) → lesser_name a b ≡ None → (a ≡ None) × (b ≡ None)
no_lesser None b e = (refl, e)
no_lesser (Some a) None e = none_some (sym e)
no_lesser (Some a) (Some b) e = by (is_name_before b a) e
  where
    by : (x : Bool) → cond x (Some b) (Some a) ≡ None → (Some a ≡ None) × (Some b ≡ None)
    by true e = none_some (sym e)
    by false e = none_some (sym e)

-- ---- the least of the first names of three lists

abbrev pub least_name : (ts qs ms : List Atom) → Option Atom
least_name ts qs ms = lesser_name (lesser_name (first_name ts) (first_name qs)) (first_name ms)

least_first : (ts qs ms : List Atom) (h : Atom) → least_name ts qs ms ≡ Some h
    → ((g : Atom) → first_name ts ≡ Some g → first_name qs ≡ Some g → first_name ms ≡ Some g → ⊥) → IsLeastFirst ts qs ms h
least_first ts qs ms h e differs = by (lesser_name (first_name ts) (first_name qs)) refl (is_lesser _ _ h e)
  where
    by : (a : Option Atom) → lesser_name (first_name ts) (first_name qs) ≡ a → IsLesser a (first_name ms) h → IsLeastFirst ts qs ms h
    by None f l =
        let n = no_lesser (first_name ts) (first_name qs) f in record {
          first_of_one = elim l.one [ inl i ↦ none_some i | inr i ↦ inr (inr i) ];
          least_first = λ k o. elim o [ inl i ↦ none_some (sym n.0 ∙ i) | inr (inl i) ↦ none_some (sym n.1 ∙ i) | inr (inr i) ↦ l.second k i ];
          not_of_all = λ w. differs h w.0 w.1 w.2;
        }
    by (Some g) f l =
        let s = is_lesser (first_name ts) (first_name qs) g f in record {
          first_of_one = elim l.one [
            | inl i ↦ elim s.one [ inl j ↦ inl (j ∙ i) | inr j ↦ inr (inl (j ∙ i)) ]
            | inr i ↦ inr (inr i)
          ];
          least_first = λ k o. elim o [
            | inl i ↦ l.first k g refl (s.first k k i (not_itself k))
            | inr (inl i) ↦ l.first k g refl (s.second k i)
            | inr (inr i) ↦ l.second k i
          ];
          not_of_all = λ w. differs h w.0 w.1 w.2;
        }

no_first : (hs : List Atom) → first_name hs ≡ None → hs ≡ []
no_first [] e = refl
no_first (h ∷ hs) e = none_some (sym e)

-- ---- where the lists are alike

some_within : (hs : List Atom) (k : ℕ) (h : Atom) → first_name (drop k hs) ≡ Some h → k < length hs
some_within [] k h e = none_some (sym (ap first_name (drop-nil k)) ∙ e)
some_within (g ∷ hs) zero h e = omega arith
some_within (g ∷ hs) (suc k) h e = let l = some_within hs k h e in omega (arith, l)

alike : (ts qs ms : List Atom) (k : ℕ) → take k ts ≡ take k ms → take k qs ≡ take k ms
    → ((h : Atom) → first_name (drop k ts) ≡ Some h → first_name (drop k qs) ≡ Some h → first_name (drop k ms) ≡ Some h → ⊥) → AreAlike ts qs ms k
alike ts qs ms k t q differs = record {
  of_first = sym (take-append-drop k ts) ∙ ap (λ hs. hs ++ drop k ts) t;
  of_second = sym (take-append-drop k qs) ∙ ap (λ hs. hs ++ drop k qs) q;
  of_third = sym (take-append-drop k ms);
  not_one = differs;
}

pub alike_to_end : (ts qs ms : List Atom) (k : ℕ) → take k ts ≡ take k ms → take k qs ≡ take k ms → (k < length ts → k < length qs → k < length ms → ⊥) → AreAlike ts qs ms k
alike_to_end ts qs ms k t q ends = alike ts qs ms k t q (λ h a b c. ends (some_within ts k h a) (some_within qs k h b) (some_within ms k h c))

first_at : (hs : List Atom) (k : ℕ) (h g : Atom) → k < length hs → h ≡ get_or hs k h → first_name (drop k hs) ≡ Some g → h ≡ g
first_at hs k h g low is e = same_Some _ _ (sym (ap first_name (drop_next hs k h low is)) ∙ e)

pub alike_first : (ts qs ms : List Atom) (k : ℕ) (t m : Atom) → take k ts ≡ take k ms → take k qs ≡ take k ms → k < length ts → k < length ms
    → t ≡ get_or ts k t → m ≡ get_or ms k m → (t ≡ m → ⊥) → AreAlike ts qs ms k
alike_first ts qs ms k t m a b l o i h differs = alike ts qs ms k a b (λ g d e f. differs (first_at ts k t g l i d ∙ sym (first_at ms k m g o h f)))

pub alike_second : (ts qs ms : List Atom) (k : ℕ) (q m : Atom) → take k ts ≡ take k ms → take k qs ≡ take k ms → k < length qs → k < length ms
    → q ≡ get_or qs k q → m ≡ get_or ms k m → (q ≡ m → ⊥) → AreAlike ts qs ms k
alike_second ts qs ms k q m a b l o i h differs = alike ts qs ms k a b (λ g d e f. differs (first_at qs k q g l i e ∙ sym (first_at ms k m g o h f)))

pub next_alike : (ts ms : List Atom) (k : ℕ) (t m : Atom) → k < length ts → k < length ms → t ≡ get_or ts k t → m ≡ get_or ms k m → t ≡ m → take k ts ≡ take k ms → take (k + 1) ts ≡ take (k + 1) ms
next_alike ts ms k t m l n i h one same =
    take_more ts k t l ∙ ap (λ x. take k ts ++ x ∷ []) (sym i ∙ one ∙ h) ∙ ap (λ hs. hs ++ get_or ms k m ∷ []) same ∙ sym (take_more ms k m n)

-- the name of the entry at a position
pub name_in : (es : List StoredEntry) (k : ℕ) (e : StoredEntry) → e ≡ get_or es k e → e.name ≡ get_or (names_in es) k e.name
name_in es k e is = ap (λ (x : StoredEntry). x.name) is ∙ sym (get_or-map (λ x. x.name) es k e)

pub names_long : (es : List StoredEntry) → length (names_in es) ≡ length es
names_long [] = refl
names_long (e ∷ es) = ap suc (names_long es)

-- ---- a table and a certificate

names_so : (es : List StoredEntry) → entry_names (map entry_so es) ≡ names_in es
names_so [] = refl
names_so (e ∷ es) = ap (λ hs. e.name ∷ hs) (names_so es)

module _ (T C : Table) (M : List Source) (names : List Atom) (k : ℕ) (are : AreModuleNames M names) (a : AreAlike (names_in T.entries) (names_in C.entries) names k) (other : OtherNamesLaw) where
  up : (T : Table) → rises is_name_before (entry_names (entries_so T)) ≡ true
  up T = subst (λ hs. rises is_name_before hs ≡ true) (sym (names_so T.entries)) T.entries_rise

  abbrev ts : List Atom
  ts = drop k (names_in T.entries)

  abbrev qs : List Atom
  qs = drop k (names_in C.entries)

  abbrev ms : List Atom
  ms = drop k names

  pub told : (least : Option Atom) → least ≡ least_name ts qs ms
      → MatchOption least ((entry_names (entries_so T) ≡ names) × (entry_names (entries_so C) ≡ names)) (λ h. IsFirstBroken (entries_so T) (entries_so C) M same_modules h)
  told None e =
      let two = no_lesser (lesser_name (first_name ts) (first_name qs)) (first_name ms) (sym e) in
      let both = no_lesser (first_name ts) (first_name qs) two.0 in
      let end : names ≡ take k names = a.of_third ∙ ap (λ hs. take k names ++ hs) (no_first ms two.1) ∙ append-nil (take k names) in (
        names_so T.entries ∙ a.of_first ∙ ap (λ hs. take k names ++ hs) (no_first ts both.0) ∙ append-nil (take k names) ∙ sym end,
        names_so C.entries ∙ a.of_second ∙ ap (λ hs. take k names ++ hs) (no_first qs both.1) ∙ append-nil (take k names) ∙ sym end,
      )
  told (Some h) e =
      other (entries_so T) (entries_so C) M (take k names) ts qs ms h (up T) (up C) (subst (AreModuleNames M) a.of_third are)
      (names_so T.entries ∙ a.of_first) (names_so C.entries ∙ a.of_second) (least_first ts qs ms h (sym e) a.not_one)

-- the name of an entry at a position is the first behind that
pub named_at : (es : List StoredEntry) (k : ℕ) (e : StoredEntry) → slice_get es k ≡ Some e → first_name (drop k (names_in es)) ≡ Some e.name
named_at [] k e at = none_some at
named_at (d ∷ es) zero e at = ap (λ (x : StoredEntry). Some x.name) (same_Some _ _ at)
named_at (d ∷ es) (suc k) e at = named_at es k e at
