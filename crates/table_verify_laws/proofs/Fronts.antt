-- Names side by side, up to the first position at which they differ: the least name there isn't in all lists, and each lesser one that is
-- in one of them is in all.
use Rattle.std.proofs.Common.{◌≡◌, ◌⊎◌, ◌<◌, Bool, true, false, cond, List, [], ◌∷◌, ◌++◌, Contains, inl, inr, Some, refl, sym, ap, ◌∙◌, subst, true≢false, arith}
use Rattle.std.proofs.lemmas.List.Elements.{Contains-append_left, Contains-append_right, Contains-append_cases}
use Rattle.std.proofs.lemmas.Option.{same_Some}
use Rattle.type_kinds.proofs.Lists.{contains_none, contains_first, contains_later, contains_cases}
use Rattle.type_kinds.proofs.Truths.{first, second}
use Rattle.type_kinds.specs.declared.atom.Atom.{Atom}
use Rattle.type_kinds_sets.specs.Ascending.{is_below_all}
use Rattle.type_kinds_sets.specs.Names.{name_cmp}
use Rattle.type_kinds_sets.proofs.AscendingLaws as ascending
use Rattle.type_kinds_sets.proofs.NameLaws.{name_total, name_same}
use Rattle.core_scope.specs.Names.{same_atom}
use Rattle.table_file.specs.Order.{rises, is_name_before}
use Rattle.table_keep.specs.Model.{Source, Entry, source_of, is_there, is_in, entry_of}
use Rattle.sound_laws_kept.proofs.Graphs.{below_all, rises_behind}
use Rattle.sound_laws_kept.proofs.Names.{name_is, none_some, there_is}
use Rattle.table_verify_laws.proofs.Listing.{entry_there}
use Rattle.table_verify_laws.specs.Rules.{TableRule, same_modules, same_source, same_functions, closed, rule_number, IsSomewhere, in_table, in_certificate, in_sources, IsEverywhere, Breaks, IsFirstBroken}
use Rattle.table_verify_laws.specs.Lined.{entry_names, first_name, IsLeastFirst, AreModuleNames, SameNamesLaw, OtherNamesLaw}

-- ---- lists that rise

below_stands : (h k : Atom) (hs : List Atom) → is_below_all name_cmp h hs ≡ true → Contains hs k → is_name_before h k ≡ true
below_stands h k [] low has = absurd (contains_none k has)
below_stands h k (g ∷ hs) low has = elim (contains_cases g k hs has) [
  | inl same ↦ subst (λ x. is_name_before h x ≡ true) same (first (is_name_before h g) (is_below_all name_cmp h hs) low)
  | inr more ↦ below_stands h k hs (second (is_name_before h g) (is_below_all name_cmp h hs) low) more
]

not_itself : (h : Atom) → is_name_before h h ≡ true → ⊥
not_itself h e = ascending.below-not_itself name_total name_same h e

-- a name in front stands before each behind it
front_before : (front hs : List Atom) (k h : Atom) → rises is_name_before (front ++ hs) ≡ true → Contains front k → Contains hs h → is_name_before k h ≡ true
front_before [] hs k h up has there = absurd (contains_none k has)
front_before (g ∷ front) hs k h up has there = elim (contains_cases g k front has) [
  | inl same ↦ subst (λ x. is_name_before x h ≡ true) same (below_stands g h (front ++ hs) (below_all g (front ++ hs) up) (Contains-append_right front hs h there))
  | inr more ↦ front_before front hs k h (rises_behind g (front ++ hs) up) more there
]

behind : (front hs : List Atom) → rises is_name_before (front ++ hs) ≡ true → rises is_name_before hs ≡ true
behind [] hs up = up
behind (g ∷ front) hs up = behind front hs (rises_behind g (front ++ hs) up)

-- where no first name is less, no name is
none_less : (hs : List Atom) (h k : Atom) → rises is_name_before hs ≡ true → ((g : Atom) → first_name hs ≡ Some g → is_name_before g h ≡ false) → Contains hs k → is_name_before k h ≡ true → ⊥
none_less [] h k up least has less = contains_none k has
none_less (g ∷ hs) h k up least has less = elim (contains_cases g k hs has) [
  | inl same ↦ true≢false (sym less ∙ ap (λ x. is_name_before x h) (sym same) ∙ least g refl)
  | inr more ↦ true≢false (sym (ascending.below-below name_total name_same g k h (below_stands g k hs (below_all g hs up) more) less) ∙ least g refl)
]

-- so a list that has the name begins with it
begins_with : (hs : List Atom) (h : Atom) → rises is_name_before hs ≡ true → ((g : Atom) → first_name hs ≡ Some g → is_name_before g h ≡ false) → Contains hs h → first_name hs ≡ Some h
begins_with [] h up least has = absurd (contains_none h has)
begins_with (g ∷ hs) h up least has = elim (contains_cases g h hs has) [
  | inl same ↦ ap Some same
  | inr more ↦ absurd (true≢false (sym (below_stands g h hs (below_all g hs up) more) ∙ least g refl))
]

first_there : (hs : List Atom) (h : Atom) → first_name hs ≡ Some h → Contains hs h
first_there [] h e = none_some e
first_there (g ∷ hs) h e = subst (Contains (g ∷ hs)) (same_Some _ _ e) (contains_first g hs)

-- ---- entries by their names

there_entry : (T : List Entry) (h : Atom) (e : Entry) → entry_of T h ≡ Some e → Contains (entry_names T) h
there_entry [] h e at = none_some at
there_entry (d ∷ T) h e at = by (same_atom h d.name) refl at (there_entry T h e)
  where
    by : (b : Bool) → same_atom h d.name ≡ b → cond b (Some d) (entry_of T h) ≡ Some e → (entry_of T h ≡ Some e → Contains (entry_names T) h) → Contains (d.name ∷ entry_names T) h
    by true is at rest = subst (Contains (d.name ∷ entry_names T)) (sym (name_is h d.name is)) (contains_first d.name (entry_names T))
    by false is at rest = contains_later d.name h (entry_names T) (rest at)

module _ (T C : List Entry) (M : List Source) where
  everywhere : (h : Atom) → Contains (entry_names T) h → Contains (entry_names C) h → is_in M h ≡ true → IsEverywhere T C M h
  everywhere h in_t in_c in_m =
      let e = entry_there T h in_t in
      let c = entry_there C h in_c in
      let s = there_is (source_of M h) in_m in
      record { entry = e.0; certified = c.0; source = s.0; entry_there = e.1; certified_there = c.1; source_there = s.1 }

  -- a name that is there is one of the three lists
  named_cases : (h : Atom) → IsSomewhere T C M h → Contains (entry_names T) h ⊎ (Contains (entry_names C) h ⊎ (is_in M h ≡ true))
  named_cases h (in_table e at) = inl (there_entry T h e at)
  named_cases h (in_certificate e at) = inr (inl (there_entry C h e at))
  named_cases h (in_sources s at) = inr (inr (ap is_there at))

pub same_names : SameNamesLaw
same_names T C M names are t c h named = by (named_cases T C M h named)
  where
    of_names : Contains names h → IsEverywhere T C M h
    of_names has = everywhere T C M h (subst (λ hs. Contains hs h) (sym t) has) (subst (λ hs. Contains hs h) (sym c) has) ((are.exactly h).1 has)

    by : Contains (entry_names T) h ⊎ (Contains (entry_names C) h ⊎ (is_in M h ≡ true)) → IsEverywhere T C M h
    by (inl has) = of_names (subst (λ hs. Contains hs h) t has)
    by (inr (inl has)) = of_names (subst (λ hs. Contains hs h) c has)
    by (inr (inr has)) = of_names ((are.exactly h).0 has)

module _ (T C : List Entry) (M : List Source) (front ts qs ms : List Atom) (h : Atom) (up_t : rises is_name_before (entry_names T) ≡ true)
    (up_c : rises is_name_before (entry_names C) ≡ true) (are : AreModuleNames M (front ++ ms)) (t : entry_names T ≡ front ++ ts) (c : entry_names C ≡ front ++ qs) (is : IsLeastFirst ts qs ms h) where
  up_ts : rises is_name_before (front ++ ts) ≡ true
  up_ts = subst (λ hs. rises is_name_before hs ≡ true) t up_t

  up_qs : rises is_name_before (front ++ qs) ≡ true
  up_qs = subst (λ hs. rises is_name_before hs ≡ true) c up_c

  least_ts : (g : Atom) → first_name ts ≡ Some g → is_name_before g h ≡ false
  least_ts g e = is.least_first g (inl e)

  least_qs : (g : Atom) → first_name qs ≡ Some g → is_name_before g h ≡ false
  least_qs g e = is.least_first g (inr (inl e))

  least_ms : (g : Atom) → first_name ms ≡ Some g → is_name_before g h ≡ false
  least_ms g e = is.least_first g (inr (inr e))

  -- the name isn't in front
  not_in_front : Contains front h → ⊥
  not_in_front has = by is.first_of_one
    where
      by : (first_name ts ≡ Some h) ⊎ ((first_name qs ≡ Some h) ⊎ (first_name ms ≡ Some h)) → ⊥
      by (inl e) = not_itself h (front_before front ts h h up_ts has (first_there ts h e))
      by (inr (inl e)) = not_itself h (front_before front qs h h up_qs has (first_there qs h e))
      by (inr (inr e)) = not_itself h (front_before front ms h h are.rising has (first_there ms h e))

  begins : (hs : List Atom) → rises is_name_before (front ++ hs) ≡ true → ((g : Atom) → first_name hs ≡ Some g → is_name_before g h ≡ false) → Contains (front ++ hs) h → first_name hs ≡ Some h
  begins hs up least has = elim (Contains-append_cases front hs h has) [
    | inl early ↦ absurd (not_in_front early)
    | inr late ↦ begins_with hs h (behind front hs up) least late
  ]

  not_everywhere : IsEverywhere T C M h → ⊥
  not_everywhere x =
      is.not_of_all (
        begins ts up_ts least_ts (subst (λ hs. Contains hs h) t (there_entry T h x.entry x.entry_there)),
        begins qs up_qs least_qs (subst (λ hs. Contains hs h) c (there_entry C h x.certified x.certified_there)),
        begins ms are.rising least_ms ((are.exactly h).0 (ap is_there x.source_there)),
      )

  -- a lesser name that is there stands in front, and so everywhere
  in_front : (k : Atom) (hs : List Atom) → rises is_name_before (front ++ hs) ≡ true → ((g : Atom) → first_name hs ≡ Some g → is_name_before g h ≡ false) → is_name_before k h ≡ true
      → Contains (front ++ hs) k → Contains front k
  in_front k hs up least less has = elim (Contains-append_cases front hs k has) [
    | inl early ↦ early
    | inr late ↦ absurd (none_less hs h k (behind front hs up) least late less)
  ]

  of_front : (k : Atom) → Contains front k → IsEverywhere T C M k
  of_front k has =
      everywhere T C M k (subst (λ hs. Contains hs k) (sym t) (Contains-append_left front ts k has)) (subst (λ hs. Contains hs k) (sym c) (Contains-append_left front qs k has))
      ((are.exactly k).1 (Contains-append_left front ms k has))

  lesser_keeps : (k : Atom) → is_name_before k h ≡ true → IsSomewhere T C M k → IsEverywhere T C M k
  lesser_keeps k less named = by (named_cases T C M k named)
    where
      by : Contains (entry_names T) k ⊎ (Contains (entry_names C) k ⊎ (is_in M k ≡ true)) → IsEverywhere T C M k
      by (inl has) = of_front k (in_front k ts up_ts least_ts less (subst (λ hs. Contains hs k) t has))
      by (inr (inl has)) = of_front k (in_front k qs up_qs least_qs less (subst (λ hs. Contains hs k) c has))
      by (inr (inr has)) = of_front k (in_front k ms are.rising least_ms less ((are.exactly k).0 has))

  none_is_less : (k : Atom) → Breaks T C M same_modules k → is_name_before k h ≡ false
  none_is_less k breaks = by (is_name_before k h) refl
    where
      by : (b : Bool) → is_name_before k h ≡ b → b ≡ false
      by true e = absurd (breaks (lesser_keeps k e))
      by false e = refl

  is_named : IsSomewhere T C M h
  is_named = by is.first_of_one
    where
      by : (first_name ts ≡ Some h) ⊎ ((first_name qs ≡ Some h) ⊎ (first_name ms ≡ Some h)) → IsSomewhere T C M h
      by (inl e) =
          let there = entry_there T h (subst (λ hs. Contains hs h) (sym t) (Contains-append_right front ts h (first_there ts h e))) in
          in_table there.0 there.1
      by (inr (inl e)) =
          let there = entry_there C h (subst (λ hs. Contains hs h) (sym c) (Contains-append_right front qs h (first_there qs h e))) in
          in_certificate there.0 there.1
      by (inr (inr e)) =
          let there = there_is (source_of M h) ((are.exactly h).1 (Contains-append_right front ms h (first_there ms h e))) in
          in_sources there.0 there.1

  none_earlier : (q : TableRule) → rule_number q < rule_number same_modules → ⊥
  none_earlier same_modules less = omega (arith, less)
  none_earlier same_source less = omega (arith, less)
  none_earlier same_functions less = omega (arith, less)
  none_earlier closed less = omega (arith, less)

  first_broken : IsFirstBroken T C M same_modules h
  first_broken = record {
    broken = λ keeps. not_everywhere (keeps is_named);
    least = none_is_less;
    earliest = λ q k less breaks. none_earlier q less;
  }

pub other_names : OtherNamesLaw
other_names T C M front ts qs ms h up_t up_c are t c is = first_broken T C M front ts qs ms h up_t up_c are t c is
