-- `SharedList` as a type that may hold the type that holds it.
use mathlib.Core.Path.{◌≡◌, refl, sym}
use mathlib.Core.List.{List, []}
use mathlib.Core.Logic.{◌⊎◌, inl, inr}
use mathlib.Core.Former.{Former, this, const, or, list, via, children}
use base.Stored.{code_map}
use denote.RattleType.{RattleType}
use denote.HoleLaws.{Alike}
use denote.HolePlaces.{Recodes, struct_places, enum_places, eachs, laid}
use denote.Hole.Carrier.{listed, list-listed}
use denote.Hole.Fix.{over}
use denote.Param.Weighed.{Weighed, w_list}
use denote.Model.Placed.{held, view_places}
use Rattle.std.specs.contracts.option.Option as option
use Rattle.std.specs.Prelude.{Option, Some, None, map, option_map}
use Rattle.type_kinds.specs.formers.list.List as lists
use Rattle.type_kinds.specs.formers.shared.Shared as shared
use Rattle.type_kinds.specs.contracts.list.List as plain_row
use Rattle.type_kinds.specs.contracts.shared.Shared as shared_row
use Rattle.type_kinds_sets.specs.declared.shared_list.SharedList.TheInside.{Inside}
use Rattle.type_kinds_sets.specs.declared.shared_list.SharedList.TheView.{view, invariant}
use Rattle.type_kinds_sets.specs.contracts.shared_list.SharedList as C
use Rattle.type_kinds_sets.specs.contracts.shared_list.SharedList.TheInside as I

abbrev pub the_former : Former {0} → Former {0}
the_former g = list g

abbrev pub the_weighed : {g : Former {0}} → Weighed g → Weighed (the_former g)
the_weighed w = w_list w

abbrev pub the_empty : List ⊥
the_empty = []

abbrev pub the_items : (X : Type 0) → List X → List X
the_items X d = d

pub the_items_listed : (X : Type 0) (d : List X) → listed _ (children (the_former this) X d) ≡ the_items X d
the_items_listed X d = list-listed X d

module _ {X : Type 0} where
  abbrev split : Option (List X) → Unit {0} ⊎ List X
  split None = inl tt
  split (Some xs) = inr xs

  abbrev join : Unit {0} ⊎ List X → Option (List X)
  join (inl u) = None
  join (inr xs) = Some xs

  join-split : (o : Option (List X)) → join (split o) ≡ o
  join-split None = refl
  join-split (Some xs) = refl

  split-join : (o : Unit {0} ⊎ List X) → split (join o) ≡ o
  split-join (inl u) = refl
  split-join (inr xs) = refl

abbrev fields : Former {0}
fields = via (or (const (Unit {0})) (list this)) Inside (λ X a. split a.items) (λ X v. record { items = join v }) (λ X a i. record { items = join-split a.items i }) (λ X v. split-join v)

module _ (X : Type 0) where
  keeps : (o : Option (List X)) → held (list this) X (view X (record { items = o })) ≡ held fields X (record { items = o })
  keeps None = refl
  keeps (Some xs) = refl

  module _ (Y : Type 0) (h : X → Y) where
    natural : (o : Option (List X)) → view Y (fields.map X Y h (record { items = o })) ≡ (list this).map X Y h (view X (record { items = o }))
    natural None = refl
    natural (Some xs) = refl

    mapped : (o : Option (List X)) → (fields.map X Y h (record { items = o })).items ≡ option_map (map h) o
    mapped None = refl
    mapped (Some xs) = refl

module _ (R S : RattleType) (h : R.Denot → S.Denot) where
  abbrev shared_of : RattleType → RattleType
  shared_of Q = shared_row.the_row (plain_row.the_row Q)

  variant : (o : Option (List R.Denot))
      → (option.enum (shared_of S)).as_values (option_map (map h) o)
      ≡ eachs (option.enum (shared_of R)).parts (option.enum (shared_of S)).parts (tt, ((map h, tt), tt)) ((option.enum (shared_of R)).as_values o)
  variant None = refl
  variant (Some xs) = refl

  option_places : Alike R S h → Alike (option.the_row (shared_of R)) (option.the_row (shared_of S)) (option_map (map h))
  option_places a =
      let below = shared.the_places (plain_row.the_row R) (plain_row.the_row S) (map h) (lists.the_places R S h a) in
      enum_places (option.enum (shared_of R)) (option.enum (shared_of S)) (tt, ((map h, tt), tt)) (option_map (map h)) variant refl (tt, ((laid _ _ _ below, tt), tt))

  pub the_places : Alike R S h → Alike (C.the_row R) (C.the_row S) ((the_former this).map R.Denot S.Denot h)
  the_places a = view_places fields (list this) view (λ X Y k u. natural X Y k u.items) (λ X u. keeps X u.items) R.Denot S.Denot h (C.the_row R).coded (C.the_row S).coded
      (invariant R.Denot) (invariant S.Denot) (λ u p q. refl) (λ u p q. refl) (λ u e. tt) (λ u e. tt)
      (over (I.the_row R)) (over (I.the_row S))
      (struct_places (I.the_type R) (I.the_type S) (option_map (map h), tt) _ (λ d i. (mapped R.Denot S.Denot h d.items i, tt)) refl (laid _ _ _ (option_places a), tt))

  pub the_codes_placed : Recodes R S h → Recodes (C.the_row R) (C.the_row S) ((the_former this).map R.Denot S.Denot h)
  the_codes_placed e d = sym (code_map R.coded.code S.coded.code h (λ x. sym (e x)) d)
