-- Places and items that are equal by `==` are the same value.
use Rattle.std.proofs.Common.{◌≡◌, true, refl, arith}
use Rattle.std.proofs.lemmas.Bool.{and_parts}
use Rattle.core_scope.specs.Names.{same_atom, same_function}
use Rattle.core_scope.specs.steps.SameNames.{atoms_same, functions_same}
use Rattle.fun_flow_places.specs.declared.places.FlowPlace.{FlowPlace}
use Rattle.fun_flow_places.specs.declared.places.FlowPlace.TheVariants.{Nowhere, Anywhere, Part, Parameter, Returned}
use Rattle.fun_flow_places.specs.declared.places.Item.{Item}
use Rattle.fun_flow_places.specs.declared.places.Item.TheVariants.{Anything, Closure, External}
use Rattle.fun_flow_places.specs.contracts.places.FlowPlacePartialEq.TheImpl as place_eq
use Rattle.fun_flow_places.specs.contracts.places.ItemPartialEq.TheImpl as item_eq

pub places_same : (a b : FlowPlace) → (place_eq.ghosts).eq a b ≡ true → a ≡ b
places_same Nowhere Nowhere e = refl
places_same Nowhere Anywhere e = absurd cc
places_same Nowhere (Part g k j) e = absurd cc
places_same Nowhere (Parameter g k j) e = absurd cc
places_same Nowhere (Returned g k) e = absurd cc
places_same Anywhere Nowhere e = absurd cc
places_same Anywhere Anywhere e = refl
places_same Anywhere (Part g k j) e = absurd cc
places_same Anywhere (Parameter g k j) e = absurd cc
places_same Anywhere (Returned g k) e = absurd cc
places_same (Part h l i) Nowhere e = absurd cc
places_same (Part h l i) Anywhere e = absurd cc
places_same (Part h l i) (Part g k j) e = grind arith
places_same (Part h l i) (Parameter g k j) e = absurd cc
places_same (Part h l i) (Returned g k) e = absurd cc
places_same (Parameter h l i) Nowhere e = absurd cc
places_same (Parameter h l i) Anywhere e = absurd cc
places_same (Parameter h l i) (Part g k j) e = absurd cc
places_same (Parameter h l i) (Parameter g k j) e = grind arith
places_same (Parameter h l i) (Returned g k) e = absurd cc
places_same (Returned h l) Nowhere e = absurd cc
places_same (Returned h l) Anywhere e = absurd cc
places_same (Returned h l) (Part g k j) e = absurd cc
places_same (Returned h l) (Parameter g k j) e = absurd cc
places_same (Returned h l) (Returned g k) e = grind arith

pub items_same : (a b : Item) → (item_eq.ghosts).eq a b ≡ true → a ≡ b
items_same Anything Anything e = refl
items_same Anything (Closure g k m) e = absurd cc
items_same Anything (External y q) e = absurd cc
items_same (Closure h l n) Anything e = absurd cc
items_same (Closure h l n) (Closure g k m) e = grind arith
items_same (Closure h l n) (External y q) e = absurd cc
items_same (External x f) Anything e = absurd cc
items_same (External x f) (Closure g k m) e = absurd cc
items_same (External x f) (External y q) e = let b = and_parts (same_atom x y) (same_function f q) e in let h : x ≡ y = atoms_same x y b.0 in let g : f ≡ q = functions_same f q b.1 in cc
