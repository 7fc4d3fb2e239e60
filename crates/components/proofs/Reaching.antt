-- Whether a node reaches another is decided: by the nodes that stand between, which may be those below a number.
use Rattle.std.proofs.Common.{◌≡◌, ℕ, zero, suc, ◌<◌, ◌⊎◌, inl, inr, List, length, sym, subst, arith}
use Rattle.std.proofs.lemmas.Bool.{cases_lt, cases_eq}
use Rattle.components.specs.Graph.{targets, Leads, Reaches, by_pair, by_pairs, Together}
use Rattle.components.specs.steps.Search.{Walk}
use Rattle.components.proofs.Bounded.{Decided, both, either, is_in}
use Rattle.components.proofs.Walks.{reaches_on, walk_on, both_walk}

module _ (graph : List (List ℕ)) where
  -- f reaches g, and each node between is below k
  abbrev Through : (k f g : ℕ) → Type 0
  Through zero f g = Leads graph f g
  Through (suc k) f g = Through k f g ⊎ (Through k f k × Through k k g)

  through : (k f g : ℕ) → Decided (Through k f g)
  through zero f g = is_in (targets graph f) g
  through (suc k) f g = either (through k f g) (both (through k f k) (through k k g))

  through_reaches : (k f g : ℕ) → Through k f g → Reaches graph f g
  through_reaches zero f g h = by_pair f g h
  through_reaches (suc k) f g (inl h) = through_reaches k f g h
  through_reaches (suc k) f g (inr (to, from)) = reaches_on graph f k g (through_reaches k f k to) (through_reaches k k g from)

  through_pair : (k f g : ℕ) → Leads graph f g → Through k f g
  through_pair zero f g leads = leads
  through_pair (suc k) f g leads = inl (through_pair k f g leads)

  -- to the last node that may stand between, and from it
  to_last : (k f : ℕ) → Through (suc k) f k → Through k f k
  to_last k f (inl h) = h
  to_last k f (inr h) = h.0

  from_last : (k h : ℕ) → Through (suc k) k h → Through k k h
  from_last k h (inl t) = t
  from_last k h (inr t) = t.1

  joined_at : (k f g h : ℕ) → g < k → Through k f g → Through k g h → Through k f h
  joined_at zero f g h low to from = absurd (omega arith)
  joined_at (suc k) f g h low to from =
      elim (cases_lt g k) [
        | inl less ↦ below (λ x y z under. joined_at k x y z under) less to from
        | inr high ↦
            let same : g ≡ k = omega arith in
            inr (to_last k f (subst (Through (suc k) f) same to), from_last k h (subst (λ v. Through (suc k) v h) same from))
      ]
    where
      below : ((x y z : ℕ) → y < k → Through k x y → Through k y z → Through k x z) → g < k → Through (suc k) f g → Through (suc k) g h → Through (suc k) f h
      below again less (inl a) (inl b) = inl (again f g h less a b)
      below again less (inl a) (inr b) = inr (again f g k less a b.0, b.1)
      below again less (inr a) (inl b) = inr (a.0, again k g h less a.1 b)
      below again less (inr a) (inr b) = inr (a.0, b.1)

  module _ (inside : (f g : ℕ) → Leads graph f g → g < length graph) where
    reaches_through : (f g : ℕ) → Reaches graph f g → Through (length graph) f g
    reaches_through _ _ (by_pair f g leads) = through_pair (length graph) f g leads
    reaches_through _ _ (by_pairs f g h leads more) =
        joined_at (length graph) f g h (inside f g leads) (through_pair (length graph) f g leads) (reaches_through g h more)

    pub reaching : (f g : ℕ) → Decided (Reaches graph f g)
    reaching f g =
        elim (through (length graph) f g) [
          | inl h ↦ inl (through_reaches (length graph) f g h)
          | inr lacks ↦ inr (λ h. lacks (reaches_through f g h))
        ]

    pub walking : (f g : ℕ) → Decided (Walk graph f g)
    walking f g = either (cases_eq f g) (reaching f g)

    pub together : (f g : ℕ) → Decided (Together graph f g)
    together f g = either (cases_eq f g) (both (reaching f g) (reaching g f))

  pub turned : (f g : ℕ) → Together graph f g → Together graph g f
  turned f g (inl e) = inl (sym e)
  turned f g (inr h) = inr (h.1, h.0)

  pub walk_there : (f g : ℕ) → Together graph f g → Walk graph f g
  walk_there f g (inl e) = inl e
  walk_there f g (inr h) = inr h.0

  pub chained : (f g h : ℕ) → Together graph f g → Together graph g h → Together graph f h
  chained f g h a b =
      both_walk graph f h (walk_on graph f g h (walk_there f g a) (walk_there g h b)) (walk_on graph h g f (walk_there h g (turned g h b)) (walk_there g f (turned f g a)))
