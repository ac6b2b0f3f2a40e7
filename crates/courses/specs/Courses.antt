-- What a course is: where it leads, its value, its rank, the least courses, detours, chains, offers, and lists of courses.
use Rattle.std.specs.Prelude.{◌≡◌, ℕ, ◌+◌, ◌<◌, ◌≤◌, ◌⊎◌, List, [], ◌∷◌, ◌++◌, length, take, Some, None, Option, ◌≢◌, slice_index_or}
use Rattle.std.specs.List.{ContainsAt as Has, AllByRecursion}
use Rattle.measures.specs.Laws.{Below}
use Rattle.std.specs.Option.{option_and_then}
use Rattle.measures.specs.Rows.{row_value}
use Rattle.measures.specs.Operations.{Operations}
use Rattle.measures.specs.declared.step.Step.{Step}
use Rattle.charts.specs.declared.lead.Lead.{Lead}

-- where each exit of each mode leads; None where it is shut or does not exist
abbrev pub Exits : Type 0
Exits = ℕ → ℕ → Option Lead

-- exits, each by its number, to be taken in turn
abbrev pub Course : Type 0
Course = List ℕ

-- the mode that is reached from mode p, none where an exit on the way is not open
abbrev pub ends : Exits → ℕ → Course → Option ℕ
ends x p [] = Some p
ends x p (e ∷ a) = option_and_then (λ l. ends x l.to a) (x p e)

-- a course from p to t: its exits are open in turn, and the last leads to t; the empty one leads from a mode to itself
abbrev pub Leads : Exits → ℕ → ℕ → Course → Type 0
Leads x p t a = ends x p a ≡ Some t

-- the steps that are made on the way, as far as the exits are open
abbrev pub steps_along : Exits → ℕ → Course → List Step
steps_along x p [] = []
steps_along x p (e ∷ a) = elim (x p e) [ None ↦ [] | Some l ↦ l.step ∷ steps_along x l.to a ]

-- the modes on the way, the first and the last included, as far as the exits are open
abbrev pub modes_along : Exits → ℕ → Course → List ℕ
modes_along x p [] = p ∷ []
modes_along x p (e ∷ a) = p ∷ elim (x p e) [ None ↦ [] | Some l ↦ modes_along x l.to a ]

-- the value of a course from p: the join of its step values from the first on, none where a join does not exist
abbrev pub value_of : {V : Type 0} → Operations V → Exits → ℕ → Course → Option V
value_of m x p a = row_value m (steps_along x p a)

-- a smaller value first, and any value before none
abbrev pub Smaller : {V : Type 0} → Operations V → Option V → Option V → Type 0
Smaller m (Some a) (Some b) = Below m a b
Smaller m (Some a) None = Unit {0}
Smaller m None b = ⊥

-- the lower exit at the first step where they differ
abbrev pub Lower : Course → Course → Type 0
Lower [] b = ⊥
Lower (e ∷ a) [] = ⊥
Lower (e ∷ a) (f ∷ b) = (e < f) ⊎ ((e ≡ f) × Lower a b)

-- of equal value: fewer steps, then the lower exit
abbrev pub Shorter : Course → Course → Type 0
Shorter a b = (length a < length b) ⊎ ((length a ≡ length b) × Lower a b)

-- a stands before b, both taken from mode p
abbrev pub Before : {V : Type 0} → Operations V → Exits → ℕ → Course → Course → Type 0
Before m x p a b =
    Smaller m (value_of m x p a) (value_of m x p b) ⊎ ((value_of m x p a ≡ value_of m x p b) × Shorter a b)

-- p has a course to t
abbrev pub Live : Exits → ℕ → ℕ → Type 0
Live x t p = (a : Course) × Leads x p t a

-- p has none
abbrev pub Dead : Exits → ℕ → ℕ → Type 0
Dead x t p = (a : Course) → Leads x p t a → ⊥

-- the least course of p: a course to t, and every other one stands after it
pub record Least {V : Type 0} (m : Operations V) (x : Exits) (t p : ℕ) (a : Course) : Type 0 where
  pub leads : Leads x p t a
  pub first : (b : Course) → Leads x p t b → (b ≢ a) → Before m x p a b

-- the value by way of an open exit: its step's, joined to that of the course from where it leads
abbrev pub value_by : {V : Type 0} → Operations V → Exits → Lead → Course → Option V
value_by m x l a = option_and_then (λ v. m.joined (m.step_value l.step) v) (value_of m x l.to a)

-- exit e, gone on by the course a, is ahead of exit f, gone on by b: a smaller value, fewer steps, the lower exit
abbrev pub Ahead : {V : Type 0} → Operations V → Exits → (e : ℕ) → Lead → Course → (f : ℕ) → Lead → Course → Type 0
Ahead m x e l a f k b =
    Smaller m (value_by m x l a) (value_by m x k b)
    ⊎ ((value_by m x l a ≡ value_by m x k b) × ((length a + 1 < length b + 1) ⊎ ((length a + 1 ≡ length b + 1) × (e < f))))

-- a detour of p: an open exit to a mode that is not dead, other than the exit that the least course of p takes
pub record Detour {V : Type 0} (m : Operations V) (x : Exits) (t p e : ℕ) : Type 0 where
  pub lead : Lead
  pub open_exit : x p e ≡ Some lead
  pub lives : Live x t lead.to
  pub aside : (rest : Course) → Least m x t p (e ∷ rest) → ⊥

-- detours in turn, as pairs of step position and exit
abbrev pub Chain : Type 0
Chain = List (ℕ × ℕ)

-- c lists the detours of the course a, whose first step is made from mode p and has position i
abbrev pub Detours : {V : Type 0} → Operations V → Exits → ℕ → ℕ → ℕ → Course → Chain → Type 0
Detours m x t p i [] c = c ≡ []
Detours m x t p i (e ∷ a) c =
    (l : Lead) × (x p e ≡ Some l)
    × (((d : Chain) × Detour m x t p e × (c ≡ (i, e) ∷ d) × Detours m x t l.to (i + 1) a d)
    ⊎ ((Detour m x t p e → ⊥) × Detours m x t l.to (i + 1) a c))

-- c is the chain of the course a from s: its detours
abbrev pub ChainOf : {V : Type 0} → Operations V → Exits → ℕ → ℕ → Course → Chain → Type 0
ChainOf m x t s a c = Detours m x t s 0 a c

-- the position where the stretch of a course with this chain begins: behind its last detour, or at the start
abbrev pub stretch_from : Chain → ℕ
stretch_from [] = 0
stretch_from (d ∷ []) = d.0 + 1
stretch_from (d ∷ f ∷ c) = stretch_from (f ∷ c)

-- c is the offer of the course a at position i by exit e: a up to a mode of its stretch, a detour there, and the least
-- course of the mode where that lands
pub record Offer {V : Type 0} (m : Operations V) (x : Exits) (t s : ℕ) (a : Course) (i e : ℕ) (c : Course) : Type 0 where
  pub course : Leads x s t a
  pub chain : Chain
  pub is_chain : ChainOf m x t s a chain
  pub from_stretch : stretch_from chain ≤ i
  pub to_stretch : i ≤ length a
  pub mode : ℕ
  pub reached : Leads x s mode (take i a)
  pub detour : Detour m x t mode e
  pub rest : Course
  pub least : Least m x t detour.lead.to rest
  pub is : c ≡ take i a ++ e ∷ rest

-- an offered course with its position and exit is earlier than another: a lower position, or the same and a lower exit
abbrev pub Earlier : ℕ × ℕ × Course → ℕ × ℕ × Course → Type 0
Earlier o u = (o.0 < u.0) ⊎ ((o.0 ≡ u.0) × (o.1 < u.1))

-- the list holds all offers of the course a, each once, and each earlier than those behind it
pub record OffersInOrder {V : Type 0} (m : Operations V) (x : Exits) (t s : ℕ) (a : Course) (os : List (ℕ × ℕ × Course)) : Type 0 where
  pub offers : AllByRecursion (λ o. Offer m x t s a o.0 o.1 o.2) os
  pub in_order : (i k : ℕ) (d : ℕ × ℕ × Course) → i < k → k < length os → Earlier (slice_index_or os i d) (slice_index_or os k d)
  pub every : (i e : ℕ) (c : Course) → Offer m x t s a i e c → Has os (i, e, c)

-- a is in the list
abbrev pub Listed : Course → List Course → Type 0
Listed a ds = (k : ℕ) × (k < length ds) × (slice_index_or ds k [] ≡ a)

-- the list holds the first courses from s to t: they are courses, stand in order, and every other course comes after them
pub record FirstCourses {V : Type 0} (m : Operations V) (x : Exits) (s t : ℕ) (ds : List Course) : Type 0 where
  pub courses : (k : ℕ) → k < length ds → Leads x s t (slice_index_or ds k [])
  pub in_order : (i k : ℕ) → i < k → k < length ds → Before m x s (slice_index_or ds i []) (slice_index_or ds k [])
  pub rest_after : (a : Course) → Leads x s t a → (Listed a ds → ⊥) → (k : ℕ) → k < length ds → Before m x s (slice_index_or ds k []) a

-- c waits behind the list: it is not in it, and is the least course of s or offered by a course in the list
pub record Waiting {V : Type 0} (m : Operations V) (x : Exits) (s t : ℕ) (ds : List Course) (c : Course) : Type 0 where
  pub absent : Listed c ds → ⊥
  pub source : Least m x t s c ⊎ ((a : Course) × Listed a ds × ((i : ℕ) × (e : ℕ) × Offer m x t s a i e c))
