-- What holds of courses over every lawful chart, by every lawful measure.
use Rattle.std.specs.Prelude.{◌≡◌, ℕ, ◌+◌, ◌<◌, ◌≤◌, true, ◌⊎◌, List, [], ◌∷◌, ◌++◌, length, Some, ◌≢◌, slice_index, slice_index_or}
use Rattle.measures.specs.Laws.{longest}
use Rattle.measures.specs.Operations.{Operations}
use Rattle.charts.specs.declared.lead.Lead.{Lead}
use Rattle.courses.specs.Courses.{Exits, Course, Leads, modes_along, value_of, Before, Dead, Least, Ahead, Chain, ChainOf, Offer, OffersInOrder, Listed, FirstCourses, Waiting}

-- the courses from a mode stand in a strict and total order, and a common front keeps it
pub record OrderStands {V : Type 0} (m : Operations V) : Type 0 where
  pub strict : (x : Exits) (p : ℕ) (a : Course) → Before m x p a a → ⊥
  pub carries : (x : Exits) (p : ℕ) (a b c : Course) → Before m x p a b → Before m x p b c → Before m x p a c
  pub total : (x : Exits) (p : ℕ) (a b : Course) → (a ≡ b) ⊎ (Before m x p a b ⊎ Before m x p b a)
  pub fronts_keep : (x : Exits) (p q r : ℕ) (f a b : Course) → Leads x p q f → Leads x q r a → Leads x q r b → length f + length a ≤ longest → length f + length b ≤ longest → Before m x q a b → Before m x p (f ++ a) (f ++ b)

-- b goes from q to r as a does, meets no mode twice, and behind the front f from p is neither longer nor greater than a
pub record Direct {V : Type 0} (m : Operations V) (x : Exits) (p q r : ℕ) (f a b : Course) : Type 0 where
  pub leads : Leads x q r b
  pub no_mode_twice : (i k : ℕ) → i < k → k < length (modes_along x q b) → slice_index (modes_along x q b) i ≢ slice_index (modes_along x q b) k
  pub no_longer : (b ≡ a) ⊎ (length b < length a)
  pub no_greater : (w : V) → value_of m x p (f ++ a) ≡ Some w → (v : V) × (value_of m x p (f ++ b) ≡ Some v) × (m.at_most v w ≡ true)

-- the exits of p settle e ∷ a: it goes on by the least course of where e leads, and e is ahead of every other exit
abbrev pub Settled : {V : Type 0} → Operations V → Exits → (t p e : ℕ) → Course → Lead → Type 0
Settled m x t p e a l = (x p e ≡ Some l) × Least m x t l.to a × ((f : ℕ) (b : Course) (k : Lead) → (f ≢ e) → x p f ≡ Some k → Least m x t k.to b → Ahead m x e l a f k b)

-- least courses over the open exits x of n modes
pub record LeastCourses {V : Type 0} (m : Operations V) (x : Exits) (n : ℕ) : Type 0 where
  -- every walk, of whatever length, has a direct one, also behind a front
  pub direct : (p q r : ℕ) (f a : Course) → Leads x p q f → Leads x q r a → length f + n ≤ longest → (b : Course) × Direct m x p q r f a b × (length b < n)
  -- every mode has a least course, of fewer steps than there are modes, or is dead
  pub least_or_dead : (t p : ℕ) → ((a : Course) × Least m x t p a × (length a < n)) ⊎ Dead x t p
  -- every course that is longer than joins must exist for stands after it, whatever value it has or lacks
  pub before_long : (t p : ℕ) (a b : Course) → Least m x t p a → Leads x p t b → longest < length b → Before m x p a b
  -- the least course of the watched mode is empty, and behind its first step a least course is one
  pub at_watched : (t : ℕ) → Least m x t t []
  pub rest_is_least : (t p e : ℕ) (a : Course) (l : Lead) → Least m x t p (e ∷ a) → x p e ≡ Some l → Least m x t l.to a
  -- the least course of any other mode is what its exits settle
  pub least_is_settled : (t p e : ℕ) (a : Course) → (p ≢ t) → Least m x t p (e ∷ a) → (l : Lead) × Settled m x t p e a l
  pub settled_is_least : (t p e : ℕ) (a : Course) (l : Lead) → (p ≢ t) → Settled m x t p e a l → Least m x t p (e ∷ a)

-- every course has one chain, and a chain belongs to one course
pub record ChainsAreCourses {V : Type 0} (m : Operations V) (x : Exits) (s t : ℕ) : Type 0 where
  pub has_chain : (a : Course) → Leads x s t a → (d : Chain) × ChainOf m x t s a d
  pub one_chain : (a : Course) (d f : Chain) → Leads x s t a → ChainOf m x t s a d → ChainOf m x t s a f → d ≡ f
  pub one_course : (a b : Course) (d : Chain) → Leads x s t a → Leads x s t b → ChainOf m x t s a d → ChainOf m x t s b d → a ≡ b

-- the offers of a course are the courses with one detour more
pub record OffersAreChildren {V : Type 0} (m : Operations V) (x : Exits) (s t : ℕ) : Type 0 where
  pub is_course : (a c : Course) (i e : ℕ) → Offer m x t s a i e c → Leads x s t c
  pub one_more : (a c : Course) (i e : ℕ) (d : Chain) → Offer m x t s a i e c → ChainOf m x t s a d → ChainOf m x t s c (d ++ (i, e) ∷ [])
  pub every_one : (a c : Course) (i e : ℕ) (d : Chain) → Leads x s t a → Leads x s t c → ChainOf m x t s a d → ChainOf m x t s c (d ++ (i, e) ∷ []) → Offer m x t s a i e c
  -- every course but the least is offered, by one course only, at one position and exit, and stands after it
  pub offered : (c : Course) → Leads x s t c → (Least m x t s c → ⊥) → (a : Course) × (i : ℕ) × (e : ℕ) × Offer m x t s a i e c
  pub once : (a b c : Course) (i e k f : ℕ) → Offer m x t s a i e c → Offer m x t s b k f c → (a ≡ b) × (i ≡ k) × (e ≡ f)
  pub after : (a c : Course) (i e : ℕ) → Offer m x t s a i e c → length a ≤ longest → length c ≤ longest → Before m x s a c
  -- every course has one list of its offers
  pub has_list : (a : Course) → Leads x s t a → (os : List (ℕ × ℕ × Course)) × OffersInOrder m x t s a os
  pub one_list : (a : Course) (os us : List (ℕ × ℕ × Course)) → OffersInOrder m x t s a os → OffersInOrder m x t s a us → os ≡ us

-- the offers leave nothing out: behind a list of first courses, of whatever length they are
pub record NothingLeftOut {V : Type 0} (m : Operations V) (x : Exits) (s t : ℕ) (ds : List Course) : Type 0 where
  -- the first course that waits is the next of all
  pub next : (a : Course) → Waiting m x s t ds a → ((b : Course) → Waiting m x s t ds b → (b ≢ a) → Before m x s a b) → FirstCourses m x s t (ds ++ a ∷ [])
  -- and where none waits, the list holds every course
  pub none_left : ((a : Course) → Waiting m x s t ds a → ⊥) → (a : Course) → Leads x s t a → Listed a ds

-- two lists of first courses agree at every place that both have
abbrev pub ListsAgree : {V : Type 0} → Operations V → Exits → Exits → Type 0
ListsAgree m x y = (s t : ℕ) (ds es : List Course) → FirstCourses m x s t ds → FirstCourses m y s t es → (k : ℕ) → k < length ds → k < length es → slice_index_or ds k [] ≡ slice_index_or es k []
