-- Walks one behind the other: where they lead, their steps and their values.
use Rattle.std.proofs.Common.{◌≡◌, ℕ, suc, ◌+◌, ◌≤◌, List, [], ◌∷◌, ◌++◌, length, Some, None, Option, sym, refl, ap, ◌∙◌, arith}
use Rattle.measures.specs.Laws.{Laws, longest}
use Rattle.std.specs.Option.{option_and_then}
use Rattle.measures.specs.Rows.{row_value}
use Rattle.measures.specs.declared.step.Step.{Step}
use Rattle.measures.specs.Operations.{Operations}
use Rattle.std.proofs.lemmas.Option.{same_Some}
use Rattle.measures.specs.OptionLemmas.{and_then_some, and_then_parts}
use Rattle.measures.proofs.Rows as rows
use Rattle.charts.specs.declared.lead.Lead.{Lead}
use Rattle.courses.specs.Courses.{Exits, Course, ends, Leads, steps_along, value_of}

-- a walk that goes on from where another ends
pub ends_append : (x : Exits) (p : ℕ) (a b : Course) → ends x p (a ++ b) ≡ option_and_then (λ q. ends x q b) (ends x p a)
ends_append x p [] b = refl
ends_append x p (e ∷ a) b = go (x p e) (λ l. ends_append x l.to a b)
  where
    go : (o : Option Lead) → ((l : Lead) → ends x l.to (a ++ b) ≡ option_and_then (λ q. ends x q b) (ends x l.to a)) → option_and_then (λ l. ends x l.to (a ++ b)) o ≡ option_and_then (λ q. ends x q b) (option_and_then (λ l. ends x l.to a) o)
    go None h = refl
    go (Some l) h = h l

pub leads_append : (x : Exits) (p q r : ℕ) (a b : Course) → Leads x p q a → Leads x q r b → Leads x p r (a ++ b)
leads_append x p q r a b h k = ends_append x p a b ∙ and_then_some _ q _ h ∙ k

pub leads_split : (x : Exits) (p r : ℕ) (a b : Course) → Leads x p r (a ++ b) → (q : ℕ) × Leads x p q a × Leads x q r b
leads_split x p r a b h = and_then_parts (ends x p a) (λ q. ends x q b) r (sym (ends_append x p a b) ∙ h)

-- the first step of a course
pub first_exit : (x : Exits) (p t e : ℕ) (a : Course) → Leads x p t (e ∷ a) → (l : Lead) × (x p e ≡ Some l) × Leads x l.to t a
first_exit x p t e a h = and_then_parts (x p e) (λ l. ends x l.to a) t h

pub leads_first : (x : Exits) (p t e : ℕ) (a : Course) (l : Lead) → x p e ≡ Some l → Leads x l.to t a → Leads x p t (e ∷ a)
leads_first x p t e a l h k = and_then_some _ l _ h ∙ k

-- where a course goes on behind its first step
pub leads_rest : (x : Exits) (p t e : ℕ) (a : Course) (l : Lead) → x p e ≡ Some l → Leads x p t (e ∷ a) → Leads x l.to t a
leads_rest x p t e a l h k = sym (and_then_some (x p e) l (λ u. ends x u.to a) h) ∙ k

pub steps_first : (x : Exits) (p e : ℕ) (a : Course) (l : Lead) → x p e ≡ Some l → steps_along x p (e ∷ a) ≡ l.step ∷ steps_along x l.to a
steps_first x p e a l h = ap (λ (o : Option Lead). elim o as (λ _. List Step) [ None ↦ [] | Some k ↦ k.step ∷ steps_along x k.to a ]) h

pub steps_append : (x : Exits) (p q : ℕ) (a b : Course) → Leads x p q a → steps_along x p (a ++ b) ≡ steps_along x p a ++ steps_along x q b
steps_append x p q [] b h = ap (λ r. steps_along x r b) (same_Some p q h)
steps_append x p q (e ∷ a) b h =
    let f = first_exit x p q e a h in
    steps_first x p e (a ++ b) f.0 f.1 ∙ ap (λ ss. f.0.step ∷ ss) (steps_append x f.0.to q a b f.2) ∙ sym (ap (λ ss. ss ++ steps_along x q b) (steps_first x p e a f.0 f.1))

-- a walk has a step for each exit
pub length_along : (x : Exits) (p q : ℕ) (a : Course) → Leads x p q a → length (steps_along x p a) ≡ length a
length_along x p q [] h = refl
length_along x p q (e ∷ a) h =
    let f = first_exit x p q e a h in
    ap length (steps_first x p e a f.0 f.1) ∙ ap suc (length_along x f.0.to q a f.2)

module _ {V : Type 0} {m : Operations V} (laws : Laws m) (x : Exits) where
  -- a walk of at most so many steps has a value
  pub value_exists : (p q : ℕ) (a : Course) → Leads x p q a → length a ≤ longest → (v : V) × (value_of m x p a ≡ Some v)
  value_exists p q a h k = rows.rows_exist laws (steps_along x p a) (omega (arith, length_along x p q a h))

  -- the values of two walks join to the value of the one behind the other
  pub value_append : (p q r : ℕ) (a b : Course) (u v : V) → Leads x p q a → Leads x q r b → length a + length b ≤ longest → value_of m x p a ≡ Some u → value_of m x q b ≡ Some v → m.joined u v ≡ value_of m x p (a ++ b)
  value_append p q r a b u v h k n eu ev =
      rows.rows_join laws (steps_along x p a) (steps_along x q b) u v (omega (arith, length_along x p q a h, length_along x q r b k)) eu ev ∙ ap (row_value m) (sym (steps_append x p q a b h))
