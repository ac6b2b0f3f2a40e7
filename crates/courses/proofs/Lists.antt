-- Lists of first courses: fronts of them, and two of them beside each other.
use Rattle.std.proofs.Common.{◌≡◌, ℕ, zero, suc, ◌<◌, ◌≤◌, List, [], length, get_or, take, sym, ap, ◌∙◌, subst, ⊎_elim, arith}
use mathlib.Core.Path.{fun_ext}
use Rattle.std.proofs.lemmas.List.{get_or-take, length-take-le}
use Rattle.std.proofs.lemmas.Bool.{cases_lt, cases_order}
use Rattle.measures.specs.Laws.{Laws}
use Rattle.measures.specs.Operations.{Operations}
use Rattle.charts.specs.Meaning.{Meaning, SameExits}
use Rattle.courses.specs.Courses.{Exits, Course, Leads, Before, Listed, FirstCourses}
use Rattle.courses.specs.Theorems.{ListsAgree}
use Rattle.courses.proofs.Order.{before_never, before_not_both, before_either}
use Rattle.courses.proofs.Same.{listed_or_not}

module _ {V : Type 0} {m : Operations V} (laws : Laws m) (x : Exits) (s t : ℕ) where
  -- a course that stands before a course of the list is in the list, at a lower place
  pub earlier : (ds : List Course) → FirstCourses m x s t ds → (k : ℕ) → k < length ds → (a : Course) → Leads x s t a → Before m x s a (get_or ds k []) → (j : ℕ) × (j < k) × (get_or ds j [] ≡ a)
  earlier ds first k h a leads before =
      ⊎_elim
      (λ (l : Listed a ds).
      ⊎_elim
      (λ (same : l.0 ≡ k). absurd (before_never laws x s a (subst (Before m x s a) (ap (λ i. get_or ds i []) (sym same) ∙ l.2) before)))
      (⊎_elim
      (λ (low : l.0 < k). (l.0, low, l.2))
      (λ (high : k < l.0). absurd (before_not_both laws x s a (get_or ds k []) before (subst (Before m x s (get_or ds k [])) l.2 (first.in_order k l.0 high l.1)))))
      (cases_order l.0 k))
      (λ (l : Listed a ds → ⊥). absurd (before_not_both laws x s a (get_or ds k []) before (first.rest_after a leads l k h)))
      (listed_or_not a ds)

  -- the courses of a list are different
  pub apart : (ds : List Course) → FirstCourses m x s t ds → (i k : ℕ) → i < k → k < length ds → get_or ds i [] ≡ get_or ds k [] → ⊥
  apart ds first i k h n same = before_never laws x s (get_or ds k []) (subst (λ a. Before m x s a (get_or ds k [])) same (first.in_order i k h n))

  -- a front of a list of first courses is one
  pub front_first : (ds : List Course) → FirstCourses m x s t ds → (n : ℕ) → n ≤ length ds → FirstCourses m x s t (take n ds)
  front_first ds first n h =
      let size = length-take-le n ds h in
      record {
        courses = λ k l. subst (Leads x s t) (sym (get_or-take n ds k [] (omega arith))) (first.courses k (omega arith));
        in_order = λ i k l o. subst (λ a. Before m x s a (get_or (take n ds) k [])) (sym (get_or-take n ds i [] (omega arith))) (subst (Before m x s (get_or ds i [])) (sym (get_or-take n ds k [] (omega arith))) (first.in_order i k l (omega arith)));
        rest_after = λ a leads absent k l. subst (λ b. Before m x s b a) (sym (get_or-take n ds k [] (omega arith))) (rest a leads absent k (omega arith));
      }
    where
      rest : (a : Course) → Leads x s t a → (Listed a (take n ds) → ⊥) → (k : ℕ) → k < n → Before m x s (get_or ds k []) a
      rest a leads absent k l =
          ⊎_elim
          (λ (there : Listed a ds).
          ⊎_elim
          (λ (low : there.0 < n). absurd (absent (there.0, omega (arith, length-take-le n ds h), get_or-take n ds there.0 [] low ∙ there.2)))
          (λ (high : n ≤ there.0). subst (Before m x s (get_or ds k [])) there.2 (first.in_order k there.0 (omega arith) there.1))
          (cases_lt there.0 n))
          (λ (none : Listed a ds → ⊥). first.rest_after a leads none k (omega arith))
          (listed_or_not a ds)

  -- where two lists agree below k, neither has an earlier course at k
  not_earlier : (ds es : List Course) → FirstCourses m x s t ds → FirstCourses m x s t es → (k : ℕ) → k < length ds → k < length es → ((j : ℕ) → j < k → get_or ds j [] ≡ get_or es j []) → Before m x s (get_or ds k []) (get_or es k []) → ⊥
  not_earlier ds es fd fe k hd he same before =
      let there = earlier es fe k he (get_or ds k []) (fd.courses k hd) before in
      apart ds fd there.0 k there.1 hd (same there.0 there.1 ∙ there.2)

  agree_at : (ds es : List Course) → FirstCourses m x s t ds → FirstCourses m x s t es → (k : ℕ) → k < length ds → k < length es → ((j : ℕ) → j < k → get_or ds j [] ≡ get_or es j []) → get_or ds k [] ≡ get_or es k []
  agree_at ds es fd fe k hd he same =
      ⊎_elim
      (λ (e : get_or ds k [] ≡ get_or es k []). e)
      (⊎_elim
      (λ (b : Before m x s (get_or ds k []) (get_or es k [])). absurd (not_earlier ds es fd fe k hd he same b))
      (λ (b : Before m x s (get_or es k []) (get_or ds k [])). absurd (not_earlier es ds fe fd k he hd (λ j l. sym (same j l)) b)))
      (before_either laws x s (get_or ds k []) (get_or es k []))

  agree_below : (ds es : List Course) → FirstCourses m x s t ds → FirstCourses m x s t es → (k : ℕ) → k ≤ length ds → k ≤ length es → (j : ℕ) → j < k → get_or ds j [] ≡ get_or es j []
  agree_below ds es fd fe zero hd he j l = absurd (omega arith)
  agree_below ds es fd fe (suc k) hd he j l =
      let below = agree_below ds es fd fe k (omega arith) (omega arith) in
      ⊎_elim (λ (low : j < k). below j low) (λ (high : k ≤ j). let same : j ≡ k = omega arith in subst (λ i. get_or ds i [] ≡ get_or es i []) (sym same) (agree_at ds es fd fe k (omega arith) (omega arith) below)) (cases_lt j k)

  pub firsts_agree : (ds es : List Course) → FirstCourses m x s t ds → FirstCourses m x s t es → (k : ℕ) → k < length ds → k < length es → get_or ds k [] ≡ get_or es k []
  firsts_agree ds es fd fe k hd he = agree_below ds es fd fe (suc k) (omega arith) (omega arith) k (omega arith)

pub lists_agree : {V : Type 0} {m : Operations V} → Laws m → (c d : Meaning) → SameExits c d → ListsAgree m c.exit d.exit
lists_agree {m} laws c d same s t ds es fd fe k hd he =
    let exits : c.exit ≡ d.exit = fun_ext (λ p. fun_ext (λ e. same p e)) in
    firsts_agree laws d.exit s t ds es (subst (λ x. FirstCourses m x s t ds) exits fd) fe k hd he
