-- What the laws of a measure give of rows of steps.
use Rattle.std.proofs.Common.{◌≡◌, ℕ, ◌+◌, ◌<◌, ◌≤◌, true, List, [], ◌∷◌, ◌++◌, length, get_or, drop, Some, Option, sym, refl, ap, ◌∙◌, ⊎_elim, arith, length-append}
use Rattle.std.proofs.lemmas.List.{at_drop_more}
use Rattle.std.proofs.lemmas.Bool.{cases_Bool}
use Rattle.measures.specs.declared.step.Step.{Step}
use Rattle.measures.specs.Bracketing.{Bracketing, one, both, count, steps, evaluated}
use Rattle.measures.specs.Laws.{Laws, longest}
use Rattle.measures.specs.Operations.{Operations}
use Rattle.measures.specs.Rows.{row_from, row_value, RowsExist, RowsJoin, OneValue, FrontsKeep, EndsKeep, NothingLeast, JoinsGrow}
use Rattle.std.specs.Option.{option_and_then}
use Rattle.std.proofs.lemmas.Option.{same_Some}
use Rattle.measures.specs.OptionLemmas.{and_then_some, and_then_parts}

-- the steps of a row, joined one by one behind a bracketing
abbrev behind : Bracketing → List Step → Bracketing
behind t [] = t
behind t (s ∷ ss) = behind (both t (one s)) ss

count_behind : (t : Bracketing) (ss : List Step) → count (behind t ss) ≡ count t + length ss
count_behind t [] = omega arith
count_behind t (s ∷ ss) = count_behind (both t (one s)) ss ∙ omega arith

length_steps : (t : Bracketing) → length (steps t) ≡ count t
length_steps (one s) = refl
length_steps (both l r) = omega (arith, length-append (steps l) (steps r), length_steps l, length_steps r)

-- one step more of a row that is read from the front
pub row_more : {V : Type 0} (m : Operations V) (ss : List Step) (i : ℕ) (s : Step) (v : V) → i < length ss → s ≡ get_or ss i s → row_from m v (drop i ss) ≡ option_and_then (λ w. row_from m w (drop (i + 1) ss)) (m.joined v (m.step_value s))
row_more m ss i s v within read =
    at_drop_more (row_from m v) ss i s within ∙ ap (λ t. option_and_then (λ w. row_from m w (drop (i + 1) ss)) (m.joined v (m.step_value t))) (sym read)

module _ {V : Type 0} {m : Operations V} (laws : Laws m) where
  abbrev value : List Step → Option V
  value ss = row_value m ss

  abbrev from : V → List Step → Option V
  from v ss = row_from m v ss

  abbrev eval : Bracketing → Option V
  eval t = evaluated m t

  -- two bracketings with values come to the join of these
  eval_both : (l r : Bracketing) (a b : V) → eval l ≡ Some a → eval r ≡ Some b → eval (both l r) ≡ m.joined a b
  eval_both l r a b p q = and_then_some _ a _ p ∙ and_then_some _ b _ q

  -- a row's value starts with its first step
  pub first_step : (s : Step) (ss : List Step) → value (s ∷ ss) ≡ from (m.step_value s) ss
  first_step s ss = and_then_some _ (m.step_value s) _ (laws.nothing_first (m.step_value s))

  -- a row behind another goes on from where that came to
  pub from_append : (ps qs : List Step) (v w : V) → from v ps ≡ Some w → from v (ps ++ qs) ≡ from w qs
  from_append [] qs v w e = ap (λ u. from u qs) (same_Some v w e)
  from_append (s ∷ ps) qs v w e =
      let c = and_then_parts (m.joined v (m.step_value s)) (λ u. from u ps) w e in
      and_then_some _ c.0 _ c.1 ∙ from_append ps qs c.0 w c.2

  -- joined one by one, a row is a bracketing
  from_behind : (ss : List Step) (t : Bracketing) (v : V) → eval t ≡ Some v → count t + length ss ≤ longest → from v ss ≡ eval (behind t ss)
  from_behind [] t v e h = sym e
  from_behind (s ∷ ss) t v e h =
      let l = laws.long_joins (both t (one s)) (omega arith) in
      let j : m.joined v (m.step_value s) ≡ Some l.0 = sym (eval_both t (one s) v (m.step_value s) e refl) ∙ l.1 in
      and_then_some _ l.0 _ j ∙ from_behind ss (both t (one s)) l.0 l.1 (omega arith)

  row_behind : (s : Step) (ss : List Step) → length (s ∷ ss) ≤ longest → value (s ∷ ss) ≡ eval (behind (one s) ss)
  row_behind s ss h = first_step s ss ∙ from_behind ss (one s) (m.step_value s) refl (omega arith)

  pub rows_exist : RowsExist m
  rows_exist [] h = (m.nothing, refl)
  rows_exist (s ∷ ss) h =
      let l = laws.long_joins (behind (one s) ss) (omega (arith, count_behind (one s) ss)) in
      (l.0, row_behind s ss h ∙ l.1)

  pub joins_exist : (ps qs : List Step) (a b : V) → length ps + length qs ≤ longest → value ps ≡ Some a → value qs ≡ Some b → (u : V) × (m.joined a b ≡ Some u)
  joins_exist [] qs a b h p q = (b, ap (λ x. m.joined x b) (sym (same_Some m.nothing a p)) ∙ laws.nothing_first b)
  joins_exist (s ∷ ps) [] a b h p q = (a, ap (λ x. m.joined a x) (sym (same_Some m.nothing b q)) ∙ laws.nothing_last a)
  joins_exist (s ∷ ps) (t ∷ qs) a b h p q =
      let l = laws.long_joins (both (behind (one s) ps) (behind (one t) qs)) (omega (arith, count_behind (one s) ps, count_behind (one t) qs)) in
      (l.0, sym (eval_both (behind (one s) ps) (behind (one t) qs) a b (sym (row_behind s ps (omega arith)) ∙ p) (sym (row_behind t qs (omega arith)) ∙ q)) ∙ l.1)

  from_joins : (qs ps : List Step) (a b : V) → length ps + length qs ≤ longest → value ps ≡ Some a → value qs ≡ Some b → from a qs ≡ m.joined a b
  from_joins [] ps a b h p q = sym (laws.nothing_last a) ∙ ap (λ x. m.joined a x) (same_Some m.nothing b q)
  from_joins (s ∷ qs) ps a b h p q =
      let sv = m.step_value s in
      let alone = first_step s [] in
      let w = joins_exist ps (s ∷ []) a sv (omega arith) p alone in
      let longer : value (ps ++ s ∷ []) ≡ Some w.0 = from_append ps (s ∷ []) m.nothing a p ∙ and_then_some _ w.0 _ w.1 in
      let c = rows_exist qs (omega arith) in
      let right = from_joins qs (s ∷ []) sv c.0 (omega arith) alone c.1 in
      let size = length-append ps (s ∷ []) in
      let x = joins_exist (ps ++ s ∷ []) qs w.0 c.0 (omega arith) longer c.1 in
      let y = joins_exist ps (s ∷ qs) a b h p q in
      let same = laws.regroups a sv c.0 w.0 b x.0 y.0 w.1 (sym right ∙ sym (first_step s qs) ∙ q) x.1 y.1 in
      and_then_some _ w.0 _ w.1 ∙ from_joins qs (ps ++ s ∷ []) w.0 c.0 (omega arith) longer c.1 ∙ x.1 ∙ ap Some same ∙ sym y.1

  pub rows_join : RowsJoin m
  rows_join ps qs a b h p q = sym (from_append ps qs m.nothing a p ∙ from_joins qs ps a b h p q)

  pub one_value : OneValue m
  one_value (one s) h = sym (first_step s [])
  one_value (both l r) h =
      let nl = length_steps l in
      let nr = length_steps r in
      let a = rows_exist (steps l) (omega arith) in
      let b = rows_exist (steps r) (omega arith) in
      eval_both l r a.0 b.0 (one_value l (omega arith) ∙ a.1) (one_value r (omega arith) ∙ b.1) ∙ rows_join (steps l) (steps r) a.0 b.0 (omega arith) a.1 b.1

  pub fronts_keep : FrontsKeep m
  fronts_keep ps qs rs a b x y h k p q less ex ey =
      let c = rows_exist rs (omega arith) in
      laws.front_keeps a b c.0 x y less (rows_join rs ps c.0 a h c.1 p ∙ ex) (rows_join rs qs c.0 b k c.1 q ∙ ey)

  pub ends_keep : EndsKeep m
  ends_keep ps qs rs a b x y h k p q less ex ey =
      let c = rows_exist rs (omega arith) in
      laws.end_keeps a b c.0 x y less (rows_join ps rs a c.0 h p c.1 ∙ ex) (rows_join qs rs b c.0 k q c.1 ∙ ey)

  pub nothing_least : NothingLeast m
  nothing_least ps a e = laws.nothing_least a

  pub at_most_itself : (a : V) → m.at_most a a ≡ true
  at_most_itself a = ⊎_elim (λ h. h) (λ h. laws.either a a h) (cases_Bool (m.at_most a a))

  pub joins_grow : JoinsGrow m
  joins_grow a b x e =
      ⊎_elim
      (λ h.
      let none : m.nothing ≡ b = laws.equal m.nothing b (laws.nothing_least b) h in
      let same : a ≡ x = same_Some a x (sym (laws.nothing_last a) ∙ ap (λ u. m.joined a u) none ∙ e) in
      ap (m.at_most a) (sym same) ∙ at_most_itself a)
      (λ h. laws.either x a (laws.front_keeps m.nothing b a a x h (laws.nothing_last a) e))
      (cases_Bool (m.at_most b m.nothing))

  -- a row only adds to what stands before it
  pub rows_grow : (ss : List Step) (v w : V) → from v ss ≡ Some w → m.at_most v w ≡ true
  rows_grow [] v w h = ap (m.at_most v) (sym (same_Some v w h)) ∙ at_most_itself v
  rows_grow (s ∷ ss) v w h =
      let c = and_then_parts (m.joined v (m.step_value s)) (λ u. from u ss) w h in
      laws.carries v c.0 w (joins_grow v (m.step_value s) c.0 c.1) (rows_grow ss c.0 w c.2)
