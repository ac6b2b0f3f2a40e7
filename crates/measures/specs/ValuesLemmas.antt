-- The laws of dwell and of faults-first.
use Rattle.std.specs.Prelude.{◌≡◌, ℕ, ◌+◌, ◌<◌, ◌≤◌, Bool, true, false, ◌⊎◌, Some, nat_le, refl}
use Rattle.std.proofs.Common.{sym, ap, ◌∙◌, arith}
use Rattle.std.proofs.lemmas.Bool.{leb-true, leb-false, le-leb, lt-leb}
use Rattle.std.proofs.lemmas.Bool.Decides.{nat_tests}
use Rattle.measures.specs.declared.faults_first.FaultsFirst.{FaultsFirst}
use Rattle.measures.specs.Bracketing.{Bracketing, one, both, count, evaluated}
use Rattle.measures.specs.Laws.{Laws, longest}
use Rattle.measures.specs.Sums.{added}
use Rattle.measures.specs.Values.{step_ms, dwell, no_faults, faults_first_step, faults_first_joined, faults_first_at_most, faults_first}
use Rattle.std.proofs.lemmas.Option.{same_Some}
use Rattle.measures.specs.OptionLemmas.{and_then_some, and_then_parts}
use Rattle.measures.specs.SumsLemmas.{added_is, added_fits, total, Small, total_fits, sums_exist}

small_ms : Small step_ms
small_ms s = omega (arith, s.short)

small_faults : Small (λ s. s.faults)
small_faults s = omega (arith, s.few)

pub dwell_laws : Laws dwell
dwell_laws = record {
  either = λ a b h. le-leb b a (omega (arith, leb-false a b h));
  equal = λ a b h k. omega (arith, leb-true a b h, leb-true b a k);
  carries = λ a b c h k. le-leb a c (omega (arith, leb-true a b h, leb-true b c k));
  regroups = λ a b c ab bc x y e f g h. omega (arith, added_is a b ab e, added_is b c bc f, added_is ab c x g, added_is a bc y h);
  nothing_first = λ a. added_fits 0 a (omega arith) ∙ ap Some (omega arith);
  nothing_last = λ a. added_fits a 0 (omega arith) ∙ ap Some (omega arith);
  nothing_least = λ a. le-leb 0 a (omega arith);
  front_keeps = λ a b c x y less e f. lt-leb y x (omega (arith, leb-false b a less, added_is c a x e, added_is c b y f));
  end_keeps = λ a b c x y less e f. lt-leb y x (omega (arith, leb-false b a less, added_is a c x e, added_is b c y f));
  long_joins = λ t h. (total step_ms t, sums_exist 0 nat_le step_ms small_ms t h);
}

-- a ranks before b, or is equal to it
abbrev Ranks : FaultsFirst → FaultsFirst → Type 0
Ranks a b = (a.faults < b.faults) ⊎ ((a.faults ≡ b.faults) × (a.ms ≤ b.ms))

ranks : (a b : FaultsFirst) → faults_first_at_most a b ≡ true → Ranks a b
ranks a b h = grind (arith, nat_tests)

ranks_not : (a b : FaultsFirst) → faults_first_at_most a b ≡ false → (b.faults < a.faults) ⊎ ((a.faults ≡ b.faults) × (b.ms < a.ms))
ranks_not a b h = grind (arith, nat_tests)

ranks_at_most : (a b : FaultsFirst) → Ranks a b → faults_first_at_most a b ≡ true
ranks_at_most a b h = grind (arith, nat_tests)

below : (a b : FaultsFirst) → (a.faults < b.faults) ⊎ ((a.faults ≡ b.faults) × (a.ms < b.ms)) → faults_first_at_most b a ≡ false
below a b h = grind (arith, nat_tests)

-- a join that exists is both sums
joined_is : (a b x : FaultsFirst) → faults_first_joined a b ≡ Some x → (x.faults ≡ a.faults + b.faults) × (x.ms ≡ a.ms + b.ms)
joined_is a b x e =
    let p = and_then_parts (added a.faults b.faults) _ x e in
    let q = and_then_parts (added a.ms b.ms) _ x p.2 in
    let same = same_Some _ x q.2 in
    (sym (ap (λ (v : FaultsFirst). v.faults) same) ∙ added_is _ _ p.0 p.1, sym (ap (λ (v : FaultsFirst). v.ms) same) ∙ added_is _ _ q.0 q.1)

-- both sums exist, so the join does
joined_sums : (a b : FaultsFirst) (f t : ℕ) → added a.faults b.faults ≡ Some f → added a.ms b.ms ≡ Some t → faults_first_joined a b ≡ Some (record { faults = f; ms = t })
joined_sums a b f t p q = and_then_some _ f _ p ∙ and_then_some _ t _ q

same_value : (a b : FaultsFirst) → a.faults ≡ b.faults → a.ms ≡ b.ms → a ≡ b
same_value a b p q = λ i. record { faults = p i; ms = q i }

abbrev both_totals : Bracketing → FaultsFirst
both_totals t = record { faults = total (λ s. s.faults) t; ms = total step_ms t }

-- a long join exists, whatever the value of nothing and the order
joins_exist : (n : FaultsFirst) (o : FaultsFirst → FaultsFirst → Bool) (t : Bracketing) → count t ≤ longest → evaluated (record { nothing = n; step_value = faults_first_step; joined = faults_first_joined; at_most = o }) t ≡ Some (both_totals t)
joins_exist n o (one s) h = refl
joins_exist n o (both l r) h =
    and_then_some _ (both_totals l) _ (joins_exist n o l (omega arith)) ∙ and_then_some _ (both_totals r) _ (joins_exist n o r (omega arith)) ∙ joined_sums (both_totals l) (both_totals r) _ _ (total_fits (λ s. s.faults) small_faults l r h) (total_fits step_ms small_ms l r h)

pub faults_first_laws : Laws faults_first
faults_first_laws = record {
  either = λ a b h. ranks_at_most b a (grind (arith, ranks_not a b h));
  equal = λ a b h k. let p = ranks a b h in let q = ranks b a k in same_value a b (omega arith) (omega arith);
  carries = λ a b c h k. let p = ranks a b h in let q = ranks b c k in ranks_at_most a c (grind arith);
  regroups = λ a b c ab bc x y e f g h.
      let p = joined_is a b ab e in
      let q = joined_is b c bc f in
      let r = joined_is ab c x g in
      let s = joined_is a bc y h in
      same_value x y (omega arith) (omega arith);
  nothing_first = λ a. joined_sums no_faults a _ _ (added_fits 0 a.faults (omega arith)) (added_fits 0 a.ms (omega arith)) ∙ ap Some (same_value _ a (omega arith) (omega arith));
  nothing_last = λ a. joined_sums a no_faults _ _ (added_fits a.faults 0 (omega arith)) (added_fits a.ms 0 (omega arith)) ∙ ap Some (same_value _ a (omega arith) (omega arith));
  nothing_least = λ a. ranks_at_most no_faults a (grind (arith, nat_tests));
  front_keeps = λ a b c x y less e f.
      let l = ranks_not b a less in
      let p = joined_is c a x e in
      let q = joined_is c b y f in
      below x y (grind arith);
  end_keeps = λ a b c x y less e f.
      let l = ranks_not b a less in
      let p = joined_is a c x e in
      let q = joined_is b c y f in
      below x y (grind arith);
  long_joins = λ t h. (both_totals t, joins_exist no_faults faults_first_at_most t h);
}
