-- The worked cases of charts smaller than the hub, and all of them together.
use Rattle.std.proofs.Common.{zero, suc, [], ◌∷◌, refl, inl, inr, arith}
use Rattle.measures.specs.Values.{dwell}
use Rattle.std.proofs.lemmas.Option.{same_Some, none-some}
use Rattle.measures.specs.ValuesLemmas.{dwell_laws, faults_first_laws}
use Rattle.courses.specs.Courses.{Course, Leads, Listed}
use Rattle.cases.specs.Cases.{chart, hub, hub_locked, pair, loop, WorkedCases}
use Rattle.cases.proofs.Sorted.{Placed, Sorted, before_longer, firsts}
use Rattle.cases.proofs.HubCases.{by_dwell, by_faults, by_dwell_locked}
use Rattle.cases.proofs.HubChains.{chain_by_dwell, chain_by_faults}
use Rattle.cases.proofs.OfferCases.{dead_end, offers_listed}

-- two equal exits
no_third : (a : Course) → Leads pair 0 1 a → Listed a ((0 ∷ []) ∷ (1 ∷ []) ∷ [])
no_third [] h = absurd (omega (arith, same_Some 0 1 h))
no_third (zero ∷ []) h = (0, omega arith, refl)
no_third (zero ∷ e ∷ a) h = absurd (none-some 1 h)
no_third (suc zero ∷ []) h = (1, omega arith, refl)
no_third (suc zero ∷ e ∷ a) h = absurd (none-some 1 h)
no_third (suc (suc f) ∷ a) h = absurd (none-some 1 h)

pair_sorted : Sorted dwell pair 0 1 (0 ∷ []) ((1 ∷ []) ∷ [])
pair_sorted = record { leads = (refl, (refl, tt)); rising = (inr (refl, inr (refl, inl (omega arith))), tt); rest = λ a h. inl (no_third a h) }

-- the start is watched, and no exit is open
no_second : (a : Course) → Leads (chart ([] ∷ [])) 0 0 a → Listed a ([] ∷ [])
no_second [] h = (0, omega arith, refl)
no_second (e ∷ a) h = absurd (none-some 0 h)

lone_sorted : Sorted dwell (chart ([] ∷ [])) 0 0 [] []
lone_sorted = record { leads = (refl, tt); rising = tt; rest = λ a h. inl (no_second a h) }

-- an exit to itself that dwells no time
loop_placed : (a : Course) → Leads loop 0 0 a → Placed dwell loop 0 [] ((0 ∷ []) ∷ (0 ∷ 0 ∷ []) ∷ []) a
loop_placed [] h = inl (0, omega arith, refl)
loop_placed (suc e ∷ a) h = absurd (none-some 0 h)
loop_placed (zero ∷ []) h = inl (1, omega arith, refl)
loop_placed (zero ∷ suc e ∷ a) h = absurd (none-some 0 h)
loop_placed (zero ∷ zero ∷ []) h = inl (2, omega arith, refl)
loop_placed (zero ∷ zero ∷ e ∷ a) h = inr (before_longer dwell_laws loop 0 (0 ∷ 0 ∷ []) (0 ∷ 0 ∷ []) (e ∷ a) refl refl refl refl (omega arith))

loop_sorted : Sorted dwell loop 0 0 [] ((0 ∷ []) ∷ (0 ∷ 0 ∷ []) ∷ [])
loop_sorted = record {
  leads = (refl, (refl, (refl, tt)));
  rising = (before_longer dwell_laws loop 0 [] (0 ∷ []) [] refl refl refl refl (omega arith), (before_longer dwell_laws loop 0 (0 ∷ []) (0 ∷ 0 ∷ []) [] refl refl refl refl (omega arith), tt));
  rest = loop_placed;
}

out_of_reach : (a : Course) → Leads (chart ([] ∷ [] ∷ [])) 0 1 a → ⊥
out_of_reach [] h = omega (arith, same_Some 0 1 h)
out_of_reach (e ∷ a) h = none-some 1 h

pub worked_cases : WorkedCases
worked_cases = record {
  by_dwell = record { first = firsts dwell_laws hub 0 2 _ _ by_dwell; values = refl };
  by_faults = record { first = firsts faults_first_laws hub 0 2 _ _ by_faults; values = refl };
  locked_way = record { first = firsts dwell_laws hub_locked 0 2 _ _ by_dwell_locked; values = refl };
  chain_by_dwell = chain_by_dwell;
  chain_by_faults = chain_by_faults;
  modes_met = refl;
  dead_end = dead_end;
  offers_listed = offers_listed;
  equal_exits = record { first = firsts dwell_laws pair 0 1 _ _ pair_sorted; values = refl };
  no_third = no_third;
  start_watched = record { first = firsts dwell_laws (chart ([] ∷ [])) 0 0 _ _ lone_sorted; values = refl };
  no_second = no_second;
  idle_loop = record { first = firsts dwell_laws loop 0 0 _ _ loop_sorted; values = refl };
  out_of_reach = out_of_reach;
}
