-- What is known of a content that is within the ranges.
use Rattle.std.proofs.Common.{◌≡◌, ℕ, ◌+◌, ◌≤◌, List, [], map, length, IfOk, IfErr, None, Ok, Err, vec_items, string_bytes, Result, ap, ◌∙◌, subst, arith, MatchResult}
use Rattle.std.specs.List.Sorted.{IsNonDecreasingBy}
use Rattle.std.proofs.lemmas.List.{length-map}
use Rattle.charts.specs.declared.locks.Lock.{Lock}
use Rattle.charts.specs.declared.table.TableChart.{TableChart}
use Rattle.charts.specs.LockMeaning.{locks_of, lock_meaning}
use Rattle.charts.specs.Tables.{table_meaning, AnswerOfTable}
use Rattle.reader.specs.declared.content.Content.{Content}
use Rattle.reader.specs.declared.content.ExitLine.{ExitLine}
use Rattle.reader.specs.declared.content.LockLine.{LockLine}
use Rattle.reader.specs.declared.fault.DeclinedLock.{DeclinedLock}
use Rattle.reader.specs.declared.fault.LoadFault.{LoadFault}
use Rattle.reader.specs.declared.fault.LoadFault.TheVariants as loading
use Rattle.reader.specs.declared.fault.ReadFault.{ReadFault}
use Rattle.reader.specs.declared.fault.ReadFault.TheVariants.{Slip, NoMemory}
use Rattle.reader.specs.declared.loaded.Loaded.{Loaded}
use Rattle.reader.specs.Faults.{Refusing, passed_on}
use Rattle.reader.specs.File.{told, InRanges, RefusedAs}
use Rattle.reader.specs.Layout.{offsets_of, lead_of, set_all, AllSet, Declined, table_means}
use Rattle.reader.specs.Loading.{Says, mode_count, exit_count, lock_count, SoundExits, open_chart, LoadedFrom, BadLock, Unloadable, NotLoaded, TableLaid}
use Rattle.reader.specs.Rows.{exit_told, lock_told}
use Rattle.reader.proofs.Layouts.{fine_rising}

pub record Bounds (c : Content) : Type 0 where
  pub modes : mode_count c ≤ 64
  pub exits : exit_count c ≤ 512
  pub locks : lock_count c ≤ 32
  pub rising : IsNonDecreasingBy (λ x. x.from) (vec_items c.exits)

pub bounds : (c : Content) → InRanges (told c) → Bounds c
bounds c h =
    let m : length (map string_bytes (vec_items c.names)) ≡ mode_count c = length-map (vec_items c.names) string_bytes in
    let few = h.1.names.1 in
    record {
      modes = omega arith;
      exits = omega (arith, h.1.exits.1, length-map (vec_items c.exits) exit_told);
      locks = omega (arith, h.1.locks.1, length-map (vec_items c.locks) lock_told);
      rising = fine_rising _ _ h.1.exits.2;
    }

-- what is in hand once the table of a content is laid out: its counts and lines, and the table
pub record Laid (c : Content) (modes exit_lines : ℕ) (exits : List ExitLine) (locks : List LockLine) (t : TableChart) : Type 0 where
  pub modes_are : modes ≡ mode_count c
  pub exits_are : exit_lines ≡ exit_count c
  pub exits_same : exits ≡ vec_items c.exits
  pub locks_same : locks ≡ vec_items c.locks
  pub table : TableLaid modes exits (Ok t)

module _ {c : Content} {modes exit_lines : ℕ} {exits : List ExitLine} {locks : List LockLine} {t : TableChart} (laid : Laid c modes exit_lines exits locks t) where
  sound_laid : SoundExits c
  sound_laid =
      subst (λ xs. AnswerOfTable (offsets_of (mode_count c) xs) (map lead_of xs) None) laid.exits_same
      (subst (λ n. AnswerOfTable (offsets_of n exits) (map lead_of exits) None) laid.modes_are laid.table.0)

  means_laid : table_means t ≡ open_chart c
  means_laid =
      (λ i. table_meaning (laid.table.1 i) (laid.table.2 i))
      ∙ (λ i. table_meaning (offsets_of (laid.modes_are i) (laid.exits_same i)) (map lead_of (laid.exits_same i)))

  pub bad_lock : (below : TableChart) (held : List Lock) (d : DeclinedLock) (at : ℕ) → below ≡ t → held ≡ [] → Declined (table_means below) held locks d.lock d.fault → at ≡ modes + exit_lines + 4 + d.lock → BadLock c d at
  bad_lock below held d at b h declined line =
      let m = ap table_means b ∙ means_laid in
      let at_open = subst (λ n. Declined n held locks d.lock d.fault) m declined in
      let at_none = subst (λ ls. Declined (open_chart c) ls locks d.lock d.fault) h at_open in
      let em = laid.modes_are in
      let ee = laid.exits_are in
      (sound_laid, subst (λ ls. Declined (open_chart c) [] ls d.lock d.fault) laid.locks_same at_none, omega arith)

  pub good_load : (below : TableChart) (held : List Lock) (l : Loaded) → below ≡ t → held ≡ [] → AllSet (table_means below) held locks → l.chart.below ≡ below → locks_of l.chart ≡ set_all held locks → l.names ≡ c.names → l.questions ≡ c.questions → l.exit_lines ≡ exit_lines → l.lock_lines ≡ length locks → LoadedFrom c l
  good_load below held l b h all same set names questions es ls =
      let m = ap table_means b ∙ means_laid in
      let at_open = subst (λ n. AllSet n held locks) m all in
      let at_none = subst (λ x. AllSet (open_chart c) x locks) h at_open in
      record {
        sound = sound_laid;
        accepted = subst (λ x. AllSet (open_chart c) [] x) laid.locks_same at_none;
        names = names;
        questions = questions;
        chart = (λ i. lock_meaning (table_means (same i)) (set i)) ∙ (λ i. lock_meaning (m i) (set_all (h i) (laid.locks_same i)));
        exit_lines = es ∙ laid.exits_are;
        lock_lines = ls ∙ ap length laid.locks_same;
      }

-- a fault of reading is a fault of loading
pub passed : (bytes : List ℕ) (e : ReadFault) → Refusing e (λ c at. RefusedAs bytes c at) → NotLoaded bytes (passed_on e)
passed bytes (Slip at) h = h
passed bytes NoMemory h = tt

pub load_answer : (bytes : List ℕ) (c : Content) (r : Result Loaded LoadFault) → Says bytes c → MatchResult r (λ l. LoadedFrom c l) (λ e. Unloadable c e) → IfOk r (λ l. (c : Content) × Says bytes c × LoadedFrom c l)
load_answer bytes c (Ok l) says h = (c, says, h)
load_answer bytes c (Err e) says h = tt

pub load_refusal : (bytes : List ℕ) (c : Content) (r : Result Loaded LoadFault) → Says bytes c → MatchResult r (λ l. LoadedFrom c l) (λ e. Unloadable c e) → IfErr r (λ e. NotLoaded bytes e)
load_refusal bytes c (Ok l) says h = tt
load_refusal bytes c (Err (loading.Reading at)) says h = absurd h
load_refusal bytes c (Err (loading.Chart at)) says h = (c, says, h)
load_refusal bytes c (Err (loading.Lock at)) says h = (c, says, h)
load_refusal bytes c (Err loading.NoMemory) says h = tt
