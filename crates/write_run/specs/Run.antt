-- What writing the events of a list asks and leaves.
use Rattle.std.specs.Prelude.{ℕ, ◌+◌, ◌*◌, ◌≤◌, ◌<◌, ◌≡◌, Bool, List, length, take, T}
use Rattle.spec_fields.specs.Bits.{Bits}
use Rattle.spec_fields.specs.Refusal.{Refusal, number_of, refused, accepted}
use Rattle.text.specs.Text.{Text}
use Rattle.spec_exi.specs.Settings.{Settings}
use Rattle.spec_exi.specs.Sizes.{sizes, max_events, max_open}
use Rattle.spec_exi.specs.Context.{Context}
use Rattle.spec_exi.specs.Writer.{Stored, write_events}
use Rattle.spec_exi.specs.Alike.{Alike}
use Rattle.mem_layout.specs.Layout.{work_cells}
use Rattle.mem_rows.specs.Rows.{Rows}
use Rattle.mem_state.specs.declared.Core.{Core}
use Rattle.mem_state.specs.declared.Strings.{Strings}
use Rattle.mem_state.specs.declared.Growth.{Growth}
use Rattle.mem_state.specs.Commit.{joined_strings, grown}
use Rattle.mem_state.specs.Holds.{Bounded, Topped}
use Rattle.grammar_update.specs.After.{core_after}
use Rattle.grammar_open.specs.declared.State.{State}
use Rattle.grammar_open.specs.Opened.{opened_in, with_top}
use Rattle.write_field.specs.Written.{blank_from, Put}
use Rattle.write_qname.specs.Premise.{context_in}
use Rattle.write_event.specs.Step.{max_event_bits, RowBounds, Stands}
use Rattle.write_run.specs.declared.Run.{Run}
use Rattle.write_run.specs.Events.{Steps}

abbrev pub stopped_as : ℕ → ℕ → ℕ → Run
stopped_as number index at = record { number = number; index = index; at = at }

-- Bounds alone; no event is written yet.
pub record RunPre (stream work : List ℕ) (st : State) : Type 0 where
  pub blank : T (blank_from stream st.core.at)
  pub near : st.core.at ≤ 64
  pub rows : work_cells ≤ length work
  pub bounded : Bounded st.core
  pub array : length st.opened ≡ max_open
  pub tag : st.core.tag ≤ 1

-- ---- on every memory

-- So many events join memory one after the other, each with its strings and its growth in rows
-- after the others, and no other cell is written; after each the top is set.
pub data Joins (fragment : Bool) : Core → List ℕ → ℕ → Core → List ℕ → Type 0 where
  none-joined : {c : Core} {work : List ℕ} → Joins fragment c work 0 c work
  one-joined : {c d : Core} {work mid : List ℕ} {n : ℕ} (s : Strings) (g : Growth)
      (at stored top : ℕ) → Joins fragment c work n d mid → Bounded d → RowBounds d s g stored
      → Joins fragment c work (n + 1) (with_top (core_after fragment d at stored s g n) top)
      (grown d g (joined_strings d s mid))

-- ---- by the definitions

-- The first n events are written: their bits, and the context that they leave, which memory stands
-- for up to the places of strings.
pub record Running (s : Settings) (opening : List ℕ) (xs : List Stored) (text : Text) (st : State)
    (w : Rows) (bits : Bits) (work' : List ℕ) (t : State) (n : ℕ) : Type 0 where
  pub reached : Context
  pub written : Steps s text (context_in st.core w (opened_in st)) (take n xs) bits reached
  pub rows : Rows
  pub after : Stands opening text work' t.core rows (opened_in t)
  pub topped : Topped t.core (opened_in t)
  pub context : Alike reached (context_in t.core rows (opened_in t))

-- n events of the list are written, and t is the state after them.
pub record Progress (s : Settings) (opening : List ℕ) (xs : List Stored) (text : Text)
    (stream work : List ℕ) (st : State) (stream' work' : List ℕ) (t : State) (n : ℕ) : Type 0 where
  pub bits : Bits
  pub put : Put stream st.core.at bits stream' t.core.at
  pub near : t.core.at ≤ 64 + max_event_bits * n
  pub bounded : Bounded t.core
  pub array : length t.opened ≡ max_open
  pub few : n ≤ max_events
  pub listed : n ≤ length xs
  pub work-size : length work' ≡ length work
  pub late : t.core.tag ≤ n + 1
  pub joins : Joins s.fragment st.core work n t.core work'
  pub meant : (w : Rows) → Stands opening text work st.core w (opened_in st)
      → Topped st.core (opened_in st) → Running s opening xs text st w bits work' t n

-- By the definitions' answer for the events from a context on: a refusal's number and index, or the
-- bits of all.
pub record RunMeans (s : Settings) (c : Context) (xs : List Stored) (text : Text) (bits : Bits)
    (r : Run) : Type 0 where
  pub refused_as : (k : Refusal) (i : ℕ) → write_events max_events sizes s c text xs ≡ refused k i
      → (r.number ≡ number_of k) × (r.index ≡ i)
  pub accepted-as : (bs : Bits) → write_events max_events sizes s c text xs ≡ accepted bs
      → (r.number ≡ 0) × (r.index ≡ 0) × (bs ≡ bits)

-- After a refusal too: the events before it, all of them where none is refused, are written, and
-- nothing else is.
pub record RunPost (s : Settings) (opening : List ℕ) (xs : List Stored) (text : Text)
    (stream work : List ℕ) (st : State) (stream' work' : List ℕ) (r : Run) : Type 0 where
  pub state : State
  pub count : ℕ
  pub progress : Progress s opening xs text stream work st stream' work' state count
  pub at : r.at ≡ state.core.at
  pub over : r.number ≡ 0 → (r.index ≡ 0) × (count ≡ length xs)
  pub refused : 0 < r.number → r.index ≡ count
  pub meant : (w : Rows) → Stands opening text work st.core w (opened_in st)
      → Topped st.core (opened_in st)
      → RunMeans s (context_in st.core w (opened_in st)) xs text progress.bits r
