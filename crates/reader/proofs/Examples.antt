-- Memory represents the context after K7's first reading.
use Prim.Native.Nat.{ℕ, zero, suc, ◌+◌, ◌≤◌}
use native.Mathlib.Omega.{arith}
use mathlib.Core.Path.{◌≡◌, refl, sym, ap, ◌∙◌}
use mathlib.Core.Bool.{false}
use mathlib.Core.List.{List}
use lib.ListN.{length, drop}
use Rattle.spec_fields.specs.Bits.{Bits, unpack}
use Rattle.spec_fields.specs.Parser.{Result, bad, got}
use Rattle.spec_exi.specs.Settings.{Settings}
use Rattle.spec_exi.specs.Sizes.{sizes, max_events, max_store, reader_work}
use Rattle.spec_exi.specs.Event.{Event}
use Rattle.spec_exi.specs.Tables.{Placed}
use Rattle.spec_exi.specs.Grammar.{is_finished}
use Rattle.spec_exi.specs.Context.{Context, start, context_after}
use Rattle.spec_exi.specs.Reader.{step}
use Rattle.spec_exi.specs.Packets as packets
use Rattle.spec_exi.proofs.Definitions.{definitions}
use Rattle.mem_layout.specs.Layout.{work_cells}
use Rattle.mem_state.specs.Holds.{in_store, Represents, Topped, context_at}
use Rattle.mem_initial.specs.Initial.{zeroed, with_text, with_rows, start_at, start_rows}
use Rattle.mem_initial.proofs.Initial.{store-sourced, counts_zero, zeroed-size, start-represents}
use Rattle.mem_initial.proofs.Initial.{start-topped, BoundsOf, start-means}
use Rattle.grammar_open.specs.Opened.{last_first, none_open, opened_in}
use Rattle.read_body.specs.read_run.declared.Advanced.{Advanced}
use Rattle.read_body.specs.read_run.Events.{Steps, none_read, one-read}
use Rattle.read_body.specs.read_run.Run.{Running, AdvancePost}
use Rattle.read_body.proofs.read_run.Answers.{Answers, running-answers}
use Rattle.reader.specs.Read.{ReadStreamPre}
use Rattle.reader.specs.Examples.{first_reading, first_events, as_octets, Stands, FirstReading}
use Rattle.reader.proofs.Start.{text-asks}

-- ---- by the definitions

-- The context after n steps.
unfoldable pick : Context → (Context → Bits → Context) → Result (Event Placed × Context) → Context
pick c more (bad k) = c
pick c more (got (e, d) bs) = more d bs

unfoldable reached : ℕ → Settings → Context → Bits → Context
reached zero s c bs = c
reached (suc n) s c bs = pick c (λ d rest. reached n s d rest) (step sizes s c bs)

steps-reach : {s : Settings} {c d : Context} {bs rest : Bits} {es : List (Event Placed)}
    → Steps s c bs es d rest → reached (length es) s c bs ≡ d
unfolding reached pick
steps-reach none_read = refl
steps-reach (one-read e h) = rw e (steps-reach h)

abbrev bits : Bits
bits = drop 8 (unpack first_reading)

five-complete : length (packets.first_events max_events as_octets (start as_octets) bits).events ≡ 5
unfolding definitions first_reading as_octets
five-complete = refl

five-reach : reached 5 as_octets (start as_octets) bits
    ≡ context_after as_octets (start as_octets) first_events
unfolding definitions first_reading first_events as_octets reached pick
five-reach = refl

not-over : is_finished (start as_octets).state ≡ false
unfolding definitions as_octets
not-over = refl

-- No bound is set for values.
unbounded : BoundsOf as_octets 0 0
unfolding definitions as_octets
unbounded = record { longest-is = refl; capacity-is = refl }

-- ---- in memory

module _ {events text work events' text' work' : List ℕ} {r : Advanced}
    (h : ReadStreamPre first_reading events text work)
    (p : AdvancePost as_octets first_reading events (with_text text 0)
    (with_rows (zeroed work) 0) (none_open (start_at 8 0 0)) 0 events' text' work' r) where
  room : work_cells ≤ length work
  unfolding reader_work
  room = h.rows

  represents : Represents (with_rows (zeroed work) 0)
      (in_store (with_text text 0) (none_open (start_at 8 0 0)).core.stored) (none_open (start_at 8 0 0)).core
      (start_rows 0 0) (opened_in (none_open (start_at 8 0 0)))
  unfolding none_open last_first start_at
  represents =
      start-represents (zeroed work) (omega (arith, room, zeroed-size work room))
      (counts_zero work room) (store-sourced text (text-asks h)) 8 0 0

  topped : Topped (none_open (start_at 8 0 0)).core (opened_in (none_open (start_at 8 0 0)))
  unfolding none_open last_first start_at
  topped = start-topped 8 0 0

  late : (none_open (start_at 8 0 0)).core.tag ≤ 0 + 1
  unfolding none_open start_at
  late = omega arith

  abbrev begun : Context
  begun = context_at (with_text text 0) (none_open (start_at 8 0 0)).core (start_rows 0 0)
      (opened_in (none_open (start_at 8 0 0)))

  begins : begun ≡ start as_octets
  unfolding none_open last_first start_at
  begins = start-means text 8 unbounded

  abbrev onward : Bits
  onward = drop (none_open (start_at 8 0 0)).core.at (unpack first_reading)

  bits_are : onward ≡ bits
  unfolding none_open start_at
  bits_are = refl

  abbrev run : Running as_octets first_reading events (with_text text 0) (none_open (start_at 8 0 0)) 0
      (start_rows 0 0) events' text' work' r.state r.index
  run = p.progress.meant (start_rows 0 0) represents topped late

  open-still : is_finished begun.state ≡ false
  open-still = ap (λ c. is_finished c.state) begins ∙ not-over

  abbrev left : Context
  left = context_at text' r.state.core run.rows (opened_in r.state)

  complete-are : packets.first_events max_events as_octets begun onward
      ≡ record { events = run.es; store = left.tables.store }
  complete-are = (running-answers p represents topped late none_read refl open-still).first

  five : length run.es ≡ 5
  five =
      ap (λ x. length x.events) (sym complete-are)
      ∙ ap (λ c. length (packets.first_events max_events as_octets c onward).events) begins
      ∙ ap (λ bs. length (packets.first_events max_events as_octets (start as_octets) bs).events) bits_are
      ∙ five-complete

  context : left ≡ context_after as_octets (start as_octets) first_events
  context =
      sym (steps-reach run.read)
      ∙ ap (λ n. reached n as_octets begun onward) five
      ∙ ap (λ c. reached 5 as_octets c onward) begins
      ∙ ap (λ bs. reached 5 as_octets (start as_octets) bs) bits_are
      ∙ five-reach

  stands : Stands text' work' r
  stands =
      record {
        read = omega (arith, run.count, five);
        rows = run.rows;
        represents = run.after;
        context = context;
      }

pub first-reading : FirstReading
first-reading = record { stands = stands }
