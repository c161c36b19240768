-- A stream that comes in pieces (P8, "The stream in packets"): what is answered to the octets so
-- far, however they were cut.
use Rattle.std.specs.Prelude.{◌≡◌, ◌∷◌, ◌++◌}
use Rattle.spec_fields.specs.{Bits.Bits, Bits.unpack, Parser.Result, Parser.bad, Parser.got}
use Rattle.spec_fields.specs.Prelude.{ℕ, zero, suc, cond, List, [], eqb}
use Rattle.spec_fields.specs.Refusal.{number_of, ended, Answer, refused, accepted}
use Rattle.text.specs.Text.{Text}
use Rattle.spec_exi.specs as Exi
use Exi.{Event.Event, Sizes.sizes, Sizes.max_events, Tables.Placed, Context.Context, Context.start}
use Exi.Settings.{Settings, SettingNumbers, settings_of, header_of}
use Exi.Reader.{Reading, step, read_header, ReaderRoom, read}

-- Nothing is read: the text store is as the context has it.
unfoldable pub nothing_yet : Context → Reading
nothing_yet c = record { events = []; store = c.tables.store }

-- One event more, before these.
unfoldable pub with_first : Event Placed → Reading → Reading
with_first e r = record { events = e ∷ r.events; store = r.store }

-- One event, and what follows by `more`.
unfoldable pub firstThen :
    Context → (Context → Bits → Reading) → Result (Event Placed × Context) → Reading
firstThen c more (bad k) = nothing_yet c
firstThen c more (got (e, d) bs) = with_first e (more d bs)

-- The first n events, and the text store with their literals.
unfoldable pub first_events : ℕ → Settings → Context → Bits → Reading
first_events zero s c bs = nothing_yet c
first_events (suc n) s c bs = firstThen c (λ d rest. first_events n s d rest) (step sizes s c bs)

-- The events after the header; none before it is whole.
unfoldable pub after_header : Settings → Result (Unit {0}) → Reading
after_header s (bad k) = nothing_yet (start s)
after_header s (got u bs) = first_events max_events s (start s) bs

-- The events that are complete in these octets, and the text store with their literals (P8).
unfoldable pub complete : Settings → List ℕ → Reading
complete s octets = after_header s (read_header (header_of s) (unpack octets))

-- Octets that end are no refusal yet: any number but ENDED is one (P8).
unfoldable pub so_far : Reading → Answer Reading → Answer Reading
so_far whole (refused k i) = cond (eqb (number_of k) (number_of ended)) (accepted whole) (refused k i)
so_far whole (accepted r) = accepted r

-- The answer after a piece, by the octets so far: that of these, read whole, or the events that are
-- complete in them (P8). The closing call's answer is `read`.
unfoldable pub receive : ReaderRoom → SettingNumbers → List ℕ → Answer Reading
receive r o octets = so_far (complete (settings_of o) octets) (read r o octets)

-- The later reading begins with the earlier one's events and text store (P8).
pub record Begins (x y : Reading) : Type 0 where
  pub events : List (Event Placed)
  pub literals : Text
  pub more : y.events ≡ x.events ++ events
  pub store : y.store ≡ x.store ++ literals
