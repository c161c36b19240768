-- What is proved of a stream that comes in pieces, however it is cut: the answer after a piece goes
-- by the octets so far alone, and only grows; the closing call's is `read`.
use Rattle.std.specs.Prelude.{◌≤◌, ◌<◌, ◌≡◌, ◌↔◌, ◌++◌}
use Rattle.spec_fields.specs.Prelude.{ℕ, not, List, length, T}
use Rattle.spec_fields.specs.Refusal.{Refusal, room, settings, long, ended, refused, accepted}
use Rattle.spec_exi.specs.Settings.{SettingNumbers, meaningful, settings_of}
use Rattle.spec_exi.specs.Sizes.{sizes, max_stream}
use Rattle.spec_exi.specs.Reader.{Reading, ReaderRoom, enough_to_read, read}
use Rattle.spec_exi.specs.Packets.{receive, Begins}
use Rattle.theorems.specs.Claims.{Lookup}

pub record InPieces (r : ReaderRoom) (o : SettingNumbers) (octets : List ℕ) : Type 0 where
  -- A piece is refused where the octets so far, read whole, are refused by any number but ENDED.
  pub refused-alike : (k : Refusal) (i : ℕ) → (receive r o octets ≡ refused k i)
      ↔ ((read r o octets ≡ refused k i) × (k ≡ ended → ⊥))
  -- It stays refused. Past the longest stream it is LONG, if not ROOM or SETTINGS.
  pub stays-refused : (more : List ℕ) (k : Refusal) (i : ℕ) → length (octets ++ more) ≤ max_stream
      → receive r o octets ≡ refused k i → receive r o (octets ++ more) ≡ refused k i
  pub no_room : T (not (enough_to_read sizes r)) → receive r o octets ≡ refused room 0
  pub no-meaning : T (enough_to_read sizes r) → T (not (meaningful o))
      → receive r o octets ≡ refused settings 0
  pub too_long : T (enough_to_read sizes r) → T (meaningful o) → max_stream < length octets
      → receive r o octets ≡ refused long 0
  -- Else the complete events are shown: i where the octets are ENDED at event i.
  pub accepted-alike : (x : Reading) → read r o octets ≡ accepted x
      → receive r o octets ≡ accepted x
  pub counted : (i : ℕ) → read r o octets ≡ refused ended i
      → (x : Reading) × (receive r o octets ≡ accepted x) × (length x.events ≡ i)
  pub grows : (more : List ℕ) (x y : Reading) → receive r o octets ≡ accepted x
      → receive r o (octets ++ more) ≡ accepted y → Begins x y
  -- Their strings are in the store so far, and no literal of another event is.
  pub lookup : (x : Reading) → receive r o octets ≡ accepted x → Lookup (settings_of o) x
