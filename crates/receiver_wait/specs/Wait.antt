-- What passing over awaited code points, and finding them, ask and leave.
use Rattle.std.specs.Prelude.{ℕ, ◌*◌, ◌≤◌, ◌<◌, ◌≡◌, List, length, drop}
use Rattle.spec_fields.specs.Bits.{unpack}
use Rattle.spec_fields.specs.Refusal.{number_of, ended}
use Rattle.spec_exi.specs.Settings.{Settings}
use Rattle.spec_exi.specs.Sizes.{sizes, max_stream, max_string}
use Rattle.spec_exi.specs.Reader.{read_character, step}
use Rattle.mem_layout.specs.Layout.{work_cells}
use Rattle.mem_rows.specs.Rows.{Rows}
use Rattle.mem_state.specs.declared.Core.{Core}
use Rattle.mem_state.specs.Holds.{in_store, Bounded, Topped, Represents, context_at}
use Rattle.read_contract.specs.Outcome.{Declined}
use Rattle.read_literal.specs.Awaits.{Awaits}
use Rattle.receiver_record.specs.declared.Wait.{Wait}

pub record StillPre (held : List ℕ) (n at : ℕ) : Type 0 where
  pub size : n ≤ max_stream
  pub kept : n ≤ length held
  pub place : at ≤ 8 * n

pub record CutPre (held : List ℕ) (n : ℕ) (work : List ℕ) (c : Core) : Type 0 where
  pub size : n ≤ max_stream
  pub kept : n ≤ length held
  pub place : c.at ≤ 8 * n
  pub rows : work_cells ≤ length work
  pub bounded : Bounded c

-- The octets end, the header is read, and where octets end in the step after the core, it is cut
-- among code points.
pub record CutIn (s : Settings) (stream work : List ℕ) (number : ℕ) (c : Core) (r : Wait) : Type 0
  where
    pub ends : number ≡ number_of ended
    pub begun : 0 < c.at
    pub cut : (text : List ℕ) (w : Rows) (opened : List ℕ)
        → Represents work (in_store text c.stored) c w opened → Topped c opened
        → Declined (step sizes s (context_at text c w opened)) stream c.at (number_of ended)
        → Awaits (read_character s) (step sizes s (context_at text c w opened))
        (drop c.at (unpack stream)) (drop r.at (unpack stream)) r.left

pub record CutPost (s : Settings) (stream work : List ℕ) (number : ℕ) (c : Core) (r : Wait) : Type 0
  where
    pub inside : r.at ≤ 8 * length stream
    pub few : r.left ≤ max_string
    pub cut : 0 < r.left → CutIn s stream work number c r
