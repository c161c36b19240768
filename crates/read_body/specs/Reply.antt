-- The reply to the definitions' answer, and the cells that an answer fills.
use Rattle.std.specs.Prelude.{ℕ, ◌-◌, ◌≡◌, List, ◌++◌, length, replicate}
use Rattle.spec_fields.specs.Refusal.{Answer, refused, accepted}
use Rattle.spec_exi.specs.Reader.{Reading, ReadReply, read_reply}
use Rattle.event.specs.Cells.{cells_of_all}
use Rattle.std.specs.Prelude as std
use Rattle.read_body.specs.declared.Counts.{Counts}
use Rattle.read_body.specs.declared.Stop.{Stop}

-- The number of the refusal or 0, the index of the event concerned, and the counts of events and
-- code points.
pub record BodyReply : Type 0 where
  pub number : ℕ
  pub index : ℕ
  pub events : ℕ
  pub code_points : ℕ

-- What the code answers.
abbrev pub body_in : std.Result Counts Stop → BodyReply
body_in (std.Ok c) =
    record { number = 0; index = 0; events = c.events; code_points = c.code_points }
body_in (std.Err x) = record { number = x.number; index = x.index; events = 0; code_points = 0 }

-- The numbers of the code's reply.
unfoldable pub reply_of : BodyReply → ReadReply
reply_of r =
    record {
      number = r.number;
      index = r.index;
      events = r.events;
      code_points = r.code_points;
    }

-- n cells: the answered events, and zeros behind them; after a refusal zeros alone (scope,
-- "Refusal numbers").
unfoldable pub events_filled : ℕ → Answer Reading → List ℕ
events_filled n (refused k i) = replicate n 0
events_filled n (accepted r) =
    cells_of_all r.events ++ replicate (n - length (cells_of_all r.events)) 0

-- n cells: the answered text store, and zeros behind it; after a refusal zeros alone.
unfoldable pub text_filled : ℕ → Answer Reading → List ℕ
text_filled n (refused k i) = replicate n 0
text_filled n (accepted r) = r.store ++ replicate (n - length r.store) 0

-- The reply to an answer, and the cells where it is accepted.
pub record Attempted (x : Answer Reading) (events text events' text' : List ℕ)
    (r : BodyReply) : Type 0 where
  pub reply : reply_of r ≡ read_reply x
  pub cells : r.number ≡ 0 → events' ≡ events_filled (length events) x
  pub store : r.number ≡ 0 → text' ≡ text_filled (length text) x

-- The reply, and all cells.
pub record Filled (x : Answer Reading) (events text events' text' : List ℕ)
    (r : BodyReply) : Type 0 where
  pub reply : reply_of r ≡ read_reply x
  pub cells : events' ≡ events_filled (length events) x
  pub store : text' ≡ text_filled (length text) x

-- The code's refusal.
abbrev pub refused_as : ℕ → ℕ → Stop
refused_as number index = record { number = number; index = index }

-- The code's reply to a refusal.
unfoldable pub refusal_of : ℕ → ℕ → BodyReply
refusal_of number index = record { number = number; index = index; events = 0; code_points = 0 }
