-- A receiver's record, what is lent beside it, and what a call leaves of both.
use Rattle.std.specs.Prelude.{ℕ, ◌≡◌, List, length, replicate}
use Rattle.settings.specs.declared.SettingNumbers.{SettingNumbers}
use Rattle.mem_initial.specs.Initial.{start_at}
use Rattle.grammar_open.specs.Opened.{none_open}
use Rattle.reader.specs.declared.ReadReply.{ReadReply}
use Rattle.receiver_record.specs.declared.Receiver.{Receiver}
use Rattle.receiver_record.specs.declared.Memory.{Memory}
use Rattle.receiver_record.specs.declared.Handed.{Handed}

-- ---- the record

-- The phases by their numbers.
abbrev pub is_started : ℕ
is_started = 0

abbrev pub going_on : ℕ
going_on = 1

abbrev pub is_refused : ℕ
is_refused = 2

abbrev pub is_closed : ℕ
is_closed = 3

-- The reply of a refusal, with its number and index.
unfoldable pub refusal_at : ℕ → ℕ → ReadReply
refusal_at number index =
    record { number = number; index = index; events = 0; code_points = 0 }

unfoldable pub started_with : SettingNumbers → Receiver
started_with s =
    record {
      settings = s;
      phase = is_started;
      octets = 0;
      reply = refusal_at 0 0;
      state = none_open (start_at 0 s.value_length s.value_capacity);
      wait = record { at = 0; left = 0 };
    }

-- The record in a phase, after n octets, with a reply. The rest is as it was.
abbrev pub with_reply : Receiver → ℕ → ℕ → ReadReply → Receiver
with_reply r phase n y =
    record {
      settings = r.settings;
      phase = phase;
      octets = n;
      reply = y;
      state = r.state;
      wait = r.wait;
    }

-- ---- what is lent

-- The octets that are held, event cells, text store, work memory.
pub record Lent : Type 0 where
  pub held : List ℕ
  pub events : List ℕ
  pub text : List ℕ
  pub work : List ℕ

abbrev pub lent : List ℕ → List ℕ → List ℕ → List ℕ → Lent
lent held events text work =
    record { held = held; events = events; text = text; work = work }

-- What the parts hold.
abbrev pub lent_in : Memory → Lent
lent_in m = lent m.held.now m.events.now m.text.now m.work.now

-- Each part is the same memory after a call as before it.
abbrev pub SameParts : Memory → Memory → Type 0
SameParts m m' =
    (m'.held.ghost_name ≡ m.held.ghost_name) × (m'.events.ghost_name ≡ m.events.ghost_name)
    × (m'.text.ghost_name ≡ m.text.ghost_name) × (m'.work.ghost_name ≡ m.work.ghost_name)

abbrev pub zeros : List ℕ → List ℕ
zeros l = replicate (length l) 0

-- All that is lent, cleared (scope, "Refusal numbers").
unfoldable pub cleared : Lent → Lent
cleared m = lent (zeros m.held) (zeros m.events) (zeros m.text) (zeros m.work)

-- ---- what a call leaves

pub record Left : Type 0 where
  pub receiver : Receiver
  pub lent : Lent
  pub reply : ReadReply

abbrev pub left : Receiver → Lent → ReadReply → Left
left r m y = record { receiver = r; lent = m; reply = y }

-- What a function answers, and the memory that it leaves.
abbrev pub handed : Handed → Lent → Left
handed f m = left f.receiver m f.reply
