-- The record at the start.
use mathlib.Core.Path.{◌≡◌}
use Rattle.settings.specs.declared.SettingNumbers.{SettingNumbers}
use Rattle.mem_state.specs.declared.Core.{Core}
use Rattle.mem_initial.specs.Initial.{start_at}
use Rattle.grammar_open.specs.declared.State.{State}
use Rattle.grammar_open.specs.Opened.{none_open}
use Rattle.receiver_record.specs.declared.Receiver.{Receiver}
use Rattle.receiver_record.specs.Record.{is_started, refusal_at, started_with}

pub starts : (s : SettingNumbers) {c : Core} {t : State}
    → c ≡ start_at 0 s.value_length s.value_capacity → t ≡ none_open c
    → ◌≡◌ {A = Receiver}
    (record {
      settings = s;
      phase = is_started;
      octets = 0;
      reply = record { number = 0; index = 0; events = 0; code_points = 0 };
      state = t;
      wait = record { at = 0; left = 0 };
    })
    (started_with s)
unfolding started_with refusal_at
starts s e f = rw (f, e)
