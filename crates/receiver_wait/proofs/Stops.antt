-- Where the next event is refused at once, the answer is that of the definitions.
use Prim.Native.Nat.{ℕ, ◌*◌, ◌<◌}
use mathlib.Core.Path.{◌≡◌, refl}
use mathlib.Core.List.{List, []}
use native.Mathlib.Omega.{arith}
use Rattle.spec_exi.specs.Settings.{Settings}
use Rattle.spec_exi.specs.Sizes.{sizes, max_events}
use Rattle.spec_exi.specs.Reader.{step}
use Rattle.event.specs.Cells.{cells_of_all}
use Rattle.event_code.specs.Numbers.{is_over}
use Rattle.grammar_open.specs.declared.State.{State}
use Rattle.read_contract.specs.Outcome.{Declined}
use Rattle.read_literal.proofs.Store.{laid_none}
use Rattle.receiver_read.specs.read_run.declared.Advanced.{Advanced}
use Rattle.receiver_read.specs.read_run.Events.{none_read}
use Rattle.receiver_read.specs.read_run.Run.{AdvancePre, AdvancePost, Progress}
use Rattle.receiver_read.specs.On.{HeaderPost, InContext, OnPost}
use Rattle.receiver_read.proofs.On.{events-stop}

module _ (s : Settings) {stream events text work : List ℕ} {st : State} {first : ℕ}
    (pre : AdvancePre stream events text work st first) where
  no-progress : Progress s stream events text work st first events text work st first
  unfolding cells_of_all
  no-progress =
      record {
        bounded = pre.bounded;
        array = pre.array;
        inside = pre.place;
        from = omega arith;
        up_to = pre.few;
        events-laid = record { cells = []; size = omega arith; is = laid_none events (9 * first) };
        text-laid = record {
          x = [];
          cleared = 0;
          grows = omega arith;
          room = omega (arith, pre.bounded.stored);
          is = laid_none text st.core.stored;
        };
        work-size = refl;
        meant = λ w a b d.
            record {
              es = [];
              count = omega arith;
              rows = w;
              after = a;
              topped = b;
              late = d;
              read = none_read;
              cells = laid_none events (9 * first);
            };
      }

  module _ (going : st.core.mode ≡ is_over → ⊥) (few : first < max_events) (begun : 0 < st.core.at)
      (number : ℕ) (some : 0 < number)
      (next : InContext text work st first
      (λ c. Declined (step sizes s c) stream st.core.at number)) where
    abbrev stopped : Advanced
    stopped = record { number = number; index = first; state = st }

    refuses : AdvancePost s stream events text work st first events text work stopped
    refuses =
        record {
          progress = no-progress;
          over = λ z. absurd (omega arith);
          going = λ _. going;
          full = λ _ e. absurd (omega arith);
          refused = λ _ _. record { next = next };
        }

    header : HeaderPost s stream st.core.at (record { number = 0; at = st.core.at })
    header = record { unread = λ z. absurd (omega arith); done = λ _. refl }

    pub stops-there : OnPost s stream events text work st first events text work stopped
    stops-there = events-stop pre header refl refuses (λ z. absurd (omega arith))
