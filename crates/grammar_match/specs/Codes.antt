-- What is known of an event's code in the definitions: which it is, and what the event teaches.
use Rattle.std.specs.Prelude.{ℕ, ◌≤◌, ◌≡◌, cond, List}
use Rattle.std.proofs.Math.Option.{Option, none, some}
use Rattle.text.specs.Text.{Text}
use Rattle.spec_exi.specs.Event.{QName, Event, kind_of}
use Rattle.spec_exi.specs.Settings.{Settings}
use Rattle.spec_exi.specs.Tables.{Placed}
use Rattle.spec_exi.specs.Grammar.{Code, taught}
use Rattle.event_code.specs.Numbers.{teaches_in, in_fragment}
use Rattle.mem_rows.specs.Rows.{Rows}
use Rattle.grammar_match.specs.Here.{learned_here, code_here}

module _ (s : Settings) (w : Rows) (store : Text) (mode : ℕ) (opened : List ℕ) where
  -- By a learned production, which teaches nothing.
  pub record Strict (x : Code) (e : Event Text) : Type 0 where
    pub is : code_here s w store mode opened e ≡ some x
    pub untaught : (q : Option (QName Placed))
        → taught (learned_here w mode opened) x (kind_of e) q ≡ none

  -- By another, where no learned one fits. What it teaches counts where something is learned.
  pub record Unlearned (kind : ℕ) (x : Code) (e : Event Text) : Type 0 where
    pub is : code_here s w store mode opened e ≡ some x
    pub taught-is : in_fragment ≤ mode → (q : Option (QName Placed))
        → taught (learned_here w mode opened) x (kind_of e) q
        ≡ cond (teaches_in mode kind) (some (record { kind = kind_of e; qname = q })) none
