-- What the writer's functions ask and leave.
use Rattle.std.specs.Prelude.{ℕ, ◌+◌, ◌-◌, ◌≤◌, ◌≡◌, List, ◌++◌, length, replicate, T}
use Rattle.spec_fields.specs.Bits.{Bits}
use Rattle.spec_fields.specs.Refusal.{Refusal, number_of, Answer, refused, accepted}
use Rattle.text.specs.Text.{Text}
use Rattle.spec_exi.specs.Sizes.{sizes, max_stream, max_events, max_values, writer_work}
use Rattle.spec_exi.specs.Settings as format
use Rattle.spec_exi.specs.Context.{start}
use Rattle.spec_exi.specs.Writer.{Stored, WriterRoom, write_list, WriteReply, write_reply}
use Rattle.spec_exi.specs.Writer as format-writer
use Rattle.settings.specs.Meant.{numbers_of}
use Rattle.settings.specs.declared.SettingNumbers.{SettingNumbers}
use Rattle.event.specs.Cells.{events_of}
use Rattle.write_field.specs.Written.{blank_from, Put}
use Rattle.write_event.specs.Step.{max_list_bits}
use Rattle.write_run.specs.declared.Run.{Run}
use Rattle.write_run.specs.Run.{RunMeans}
use Rattle.writer.specs.declared.WriteReply as declared

-- ---- the public function

-- What is lent to the writer for writing: octets, and cells of work memory.
pub record WriterLent : Type 0 where
  pub octets : List ℕ
  pub work : List ℕ

abbrev pub lent : List ℕ → List ℕ → WriterLent
lent octets work = record { octets = octets; work = work }

-- The lengths of the lent parts.
unfoldable pub writer_room : WriterLent → WriterRoom
writer_room m = record { octets = length m.octets; work = length m.work }

-- The definitions' answer for what is lent and the list that event cells and a text store hold.
unfoldable pub answer_of : SettingNumbers → List ℕ → Text → WriterLent → Answer (List ℕ)
answer_of s events store m =
    format-writer.write (writer_room m) (numbers_of s) (events_of events) store

unfoldable pub reply_of : declared.WriteReply → WriteReply
reply_of r = record { number = r.number; index = r.index; octets = r.octets }

-- n octets: those of the answer, and zeros behind them; after a refusal zeros alone (scope,
-- "Refusal numbers").
unfoldable pub filled : ℕ → Answer (List ℕ) → List ℕ
filled n (refused k i) = replicate n 0
filled n (accepted os) = os ++ replicate (n - length os) 0

-- The reply r, and what is left of the lent parts m: m'.
pub record WritePost (s : SettingNumbers) (events : List ℕ) (store : Text) (m m' : WriterLent)
    (r : declared.WriteReply) : Type 0 where
  -- Number, index and count.
  pub reply : reply_of r ≡ write_reply (answer_of s events store m)
  -- The octets of the strict form, and zeros behind them; after a refusal zeros alone.
  pub octets : m'.octets ≡ filled (length m.octets) (answer_of s events store m)
  pub work : m'.work ≡ replicate (length m.work) 0

-- ---- before the clearing: after a refusal nothing is said of the octets

abbrev pub refused_as : ℕ → ℕ → declared.WriteReply
refused_as number index = record { number = number; index = index; octets = 0 }

-- The reply to an answer, and the octets where it is accepted.
pub record Attempted (x : Answer (List ℕ)) (stream stream' : List ℕ) (r : declared.WriteReply)
    : Type 0 where
  pub refused_as : (k : Refusal) (i : ℕ) → x ≡ refused k i
      → r ≡ refused_as (number_of k) i
  pub accepted-as : (os : List ℕ) → x ≡ accepted os
      → (r ≡ record { number = 0; index = 0; octets = length os })
      × (stream' ≡ os ++ replicate (length stream - length os) 0)

-- ---- the list

-- The octets are zeros; octets and work memory are long enough; the capacity has a meaning.
pub record PutListPre (capacity : ℕ) (stream work : List ℕ) : Type 0 where
  pub blank : T (blank_from stream 0)
  pub octets : max_stream ≤ length stream
  pub rows : writer_work ≤ length work
  pub bound : capacity ≤ max_values + 1

abbrev pub ListPut :
    format.Settings → List Stored → Text → List ℕ → List ℕ → declared.WriteReply → Type 0
ListPut s xs store stream stream' r = Attempted (write_list sizes s xs store) stream stream' r

-- ---- the events, after a header that ends at a position

pub record BodyPre (capacity : ℕ) (stream : List ℕ) (at : ℕ) (work : List ℕ) : Type 0 where
  pub blank : T (blank_from stream at)
  pub near : at ≤ 64
  pub rows : writer_work ≤ length work
  pub bound : capacity ≤ max_values + 1

-- The bits of the events before the refused one, and no others.
pub record BodyPost (s : format.Settings) (xs : List Stored) (store : Text) (stream : List ℕ)
    (at : ℕ) (stream' : List ℕ) (r : Run) : Type 0 where
  pub bits : Bits
  pub put : Put stream at bits stream' r.at
  pub near : r.at ≤ max_list_bits
  pub few : r.index ≤ max_events
  pub means : RunMeans s (start s) xs store bits r
